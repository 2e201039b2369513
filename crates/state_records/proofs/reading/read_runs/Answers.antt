use Rattle.std.proofs.Common.{None}
use Rattle.std.proofs.lemmas.Result.{err_from_is_err_and}
use Rattle.state_records.specs.Reading.{runs_at}
use Rattle.state_records.proofs.Loop.{goes_on, ends, is_done}
use Rattle.state_records.proofs.reading.read_runs.Goals as goal

pub returns-in_err-run : goal.returns-in_err-run
returns-in_err-run c =
    let p = err_from_is_err_and c.from_residual-in_err-run.result c.from_residual-in_err-run.ensures.1 in
    record {
      read = rw (p.1, p.2) (ends c.in_err-run.field-0.0 c.loop.runs.items c.args.count c.loop.counter c.loop.before c.loop.reader
          (runs_at c.args.count None c.args.reader.now) c.loop-test.true c.in_err-run.ensures c.loop.invariant);
    }

pub loop-preserved : goal.loop-preserved
loop-preserved c =
    rw c.in_ok-push.ensures.items (goes_on c.loop.runs.items c.args.count c.loop.counter c.loop.before c.loop.reader
    c.in_ok-run.run' c.read_run.new.reader (runs_at c.args.count None c.args.reader.now) c.loop-test.true c.in_ok-run.ensures c.loop.invariant)

pub returns : goal.returns
returns c = record { read = is_done c.loop.runs.items c.args.count c.loop.counter c.loop.before c.loop.reader (runs_at c.args.count None c.args.reader.now) c.loop-test.false c.loop.invariant }
