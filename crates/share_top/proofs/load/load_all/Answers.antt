use Rattle.std.proofs.Common.{◌≡◌, Err, Ok, true, false, rules}
use Rattle.edge_io.proofs.Runs.{runs_then}
use Rattle.share_top.specs.Changes.{input_change}
use Rattle.share_top.specs.Loads.{LoadsNext}
use Rattle.share_top.proofs.LoadRuns.{starts, goes, done, stopped}
use Rattle.share_top.proofs.load.load_all.Goals as goal

pub batches-init : goal.batches-init
batches-init g c = record {
  loaded = rw c.new-reader.ensures (starts g.D.Disk.seen c.args.log.now (g.I.Source.left c.args.input.now) c.requires);
  within = search rules;
  read = search rules;
  runs = search rules;
}

pub batches-preserved : goal.batches-preserved
batches-preserved g c =
    let l : LoadsNext g.D.Disk.seen c.batches.log c.load_next.new.log c.batches.reader c.load_next.new.reader
    (input_change g.I.Source.left g.I.Source.ended g.I.Source.faults c.batches.input c.load_next.new.input) (Ok true) = search rules in
    record {
      loaded = goes g.D.Disk.seen c.args.log.now c.batches.log (g.I.Source.left c.args.input.now) (g.I.Source.left c.batches.input) c.batches.reader
          c.batches.invariant.loaded c.load_next.new.log (g.I.Source.left c.load_next.new.input) c.load_next.new.reader l.0 l.1 l.3;
      within = l.2;
      read = search rules;
      runs = runs_then g.D.Disk.seen c.args.log.now.journal.disk
          c.batches.log.journal.disk c.load_next.new.log.journal.disk c.batches.invariant.runs c.in-Ok-true.ensures.runs;
    }

pub returns-in-Ok-false-clause-loads : goal.returns-in-Ok-false-clause-loads
returns-in-Ok-false-clause-loads g c =
    let l : LoadsNext g.D.Disk.seen c.batches.log c.load_next.new.log c.batches.reader c.load_next.new.reader
    (input_change g.I.Source.left g.I.Source.ended g.I.Source.faults c.batches.input c.load_next.new.input) (Ok false) = search rules in
    done g.D.Disk.seen c.args.log.now c.batches.log c.load_next.new.log (g.I.Source.left c.args.input.now) (g.I.Source.left c.batches.input)
    (g.I.Source.left c.load_next.new.input) c.batches.reader c.load_next.new.reader c.batches.invariant.loaded c.batches.invariant.within (g.I.Source.ended c.load_next.new.input)
    (g.I.Source.faults c.args.input.now) (g.I.Source.faults c.batches.input) (g.I.Source.faults c.load_next.new.input)
    (c.load_next.new.input ≡ c.args.input.now) (c.load_next.new.input ≡ c.batches.input)
    c.batches.invariant.read c.batches.invariant.runs.later l

pub returns-in-Err-clause-loads : goal.returns-in-Err-clause-loads
returns-in-Err-clause-loads g c =
    let l : LoadsNext g.D.Disk.seen c.batches.log c.load_next.new.log c.batches.reader c.load_next.new.reader
    (input_change g.I.Source.left g.I.Source.ended g.I.Source.faults c.batches.input c.load_next.new.input) (Err c.in-Err.stop) = c.in-Err.ensures.loads in
    stopped g.D.Disk.seen c.args.log.now c.batches.log c.load_next.new.log (g.I.Source.left c.args.input.now) (g.I.Source.left c.batches.input)
    (g.I.Source.left c.load_next.new.input) c.batches.reader c.load_next.new.reader c.batches.invariant.loaded c.batches.invariant.within (g.I.Source.ended c.load_next.new.input)
    (g.I.Source.faults c.args.input.now) (g.I.Source.faults c.batches.input) (g.I.Source.faults c.load_next.new.input)
    (c.load_next.new.input ≡ c.args.input.now) (c.load_next.new.input ≡ c.batches.input)
    c.batches.invariant.read c.batches.invariant.runs.later c.in-Err.stop l

pub returns-in-Err-clause-runs : goal.returns-in-Err-clause-runs
returns-in-Err-clause-runs g c =
    runs_then g.D.Disk.seen c.args.log.now.journal.disk
    c.batches.log.journal.disk c.load_next.new.log.journal.disk c.batches.invariant.runs c.in-Err.ensures.runs

pub returns-in-Ok-false-clause-runs : goal.returns-in-Ok-false-clause-runs
returns-in-Ok-false-clause-runs g c =
    runs_then g.D.Disk.seen c.args.log.now.journal.disk
    c.batches.log.journal.disk c.load_next.new.log.journal.disk c.batches.invariant.runs c.in-Ok-false.ensures.runs
