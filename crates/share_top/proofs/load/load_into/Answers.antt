use Rattle.std.proofs.Common.{◌-◌, List, ℕ, ap, inl, rules}
use Rattle.share_top.specs.Changes.{input_change, output_change}
use Rattle.share_top.specs.Sessions.{WritesFrontOf}
use Rattle.share_top.proofs.LoadRuns.{with_line}
use Rattle.share_top.proofs.load.load_into.Goals as goal

pub returns-in-Err-Write-clause-loaded : goal.returns-in-Err-Write-clause-loaded
returns-in-Err-Write-clause-loaded g c = (
  search rules,
  inl (with_line g.D.Disk.seen c.args.log.now c.load_all.new.log
      (input_change g.I.Source.left g.I.Source.ended g.I.Source.faults c.args.input.now c.load_all.new.input)
      (λ (line : List ℕ). WritesFrontOf line (output_change g.O.Sink.held g.O.Sink.faults c.args.output.now c.write_loaded.new.output))
      c.len-before.result (c.len.result - c.len-before.result) c.end.result c.len-before.ensures
      (ap (λ (n : ℕ). n - c.len-before.result) c.len.ensures) c.end.ensures.end (search rules) c.in-Ok.ensures.loads),
)
