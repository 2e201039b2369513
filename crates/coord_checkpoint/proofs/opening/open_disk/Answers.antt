use Rattle.std.proofs.Common.{◌∙◌, ap}
use Rattle.coord_checkpoint.proofs.Opened.{read_disk}
use Rattle.coord_checkpoint.proofs.opening.open_disk.Goals as goal

pub returns-in-Ok-clause-ok : goal.returns-in-Ok-clause-ok
returns-in-Ok-clause-ok g c =
    read_disk g.D.Disk.seen c.args.disk c.in-Ok.journal (g.V.StateVisit.seen c.new-noting.result) (g.V.StateVisit.seen c.start_each.new.visit)
    (g.V.StateVisit.seen c.finish-visit.result.0) c.finish-visit.result.1 c.last_gate-gate.result c.in-Ok.ensures.ok
    (ap g.V.StateVisit.seen c.new-noting.ensures ∙ c.requires) (ap g.V.StateVisit.seen c.finish-visit.ensures.visit) c.finish-visit.ensures.stands
    c.last_gate-gate.ensures.place c.last_gate-gate.type_inv

pub returns-in-Err-clause-recovers : goal.returns-in-Err-clause-recovers
returns-in-Err-clause-recovers g c = λ content frames place told stands. c.in-Err.ensures.recovers content frames told stands place
