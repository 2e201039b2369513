use Rattle.broker_run.proofs.Homes.{rows_home}
use Rattle.broker_run.proofs.jobs.serve_named.Goals as goal

pub hand_out-end-requires-after_bounds : goal.hand_out-end-requires-after_bounds
hand_out-end-requires-after_bounds g c κs within =
    rows_home g.D.Disk.seen g.L.L.Link.left g.L.L.Link.held g.C.Clock.told g.B.Naming.shared c.args.shared c.requires.named c.args.passes.items
    c.requires.all.each c.requires.unused
