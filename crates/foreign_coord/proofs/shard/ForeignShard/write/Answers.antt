use Rattle.std.proofs.Common.{◌≡◌, ◌∙◌, rules, sym, ap, subst, List, Some, Err}
use Rattle.std.specs.Option.{option_map}
use Rattle.share_model.specs.ForeignRules.{runs_of}
use Rattle.share_model.specs.declared.foreign.ForeignOp.TheVariants.{Write}
use Rattle.share_model.specs.declared.run.Run.{Run}
use Rattle.foreign_coord.specs.Once.{ActsOnce}
use Rattle.foreign_coord.proofs.Acting.{idle}
use Rattle.foreign_coord.proofs.Ops.{write_acts, bad_acts}
use Rattle.foreign_coord.proofs.shard.ForeignShard.write.Goals as goal

pub returns-clause-once : goal.returns-clause-once
returns-clause-once g c =
    let are : runs_of c.args.batches.now ≡ Some c.deref.result.now =
    ap runs_of (sym c.as_slice.ensures.items) ∙ (sym c.in_ok-runs.ensures ∙ (ap (option_map (λ v. v.items)) c.in-Some.is
    ∙ ap (λ (l : List Run). Some l) (sym c.deref.ensures.value))) in
    write_acts g.D.Disk.seen c.self.inside.coord c.args.self.now c.write-done.new.self c.args.key.now c.answer.result c.self.view_is
    c.write-done.result c.args.state_epoch c.args.leader_epoch c.args.start c.args.batches.now c.deref.result.now are
    c.ranges.state_epoch c.ranges.leader_epoch c.ranges.start c.answer.ensures.tells c.write-done.ensures.causes c.write-done.ensures.once c.write-done.ensures.stored

pub returns-in_default-clause-once : goal.returns-in_default-clause-once
returns-in_default-clause-once g c = bad_acts g.D.Disk.seen g.met.D.Disk.only_now
    c.args.self.now c.args.key.now c.args.state_epoch c.args.leader_epoch c.args.start c.args.batches.now c.alone.result
    (ap runs_of (sym c.as_slice.ensures.items) ∙ (sym c.in_ok-runs.ensures ∙ ap (option_map (λ v. v.items)) c.in_default.is)) c.alone.ensures

-- there was no memory for the runs
pub returns-in_err-runs-clause-once : goal.returns-in_err-runs-clause-once
returns-in_err-runs-clause-once g c =
    let op = Write c.args.key.now c.args.state_epoch c.args.leader_epoch c.args.start c.args.batches.now in
    let is : c.from_residual.result ≡ Err c.in_err-runs.field-0.0 = search rules in
    subst (ActsOnce g.D.Disk.seen op c.args.self.now c.args.self.now) (sym is)
    (idle g.D.Disk.seen g.met.D.Disk.only_now op c.args.self.now (Err c.in_err-runs.field-0.0) tt)
