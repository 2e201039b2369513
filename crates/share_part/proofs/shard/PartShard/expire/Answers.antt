use Rattle.std.proofs.Common.{◌≡◌, ◌≤◌, ◌∙◌, ◌+◌, ap, arith, length, max, subst, sym, ℕ, [], Ok}
use Rattle.std.specs.Cmp.Lexicographic.{slice_cmp}
use Rattle.std.specs.List.{AllByRecursion}
use Rattle.std.specs.List.Sorted.{IsStrictlySortedBy}
use Rattle.std.specs.Map.{keys_of}
use Rattle.std.specs.Ordering.{nat_cmp}
use Rattle.share_model.specs.declared.visit.ExpireAnswer.TheVariants.{Done}
use Rattle.share_part.specs.Once.{ExpiresOnce, IsNothingDue}
use Rattle.share_part.specs.Releasing.{ReleasesOnce, due_groups}
use Rattle.share_part.specs.Shards.{PartParts}
use Rattle.share_part.specs.declared.settle.Whose.TheVariants.{Due}
use Rattle.lock_index.specs.Windows.{IsRising}
use Rattle.share_part.proofs.Failing.{run_then}
use Rattle.share_part.proofs.Expired.{SoFar, all_ended, begins, none_begins, one_done, one_stays}
use Rattle.share_part.proofs.shard.PartShard.expire.Goals as goal

pub returns-in_err-due-clause-once : goal.returns-in_err-due-clause-once
returns-in_err-due-clause-once g c = rw (← c.self.view_is) (none_begins g.D.Disk.seen g.W.Window.held c.args.now
    (record { conf = c.self.inside.conf; log = c.self.inside.log; states = c.self.inside.states; windows = c.self.inside.windows.entries; clock = c.self.inside.clock }) [] c.from_residual.result c.from_residual.ensures.0
    (λ nothing. c.in_err-due.ensures.some (subst (IsNothingDue g.W.Window.held c.self.inside.windows.entries) (sym c.max-clock.ensures) nothing)))

pub loop-group-init : goal.loop-group-init
loop-group-init g c = rw (← c.self.view_is) (begins g.D.Disk.seen g.W.Window.held c.args.now
    (record { conf = c.self.inside.conf; log = c.self.inside.log; states = c.self.inside.states; windows = c.self.inside.windows.entries; clock = c.self.inside.clock }) c.deref-group-items.result.now
    c.in_ok-due.ensures.ordered c.self.invariant.hosted c.self.invariant.holds
    (c.deref-group-items.ensures.value ∙ (c.in_ok-due.ensures.due ∙ ap (λ (n : ℕ). due_groups g.W.Window.held n c.self.inside.windows.entries) c.max-clock.ensures)))

pub loop-group-preserved : goal.loop-group-preserved
loop-group-preserved g c = subst (SoFar g.D.Disk.seen g.W.Window.held c.args.now c.args.self.now c.deref-group-items.result.now c.release.new.self (c.loop-group.group-index + 1)) (sym c.saturating_add-freed.ensures)
    (one_done g.D.Disk.seen g.W.Window.held c.args.now c.args.self.now c.deref-group-items.result.now
    c.loop-group.self c.release.new.self c.loop-group.group-index c.loop-group.freed c.group-item.result c.loop-group.invariant c.loop-group-test.true c.group-item.result (sym c.group-item.is) c.release.ensures.runs
    c.release.result c.in-Done.count c.in-Done.is
    (subst (λ (n : ℕ). ReleasesOnce g.D.Disk.seen g.W.Window.held n c.group-item.result (Due n) c.loop-group.self c.release.new.self c.release.result)
    (c.max-clock.ensures ∙ ap (λ (p : PartParts g.row.D.Denot g.row.W.Denot). max p.clock c.args.now) c.self.view_is) c.release.ensures.once))

pub returns-in-Store-clause-once : goal.returns-in-Store-clause-once
returns-in-Store-clause-once g c = one_stays g.D.Disk.seen g.W.Window.held c.args.now c.args.self.now c.deref-group-items.result.now
    c.loop-group.self c.release.new.self c.loop-group.group-index c.loop-group.freed c.group-item.result c.loop-group.invariant c.loop-group-test.true c.group-item.result (sym c.group-item.is) c.release.ensures.runs
    (subst (λ (p : PartParts g.row.D.Denot g.row.W.Denot). IsStrictlySortedBy (slice_cmp nat_cmp) (keys_of p.windows)) c.self.view_is c.in_ok-due.ensures.ordered)
    (subst (λ (p : PartParts g.row.D.Denot g.row.W.Denot). c.deref-group-items.result.now ≡ due_groups g.W.Window.held (max p.clock c.args.now) p.windows) c.self.view_is
    (c.deref-group-items.ensures.value ∙ (c.in_ok-due.ensures.due ∙ ap (λ (n : ℕ). due_groups g.W.Window.held n c.self.inside.windows.entries) c.max-clock.ensures)))
    (subst (λ (p : PartParts g.row.D.Denot g.row.W.Denot). AllByRecursion (λ e. IsRising (g.W.Window.held e.1)) p.windows) c.self.view_is c.in_ok-due.ensures.rising)
    c.release.result c.in-Store.fault c.in-Store.is
    (subst (λ (n : ℕ). ReleasesOnce g.D.Disk.seen g.W.Window.held n c.group-item.result (Due n) c.loop-group.self c.release.new.self c.release.result)
    (c.max-clock.ensures ∙ ap (λ (p : PartParts g.row.D.Denot g.row.W.Denot). max p.clock c.args.now) c.self.view_is) c.release.ensures.once)

pub returns-clause-once : goal.returns-clause-once
returns-clause-once g c =
    let past : length c.deref-group-items.result.now ≤ c.loop-group.group-index = omega (arith, c.loop-group-test.false) in
    subst (λ (n : ℕ). ExpiresOnce g.D.Disk.seen g.W.Window.held c.args.now c.args.self.now
    (record { conf = c.self-2.inside.conf; log = c.self-2.inside.log; states = c.self-2.inside.states; windows = c.self-2.inside.windows.entries; clock = n }) (Ok (Done c.loop-group.freed))) (sym (c.max-clock.ensures ∙ ap (λ (p : PartParts g.row.D.Denot g.row.W.Denot). max p.clock c.args.now) c.self.view_is))
    (subst (λ (p : PartParts g.row.D.Denot g.row.W.Denot). ExpiresOnce g.D.Disk.seen g.W.Window.held c.args.now c.args.self.now
    (record { conf = p.conf; log = p.log; states = p.states; windows = p.windows; clock = max c.args.self.now.clock c.args.now }) (Ok (Done c.loop-group.freed))) (sym c.self-2.view_is)
    (all_ended g.D.Disk.seen g.W.Window.held c.args.now c.args.self.now c.deref-group-items.result.now
    c.loop-group.self c.loop-group.group-index c.loop-group.freed c.loop-group.invariant past
    (subst (λ (p : PartParts g.row.D.Denot g.row.W.Denot). IsStrictlySortedBy (slice_cmp nat_cmp) (keys_of p.windows)) c.self.view_is c.in_ok-due.ensures.ordered)
    (subst (λ (p : PartParts g.row.D.Denot g.row.W.Denot). c.deref-group-items.result.now ≡ due_groups g.W.Window.held (max p.clock c.args.now) p.windows) c.self.view_is
    (c.deref-group-items.ensures.value ∙ (c.in_ok-due.ensures.due ∙ ap (λ (n : ℕ). due_groups g.W.Window.held n c.self.inside.windows.entries) c.max-clock.ensures)))
    (subst (λ (p : PartParts g.row.D.Denot g.row.W.Denot). AllByRecursion (λ e. IsRising (g.W.Window.held e.1)) p.windows) c.self.view_is c.in_ok-due.ensures.rising)))

pub returns-in-Store-clause-runs : goal.returns-in-Store-clause-runs
returns-in-Store-clause-runs g c = run_then g.D.Disk.seen
    c.args.self.now.states c.loop-group.self.states c.release.new.self.states c.loop-group.invariant.runs c.release.ensures.runs
