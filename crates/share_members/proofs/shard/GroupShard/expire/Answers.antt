use Rattle.std.proofs.Common.{◌≡◌, ◌∙◌, sym, ap, subst, length, max, arith, rules}
use Rattle.share_members.specs.Groups.{Memberships}
use Rattle.share_members.specs.Expiry.{expire_step, groups_expired, removed}
use Rattle.share_members.specs.Whole.{AreWhole}
use Rattle.share_members.proofs.Unexpired.{groups_stay}
use Rattle.share_members.proofs.Whole.{whole_after_expiry}
use Rattle.share_members.proofs.shard.GroupShard.expire.Goals as goal

pub invariant_of-self : goal.invariant_of-self
invariant_of-self c =
    let es = c.self.inside.groups.entries in
    let old : Memberships = record { topics = c.self.inside.topics; clock = c.self.inside.clock; groups = es } in
    let whole = whole_after_expiry c.args.now old (record { order = c.self.invariant.order; each = c.self.invariant.each }) in
    let clock : c.max-self-inside.result ≡ max c.self.inside.clock c.args.now = search rules in
    let groups = c.expire.ensures ∙ ap (λ moment. groups_expired moment es) clock in
    subst AreWhole (λ i. record { topics = c.self.inside.topics; clock = sym clock i; groups = sym groups i }) whole

pub returns-else-total-gt0-clause-after : goal.returns-else-total-gt0-clause-after
returns-else-total-gt0-clause-after c =
    let es = c.self.inside.groups.entries in
    let moment = c.max-self-inside.result in
    let clock : moment ≡ max c.self.inside.clock c.args.now = search rules in
    let none : removed moment es ≡ 0 = omega (arith, c.due-total.ensures, c.if-total-gt0.false) in
    let same = groups_stay (length c.self.inside.topics) moment es c.self.invariant.each none in
    let groups = sym same ∙ ap (λ moment. groups_expired moment es) clock in
    (λ i. record { topics = c.self.inside.topics; clock = clock i; groups = groups i }) ∙ ap (expire_step c.args.now) c.self.view_is
