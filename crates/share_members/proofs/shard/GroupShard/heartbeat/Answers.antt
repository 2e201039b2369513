use Rattle.std.proofs.Common.{◌≡◌, sym, subst, max, rules}
use Rattle.share_members.specs.Groups.{Memberships}
use Rattle.share_members.specs.Heartbeats.{heartbeat_in}
use Rattle.share_members.specs.Whole.{AreWhole}
use Rattle.share_members.proofs.Lists.{few_parts}
use Rattle.share_members.proofs.Whole.{whole_after_heartbeat}
use Rattle.share_members.proofs.shard.GroupShard.heartbeat.Goals as goal

pub heartbeat-requires : goal.heartbeat-requires
heartbeat-requires c = rw c.as_slice.ensures.same (record {
  few = c.as_slice.ensures.few;
  parts = few_parts _ c.as_slice.ensures.list.each c.as_slice.ensures.list.few;
})

pub invariant_of-self-2 : goal.invariant_of-self-2
invariant_of-self-2 c =
    let es = c.self.inside.groups.entries in
    let old : Memberships = record { topics = c.self.inside.topics; clock = c.self.inside.clock; groups = es } in
    let request = c.args.request.now in
    let whole = whole_after_heartbeat c.args.now request old (record { order = c.self.invariant.order; each = c.self.invariant.each }) in
    let clock : c.max-moment.result ≡ max c.self.inside.clock c.args.now = search rules in
    let groups : c.heartbeat.new.groups.entries ≡ (heartbeat_in c.self.inside.topics (max c.self.inside.clock c.args.now) request es).groups = search rules in
    subst AreWhole (λ i. record { topics = c.self.inside.topics; clock = sym clock i; groups = sym groups i }) whole
