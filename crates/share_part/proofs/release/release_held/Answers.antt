use Rattle.std.proofs.Common.{◌≡◌, inr, refl, sym, true, ℕ, List}
use Rattle.coord_checkpoint.specs.Disks.{HasFailed}
use Rattle.share_model.specs.ForeignRules.{share_state_at}
use Rattle.share_part.specs.Hosting.{key_of}
use Rattle.share_coord.specs.States.{states_of}
use Rattle.share_part.specs.Acknowledging.{NameOne}
use Rattle.share_part.specs.Settling.{change_of, held_after, is_chosen, releasing}
use Rattle.share_part.specs.Shards.{held_in, with_held}
use Rattle.share_part.proofs.Letting.{none_counted}
use Rattle.share_part.proofs.Releases.{change_of_group, none_of_group, one_of_group}
use Rattle.share_part.proofs.Settlement.{all_stored, granted_there, none_stored, reserved_there, start_within}
use Rattle.share_part.proofs.release.release_held.Goals as goal

pub returns-in_default-clause-count : goal.returns-in_default-clause-count
returns-in_default-clause-count g c = sym (none_counted (is_chosen c.args.whose.now) (held_in g.W.Window.held c.args.windows.now.entries c.args.group.now) c.judge_release-judged.ensures.rising
    (none_of_group c.args.conf.now.limit (is_chosen c.args.whose.now) c.args.log.now.batches (held_in g.W.Window.held c.args.windows.now.entries c.args.group.now)
    (share_state_at (states_of c.args.states.now.entries) (key_of c.args.conf.now c.args.group.now)) c.judge_release-judged.new.rows.list c.judge_release-judged.result c.in_default.is c.judge_release-judged.ensures.judged))

pub store_change-fault-requires-clause-start : goal.store_change-fault-requires-clause-start
store_change-fault-requires-clause-start g c = start_within c.args.conf.now c.args.log.now.batches c.args.group.now (releasing (is_chosen c.args.whose.now) (held_in g.W.Window.held c.args.windows.now.entries c.args.group.now)) (held_in g.W.Window.held c.args.windows.now.entries c.args.group.now) c.args.states.now
    c.requires.sound c.requires.limit.few c.requires.hosted c.requires.well (change_of c.in-Some.moved c.judge_release-judged.new.rows.list)
    (change_of_group c.args.conf.now.limit (is_chosen c.args.whose.now) c.args.log.now.batches (held_in g.W.Window.held c.args.windows.now.entries c.args.group.now)
    (share_state_at (states_of c.args.states.now.entries) (key_of c.args.conf.now c.args.group.now)) c.judge_release-judged.new.rows.list c.judge_release-judged.result c.in-Some.moved c.in-Some.is c.judge_release-judged.ensures.judged)

pub store_change-fault-requires-clause-granted : goal.store_change-fault-requires-clause-granted
store_change-fault-requires-clause-granted g c = granted_there c.args.conf.now c.args.log.now.batches c.args.group.now (releasing (is_chosen c.args.whose.now) (held_in g.W.Window.held c.args.windows.now.entries c.args.group.now)) (held_in g.W.Window.held c.args.windows.now.entries c.args.group.now) c.args.states.now
    c.requires.sound c.requires.limit.few c.requires.hosted c.requires.well (change_of c.in-Some.moved c.judge_release-judged.new.rows.list)
    (change_of_group c.args.conf.now.limit (is_chosen c.args.whose.now) c.args.log.now.batches (held_in g.W.Window.held c.args.windows.now.entries c.args.group.now)
    (share_state_at (states_of c.args.states.now.entries) (key_of c.args.conf.now c.args.group.now)) c.judge_release-judged.new.rows.list c.judge_release-judged.result c.in-Some.moved c.in-Some.is c.judge_release-judged.ensures.judged) c.key-key.result c.list.result.now c.key-key.ensures c.list.ensures.same

pub returns-in-Some-fault-clause-once : goal.returns-in-Some-fault-clause-once
returns-in-Some-fault-clause-once g c = (
  one_of_group c.args.conf.now.limit (is_chosen c.args.whose.now) c.args.log.now.batches (held_in g.W.Window.held c.args.windows.now.entries c.args.group.now)
      (share_state_at (states_of c.args.states.now.entries) (key_of c.args.conf.now c.args.group.now)) c.judge_release-judged.new.rows.list c.judge_release-judged.result c.in-Some.moved c.in-Some.is c.judge_release-judged.ensures.judged,
  none_stored c.args.conf.now c.args.log.now.batches c.args.group.now (releasing (is_chosen c.args.whose.now) (held_in g.W.Window.held c.args.windows.now.entries c.args.group.now)) (held_in g.W.Window.held c.args.windows.now.entries c.args.group.now) c.args.states.now
      c.requires.sound c.requires.limit.few c.requires.hosted c.requires.well (change_of c.in-Some.moved c.judge_release-judged.new.rows.list)
      (change_of_group c.args.conf.now.limit (is_chosen c.args.whose.now) c.args.log.now.batches (held_in g.W.Window.held c.args.windows.now.entries c.args.group.now)
      (share_state_at (states_of c.args.states.now.entries) (key_of c.args.conf.now c.args.group.now)) c.judge_release-judged.new.rows.list c.judge_release-judged.result c.in-Some.moved c.in-Some.is c.judge_release-judged.ensures.judged) c.key-key.result c.list.result.now c.key-key.ensures c.list.ensures.same
      g.D.Disk.seen (HasFailed g.D.Disk.seen) true c.store_change-fault.new.states c.store_change-fault.result c.in-Some-fault.fault c.in-Some-fault.is c.store_change-fault.ensures.once,
  λ other. refl,
)

pub returns-clause-once : goal.returns-clause-once
returns-clause-once g c = inr (
  one_of_group c.args.conf.now.limit (is_chosen c.args.whose.now) c.args.log.now.batches (held_in g.W.Window.held c.args.windows.now.entries c.args.group.now)
      (share_state_at (states_of c.args.states.now.entries) (key_of c.args.conf.now c.args.group.now)) c.judge_release-judged.new.rows.list c.judge_release-judged.result c.in-Some.moved c.in-Some.is c.judge_release-judged.ensures.judged,
  all_stored c.args.conf.now c.args.log.now.batches c.args.group.now (releasing (is_chosen c.args.whose.now) (held_in g.W.Window.held c.args.windows.now.entries c.args.group.now)) (held_in g.W.Window.held c.args.windows.now.entries c.args.group.now) c.args.states.now
      c.requires.sound c.requires.limit.few c.requires.hosted c.requires.well (change_of c.in-Some.moved c.judge_release-judged.new.rows.list)
      (change_of_group c.args.conf.now.limit (is_chosen c.args.whose.now) c.args.log.now.batches (held_in g.W.Window.held c.args.windows.now.entries c.args.group.now)
      (share_state_at (states_of c.args.states.now.entries) (key_of c.args.conf.now c.args.group.now)) c.judge_release-judged.new.rows.list c.judge_release-judged.result c.in-Some.moved c.in-Some.is c.judge_release-judged.ensures.judged) c.key-key.result c.list.result.now c.key-key.ensures c.list.ensures.same
      g.D.Disk.seen (HasFailed g.D.Disk.seen) true c.store_change-fault.new.states c.store_change-fault.result c.in_default-fault.is c.store_change-fault.ensures.once,
  c.end_released.ensures.held,
)

pub store_change-fault-requires-clause-reserved : goal.store_change-fault-requires-clause-reserved
store_change-fault-requires-clause-reserved g c =
    let found = change_of_group c.args.conf.now.limit (is_chosen c.args.whose.now) c.args.log.now.batches (held_in g.W.Window.held c.args.windows.now.entries c.args.group.now)
    (share_state_at (states_of c.args.states.now.entries) (key_of c.args.conf.now c.args.group.now)) c.judge_release-judged.new.rows.list c.judge_release-judged.result c.in-Some.moved c.in-Some.is c.judge_release-judged.ensures.judged in
    reserved_there c.args.conf.now c.args.log.now.batches c.args.group.now (releasing (is_chosen c.args.whose.now) (held_in g.W.Window.held c.args.windows.now.entries c.args.group.now)) (held_in g.W.Window.held c.args.windows.now.entries c.args.group.now) c.args.states.now
    c.requires.sound c.requires.limit.few c.requires.hosted c.requires.well (change_of c.in-Some.moved c.judge_release-judged.new.rows.list) found
    c.key-key.result c.list.result.now c.key-key.ensures c.list.ensures.same
    (c.judge_release-judged.ensures.canonical c.in-Some.moved c.in-Some.is found.0 found.1) c.args.states.now.room c.requires.room
