use Rattle.std.proofs.Common.{◌≡◌, inr, refl, subst, ℕ, List, Option}
use Rattle.coord_checkpoint.specs.Disks.{HasFailed}
use Rattle.coord_checkpoint.specs.Writes.{StaysOn}
use Rattle.share_model.specs.declared.fault.StoreFault.{StoreFault}
use Rattle.share_part.specs.Storing.{answer_of}
use Rattle.part_log.specs.Logs.{log_in}
use Rattle.share_model.specs.ForeignRules.{share_state_at}
use Rattle.share_part.specs.Foreseeing.{JudgesGiven}
use Rattle.share_part.specs.Hosting.{key_of}
use Rattle.share_part.specs.Named.{named_from}
use Rattle.share_coord.specs.States.{states_of}
use Rattle.share_part.specs.Settling.{change_of, held_after}
use Rattle.share_part.specs.Shards.{held_in, with_held}
use Rattle.share_part.proofs.Settlement.{all_stored, granted_there, none_stored, reserved_there, start_within}
use Rattle.share_part.proofs.Within.{acks_within, still_within}
use Rattle.share_part.proofs.acks.settle_given.Goals as goal

pub store_change-fault-requires-clause-start : goal.store_change-fault-requires-clause-start
store_change-fault-requires-clause-start g c =
    let j = subst (JudgesGiven c.args.conf.now.limit c.args.log.now.start c.args.member.now c.args.batches.now c.args.log.now.batches (held_in g.W.Window.held c.args.windows.now.entries c.args.group.now)
    (share_state_at (states_of c.args.states.now.entries) (key_of c.args.conf.now c.args.group.now)) c.args.rows.now.list) c.in-Changes.is c.requires.judged in
    start_within c.args.conf.now c.args.log.now.batches c.args.group.now (named_from c.args.log.now.start c.args.batches.now) (held_in g.W.Window.held c.args.windows.now.entries c.args.group.now) c.args.states.now
    c.requires.sound c.requires.limit.few c.requires.hosted c.requires.well (change_of c.in-Changes.moved c.args.rows.now.list) j.3

pub store_change-fault-requires-clause-granted : goal.store_change-fault-requires-clause-granted
store_change-fault-requires-clause-granted g c =
    let j = subst (JudgesGiven c.args.conf.now.limit c.args.log.now.start c.args.member.now c.args.batches.now c.args.log.now.batches (held_in g.W.Window.held c.args.windows.now.entries c.args.group.now)
    (share_state_at (states_of c.args.states.now.entries) (key_of c.args.conf.now c.args.group.now)) c.args.rows.now.list) c.in-Changes.is c.requires.judged in
    granted_there c.args.conf.now c.args.log.now.batches c.args.group.now (named_from c.args.log.now.start c.args.batches.now) (held_in g.W.Window.held c.args.windows.now.entries c.args.group.now) c.args.states.now
    c.requires.sound c.requires.limit.few c.requires.hosted c.requires.well (change_of c.in-Changes.moved c.args.rows.now.list) j.3 c.key-key.result c.list.result.now c.key-key.ensures c.list.ensures.same

pub returns-in-Some-clause-once : goal.returns-in-Some-clause-once
returns-in-Some-clause-once g c =
    let j = subst (JudgesGiven c.args.conf.now.limit c.args.log.now.start c.args.member.now c.args.batches.now c.args.log.now.batches (held_in g.W.Window.held c.args.windows.now.entries c.args.group.now)
    (share_state_at (states_of c.args.states.now.entries) (key_of c.args.conf.now c.args.group.now)) c.args.rows.now.list) c.in-Changes.is c.requires.judged in
    inr (inr (
      j.0,
      j.1,
      (
        j.2,
        (
          j.1,
          none_stored c.args.conf.now c.args.log.now.batches c.args.group.now (named_from c.args.log.now.start c.args.batches.now) (held_in g.W.Window.held c.args.windows.now.entries c.args.group.now) c.args.states.now
              c.requires.sound c.requires.limit.few c.requires.hosted c.requires.well (change_of c.in-Changes.moved c.args.rows.now.list) j.3 c.key-key.result c.list.result.now c.key-key.ensures c.list.ensures.same
              g.D.Disk.seen (HasFailed g.D.Disk.seen) c.args.tidies c.store_change-fault.new.states c.store_change-fault.result c.in-Some.fault c.in-Some.is c.store_change-fault.ensures.once,
          λ other. refl,
        ),
      ),
    ))

pub returns-clause-once : goal.returns-clause-once
returns-clause-once g c =
    let j = subst (JudgesGiven c.args.conf.now.limit c.args.log.now.start c.args.member.now c.args.batches.now c.args.log.now.batches (held_in g.W.Window.held c.args.windows.now.entries c.args.group.now)
    (share_state_at (states_of c.args.states.now.entries) (key_of c.args.conf.now c.args.group.now)) c.args.rows.now.list) c.in-Changes.is c.requires.judged in
    let Behind : ℕ → Type 0 = λ n. (other : List ℕ) → held_in g.W.Window.held c.end_acknowledged.new.windows.entries other
    ≡ with_held (held_in g.W.Window.held c.args.windows.now.entries) c.args.group.now (held_after (named_from n c.args.batches.now) (held_in g.W.Window.held c.args.windows.now.entries c.args.group.now)) other in
    inr (inr (
      j.0,
      j.1,
      (
        j.2,
        inr (
          j.1,
          all_stored c.args.conf.now c.args.log.now.batches c.args.group.now (named_from c.args.log.now.start c.args.batches.now) (held_in g.W.Window.held c.args.windows.now.entries c.args.group.now) c.args.states.now
              c.requires.sound c.requires.limit.few c.requires.hosted c.requires.well (change_of c.in-Changes.moved c.args.rows.now.list) j.3 c.key-key.result c.list.result.now c.key-key.ensures c.list.ensures.same
              g.D.Disk.seen (HasFailed g.D.Disk.seen) c.args.tidies c.store_change-fault.new.states c.store_change-fault.result c.in_default.is c.store_change-fault.ensures.once,
          subst Behind c.start.ensures.value c.end_acknowledged.ensures.held,
        ),
      ),
    ))

pub store_change-fault-requires-clause-reserved : goal.store_change-fault-requires-clause-reserved
store_change-fault-requires-clause-reserved g c =
    let j = subst (JudgesGiven c.args.conf.now.limit c.args.log.now.start c.args.member.now c.args.batches.now c.args.log.now.batches (held_in g.W.Window.held c.args.windows.now.entries c.args.group.now)
    (share_state_at (states_of c.args.states.now.entries) (key_of c.args.conf.now c.args.group.now)) c.args.rows.now.list) c.in-Changes.is c.requires.judged in
    reserved_there c.args.conf.now c.args.log.now.batches c.args.group.now (named_from c.args.log.now.start c.args.batches.now) (held_in g.W.Window.held c.args.windows.now.entries c.args.group.now) c.args.states.now
    c.requires.sound c.requires.limit.few c.requires.hosted c.requires.well (change_of c.in-Changes.moved c.args.rows.now.list) j.3 c.key-key.result c.list.result.now c.key-key.ensures c.list.ensures.same
    (c.requires.canonical c.in-Changes.moved c.in-Changes.is j.3.0 j.3.1) c.args.states.now.room c.requires.room

pub returns-in-Malformed-clause-moments : goal.returns-in-Malformed-clause-moments
returns-in-Malformed-clause-moments g c = λ alone. still_within g.D.Disk.seen g.met.D.Disk.only_now _ c.args.states.now

pub returns-in-Empty-clause-moments : goal.returns-in-Empty-clause-moments
returns-in-Empty-clause-moments g c = λ alone. still_within g.D.Disk.seen g.met.D.Disk.only_now _ c.args.states.now

pub returns-in-NotHeld-clause-moments : goal.returns-in-NotHeld-clause-moments
returns-in-NotHeld-clause-moments g c = λ alone. still_within g.D.Disk.seen g.met.D.Disk.only_now _ c.args.states.now

pub returns-in-Some-clause-moments : goal.returns-in-Some-clause-moments
returns-in-Some-clause-moments g c = λ alone.
    let j = subst (JudgesGiven c.args.conf.now.limit c.args.log.now.start c.args.member.now c.args.batches.now c.args.log.now.batches (held_in g.W.Window.held c.args.windows.now.entries c.args.group.now)
    (share_state_at (states_of c.args.states.now.entries) (key_of c.args.conf.now c.args.group.now)) c.args.rows.now.list) c.in-Changes.is c.requires.judged in
    acks_within g.D.Disk.seen c.args.conf.now (log_in c.args.log.now) c.args.group.now c.args.member.now c.args.batches.now (held_in g.W.Window.held c.args.windows.now.entries c.args.group.now)
    c.args.states.now c.store_change-fault.new.states (change_of c.in-Changes.moved c.args.rows.now.list) j.0 j.2 j.3 c.key-key.result c.list.result.now c.key-key.ensures c.list.ensures.same
    (c.store_change-fault.ensures.moments alone)

pub returns-clause-moments : goal.returns-clause-moments
returns-clause-moments g c = λ alone.
    let j = subst (JudgesGiven c.args.conf.now.limit c.args.log.now.start c.args.member.now c.args.batches.now c.args.log.now.batches (held_in g.W.Window.held c.args.windows.now.entries c.args.group.now)
    (share_state_at (states_of c.args.states.now.entries) (key_of c.args.conf.now c.args.group.now)) c.args.rows.now.list) c.in-Changes.is c.requires.judged in
    acks_within g.D.Disk.seen c.args.conf.now (log_in c.args.log.now) c.args.group.now c.args.member.now c.args.batches.now (held_in g.W.Window.held c.args.windows.now.entries c.args.group.now)
    c.args.states.now c.store_change-fault.new.states (change_of c.in-Changes.moved c.args.rows.now.list) j.0 j.2 j.3 c.key-key.result c.list.result.now c.key-key.ensures c.list.ensures.same
    (c.store_change-fault.ensures.moments alone)

pub returns-in-Malformed-clause-alone : goal.returns-in-Malformed-clause-alone
returns-in-Malformed-clause-alone g c = λ alone. record { same = refl; other = λ low. refl; quiet = λ told. refl }

pub returns-in-Empty-clause-alone : goal.returns-in-Empty-clause-alone
returns-in-Empty-clause-alone g c = λ alone. record { same = refl; other = λ low. refl; quiet = λ told. refl }

pub returns-in-NotHeld-clause-alone : goal.returns-in-NotHeld-clause-alone
returns-in-NotHeld-clause-alone g c = λ alone. record { same = refl; other = λ low. refl; quiet = λ told. refl }

pub returns-in-Some-clause-alone : goal.returns-in-Some-clause-alone
returns-in-Some-clause-alone g c = λ alone.
    subst (λ (o : Option StoreFault). StaysOn g.D.Disk.seen c.args.states.now.journal c.store_change-fault.new.states.journal (answer_of o)) c.in-Some.is
    (c.store_change-fault.ensures.alone alone)

pub returns-clause-alone : goal.returns-clause-alone
returns-clause-alone g c = λ alone.
    subst (λ (o : Option StoreFault). StaysOn g.D.Disk.seen c.args.states.now.journal c.store_change-fault.new.states.journal (answer_of o)) c.in_default.is
    (c.store_change-fault.ensures.alone alone)
