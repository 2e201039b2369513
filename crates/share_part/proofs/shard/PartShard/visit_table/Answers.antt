use Rattle.std.proofs.Common.{◌≡◌, ◌∙◌, ◌+◌, ◌++◌, ◌≤◌, ◌<◌, refl, sym, ap, subst, arith, rules, length, List, [], ℕ}
use Rattle.std.specs.List.{AllByRecursion}
use Rattle.std.specs.Prelude.{Ok, IsSome, true}
use Rattle.edge_io.specs.Disk.{IsTold}
use Rattle.part_log.specs.Logs.{IsStoredLog, log_in}
use Rattle.part_log.specs.Starts.{Log}
use Rattle.part_log.proofs.Looking.{same_log}
use Rattle.share_coord.specs.States.{states_of}
use Rattle.share_model.specs.ForeignRules.{share_state_at}
use Rattle.share_model.specs.Held.{Held}
use Rattle.share_model.specs.Logs.{Batch, end_of}
use Rattle.share_model.specs.Rooms.{Filled}
use Rattle.share_model.specs.declared.visit.VisitAnswer.{VisitAnswer}
use Rattle.share_part.specs.Foreseeing.{HasRoomFor, JudgesAcks}
use Rattle.share_part.specs.Hosting.{AreHosted, key_of}
use Rattle.share_part.specs.Making.{numbered_bytes, state_for}
use Rattle.share_part.specs.Once.{VisitsOnce}
use Rattle.share_part.specs.Shards.{PartParts, held_in}
use Rattle.share_part.proofs.Acked.{acked_from, stands, visited}
use Rattle.share_part.proofs.Ahead.{goes_by, made_there, none_ready}
use Rattle.share_part.proofs.Appending.{all_within, numbered_is, some_at}
use Rattle.share_part.proofs.Failing.{run_none}
use Rattle.share_part.proofs.Holding.{AreKept, same_kept}
use Rattle.share_part.proofs.Looked.{nothing_read, read_all, read_not}
use Rattle.share_part.proofs.Unreads.{unread_so}
use Rattle.share_part.proofs.Visiting.{err_is, fetched, held_by, took_by, wells_took}
use Rattle.share_part.proofs.shard.PartShard.visit_table.Goals as goal

pub returns-in_err-ready-clause-once : goal.returns-in_err-ready-clause-once
returns-in_err-ready-clause-once g c = rw (← c.self.view_is) (none_ready g.D.Disk.seen g.W.Window.held c.args.now c.args.visit.now
    (record { conf = c.self.inside.conf; log = c.self.inside.log; states = c.self.inside.states; windows = c.self.inside.windows.entries; clock = c.self.inside.clock }) c.ready.new.windows.entries (nothing_read g.D.Disk.seen g.met.D.Disk.only_now c.self.inside.log) c.in_err-ready.ensures.held
    c.from_residual.result c.from_residual.ensures.0)

pub invariant_of-self : goal.invariant_of-self
invariant_of-self g c = record {
  log_is = c.self.invariant.log_is;
  within = c.self.invariant.within;
  hosted = c.self.invariant.hosted;
  holds = same_kept c.self.inside.conf c.self.inside.log.batches (states_of c.self.inside.states.entries) (held_in g.W.Window.held c.self.inside.windows.entries)
      (held_in g.W.Window.held c.ready.new.windows.entries) c.in_err-ready.ensures.held c.self.invariant.holds;
  moment = c.self.invariant.moment;
  scratch = let room = c.self.invariant.scratch in omega (arith, room, c.judge_acks-acks.ensures.room);
  room = c.self.invariant.room;
}

pub settle_acks-ack-requires-clause-judged : goal.settle_acks-ack-requires-clause-judged
settle_acks-ack-requires-clause-judged g c = subst (λ (h : Held). JudgesAcks c.self.inside.conf.limit c.self.inside.log.start c.args.visit.now c.self.inside.log.batches h
    (share_state_at (states_of c.self.inside.states.entries) (key_of c.self.inside.conf c.args.visit.now.group)) c.judge_acks-acks.new.rows.list c.judge_acks-acks.result) (sym (c.in_ok-ready.ensures.held c.args.visit.now.group))
    c.judge_acks-acks.ensures.judged

pub append_batches-requires-clause-numbers : goal.append_batches-requires-clause-numbers
append_batches-requires-clause-numbers g c = let goes = (goes_by g.D.Disk.seen g.W.Window.held c.args.visit.now
    (record { conf = c.self.inside.conf; log = c.self.inside.log; states = c.self.inside.states; windows = c.self.inside.windows.entries; clock = c.self.inside.clock })
    c.settle_acks-ack.new.states c.settle_acks-ack.new.windows.entries c.self.invariant.log_is c.settle_acks-ack.ensures.range.few c.self.invariant.hosted c.self.invariant.holds
    c.args.limits (subst (λ (p : PartParts g.row.D.Denot g.row.W.Denot). IsSome (share_state_at (states_of p.states.entries) (key_of p.conf c.args.visit.now.group))) (sym c.self.view_is) c.requires.table)
    c.judge_acks-acks.new.rows.list c.judge_acks-acks.result c.in_ok-ready.ready.stays c.in_ok-ready.ready.moves c.judge_acks-acks.ensures.judged
    c.in_ok-ready.ensures.ready.stays c.in_ok-ready.ensures.ready.moves c.chosen-plan.result.0 c.settle_acks-ack.result
    (acked_from true g.D.Disk.seen g.W.Window.held c.args.visit.now
    (record { conf = c.self.inside.conf; log = c.self.inside.log; states = c.self.inside.states; windows = c.self.inside.windows.entries; clock = c.self.inside.clock })
    c.settle_acks-ack.new.states c.settle_acks-ack.new.windows.entries c.self.invariant.log_is c.settle_acks-ack.ensures.range.few c.self.invariant.hosted c.self.invariant.holds
    (held_in g.W.Window.held c.ready.new.windows.entries) c.in_ok-ready.ensures.held c.settle_acks-ack.result c.settle_acks-ack.ensures.once)
    c.settle_acks-ack.ensures.malformed c.chosen-plan.ensures.done c.chosen-plan.ensures.others) in
    subst (λ (l : List ℕ). AllByRecursion (λ n. n < length c.self.inside.log.batches) l) (sym c.deref.ensures.value)
    (all_within c.self.inside.log.batches c.chosen-plan.result.0.numbers.items _ goes.planned.batches)

pub append_batches-requires-clause-spare : goal.append_batches-requires-clause-spare
append_batches-requires-clause-spare g c = let goes = (goes_by g.D.Disk.seen g.W.Window.held c.args.visit.now
    (record { conf = c.self.inside.conf; log = c.self.inside.log; states = c.self.inside.states; windows = c.self.inside.windows.entries; clock = c.self.inside.clock })
    c.settle_acks-ack.new.states c.settle_acks-ack.new.windows.entries c.self.invariant.log_is c.settle_acks-ack.ensures.range.few c.self.invariant.hosted c.self.invariant.holds
    c.args.limits (subst (λ (p : PartParts g.row.D.Denot g.row.W.Denot). IsSome (share_state_at (states_of p.states.entries) (key_of p.conf c.args.visit.now.group))) (sym c.self.view_is) c.requires.table)
    c.judge_acks-acks.new.rows.list c.judge_acks-acks.result c.in_ok-ready.ready.stays c.in_ok-ready.ready.moves c.judge_acks-acks.ensures.judged
    c.in_ok-ready.ensures.ready.stays c.in_ok-ready.ensures.ready.moves c.chosen-plan.result.0 c.settle_acks-ack.result
    (acked_from true g.D.Disk.seen g.W.Window.held c.args.visit.now
    (record { conf = c.self.inside.conf; log = c.self.inside.log; states = c.self.inside.states; windows = c.self.inside.windows.entries; clock = c.self.inside.clock })
    c.settle_acks-ack.new.states c.settle_acks-ack.new.windows.entries c.self.invariant.log_is c.settle_acks-ack.ensures.range.few c.self.invariant.hosted c.self.invariant.holds
    (held_in g.W.Window.held c.ready.new.windows.entries) c.in_ok-ready.ensures.held c.settle_acks-ack.result c.settle_acks-ack.ensures.once)
    c.settle_acks-ack.ensures.malformed c.chosen-plan.ensures.done c.chosen-plan.ensures.others) in
    let same = ap (λ (l : List ℕ). length (numbered_bytes c.self.inside.log.batches l)) c.deref.ensures.value in
    let are = ap (λ (l : List ℕ). length l) (numbered_is c.self.inside.log.batches c.chosen-plan.result.0.numbers.items _ goes.planned.batches) in
    let size = goes.planned.size in
    let room : HasRoomFor g.W.Window.spare c.settle_acks-ack.new.windows.entries c.args.visit.now.group c.chosen-plan.result.1 c.chosen-plan.result.0 = search rules in
    let enough = room.1 in
    omega (arith, same, are, size, enough)

pub invariant_of-self-in-Err : goal.invariant_of-self-in-Err
invariant_of-self-in-Err g c =
    let s = stands true g.D.Disk.seen g.W.Window.held c.args.visit.now
    (record { conf = c.self.inside.conf; log = c.self.inside.log; states = c.self.inside.states; windows = c.self.inside.windows.entries; clock = c.self.inside.clock })
    c.settle_acks-ack.new.states c.settle_acks-ack.new.windows.entries c.self.invariant.log_is c.settle_acks-ack.ensures.range.few c.self.invariant.hosted c.self.invariant.holds c.settle_acks-ack.result
    (acked_from true g.D.Disk.seen g.W.Window.held c.args.visit.now
    (record { conf = c.self.inside.conf; log = c.self.inside.log; states = c.self.inside.states; windows = c.self.inside.windows.entries; clock = c.self.inside.clock })
    c.settle_acks-ack.new.states c.settle_acks-ack.new.windows.entries c.self.invariant.log_is c.settle_acks-ack.ensures.range.few c.self.invariant.hosted c.self.invariant.holds
    (held_in g.W.Window.held c.ready.new.windows.entries) c.in_ok-ready.ensures.held c.settle_acks-ack.result c.settle_acks-ack.ensures.once) in
    record {
      log_is = subst IsStoredLog (sym c.append_batches.ensures.log.reads.batches) c.self.invariant.log_is;
      within = subst (λ (l : Log). l.start ≤ end_of l.batches) (same_log g.D.Disk.seen c.self.inside.log c.append_batches.new.log c.append_batches.ensures.log.reads) c.self.invariant.within;
      hosted = subst (λ (l : Log). AreHosted c.self.inside.conf l (states_of c.settle_acks-ack.new.states.entries)) (same_log g.D.Disk.seen c.self.inside.log c.append_batches.new.log c.append_batches.ensures.log.reads) s.0;
      holds = subst (λ (l : List Batch). AreKept c.self.inside.conf l (states_of c.settle_acks-ack.new.states.entries) (held_in g.W.Window.held c.settle_acks-ack.new.windows.entries)) (sym c.append_batches.ensures.log.reads.batches) s.1;
      moment = omega (arith, c.self.invariant.moment, c.requires.now, c.max-self-inside.ensures);
      scratch = let room = c.self.invariant.scratch in omega (arith, room, c.judge_acks-acks.ensures.room);
      room = subst (λ (n : ℕ). 6000 ≤ n) (sym c.settle_acks-ack.ensures.room) c.self.invariant.room;
    }

pub returns-in-Err-clause-once : goal.returns-in-Err-clause-once
returns-in-Err-clause-once g c =
    let goes = (goes_by g.D.Disk.seen g.W.Window.held c.args.visit.now
    (record { conf = c.self.inside.conf; log = c.self.inside.log; states = c.self.inside.states; windows = c.self.inside.windows.entries; clock = c.self.inside.clock })
    c.settle_acks-ack.new.states c.settle_acks-ack.new.windows.entries c.self.invariant.log_is c.settle_acks-ack.ensures.range.few c.self.invariant.hosted c.self.invariant.holds
    c.args.limits (subst (λ (p : PartParts g.row.D.Denot g.row.W.Denot). IsSome (share_state_at (states_of p.states.entries) (key_of p.conf c.args.visit.now.group))) (sym c.self.view_is) c.requires.table)
    c.judge_acks-acks.new.rows.list c.judge_acks-acks.result c.in_ok-ready.ready.stays c.in_ok-ready.ready.moves c.judge_acks-acks.ensures.judged
    c.in_ok-ready.ensures.ready.stays c.in_ok-ready.ensures.ready.moves c.chosen-plan.result.0 c.settle_acks-ack.result
    (acked_from true g.D.Disk.seen g.W.Window.held c.args.visit.now
    (record { conf = c.self.inside.conf; log = c.self.inside.log; states = c.self.inside.states; windows = c.self.inside.windows.entries; clock = c.self.inside.clock })
    c.settle_acks-ack.new.states c.settle_acks-ack.new.windows.entries c.self.invariant.log_is c.settle_acks-ack.ensures.range.few c.self.invariant.hosted c.self.invariant.holds
    (held_in g.W.Window.held c.ready.new.windows.entries) c.in_ok-ready.ensures.held c.settle_acks-ack.result c.settle_acks-ack.ensures.once)
    c.settle_acks-ack.ensures.malformed c.chosen-plan.ensures.done c.chosen-plan.ensures.others) in
    rw (← c.self.view_is) (subst (λ (a : VisitAnswer). VisitsOnce g.D.Disk.seen g.W.Window.held c.args.now true c.args.visit.now
    (record { conf = c.self.inside.conf; log = c.self.inside.log; states = c.self.inside.states; windows = c.self.inside.windows.entries; clock = c.self.inside.clock }) (record { conf = c.self.inside.conf; log = c.append_batches.new.log; states = c.settle_acks-ack.new.states; windows = c.settle_acks-ack.new.windows.entries; clock = c.max-self-inside.result }) (Ok a)) (sym c.with_ack.ensures)
    (visited true g.D.Disk.seen g.W.Window.held c.args.visit.now
    (record { conf = c.self.inside.conf; log = c.self.inside.log; states = c.self.inside.states; windows = c.self.inside.windows.entries; clock = c.self.inside.clock })
    c.settle_acks-ack.new.states c.settle_acks-ack.new.windows.entries c.self.invariant.log_is c.settle_acks-ack.ensures.range.few c.self.invariant.hosted c.self.invariant.holds c.args.now (record { conf = c.self.inside.conf; log = c.append_batches.new.log; states = c.settle_acks-ack.new.states; windows = c.settle_acks-ack.new.windows.entries; clock = c.max-self-inside.result }) c.settle_acks-ack.result
    (acked_from true g.D.Disk.seen g.W.Window.held c.args.visit.now
    (record { conf = c.self.inside.conf; log = c.self.inside.log; states = c.self.inside.states; windows = c.self.inside.windows.entries; clock = c.self.inside.clock })
    c.settle_acks-ack.new.states c.settle_acks-ack.new.windows.entries c.self.invariant.log_is c.settle_acks-ack.ensures.range.few c.self.invariant.hosted c.self.invariant.holds
    (held_in g.W.Window.held c.ready.new.windows.entries) c.in_ok-ready.ensures.held c.settle_acks-ack.result c.settle_acks-ack.ensures.once)
    c.settle_acks-ack.ensures.runs (run_none g.D.Disk.seen c.settle_acks-ack.new.states)
    c.unread.result (Ok c.unread.result) refl
    (unread_so g.D.Disk.seen g.W.Window.held c.args.now c.args.visit.now (record { conf = c.self.inside.conf; log = c.self.inside.log; states = c.settle_acks-ack.new.states; windows = c.settle_acks-ack.new.windows.entries; clock = c.self.inside.clock }) (record { conf = c.self.inside.conf; log = c.append_batches.new.log; states = c.settle_acks-ack.new.states; windows = c.settle_acks-ack.new.windows.entries; clock = c.max-self-inside.result }) refl (read_not g.D.Disk.seen c.self.inside.log c.append_batches.new.log c.append_batches.result (err_is c.append_batches.result _ c.in-Err.is) c.append_batches.ensures.log)
    c.args.limits c.requires.fetch c.unread.result c.unread.ensures.ack c.unread.ensures.answer (λ group. refl) c.max-self-inside.ensures
    (some_at c.self.inside.log.batches c.chosen-plan.result.0.numbers.items _ goes.planned.batches
    (λ none. c.append_batches.ensures.some (err_is c.append_batches.result _ c.in-Err.is) (c.deref.ensures.value ∙ none)))
    (Ok _) refl (made_there g.D.Disk.seen c.self.inside.conf c.args.visit.now.group (log_in c.self.inside.log) c.settle_acks-ack.new.states goes.its goes.there))))

pub hand_out-answer-requires-clause-plan : goal.hand_out-answer-requires-clause-plan
hand_out-answer-requires-clause-plan g c = (
  c.self.inside.log.batches,
  _,
  (goes_by g.D.Disk.seen g.W.Window.held c.args.visit.now
      (record { conf = c.self.inside.conf; log = c.self.inside.log; states = c.self.inside.states; windows = c.self.inside.windows.entries; clock = c.self.inside.clock })
      c.settle_acks-ack.new.states c.settle_acks-ack.new.windows.entries c.self.invariant.log_is c.settle_acks-ack.ensures.range.few c.self.invariant.hosted c.self.invariant.holds
      c.args.limits (subst (λ (p : PartParts g.row.D.Denot g.row.W.Denot). IsSome (share_state_at (states_of p.states.entries) (key_of p.conf c.args.visit.now.group))) (sym c.self.view_is) c.requires.table)
      c.judge_acks-acks.new.rows.list c.judge_acks-acks.result c.in_ok-ready.ready.stays c.in_ok-ready.ready.moves c.judge_acks-acks.ensures.judged
      c.in_ok-ready.ensures.ready.stays c.in_ok-ready.ensures.ready.moves c.chosen-plan.result.0 c.settle_acks-ack.result
      (acked_from true g.D.Disk.seen g.W.Window.held c.args.visit.now
      (record { conf = c.self.inside.conf; log = c.self.inside.log; states = c.self.inside.states; windows = c.self.inside.windows.entries; clock = c.self.inside.clock })
      c.settle_acks-ack.new.states c.settle_acks-ack.new.windows.entries c.self.invariant.log_is c.settle_acks-ack.ensures.range.few c.self.invariant.hosted c.self.invariant.holds
      (held_in g.W.Window.held c.ready.new.windows.entries) c.in_ok-ready.ensures.held c.settle_acks-ack.result c.settle_acks-ack.ensures.once)
      c.settle_acks-ack.ensures.malformed c.chosen-plan.ensures.done c.chosen-plan.ensures.others).planned,
)

pub invariant_of-self-2 : goal.invariant_of-self-2
invariant_of-self-2 g c =
    let s = stands true g.D.Disk.seen g.W.Window.held c.args.visit.now
    (record { conf = c.self.inside.conf; log = c.self.inside.log; states = c.self.inside.states; windows = c.self.inside.windows.entries; clock = c.self.inside.clock })
    c.settle_acks-ack.new.states c.settle_acks-ack.new.windows.entries c.self.invariant.log_is c.settle_acks-ack.ensures.range.few c.self.invariant.hosted c.self.invariant.holds c.settle_acks-ack.result
    (acked_from true g.D.Disk.seen g.W.Window.held c.args.visit.now
    (record { conf = c.self.inside.conf; log = c.self.inside.log; states = c.self.inside.states; windows = c.self.inside.windows.entries; clock = c.self.inside.clock })
    c.settle_acks-ack.new.states c.settle_acks-ack.new.windows.entries c.self.invariant.log_is c.settle_acks-ack.ensures.range.few c.self.invariant.hosted c.self.invariant.holds
    (held_in g.W.Window.held c.ready.new.windows.entries) c.in_ok-ready.ensures.held c.settle_acks-ack.result c.settle_acks-ack.ensures.once) in
    let goes = (goes_by g.D.Disk.seen g.W.Window.held c.args.visit.now
    (record { conf = c.self.inside.conf; log = c.self.inside.log; states = c.self.inside.states; windows = c.self.inside.windows.entries; clock = c.self.inside.clock })
    c.settle_acks-ack.new.states c.settle_acks-ack.new.windows.entries c.self.invariant.log_is c.settle_acks-ack.ensures.range.few c.self.invariant.hosted c.self.invariant.holds
    c.args.limits (subst (λ (p : PartParts g.row.D.Denot g.row.W.Denot). IsSome (share_state_at (states_of p.states.entries) (key_of p.conf c.args.visit.now.group))) (sym c.self.view_is) c.requires.table)
    c.judge_acks-acks.new.rows.list c.judge_acks-acks.result c.in_ok-ready.ready.stays c.in_ok-ready.ready.moves c.judge_acks-acks.ensures.judged
    c.in_ok-ready.ensures.ready.stays c.in_ok-ready.ensures.ready.moves c.chosen-plan.result.0 c.settle_acks-ack.result
    (acked_from true g.D.Disk.seen g.W.Window.held c.args.visit.now
    (record { conf = c.self.inside.conf; log = c.self.inside.log; states = c.self.inside.states; windows = c.self.inside.windows.entries; clock = c.self.inside.clock })
    c.settle_acks-ack.new.states c.settle_acks-ack.new.windows.entries c.self.invariant.log_is c.settle_acks-ack.ensures.range.few c.self.invariant.hosted c.self.invariant.holds
    (held_in g.W.Window.held c.ready.new.windows.entries) c.in_ok-ready.ensures.held c.settle_acks-ack.result c.settle_acks-ack.ensures.once)
    c.settle_acks-ack.ensures.malformed c.chosen-plan.ensures.done c.chosen-plan.ensures.others) in
    record {
      log_is = subst IsStoredLog (sym c.append_batches.ensures.log.reads.batches) c.self.invariant.log_is;
      within = subst (λ (l : Log). l.start ≤ end_of l.batches) (same_log g.D.Disk.seen c.self.inside.log c.append_batches.new.log c.append_batches.ensures.log.reads) c.self.invariant.within;
      hosted = subst (λ (l : Log). AreHosted c.self.inside.conf l (states_of c.settle_acks-ack.new.states.entries)) (same_log g.D.Disk.seen c.self.inside.log c.append_batches.new.log c.append_batches.ensures.log.reads) s.0;
      holds = subst (λ (l : List Batch). AreKept c.self.inside.conf l (states_of c.settle_acks-ack.new.states.entries) (held_in g.W.Window.held c.hand_out-answer.new.windows.entries)) (sym c.append_batches.ensures.log.reads.batches)
          (wells_took g.D.Disk.seen g.W.Window.held c.args.now c.args.visit.now (record { conf = c.self.inside.conf; log = c.self.inside.log; states = c.settle_acks-ack.new.states; windows = c.settle_acks-ack.new.windows.entries; clock = c.self.inside.clock })
          (record { conf = c.self.inside.conf; log = c.append_batches.new.log; states = c.settle_acks-ack.new.states; windows = c.hand_out-answer.new.windows.entries; clock = c.max-self-inside.result })
          refl (read_all g.D.Disk.seen c.self.inside.log c.append_batches.new.log c.append_batches.result c.in_default.not-Err c.append_batches.ensures.log) (run_none g.D.Disk.seen c.settle_acks-ack.new.states) c.args.limits c.requires.fetch
          (held_by g.D.Disk.seen g.W.Window.held c.args.now c.args.visit.now (record { conf = c.self.inside.conf; log = c.self.inside.log; states = c.settle_acks-ack.new.states; windows = c.settle_acks-ack.new.windows.entries; clock = c.self.inside.clock })
          (record { conf = c.self.inside.conf; log = c.append_batches.new.log; states = c.settle_acks-ack.new.states; windows = c.hand_out-answer.new.windows.entries; clock = c.max-self-inside.result })
          refl (read_all g.D.Disk.seen c.self.inside.log c.append_batches.new.log c.append_batches.result c.in_default.not-Err c.append_batches.ensures.log) (run_none g.D.Disk.seen c.settle_acks-ack.new.states) c.args.limits c.requires.fetch
          c.settle_acks-ack.new.windows.entries c.settle_acks-ack.new.windows.entries (λ group. refl) (λ group. refl)
          c.chosen-plan.result.0 (state_for c.self.inside.conf (log_in c.self.inside.log) c.settle_acks-ack.new.states.entries c.args.visit.now.group) goes.planned
          (c.max-self-inside.result + c.self.inside.conf.lock_ms) refl c.hand_out-answer.ensures.held)
          (Ok _) refl (log_in c.self.inside.log) refl (made_there g.D.Disk.seen c.self.inside.conf c.args.visit.now.group (log_in c.self.inside.log) c.settle_acks-ack.new.states goes.its goes.there) c.self.invariant.within s.0 s.1);
      moment = omega (arith, c.self.invariant.moment, c.requires.now, c.max-self-inside.ensures);
      scratch = let room = c.self.invariant.scratch in omega (arith, room, c.judge_acks-acks.ensures.room);
      room = subst (λ (n : ℕ). 6000 ≤ n) (sym c.settle_acks-ack.ensures.room) c.self.invariant.room;
    }

pub returns-clause-once : goal.returns-clause-once
returns-clause-once g c =
    let goes = (goes_by g.D.Disk.seen g.W.Window.held c.args.visit.now
    (record { conf = c.self.inside.conf; log = c.self.inside.log; states = c.self.inside.states; windows = c.self.inside.windows.entries; clock = c.self.inside.clock })
    c.settle_acks-ack.new.states c.settle_acks-ack.new.windows.entries c.self.invariant.log_is c.settle_acks-ack.ensures.range.few c.self.invariant.hosted c.self.invariant.holds
    c.args.limits (subst (λ (p : PartParts g.row.D.Denot g.row.W.Denot). IsSome (share_state_at (states_of p.states.entries) (key_of p.conf c.args.visit.now.group))) (sym c.self.view_is) c.requires.table)
    c.judge_acks-acks.new.rows.list c.judge_acks-acks.result c.in_ok-ready.ready.stays c.in_ok-ready.ready.moves c.judge_acks-acks.ensures.judged
    c.in_ok-ready.ensures.ready.stays c.in_ok-ready.ensures.ready.moves c.chosen-plan.result.0 c.settle_acks-ack.result
    (acked_from true g.D.Disk.seen g.W.Window.held c.args.visit.now
    (record { conf = c.self.inside.conf; log = c.self.inside.log; states = c.self.inside.states; windows = c.self.inside.windows.entries; clock = c.self.inside.clock })
    c.settle_acks-ack.new.states c.settle_acks-ack.new.windows.entries c.self.invariant.log_is c.settle_acks-ack.ensures.range.few c.self.invariant.hosted c.self.invariant.holds
    (held_in g.W.Window.held c.ready.new.windows.entries) c.in_ok-ready.ensures.held c.settle_acks-ack.result c.settle_acks-ack.ensures.once)
    c.settle_acks-ack.ensures.malformed c.chosen-plan.ensures.done c.chosen-plan.ensures.others) in
    let empty : c.chosen-plan.result.1.bytes ≡ [] = ap (λ (f : Filled). f.bytes) c.chosen-plan.ensures.out ∙ c.in_ok-ready.ensures.ready.empty in
    let bytes = λ (told : IsTold (g.D.Disk.seen c.self.inside.log.journal.disk).content). c.hand_out-answer.ensures.batches ∙ (c.in_default.ensures.bytes told ∙ (ap (λ (b : List ℕ). b ++ numbered_bytes c.self.inside.log.batches c.deref.result.now) empty
    ∙ ap (λ (l : List ℕ). numbered_bytes c.self.inside.log.batches l) c.deref.ensures.value)) in
    let size = c.in_default.ensures.size in
    let none : length c.chosen-plan.result.1.bytes ≡ 0 = ap length empty in
    let len : length c.hand_out-answer.result.batches ≤ length (numbered_bytes c.self.inside.log.batches c.chosen-plan.result.0.numbers.items) =
    omega (arith, size, none, ap length c.hand_out-answer.ensures.batches, ap (λ (l : List ℕ). length (numbered_bytes c.self.inside.log.batches l)) c.deref.ensures.value) in
    rw (← c.self.view_is) (subst (λ (a : VisitAnswer). VisitsOnce g.D.Disk.seen g.W.Window.held c.args.now true c.args.visit.now
    (record { conf = c.self.inside.conf; log = c.self.inside.log; states = c.self.inside.states; windows = c.self.inside.windows.entries; clock = c.self.inside.clock }) (record { conf = c.self.inside.conf; log = c.append_batches.new.log; states = c.settle_acks-ack.new.states; windows = c.hand_out-answer.new.windows.entries; clock = c.max-self-inside.result }) (Ok a)) (sym c.with_ack-2.ensures)
    (visited true g.D.Disk.seen g.W.Window.held c.args.visit.now
    (record { conf = c.self.inside.conf; log = c.self.inside.log; states = c.self.inside.states; windows = c.self.inside.windows.entries; clock = c.self.inside.clock })
    c.settle_acks-ack.new.states c.settle_acks-ack.new.windows.entries c.self.invariant.log_is c.settle_acks-ack.ensures.range.few c.self.invariant.hosted c.self.invariant.holds c.args.now (record { conf = c.self.inside.conf; log = c.append_batches.new.log; states = c.settle_acks-ack.new.states; windows = c.hand_out-answer.new.windows.entries; clock = c.max-self-inside.result }) c.settle_acks-ack.result
    (acked_from true g.D.Disk.seen g.W.Window.held c.args.visit.now
    (record { conf = c.self.inside.conf; log = c.self.inside.log; states = c.self.inside.states; windows = c.self.inside.windows.entries; clock = c.self.inside.clock })
    c.settle_acks-ack.new.states c.settle_acks-ack.new.windows.entries c.self.invariant.log_is c.settle_acks-ack.ensures.range.few c.self.invariant.hosted c.self.invariant.holds
    (held_in g.W.Window.held c.ready.new.windows.entries) c.in_ok-ready.ensures.held c.settle_acks-ack.result c.settle_acks-ack.ensures.once)
    c.settle_acks-ack.ensures.runs (run_none g.D.Disk.seen c.settle_acks-ack.new.states)
    c.hand_out-answer.result (Ok c.hand_out-answer.result) refl
    (fetched g.D.Disk.seen g.W.Window.held c.args.now c.args.visit.now (record { conf = c.self.inside.conf; log = c.self.inside.log; states = c.settle_acks-ack.new.states; windows = c.settle_acks-ack.new.windows.entries; clock = c.self.inside.clock })
    (record { conf = c.self.inside.conf; log = c.append_batches.new.log; states = c.settle_acks-ack.new.states; windows = c.hand_out-answer.new.windows.entries; clock = c.max-self-inside.result })
    refl (read_all g.D.Disk.seen c.self.inside.log c.append_batches.new.log c.append_batches.result c.in_default.not-Err c.append_batches.ensures.log) (run_none g.D.Disk.seen c.settle_acks-ack.new.states) c.args.limits c.requires.fetch c.hand_out-answer.result
    (took_by g.D.Disk.seen g.W.Window.held c.args.now c.args.visit.now (record { conf = c.self.inside.conf; log = c.self.inside.log; states = c.settle_acks-ack.new.states; windows = c.settle_acks-ack.new.windows.entries; clock = c.self.inside.clock })
    (record { conf = c.self.inside.conf; log = c.append_batches.new.log; states = c.settle_acks-ack.new.states; windows = c.hand_out-answer.new.windows.entries; clock = c.max-self-inside.result })
    refl (read_all g.D.Disk.seen c.self.inside.log c.append_batches.new.log c.append_batches.result c.in_default.not-Err c.append_batches.ensures.log) (run_none g.D.Disk.seen c.settle_acks-ack.new.states) c.args.limits c.requires.fetch
    c.settle_acks-ack.new.windows.entries c.settle_acks-ack.new.windows.entries (λ group. refl) (λ group. refl)
    c.chosen-plan.result.0 _ goes.planned c.hand_out-answer.result c.hand_out-answer.ensures.ack c.hand_out-answer.ensures.outcome c.hand_out-answer.ensures.grants bytes len
    (c.max-self-inside.result + c.self.inside.conf.lock_ms) refl c.hand_out-answer.ensures.held c.max-self-inside.ensures)
    (Ok _) refl (log_in c.self.inside.log) refl (made_there g.D.Disk.seen c.self.inside.conf c.args.visit.now.group (log_in c.self.inside.log) c.settle_acks-ack.new.states goes.its goes.there))))
