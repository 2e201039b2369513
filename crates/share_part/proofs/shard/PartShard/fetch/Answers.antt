use Rattle.std.proofs.Common.{◌≡◌, ◌∙◌, ◌++◌, ◌≤◌, ◌<◌, ◌+◌, refl, sym, ap, subst, arith, length, List, ℕ, Ok}
use Rattle.std.specs.List.{AllByRecursion}
use Rattle.edge_io.specs.Disk.{IsTold}
use Rattle.part_log.specs.Logs.{IsStoredLog, log_in}
use Rattle.part_log.specs.Starts.{Log}
use Rattle.part_log.proofs.Looking.{same_log}
use Rattle.share_coord.specs.States.{states_of}
use Rattle.share_model.specs.Logs.{Batch, end_of}
use Rattle.share_model.specs.declared.visit.ThenOutcome.{ThenOutcome}
use Rattle.share_part.specs.Hosting.{AreHosted}
use Rattle.share_part.specs.Making.{numbered_bytes, state_for}
use Rattle.share_part.specs.Shards.{held_in}
use Rattle.share_part.proofs.Failing.{run_none}
use Rattle.share_part.proofs.Appending.{all_within, numbered_is, some_at}
use Rattle.share_part.proofs.Holding.{AreKept, same_kept}
use Rattle.share_part.proofs.Looked.{nothing_read, read_all, read_not}
use Rattle.share_part.proofs.Unreads.{unread_so}
use Rattle.share_part.proofs.Visiting.{err_is, fetched, held_by, hosted_after, refused, starved_so, took_by, unanswered, wells_after, wells_took}
use Rattle.share_part.proofs.shard.PartShard.fetch.Goals as goal

pub returns-in_err-plan-clause-once : goal.returns-in_err-plan-clause-once
returns-in_err-plan-clause-once g c = rw (← c.self.view_is) (starved_so g.D.Disk.seen g.W.Window.held c.args.now c.args.visit.now _ _ refl
    (nothing_read g.D.Disk.seen g.met.D.Disk.only_now c.self.inside.log) (run_none g.D.Disk.seen c.self.inside.states)
    c.from_residual.result c.from_residual.ensures.0 refl refl c.in_err-plan.ensures.held refl)

pub invariant_of-self : goal.invariant_of-self
invariant_of-self g c = record {
  log_is = c.self.invariant.log_is;
  within = c.self.invariant.within;
  hosted = c.self.invariant.hosted;
  holds = same_kept c.self.inside.conf c.self.inside.log.batches (states_of c.self.inside.states.entries) (held_in g.W.Window.held c.self.inside.windows.entries)
      (held_in g.W.Window.held c.prepared.new.windows.entries) c.in_err-plan.ensures.held c.self.invariant.holds;
  moment = c.self.invariant.moment;
  scratch = c.self.invariant.scratch;
  room = c.self.invariant.room;
}

pub invariant_of-self-in_err-outcome : goal.invariant_of-self-in_err-outcome
invariant_of-self-in_err-outcome g c = record {
  log_is = c.self.invariant.log_is;
  within = c.self.invariant.within;
  hosted = hosted_after g.D.Disk.seen g.W.Window.held c.args.now c.args.visit.now (record { conf = c.self.inside.conf; log = c.self.inside.log; states = c.self.inside.states; windows = c.self.inside.windows.entries; clock = c.self.inside.clock })
      (record { conf = c.self.inside.conf; log = c.self.inside.log; states = c.make_table.new.states; windows = c.prepared.new.windows.entries; clock = c.self.inside.clock }) refl (nothing_read g.D.Disk.seen g.met.D.Disk.only_now c.self.inside.log)
      c.make_table.ensures.runs c.args.limits c.requires.fetch c.make_table.result _ refl c.make_table.ensures.made c.self.invariant.within c.self.invariant.hosted;
  holds = wells_after g.D.Disk.seen g.W.Window.held c.args.now c.args.visit.now (record { conf = c.self.inside.conf; log = c.self.inside.log; states = c.self.inside.states; windows = c.self.inside.windows.entries; clock = c.self.inside.clock })
      (record { conf = c.self.inside.conf; log = c.self.inside.log; states = c.make_table.new.states; windows = c.prepared.new.windows.entries; clock = c.self.inside.clock }) refl (nothing_read g.D.Disk.seen g.met.D.Disk.only_now c.self.inside.log)
      c.make_table.ensures.runs c.args.limits c.requires.fetch c.make_table.result _ refl c.make_table.ensures.made c.in_ok-plan.ensures.held c.self.invariant.holds;
  moment = c.self.invariant.moment;
  scratch = c.self.invariant.scratch;
  room = subst (λ (n : ℕ). 6000 ≤ n) (sym c.make_table.ensures.room) c.self.invariant.room;
}

pub returns-in_err-outcome-clause-once : goal.returns-in_err-outcome-clause-once
returns-in_err-outcome-clause-once g c = rw (← c.self.view_is) (unanswered g.D.Disk.seen g.W.Window.held c.args.now c.args.visit.now _ _ refl (nothing_read g.D.Disk.seen g.met.D.Disk.only_now c.self.inside.log) c.make_table.ensures.runs
    c.args.limits c.requires.fetch c.from_residual-in_err-outcome.result c.from_residual-in_err-outcome.ensures.0 refl c.make_table.result (err_is c.make_table.result _ c.in_err-outcome.was)
    _ refl c.make_table.ensures.made c.in_ok-plan.ensures.held refl)

pub invariant_of-self-in_default : goal.invariant_of-self-in_default
invariant_of-self-in_default g c = record {
  log_is = c.self.invariant.log_is;
  within = c.self.invariant.within;
  hosted = hosted_after g.D.Disk.seen g.W.Window.held c.args.now c.args.visit.now (record { conf = c.self.inside.conf; log = c.self.inside.log; states = c.self.inside.states; windows = c.self.inside.windows.entries; clock = c.self.inside.clock })
      (record { conf = c.self.inside.conf; log = c.self.inside.log; states = c.make_table.new.states; windows = c.prepared.new.windows.entries; clock = c.max-self-inside.result }) refl (nothing_read g.D.Disk.seen g.met.D.Disk.only_now c.self.inside.log)
      c.make_table.ensures.runs c.args.limits c.requires.fetch c.make_table.result _ refl c.make_table.ensures.made c.self.invariant.within c.self.invariant.hosted;
  holds = wells_after g.D.Disk.seen g.W.Window.held c.args.now c.args.visit.now (record { conf = c.self.inside.conf; log = c.self.inside.log; states = c.self.inside.states; windows = c.self.inside.windows.entries; clock = c.self.inside.clock })
      (record { conf = c.self.inside.conf; log = c.self.inside.log; states = c.make_table.new.states; windows = c.prepared.new.windows.entries; clock = c.max-self-inside.result }) refl (nothing_read g.D.Disk.seen g.met.D.Disk.only_now c.self.inside.log)
      c.make_table.ensures.runs c.args.limits c.requires.fetch c.make_table.result _ refl c.make_table.ensures.made c.in_ok-plan.ensures.held c.self.invariant.holds;
  moment = omega (arith, c.self.invariant.moment, c.requires.now, c.max-self-inside.ensures);
  scratch = c.self.invariant.scratch;
  room = subst (λ (n : ℕ). 6000 ≤ n) (sym c.make_table.ensures.room) c.self.invariant.room;
}

pub returns-in_default-clause-once : goal.returns-in_default-clause-once
returns-in_default-clause-once g c = rw (← c.self.view_is) (refused g.D.Disk.seen g.W.Window.held c.args.now c.args.visit.now _ _ refl (nothing_read g.D.Disk.seen g.met.D.Disk.only_now c.self.inside.log) c.make_table.ensures.runs
    c.args.limits c.requires.fetch c.empty.result c.in_ok-outcome.outcome c.in_default.not-Done refl c.empty.ensures.ack c.empty.ensures.answer c.in_ok-plan.ensures.held c.max-self-inside.ensures
    c.make_table.result c.in_ok-outcome.was _ refl c.make_table.ensures.made)

pub append_batches-requires-clause-numbers : goal.append_batches-requires-clause-numbers
append_batches-requires-clause-numbers g c = subst (λ (l : List ℕ). AllByRecursion (λ n. n < length c.self.inside.log.batches) l) (sym c.deref.ensures.value)
    (all_within c.self.inside.log.batches c.in_ok-plan.plan.numbers.items _ c.in_ok-plan.ensures.prepared.is.batches)

pub append_batches-requires-clause-spare : goal.append_batches-requires-clause-spare
append_batches-requires-clause-spare g c =
    let same = ap (λ (l : List ℕ). length (numbered_bytes c.self.inside.log.batches l)) c.deref.ensures.value in
    let are = ap (λ (l : List ℕ). length l) (numbered_is c.self.inside.log.batches c.in_ok-plan.plan.numbers.items _ c.in_ok-plan.ensures.prepared.is.batches) in
    let size = c.in_ok-plan.ensures.prepared.is.size in
    let enough = c.in_ok-plan.ensures.prepared.room.1 in
    omega (arith, same, are, size, enough)

pub invariant_of-self-in-Err : goal.invariant_of-self-in-Err
invariant_of-self-in-Err g c = record {
  log_is = subst IsStoredLog (sym c.append_batches.ensures.log.reads.batches) c.self.invariant.log_is;
  within = subst (λ (l : Log). l.start ≤ end_of l.batches) (same_log g.D.Disk.seen c.self.inside.log c.append_batches.new.log c.append_batches.ensures.log.reads) c.self.invariant.within;
  hosted = subst (λ (l : Log). AreHosted c.self.inside.conf l (states_of c.make_table.new.states.entries)) (same_log g.D.Disk.seen c.self.inside.log c.append_batches.new.log c.append_batches.ensures.log.reads)
      (hosted_after g.D.Disk.seen g.W.Window.held c.args.now c.args.visit.now (record { conf = c.self.inside.conf; log = c.self.inside.log; states = c.self.inside.states; windows = c.self.inside.windows.entries; clock = c.self.inside.clock })
      (record { conf = c.self.inside.conf; log = c.self.inside.log; states = c.make_table.new.states; windows = c.prepared.new.windows.entries; clock = c.max-self-inside.result }) refl (nothing_read g.D.Disk.seen g.met.D.Disk.only_now c.self.inside.log)
      c.make_table.ensures.runs c.args.limits c.requires.fetch c.make_table.result _ refl c.make_table.ensures.made c.self.invariant.within c.self.invariant.hosted);
  holds = subst (λ (l : List Batch). AreKept c.self.inside.conf l (states_of c.make_table.new.states.entries) (held_in g.W.Window.held c.prepared.new.windows.entries)) (sym c.append_batches.ensures.log.reads.batches)
      (wells_after g.D.Disk.seen g.W.Window.held c.args.now c.args.visit.now (record { conf = c.self.inside.conf; log = c.self.inside.log; states = c.self.inside.states; windows = c.self.inside.windows.entries; clock = c.self.inside.clock })
      (record { conf = c.self.inside.conf; log = c.self.inside.log; states = c.make_table.new.states; windows = c.prepared.new.windows.entries; clock = c.max-self-inside.result }) refl (nothing_read g.D.Disk.seen g.met.D.Disk.only_now c.self.inside.log)
      c.make_table.ensures.runs c.args.limits c.requires.fetch c.make_table.result _ refl c.make_table.ensures.made c.in_ok-plan.ensures.held c.self.invariant.holds);
  moment = omega (arith, c.self.invariant.moment, c.requires.now, c.max-self-inside.ensures);
  scratch = c.self.invariant.scratch;
  room = subst (λ (n : ℕ). 6000 ≤ n) (sym c.make_table.ensures.room) c.self.invariant.room;
}

pub returns-in-Err-clause-once : goal.returns-in-Err-clause-once
returns-in-Err-clause-once g c = rw (← c.self.view_is) (unread_so g.D.Disk.seen g.W.Window.held c.args.now c.args.visit.now _ _ refl
    (read_not g.D.Disk.seen c.self.inside.log c.append_batches.new.log c.append_batches.result (err_is c.append_batches.result _ c.in-Err.is) c.append_batches.ensures.log)
    c.args.limits c.requires.fetch c.unread.result c.unread.ensures.ack c.unread.ensures.answer c.in_ok-plan.ensures.held c.max-self-inside.ensures
    (some_at c.self.inside.log.batches c.in_ok-plan.plan.numbers.items _ c.in_ok-plan.ensures.prepared.is.batches
    (λ none. c.append_batches.ensures.some (err_is c.append_batches.result _ c.in-Err.is) (c.deref.ensures.value ∙ none)))
    c.make_table.result (c.in_ok-outcome.was ∙ ap (λ (o : ThenOutcome). Ok o) c.in-Done.is) c.make_table.ensures.made)

pub invariant_of-self-2 : goal.invariant_of-self-2
invariant_of-self-2 g c = record {
  log_is = subst IsStoredLog (sym c.append_batches.ensures.log.reads.batches) c.self.invariant.log_is;
  within = subst (λ (l : Log). l.start ≤ end_of l.batches) (same_log g.D.Disk.seen c.self.inside.log c.append_batches.new.log c.append_batches.ensures.log.reads) c.self.invariant.within;
  hosted = subst (λ (l : Log). AreHosted c.self.inside.conf l (states_of c.make_table.new.states.entries)) (same_log g.D.Disk.seen c.self.inside.log c.append_batches.new.log c.append_batches.ensures.log.reads)
      (hosted_after g.D.Disk.seen g.W.Window.held c.args.now c.args.visit.now (record { conf = c.self.inside.conf; log = c.self.inside.log; states = c.self.inside.states; windows = c.self.inside.windows.entries; clock = c.self.inside.clock })
      (record { conf = c.self.inside.conf; log = c.append_batches.new.log; states = c.make_table.new.states; windows = c.hand_out.new.windows.entries; clock = c.max-self-inside.result }) refl (read_all g.D.Disk.seen c.self.inside.log c.append_batches.new.log c.append_batches.result c.in_default-append_batches.not-Err c.append_batches.ensures.log)
      c.make_table.ensures.runs c.args.limits c.requires.fetch
      c.make_table.result _ refl c.make_table.ensures.made c.self.invariant.within c.self.invariant.hosted);
  holds = subst (λ (l : List Batch). AreKept c.self.inside.conf l (states_of c.make_table.new.states.entries) (held_in g.W.Window.held c.hand_out.new.windows.entries)) (sym c.append_batches.ensures.log.reads.batches)
      (wells_took g.D.Disk.seen g.W.Window.held c.args.now c.args.visit.now (record { conf = c.self.inside.conf; log = c.self.inside.log; states = c.self.inside.states; windows = c.self.inside.windows.entries; clock = c.self.inside.clock })
      (record { conf = c.self.inside.conf; log = c.append_batches.new.log; states = c.make_table.new.states; windows = c.hand_out.new.windows.entries; clock = c.max-self-inside.result }) refl (read_all g.D.Disk.seen c.self.inside.log c.append_batches.new.log c.append_batches.result c.in_default-append_batches.not-Err c.append_batches.ensures.log)
      c.make_table.ensures.runs c.args.limits c.requires.fetch
      (held_by g.D.Disk.seen g.W.Window.held c.args.now c.args.visit.now (record { conf = c.self.inside.conf; log = c.self.inside.log; states = c.self.inside.states; windows = c.self.inside.windows.entries; clock = c.self.inside.clock })
      (record { conf = c.self.inside.conf; log = c.append_batches.new.log; states = c.make_table.new.states; windows = c.hand_out.new.windows.entries; clock = c.max-self-inside.result }) refl (read_all g.D.Disk.seen c.self.inside.log c.append_batches.new.log c.append_batches.result c.in_default-append_batches.not-Err c.append_batches.ensures.log)
      c.make_table.ensures.runs c.args.limits c.requires.fetch
      c.self.inside.windows.entries c.prepared.new.windows.entries (λ group. refl) c.in_ok-plan.ensures.held
      c.in_ok-plan.plan (state_for c.self.inside.conf (log_in c.self.inside.log) c.self.inside.states.entries c.args.visit.now.group) c.in_ok-plan.ensures.prepared.is (c.max-self-inside.result + c.self.inside.conf.lock_ms) refl c.hand_out.ensures.held)
      c.make_table.result (c.in_ok-outcome.was ∙ ap (λ (o : ThenOutcome). Ok o) c.in-Done.is) _ refl c.make_table.ensures.made c.self.invariant.within c.self.invariant.hosted c.self.invariant.holds);
  moment = omega (arith, c.self.invariant.moment, c.requires.now, c.max-self-inside.ensures);
  scratch = c.self.invariant.scratch;
  room = subst (λ (n : ℕ). 6000 ≤ n) (sym c.make_table.ensures.room) c.self.invariant.room;
}

pub returns-clause-once : goal.returns-clause-once
returns-clause-once g c =
    let empty = c.in_ok-plan.ensures.prepared.empty in
    let bytes = λ (told : IsTold (g.D.Disk.seen c.self.inside.log.journal.disk).content). c.hand_out.ensures.batches ∙ (c.in_default-append_batches.ensures.bytes told ∙ (ap (λ (b : List ℕ). b ++ numbered_bytes c.self.inside.log.batches c.deref.result.now) empty
    ∙ ap (λ (l : List ℕ). numbered_bytes c.self.inside.log.batches l) c.deref.ensures.value)) in
    let size = c.in_default-append_batches.ensures.size in
    let none : length c.in_ok-plan.out.bytes ≡ 0 = ap length empty in
    let len : length c.hand_out.result.batches ≤ length (numbered_bytes c.self.inside.log.batches c.in_ok-plan.plan.numbers.items) =
    omega (arith, size, none, ap length c.hand_out.ensures.batches, ap (λ (l : List ℕ). length (numbered_bytes c.self.inside.log.batches l)) c.deref.ensures.value) in
    rw (← c.self.view_is) (fetched g.D.Disk.seen g.W.Window.held c.args.now c.args.visit.now _ _ refl (read_all g.D.Disk.seen c.self.inside.log c.append_batches.new.log c.append_batches.result c.in_default-append_batches.not-Err c.append_batches.ensures.log) c.make_table.ensures.runs c.args.limits c.requires.fetch _
    (took_by g.D.Disk.seen g.W.Window.held c.args.now c.args.visit.now _ _ refl (read_all g.D.Disk.seen c.self.inside.log c.append_batches.new.log c.append_batches.result c.in_default-append_batches.not-Err c.append_batches.ensures.log) c.make_table.ensures.runs c.args.limits c.requires.fetch
    c.self.inside.windows.entries c.prepared.new.windows.entries (λ group. refl) c.in_ok-plan.ensures.held
    c.in_ok-plan.plan _ c.in_ok-plan.ensures.prepared.is _ c.hand_out.ensures.ack c.hand_out.ensures.outcome c.hand_out.ensures.grants bytes len (c.max-self-inside.result + c.self.inside.conf.lock_ms)
    refl c.hand_out.ensures.held c.max-self-inside.ensures)
    c.make_table.result (c.in_ok-outcome.was ∙ ap (λ (o : ThenOutcome). Ok o) c.in-Done.is) _ refl c.make_table.ensures.made)
