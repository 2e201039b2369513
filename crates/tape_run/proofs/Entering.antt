-- What is left of each history, and an entry that a shard does next, among the others.
use Rattle.std.proofs.Common.{◌≡◌, ◌≤◌, ◌<◌, ◌∙◌, ℕ, zero, suc, Bool, true, false, cond, List, [], ◌∷◌, length, drop, map, slice_get, slice_index, Option, Some, None, inl, inr, refl, sym, ap, subst, arith}
use Rattle.std.proofs.lemmas.Bool.{cases_Bool, cases_eq, eq-eqb, ne_eqb}
use Rattle.std.proofs.lemmas.Option.{none-some, same_Some}
use Rattle.share_model.specs.declared.visit.ShardId.{ShardId}
use Rattle.share_model.specs.declared.visit.ShardId.TheVariants.{Part as OfPart, Members, Foreign}
use Rattle.share_record.specs.declared.tag.Tag.{Tag}
use Rattle.share_record.specs.declared.tape.LinkTape.{LinkTape}
use Rattle.share_record.specs.declared.tape.ShardTape.{ShardTape}
use Rattle.topic_conf.specs.Configs.{ConfigParts}
use Rattle.broker_model.specs.Shards.{ShardCall, Shards, StepsShards, calls}
use Rattle.broker_model.specs.States.{State, faults_of}
use Rattle.tape_merge.specs.Matching.{shard_of, tags_in, tags_of}
use Rattle.tape_merge.specs.Moves.{one_more}
use Rattle.tape_merge.proofs.Counting.{more_other, more_same}
use Rattle.tape_merge.proofs.Waits.{one_tape}
use Rattle.tape_run.specs.Recordings.{Does, EndGoesOn, Entry, IsHistory, IsRecording, IsTagOf, Standing, behind, ends_between, history_of, shard_called, shard_in, standing, stands}
use Rattle.tape_run.proofs.Moving.{call_stays, ends_behind_call, moves_so}
use Rattle.tape_run.proofs.Owning.{history_owns, owns_once}
use Rattle.tape_run.proofs.Pieces.{IsOf}
use Rattle.tape_run.proofs.Steadying.{call_steady}
use Rattle.tape_run.specs.Sessions.{calls_on, same_shard}

-- ---- lists

module _ {X : Type 0} where
  pub drop_cons : (xs : List X) (n : ℕ) (x : X) → slice_get xs n ≡ Some x → drop n xs ≡ x ∷ drop (suc n) xs
  drop_cons [] n x e = absurd (none-some x e)
  drop_cons (y ∷ ys) zero x e = ap (λ z. z ∷ ys) (same_Some y x e)
  drop_cons (y ∷ ys) (suc n) x e = drop_cons ys n x e

  pub drop_past : (xs : List X) (n : ℕ) → slice_get xs n ≡ None → drop n xs ≡ []
  drop_past [] zero e = refl
  drop_past [] (suc n) e = refl
  drop_past (y ∷ ys) zero e = absurd (none-some y (sym e))
  drop_past (y ∷ ys) (suc n) e = drop_past ys n e

module _ {X Y : Type 0} (f : X → Y) where
  -- what a list maps to an item
  pub mapped_there : (xs : List X) (n : ℕ) (y : Y) → slice_get (map f xs) n ≡ Some y → (x : X) × (slice_get xs n ≡ Some x) × (f x ≡ y)
  mapped_there [] n y e = absurd (none-some y e)
  mapped_there (x ∷ xs) zero y e = (x, refl, same_Some (f x) y e)
  mapped_there (x ∷ xs) (suc n) y e = mapped_there xs n y e

  pub mapped_past : (xs : List X) (n : ℕ) → slice_get (map f xs) n ≡ None → slice_get xs n ≡ None
  mapped_past [] n e = refl
  mapped_past (x ∷ xs) zero e = absurd (none-some (f x) (sym e))
  mapped_past (x ∷ xs) (suc n) e = mapped_past xs n e

-- a tape with a tag is there
pub tape_there : (tapes : List ShardTape) (u n : ℕ) (tag : Tag) → slice_get (tags_of tapes u) n ≡ Some tag
    → (of : ShardTape) × (slice_get tapes u ≡ Some of) × (slice_get of.tags n ≡ Some tag)
tape_there tapes u n tag e = go (slice_get tapes u) refl e where
  go : (o : Option ShardTape) → slice_get tapes u ≡ o → slice_get (tags_in o) n ≡ Some tag
      → (of : ShardTape) × (slice_get tapes u ≡ Some of) × (slice_get of.tags n ≡ Some tag)
  go None is e = absurd (none-some tag e)
  go (Some of) is e = (of, is, e)

shard_there : (tapes : List ShardTape) (u : ℕ) (of : ShardTape) → slice_get tapes u ≡ Some of → shard_of tapes u ≡ Some of.shard
shard_there tapes u of is = ap (λ (o : Option ShardTape). shard_opt o) is where
  shard_opt : Option ShardTape → Option ShardId
  shard_opt None = None
  shard_opt (Some t) = Some t.shard

-- ---- shards

pub same_self_shard : (a : ShardId) → same_shard a a ≡ true
same_self_shard (OfPart n) = eq-eqb n n refl
same_self_shard Members = refl
same_self_shard Foreign = refl

pub other_shard : (a b : ShardId) → (a ≡ b → ⊥) → same_shard a b ≡ false
other_shard (OfPart n) (OfPart m) ne = ne_eqb n m (λ e. ne (ap OfPart e))
other_shard (OfPart n) Members ne = refl
other_shard (OfPart n) Foreign ne = refl
other_shard Members (OfPart m) ne = refl
other_shard Members Members ne = absurd (ne refl)
other_shard Members Foreign ne = refl
other_shard Foreign (OfPart m) ne = refl
other_shard Foreign Members ne = refl
other_shard Foreign Foreign ne = absurd (ne refl)

module _ (conf : ConfigParts) (first : State) (tapes : List ShardTape) (histories : List (List Entry)) (links : List LinkTape)
    (rec : IsRecording conf first tapes histories links) where
  abbrev Faults : List ℕ → ℕ
  Faults = faults_of first

  abbrev History : ℕ → List Entry
  History number = history_of histories number

  first_is : IsOf conf first.machine.shards
  first_is = record { hosts = rec.hosts; topics = rec.topics }

  -- What is left of a history can be done: on the shard as it is now.
  pub record Left (number : ℕ) (tape : ShardTape) (passed : ℕ) (shards : Shards) (ends : List ℕ → ℕ) : Type 0 where
    pub alone : Standing
    pub does : IsHistory tape.shard alone (drop passed (History number))
    pub same : shard_in tape.shard shards ≡ shard_in tape.shard alone.shards
    pub agree : (there : ℕ) (entry : Entry) → passed ≤ there → slice_get (History number) there ≡ Some entry → (name : List ℕ) → calls (Some entry.call) name ≡ true
        → ends name ≡ alone.ends name
    pub last : behind alone (drop passed (History number)) ≡ behind (stands first) (History number)

  -- that of each tape
  abbrev pub AreLeft : List ℕ → Shards → (List ℕ → ℕ) → Type 0
  AreLeft passed shards ends = (number : ℕ) (tape : ShardTape) → slice_get tapes number ≡ Some tape → Left number tape (slice_index passed number) shards ends

  -- the next tag of a tape is that of the next entry
  pub entry_there : (u n : ℕ) (tag : Tag) (of : ShardTape) → slice_get tapes u ≡ Some of → slice_get of.tags n ≡ Some tag
      → (entry : Entry) × (slice_get (History u) n ≡ Some entry) × (entry.tag ≡ tag)
  entry_there u n tag of is e =
      mapped_there (λ (x : Entry). x.tag) (History u) n tag (subst (λ (tags : List Tag). slice_get tags n ≡ Some tag) (sym (rec.each_tape u of is).tags) e)

  -- Of each tape these calls are those that are left of its history, where so many have passed.
  abbrev pub AreCalls : List ℕ → List ShardCall → Type 0
  AreCalls passed calls = (number : ℕ) (tape : ShardTape) → slice_get tapes number ≡ Some tape
      → calls_on tape.shard calls ≡ map (λ (entry : Entry). entry.call) (drop (slice_index passed number) (History number))

  -- An entry is done among the other shards.
  pub record Entered (u : ℕ) (of : ShardTape) (entry : Entry) (passed : List ℕ) (shards : Shards) (ends : List ℕ → ℕ) : Type 0 where
    pub after : Shards
    pub alone : List ℕ → ℕ
    pub tagged : IsTagOf entry.tag entry.now entry.call
    pub called : shard_called entry.call ≡ of.shard
    pub step : StepsShards (standing Faults) (λ name. (ends name, ends_behind_call entry.call ends entry.after.ends name)) entry.now shards entry.call after
    pub agree : (name : List ℕ) → calls (Some entry.call) name ≡ true → ends name ≡ alone name
    pub goes : (name : List ℕ) → EndGoesOn name entry.call (alone name) (entry.after.ends name)
    pub is : IsOf conf after
    pub left : AreLeft (one_more passed u) after (ends_behind_call entry.call ends entry.after.ends)
    pub calls : (later : List ShardCall) → AreCalls (one_more passed u) later → AreCalls passed (entry.call ∷ later)

  module _ (u : ℕ) (of : ShardTape) (entry : Entry) (passed : List ℕ) (shards : Shards) (ends : List ℕ → ℕ) (there : slice_get tapes u ≡ Some of)
      (found : slice_get (History u) (slice_index passed u) ≡ Some entry) where
    -- how the ends stand where the entry's call, or none of it, was on the disk
    end_on : (name : List ℕ) (b : Bool) (now alone new : ℕ) → calls (Some entry.call) name ≡ b → (b ≡ false → now ≡ alone) → (b ≡ false → new ≡ alone)
        → cond b new now ≡ new
    end_on name true now alone new is same still = refl
    end_on name false now alone new is same still = same refl ∙ sym (still refl)

    -- what is left of its own history
    own_left : (st : Left u of (slice_index passed u) shards ends) (d : Does of.shard st.alone entry) (rest : IsHistory of.shard entry.after (drop (suc (slice_index passed u)) (History u)))
        (after : Shards) → shard_in of.shard after ≡ shard_in of.shard entry.after.shards
        → Left u of (suc (slice_index passed u)) after (ends_behind_call entry.call ends entry.after.ends)
    own_left st d rest after same = record {
      alone = entry.after;
      does = rest;
      same = same;
      agree = λ at later le is name on. end_on name (calls (Some entry.call) name) (ends name) (st.alone.ends name) (entry.after.ends name) refl
          (λ not. st.agree at later (omega (arith, le)) is name on) (λ not. (d.ends name).still not);
      last = sym (ap (λ es. behind st.alone es) (drop_cons (History u) (slice_index passed u) entry found)) ∙ st.last;
    }

    -- and of another
    other_left : (number : ℕ) (tape : ShardTape) (there_too : slice_get tapes number ≡ Some tape) (ne : number ≡ u → ⊥) (after : Shards)
        → shard_in tape.shard after ≡ shard_in tape.shard shards → Left number tape (slice_index passed number) shards ends
        → Left number tape (slice_index passed number) after (ends_behind_call entry.call ends entry.after.ends)
    other_left number tape there_too ne after same st = record {
      alone = st.alone;
      does = st.does;
      same = same ∙ st.same;
      agree = λ at later le is name on. elim (cases_Bool (calls (Some entry.call) name)) [
        | inl called ↦
            let one : of.shard ≡ tape.shard = owns_once conf rec.conf_is name of.shard tape.shard
            (history_owns conf of.shard name (History u) (stands first) first_is (rec.each_tape u of there).does (slice_index passed u) entry found called)
            (history_owns conf tape.shard name (History number) (stands first) first_is (rec.each_tape number tape there_too).does at later is on) in
            absurd (ne (one_tape tapes rec.apart number u of.shard (shard_there tapes number tape there_too ∙ ap (λ s. Some s) (sym one)) (shard_there tapes u of there)))
        | inr not ↦ ap (λ b. cond b (entry.after.ends name) (ends name)) not ∙ st.agree at later le is name on
      ];
      last = st.last;
    }

    -- the calls that are left of all histories
    calls_left : (within : u < length passed) → shard_called entry.call ≡ of.shard → (later : List ShardCall) → AreCalls (one_more passed u) later → AreCalls passed (entry.call ∷ later)
    calls_left within called later are number tape there_too = elim (cases_eq number u) [
      | inl same ↦
          let tape_is : of ≡ tape = same_Some of tape (sym there ∙ (ap (λ n. slice_get tapes n) (sym same) ∙ there_too)) in
          let on : same_shard (shard_called entry.call) tape.shard ≡ true =
          subst (λ (s : ShardId). same_shard (shard_called entry.call) s ≡ true) (called ∙ ap (λ (t : ShardTape). t.shard) tape_is) (same_self_shard (shard_called entry.call)) in
          let count : slice_index (one_more passed u) number ≡ suc (slice_index passed u) =
          ap (λ n. slice_index (one_more passed u) n) same ∙ more_same passed u within ∙ omega arith in
          let rest : calls_on tape.shard later ≡ map (λ (x : Entry). x.call) (drop (suc (slice_index passed u)) (History u)) =
          are number tape there_too ∙ (ap (λ n. map (λ (x : Entry). x.call) (drop n (History number))) count
          ∙ ap (λ n. map (λ (x : Entry). x.call) (drop (suc (slice_index passed u)) (History n))) same) in
          ap (λ b. cond b (entry.call ∷ calls_on tape.shard later) (calls_on tape.shard later)) on
          ∙ (ap (λ cs. entry.call ∷ cs) rest
          ∙ (sym (ap (λ es. map (λ (x : Entry). x.call) es) (drop_cons (History u) (slice_index passed u) entry found))
          ∙ ap (λ n. map (λ (x : Entry). x.call) (drop (slice_index passed n) (History n))) (sym same)))
      | inr ne ↦
          let off : same_shard (shard_called entry.call) tape.shard ≡ false =
          other_shard (shard_called entry.call) tape.shard (λ e. ne (one_tape tapes rec.apart number u of.shard
          (shard_there tapes number tape there_too ∙ ap (λ s. Some s) (sym e ∙ called)) (shard_there tapes u of there))) in
          ap (λ b. cond b (entry.call ∷ calls_on tape.shard later) (calls_on tape.shard later)) off
          ∙ (are number tape there_too ∙ ap (λ n. map (λ (x : Entry). x.call) (drop n (History number))) (more_other passed u number ne))
    ]

    entered_by : (within : u < length passed) → IsOf conf shards → AreLeft passed shards ends → (st : Left u of (slice_index passed u) shards ends)
        → Does of.shard st.alone entry × IsHistory of.shard entry.after (drop (suc (slice_index passed u)) (History u))
        → Entered u of entry passed shards ends
    entered_by within is left st does =
        let d = does.0 in
        let agree : (name : List ℕ) → calls (Some entry.call) name ≡ true → ends name ≡ st.alone.ends name =
        λ name on. st.agree (slice_index passed u) entry (omega arith) found name on in
        let steady = call_steady d.counts Faults (ends_between st.alone entry.after) entry.now st.alone.shards entry.after.shards entry.call d.fine d.step in
        let m = moves_so (standing Faults) entry.now st.alone entry.after shards ends entry.call agree
        (subst (λ (x : ShardId). shard_in x shards ≡ shard_in x st.alone.shards) (sym d.called) st.same) steady in
        let mine : shard_in of.shard m.shards ≡ shard_in of.shard entry.after.shards =
        subst (λ (x : ShardId). shard_in x m.shards ≡ shard_in x entry.after.shards) d.called m.same in
        record {
          after = m.shards;
          alone = st.alone.ends;
          tagged = d.tagged;
          called = d.called;
          step = m.steps;
          agree = agree;
          goes = d.ends;
          is = call_stays conf (standing Faults) (λ name. (ends name, ends_behind_call entry.call ends entry.after.ends name)) entry.now shards m.shards entry.call m.steps is;
          left = λ number tape there_too. elim (cases_eq number u) [
            | inl same ↦
                let own : Left u of (suc (slice_index passed u)) m.shards (ends_behind_call entry.call ends entry.after.ends) = own_left st d does.1 m.shards mine in
                let count : suc (slice_index passed u) ≡ slice_index (one_more passed u) number =
                sym (ap (λ n. slice_index (one_more passed u) n) same ∙ more_same passed u within ∙ omega arith) in
                let tape_is : of ≡ tape = same_Some of tape (sym there ∙ (ap (λ n. slice_get tapes n) (sym same) ∙ there_too)) in
                subst (λ (n : ℕ). Left number tape n m.shards (ends_behind_call entry.call ends entry.after.ends)) count
                (subst (λ (t : ShardTape). Left number t (suc (slice_index passed u)) m.shards (ends_behind_call entry.call ends entry.after.ends)) tape_is
                (subst (λ (n : ℕ). Left n of (suc (slice_index passed u)) m.shards (ends_behind_call entry.call ends entry.after.ends)) (sym same) own))
            | inr ne ↦
                let stays : shard_in tape.shard m.shards ≡ shard_in tape.shard shards =
                m.others tape.shard (λ e. ne (one_tape tapes rec.apart number u of.shard
                (shard_there tapes number tape there_too ∙ ap (λ s. Some s) (e ∙ d.called)) (shard_there tapes u of there))) in
                subst (λ (n : ℕ). Left number tape n m.shards (ends_behind_call entry.call ends entry.after.ends)) (sym (more_other passed u number ne))
                (other_left number tape there_too ne m.shards stays (left number tape there_too))
          ];
          calls = calls_left within d.called;
        }

    pub entered : (within : u < length passed) → IsOf conf shards → AreLeft passed shards ends → Entered u of entry passed shards ends
    entered within is left =
        let st = left u of there in
        entered_by within is left st (subst (λ (es : List Entry). IsHistory of.shard st.alone es) (drop_cons (History u) (slice_index passed u) entry found) st.does)
