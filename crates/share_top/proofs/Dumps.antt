-- What is stored, as text, piece by piece, and what it says of the machine.
use Rattle.std.proofs.Common.{◌≡◌, ◌≢◌, refl, sym, ap, subst, ◌∙◌, ℕ, List, [], ◌∷◌, ◌++◌, Ok, Err, length, append_assoc, append-nil, codes, arith}
use Rattle.std.specs.Prelude.{Result, OnOk}
use Rattle.std.specs.declared.option.Option.{Option}
use Rattle.std.specs.List.{AllZip, flat_map}
use Rattle.std.specs.Io.KnownBytes.{Appends}
use Rattle.edge_io.specs.Views.{DiskView}
use Rattle.text_pieces.specs.declared.fault.GenFault.{GenFault}
use Rattle.text_pieces.specs.declared.fault.GenFault.TheVariants as gen_fault
use Rattle.text_pieces.specs.Pieces.{WritesPieces}
use Rattle.text_pieces.proofs.Going.{IsSoFar, failed, handed, hands_all, said}
use Rattle.broker_hosts.specs.declared.slot.ForeignSlot.{ForeignSlot}
use Rattle.broker_hosts.specs.declared.slot.ForeignSlot.TheVariants as foreign
use Rattle.broker_hosts.specs.declared.slot.PartSlot.{PartSlot}
use Rattle.broker_hosts.specs.declared.slot.PartState.{PartState}
use Rattle.broker_hosts.specs.declared.slot.PartState.TheVariants as part
use Rattle.broker_hosts.specs.Hosts.{AreOpenParts, IsPartSlot, IsPartState, IsSlot, states_at, states_in}
use Rattle.broker_core.specs.Cores.{CoreParts, IsCore}
use Rattle.broker_model.specs.Machine.{Machine}
use Rattle.broker_model.specs.Shards.{HostedPart}
use Rattle.foreign_coord.specs.Shards.{ForeignShardState}
use Rattle.share_model.specs.ForeignRules.{ShareStates}
use Rattle.share_model.specs.Keys.{KeyParts}
use Rattle.share_model.specs.ShareStates.{ShareState}
use Rattle.state_text.specs.Texts.{foreign_text, table_text}
use Rattle.share_part.specs.Hosting.{PartConfParts}
use Rattle.share_part.specs.Shards.{PartShardState}
use Rattle.share_top.specs.declared.status.Status.{Status}
use Rattle.share_top.specs.declared.status.Status.TheVariants.{Damaged, Device, Done, NoMemory, WriteFault}
use Rattle.share_top.specs.Changes.{OutputChange}
use Rattle.share_top.specs.Dumping.{IsWritten, dump_text, foreign_texts, part_text, tables_text}
use Rattle.share_top.specs.Sessions.{WritesFrontOf}
use Rattle.share_top.specs.Slots.{core_text, slot_text}

abbrev Held : Type 0
Held = Option (List ℕ)

-- ---- one text behind the other

-- what was written so far, with nothing waiting, and one text more
pub one_more : {x : Unit {0}} (held now next : Held) (start before after : ℕ) (text left whole : List ℕ) → IsSoFar held now [] (text ++ left) whole → before ≡ start
    → WritesPieces {T = Unit {0}} now next before after text (Ok x) → IsSoFar held next [] left whole
one_more {x} held now next start before after text left whole p same w =
    handed held now next text [] left whole (said held now [] text left whole p) (hands_all now next before after text [] (Ok x) w refl).done

pub one_failed : (held now next : Held) (start before after : ℕ) (text left whole : List ℕ) (fault : GenFault) → IsSoFar held now [] (text ++ left) whole → before ≡ start
    → WritesPieces {T = Unit {0}} now next before after text (Err fault) → WritesPieces {T = Unit {0}} held next start after whole (Err fault)
one_failed held now next start before after text left whole fault p same w =
    failed held now next start before after text [] left whole fault (said held now [] text left whole p) same
    (hands_all now next before after text [] (Err fault) w tt)

pub all_written : (held now : Held) (start faults : ℕ) (whole : List ℕ) → IsSoFar held now [] [] whole → faults ≡ start
    → WritesPieces {T = Unit {0}} held now start faults whole (Ok tt)
all_written held now start faults whole p same =
    let all : p.front ≡ whole = sym (append-nil p.front) ∙ p.parts in
    record {
      whole = subst (λ (l : List ℕ). Appends held now l) all p.grown;
      front = ([], record { front = p.front; parts = append-nil p.front ∙ all; grown = p.grown });
      cause = λ e. absurd (let never : ⊥ = cc in never);
      later = omega (arith, same);
      counted = λ _. same;
    }

-- two texts, the first of which was written
pub both : (held now next : Held) (start before after : ℕ) (first second : List ℕ) (result : Result (Unit {0}) GenFault)
    → WritesPieces {T = Unit {0}} held now start before first (Ok tt) → WritesPieces {T = Unit {0}} now next before after second result
    → WritesPieces {T = Unit {0}} held next start after (first ++ second) result
both held now next start before after first second result p q =
    let same : before ≡ start = p.counted (λ e. absurd (let never : ⊥ = cc in never)) in
    let so_far : IsSoFar held now [] (second ++ []) (first ++ second) = record {
      front = first;
      grown = p.whole;
      parts = ap (λ (l : List ℕ). first ++ l) (append-nil second);
    } in
    go result so_far same q where
      go : (r : Result (Unit {0}) GenFault) → IsSoFar held now [] (second ++ []) (first ++ second) → before ≡ start
          → WritesPieces {T = Unit {0}} now next before after second r → WritesPieces {T = Unit {0}} held next start after (first ++ second) r
      go (Ok tt) p same q = all_written held next start after (first ++ second) (one_more held now next start before after second [] (first ++ second) p same q)
          (q.counted (λ e. absurd (let never : ⊥ = cc in never)) ∙ same)
      go (Err fault) p same q = one_failed held now next start before after second [] (first ++ second) fault p same q

-- the second text of which nothing was written
pub first_failed : (held now : Held) (start after : ℕ) (first second : List ℕ) (fault : GenFault)
    → WritesPieces {T = Unit {0}} held now start after first (Err fault) → WritesPieces {T = Unit {0}} held now start after (first ++ second) (Err fault)
first_failed held now start after first second fault p = record {
  whole = tt;
  front = (
    p.front.0 ++ second,
    record {
      front = p.front.1.front;
      parts = sym (append_assoc p.front.1.front p.front.0 second) ∙ ap (λ (l : List ℕ). l ++ second) p.front.1.parts;
      grown = p.front.1.grown;
    },
  );
  cause = p.cause;
  later = p.later;
  counted = p.counted;
}

-- ---- what a broker has stored is what its machine has

module _ {D : Type 0} (seen : D → DiskView) where
  states_are : (conf : PartConfParts) (state : PartState D) (shard : PartShardState) → IsPartState seen conf state shard → states_in state ≡ shard.states
  states_are conf (part.Open s) shard p = sym p.carries.states
  states_are conf (part.Shut log first second) shard p = absurd p
  states_are conf part.Gone shard p = absurd p

  foreign_are : (slot : ForeignSlot D) (shard : ForeignShardState) → IsSlot seen slot shard → states_at slot ≡ shard.states
  foreign_are (foreign.Open store) shard p = sym p.carries.states
  foreign_are (foreign.Shut first second) shard p = absurd p
  foreign_are foreign.Gone shard p = absurd p

  slot_is : (slot : PartSlot D) (p : HostedPart) → IsPartSlot seen slot p → slot_text slot ≡ part_text p
  slot_is slot p is =
      ap (λ (s : ShareStates). tables_text slot.topic slot.conf.part s) (states_are slot.conf slot.state p.shard is.state)
      ∙ λ i. tables_text (sym is.hosted i).topic (sym is.hosted i).conf.part p.shard.states

  slots_are : (slots : List (PartSlot D)) (parts : List HostedPart) → AllZip (IsPartSlot seen) slots parts → flat_map slot_text slots ≡ flat_map part_text parts
  slots_are [] [] z = refl
  slots_are [] (p ∷ parts) z = absurd z
  slots_are (s ∷ slots) [] z = absurd z
  slots_are (s ∷ slots) (p ∷ parts) z = λ i. slot_is s p z.0 i ++ slots_are slots parts z.1 i

  pub text_is : (core : CoreParts D) (m : Machine) → IsCore seen core m → core_text core.hosts ≡ dump_text m.shards
  text_is core m k = λ i. slots_are core.hosts.parts m.shards.parts k.shards.parts i
      ++ (foreign_texts (foreign_are core.hosts.foreign m.shards.foreign k.shards.foreign i) ++ (codes "end" ++ 10 ∷ []))

-- ---- the status of a text

pub is_written : (result : Result (Unit {0}) GenFault) (status : Status) (output : OutputChange) (text : List ℕ) (Dumped : (List ℕ → Type 0) → Type 0)
    → WritesPieces {T = Unit {0}} output.held output.held_after output.faults output.faults_after text result
    → ((Says : List ℕ → Type 0) → Says text → Dumped Says) → OnOk result (status ≡ Done)
    → (result ≡ Err gen_fault.Write → status ≡ WriteFault) → (result ≡ Err gen_fault.NoMemory → status ≡ NoMemory) → IsWritten output Dumped status
is_written (Ok x) status output text Dumped w dumped done write memory =
    subst (λ (s : Status). IsWritten output Dumped s) (sym done) (dumped (Appends output.held output.held_after) w.whole)
is_written (Err gen_fault.Write) status output text Dumped w dumped done write memory =
    subst (λ (s : Status). IsWritten output Dumped s) (sym (write refl)) (w.cause refl, dumped (λ t. WritesFrontOf t output) w.front)
is_written (Err gen_fault.NoMemory) status output text Dumped w dumped done write memory =
    subst (λ (s : Status). IsWritten output Dumped s) (sym (memory refl)) (dumped (λ t. WritesFrontOf t output) w.front)

pub none_of_disks : (result : Result (Unit {0}) GenFault) (status : Status) → OnOk result (status ≡ Done)
    → (result ≡ Err gen_fault.Write → status ≡ WriteFault) → (result ≡ Err gen_fault.NoMemory → status ≡ NoMemory) → (status ≢ Damaged) × (status ≢ Device)
none_of_disks (Ok x) status done write memory = (λ e. absurd (let never : ⊥ = cc in never), λ e. absurd (let never : ⊥ = cc in never))
none_of_disks (Err gen_fault.Write) status done write memory =
    let is = write refl in (λ e. absurd (let never : ⊥ = cc in never), λ e. absurd (let never : ⊥ = cc in never))
none_of_disks (Err gen_fault.NoMemory) status done write memory =
    let is = memory refl in (λ e. absurd (let never : ⊥ = cc in never), λ e. absurd (let never : ⊥ = cc in never))

-- ---- one table, key or partition more

module _ (held now next : Held) (start before after : ℕ) (whole : List ℕ) (same : before ≡ start) where
  abbrev Writes : List ℕ → Result (Unit {0}) GenFault → Type 0
  Writes text result = WritesPieces {T = Unit {0}} now next before after text result

  abbrev Ends : Result (Unit {0}) GenFault → Type 0
  Ends result = WritesPieces {T = Unit {0}} held next start after whole result

  module _ (topic : List ℕ) (n : ℕ) (states rest : ShareStates) (key : KeyParts) (view : ShareState) (group name : List ℕ)
      (p : IsSoFar held now [] (tables_text topic n states) whole) (split : states ≡ (key, view) ∷ rest) (group_is : group ≡ key.group) (name_is : name ≡ topic) where
    here : IsSoFar held now [] (table_text key.group topic n view ++ tables_text topic n rest) whole
    here = subst (λ (l : ShareStates). IsSoFar held now [] (tables_text topic n l) whole) split p

    text_here : table_text group name n view ≡ table_text key.group topic n view
    text_here = λ i. table_text (group_is i) (name_is i) n view

    pub table_more : (x : Unit {0}) → Writes (table_text group name n view) (Ok x) → IsSoFar held next [] (tables_text topic n rest) whole
    table_more x w = one_more held now next start before after (table_text key.group topic n view) (tables_text topic n rest) whole here same
        (subst (λ (l : List ℕ). Writes l (Ok x)) text_here w)

    pub table_failed : (fault : GenFault) → Writes (table_text group name n view) (Err fault) → Ends (Err fault)
    table_failed fault w = one_failed held now next start before after (table_text key.group topic n view) (tables_text topic n rest) whole fault here same
        (subst (λ (l : List ℕ). Writes l (Err fault)) text_here w)

  module _ (states rest : ShareStates) (key : KeyParts) (view : ShareState)
      (p : IsSoFar held now [] (foreign_texts states) whole) (split : states ≡ (key, view) ∷ rest) where
    key_here : IsSoFar held now [] (foreign_text key view ++ foreign_texts rest) whole
    key_here = subst (λ (l : ShareStates). IsSoFar held now [] (foreign_texts l) whole) split p

    pub key_more : (x : Unit {0}) → Writes (foreign_text key view) (Ok x) → IsSoFar held next [] (foreign_texts rest) whole
    key_more x w = one_more held now next start before after (foreign_text key view) (foreign_texts rest) whole key_here same w

    pub key_failed : (fault : GenFault) → Writes (foreign_text key view) (Err fault) → Ends (Err fault)
    key_failed fault w = one_failed held now next start before after (foreign_text key view) (foreign_texts rest) whole fault key_here same w

  module _ {D : Type 0} (slots others : List (PartSlot D)) (slot : PartSlot D) (n : ℕ) (states : ShareStates)
      (p : IsSoFar held now [] (flat_map slot_text slots) whole) (split : slots ≡ slot ∷ others) (n_is : n ≡ slot.conf.part) (states_is : states ≡ states_in slot.state) where
    slot_here : IsSoFar held now [] (slot_text slot ++ flat_map slot_text others) whole
    slot_here = subst (λ (l : List (PartSlot D)). IsSoFar held now [] (flat_map slot_text l) whole) split p

    slot_text_here : tables_text slot.topic n states ≡ slot_text slot
    slot_text_here = λ i. tables_text slot.topic (n_is i) (states_is i)

    pub slot_more : (x : Unit {0}) → Writes (tables_text slot.topic n states) (Ok x) → IsSoFar held next [] (flat_map slot_text others) whole
    slot_more x w = one_more held now next start before after (slot_text slot) (flat_map slot_text others) whole slot_here same
        (subst (λ (l : List ℕ). Writes l (Ok x)) slot_text_here w)

    pub slot_failed : (fault : GenFault) → Writes (tables_text slot.topic n states) (Err fault) → Ends (Err fault)
    slot_failed fault w = one_failed held now next start before after (slot_text slot) (flat_map slot_text others) whole fault slot_here same
        (subst (λ (l : List ℕ). Writes l (Err fault)) slot_text_here w)

pub slots_end : {D : Type 0} (held now : Held) (start faults : ℕ) (slots : List (PartSlot D)) (whole : List ℕ) → IsSoFar held now [] (flat_map slot_text slots) whole
    → length slots ≡ 0 → faults ≡ start → WritesPieces {T = Unit {0}} held now start faults whole (Ok tt)
slots_end held now start faults [] whole p none same = all_written held now start faults whole p same
slots_end held now start faults (s ∷ slots) whole p none same = absurd (omega (arith, none))

pub others_open : {D : Type 0} (slots others : List (PartSlot D)) (slot : PartSlot D) → slots ≡ slot ∷ others → AreOpenParts slots → AreOpenParts others
others_open {D} slots others slot split all = (subst (λ (l : List (PartSlot D)). AreOpenParts l) split all).1
