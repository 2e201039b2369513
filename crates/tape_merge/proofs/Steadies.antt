-- Which links are ready, by what calls answer.
use Rattle.std.proofs.Common.{◌≡◌, ◌<◌, ℕ, false, cond, List, length, Option, Some, None, IfNone, sym, subst, nat_cmp, is_gt}
use Rattle.std.specs.List.{list_any}
use Rattle.std.specs.BTreeMap.{is_at}
use Rattle.share_record.specs.declared.tape.LinkTape.{LinkTape}
use Rattle.share_record.specs.declared.tape.ShardTape.{ShardTape}
use Rattle.tape_merge.specs.declared.moves.Move.{Move}
use Rattle.tape_merge.specs.declared.moves.Move.TheVariants.{Alone}
use Rattle.tape_merge.specs.Moves.{CanGo, Counts, GoesAlone, IsNext, StepGoes, after}
use Rattle.tape_merge.specs.Readiness.{Any, Gains, Has, IsNamed, IsOther, IsReadyIf, MayGo, Touched}
use Rattle.tape_merge.proofs.Goings.{Goes, GoesNot}
use Rattle.tape_merge.proofs.Readies.{gains_as, named_one, next_alone_is, next_step_is, none_goes, none_may, none_ready, others_ready, ready_behind}

module _ (tapes : List ShardTape) (links : List LinkTape) (c : Counts) (link : ℕ) where
  pub may_by : (goes : Move) → Goes tapes links c link goes → MayGo tapes links c link
  may_by goes h = (h.0, h.2)

  pub none_by : GoesNot tapes links c link → (k : ℕ) → k ≡ link → MayGo tapes links c k → ⊥
  none_by none k e may = none may.0 (subst (λ x. StepGoes tapes links c x may.0) e may.1)

  pub is_next : (goes : Move) (ready rest : List ℕ) → Goes tapes links c link goes → IsReadyIf Any tapes links c ready → ((q : ℕ) → Has ready q → is_gt (nat_cmp link q) ≡ false)
      → IsNext tapes links c goes
  is_next goes ready rest h it least = subst (λ m. IsNext tapes links c m) (sym h.1) (next_step_is tapes links c ready rest link h.0 it least h.2)

  pub are_others : (goes : Move) (ready rest : List ℕ) → Goes tapes links c link goes → IsReadyIf Any tapes links c ready
      → ((q : ℕ) → list_any (is_at (nat_cmp q)) rest ≡ cond (is_at (nat_cmp link) q) false (list_any (is_at (nat_cmp q)) ready))
      → IsReadyIf (IsOther goes) tapes links c rest
  are_others goes ready rest h it is = subst (λ m. IsReadyIf (IsOther m) tapes links c rest) (sym h.1) (others_ready tapes links c ready rest link h.0 it is)

pub named_as : (tapes : List ShardTape) (links : List LinkTape) (c : Counts) (tape link : ℕ) (old new : List ℕ) → IsNamed tapes c tape link
    → Gains (λ k. k ≡ link) tapes links c old new → Gains (IsNamed tapes c tape) tapes links c old new
named_as tapes links c tape link old new named g =
    gains_as tapes links c (λ k. k ≡ link) (IsNamed tapes c tape) old new (λ k e. subst (λ x. IsNamed tapes c tape x) (sym e) named)
    (λ k other. named_one tapes links c tape link k named other) g

-- behind a move, at counts that are those behind it
pub ready_then : (tapes : List ShardTape) (links : List LinkTape) (d : Counts) (m : Move) (old new : List ℕ) → Gains (Touched tapes d m) tapes links d old new
    → (c : Counts) → d ≡ after c m → CanGo tapes links c m → IsReadyIf (IsOther m) tapes links c old → IsReadyIf Any tapes links d new
ready_then tapes links d m old new gains c e can ready =
    subst (λ x. IsReadyIf Any tapes links x new) (sym e)
    (ready_behind tapes links c old new m can ready (subst (λ x. Gains (Touched tapes x m) tapes links x old new) e gains))

-- ---- what goes next, by what is taken from the set

pub if_none : {X : Type 0} (r : Option X) {P Q : Type 0} → IfNone r P → (P → Q) → IfNone r Q
if_none None h f = f h
if_none (Some x) h f = tt

pub not_none : {X : Type 0} (r : Option X) {P : Type 0} (Q : Type 0) → IfNone r P → (P → ⊥) → IfNone r Q
not_none None Q h f = absurd (f h)
not_none (Some x) Q h f = tt

module _ (tapes : List ShardTape) (links : List LinkTape) (c : Counts) where
  pub some_may : (ready : List ℕ) (link : ℕ) → IsReadyIf Any tapes links c ready → Has ready link → GoesNot tapes links c link → ⊥
  some_may ready link it has none = let may = (it.only link has).1 in none may.0 may.1

  abbrev pub GoesFirst : Move → Type 0
  GoesFirst move = (tape : ℕ) × (move ≡ Alone tape) × GoesAlone tapes c tape × ((other : ℕ) → other < tape → GoesAlone tapes c other → ⊥)

  pub alone_next : (ready : List ℕ) → IsReadyIf Any tapes links c ready → (0 < length ready → ⊥) → (move : Move) → GoesFirst move → IsNext tapes links c move
  alone_next ready it empty move h =
      subst (λ m. IsNext tapes links c m) (sym h.1) (next_alone_is tapes links c (none_may tapes links c ready it empty) h.0 h.2 h.3)

  pub alone_others : (ready rest : List ℕ) → rest ≡ ready → IsReadyIf Any tapes links c ready → (0 < length ready → ⊥) → (move : Move) → GoesFirst move
      → IsReadyIf (IsOther move) tapes links c rest
  alone_others ready rest same it empty move h =
      subst (λ m. IsReadyIf (IsOther m) tapes links c rest) (sym h.1)
      (subst (λ keys. IsReadyIf (IsOther (Alone h.0)) tapes links c keys) (sym same)
      (none_ready tapes links c (none_may tapes links c ready it empty) ready empty h.0))

  pub nothing_goes : (ready : List ℕ) → IsReadyIf Any tapes links c ready → (0 < length ready → ⊥) → ((tape : ℕ) → GoesAlone tapes c tape → ⊥)
      → (move : Move) → CanGo tapes links c move → ⊥
  nothing_goes ready it empty alone = none_goes tapes links c (none_may tapes links c ready it empty) alone
