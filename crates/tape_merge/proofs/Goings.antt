-- Whether the next step of a link may go, by what is read of it.
use Rattle.std.proofs.Common.{◌≡◌, ◌∙◌, ◌↔◌, ℕ, Bool, true, false, List, Option, Some, None, IsTrue, slice_index, refl, sym, ap, subst}
use Rattle.std.proofs.lemmas.Bool.{false≢true}
use Rattle.std.proofs.lemmas.Option.{none-some, same_Some}
use Rattle.share_model.specs.declared.visit.ShardId.{ShardId}
use Rattle.share_record.specs.declared.tag.Tag.{Tag}
use Rattle.share_record.specs.declared.tag.Tag.TheVariants.{Part}
use Rattle.share_record.specs.declared.tape.LinkStep.{LinkStep}
use Rattle.share_record.specs.declared.tape.LinkTape.{LinkTape}
use Rattle.share_record.specs.declared.tape.ShardTape.{ShardTape}
use Rattle.tape_merge.specs.declared.moves.Move.{Move}
use Rattle.tape_merge.specs.declared.moves.Move.TheVariants.{Steps}
use Rattle.tape_merge.specs.Matching.{AreApart, shard_of}
use Rattle.tape_merge.specs.Moves.{Counts, GoesAlone, IsAlone, IsDueOn, StepGoes, next_step, next_tag}
use Rattle.tape_merge.proofs.Waits.{one_tape}

module _ (tapes : List ShardTape) (links : List LinkTape) (c : Counts) (link : ℕ) where
  abbrev pub Goes : Move → Type 0
  Goes move = (tape : Option ℕ) × (move ≡ Steps link tape) × StepGoes tapes links c link tape

  abbrev pub GoesNot : Type 0
  GoesNot = (tape : Option ℕ) → StepGoes tapes links c link tape → ⊥

  pub not_there : None ≡ next_step links c link → GoesNot
  not_there none tape can = none-some can.0 (none ∙ can.1)

  module _ (step : LinkStep) (is : Some step ≡ next_step links c link) where
    pub free_goes : step.shard ≡ None → Goes (Steps link None)
    free_goes none = (None, refl, (step, sym is, subst (λ o. IsDueOn tapes c link o None) (sym none) tt))

    module _ (shard : ShardId) (asks : step.shard ≡ Some shard) where
      due : (other : LinkStep) (tape : Option ℕ) → next_step links c link ≡ Some other → IsDueOn tapes c link other.shard tape → IsDueOn tapes c link (Some shard) tape
      due other tape h d = subst (λ o. IsDueOn tapes c link o tape) (ap (λ (s : LinkStep). s.shard) (same_Some other step (sym h ∙ sym is)) ∙ asks) d

      not_asked_on : (tape : Option ℕ) → IsDueOn tapes c link (Some shard) tape → ((t : ℕ) → shard_of tapes t ≡ Some shard → ⊥) → ⊥
      not_asked_on None d none = d
      not_asked_on (Some t) d none = none t d.0

      pub not_asked : ((t : ℕ) → shard_of tapes t ≡ Some shard → ⊥) → GoesNot
      not_asked none tape can = not_asked_on tape (due can.0 tape can.1 can.2) none

      tag_on : (apart : AreApart tapes) (t : ℕ) → shard_of tapes t ≡ Some shard → (tape : Option ℕ) → IsDueOn tapes c link (Some shard) tape
          → next_tag tapes c t ≡ Some (Part link (slice_index c.gone link))
      tag_on apart t of None d = absurd d
      tag_on apart t of (Some u) d = subst (λ x. next_tag tapes c x ≡ Some (Part link (slice_index c.gone link))) (one_tape tapes apart u t shard d.0 of) d.1

      pub not_tagged : AreApart tapes → (t : ℕ) → shard_of tapes t ≡ Some shard → None ≡ next_tag tapes c t → GoesNot
      not_tagged apart t of none tape can = none-some (Part link (slice_index c.gone link)) (none ∙ tag_on apart t of tape (due can.0 tape can.1 can.2))

      pub not_due : AreApart tapes → (t : ℕ) → shard_of tapes t ≡ Some shard → (tag : Tag) → Some tag ≡ next_tag tapes c t → (named : Bool) (gone : ℕ)
          → (IsTrue named ↔ (tag ≡ Part link gone)) → gone ≡ slice_index c.gone link → named ≡ false → GoesNot
      not_due apart t of tag next named gone iff same fails tape can =
          let mine = same_Some tag (Part link (slice_index c.gone link)) (next ∙ tag_on apart t of tape (due can.0 tape can.1 can.2)) in
          false≢true (sym fails ∙ iff.1 (mine ∙ ap (λ n. Part link n) (sym same)))

      pub tagged_goes : (t : ℕ) → shard_of tapes t ≡ Some shard → (tag : Tag) → Some tag ≡ next_tag tapes c t → (named : Bool) (gone : ℕ)
          → (IsTrue named ↔ (tag ≡ Part link gone)) → gone ≡ slice_index c.gone link → named ≡ true → Goes (Steps link (Some t))
      tagged_goes t of tag next named gone iff same holds =
          let mine : next_tag tapes c t ≡ Some (Part link (slice_index c.gone link)) = sym next ∙ ap (λ x. Some x) (iff.0 holds ∙ ap (λ n. Part link n) same) in
          (Some t, refl, (step, sym is, subst (λ o. IsDueOn tapes c link o (Some t)) (sym asks) (of, mine)))

module _ (tapes : List ShardTape) (c : Counts) (tape : ℕ) where
  pub alone_none : None ≡ next_tag tapes c tape → IsTrue false ↔ GoesAlone tapes c tape
  alone_none none = ((λ fails. absurd (false≢true fails)), (λ goes. absurd (none-some goes.0 (none ∙ goes.1))))

  pub alone_if : (tag : Tag) → Some tag ≡ next_tag tapes c tape → (alone : Bool) → (IsTrue alone ↔ IsAlone tag) → IsTrue alone ↔ GoesAlone tapes c tape
  alone_if tag is alone iff = ((λ holds. (tag, sym is, iff.0 holds)), (λ goes. iff.1 (subst (λ t. IsAlone t) (same_Some goes.0 tag (sym goes.1 ∙ sym is)) goes.2)))
