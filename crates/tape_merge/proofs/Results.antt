-- A merge that goes to its end gives a session.
use Rattle.std.proofs.Common.{◌≡◌, ◌++◌, ◌∙◌, ℕ, List, Result, Ok, Err, IfOk, ap, subst}
use Rattle.session_script.specs.declared.event.Event.{Event}
use Rattle.topic_conf.specs.declared.topic.Topic.{Topic}
use Rattle.share_record.specs.declared.tape.LinkTape.{LinkTape}
use Rattle.share_record.specs.declared.tape.ShardTape.{ShardTape}
use Rattle.tape_merge.specs.declared.moves.Move.{Move}
use Rattle.tape_merge.specs.declared.fault.MergeFault.{MergeFault}
use Rattle.tape_merge.specs.declared.fault.MergeFault.TheVariants.{Unmatched, Tangled}
use Rattle.tape_merge.specs.declared.place.Place.{Place}
use Rattle.tape_merge.specs.Matching.{AreMatched, IsFirstUnmatched, IsLeastOfCycle}
use Rattle.tape_merge.specs.Merges.{IsMerge}
use Rattle.tape_merge.specs.Moves.{Counts, GoOn, begin}
use Rattle.tape_merge.specs.Telling.{openings, told}
use Rattle.tape_merge.specs.Waiting.{HasLeft, IsStuck}
use Rattle.tape_merge.proofs.Rounds.{untangled}
use Rattle.tape_merge.proofs.Waits.{done, none_next}

pub is_session : (topics : List Topic) (tapes : List ShardTape) (links : List LinkTape) (last : Counts) (events first : List Event) → first ≡ openings 0 links
    → (moves : List Move) × GoOn tapes links (begin tapes links) moves last × (events ≡ first ++ told topics tapes links (begin tapes links) moves)
    → IsStuck tapes links last → AreMatched tapes links → ((link : ℕ) → HasLeft links last link → ⊥)
    → IsMerge topics tapes links events × AreMatched tapes links × ((place : Place) → IsLeastOfCycle tapes links place → ⊥)
is_session topics tapes links last events first opened goes stuck matched none =
    let all = done tapes links last matched stuck (none_next links last none) in (
      record {
        moves = goes.0;
        last = last;
        go = goes.1;
        done = all;
        tells = goes.2 ∙ ap (λ x. x ++ told topics tapes links (begin tapes links) goes.0) opened;
      },
      matched,
      λ place cycle. untangled tapes links last goes.0 goes.1 all place cycle,
    )

pub unmatched_as : {T : Type 0} (tapes : List ShardTape) (links : List LinkTape) (p : Place) → IsFirstUnmatched tapes links p → (link step : ℕ)
    → ◌≡◌ {A = Result T MergeFault} (Err (Unmatched p.link p.step)) (Err (Unmatched link step)) → IsFirstUnmatched tapes links (record { link = link; step = step })
unmatched_as tapes links p h link step e =
    let a : p.link ≡ link = cc in
    let b : p.step ≡ step = cc in
    subst (λ l. IsFirstUnmatched tapes links (record { link = l; step = step })) a
    (subst (λ s. IsFirstUnmatched tapes links (record { link = p.link; step = s })) b h)

pub tangled_as : {T : Type 0} (tapes : List ShardTape) (links : List LinkTape) (p : Place) → AreMatched tapes links × IsLeastOfCycle tapes links p → (link step : ℕ)
    → ◌≡◌ {A = Result T MergeFault} (Err (Tangled p.link p.step)) (Err (Tangled link step))
    → AreMatched tapes links × IsLeastOfCycle tapes links (record { link = link; step = step })
tangled_as tapes links p h link step e =
    let a : p.link ≡ link = cc in
    let b : p.step ≡ step = cc in (
      h.0,
      subst (λ l. IsLeastOfCycle tapes links (record { link = l; step = step })) a
          (subst (λ s. IsLeastOfCycle tapes links (record { link = p.link; step = s })) b h.1),
    )

pub if_ok : {A E T : Type 0} (P : T → A → Type 0) (r : Result A E) (topics : T) → IfOk r (λ outcome. (t : T) → P t outcome) → IfOk r (P topics)
if_ok P (Ok x) topics h = h topics
if_ok P (Err e) topics h = tt
