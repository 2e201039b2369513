-- The visits of a fetch that acquire are told.
use Rattle.std.proofs.Common.{◌≡◌, ◌∙◌, ℕ, ℤ, Bool, true, false, List, [], ◌∷◌, ◌++◌, map, filter, Option, refl, sym, ap, append-nil, if◌then◌else◌}
use Rattle.share_model.specs.declared.ack.AckBatch.{AckBatch}
use Rattle.share_session.specs.declared.step.Caller.{Caller}
use Rattle.share_session.specs.declared.step.Purpose.TheVariants.{Release}
use Rattle.share_session.specs.declared.step.PlanStep.{PlanStep}
use Rattle.share_session.specs.PlanParts.{PlanParts}
use Rattle.share_session.specs.SessionParts.{SessionParts}
use Rattle.share_session.specs.Sessions.{session_of}
use Rattle.share_session.specs.Requests.{text_of, wanted_in, forgotten_in}
use Rattle.share_session.specs.Refusals.{opens, closes}
use Rattle.share_session.specs.Plans.{visit, release, shards_of, partitions_of, without_shards, opening, fetching, closing, fetch_by_epoch, caller_of, steps_of}
use Rattle.share_calls.specs.Wishes.{acquires, AcquiresInWhatIsTold}

abbrev Wanted : Type 0
Wanted = List (ℕ × List AckBatch)

module _ (caller : Caller) where
  -- releases acquire nothing, also where they acknowledge
  past_releases : (shards : List ℕ) (steps : List PlanStep) → filter acquires (map (release caller) shards ++ steps) ≡ filter acquires steps
  past_releases [] steps = refl
  past_releases (s ∷ shards) steps = past_releases shards steps

  past_closing : (wanted : Wanted) (steps : List PlanStep) →
      filter acquires (map (λ (w : ℕ × List AckBatch). visit caller Release w.1 w.0) wanted ++ steps) ≡ filter acquires steps
  past_closing [] steps = refl
  past_closing (w ∷ wanted) steps = past_closing wanted steps

  none_in_releases : (shards : List ℕ) → filter acquires (map (release caller) shards) ≡ []
  none_in_releases [] = refl
  none_in_releases (s ∷ shards) = none_in_releases shards

  none_in_closing : (wanted : Wanted) → filter acquires (map (λ (w : ℕ × List AckBatch). visit caller Release w.1 w.0) wanted) ≡ []
  none_in_closing [] = refl
  none_in_closing (w ∷ wanted) = none_in_closing wanted

  abbrev ToldAlone : PlanParts → Type 0
  ToldAlone plan = filter acquires (steps_of plan) ≡ filter acquires plan.told

  module _ (session : Option SessionParts) (wanted : Wanted) where
    closing_told : ToldAlone (closing caller session wanted)
    closing_told =
        let others = without_shards (shards_of wanted) (partitions_of session) in
        past_closing wanted (map (release caller) others) ∙ none_in_releases others ∙ sym (none_in_closing wanted)

    opening_told : (forgotten : List ℕ) → ToldAlone (opening caller session wanted forgotten)
    opening_told forgotten =
        let told = (opening caller session wanted forgotten).told in
        ap (filter acquires) (append-nil (map (release caller) (partitions_of session) ++ told)) ∙ past_releases (partitions_of session) told

    fetching_told : (epoch : ℤ) (forgotten : List ℕ) → ToldAlone (fetching caller session epoch wanted forgotten)
    fetching_told epoch forgotten = ap (filter acquires) (append-nil (fetching caller session epoch wanted forgotten).told)

    told_by_epoch : (epoch : ℤ) (forgotten : List ℕ) → ToldAlone (fetch_by_epoch caller session epoch wanted forgotten)
    told_by_epoch epoch forgotten = go (closes epoch) (opens epoch)
      where
        go : (b d : Bool) →
            ToldAlone (if b then closing caller session wanted else if d then opening caller session wanted forgotten else fetching caller session epoch wanted forgotten)
        go true d = closing_told
        go false true = opening_told forgotten
        go false false = fetching_told epoch forgotten

pub acquires_told : AcquiresInWhatIsTold
acquires_told = record {
  all = λ sessions topics r. told_by_epoch (caller_of r.group_id r.member_id) (session_of (text_of r.group_id) (text_of r.member_id) sessions)
      (wanted_in topics r.topics) r.share_session_epoch (forgotten_in topics r.forgotten_topics_data);
  closes = λ sessions topics r is.
      let caller = caller_of r.group_id r.member_id in
      let session = session_of (text_of r.group_id) (text_of r.member_id) sessions in
      let wanted = wanted_in topics r.topics in
      ap (λ epoch. filter acquires (fetch_by_epoch caller session epoch wanted (forgotten_in topics r.forgotten_topics_data)).told) is
      ∙ none_in_closing caller wanted;
}
