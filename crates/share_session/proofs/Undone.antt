-- Releases that are done one by one.
use Rattle.std.proofs.Common.{◌≡◌, ◌∙◌, ◌+◌, ◌<◌, ◌≤◌, ℕ, ℤ, Bool, true, false, cond, List, [], ◌∷◌, ◌++◌, Some, None, length, map, filter, drop, get_or, set, slice_get}
use Rattle.std.proofs.Common.{refl, ap, arith}
use Rattle.std.proofs.lemmas.Bool.Decides.{nat_tests}
use Rattle.share_session.specs.declared.step.Caller.{Caller}
use Rattle.share_session.specs.declared.step.PlanStep.{PlanStep}
use Rattle.share_session.specs.SessionParts.{SessionParts}
use Rattle.share_session.specs.Plans.{release, session_releases, releases_of, others_of}
use Rattle.share_session.specs.Undone.{has_partition, without_first, first_left, one_done}
use Rattle.share_session.proofs.Lists.{drop_item}

abbrev session : List ℕ → List ℕ → ℤ → List ℕ → SessionParts
session group member epoch partitions = record { group = group; member = member; epoch = epoch; partitions = partitions }

abbrev pub caller_in : SessionParts → Caller
caller_in s = record { group = s.group; member = s.member }

-- ---- the first release

-- a session with partitions has the first one
pub first_there : (caller : Caller) (list : List ℕ) (shard : ℕ) (steps : List PlanStep) → slice_get list 0 ≡ Some shard →
    slice_get (map (release caller) list ++ steps) 0 ≡ Some (release caller shard)
first_there caller [] shard steps e = absurd cc
first_there caller (p ∷ list) shard steps e = let same : p ≡ shard = cc in ap (λ q. Some (release caller q)) same

-- one without them has none
pub none_there : (caller : Caller) (list : List ℕ) (steps : List PlanStep) → slice_get list 0 ≡ None → map (release caller) list ++ steps ≡ steps
none_there caller [] steps e = refl
none_there caller (p ∷ list) steps e = absurd cc

-- what is left to be released, where the walk stands at a session
pub here : (ss : List SessionParts) (i : ℕ) (s : SessionParts) → i < length ss → s ≡ get_or ss i s →
    releases_of (drop i ss) ≡ session_releases s ++ releases_of (drop (i + 1) ss)
here ss i s within is = ap releases_of (drop_item ss i s within is)

-- ---- one release done

kept_releases : (ss : List SessionParts) → releases_of (filter has_partition ss) ≡ releases_of ss
kept_releases [] = refl
kept_releases (s ∷ ss) = go s.group s.member s.epoch s.partitions (kept_releases ss)
  where
    go : (group member : List ℕ) (epoch : ℤ) (list : List ℕ) → releases_of (filter has_partition ss) ≡ releases_of ss →
        releases_of (filter has_partition (session group member epoch list ∷ ss)) ≡ releases_of (session group member epoch list ∷ ss)
    go group member epoch [] later = later
    go group member epoch (p ∷ list) later =
        let here = session group member epoch (p ∷ list) in
        let has : has_partition here ≡ true = grind (arith, nat_tests) in
        ap (λ b. releases_of (cond b (here ∷ filter has_partition ss) (filter has_partition ss))) has ∙ ap (λ l. session_releases here ++ l) later

pub one_less : (ss : List SessionParts) → releases_of (one_done ss) ≡ others_of (releases_of ss)
one_less [] = refl
one_less (s ∷ ss) = go s.group s.member s.epoch s.partitions (one_less ss)
  where
    go : (group member : List ℕ) (epoch : ℤ) (list : List ℕ) → releases_of (one_done ss) ≡ others_of (releases_of ss) →
        releases_of (one_done (session group member epoch list ∷ ss)) ≡ others_of (releases_of (session group member epoch list ∷ ss))
    go group member epoch [] later = later
    go group member epoch (p ∷ list) later =
        let here = session group member epoch (p ∷ list) in
        let has : has_partition here ≡ true = grind (arith, nat_tests) in
        ap (λ b. releases_of (first_left (cond b (here ∷ filter has_partition ss) (filter has_partition ss)))) has
        ∙ ap (λ l. session_releases (session group member epoch list) ++ l) (kept_releases ss)

-- the first session lost its partition in place
pub set_first : (ss : List SessionParts) (s new : SessionParts) → 0 < length ss → s ≡ get_or ss 0 s → new ≡ without_first s → set ss 0 new ≡ first_left ss
set_first [] s new some is done = absurd (omega (arith, some))
set_first (x ∷ ss) s new some is done = ap (λ y. y ∷ ss) (done ∙ ap without_first is)

pub none_left : (ss : List SessionParts) → length ss ≤ 0 → ss ≡ first_left ss
none_left [] none = refl
none_left (s ∷ ss) none = absurd (omega (arith, none))

filter_few : (ss : List SessionParts) → length (filter has_partition ss) ≤ length ss
filter_few [] = omega arith
filter_few (s ∷ ss) = go (has_partition s) (filter_few ss)
  where
    go : (b : Bool) → length (filter has_partition ss) ≤ length ss → length (cond b (s ∷ filter has_partition ss) (filter has_partition ss)) ≤ length (s ∷ ss)
    go true h = omega (arith, h)
    go false h = omega (arith, h)

left_few : (ss : List SessionParts) → length (first_left ss) ≤ length ss
left_few [] = omega arith
left_few (s ∷ ss) = omega arith

pub done_few : (ss : List SessionParts) → length (one_done ss) ≤ length ss
done_few ss = omega (arith, left_few (filter has_partition ss), filter_few ss)
