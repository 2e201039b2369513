-- Which offsets batches cover, as the elements that grant offsets are looked at from the first one on.
use Rattle.std.proofs.Common.{inl, inr, ◌≡◌, ◌+◌, ◌-◌, ◌≤◌, ◌<◌, ◌∙◌, ◌∷◌, [], ℕ, ℤ, pos, List, Result, Ok, Err, refl, sym, subst, arith}
use Rattle.std.specs.Prelude.{◌⊎◌, ◌↔◌, ◌<ℤ◌}
use Rattle.std.proofs.lemmas.Bool.{cases_lt}
use Rattle.std.proofs.lemmas.Int.{ints}
use Rattle.msgs_share.specs.declared.share_fetch_reply.AcquiredRecords.{AcquiredRecords}
use Rattle.share_client.specs.declared.batches.Span.{Span}
use Rattle.share_client.specs.declared.covers.Run.{Run}
use Rattle.share_client.specs.declared.fault.ClientFault.TheVariants.{Strange}
use Rattle.share_client.specs.declared.located.Located.{Located}
use Rattle.share_client.specs.Frames.{within}
use Rattle.share_client.specs.Grants.{AreGrants, Covers, Grants, GrantsNone, Holds}
use Rattle.share_client.specs.Spans.{AreLeft, Ascend, IsCovered, IsGrant, IsToldAt}

-- batches that ascend from an offset on hold none below it
holds_below : (next n : ℕ) (spans : List Span) → Ascend next spans → n < next → Holds spans n → ⊥
holds_below next n [] a lt h = h
holds_below next n (s ∷ spans) a lt (inl h) = omega (arith, lt, a.0, h.0)
holds_below next n (s ∷ spans) a lt (inr h) = holds_below (s.last + 1) n spans a.2 (omega (arith, lt, a.0, a.1)) h

-- What is left of the batches, with the least offset that is still needed.
pub record Looked (first last : ℕ) (spans : List Span) (need : ℕ) (rest : List Span) : Type 0 where
  pub order : need ≤ last
  pub ascend : (next : ℕ) × Ascend next rest
  pub same : Covers spans first last ↔ Covers rest need last
  pub left : AreLeft need spans rest

pub look_starts : (first last : ℕ) (spans : List Span) → first ≤ last → ((next : ℕ) × Ascend next spans) → Looked first last spans first spans
look_starts first last spans order ascend = record { order = order; ascend = ascend; same = (λ h. h, λ h. h); left = λ f l le. (λ h. h, λ h. h) }

-- one batch fewer
module _ (s : Span) (rest : List Span) (need more : ℕ) (from : need ≤ more) (behind : s.last + 1 ≤ more) where
  pick : (n : ℕ) → more ≤ n → Holds (s ∷ rest) n → Holds rest n
  pick n le (inl h) = absurd (omega (arith, le, h.1, behind))
  pick n le (inr h) = h

  fewer : (f l : ℕ) → more ≤ f → Covers (s ∷ rest) f l ↔ Covers rest f l
  fewer f l le = (λ c n a b. pick n (omega (arith, le, a)) (c n a b), λ c n a b. inr (c n a b))

  module _ (last : ℕ) (least : (n : ℕ) → need ≤ n → s.last + 1 ≤ n → more ≤ n) (base : s.base ≤ need) where
    back : Covers rest more last → (n : ℕ) → need ≤ n → n ≤ last → (s.last < n) ⊎ (n ≤ s.last) → Holds (s ∷ rest) n
    back c n a b (inl lt) = inr (c n (least n a (omega (arith, lt))) b)
    back c n a b (inr le) = inl (omega (arith, base, a), le)

    on : Covers (s ∷ rest) need last ↔ Covers rest more last
    on = (λ c n a b. pick n a (c n (omega (arith, from, a)) b), λ c n a b. back c n a b (cases_lt s.last n))

module _ (first last : ℕ) (spans : List Span) (need : ℕ) (s : Span) (rest : List Span) (k : Looked first last spans need (s ∷ rest)) where
  pub look_goes_on : (more : ℕ) → s.base ≤ need → s.last < last → need ≤ more → s.last + 1 ≤ more → ((n : ℕ) → need ≤ n → s.last + 1 ≤ n → more ≤ n)
      → Looked first last spans more rest
  look_goes_on more base lt from behind least =
      let step = on s rest need more from behind last least base in
      record {
        order = least last k.order (omega (arith, lt));
        ascend = (s.last + 1, k.ascend.1.2);
        same = (λ c. step.0 (k.same.0 c), λ c. k.same.1 (step.1 c));
        left = λ f l le.
            let a = k.left f l (omega (arith, from, le)) in
            let b = fewer s rest need more from behind f l le in
            (λ c. b.0 (a.0 c), λ c. a.1 (b.1 c));
      }

  pub look_fails : need < s.base → Covers spans first last → ⊥
  look_fails lt c = holds_below s.base need (s ∷ rest) (omega arith, k.ascend.1.1, k.ascend.1.2) lt (k.same.0 c need (omega arith) k.order)

  pub look_finds : s.base ≤ need → last ≤ s.last → IsCovered first last spans (s ∷ rest)
  look_finds base le = record {
    covered = k.same.1 (λ n a b. inl (omega (arith, base, a), omega (arith, le, b)));
    left = λ f l from. k.left f l (omega (arith, from, k.order));
    ascend = k.ascend;
  }

pub look_ends : (first last : ℕ) (spans : List Span) (need : ℕ) → Looked first last spans need [] → Covers spans first last → ⊥
look_ends first last spans need k c = k.same.0 c need (omega arith) k.order

-- ---- one element

pub grants_none_below : (spans : List Span) (next left : ℕ) (a : AcquiredRecords) → a.first_offset <ℤ pos 0 → GrantsNone spans next left a
grants_none_below spans next left a lt = λ first last g. omega (arith, ints, lt, g.first_is)

pub grants_none_ends_below : (spans : List Span) (next left : ℕ) (a : AcquiredRecords) → a.last_offset <ℤ pos 0 → GrantsNone spans next left a
grants_none_ends_below spans next left a lt = λ first last g. omega (arith, ints, lt, g.last_is)

pos_same : (m n : ℕ) → pos m ≡ pos n → m ≡ n
pos_same m n e = omega (arith, ints, e)

module _ (spans : List Span) (next left : ℕ) (a : AcquiredRecords) (first last : ℕ) (f : a.first_offset ≡ pos first) (l : a.last_offset ≡ pos last) where
  pub grants_none_where : ((last < first) ⊎ ((first < next) ⊎ (left ≤ last - first))) → GrantsNone spans next left a
  grants_none_where why x y g =
      let m : x ≡ first = pos_same x first (sym g.first_is ∙ f) in
      let n : y ≡ last = pos_same y last (sym g.last_is ∙ l) in
      by why m n
    where
      by : ((last < first) ⊎ ((first < next) ⊎ (left ≤ last - first))) → x ≡ first → y ≡ last → ⊥
      by (inl lt) m n = omega (arith, lt, m, n, g.order)
      by (inr (inl lt)) m n = omega (arith, lt, m, n, g.above)
      by (inr (inr le)) m n = omega (arith, le, m, n, g.order, g.few)

  pub grants_none_uncovered : (Covers spans first last → ⊥) → GrantsNone spans next left a
  grants_none_uncovered out x y g =
      let m : x ≡ first = pos_same x first (sym g.first_is ∙ f) in
      let n : y ≡ last = pos_same y last (sym g.last_is ∙ l) in
      out (subst (λ (z : ℕ). Covers spans first z) n (subst (λ (z : ℕ). Covers spans z y) m g.covered))

  pub grants_these : (rest : List Span) → first ≤ last → next ≤ first → last - first < left → IsCovered first last spans rest
      → IsGrant spans next left a (record { first = first; last = last }) rest
  grants_these rest order above few c = record {
    grants = record { first_is = f; last_is = l; order = order; above = above; few = omega (arith, few, order); covered = c.covered };
    left_are = c.left;
    ascend = c.ascend;
  }

-- ---- all elements

pub record Going (spans : List Span) (left0 : ℕ) (all : List (Located AcquiredRecords)) (next left : ℕ) (batches : List Span) (rest : List (Located AcquiredRecords)) : Type 0 where
  pub same : AreLeft next spans batches
  pub ascend : (n : ℕ) × Ascend n batches
  pub on : (told : Result ℕ ℕ) → AreGrants spans next left rest told → AreGrants spans 0 left0 all told

pub going_starts : (spans : List Span) (left : ℕ) (all : List (Located AcquiredRecords)) → Ascend 0 spans → Going spans left all 0 left spans all
going_starts spans left all a = record { same = λ f l le. (λ h. h, λ h. h); ascend = (0, a); on = λ told h. h }

module _ (spans : List Span) (left0 : ℕ) (all : List (Located AcquiredRecords)) (next left : ℕ) (batches : List Span) (a : Located AcquiredRecords) (rest : List (Located AcquiredRecords))
    (g : Going spans left0 all next left batches (a ∷ rest)) where
  widened : (first last : ℕ) → Grants batches next left a.item first last → Grants spans next left a.item first last
  widened first last x = record {
    first_is = x.first_is;
    last_is = x.last_is;
    order = x.order;
    above = x.above;
    few = x.few;
    covered = (g.same first last x.above).1 x.covered;
  }

  narrowed : (first last : ℕ) → Grants spans next left a.item first last → Grants batches next left a.item first last
  narrowed first last x = record {
    first_is = x.first_is;
    last_is = x.last_is;
    order = x.order;
    above = x.above;
    few = x.few;
    covered = (g.same first last x.above).0 x.covered;
  }

  pub going_fails : GrantsNone batches next left a.item → IsToldAt (AreGrants spans 0 left0 all) (Err (Strange (within a.place)))
  going_fails none = (a.place, g.on (Err a.place) (inl (λ f l x. none f l (narrowed f l x), refl)), refl)

  pub going_on : (run : Run) (behind : List Span) (now : ℕ) → IsGrant batches next left a.item run behind → now + (run.last - run.first + 1) ≡ left
      → Going spans left0 all (run.last + 1) now behind rest
  going_on run behind now x e =
      let order : run.first ≤ run.last = x.grants.order in
      let n : now ≡ run.first + left - (run.last + 1) = omega (arith, e, order) in
      record {
        same = λ f l le.
            let p = g.same f l (omega (arith, le, order, x.grants.above)) in
            let q = x.left_are f l le in
            (λ c. q.0 (p.0 c), λ c. p.1 (q.1 c));
        ascend = x.ascend;
        on = λ told h. g.on told (inr (run.first, run.last, widened run.first run.last x.grants, subst (λ (k : ℕ). AreGrants spans (run.last + 1) k rest told) n h));
      }

pub going_ends : (spans : List Span) (left0 : ℕ) (all : List (Located AcquiredRecords)) (next left : ℕ) (batches : List Span)
    → Going spans left0 all next left batches [] → AreGrants spans 0 left0 all (Ok left)
going_ends spans left0 all next left batches g = g.on (Ok left) refl
