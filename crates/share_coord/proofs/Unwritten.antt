-- What is kept of the keys of a store, beside what is written of them.
use Rattle.std.proofs.Common.{◌≡◌, ◌<◌, ◌+◌, refl, sym, ap, ◌∙◌, subst, arith, ℕ, ℤ, pos, negsuc, [], ◌∷◌, Option, Some, None, Bool, true, false, cond, ◌&&◌, int_lt}
use Rattle.std.specs.declared.cmp.Ordering.{Ordering}
use Rattle.std.specs.declared.cmp.Ordering.TheVariants.{Less, Equal, Greater}
use Rattle.std.specs.Ordering.{match_ordering}
use Rattle.std.specs.BTreeMap.{is_at}
use Rattle.std.specs.Map.{keys_of}
use Rattle.offset_runs.proofs.Cuts.{no_lt}
use Rattle.share_model.specs.ForeignRules.{size_of}
use Rattle.share_model.specs.Keys.{KeyParts, key_cmp}
use Rattle.share_model.specs.ShareStates.{ShareState, start_after}
use Rattle.state_records.specs.States.{IsStart}
use Rattle.share_coord.specs.Calls.{counted}
use Rattle.share_coord.specs.Parts.{KeptState}
use Rattle.share_coord.specs.Raising.{raised}
use Rattle.share_coord.specs.Recorded.{start_told}
use Rattle.share_coord.specs.Stored.{Entries, kept_at, next_snapshot, renewed, renewed_kept, settled, settled_kept, with_kept, without_key}
use Rattle.share_coord.specs.Unwritten.{AreAlike, AreKeptOf, IsKeptOf, IsViewOf}
use Rattle.share_coord.proofs.Keys.{clash}
use Rattle.share_coord.proofs.Raising.{int_lt_pos, raised_twice}

-- ---- entries of the same keys

abbrev pub AreBoth : (KeptState → KeptState → Type 0) → Option KeptState → Option KeptState → Type 0
AreBoth Are None None = Unit {0}
AreBoth Are None (Some k) = ⊥
AreBoth Are (Some w) None = ⊥
AreBoth Are (Some w) (Some k) = Are w k

module _ (Are : KeptState → KeptState → Type 0) where
  by_order : (r : Ordering) (a b c x y z : Entries) → AreAlike Are a x → AreAlike Are b y → AreAlike Are c z
      → AreAlike Are (match_ordering r a b c) (match_ordering r x y z)
  by_order Less a b c x y z f g h = f
  by_order Equal a b c x y z f g h = g
  by_order Greater a b c x y z f g h = h

  pub alike_with : (ws ks : Entries) (key : KeyParts) (w k : KeptState) → AreAlike Are ws ks → Are w k
      → AreAlike Are (with_kept ws key w) (with_kept ks key k)
  alike_with [] [] key w k h is = (refl, is, tt)
  alike_with [] (y ∷ ys) key w k h is = absurd h
  alike_with (x ∷ xs) [] key w k h is = absurd h
  alike_with (x ∷ xs) (y ∷ ys) key w k h is =
      subst (λ (r : Ordering). AreAlike Are (match_ordering (key_cmp key x.0) ((key, w) ∷ x ∷ xs) ((x.0, w) ∷ xs) (x ∷ with_kept xs key w))
      (match_ordering r ((key, k) ∷ y ∷ ys) ((y.0, k) ∷ ys) (y ∷ with_kept ys key k))) (ap (key_cmp key) h.0)
      (by_order (key_cmp key x.0) ((key, w) ∷ x ∷ xs) ((x.0, w) ∷ xs) (x ∷ with_kept xs key w)
      ((key, k) ∷ y ∷ ys) ((y.0, k) ∷ ys) (y ∷ with_kept ys key k)
      (refl, is, h) (h.0, is, h.2) (h.0, h.1, alike_with xs ys key w k h.2 is))

  by_test : (b : Bool) (a c x z : Entries) → AreAlike Are a x → AreAlike Are c z → AreAlike Are (cond b a c) (cond b x z)
  by_test true a c x z f h = f
  by_test false a c x z f h = h

  pub alike_without : (ws ks : Entries) (key : KeyParts) → AreAlike Are ws ks → AreAlike Are (without_key ws key) (without_key ks key)
  alike_without [] [] key h = tt
  alike_without [] (y ∷ ys) key h = absurd h
  alike_without (x ∷ xs) [] key h = absurd h
  alike_without (x ∷ xs) (y ∷ ys) key h =
      subst (λ (b : Bool). AreAlike Are (cond (is_at (key_cmp key) x.0) xs (x ∷ without_key xs key)) (cond b ys (y ∷ without_key ys key)))
      (ap (is_at (key_cmp key)) h.0)
      (by_test (is_at (key_cmp key) x.0) xs (x ∷ without_key xs key) ys (y ∷ without_key ys key) h.2 (h.0, h.1, alike_without xs ys key h.2))

  found_both : (b : Bool) (w k : KeptState) (ws ks : Option KeptState) → Are w k → AreBoth Are ws ks → AreBoth Are (cond b (Some w) ws) (cond b (Some k) ks)
  found_both true w k ws ks is h = is
  found_both false w k ws ks is h = h

  pub alike_at : (ws ks : Entries) (key : KeyParts) → AreAlike Are ws ks → AreBoth Are (kept_at ws key) (kept_at ks key)
  alike_at [] [] key h = tt
  alike_at [] (y ∷ ys) key h = absurd h
  alike_at (x ∷ xs) [] key h = absurd h
  alike_at (x ∷ xs) (y ∷ ys) key h =
      subst (λ (b : Bool). AreBoth Are (cond (is_at (key_cmp key) x.0) (Some x.1) (kept_at xs key)) (cond b (Some y.1) (kept_at ys key)))
      (ap (is_at (key_cmp key)) h.0)
      (found_both (is_at (key_cmp key) x.0) x.1 y.1 (kept_at xs key) (kept_at ys key) h.1 (alike_at xs ys key h.2))

  -- a key that is kept is written
  pub alike_known : (ws ks : Entries) (key : KeyParts) (k : KeptState) → AreAlike Are ws ks → kept_at ks key ≡ Some k
      → (w : KeptState) × (kept_at ws key ≡ Some w) × Are w k
  alike_known ws ks key k h at =
      known_of (kept_at ws key) refl (subst (λ (o : Option KeptState). AreBoth Are (kept_at ws key) o) at (alike_at ws ks key h))
    where
      known_of : (o : Option KeptState) → kept_at ws key ≡ o → AreBoth Are o (Some k) → (w : KeptState) × (kept_at ws key ≡ Some w) × Are w k
      known_of None e b = absurd b
      known_of (Some w) e b = (w, e, b)

pub alike_weaker : (P Q : KeptState → KeptState → Type 0) → ((w k : KeptState) → P w k → Q w k) → (ws ks : Entries) → AreAlike P ws ks → AreAlike Q ws ks
alike_weaker P Q f [] [] h = tt
alike_weaker P Q f [] (y ∷ ys) h = absurd h
alike_weaker P Q f (x ∷ xs) [] h = absurd h
alike_weaker P Q f (x ∷ xs) (y ∷ ys) h = (h.0, f x.1 y.1 h.1, alike_weaker P Q f xs ys h.2)

-- the states alone
pub views_of : (ws ks : Entries) → AreKeptOf ws ks → AreAlike IsViewOf ws ks
views_of ws ks h = alike_weaker IsKeptOf IsViewOf (λ w k is. is.view) ws ks h

-- the keys
pub keys_same : (ws ks : Entries) → AreKeptOf ws ks → keys_of ws ≡ keys_of ks
keys_same [] [] h = refl
keys_same [] (y ∷ ys) h = absurd h
keys_same (x ∷ xs) [] h = absurd h
keys_same (x ∷ xs) (y ∷ ys) h = λ i. h.0 i ∷ keys_same xs ys h.2 i

-- as many snapshots
next_both : (w k : Option KeptState) → AreBoth IsKeptOf w k → next_snapshot w ≡ next_snapshot k
next_both None None h = refl
next_both None (Some k) h = absurd h
next_both (Some w) None h = absurd h
next_both (Some w) (Some k) h = ap (λ (n : ℕ). n + 1) h.snapshot

pub next_same : (ws ks : Entries) (key : KeyParts) → AreKeptOf ws ks → next_snapshot (kept_at ws key) ≡ next_snapshot (kept_at ks key)
next_same ws ks key h = next_both (kept_at ws key) (kept_at ks key) (alike_at IsKeptOf ws ks key h)

-- ---- what was just written

-- one whose start wasn't raised since is as it is written
pub unraised_self : (k : KeptState) → k.raised ≡ false → IsKeptOf k k
unraised_self k e = record {
  view = ap (λ (b : Bool). cond b (raised (size_of k.view.start) k.view) k.view) (sym e);
  snapshot = refl;
  updates = refl;
  since = λ is. absurd (clash (sym is ∙ e));
}

-- the same, told by its parts
pub unraised_of : (w k : KeptState) → k.raised ≡ false → w.view ≡ k.view → w.snapshot ≡ k.snapshot → w.updates ≡ k.updates → IsKeptOf w k
unraised_of w k e view snapshot updates = record {
  view = sym view ∙ ap (λ (b : Bool). cond b (raised (size_of k.view.start) w.view) w.view) (sym e);
  snapshot = snapshot;
  updates = updates;
  since = λ is. absurd (clash (sym is ∙ e));
}

-- ---- what a checkpoint writes

-- where it was raised, it is what the records give, raised
pub raised_view : (w k : KeptState) → IsViewOf w k → k.raised ≡ true → k.view ≡ raised (size_of k.view.start) w.view
raised_view w k h e = subst (λ (b : Bool). k.view ≡ cond b (raised (size_of k.view.start) w.view) w.view) e h

pub unraised_view : (w k : KeptState) → IsViewOf w k → k.raised ≡ false → k.view ≡ w.view
unraised_view w k h e = subst (λ (b : Bool). k.view ≡ cond b (raised (size_of k.view.start) w.view) w.view) e h

view_again : (b : Bool) (n : ℕ) (v w : ShareState) → v ≡ cond b (raised n w) w → v ≡ cond b (raised n v) v
view_again true n v w h = h ∙ (sym (raised_twice w n n (omega arith)) ∙ ap (raised n) (sym h))
view_again false n v w h = refl

settled_one : (k : KeptState) → IsKeptOf (settled_kept k) (renewed_kept k)
settled_one k = unraised_of (settled_kept k) (renewed_kept k) refl refl refl refl

pub settled_of : (ks : Entries) → AreKeptOf (settled ks) (renewed ks)
settled_of [] = tt
settled_of (y ∷ ys) = (refl, settled_one y.1, settled_of ys)

-- raised again to its start, what is kept stays
pub settled_views : (ws ks : Entries) → AreKeptOf ws ks → AreAlike IsViewOf (settled ks) ks
settled_views [] [] h = tt
settled_views [] (y ∷ ys) h = absurd h
settled_views (x ∷ xs) [] h = absurd h
settled_views (x ∷ xs) (y ∷ ys) h = (refl, view_again y.1.raised (size_of y.1.view.start) y.1.view x.1.view h.1.view, settled_views xs ys h.2)

-- ---- the start that a record tells

after_self : (z : ℤ) → start_after z z ≡ z
after_self (pos n) = refl
after_self (negsuc n) = refl

told_by : (r b : Bool) (v z : ℤ) → (b ≡ true → start_after v z ≡ v) → start_after v (cond (r && b) v z) ≡ start_after v z
told_by true true v z f = after_self v ∙ sym (f refl)
told_by true false v z f = refl
told_by false b v z f = refl

low_after : (v z : ℤ) → int_lt z (pos 0) ≡ true → start_after v z ≡ v
low_after v (pos n) e = absurd (clash (sym e ∙ (int_lt_pos n 0 ∙ no_lt n 0 (omega arith))))
low_after v (negsuc n) e = refl

-- it leaves the start that the one which was given leaves
pub told_after : (k : KeptState) (start : ℤ) → start_after k.view.start (start_told k start) ≡ start_after k.view.start start
told_after k start = told_by k.tells (int_lt start (pos 0)) k.view.start start (low_after k.view.start start)

fit_by : (b : Bool) (v z : ℤ) → IsStart v → IsStart z → IsStart (cond b v z)
fit_by true v z f g = f
fit_by false v z f g = g

pub told_fit : (k : KeptState) (start : ℤ) → IsStart k.view.start → IsStart start → IsStart (start_told k start)
told_fit k start f g = fit_by (k.tells && int_lt start (pos 0)) k.view.start start f g

-- ---- the updates that count

pub record IsLow (k : KeptState) (start : ℤ) : Type 0 where
  pub low : k.updates < 500
  pub same : (counted k start).updates ≡ k.updates
  pub stays : k.raised ≡ true → int_lt start k.view.start ≡ false

low_by : (r b : Bool) (u : ℕ) → cond (r && b) 500 u < 500 → (u < 500) × (cond (r && b) 500 u ≡ u) × (r ≡ true → b ≡ false)
low_by true true u lt = let never : ⊥ = omega (arith, lt) in absurd never
low_by true false u lt = (lt, refl, λ e. refl)
low_by false b u lt = (lt, refl, λ e. absurd (clash (sym e)))

-- below 500 they are those that there are, and the start isn't lowered where it was raised
pub counted_low : (k : KeptState) (start : ℤ) → (counted k start).updates < 500 → IsLow k start
counted_low k start lt =
    let l = low_by k.raised (int_lt start k.view.start) k.updates lt in
    record { low = l.0; same = l.1; stays = l.2 }
