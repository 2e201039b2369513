-- Where line feeds stand.
use Rattle.std.proofs.Common.{◌≡◌, ◌<◌, ◌≤◌, ◌+◌, ◌-◌, ℕ, true, ◌==◌, List, ◌++◌, length, slice_index, take, drop, take-add, sym, ap, ◌∙◌, subst, arith}
use Rattle.std.proofs.lemmas.List.{get_or-take, get_or-drop, length-take, length-drop, drop-drop, take-append-drop, take_rest}
use Rattle.std.proofs.lemmas.Bool.{eqb-true}
use Rattle.session_script.specs.Lines.{HasNone, IsLine, IsFeedFrom}
use Rattle.session_script.specs.Unread.{IsBuffered}
use Rattle.session_script.proofs.Cuts.{none_at, none_append}

eqb_is : (a b : ℕ) → a ≡ b → (a == b) ≡ true
eqb_is a b e = grind arith

-- what a search that found nothing among n bytes has shown
pub nowhere_none : (bs : List ℕ) (n : ℕ) → ((k : ℕ) → 0 ≤ k → k < n → (slice_index bs k == 10) ≡ true → ⊥) → HasNone 10 (take n bs)
nowhere_none bs n h = none_at 10 (take n bs) (λ i lt e.
    let len = length-take n bs in
    let few : i < n = omega (arith, len) in
    h i (omega arith) few (eqb_is _ _ (sym (get_or-take n bs i 0 few) ∙ e)))

pub all_none : (bs : List ℕ) → ((k : ℕ) → 0 ≤ k → k < length bs → (slice_index bs k == 10) ≡ true → ⊥) → HasNone 10 bs
all_none bs h = none_at 10 bs (λ i lt e. h i (omega arith) lt (eqb_is _ _ e))

pub feed_found : (bytes : List ℕ) (from count : ℕ) → from ≤ length bytes → count < length (drop from bytes) →
    (slice_index (drop from bytes) count == 10) ≡ true → HasNone 10 (take count (drop from bytes)) →
    IsFeedFrom bytes from (from + count)
feed_found bytes from count le lt e h =
    let len = length-drop from bytes in
    let back : from + count - from ≡ count = omega arith in
    record {
      behind = omega arith;
      within = omega (arith, len);
      feed = sym (get_or-drop from bytes count 0) ∙ eqb-true _ _ e;
      before = subst (λ (n : ℕ). HasNone 10 (take n (drop from bytes))) (sym back) h;
    }

-- what was looked at in two parts
pub looked_on : (bytes : List ℕ) (start scanned place : ℕ) → start ≤ scanned → scanned ≤ place → HasNone 10 (take (scanned - start) (drop start bytes)) →
    HasNone 10 (take (place - scanned) (drop scanned bytes)) → HasNone 10 (take (place - start) (drop start bytes))
looked_on bytes start scanned place p q h g =
    let parts : place - start ≡ (scanned - start) + (place - scanned) = omega arith in
    let at : start + (scanned - start) ≡ scanned = omega arith in
    let cut : take (place - start) (drop start bytes) ≡ take (scanned - start) (drop start bytes) ++ take (place - scanned) (drop scanned bytes) =
    ap (λ (n : ℕ). take n (drop start bytes)) parts ∙ take-add (scanned - start) (place - scanned) (drop start bytes)
    ∙ ap (λ (l : List ℕ). take (scanned - start) (drop start bytes) ++ take (place - scanned) l)
    (drop-drop (scanned - start) start bytes ∙ ap (λ (n : ℕ). drop n bytes) at) in
    subst (HasNone 10) (sym cut) (none_append 10 _ _ h g)

-- all that was looked at
pub looked_all : (bytes : List ℕ) (start scanned : ℕ) → start ≤ scanned → scanned ≤ length bytes → HasNone 10 (take (scanned - start) (drop start bytes)) →
    HasNone 10 (drop scanned bytes) → HasNone 10 (drop start bytes)
looked_all bytes start scanned p q h g =
    let at : start + (scanned - start) ≡ scanned = omega arith in
    let cut : drop start bytes ≡ take (scanned - start) (drop start bytes) ++ drop scanned bytes =
    sym (take-append-drop (scanned - start) (drop start bytes))
    ∙ ap (λ (l : List ℕ). take (scanned - start) (drop start bytes) ++ l) (drop-drop (scanned - start) start bytes ∙ ap (λ (n : ℕ). drop n bytes) at) in
    subst (HasNone 10) (sym cut) (none_append 10 _ _ h g)

pub line_of_feed : (bytes : List ℕ) (start scanned place : ℕ) → start ≤ scanned → HasNone 10 (take (scanned - start) (drop start bytes)) →
    IsFeedFrom bytes scanned place →
    IsLine (drop start bytes) (place - start)
line_of_feed bytes start scanned place p h f =
    let len = length-drop start bytes in
    let at : start + (place - start) ≡ place = omega (arith, f.behind) in
    record {
      within = omega (arith, len, f.within, f.behind);
      feed = get_or-drop start bytes (place - start) 0 ∙ ap (λ (n : ℕ). slice_index bytes n) at ∙ f.feed;
      before = looked_on bytes start scanned place p f.behind h f.before;
    }

pub found_is_buffered : (bytes : List ℕ) (start scanned feed place : ℕ) → IsBuffered bytes start scanned place → IsFeedFrom bytes scanned feed →
    IsBuffered bytes start feed place
found_is_buffered bytes start scanned feed place b f = record {
  begun = omega (arith, b.begun, f.behind);
  within = omega (arith, f.within);
  looked = looked_on bytes start scanned feed b.begun f.behind b.looked f.before;
  script = b.script;
}

pub none_is_buffered : (bytes : List ℕ) (start scanned end place : ℕ) → IsBuffered bytes start scanned place → end ≡ length bytes →
    HasNone 10 (drop scanned bytes) → IsBuffered bytes start end place
none_is_buffered bytes start scanned end place b is h = record {
  begun = omega (arith, b.begun, b.within, is);
  within = omega (arith, is);
  looked =
      let all = looked_all bytes start scanned b.begun b.within b.looked h in
      let whole : take (end - start) (drop start bytes) ≡ drop start bytes = ap (λ (n : ℕ). take (n - start) (drop start bytes)) is ∙ take_rest bytes start in
      subst (HasNone 10) (sym whole) all;
  script = b.script;
}
