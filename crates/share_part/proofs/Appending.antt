-- The bytes of batches, one after another.
use Rattle.std.proofs.Common.{◌≡◌, ◌≢◌, ◌∙◌, refl, sym, ap, subst, arith, ℕ, zero, suc, ◌+◌, ◌<◌, ◌≤◌, List, [], ◌∷◌, ◌++◌, length, drop, get_or, append_assoc, length-append, drop-cons, add-one}
use Rattle.std.specs.List.{AllByRecursion}
use Rattle.share_model.specs.Logs.{Batch, IsAt}
use Rattle.log_index.specs.Indexes.{FillsWithin}
use Rattle.share_model.specs.Rooms.{Filled, Appends}
use Rattle.share_part.specs.Collecting.{AreAt}
use Rattle.share_part.specs.Making.{bytes_at, numbered_bytes}
use Rattle.share_part.specs.Walks.{bytes_in}

-- the batch with a number
pub there : (log : List Batch) (n : ℕ) → n < length log → (b : Batch) × IsAt log n b × (b.bytes ≡ bytes_at log n)
there [] n lt = absurd (omega arith)
there (b ∷ log) zero lt = (b, ([], log, refl, refl), refl)
there (b ∷ log) (suc n) lt =
    let r = there log n (omega arith) in
    (r.0, (b ∷ r.1.0, r.1.1, ap (λ (l : List Batch). b ∷ l) r.1.2, ap suc r.1.3), r.2)

at_bytes : (before : List Batch) (b : Batch) (behind : List Batch) → (bytes_at (before ++ (b ∷ behind)) (length before) ≡ b.bytes) × (length before < length (before ++ (b ∷ behind)))
at_bytes [] b behind = (refl, omega arith)
at_bytes (c ∷ before) b behind = let r = at_bytes before b behind in (r.0, omega (arith, r.1))

-- where a number is a batch's
pub at_is : (log : List Batch) (n : ℕ) (b : Batch) → IsAt log n b → (bytes_at log n ≡ b.bytes) × (n < length log)
at_is log n b at =
    let r = at_bytes at.0 b at.1 in
    subst (λ (l : List Batch). (bytes_at l n ≡ b.bytes) × (n < length l)) (sym at.2)
    (subst (λ (k : ℕ). (bytes_at (at.0 ++ (b ∷ at.1)) k ≡ b.bytes) × (k < length (at.0 ++ (b ∷ at.1)))) (sym at.3) r)

pub numbered_is : (log : List Batch) (numbers : List ℕ) (batches : List Batch) → AreAt log numbers batches → numbered_bytes log numbers ≡ bytes_in batches
numbered_is log [] [] h = refl
numbered_is log [] (b ∷ batches) h = absurd h
numbered_is log (n ∷ numbers) [] h = absurd h
numbered_is log (n ∷ numbers) (b ∷ batches) h = λ i. ((at_is log n b h.0).0 i ++ numbered_is log numbers batches h.1 i)

pub all_within : (log : List Batch) (numbers : List ℕ) (batches : List Batch) → AreAt log numbers batches → AllByRecursion (λ n. n < length log) numbers
all_within log [] [] h = tt
all_within log [] (b ∷ batches) h = absurd h
all_within log (n ∷ numbers) [] h = absurd h
all_within log (n ∷ numbers) (b ∷ batches) h = ((at_is log n b h.0).1, all_within log numbers batches h.1)

-- where there are numbers, there are batches
pub some_at : (log : List Batch) (numbers : List ℕ) (batches : List Batch) → AreAt log numbers batches → numbers ≢ [] → batches ≢ []
some_at log [] batches h some = absurd (some refl)
some_at log (n ∷ numbers) [] h some = absurd h
some_at log (n ∷ numbers) (b ∷ batches) h some = λ is. let clash : ⊥ = cc in clash

-- So many are appended. Where they aren't told, nothing is known of them but how many bytes there are at most.
pub record HasAppended (told : Type 0) (log : List Batch) (numbers : List ℕ) (i : ℕ) (was out : Filled) : Type 0 where
  pub bytes : told → out.bytes ++ numbered_bytes log (drop i numbers) ≡ was.bytes ++ numbered_bytes log numbers
  pub size : length out.bytes + length (numbered_bytes log (drop i numbers)) ≤ length was.bytes + length (numbered_bytes log numbers)
  pub spare : length (numbered_bytes log (drop i numbers)) ≤ out.spare
  pub within : AllByRecursion (λ n. n < length log) (drop i numbers)

module _ (told : Type 0) (log : List Batch) (numbers : List ℕ) (i : ℕ) (was out : Filled) (h : HasAppended told log numbers i was out)
    (lt : i < length numbers) where
  split : drop i numbers ≡ get_or numbers i 0 ∷ drop (i + 1) numbers
  split = rw (add-one, drop-cons numbers i 0)

  pub next_within : get_or numbers i 0 < length log
  next_within = (subst (AllByRecursion (λ n. n < length log)) split h.within).0

  pub next_fits : length (bytes_at log (get_or numbers i 0)) ≤ out.spare
  next_fits =
      let all = subst (λ (l : List ℕ). length (numbered_bytes log l) ≤ out.spare) split h.spare in
      omega (arith, all, length-append (bytes_at log (get_or numbers i 0)) (numbered_bytes log (drop (i + 1) numbers)))

  pub appended : (next : Filled) → (told → Appends out next (bytes_at log (get_or numbers i 0)))
      → FillsWithin (length (bytes_at log (get_or numbers i 0))) out next → HasAppended told log numbers (i + 1) was next
  appended next a f =
      let all = subst (λ (l : List ℕ). length (numbered_bytes log l) ≤ out.spare) split h.spare in
      let size = subst (λ (l : List ℕ). length out.bytes + length (numbered_bytes log l) ≤ length was.bytes + length (numbered_bytes log numbers)) split h.size in
      let spare = f.spare in
      let within = f.bytes.within in
      let sum = length-append (bytes_at log (get_or numbers i 0)) (numbered_bytes log (drop (i + 1) numbers)) in
      record {
        bytes = λ t. ap (λ (l : List ℕ). l ++ numbered_bytes log (drop (i + 1) numbers)) (a t).bytes
            ∙ append_assoc out.bytes (bytes_at log (get_or numbers i 0)) (numbered_bytes log (drop (i + 1) numbers))
            ∙ subst (λ (l : List ℕ). out.bytes ++ numbered_bytes log l ≡ was.bytes ++ numbered_bytes log numbers) split (h.bytes t);
        size = omega (arith, size, within, sum);
        spare = omega (arith, all, spare, sum);
        within = (subst (AllByRecursion (λ n. n < length log)) split h.within).1;
      }
