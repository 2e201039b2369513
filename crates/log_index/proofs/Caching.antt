-- What is cached.
use Rattle.std.proofs.Common.{◌≡◌, ◌⊎◌, inl, inr, ℕ, List, Contains, refl, sym, subst, rules, true, nat_eq}
use Rattle.std.proofs.Common.{length, ◌≤◌, Some, Result, Ok, Err, OnOk, OnErr, IsOk}
use Rattle.std.specs.Map.{lookup}
use Rattle.share_model.specs.Rooms.{Appends, Filled}
use Rattle.share_model.specs.declared.fault.BatchRead.{BatchRead}
use Rattle.share_model.specs.declared.fault.BatchRead.TheVariants.{NoMemory}
use Rattle.log_index.specs.Searches.{IsAppended}
use Rattle.lru.specs.LruCache.{LruCache, lru_cache, put_entries}
use Rattle.lru.proofs.CallerLemmas.{Contains-lookup, Contains-put_entries}
use Rattle.log_index.specs.Indexes.{CachesAlso}

same_number : (k n : ℕ) → nat_eq k n ≡ true → n ≡ k
same_number k n e = search rules

-- a pair that was put
pub put_also : (c : LruCache ℕ (List ℕ)) (number : ℕ) (bytes : List ℕ) → CachesAlso c.entries number (λ b. b ≡ bytes) (put_entries nat_eq c number bytes)
put_also c number bytes k b has = elim (Contains-put_entries nat_eq c number bytes (k, b) has) [
  | inl was ↦ inl was
  | inr is ↦ inr (
    elim is.1 [
      | inl same ↦ same
      | inr found ↦ same_number number k found.2
    ],
    is.0,
  )
]

-- what was put, if there was memory for it
pub kept_by : {T E : Type 0} (r : Result T E) (old new : LruCache ℕ (List ℕ)) (number : ℕ) (bytes these : List ℕ) → bytes ≡ these
    → OnOk r (new ≡ lru_cache (put_entries nat_eq old number bytes) old.cap) → OnErr r (new ≡ old)
    → CachesAlso old.entries number (λ b. b ≡ these) new.entries
kept_by (Ok x) old new number bytes these same entries err = λ k b has.
    subst (λ t. Contains old.entries (k, b) ⊎ ((k ≡ number) × (b ≡ t))) same
    (put_also old number bytes k b (subst (λ (c : LruCache ℕ (List ℕ)). Contains c.entries (k, b)) entries has))
kept_by (Err e) old new number bytes these same entries err = λ k b has. inl (subst (λ (c : LruCache ℕ (List ℕ)). Contains c.entries (k, b)) err has)

-- ---- what is found

pub found_here : (es : List (ℕ × List ℕ)) (number : ℕ) (bytes : List ℕ) → lookup (nat_eq number) es ≡ Some bytes → Contains es (number, bytes)
found_here es number bytes found =
    let at = Contains-lookup (nat_eq number) es bytes found in
    subst (λ k. Contains es (k, bytes)) (same_number number at.0 at.2) at.1

-- what the match of an append makes
pub appended_ok : (old new : Filled) (slice bytes : List ℕ) (read : Result (Unit {0}) BatchRead) → slice ≡ bytes → read ≡ Ok tt → Appends old new slice → IsAppended read old new bytes
appended_ok old new slice bytes read same is done = subst (λ (r : Result (Unit {0}) BatchRead). IsAppended r old new bytes) (sym is) (subst (Appends old new) same done)

pub appended_err : {T E : Type 0} (r : Result T E) (e : E) (old new : Filled) (slice bytes : List ℕ) (read : Result (Unit {0}) BatchRead) → slice ≡ bytes → r ≡ Err e → read ≡ Err NoMemory
    → OnErr r (new ≡ old) → (length slice ≤ old.spare → IsOk r) → IsAppended read old new bytes
appended_err (Ok x) e old new slice bytes read same failed is err spared = absurd (search (rules, failed))
appended_err (Err x) e old new slice bytes read same failed is err spared = subst (λ (r : Result (Unit {0}) BatchRead). IsAppended r old new bytes) (sym is)
    (refl, err, λ room. absurd (search (rules, spared (subst (λ (b : List ℕ). length b ≤ old.spare) (sym same) room))))
