-- What a hold that is put in, and a range that is taken away, leave.
use Rattle.std.proofs.Common.{◌≡◌, ℕ, ◌+◌, ◌<◌, ◌≤◌, Bool, true, false, cond, [], ◌∷◌, refl, ap, ◌∙◌, arith}
use Rattle.std.specs.Prelude.{nat_le, not, ◌&&◌, filter}
use Rattle.std.specs.BTreeMap.{insert_entry}
use Rattle.std.specs.Ordering.{nat_cmp, match_ordering}
use Rattle.std.specs.declared.cmp.Ordering.{Ordering}
use Rattle.std.specs.declared.cmp.Ordering.TheVariants.{Less, Equal, Greater}
use Rattle.share_model.specs.Held.{Held, without_range}
use Rattle.share_model.specs.declared.hold.Hold.{Hold}
use Rattle.lock_index.specs.Windows.{RisesFrom}
use Rattle.lock_index.proofs.Orders.{cmp_less, cmp_equal, cmp_greater, less_is, greater_is, kept_above}

pub rises_lower : (low less : ℕ) (held : Held) → less ≤ low → RisesFrom low held → RisesFrom less held
rises_lower low less [] le rises = tt
rises_lower low less (e ∷ es) le rises = (omega (arith, rises.0), rises.1)

-- ---- a hold that is put in

pub put_less : (e : ℕ × Hold) (es : Held) (o : ℕ) (hold : Hold) → o < e.0 → insert_entry nat_cmp (e ∷ es) o hold ≡ (o, hold) ∷ e ∷ es
put_less e es o hold h = ap (λ (c : Ordering). match_ordering c ((o, hold) ∷ e ∷ es) ((e.0, hold) ∷ es) (e ∷ insert_entry nat_cmp es o hold)) (cmp_less o e.0 h)

pub put_equal : (e : ℕ × Hold) (es : Held) (o : ℕ) (hold : Hold) → o ≡ e.0 → insert_entry nat_cmp (e ∷ es) o hold ≡ (e.0, hold) ∷ es
put_equal e es o hold h = ap (λ (c : Ordering). match_ordering c ((o, hold) ∷ e ∷ es) ((e.0, hold) ∷ es) (e ∷ insert_entry nat_cmp es o hold)) (cmp_equal o e.0 h)

pub put_greater : (e : ℕ × Hold) (es : Held) (o : ℕ) (hold : Hold) → e.0 < o → insert_entry nat_cmp (e ∷ es) o hold ≡ e ∷ insert_entry nat_cmp es o hold
put_greater e es o hold h = ap (λ (c : Ordering). match_ordering c ((o, hold) ∷ e ∷ es) ((e.0, hold) ∷ es) (e ∷ insert_entry nat_cmp es o hold)) (cmp_greater o e.0 h)

pub rises_put : (low o : ℕ) (hold : Hold) (held : Held) → low ≤ o → RisesFrom low held → RisesFrom low (insert_entry nat_cmp held o hold)
rises_put low o hold [] le rises = (le, tt)
rises_put low o hold (e ∷ es) le rises =
    elim (nat_cmp o e.0) as (λ c. nat_cmp o e.0 ≡ c → RisesFrom low (match_ordering c ((o, hold) ∷ e ∷ es) ((e.0, hold) ∷ es) (e ∷ insert_entry nat_cmp es o hold))) [
      | Less ↦ λ test. (le, (omega (arith, less_is o e.0 test), rises.1))
      | Equal ↦ λ test. (rises.0, rises.1)
      | Greater ↦ λ test. (rises.0, rises_put (e.0 + 1) o hold es (omega (arith, greater_is o e.0 test)) rises.1)
    ] refl

-- ---- a range that is taken away

pub kept : (first last : ℕ) (e : ℕ × Hold) (es : Held) → not (nat_le first e.0 && nat_le e.0 last) ≡ true → without_range first last (e ∷ es) ≡ e ∷ without_range first last es
kept first last e es test = ap (λ (b : Bool). cond b (e ∷ without_range first last es) (without_range first last es)) test

pub gone : (first last : ℕ) (e : ℕ × Hold) (es : Held) → not (nat_le first e.0 && nat_le e.0 last) ≡ false → without_range first last (e ∷ es) ≡ without_range first last es
gone first last e es test = ap (λ (b : Bool). cond b (e ∷ without_range first last es) (without_range first last es)) test

-- all lie above the range
pub all_above : (low first last : ℕ) (held : Held) → RisesFrom low held → last < low → without_range first last held ≡ held
all_above low first last [] rises h = refl
all_above low first last (e ∷ es) rises h =
    kept first last e es (kept_above first last e.0 (omega (arith, rises.0)))
    ∙ ap (λ (l : Held). e ∷ l) (all_above (e.0 + 1) first last es rises.1 (omega (arith, rises.0)))

rises_filter : (p : ℕ × Hold → Bool) (low : ℕ) (held : Held) → RisesFrom low held → RisesFrom low (filter p held)
rises_filter p low [] rises = tt
rises_filter p low (e ∷ es) rises =
    elim (p e) as (λ b. RisesFrom low (cond b (e ∷ filter p es) (filter p es))) [
      | true ↦ (rises.0, rises_filter p (e.0 + 1) es rises.1)
      | false ↦ rises_lower (e.0 + 1) low (filter p es) (omega (arith, rises.0)) (rises_filter p (e.0 + 1) es rises.1)
    ]

pub rises_without : (first last low : ℕ) (held : Held) → RisesFrom low held → RisesFrom low (without_range first last held)
rises_without first last = rises_filter (λ e. not (nat_le first e.0 && nat_le e.0 last))
