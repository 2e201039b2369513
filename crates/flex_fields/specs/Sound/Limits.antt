-- How large a number in groups of seven bits is.
use Rattle.std.proofs.Common.{refl, ◌≡◌, ◌≤◌, ◌<◌, ◌*◌, ◌-◌, ℕ, zero, suc, arith}
use Rattle.flex_fields.specs.Reading.{limit}

pub limit_at_least : (top more : ℕ) → 1 ≤ limit top more
limit_at_least top zero = omega arith
limit_at_least top (suc more) = omega (arith, limit_at_least top more)

pub limit_down : (top more : ℕ) → 0 < more → limit top more ≡ 128 * limit top (more - 1)
limit_down top zero lt = absurd (omega arith)
limit_down top (suc more) lt = let e : suc more - 1 ≡ more = omega arith in rw e refl
