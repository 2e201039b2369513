-- What is written stands for what was to be written.
use Rattle.std.proofs.Common.{◌≡◌, ℕ, ℤ, pos, negsuc, zero, suc, ◌+◌, ◌-◌, ◌*◌, ◌/◌, ◌%◌, ◌^◌, ◌<◌, ◌≤◌, true, false, ltb, List, [], ◌∷◌}
use Rattle.std.proofs.Common.{length, refl, arith, inl, inr}
use Rattle.std.proofs.lemmas.Bool.{le-ltb, lt-ltb, cases_lt}
use Rattle.std.specs.Str.{IsUtf8}
use Rattle.std.proofs.lemmas.Str.{is_utf8-from_IsUtf8}
use Rattle.flex_fields.specs.Reading.{limit, unzigzag}
use Rattle.flex_fields.specs.Grammar.{IsGroups, IsUvarint, IsLongUvarint, IsVarint, IsVarlong, IsSized, IsStr, IsTags}
use Rattle.flex_fields.specs.Writing.{groups_of, uvarint_bytes, sized_bytes, zigzag, varint_bytes, varlong_bytes}

pub groups_step : (more n : ℕ) → 0 < more → 128 ≤ n → groups_of more n ≡ (n % 128 + 128) ∷ groups_of (more - 1) (n / 128)
unfolding groups_of
groups_step zero n lt le = absurd (omega arith)
groups_step (suc more) n lt le =
    let high : ltb n 128 ≡ false = le-ltb _ _ le in
    let down : suc more - 1 ≡ more = omega arith in
    rw (high, down) refl

groups_more : (b : ℕ) (bytes : List ℕ) (n high : ℕ) → 128 ≤ b → n + 128 ≡ b + 128 * high → IsGroups bytes high → IsGroups (b ∷ bytes) n
groups_more b [] n high le e h = absurd h
groups_more b (c ∷ bytes) n high le e h = (le, high, e, h)

pub record Spells (more n : ℕ) (bytes : List ℕ) : Type 0 where
  pub groups : IsGroups bytes n
  pub few : length bytes ≤ more + 1

pub groups_spell : (more n : ℕ) → n < limit 127 more → Spells more n (groups_of more n)
unfolding groups_of
groups_spell zero n small = record { groups = (omega arith, refl); few = omega arith }
groups_spell (suc more) n small = elim (cases_lt n 128) [
  | inl low ↦
      let is_low : ltb n 128 ≡ true = lt-ltb _ _ low in
      rw is_low (record { groups = (low, refl); few = omega arith })
  | inr high ↦
      let is_high : ltb n 128 ≡ false = le-ltb _ _ high in
      let rest = groups_spell more (n / 128) (omega arith) in
      rw is_high (record {
        groups =
            groups_more (n % 128 + 128) (groups_of more (n / 128)) n (n / 128) (omega arith) (omega arith) rest.groups;
        few =
            omega (arith, rest.few);
      })
]

pub uvarint_spells : (n : ℕ) → n < 2 ^ 32 → IsUvarint (uvarint_bytes n) n
uvarint_spells n small = let s = groups_spell 4 n (omega arith) in (s.groups, omega (arith, s.few), small)

pub long_uvarint_spells : (n : ℕ) → n < 2 ^ 64 → IsLongUvarint (groups_of 9 n) n
long_uvarint_spells n small = let s = groups_spell 9 n (omega arith) in (s.groups, omega (arith, s.few), small)

pub unzigzag_zigzag : (z : ℤ) → unzigzag (zigzag z) ≡ z
unfolding unzigzag
unzigzag_zigzag (pos n) =
    let even : (2 * n) % 2 ≡ 0 = omega arith in
    let half : (2 * n) / 2 ≡ n = omega arith in
    rw (even, half) refl
unzigzag_zigzag (negsuc n) =
    let odd : (2 * n + 1) % 2 ≡ 1 = omega arith in
    let half : (2 * n + 1) / 2 ≡ n = omega arith in
    rw (odd, half) refl

pub varint_spells : (z : ℤ) → zigzag z < 2 ^ 32 → IsVarint (varint_bytes z) z
varint_spells z small = (zigzag z, uvarint_spells (zigzag z) small, unzigzag_zigzag z)

pub varlong_spells : (z : ℤ) → zigzag z < 2 ^ 64 → IsVarlong (varlong_bytes z) z
varlong_spells z small = (zigzag z, long_uvarint_spells (zigzag z) small, unzigzag_zigzag z)

pub sized_spells : (bytes : List ℕ) → length bytes + 1 < 2 ^ 32 → IsSized (sized_bytes bytes) bytes
sized_spells bytes small = (uvarint_bytes (length bytes + 1), uvarint_spells (length bytes + 1) small, refl)

pub str_spells : (text : List ℕ) → length text + 1 < 2 ^ 32 → IsUtf8 text → IsStr (sized_bytes text) text
str_spells text small utf8 = (sized_spells text small, is_utf8-from_IsUtf8 text utf8)

pub no_tags : IsTags (uvarint_bytes 0)
unfolding groups_of
no_tags = (uvarint_bytes 0, [], 0, uvarint_spells 0 (omega arith), refl, refl)
