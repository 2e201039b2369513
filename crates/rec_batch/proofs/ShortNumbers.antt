-- Numbers of one byte.
use Rattle.std.proofs.Common.{◌≡◌, ℕ, ◌<◌, List, ◌∷◌, refl, true, ltb}
use Rattle.std.specs.Prelude.{Some}
use Rattle.std.proofs.lemmas.Bool.{lt-ltb}
use Rattle.flex_fields.specs.Reading.{groups_at, long_uvarint_at, unzigzag, uvarint_at, varint_at, varlong_at}
use Rattle.rec_batch.specs.Passing.{varint_in, varlong_in}

pub varint_one : (b : ℕ) (rest : List ℕ) → b < 128 → varint_in (b ∷ rest) ≡ Some (unzigzag b, rest)
unfolding varint_in varint_at uvarint_at groups_at
varint_one b rest h = let low : ltb b 128 ≡ true = lt-ltb b 128 h in rw low refl

pub varlong_one : (b : ℕ) (rest : List ℕ) → b < 128 → varlong_in (b ∷ rest) ≡ Some (unzigzag b, rest)
unfolding varlong_in varlong_at long_uvarint_at groups_at
varlong_one b rest h = let low : ltb b 128 ≡ true = lt-ltb b 128 h in rw low refl
