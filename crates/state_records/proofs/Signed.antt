-- Epochs and starts are what their bits stand for.
use Rattle.std.proofs.Common.{◌≡◌, ℤ, pos, negsuc, arith, to_z, of_z, w32, w64}
use Rattle.std.proofs.lemmas.Int.{to_z-of_z, fits_signed_from_abs}
use Rattle.state_records.specs.States.{IsEpoch, IsStart}

pub epoch_same : (z : ℤ) → IsEpoch z → to_z w32 (of_z w32 z) ≡ z
epoch_same (pos n) h = to_z-of_z w32 (pos n) (fits_signed_from_abs w32 (pos n) h)
epoch_same (negsuc n) h = absurd h

pub start_same : (z : ℤ) → IsStart z → to_z w64 (of_z w64 z) ≡ z
start_same (pos n) h = to_z-of_z w64 (pos n) (fits_signed_from_abs w64 (pos n) h)
start_same (negsuc n) h = to_z-of_z w64 (negsuc n) (fits_signed_from_abs w64 (negsuc n) (omega arith))
