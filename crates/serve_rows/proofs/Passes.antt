-- A row of passes that were made is of its locks.
use Rattle.std.proofs.Common.{◌++◌, ◌∷◌, [], List}
use Rattle.std.specs.List.{AllByRecursion, AllZip}
use Rattle.shard_lock.specs.Passes.{IsOf, LockParts, PassParts}
use Rattle.broker_locks.specs.Acting.{AreOf}
use Rattle.broker_locks.specs.Rows.{IsAlone, StandsAlone}
use Rattle.broker_locks.specs.Shared.{PassesParts, SharedParts}
use Rattle.broker_locks.proofs.Lines.{all_last}

of_each : {S E A : Type 0} (ls : List (LockParts S)) (ps : List (PassParts S E A)) → AllZip StandsAlone ls ps → AllZip IsOf ls ps
of_each [] [] z = tt
of_each [] (p ∷ ps) z = absurd z
of_each (l ∷ ls) [] z = absurd z
of_each (l ∷ ls) (p ∷ ps) z = (z.0.0.0, of_each ls ps z.1)

pub row_of : {D : Type 0} (shared : SharedParts D) (rows : List (PassesParts D)) (p : PassesParts D)
    → AllByRecursion (IsAlone shared) (rows ++ p ∷ []) → AreOf shared p
row_of shared rows p all =
    let row = all_last (IsAlone shared) rows p all in
    record { parts = of_each shared.parts p.parts row.parts; members = row.members.0.0; foreign = row.foreign.0.0 }
