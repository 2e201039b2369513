-- Logs that grow by a batch.
use Rattle.std.proofs.Common.{◌≡◌, ℕ, ◌+◌, ◌^◌, ◌<◌, ◌≤◌, List, [], ◌∷◌, ◌++◌, refl, arith}
use Rattle.std.specs.List.{AllByRecursion}
use Rattle.share_model.specs.Logs.{Batch, RisesFrom, end_of}
use Rattle.part_log.specs.Batches.{IsStored}
use Rattle.part_log.specs.Logs.{IsStoredLog, MayFollow}
use Rattle.part_log.proofs.Frames.{bounds}

pub end_more : (log : List Batch) (b : Batch) → end_of (log ++ b ∷ []) ≡ b.last + 1
end_more [] b = refl
end_more (c ∷ []) b = refl
end_more (c ∷ d ∷ log) b = end_more (d ∷ log) b

pub end_from : (e : ℕ) (b : Batch) (log : List Batch) → RisesFrom e (b ∷ log) → e < end_of (b ∷ log)
end_from e b [] h = omega (arith, h.0, h.1)
end_from e b (c ∷ log) h = omega (arith, h.0, h.1, end_from (b.last + 1) c log h.2)

pub rises_more : (e : ℕ) (log : List Batch) (b : Batch) → RisesFrom e log → e ≤ b.base → end_of log ≤ b.base → b.base ≤ b.last → RisesFrom e (log ++ b ∷ [])
rises_more e [] b h from end order = (from, order, tt)
rises_more e (c ∷ []) b h from end order = (h.0, h.1, (end, order, tt))
rises_more e (c ∷ d ∷ log) b h from end order =
    (h.0, h.1, rises_more (c.last + 1) (d ∷ log) b h.2 (omega (arith, end, end_from (c.last + 1) d log h.2)) end order)

all_more : {A : Type 0} (P : A → Type 0) (xs : List A) (x : A) → AllByRecursion P xs → P x → AllByRecursion P (xs ++ x ∷ [])
all_more P [] x h p = (p, tt)
all_more P (y ∷ xs) x h p = (h.0, all_more P xs x h.1 p)

pub sound_none : IsStoredLog []
sound_none = record { stored = tt; rises = tt }

pub sound_more : (log : List Batch) (b : Batch) → IsStoredLog log → MayFollow log b → IsStoredLog (log ++ b ∷ [])
sound_more log b h f = record {
  stored = all_more IsStored log b h.stored f.stored;
  rises = rises_more 0 log b h.rises (omega arith) f.behind (bounds b f.stored).order;
}

pub end_bound : (log : List Batch) → AllByRecursion IsStored log → end_of log ≤ 2 ^ 62
end_bound [] h = omega arith
end_bound (b ∷ []) h = omega (arith, (bounds b h.0).below)
end_bound (b ∷ c ∷ log) h = end_bound (c ∷ log) h.1
