-- A history in turns: several acts that are done in one go, by one thread, for several that asked (flat combining, as in Hendler, Incze, Shavit and
-- Tzafrir, "Flat combining and the synchronization-parallelism tradeoff", 2010).
use Rattle.std.specs.Prelude.{◌≡◌, ◌⊎◌, List, [], ◌∷◌, ◌++◌}
use Rattle.shard_lock.specs.declared.shard.Entry.{Entry}
use Rattle.shard_lock.specs.History.{Leads}

-- the lists one after the other
abbrev pub flat : {X : Type 0} → List (List X) → List X
flat [] = []
flat (x ∷ xs) = x ++ flat xs

module _ {S E A : Type 0} where
  -- A turn: the acts were done one after the other, each a step from the shard that those before it leave; or the shard did them together.
  abbrev pub IsTurn : (S → E → A → S → Type 0) → (S → List (Entry E A) → S → Type 0) → S → List (Entry E A) → S → Type 0
  IsTurn acts together s es t = Leads acts s es t ⊎ together s es t

  -- these turns, one after the other, lead from the shard s to t
  abbrev pub Follow : (S → List (Entry E A) → S → Type 0) → S → List (List (Entry E A)) → S → Type 0
  Follow turn s [] t = s ≡ t
  Follow turn s (b ∷ bs) t = (m : S) × turn s b m × Follow turn m bs t

  -- The history can be cut into turns that lead from the shard s to t. With a sum that grows: 0, then a turn of (1, 1) and (5, 6), then one of (2, 8),
  -- leads to 8.
  pub record Leaves (turn : S → List (Entry E A) → S → Type 0) (s : S) (history : List (Entry E A)) (t : S) : Type 0 where
    pub turns : List (List (Entry E A))
    pub is : flat turns ≡ history
    pub follow : Follow turn s turns t

  -- the history is a beginning of one that can be made from the shard s
  pub record IsLegal (turn : S → List (Entry E A) → S → Type 0) (s : S) (history : List (Entry E A)) : Type 0 where
    pub rest : List (Entry E A)
    pub left : S
    pub leaves : Leaves turn s (history ++ rest) left
