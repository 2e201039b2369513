-- What a store keeps, as share-partition states by their keys. This project's own; the states are KIP-932's.
-- For example the contents `00` and nothing, a journal without a frame and an empty disk, stand for no states.
use Rattle.std.specs.Prelude.{◌≡◌, ℕ, List, map, Option}
use Rattle.std.specs.Option.{option_copied, option_map}
use Rattle.share_model.specs.ForeignRules.{ShareStates}
use Rattle.share_model.specs.Keys.{KeyParts}
use Rattle.share_model.specs.ShareStates.{ShareState}
use Rattle.share_coord.specs.Stored.{Entries, AreStored}
use Rattle.share_coord.specs.Views.{ViewParts}
use denote.Ref.{Bor}

-- the states of a store, without what it keeps of their records
abbrev pub states_of : Entries → ShareStates
states_of entries = map (λ e. (e.0, e.1.view)) entries

-- the state that was found of a key, if it is there
abbrev pub state_found : Option (Bor ViewParts) → Option ShareState
state_found view = option_map (λ v. v.state) (option_copied view)

-- what a `(&Key, &StateView)` points to
abbrev pub state_pair : Bor KeyParts × Bor ViewParts → KeyParts × ShareState
state_pair p = (p.0.now, p.1.now.state)

-- the contents of the two disks stand for these states
pub record AreStates (first second : List ℕ) (states : ShareStates) : Type 0 where
  pub entries : Entries
  pub stored : AreStored first second entries
  pub is : states ≡ states_of entries
