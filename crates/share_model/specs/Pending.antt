-- What a store may be found with after a crash. A write that failed on a device, and that no later write has mended away, is
-- pending: a crash may leave it done or undone (POSIX `fdatasync` promises nothing of it). This project's own.
-- For example a journal of no frames whose append of `61` failed at its last sync is found with no frames, or with `61`.
use Rattle.std.specs.Prelude.{◌⊎◌, Some, None}
use Rattle.std.specs.declared.option.Option.{Option}

-- Found with what its completed writes left, or with that and the write that is pending. `Holds` says of a value that it is what
-- the store is found with; `pending` is what the pending write would leave.
abbrev pub WithPending : {S : Type 0} → (S → Type 0) → S → Option S → Type 0
WithPending Holds state None = Holds state
WithPending Holds state (Some written) = Holds state ⊎ Holds written

-- Found so at a moment of a call that writes once: with what stood at entry, or with what this call's write leaves.
abbrev pub WithinWrite : {S : Type 0} → (S → Type 0) → S → Option S → S → Type 0
WithinWrite Holds state pending written = WithPending Holds state pending ⊎ Holds written
