-- What a call that was not done leaves.
use Rattle.std.specs.Prelude.{◌≡◌}
use Rattle.edge_mem.specs.Past.{Past}
use Rattle.edge_mem.specs.declared.faulty.Refusal.{Refusal}
use Rattle.edge_mem.specs.declared.faulty.Refusal.TheVariants.{Broken, NoMemory}

-- this, where a fault broke it, and all as it was, where it found no memory
abbrev pub Leaves : Refusal → Past → Past → Past → Type 0
Leaves Broken torn old new = new ≡ torn
Leaves NoMemory torn old new = new ≡ old
