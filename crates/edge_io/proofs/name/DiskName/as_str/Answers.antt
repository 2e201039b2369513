use Rattle.std.proofs.Common.{sym, subst}
use Rattle.std.specs.Str.{IsUtf8}
use Rattle.edge_io.proofs.Names.{name_is_text}
use Rattle.edge_io.proofs.name.DiskName.as_str.Goals as goal

pub unreachable-requires : goal.unreachable-requires
unreachable-requires c = c.in-Err.ensures.cases.0 (subst (λ l. IsUtf8 l) (sym c.as_bytes.ensures.same) (name_is_text c.args.self.now c.as_bytes.ensures.name))
