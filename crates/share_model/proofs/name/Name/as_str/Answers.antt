use Rattle.std.proofs.Common.{sym, subst}
use Rattle.std.proofs.lemmas.Str.{IsUtf8-from_is_utf8}
use Rattle.std.specs.Str.{IsUtf8}
use Rattle.share_model.proofs.name.Name.as_str.Goals as goal

pub unreachable-requires : goal.unreachable-requires
unreachable-requires c = c.in-Err.ensures.cases.0 (subst (λ l. IsUtf8 l) (sym c.as_bytes.ensures.same) (IsUtf8-from_is_utf8 c.args.self.now c.as_bytes.ensures.name.utf8))
