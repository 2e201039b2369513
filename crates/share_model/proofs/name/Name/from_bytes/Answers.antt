use Rattle.std.proofs.lemmas.Str.{IsUtf8-from_is_utf8}
use Rattle.share_model.proofs.name.Name.from_bytes.Goals as goal

pub returns-in-Err-clause-none : goal.returns-in-Err-clause-none
returns-in-Err-clause-none c = λ h. c.in-Err.ensures.cases.0 (IsUtf8-from_is_utf8 c.args.bytes.now h.utf8)
