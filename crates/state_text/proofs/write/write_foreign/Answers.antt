use Rattle.std.proofs.Common.{[], refl}
use Rattle.text_pieces.proofs.Going.{begun, starved}
use Rattle.state_text.proofs.write.write_foreign.Goals as goal

pub returns-in_default : goal.returns-in_default
returns-in_default g c = starved _ _ _ _ [] _ _ (begun _ [] _) refl
