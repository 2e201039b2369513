use Rattle.text_pieces.proofs.Going.{hands_all}
use Rattle.text_pieces.proofs.pieces.Pieces.hand_full.Goals as goal

pub returns-clause-handed : goal.returns-clause-handed
returns-clause-handed g c = hands_all _ _ _ _ _ _ _ c.hand_on.ensures.written c.hand_on.ensures.ok
