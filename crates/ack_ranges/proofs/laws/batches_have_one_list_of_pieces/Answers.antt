use Rattle.std.proofs.Common.{◌∙◌, sym}
use Rattle.ack_ranges.proofs.OneList.{one_list}
use Rattle.ack_ranges.proofs.laws.batches_have_one_list_of_pieces.Goals as goal

pub returns : goal.returns
returns c = λ batches xs ys mine theirs. one_list xs ys mine.canonical theirs.canonical (λ o. mine.same o ∙ sym (theirs.same o))
