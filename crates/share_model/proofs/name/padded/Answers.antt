use Rattle.std.proofs.Common.{ap, List, ℕ, ◌++◌, length}
use Rattle.std.proofs.lemmas.List.{drop-replicate}
use Rattle.share_model.proofs.name.padded.Goals as goal

pub returns : goal.returns
returns c = rw (c.copy_from_slice.ensures.after, c.split_at_mut-front.ensures.back) (ap (λ (l : List ℕ). c.args.bytes.now ++ l) (drop-replicate (length c.args.bytes.now) 255 0))
