use Rattle.share_calls.proofs.Acquiring.{acquires_told}
use Rattle.share_calls.proofs.law.a_fetch_acquires_in_what_is_told.Goals as goal

pub returns : goal.returns
returns c = acquires_told
