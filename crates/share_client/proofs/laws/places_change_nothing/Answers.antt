use Rattle.share_client.proofs.Locating.{fetch_bare}
use Rattle.share_client.proofs.laws.places_change_nothing.Goals as goal

pub returns : goal.returns
returns c = fetch_bare
