use Rattle.std.proofs.Common.{◌≡◌, ◌∙◌, rules}
use Rattle.std.specs.Result.{is_ok}
use Rattle.share_members.proofs.Searched.{found_place}
use Rattle.share_members.proofs.places.has_place.Goals as goal

pub returns : goal.returns
returns c =
    let is : c.is_ok.result ≡ is_ok c.binary_search.result = search rules in
    is ∙ found_place c.args.topics.now c.args.place c.binary_search.result c.requires c.binary_search.ensures.position
