use Rattle.std.proofs.Common.{◌≡◌, ◌≢◌, Bor, List, ℕ, refl, rules}
use Rattle.share_top.specs.Words.{texts}
use Rattle.share_top.proofs.ConsumerWords.{value_on}
use Rattle.share_top.proofs.OptionWords.{two_texts}
use Rattle.share_top.proofs.words.consumer.+value_of.Goals as goal

pub returns : goal.returns
returns t c =
    let differs : c.as_str.result.now ≢ c.args.option.now = search rules in
    let is = two_texts c.args.words.now c.in-Some.behind.now c.in-Some-split_first.rest.now c.in-Some.word.now c.in-Some-split_first.value.now
    c.as_str.result.now _ c.in-Some.ensures.cases.0 c.as_str.ensures.value c.in-Some-split_first.ensures.cases.0 refl in
    value_on (λ (v : Bor (List ℕ)). v.now) c.args.option.now c.as_str.result.now _ (texts c.args.words.now) (texts c.in-Some-split_first.rest.now) is differs
    c.value_of.result c.value_of.ensures
