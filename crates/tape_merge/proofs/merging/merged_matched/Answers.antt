use Rattle.tape_merge.specs.Outcomes.{IsOutcome}
use Rattle.tape_merge.proofs.Results.{if_ok, is_session}
use Rattle.tape_merge.proofs.merging.merged_matched.Goals as goal

pub knotted-requires : goal.knotted-requires
knotted-requires c = record {
  apart = c.requires.apart;
  matched = c.requires.matched;
  stuck = c.in_ok-go_on.ensures.stuck c.requires.matched;
  left = c.in-Some.ensures.some;
}

pub returns-in-Some : goal.returns-in-Some
returns-in-Some c =
    if_ok (λ topics outcome. IsOutcome topics c.args.tapes.now c.args.links.now outcome) c.knotted.result c.args.conf.now.topics c.knotted.ensures

pub returns : goal.returns
returns c =
    is_session c.args.conf.now.topics c.args.tapes.now c.args.links.now c.go_on.new.counts c.go_on.new.events.items c.in_ok-events.events.items c.in_ok-events.ensures
    c.in_ok-go_on.ensures.goes (c.in_ok-go_on.ensures.stuck c.requires.matched) c.requires.matched c.in-None.ensures.none
