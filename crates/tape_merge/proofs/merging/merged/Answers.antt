use Rattle.std.proofs.Common.{subst}
use Rattle.tape_merge.specs.Sightings.{Found}
use Rattle.tape_merge.proofs.merging.merged.Goals as goal

pub returns-in-Some : goal.returns-in-Some
returns-in-Some c = subst (λ o. Found c.args.tapes.now c.args.links.now o) c.in-Some.is c.in_ok-unmatched.ensures

pub merged_matched-requires : goal.merged_matched-requires
merged_matched-requires c = record {
  apart = c.requires.apart;
  few = c.requires.few;
  matched = subst (λ o. Found c.args.tapes.now c.args.links.now o) c.in-None.is c.in_ok-unmatched.ensures;
}
