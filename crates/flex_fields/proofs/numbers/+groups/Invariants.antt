use Rattle.flex_fields.proofs.numbers.+groups.Given as goal

abbrev pub decreases-groups : goal.decreases-groups
decreases-groups l = l.more
