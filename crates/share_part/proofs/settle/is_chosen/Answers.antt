use Rattle.std.proofs.Common.{◌∙◌, ap, sym}
use Rattle.share_part.specs.Settling.{is_chosen}
use Rattle.share_part.specs.declared.settle.Whose.{Whose}
use Rattle.share_part.proofs.Doing.{same_member}
use Rattle.share_part.proofs.settle.is_chosen.Goals as goal

pub returns-in-Member : goal.returns-in-Member
returns-in-Member c = same_member c.is_held_by.result c.in-Member.member c.args.hold.now.member c.is_held_by.ensures.0 c.is_held_by.ensures.1
    ∙ ap (λ (w : Whose). is_chosen w c.args.hold.now) (sym c.in-Member.is)
