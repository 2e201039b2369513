use Rattle.std.proofs.Common.{◌++◌, ◌∙◌, Some, ap, sym}
use Rattle.share_record.specs.declared.tag.Tag.TheVariants.{Expire}
use Rattle.tape_merge.specs.Telling.{told_by_tag}
use Rattle.tape_merge.proofs.Tellings.{told_none}
use Rattle.tape_merge.proofs.tell.tell_expire.Goals as goal

pub returns-in-Part : goal.returns-in-Part
returns-in-Part c =
    c.in_ok-tell_expiry-in-Part.ensures ∙ ap (λ s. c.args.events.now.items ++ told_by_tag c.args.conf.now.topics (Some (Expire c.args.now)) s) (sym c.in-Part.is)

pub returns-in-Members : goal.returns-in-Members
returns-in-Members c = told_none c.args.events.now.items _ (ap (λ s. told_by_tag c.args.conf.now.topics (Some (Expire c.args.now)) s) c.in-Members.is)

pub returns-in-Foreign : goal.returns-in-Foreign
returns-in-Foreign c = told_none c.args.events.now.items _ (ap (λ s. told_by_tag c.args.conf.now.topics (Some (Expire c.args.now)) s) c.in-Foreign.is)
