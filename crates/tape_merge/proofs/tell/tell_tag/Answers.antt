use Rattle.std.proofs.Common.{◌++◌, ◌∷◌, ◌∙◌, [], Some, ap, sym}
use Rattle.session_script.specs.declared.event.Event.TheVariants.{Tick as ticks}
use Rattle.share_record.specs.declared.tag.Tag.TheVariants.{Expire}
use Rattle.tape_merge.specs.Telling.{told_by_tag}
use Rattle.tape_merge.proofs.Tellings.{told_none}
use Rattle.tape_merge.proofs.tell.tell_tag.Goals as goal

pub returns-in-Part : goal.returns-in-Part
returns-in-Part c = told_none c.args.events.now.items _ (ap (λ t. told_by_tag c.args.conf.now.topics (Some t) c.args.shard) c.in-Part.is)

pub returns-in-Offer : goal.returns-in-Offer
returns-in-Offer c = told_none c.args.events.now.items _ (ap (λ t. told_by_tag c.args.conf.now.topics (Some t) c.args.shard) c.in-Offer.is)

pub returns-in-Tick : goal.returns-in-Tick
returns-in-Tick c =
    c.in_ok-tell-in-Tick.ensures
    ∙ (ap (λ n. c.args.events.now.items ++ ticks n ∷ []) c.ms-moment.ensures.is
    ∙ ap (λ t. c.args.events.now.items ++ told_by_tag c.args.conf.now.topics (Some t) c.args.shard) (sym c.in-Tick.is))

pub returns-in-Expire : goal.returns-in-Expire
returns-in-Expire c =
    c.in_ok-tell_expire-in-Expire.ensures
    ∙ (ap (λ n. c.args.events.now.items ++ told_by_tag c.args.conf.now.topics (Some (Expire n)) c.args.shard) c.ms-moment-in-Expire.ensures.is
    ∙ ap (λ t. c.args.events.now.items ++ told_by_tag c.args.conf.now.topics (Some t) c.args.shard) (sym c.in-Expire.is))
