use Rattle.std.proofs.Common.{◌∙◌, ap, sym}
use Rattle.share_session.specs.Requests.{entries}
use Rattle.share_session.specs.Seen.{was_seen, repeats}
use Rattle.share_session.proofs.Twice.{at_first}
use Rattle.share_session.proofs.repeats.has_repeat.Goals as goal

pub loop-topic-init : goal.loop-topic-init
loop-topic-init c = at_first (entries c.args.topics.now) ∙ ap (λ seen. repeats (was_seen seen) (entries c.args.topics.now)) (sym c.new-seen.ensures.empty)
