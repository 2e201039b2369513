use Rattle.std.proofs.Common.{◌∙◌, length, ap, arith}
use Rattle.share_session.specs.Plans.{releases_of, others_of}
use Rattle.share_session.proofs.Undone.{one_less, done_few}
use Rattle.share_session.proofs.sessions.Sessions.release_done.Goals as goal

pub invariant_of-self : goal.invariant_of-self
invariant_of-self c = omega (arith, ap length c.release_first.ensures, done_few c.self.inside.list.items, c.self.invariant)

pub returns : goal.returns
returns c = ap releases_of c.release_first.ensures ∙ one_less c.self.inside.list.items ∙ ap (λ l. others_of (releases_of l)) c.self.view_is
