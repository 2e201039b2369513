use Rattle.std.proofs.Common.{rules, refl, ◌∙◌, arith}
use Rattle.std.specs.Io.KnownBytes.{Appends}
use Rattle.edge_io.specs.Streams.{AppendsFront}
use Rattle.broker_run.proofs.Runs.{replied_none, replied_then, replied_short}
use Rattle.broker_run.proofs.connection.reply.Goals as goal

pub loop-frame-init : goal.loop-frame-init
loop-frame-init g c = record { replied = λ conf. replied_none conf _ _; left = refl; ended = refl; later = omega arith }

pub loop-frame-preserved : goal.loop-frame-preserved
loop-frame-preserved g c =
    let i = c.loop-frame.invariant in
    let q : Appends (g.K.Link.held c.loop-frame.link) (g.K.Link.held c.send_all.new.link) c.in-Some.frame = search rules in
    let e = c.send_all.ensures in
    record {
      replied = λ conf. replied_then conf _ _ _ _ _ _ _ _ (i.replied conf) c.in-Some.ensures.some c.in-Some.ensures.rest q;
      left = e.same.0 ∙ i.left;
      ended = e.same.1 ∙ i.ended;
      later = omega (arith, e.cause.later, i.later);
    }

pub returns-in-Err-clause-err : goal.returns-in-Err-clause-err
returns-in-Err-clause-err g c =
    let q : AppendsFront (g.K.Link.held c.loop-frame.link) (g.K.Link.held c.send_all.new.link) c.in-Some.frame c.send_all.ensures.front.0 = search rules in
    λ conf. replied_short conf _ _ _ _ _ _ _ _ _ (c.loop-frame.invariant.replied conf) c.in-Some.ensures.some c.in-Some.ensures.rest q
