use Rattle.std.proofs.Common.{sym, refl, ◌∙◌, arith}
use Rattle.std.proofs.lemmas.Bool.{eqb-true}
use Rattle.edge_io.proofs.Streaming.{front_none, front_kept, front_all, front_then}
use Rattle.edge_io.proofs.link.send_all.Goals as goal

pub loop-rest-init : goal.loop-rest-init
loop-rest-init g c = record { written = front_none _ _; left = refl; ended = refl; later = omega arith }

pub loop-rest-preserved : goal.loop-rest-preserved
loop-rest-preserved g c = record {
  written = rw c.split_at.ensures.back (front_then _ _ _ _ _ _ c.loop-rest.invariant.written c.in_ok-count.ensures.bytes);
  left = c.in_ok-count.ensures.same.0 ∙ c.loop-rest.invariant.left;
  ended = c.in_ok-count.ensures.same.1 ∙ c.loop-rest.invariant.ended;
  later = omega (arith, c.in_ok-count.ensures.cause.later, c.loop-rest.invariant.later);
}

pub returns-clause-ok : goal.returns-clause-ok
returns-clause-ok g c = front_all _ _ _ _ c.loop-rest.invariant.written (eqb-true _ 0 (sym c.loop-rest-test.ensures))

pub returns-in_err-count-clause-front : goal.returns-in_err-count-clause-front
returns-in_err-count-clause-front g c = (_, front_kept _ _ _ _ _ c.loop-rest.invariant.written c.in_err-count.ensures.bytes)
