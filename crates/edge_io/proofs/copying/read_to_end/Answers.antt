use Rattle.std.proofs.Common.{ap, take, ℕ, arith, length-take}
use Rattle.edge_io.specs.Streams.{Gains}
use Rattle.std.proofs.KnownBytes.{Consumes-all}
use Rattle.edge_io.proofs.Streaming.{gains_none, gains_kept, gains_end, gains_then, spills_then}
use Rattle.edge_io.proofs.copying.read_to_end.Goals as goal

pub loop-init : goal.loop-init
loop-init g c = record { read = gains_none _ _; long = omega arith; later = omega arith }

pub returns-in_default-clause-gains : goal.returns-in_default-clause-gains
returns-in_default-clause-gains g c = λ _. gains_kept _ _ _ _ _ c.loop.invariant.read c.in_default.ensures.bytes

pub returns-then-count-eq0-clause-gains : goal.returns-then-count-eq0-clause-gains
returns-then-count-eq0-clause-gains g c = λ _.
    gains_end _ _ _ _ _ _ c.loop.invariant.read c.in-Ok.ensures.bytes.0 (ap (λ (n : ℕ). take n c.read.new.into) c.if-count-eq0.true)

pub loop-preserved : goal.loop-preserved
loop-preserved g c = record {
  read = gains_then _ _ _ _ _ _ _ c.loop.invariant.read c.in-Ok.ensures.bytes.0 c.in_ok-extend_from_slice.ensures.items;
  long = omega (arith, c.in_ok-extend_from_slice.ensures.len, length-take {A = ℕ});
  later = omega arith;
}

pub returns-in_err-extend_from_slice-clause-spills : goal.returns-in_err-extend_from_slice-clause-spills
returns-in_err-extend_from_slice-clause-spills g c = λ is.
    spills_then _ _ _ _ _ _ _ c.loop.invariant.read c.in-Ok.ensures.bytes.0 c.in_err-extend_from_slice.ensures.items

pub returns-then-count-eq0-clause-ok : goal.returns-then-count-eq0-clause-ok
returns-then-count-eq0-clause-ok g c =
    let read : Gains _ _ _ _ = gains_end _ _ _ _ _ _ c.loop.invariant.read c.in-Ok.ensures.bytes.0 (ap (λ (n : ℕ). take n c.read.new.into) c.if-count-eq0.true) in
    Consumes-all _ _ _ _ _ read.read (c.in-Ok.ensures.bytes.1 c.if-count-eq0.true (omega arith)) read.kept
