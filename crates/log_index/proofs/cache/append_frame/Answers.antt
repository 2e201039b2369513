use Rattle.std.proofs.Common.{arith, ap, length, refl, inl, inr}
use Rattle.log_index.proofs.Fitting.{cut_rest}
use Rattle.log_index.proofs.cache.append_frame.Goals as goal

pub slice_bounds-keep-count : goal.slice_bounds-keep-count
slice_bounds-keep-count g c = omega (arith, ap length c.as_slice-before.ensures, ap length c.as_slice.ensures, c.in_ok-read_frame_within.ensures.extends.longer)

pub slice_bounds-keep-start : goal.slice_bounds-keep-start
slice_bounds-keep-start g c = omega (arith, ap length c.as_slice-before.ensures, ap length c.as_slice.ensures, c.in_ok-read_frame_within.ensures.extends.longer)

pub returns-clause-cached : goal.returns-clause-cached
returns-clause-cached g c = λ k b has. elim (c.keep.ensures k b has) [
  | inl was ↦ inl was
  | inr is ↦ inr (
    is.0,
    (
      refl,
      cut_rest c.args.entry.now.size c.args.out.now.bytes c.read_frame_within.new.out.bytes c.as_slice-before.result.now c.as_slice.result.now b
          c.in_ok-read_frame_within.ensures.extends c.as_slice-before.ensures c.as_slice.ensures is.1,
    ),
  )
]
