use Rattle.std.proofs.Common.{◌≡◌, ◌≤◌, ◌++◌, ◌+◌, ◌*◌, [], IfNone, length, vec_len, vec_capacity}
use Rattle.offset_runs.specs.Parts.{maybe_run}
use Rattle.offset_runs.proofs.Merges.{IsMerging}
use Rattle.offset_runs.proofs.overlay.overlay.Given as goal

abbrev pub invariant-loop-head : goal.invariant-loop-head
invariant-loop-head l =
    record {
      merging : IsMerging l.fn.mine l.fn.theirs l.out.items (maybe_run l.head ++ l.rest) l.theirs;
      none : IfNone l.head (l.rest ≡ []);
      room : vec_len l.out + (length (maybe_run l.head ++ l.rest) + 2 * length l.theirs) ≤ vec_capacity l.fn.out;
      few : vec_len l.out + (length (maybe_run l.head ++ l.rest) + 2 * length l.theirs) ≤ length l.fn.mine + 2 * length l.fn.theirs;
      capacity : vec_capacity l.fn.out ≤ vec_capacity l.out;
    }

abbrev pub decreases-loop-head : goal.decreases-loop-head
decreases-loop-head l = length (maybe_run l.head ++ l.rest) + length l.theirs
