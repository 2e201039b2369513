use Rattle.std.proofs.Common.{◌≡◌, ◌++◌, Some}
use Rattle.std.specs.BTreeMap.{is_at}
use Rattle.std.specs.Cmp.Lexicographic.{slice_cmp}
use Rattle.std.specs.List.{AllByRecursion}
use Rattle.std.specs.Map.{lookup}
use Rattle.std.specs.Ordering.{nat_cmp}
use Rattle.share_part.specs.Releasing.{due_groups}
use Rattle.lock_index.specs.Windows.{IsRising}
use Rattle.share_part.proofs.windows.due_groups.Given as goal

abbrev pub invariant-loop-group : goal.invariant-loop-group
invariant-loop-group g l = record {
  so_far : l.due.items ++ due_groups g.W.Window.held l.clock l.group-iterator ≡ due_groups g.W.Window.held l.clock l.windows.entries;
  found : AllByRecursion (λ e. lookup (is_at (slice_cmp nat_cmp e.0)) l.windows.entries ≡ Some e.1) l.group-iterator;
  rising : AllByRecursion (λ e. IsRising (g.W.Window.held e.1)) l.group-iterator → AllByRecursion (λ e. IsRising (g.W.Window.held e.1)) l.windows.entries;
}
