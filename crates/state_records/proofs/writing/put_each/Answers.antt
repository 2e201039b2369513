use Rattle.std.proofs.Common.{◌++◌, ◌∙◌, ap, arith, List}
use Rattle.std.proofs.lemmas.List.{take_all}
use Rattle.std.specs.List.{flat_map}
use Rattle.share_model.specs.declared.run.Run.{Run}
use Rattle.state_records.specs.Spelling.{run_bytes}
use Rattle.state_records.proofs.Sizes.{runs_length}
use Rattle.state_records.proofs.writing.put_each.Goals as goal

pub put_run-requires : goal.put_run-requires
put_run-requires c =
    omega (arith, runs_length c.args.runs.now, c.requires, c.loop-run.invariant.spare, c.loop-run-test.true)

pub returns : goal.returns
returns c = record {
  bytes = c.loop-run.invariant.bytes
      ∙ ap (λ (l : List Run). c.args.out.now.bytes ++ flat_map run_bytes l) (take_all c.loop-run.run-index c.args.runs.now (omega arith));
  spare = omega (arith, runs_length c.args.runs.now, c.loop-run.invariant.spare, c.loop-run.auto.run-index-end);
}
