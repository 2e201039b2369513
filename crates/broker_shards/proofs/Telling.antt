-- What a reply can tell of runs that are stored, and of grants that were taken.
use Rattle.std.proofs.Common.{◌≡◌, ◌≢◌, ◌∙◌, arith, List, [], ◌∷◌, Result, Ok, Err}
use Rattle.std.specs.List.{AllByRecursion}
use Rattle.std.specs.Prelude.{All}
use Rattle.std.proofs.lemmas.List.Elements.{All-from_recursion}
use Rattle.share_model.specs.Runs.{IsCanonical}
use Rattle.share_model.specs.declared.delete.DeleteAnswer.{DeleteAnswer}
use Rattle.share_model.specs.declared.delete.DeleteAnswer.TheVariants.{Done, OutOfRange, Store as Unraised}
use Rattle.share_model.specs.declared.delete.Placed.{Placed}
use Rattle.share_model.specs.declared.fault.LogFault.{LogFault}
use Rattle.share_model.specs.declared.fault.LogFault.TheVariants.{Batch as BadBatch, Store as Unstored, NoMemory}
use Rattle.share_model.specs.declared.hold.Grant.{Grant}
use Rattle.share_model.specs.declared.run.Run.{Run}
use Rattle.state_records.specs.States.{AreStoredRuns, IsStoredRun}
use Rattle.share_part.specs.Deleting.{IsTellableDelete}
use Rattle.share_part.specs.Walks.{IsSmallGrant}
use Rattle.call_fold.specs.Parts.{HasTellableStart, IsTellable, IsTellableGrant}
use Rattle.call_fold.specs.declared.part.Produced.{Produced}
use Rattle.call_fold.specs.declared.part.Produced.TheVariants.{Base, Batch, Store}
use Rattle.broker_model.specs.Shards.{result_of}

-- an answer isn't want of memory
pub not_memory : (produced : Produced) (added : Result Placed LogFault) → result_of produced ≡ added → added ≢ Err NoMemory
not_memory (Base base) added e f = let bad : ◌≡◌ {A = Result Placed LogFault} (Ok base) (Err NoMemory) = e ∙ f in cc
not_memory (Batch fault) added e f = let bad : ◌≡◌ {A = Result Placed LogFault} (Err (BadBatch fault)) (Err NoMemory) = e ∙ f in cc
not_memory (Store fault) added e f = let bad : ◌≡◌ {A = Result Placed LogFault} (Err (Unstored fault)) (Err NoMemory) = e ∙ f in cc

-- where a log starts is an offset that a reply can say
pub start_told : (answer : DeleteAnswer) → IsTellableDelete answer → HasTellableStart answer
start_told (Done start) below = omega (arith, below)
start_told (OutOfRange end) below = tt
start_told (Unraised fault) below = tt

each_small : (grants : List Grant) → AllByRecursion IsSmallGrant grants → AllByRecursion IsTellableGrant grants
each_small [] a = tt
each_small (g ∷ grants) a = (
  record {
    first = (let e = a.0.0 in let l = a.0.1 in omega (arith, e, l));
    last = (let l = a.0.1 in omega (arith, l));
    count = (let c = a.0.2 in omega (arith, c));
  },
  each_small grants a.1,
)

pub grants_told : (grants : List Grant) → AllByRecursion IsSmallGrant grants → All IsTellableGrant grants
grants_told grants a = All-from_recursion IsTellableGrant grants (each_small grants a)

each_run : (runs : List Run) → IsCanonical runs → AllByRecursion IsStoredRun runs → AllByRecursion IsTellable runs
each_run [] c s = tt
each_run (run ∷ runs) c s = (
  record { first = omega (arith, c.0, s.0.0); last = s.0.0; count = s.0.1 },
  each_run runs c.2 s.1,
)

pub runs_told : (runs : List Run) → AreStoredRuns runs → All IsTellable runs
runs_told runs stored = All-from_recursion IsTellable runs (each_run runs stored.0 stored.1)
