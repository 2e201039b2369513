use Rattle.std.proofs.Common.{◌≡◌, ◌∙◌, sym, ap, subst, Option, List, ℕ, Err, is_some, false, arith, rules}
use Rattle.edge_io.specs.Disk.{IsTold}
use Rattle.edge_io.proofs.Counting.{call_done, call_failed, does_then, up_to, up_to_then, does_then_fails, fails_in_more, fails_starve}
use Rattle.edge_io.proofs.Moments.{joined}
use Rattle.edge_io.proofs.Runs.{call_runs, runs_then}
use Rattle.gate_journal.proofs.Changes.{one_call, stays_then}
use Rattle.gate_journal.specs.declared.opening.StartFault.{StartFault}
use Rattle.gate_journal.specs.declared.opening.StartFault.TheVariants.{Device}
use Rattle.gate_journal.proofs.opening.read_synced.Goals as goal

pub returns-in_err-bytes-clause-calls : goal.returns-in_err-bytes-clause-calls
returns-in_err-bytes-clause-calls g c not =
    let is : c.from_residual.result ≡ Err c.in_err-bytes.field-0.0 = search rules in
    up_to_then g.D.Disk.seen 1 1 c.args.disk.now c.sync.new.self c.read_whole.new.disk
    (λ told. subst (λ (x : Option (List ℕ)). IsTold x) (sym c.sync.ensures.stays.content) told)
    (up_to g.D.Disk.seen 1 1 c.args.disk.now c.sync.new.self (omega arith) (call_done g.D.Disk.seen false c.args.disk.now c.sync.new.self tt c.in_default.ensures.fails))
    (c.in_err-bytes.ensures.calls (λ e. let device : c.in_err-bytes.field-0.0 ≡ Device = search rules in not (is ∙ ap (λ (f : StartFault). Err f) device)))

pub returns-in_err-bytes-clause-fails : goal.returns-in_err-bytes-clause-fails
returns-in_err-bytes-clause-fails g c device =
    let is : c.from_residual.result ≡ Err c.in_err-bytes.field-0.0 = search rules in
    does_then_fails g.D.Disk.seen 1 1 c.args.disk.now c.sync.new.self c.read_whole.new.disk
    (λ told. subst (λ (x : Option (List ℕ)). IsTold x) (sym c.sync.ensures.stays.content) told)
    (call_done g.D.Disk.seen false c.args.disk.now c.sync.new.self tt c.in_default.ensures.fails)
    (c.in_err-bytes.ensures.fails (let same : c.in_err-bytes.field-0.0 ≡ Device = search (rules, is, device) in ap (λ (f : StartFault). Err f) same))

pub returns-in-Ok-clause-calls : goal.returns-in-Ok-clause-calls
returns-in-Ok-clause-calls g c not = up_to_then g.D.Disk.seen 1 1 c.args.disk.now c.sync.new.self c.read_whole.new.disk
    (λ told. subst (λ (x : Option (List ℕ)). IsTold x) (sym c.sync.ensures.stays.content) told)
    (up_to g.D.Disk.seen 1 1 c.args.disk.now c.sync.new.self (omega arith) (call_done g.D.Disk.seen false c.args.disk.now c.sync.new.self tt c.in_default.ensures.fails))
    (c.in_ok-bytes.ensures.calls (λ e. search rules))

pub returns-clause-calls : goal.returns-clause-calls
returns-clause-calls g c not = up_to_then g.D.Disk.seen 1 1 c.args.disk.now c.sync.new.self c.read_whole.new.disk
    (λ told. subst (λ (x : Option (List ℕ)). IsTold x) (sym c.sync.ensures.stays.content) told)
    (up_to g.D.Disk.seen 1 1 c.args.disk.now c.sync.new.self (omega arith) (call_done g.D.Disk.seen false c.args.disk.now c.sync.new.self tt c.in_default.ensures.fails))
    (c.in_ok-bytes.ensures.calls (λ e. search rules))

pub returns-in-Err-clause-stays : goal.returns-in-Err-clause-stays
returns-in-Err-clause-stays g c = c.sync.ensures.stays

pub returns-in-Err-clause-any_moment : goal.returns-in-Err-clause-any_moment
returns-in-Err-clause-any_moment g c = one_call g.D.Disk.seen g.met.D.Disk.only_now c.args.disk.now c.sync.new.self c.sync.ensures.time c.sync.ensures.images

pub returns-in-Err-clause-runs : goal.returns-in-Err-clause-runs
returns-in-Err-clause-runs g c = call_runs g.D.Disk.seen false c.args.disk.now c.sync.new.self _
    (ap is_some c.sync.ensures.stays.content) c.sync.ensures.events c.sync.ensures.fails c.sync.ensures.cause

pub returns-in-Err-clause-device : goal.returns-in-Err-clause-device
returns-in-Err-clause-device g c = λ _. c.in-Err.ensures.cause.failed

pub returns-in-Err-clause-fails : goal.returns-in-Err-clause-fails
returns-in-Err-clause-fails g c = λ _.
    fails_in_more g.D.Disk.seen 1 2 c.args.disk.now c.sync.new.self (omega arith)
    (call_failed g.D.Disk.seen false c.args.disk.now c.sync.new.self _ c.in-Err.ensures.fails)

pub returns-in-Err-clause-memory : goal.returns-in-Err-clause-memory
returns-in-Err-clause-memory g c = λ _.
    fails_starve g.D.Disk.seen 2 c.args.disk.now c.sync.new.self
    (fails_in_more g.D.Disk.seen 1 2 c.args.disk.now c.sync.new.self (omega arith)
    (call_failed g.D.Disk.seen false c.args.disk.now c.sync.new.self _ c.in-Err.ensures.fails))

pub returns-in_err-bytes-clause-stays : goal.returns-in_err-bytes-clause-stays
returns-in_err-bytes-clause-stays g c = stays_then _ _ _ c.sync.ensures.stays c.read_whole.ensures.stays

pub returns-in_err-bytes-clause-images : goal.returns-in_err-bytes-clause-images
returns-in_err-bytes-clause-images g c = λ x now. c.sync.ensures.images x (c.read_whole.ensures.images x now)

pub returns-in_err-bytes-clause-any_moment : goal.returns-in_err-bytes-clause-any_moment
returns-in_err-bytes-clause-any_moment g c = joined g.D.Disk.seen c.args.disk.now c.sync.new.self c.read_whole.new.disk
    (g.D.Disk.seen c.args.disk.now).image (g.D.Disk.seen c.sync.new.self).image (g.D.Disk.seen c.args.disk.now).image
    (one_call g.D.Disk.seen g.met.D.Disk.only_now c.args.disk.now c.sync.new.self c.sync.ensures.time c.sync.ensures.images)
    c.read_whole.ensures.any_moment (λ x p. p) (λ x p. c.sync.ensures.images x p)

pub returns-in_err-bytes-clause-runs : goal.returns-in_err-bytes-clause-runs
returns-in_err-bytes-clause-runs g c = runs_then g.D.Disk.seen c.args.disk.now c.sync.new.self c.read_whole.new.disk
    (call_runs g.D.Disk.seen false c.args.disk.now c.sync.new.self _
    (ap is_some c.sync.ensures.stays.content) c.sync.ensures.events c.sync.ensures.fails c.sync.ensures.cause)
    c.read_whole.ensures.runs

pub returns-in-Ok-clause-stays : goal.returns-in-Ok-clause-stays
returns-in-Ok-clause-stays g c = stays_then _ _ _ c.sync.ensures.stays c.read_whole.ensures.stays

pub returns-in-Ok-clause-images : goal.returns-in-Ok-clause-images
returns-in-Ok-clause-images g c = λ x now. c.sync.ensures.images x (c.read_whole.ensures.images x now)

pub returns-in-Ok-clause-any_moment : goal.returns-in-Ok-clause-any_moment
returns-in-Ok-clause-any_moment g c = joined g.D.Disk.seen c.args.disk.now c.sync.new.self c.read_whole.new.disk
    (g.D.Disk.seen c.args.disk.now).image (g.D.Disk.seen c.sync.new.self).image (g.D.Disk.seen c.args.disk.now).image
    (one_call g.D.Disk.seen g.met.D.Disk.only_now c.args.disk.now c.sync.new.self c.sync.ensures.time c.sync.ensures.images)
    c.read_whole.ensures.any_moment (λ x p. p) (λ x p. c.sync.ensures.images x p)

pub returns-in-Ok-clause-runs : goal.returns-in-Ok-clause-runs
returns-in-Ok-clause-runs g c = runs_then g.D.Disk.seen c.args.disk.now c.sync.new.self c.read_whole.new.disk
    (call_runs g.D.Disk.seen false c.args.disk.now c.sync.new.self _
    (ap is_some c.sync.ensures.stays.content) c.sync.ensures.events c.sync.ensures.fails c.sync.ensures.cause)
    c.read_whole.ensures.runs

pub returns-clause-stays : goal.returns-clause-stays
returns-clause-stays g c = stays_then _ _ _ c.sync.ensures.stays c.read_whole.ensures.stays

pub returns-clause-images : goal.returns-clause-images
returns-clause-images g c = λ x now. c.sync.ensures.images x (c.read_whole.ensures.images x now)

pub returns-clause-any_moment : goal.returns-clause-any_moment
returns-clause-any_moment g c = joined g.D.Disk.seen c.args.disk.now c.sync.new.self c.read_whole.new.disk
    (g.D.Disk.seen c.args.disk.now).image (g.D.Disk.seen c.sync.new.self).image (g.D.Disk.seen c.args.disk.now).image
    (one_call g.D.Disk.seen g.met.D.Disk.only_now c.args.disk.now c.sync.new.self c.sync.ensures.time c.sync.ensures.images)
    c.read_whole.ensures.any_moment (λ x p. p) (λ x p. c.sync.ensures.images x p)

pub returns-clause-runs : goal.returns-clause-runs
returns-clause-runs g c = runs_then g.D.Disk.seen c.args.disk.now c.sync.new.self c.read_whole.new.disk
    (call_runs g.D.Disk.seen false c.args.disk.now c.sync.new.self _
    (ap is_some c.sync.ensures.stays.content) c.sync.ensures.events c.sync.ensures.fails c.sync.ensures.cause)
    c.read_whole.ensures.runs

pub returns-in-Ok-clause-two : goal.returns-in-Ok-clause-two
returns-in-Ok-clause-two g c = does_then g.D.Disk.seen 1 1 c.args.disk.now c.sync.new.self c.read_whole.new.disk
    (λ told. subst (λ (x : Option (List ℕ)). IsTold x) (sym c.sync.ensures.stays.content) told)
    (call_done g.D.Disk.seen false c.args.disk.now c.sync.new.self tt c.in_default.ensures.fails) c.in_ok-bytes.ensures.one
