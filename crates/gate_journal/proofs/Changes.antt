-- A change of a disk and the sync behind it: what both together do.
use Rattle.std.proofs.Common.{◌≡◌, ◌+◌, ap, ◌∙◌, ℕ, List, Bool, false, Option, is_some, Result, Ok, Err, OnOk, OnErr, arith}
use Rattle.edge_io.specs.Armed.{RunsAsArmed, RunsOn, StarvesUnarmed}
use Rattle.edge_io.specs.Causes.{HasCause, Rose}
use Rattle.edge_io.specs.Counting.{DoesCalls, FailsInCalls, MakesCalls}
use Rattle.edge_io.specs.Disk.{IsTold, IsUneventful, Becomes, Reaches, Synced, SameContent, Within}
use Rattle.edge_io.specs.Moments.{Elapses, LeavesOnly}
use Rattle.edge_io.proofs.Moments.{started, goes_on}
use Rattle.edge_io.proofs.Counting.{call_done, call_failed, does_then, does_then_fails, fails_in_more, fails_starve}
use Rattle.edge_io.proofs.Runs.{call_runs, runs_then}
use Rattle.share_model.specs.declared.fault.StoreFault.{StoreFault}
use Rattle.share_model.specs.declared.fault.StoreFault.TheVariants.{Device as device}
use Rattle.gate_journal.proofs.Shaped.{on_err}
use Rattle.edge_io.specs.Views.{DiskView}

pub on_ok : {T E : Type 0} (r : Result T E) (P : Type 0) → P → OnOk r P
on_ok (Ok x) P p = p
on_ok (Err e) P p = tt

pub on_ok_both : {T E : Type 0} (r : Result T E) (P Q R : Type 0) → OnOk r P → OnOk r Q → (P → Q → R) → OnOk r R
on_ok_both (Ok x) P Q R p q f = f p q
on_ok_both (Err e) P Q R p q f = tt

pub on_err_both : {T E : Type 0} (r : Result T E) (P Q R : Type 0) → OnErr r P → OnErr r Q → (P → Q → R) → OnErr r R
on_err_both (Ok x) P Q R p q f = tt
on_err_both (Err e) P Q R p q f = f p q

pub on_either : {T E : Type 0} (r : Result T E) (P Q R : Type 0) → OnOk r P → OnErr r Q → (P → R) → (Q → R) → R
on_either (Ok x) P Q R p q f h = f p
on_either (Err e) P Q R p q f h = h q

-- the content that was made is what a crash leaves, once it is synced
pub synced_then : {T E : Type 0} (f : List ℕ → List ℕ) (old mid : Option (List ℕ)) (image : List ℕ → Type 0) (r : Result T E) → Becomes f old mid
    → OnOk r (Synced mid image) → OnOk r (Reaches f old image)
synced_then f old mid image (Ok x) made synced = λ c now. made c (synced c now)
synced_then f old mid image (Err e) made synced = tt

-- a fault behind calls that were done
pub cause_then : {S T E : Type 0} (f g h : ℕ) (x : S) (r : Result T E) → HasCause {T = S} {E = E} f g (Ok x) → HasCause g h r → HasCause f h r
cause_then f g h x (Ok y) first second = record { later = omega (arith, first.later, second.later); failed = tt }
cause_then f g h x (Err e) first second = record { later = omega (arith, first.later, second.later); failed = omega (arith, first.later, second.failed) }

-- a fault that is handed on
pub cause_of : {S T E : Type 0} (f g : ℕ) (e : E) (r : Result T E) → HasCause {T = S} {E = E} f g (Err e) → HasCause f g r
cause_of f g e r cause = record { later = cause.later; failed = on_err r (Rose f g) cause.failed }

-- ---- calls that leave the content

pub stays_then : (a b c : DiskView) → SameContent a b → SameContent b c → SameContent a c
stays_then a b c p q = record { content = q.content ∙ p.content; size = q.size ∙ p.size }

module _ {D : Type 0} (seen : D → DiskView)
    (only_now : (d : D) (c : List ℕ) → (seen d).since (seen d).moment c → (seen d).image c) where
  -- none
  pub no_call : (d : D) → LeavesOnly seen d d (seen d).image
  no_call d = started seen d (seen d).image (λ c left. only_now d c left)

  -- one
  pub one_call : (old new : D) → Elapses (seen old) (seen new) → Within (seen old).image (seen new).image
      → LeavesOnly seen old new (seen old).image
  one_call old new time within = goes_on seen old old new (seen old).image (no_call old) time within

module _ {D : Type 0} (seen : D → DiskView) where
  abbrev Runs : {T E : Type 0} → Bool → D → D → Result T E → Type 0
  Runs writes_half old new r =
      IsTold (seen old).content → RunsAsArmed writes_half (seen old) (seen new) r

  -- the first of two calls failed
  pub first_fails : {T E : Type 0} (half : Bool) (old new : D) (e : E) → Runs {T = T} {E = E} half old new (Err e)
      → FailsInCalls seen 2 old new
  first_fails half old new e runs = fails_in_more seen 1 2 old new (omega arith) (call_failed seen half old new e runs)

  pub first_starves : {T E : Type 0} (half : Bool) (old new : D) (e : E) → Runs {T = T} {E = E} half old new (Err e)
      → StarvesUnarmed seen old new
  first_starves half old new e runs = fails_starve seen 2 old new (first_fails half old new e runs)

  -- two calls, of which the first was done
  module _ {S T E : Type 0} (half : Bool) (old mid new : D) (x : S) (told : is_some (seen mid).content ≡ is_some (seen old).content)
      (first : Runs {T = S} {E = E} half old mid (Ok x)) where
    pub both_done : (r : Result T E) → Runs false mid new r → OnOk r (DoesCalls seen 2 old new)
    both_done (Ok y) second = does_then seen 1 1 old mid new (λ is. told ∙ is)
        (call_done seen half old mid x first) (call_done seen false mid new y second)
    both_done (Err e) second = tt

    pub second_fails : (r : Result T E) → Runs false mid new r → OnErr r (FailsInCalls seen 2 old new)
    second_fails (Ok y) second = tt
    second_fails (Err e) second = does_then_fails seen 1 1 old mid new (λ is. told ∙ is)
        (call_done seen half old mid x first) (call_failed seen false mid new e second)

    pub second_starves : (r : Result T E) → Runs false mid new r → OnErr r (StarvesUnarmed seen old new)
    second_starves (Ok y) second = tt
    second_starves (Err e) second = fails_starve seen 2 old new (second_fails (Err e) second)

    pub both_run : (r : Result T E) → IsUneventful (seen old) (seen mid) → HasCause {T = S} {E = E} (seen old).faults (seen mid).faults (Ok x)
        → (seen new).content ≡ (seen mid).content → IsUneventful (seen mid) (seen new) → Runs false mid new r → HasCause (seen mid).faults (seen new).faults r
        → RunsOn seen old new
    both_run r events cause same later_events second later_cause = runs_then seen old mid new
        (call_runs seen half old mid (Ok x) told events first cause)
        (call_runs seen false mid new r (ap is_some same) later_events second later_cause)

  -- a journal's calls: those that mend, and four more
  abbrev Makes : {T : Type 0} → ℕ → D → D → Result T StoreFault → Type 0
  Makes n old new r = MakesCalls seen n old new device r

  pub mend_failed : {T U E : Type 0} (n : ℕ) (old new : D) (e : E) → RunsOn seen old new
      → FailsInCalls seen n old new → HasCause {T = U} {E = E} (seen old).faults (seen new).faults (Err e) → Makes {T = T} (n + 4) old new (Err device)
  mend_failed n old new e runs fails cause = record {
    runs = runs;
    done = tt;
    fails = λ _. fails_in_more seen n (n + 4) old new (omega arith) fails;
    rose = λ _. cause.failed;
    memory = λ _. fails_starve seen n old new fails;
  }

  pub add_failed : {T U E : Type 0} (n : ℕ) (old mid new : D) (e : E) → RunsOn seen old mid
      → DoesCalls seen n old mid → RunsOn seen mid new
      → FailsInCalls seen 4 mid new → HasCause {T = U} {E = E} (seen mid).faults (seen new).faults (Err e) → Makes {T = T} (n + 4) old new (Err device)
  add_failed n old mid new e before done runs fails cause =
      let all : FailsInCalls seen (n + 4) old new =
      does_then_fails seen n 4 old mid new (λ is. before.told ∙ is) done fails in
      record {
        runs = runs_then seen old mid new before runs;
        done = tt;
        fails = λ _. all;
        rose = λ _. omega (arith, before.later, cause.failed);
        memory = λ _. fails_starve seen (n + 4) old new all;
      }

  pub both_made : {T : Type 0} (n : ℕ) (old mid new : D) (x : T) → RunsOn seen old mid
      → DoesCalls seen n old mid → RunsOn seen mid new
      → DoesCalls seen 4 mid new → Makes (n + 4) old new (Ok x)
  both_made n old mid new x before done runs more = record {
    runs = runs_then seen old mid new before runs;
    done = does_then seen n 4 old mid new (λ is. before.told ∙ is) done more;
    fails = λ is. absurd (cc);
    rose = λ is. absurd (cc);
    memory = λ is. absurd (cc);
  }
