-- Counted calls in a row: one call, then others behind it.
use Rattle.std.proofs.Common.{◌≡◌, inl, inr, ⊎_elim, refl, sym, ap, ◌∙◌, subst, rules, ℕ, ◌+◌, ◌-◌, ◌≤◌, if◌then◌else◌}
use Rattle.std.proofs.Common.{Bool, true, false, Ok, Err, arith}
use Rattle.std.proofs.lemmas.Bool.{false_from_ne_true}
use Rattle.std.proofs.lemmas.Bool.Decides.{nat_tests}
use Rattle.edge_io.specs.declared.fault.Armed.{Armed}
use Rattle.edge_io.specs.declared.fault.Armed.TheVariants.{Nothing, After, Broken}
use Rattle.edge_io.specs.Disk.{IsTold}
use Rattle.edge_io.specs.Armed.{breaks, spent, next_armed, RunsAsArmed, StarvesUnarmed}
use Rattle.edge_io.specs.Counting.{LetsPass, armed_after, DoesCalls, DoesUpTo, FailsInCalls}
use Rattle.edge_io.proofs.Runs.{clash}
use Rattle.edge_io.specs.Views.{DiskView}

-- ---- none and one

pub none_pass : (a : Armed) → LetsPass 0 a
none_pass Nothing = tt
none_pass (After passes mode) = omega arith
none_pass Broken = refl

pub after_none : (a : Armed) → armed_after 0 a ≡ a
after_none Nothing = refl
after_none (After passes mode) = ap (λ (k : ℕ). After k mode) (omega arith)
after_none Broken = refl

one_passes : (a : Armed) → breaks a ≡ false → LetsPass 1 a
one_passes Nothing not = tt
one_passes (After passes mode) not = grind (arith, nat_tests)
one_passes Broken not = absurd (clash not)

after_one : (a : Armed) → breaks a ≡ false → next_armed a ≡ armed_after 1 a
after_one Nothing not = refl
after_one (After passes mode) not = ap (λ (t : Bool). if t then spent mode else After (passes - 1) mode) not
after_one Broken not = refl

same_bool : (a b : Bool) → (b ≡ true → a ≡ true) → (a ≡ true → b ≡ true) → b ≡ a
same_bool true b f g = g refl
same_bool false b f g = false_from_ne_true b (λ yes. clash (sym (f yes)))

-- ---- one behind the other

pub pass_then : (m n : ℕ) (a : Armed) → LetsPass m a → LetsPass n (armed_after m a) → LetsPass (m + n) a
pass_then m n Nothing p q = tt
pass_then m n (After passes mode) p q = omega (arith, p, q)
pass_then m n Broken p q = omega (arith, p, q)

pub after_then : (m n : ℕ) (a : Armed) → armed_after n (armed_after m a) ≡ armed_after (m + n) a
after_then m n Nothing = refl
after_then m n (After passes mode) = ap (λ (k : ℕ). After k mode) (omega arith)
after_then m n Broken = refl

unarmed_passes : (n : ℕ) (a : Armed) → a ≡ Nothing → breaks (armed_after n a) ≡ false
unarmed_passes n a is = ap (λ (b : Armed). breaks (armed_after n b)) is

module _ {D : Type 0} (seen : D → DiskView) where
  abbrev Does : ℕ → D → D → Type 0
  Does n old new = DoesCalls seen n old new

  abbrev Fails : ℕ → D → D → Type 0
  Fails n old new = FailsInCalls seen n old new

  pub calls_none : (d : D) → Does 0 d d
  calls_none d told = record { passes = none_pass (seen d).armed; left = sym (after_none (seen d).armed); same_starved = refl; same_faults = refl }

  pub call_done : {T E : Type 0} (writes_half : Bool) (old new : D) (x : T)
      → (IsTold (seen old).content → RunsAsArmed {T = T} {E = E} writes_half (seen old) (seen new) (Ok x))
      → Does 1 old new
  call_done writes_half old new x runs told =
      let r = runs told in
      let not : breaks (seen old).armed ≡ false = false_from_ne_true (breaks (seen old).armed) (λ yes. absurd (search (rules, r.fails.listed yes))) in
      record {
        passes = one_passes (seen old).armed not;
        left = r.next ∙ after_one (seen old).armed not;
        same_starved = same_bool (seen old).starved (seen new).starved (λ now. ⊎_elim (λ was. was) (λ err. absurd (search (rules, err))) (r.fails.starves now)) r.fails.stays;
        same_faults = r.quiet;
      }

  pub call_failed : {T E : Type 0} (writes_half : Bool) (old new : D) (e : E)
      → (IsTold (seen old).content → RunsAsArmed {T = T} {E = E} writes_half (seen old) (seen new) (Err e))
      → Fails 1 old new
  call_failed writes_half old new e runs told =
      let r = runs told in
      record {
        count = 0;
        within = omega arith;
        passes = none_pass (seen old).armed;
        left = r.next ∙ ap next_armed (sym (after_none (seen old).armed));
        cause = ⊎_elim (λ yes. inl (ap breaks (after_none (seen old).armed) ∙ yes)) (λ yes. inr yes) (r.fails.only (search rules));
      }

  pub does_then : (m n : ℕ) (old mid new : D) → (IsTold (seen old).content → IsTold (seen mid).content) → Does m old mid → Does n mid new → Does (m + n) old new
  does_then m n old mid new still p q told =
      let a = p told in
      let b = q (still told) in
      record {
        passes = pass_then m n (seen old).armed a.passes (subst (LetsPass n) a.left b.passes);
        left = b.left ∙ ap (armed_after n) a.left ∙ after_then m n (seen old).armed;
        same_starved = b.same_starved ∙ a.same_starved;
        same_faults = b.same_faults ∙ a.same_faults;
      }

  pub does_then_fails : (m n : ℕ) (old mid new : D) → (IsTold (seen old).content → IsTold (seen mid).content) → Does m old mid → Fails n mid new
      → Fails (m + n) old new
  does_then_fails m n old mid new still p q told =
      let a = p told in
      let b = q (still told) in
      let both : armed_after b.count (seen mid).armed ≡ armed_after (m + b.count) (seen old).armed = ap (armed_after b.count) a.left ∙ after_then m b.count (seen old).armed in
      record {
        count = m + b.count;
        within = omega (arith, b.within);
        passes = pass_then m b.count (seen old).armed a.passes (subst (LetsPass b.count) a.left b.passes);
        left = b.left ∙ ap next_armed both;
        cause = ⊎_elim (λ yes. inl (ap breaks (sym both) ∙ yes)) (λ yes. inr yes) b.cause;
      }

  -- a failed call is one of more calls
  pub fails_in_more : (m n : ℕ) (old new : D) → m ≤ n → Fails m old new → Fails n old new
  fails_in_more m n old new le p told =
      let a = p told in
      record { count = a.count; within = omega (arith, a.within, le); passes = a.passes; left = a.left; cause = a.cause }

  -- with nothing armed, it found no memory
  pub fails_starve : (n : ℕ) (old new : D) → Fails n old new → StarvesUnarmed seen old new
  fails_starve n old new p told none =
      let a = p told in
      ⊎_elim (λ yes. absurd (clash (sym yes ∙ unarmed_passes a.count (seen old).armed none))) (λ yes. yes) a.cause

  -- ---- at most so many calls

  abbrev UpTo : ℕ → D → D → Type 0
  UpTo most old new = DoesUpTo seen most old new

  pub up_to : (n most : ℕ) (old new : D) → n ≤ most → Does n old new → UpTo most old new
  up_to n most old new le p = (n, le, p)

  pub up_to_more : (m n : ℕ) (old new : D) → m ≤ n → UpTo m old new → UpTo n old new
  up_to_more m n old new le p = (p.0, omega (arith, le, p.1), p.2)

  pub up_to_then : (m n : ℕ) (old mid new : D) → (IsTold (seen old).content → IsTold (seen mid).content) → UpTo m old mid → UpTo n mid new
      → UpTo (m + n) old new
  up_to_then m n old mid new still p q = (p.0 + q.0, omega (arith, p.1, q.1), does_then p.0 q.0 old mid new still p.2 q.2)

  pub up_to_then_fails : (m n : ℕ) (old mid new : D) → (IsTold (seen old).content → IsTold (seen mid).content) → UpTo m old mid → Fails n mid new
      → Fails (m + n) old new
  up_to_then_fails m n old mid new still p q =
      fails_in_more (p.0 + n) (m + n) old new (omega (arith, p.1)) (does_then_fails p.0 n old mid new still p.2 q)
