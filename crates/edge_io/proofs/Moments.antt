-- How a run of device calls goes on: what a crash at any moment of it leaves.
use Rattle.std.proofs.Common.{inl, inr, ⊎_elim, refl, ℕ, List, length, arith}
use Rattle.std.proofs.lemmas.List.{take_all}
use Rattle.edge_io.specs.Disk.{UnfinishedWrite, UnfinishedCut, Follows, Stepped, Within}
use Rattle.edge_io.specs.Moments.{Elapses, LeavesOnly, LeavesPairs}
use Rattle.edge_io.specs.Views.{DiskView}

module _ {D : Type 0} (seen : D → DiskView) where
  -- before the first call
  pub started : (old : D) (P : List ℕ → Type 0) → ((c : List ℕ) → (seen old).since (seen old).moment c → P c) → LeavesOnly seen old old P
  started old P here = record { later = omega arith; each = here; before = λ t c le left. inl left }

  -- one call more, after which a crash leaves what has P
  pub goes_on : (old mid new : D) (P : List ℕ → Type 0) → LeavesOnly seen old mid P
      → Elapses (seen mid) (seen new)
      → ((c : List ℕ) → (seen new).image c → P c) → LeavesOnly seen old new P
  goes_on old mid new P so_far time here = record {
    later = omega (arith, so_far.later, time.later);
    each = λ c left. ⊎_elim (so_far.each c) (here c) (time.nothing_else (seen old).moment c so_far.later left);
    before = λ t c le left. ⊎_elim (so_far.before t c le) (λ now. inr (here c now)) (time.nothing_else t c (omega (arith, le, so_far.later)) left);
  }

  -- two runs, one after the other
  pub joined : (old mid new : D) (P Q R : List ℕ → Type 0) → LeavesOnly seen old mid P → LeavesOnly seen mid new Q
      → ((c : List ℕ) → P c → R c) → ((c : List ℕ) → Q c → R c) → LeavesOnly seen old new R
  joined old mid new P Q R first second p q = record {
    later = omega (arith, first.later, second.later);
    each = λ c left. ⊎_elim (λ was. p c (first.each c was)) (q c) (second.before (seen old).moment c first.later left);
    before = λ t c le left. ⊎_elim (λ was. ⊎_elim (λ x. inl x) (λ x. inr (p c x)) (first.before t c le was))
        (λ x. inr (q c x)) (second.before t c (omega (arith, le, first.later)) left);
  }

  -- what has P has Q too
  pub weakened : (old new : D) (P Q : List ℕ → Type 0) → LeavesOnly seen old new P → ((c : List ℕ) → P c → Q c)
      → LeavesOnly seen old new Q
  weakened old new P Q run p = record {
    later = run.later;
    each = λ c left. p c (run.each c left);
    before = λ t c le left. ⊎_elim (λ was. inl was) (λ x. inr (p c x)) (run.before t c le left);
  }

-- an unfinished call may have done nothing
pub write_same : (at n : ℕ) (c : List ℕ) → UnfinishedWrite at n c c
write_same at n c = record { before = refl; behind = refl; no_shorter = omega arith; no_longer = omega arith }

pub cut_same : (n : ℕ) (c : List ℕ) → UnfinishedCut n c c
cut_same n c = record { no_shorter = omega arith; front = take_all (length c) c (omega arith) }

module _ {D : Type 0} (seen : D → DiskView)
    (only_now : (d : D) (c : List ℕ) → (seen d).since (seen d).moment c → (seen d).image c)
    (step : List ℕ → List ℕ → Type 0) (same : (c : List ℕ) → step c c) where
  -- a call that a crash may cut short at this step
  pub one_step : (old new : D) → Elapses (seen old) (seen new) → Follows step (seen old).image (seen new).image
      → LeavesOnly seen old new (Stepped (seen old).image step)
  one_step old new time follows = goes_on seen old old new (Stepped (seen old).image step)
      (started seen old (Stepped (seen old).image step) (λ c left. (c, only_now old c left, same c))) time follows

  -- and a sync behind it
  pub step_and_sync : (old mid new : D) → Elapses (seen old) (seen mid)
      → Follows step (seen old).image (seen mid).image → Elapses (seen mid) (seen new)
      → Within (seen mid).image (seen new).image → LeavesOnly seen old new (Stepped (seen old).image step)
  step_and_sync old mid new first follows second within = goes_on seen old mid new (Stepped (seen old).image step)
      (one_step old mid first follows) second (λ c now. follows c (within c now))

-- two disks, each with what is said of it alone
pub paired : {D : Type 0} (seen : D → DiskView) (old_a new_a old_b new_b : D) (P Q : List ℕ → Type 0) (R : List ℕ → List ℕ → Type 0)
    → LeavesOnly seen old_a new_a P → LeavesOnly seen old_b new_b Q → ((c d : List ℕ) → P c → Q d → R c d)
    → LeavesPairs seen old_a new_a old_b new_b R
paired seen old_a new_a old_b new_b P Q R a b both = record {
  later_a = a.later;
  later_b = b.later;
  each = λ c d left right. both c d (a.each c left) (b.each d right);
}
