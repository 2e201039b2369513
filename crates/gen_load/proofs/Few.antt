-- How far acts count.
use Rattle.std.proofs.Common.{ℕ, ◌+◌, ◌*◌, ◌≤◌, List, [], ◌∷◌, ◌++◌, length, length-append, sym, subst, arith, Bool, true, false, if◌then◌else◌}
use Rattle.std.specs.Prelude.{nat_eq, ◌%◌}
use Rattle.share_model.specs.declared.ack.AckKind.TheVariants.{Release}
use Rattle.gen_load.specs.declared.counts.Counts.{Counts}
use Rattle.gen_load.specs.declared.counts.Member.{Member}
use Rattle.gen_load.specs.declared.counts.Member.TheVariants.{A, B}
use Rattle.gen_load.specs.declared.script.Script.{Script}
use Rattle.gen_load.specs.Bounds.{AreFew}
use Rattle.gen_load.specs.Session.{Act, asked_again, counted, each, member_of, round_acts, verdict_of}
use Rattle.gen_load.specs.Session.Act.{produces, fetches, settles, expires, restarts}
use Rattle.gen_load.specs.Scripts.{Adds, counted_from}

pub fewer : (m n : ℕ) (counts : Counts) → AreFew m counts → m ≤ n → AreFew n counts
fewer m n counts p le = record {
  frames = omega (arith, p.frames, le);
  end = omega (arith, p.end, le);
  asked_a = omega (arith, p.asked_a, le);
  asked_b = omega (arith, p.asked_b, le);
}

few_asked : (m : ℕ) (counts : Counts) (member : Member) → AreFew m counts → AreFew (m + 1) (asked_again member counts)
few_asked m counts A p = record { frames = omega (arith, p.frames); end = omega (arith, p.end); asked_a = omega (arith, p.asked_a); asked_b = omega (arith, p.asked_b) }
few_asked m counts B p = record { frames = omega (arith, p.frames); end = omega (arith, p.end); asked_a = omega (arith, p.asked_a); asked_b = omega (arith, p.asked_b) }

few_act : (m : ℕ) (counts : Counts) (act : Act) → AreFew m counts → AreFew (m + 1) (counted counts act)
few_act m counts (produces round) p =
    record { frames = omega (arith, p.frames); end = omega (arith, p.end); asked_a = omega (arith, p.asked_a); asked_b = omega (arith, p.asked_b) }
few_act m counts (fetches round) p = few_asked m counts (member_of round) p
few_act m counts (settles round kind) p = few_asked m counts (member_of round) p
few_act m counts (expires round) p = fewer m (m + 1) counts p (omega arith)
few_act m counts restarts p =
    record { frames = omega (arith, p.frames); end = omega (arith, p.end); asked_a = omega arith; asked_b = omega arith }

few_from : (m : ℕ) (counts : Counts) (acts : List Act) → AreFew m counts → AreFew (m + length acts) (counted_from counts acts)
unfolding counted_from
few_from m counts [] p = fewer m (m + 0) counts p (omega arith)
few_from m counts (act ∷ acts) p =
    fewer (m + 1 + length acts) (m + length (act ∷ acts)) (counted_from (counted counts act) acts)
    (few_from (m + 1) (counted counts act) acts (few_act m counts act p)) (omega arith)

-- behind so many acts more
pub few_on : (m n : ℕ) (a b : Script) (acts : List Act) → AreFew m a.counts → Adds a b acts → m + length acts ≤ n → AreFew n b.counts
few_on m n a b acts p q le =
    subst (λ (k : Counts). AreFew n k) (sym q.counts) (fewer (m + length acts) n (counted_from a.counts acts) (few_from m a.counts acts p) le)

chosen_few : {A : Type 0} (b : Bool) (xs : List A) → length (if b then xs else []) ≤ length xs
chosen_few true xs = omega arith
chosen_few false xs = omega arith

pub few_each : (m n number round : ℕ) (a b : Script) (acts : List Act) → AreFew m a.counts → Adds a b (each number round acts) → m + length acts ≤ n
    → AreFew n b.counts
few_each m n number round a b acts p q le =
    few_on m n a b (each number round acts) p q (omega (arith, le, chosen_few (nat_eq (round % number) 0) acts))

round_length : (round : ℕ) → length (round_acts round) ≤ 8
round_length round =
    let third = settles round Release ∷ fetches round ∷ [] in
    let seventh = expires round ∷ fetches round ∷ [] in
    omega (
      arith,
      length-append (each 3 round third) (each 7 round seventh ++ (settles round (verdict_of round) ∷ each 250 round (restarts ∷ []))),
      length-append (each 7 round seventh) (settles round (verdict_of round) ∷ each 250 round (restarts ∷ [])),
      chosen_few (nat_eq (round % 3) 0) third,
      chosen_few (nat_eq (round % 7) 0) seventh,
      chosen_few (nat_eq (round % 250) 0) (restarts ∷ []),
    )

-- a round has at most eight acts
pub few_rounds : (done round : ℕ) (counts : Counts) → AreFew (8 * done) counts → AreFew (8 * (done + 1)) (counted_from counts (round_acts round))
few_rounds done round counts p =
    fewer (8 * done + length (round_acts round)) (8 * (done + 1)) (counted_from counts (round_acts round)) (few_from (8 * done) counts (round_acts round) p)
    (omega (arith, round_length round))
