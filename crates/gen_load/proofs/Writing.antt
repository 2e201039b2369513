-- A script that is written round by round.
use Rattle.std.proofs.Common.{◌≡◌, ℕ, suc, ◌+◌, ◌-◌, ◌*◌, ◌<◌, ◌≤◌, List, [], ◌++◌, sym, ap, ◌∙◌, subst, append_assoc, arith}
use Rattle.std.specs.declared.option.Option.{Option}
use Rattle.std.specs.List.{flat_map}
use Rattle.text_pieces.proofs.Going.{IsSoFar, begun, said}
use Rattle.session_script.specs.Script.{line_of, end_line}
use Rattle.gen_load.specs.declared.counts.Counts.{Counts}
use Rattle.gen_load.specs.declared.script.Script.{Script}
use Rattle.gen_load.specs.Bounds.{AreFew}
use Rattle.gen_load.specs.Session.{none_yet, opened, round_acts, rounds_from}
use Rattle.gen_load.specs.Scripts.{Adds, counted_from, lines_from, script_of}
use Rattle.gen_load.proofs.Adding.{lines_append}
use Rattle.gen_load.proofs.Few.{few_rounds}

-- what is left behind so many of the rounds
abbrev pub lines_left : ℕ → ℕ → Counts → List ℕ
lines_left n done counts = lines_from counts (rounds_from (done + 1) (n - done)) ++ end_line

pub begins : (n : ℕ) (held : Option (List ℕ)) (script : Script) → script.text ≡ flat_map line_of opened → script.counts ≡ none_yet
    → IsSoFar held held script.text (lines_left n 0 script.counts) (script_of n)
begins n held script text counts =
    subst (λ (l : List ℕ). IsSoFar held held script.text (lines_left n 0 script.counts) l)
    (ap (λ (l : List ℕ). l ++ lines_left n 0 script.counts) text
    ∙ ap (λ (k : Counts). flat_map line_of opened ++ lines_left n 0 k) counts
    ∙ ap (λ (k : ℕ). flat_map line_of opened ++ (lines_from none_yet (rounds_from 1 k) ++ end_line)) (omega arith))
    (begun held script.text (lines_left n 0 script.counts))

pub none_few : (counts : Counts) → counts ≡ none_yet → AreFew (8 * 0) counts
none_few counts e = subst (λ (k : Counts). AreFew 0 k) (sym e) (record { frames = omega arith; end = omega arith; asked_a = omega arith; asked_b = omega arith })

-- the lines of the next round, and what is left behind it
next_lines : (n done : ℕ) (counts : Counts) → done < n
    → lines_left n done counts ≡ lines_from counts (round_acts (done + 1)) ++ lines_left n (done + 1) (counted_from counts (round_acts (done + 1)))
next_lines n done counts lt =
    let one : n - done ≡ suc (n - (done + 1)) = omega (arith, lt) in
    ap (λ (k : ℕ). lines_from counts (rounds_from (done + 1) k) ++ end_line) one
    ∙ ap (λ (l : List ℕ). l ++ end_line) (lines_append counts (round_acts (done + 1)) (rounds_from (done + 1 + 1) (n - (done + 1))))
    ∙ append_assoc (lines_from counts (round_acts (done + 1)))
    (lines_from (counted_from counts (round_acts (done + 1))) (rounds_from (done + 1 + 1) (n - (done + 1)))) end_line

-- a round more waits
pub round_said : (n done : ℕ) (held now : Option (List ℕ)) (a b : Script) → done < n → IsSoFar held now a.text (lines_left n done a.counts) (script_of n)
    → Adds a b (round_acts (done + 1)) → IsSoFar held now b.text (lines_left n (done + 1) b.counts) (script_of n)
round_said n done held now a b lt p q =
    let lines = lines_from a.counts (round_acts (done + 1)) in
    let left = lines_left n (done + 1) (counted_from a.counts (round_acts (done + 1))) in
    let at_b = said held now a.text lines left (script_of n) (subst (λ (l : List ℕ). IsSoFar held now a.text l (script_of n)) (next_lines n done a.counts lt) p) in
    subst (λ (l : List ℕ). IsSoFar held now l (lines_left n (done + 1) b.counts) (script_of n)) (sym q.text)
    (subst (λ (k : Counts). IsSoFar held now (a.text ++ lines) (lines_left n (done + 1) k) (script_of n)) (sym q.counts) at_b)

pub round_few : (done : ℕ) (a b : Script) → AreFew (8 * done) a.counts → Adds a b (round_acts (done + 1)) → AreFew (8 * (done + 1)) b.counts
round_few done a b p q = subst (λ (k : Counts). AreFew (8 * (done + 1)) k) (sym q.counts) (few_rounds done (done + 1) a.counts p)

-- no round is left
pub end_left : (n done : ℕ) (counts : Counts) → n ≤ done → lines_left n done counts ≡ end_line
unfolding lines_from
end_left n done counts le =
    let none : n - done ≡ 0 = omega (arith, le) in ap (λ (k : ℕ). lines_from counts (rounds_from (done + 1) k) ++ end_line) none

-- the last line waits
pub end_said : (n done : ℕ) (held now : Option (List ℕ)) (a : Script) (text : List ℕ) → n ≤ done → IsSoFar held now a.text (lines_left n done a.counts) (script_of n)
    → text ≡ a.text ++ end_line → IsSoFar held now text [] (script_of n)
end_said n done held now a text le p e =
    subst (λ (l : List ℕ). IsSoFar held now l [] (script_of n)) (sym e)
    (said held now a.text end_line [] (script_of n) (subst (λ (l : List ℕ). IsSoFar held now a.text l (script_of n)) (end_left n done a.counts le) p))
