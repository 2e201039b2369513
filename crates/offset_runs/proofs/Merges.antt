-- One list of runs laid over another, from the front.
use Rattle.std.proofs.Common.{◌≡◌, ℕ, ◌+◌, ◌<◌, ◌≤◌, max, true, false, cond, List, [], ◌∷◌, ◌++◌, Option}
use Rattle.std.proofs.Common.{Some, None, IfNone, length, refl, ap, ◌∙◌, sym, subst, arith, inl, inr}
use Rattle.std.proofs.lemmas.Bool.{cases_lt}
use Rattle.std.proofs.lemmas.List.{nil_from_length}
use Rattle.std.specs.Prelude.{nat_lt}
use Rattle.std.specs.Option.{option_or}
use Rattle.share_model.proofs.Lookups.{row_at-here, row_at-below, row_at-beyond, row_at-none, row_at-first}
use Rattle.share_model.specs.Runs.{row_of, row_at, Follows, IsCanonical}
use Rattle.share_model.specs.declared.row.Row.{Row}
use Rattle.share_model.specs.declared.run.Run.{Run}
use Rattle.offset_runs.proofs.Joins.{choose, row_at-cons, join-canonical, join-row_at, join-back, EndsBelow-more, EndsBelow-join}
use Rattle.offset_runs.proofs.Cuts.{lt_yes, lt_no, yes_lt, no_lt, before-row_at, before-canonical, before-ends}
use Rattle.offset_runs.specs.Parts.{join, before, run_before, run_from, maybe_run, EndsBelow, StartsFrom}
use Rattle.offset_runs.specs.Changes.{Overlays}

-- all runs of the first list end where the second begins
abbrev pub Leads : List Run → List Run → Type 0
Leads out [] = Unit {0}
Leads out (x ∷ xs) = EndsBelow out x.first

-- what is written so far, with what is left of both lists, has the rows of `theirs` over those of `mine`
pub record IsMerging (mine theirs out mine_left theirs_left : List Run) : Type 0 where
  pub out_canonical : IsCanonical out
  pub mine_canonical : IsCanonical mine_left
  pub theirs_canonical : IsCanonical theirs_left
  pub before_mine : Leads out mine_left
  pub before_theirs : Leads out theirs_left
  pub rows : (o : ℕ) → option_or (row_at out o) (option_or (row_at theirs_left o) (row_at mine_left o)) ≡ option_or (row_at theirs o) (row_at mine o)

no_lead : (xs : List Run) → Leads [] xs
no_lead [] = tt
no_lead (x ∷ xs) = tt

pub begins-merging : (mine theirs : List Run) → IsCanonical mine → IsCanonical theirs → IsMerging mine theirs [] mine theirs
begins-merging mine theirs cm ct = record {
  out_canonical = tt;
  mine_canonical = cm;
  theirs_canonical = ct;
  before_mine = no_lead mine;
  before_theirs = no_lead theirs;
  rows = λ o. refl;
}

-- the part of a run below an offset
abbrev part : Run → ℕ → List Run
part x f = before (x ∷ []) f

part-starts : (x : Run) (f : ℕ) → StartsFrom (part x f) x.first
part-starts x f = choose (λ (zs : List Run). StartsFrom zs x.first) (nat_lt x.first f) (run_before x f ∷ []) [] (λ e. omega arith) (λ e. tt)

part-ends : (x : Run) (f g : ℕ) → x.last < g → EndsBelow (part x f) g
part-ends x f g ends = choose (λ (zs : List Run). EndsBelow zs g) (nat_lt x.first f) (run_before x f ∷ []) [] (λ e. (omega arith, tt)) (λ e. tt)

single : (x : Run) → x.first ≤ x.last → IsCanonical (x ∷ [])
single x order = (order, tt, tt)

written : (out : List Run) (x : Run) (f : ℕ) → IsCanonical out → x.first ≤ x.last → EndsBelow out x.first → IsCanonical (join out (part x f))
written out x f canonical order lead =
    join-canonical out (part x f) x.first canonical (before-canonical (x ∷ []) f (single x order)) lead (part-starts x f)

written-rows : (out : List Run) (x : Run) (f o : ℕ) → IsCanonical out → x.first ≤ x.last
    → row_at (join out (part x f)) o ≡ option_or (row_at out o) (cond (nat_lt o f) (row_at (x ∷ []) o) None)
written-rows out x f o canonical order =
    join-row_at out (part x f) o canonical (before-canonical (x ∷ []) f (single x order))
    ∙ ap (option_or (row_at out o)) (before-row_at (x ∷ []) f o (single x order))

Leads-next : (out : List Run) (x : Run) (xs : List Run) (f : ℕ) → IsCanonical (x ∷ xs) → EndsBelow out x.first → Leads (join out (part x f)) xs
Leads-next out x [] f canonical lead = tt
Leads-next out x (next ∷ xs) f canonical lead =
    EndsBelow-join out (part x f) next.first (EndsBelow-more out x.first next.first (omega (arith, canonical.0, canonical.1.0)) lead)
    (part-ends x f next.first canonical.1.0)

-- three options, of which one or two are known
under_both : (a b c : Option Row) → option_or (option_or a b) (option_or None c) ≡ option_or a (option_or None (option_or b c))
under_both None b c = refl
under_both (Some r) b c = refl

covered : (a b c : Option Row) (r : Row) → option_or (option_or a None) (option_or (Some r) c) ≡ option_or a (option_or (Some r) (option_or b c))
covered None b c r = refl
covered (Some s) b c r = refl

passed : (a y c : Option Row) → option_or (option_or a None) (option_or y c) ≡ option_or a (option_or y (option_or None c))
passed None y c = refl
passed (Some s) y c = refl

-- the rows are those before, where the first of mine is written as far as it lies below theirs, and ends no later
kept_rows : (out : List Run) (x y : Run) (xs ys : List Run) (o : ℕ) → IsCanonical out → IsCanonical (x ∷ xs) → IsCanonical (y ∷ ys) → x.last ≤ y.last
    → option_or (row_at (join out (part x y.first)) o) (option_or (row_at (y ∷ ys) o) (row_at xs o)) ≡ option_or (row_at out o) (option_or (row_at (y ∷ ys) o) (row_at (x ∷ xs) o))
kept_rows out x y xs ys o co cx cy ends =
    let a = row_at out o in
    let b = row_at (x ∷ []) o in
    let c = row_at xs o in
    let w = row_at (y ∷ ys) o in
    let goal_at : Option Row → Option Row → Type 0 = λ d e. option_or (option_or a d) (option_or e c) ≡ option_or a (option_or e (option_or b c)) in
    ap (λ (r : Option Row). option_or r (option_or w c)) (written-rows out x y.first o co cx.0)
    ∙ choose (λ (d : Option Row). option_or (option_or a d) (option_or w c) ≡ option_or a (option_or w (option_or b c))) (nat_lt o y.first) b None
    (λ below.
    let none : w ≡ None = row_at-first y ys o cy (lt_yes o y.first below) in
    subst (λ (e : Option Row). option_or (option_or a b) (option_or e c) ≡ option_or a (option_or e (option_or b c))) (sym none) (under_both a b c))
    (λ above.
    let from : y.first ≤ o = lt_no o y.first above in
    elim (cases_lt x.last o) [
      | inl beyond ↦
          let none : b ≡ None = row_at-beyond x [] o beyond in
          subst (λ (e : Option Row). option_or (option_or a None) (option_or w c) ≡ option_or a (option_or w (option_or e c))) (sym none) (passed a w c)
      | inr upto ↦
          let some : w ≡ Some (row_of y) = row_at-here y ys o from (omega arith) in
          subst (λ (e : Option Row). option_or (option_or a None) (option_or e c) ≡ option_or a (option_or e (option_or b c))) (sym some) (covered a b c (row_of y))
    ])
    ∙ ap (λ (r : Option Row). option_or a (option_or w r)) (sym (row_at-cons x xs o))

-- a step where the first of mine ends no later than the first of theirs
pub merges-mine : (mine theirs out : List Run) (x y : Run) (xs ys : List Run) → IsMerging mine theirs out (x ∷ xs) (y ∷ ys) → x.last ≤ y.last
    → IsMerging mine theirs (join out (before (x ∷ []) y.first)) xs (y ∷ ys)
merges-mine mine theirs out x y xs ys m ends =
    let cx = m.mine_canonical in
    record {
      out_canonical = written out x y.first m.out_canonical cx.0 m.before_mine;
      mine_canonical = cx.2;
      theirs_canonical = m.theirs_canonical;
      before_mine = Leads-next out x xs y.first cx m.before_mine;
      before_theirs = EndsBelow-join out (part x y.first) y.first m.before_theirs (before-ends (x ∷ []) y.first);
      rows = λ o. kept_rows out x y xs ys o m.out_canonical cx m.theirs_canonical ends ∙ m.rows o;
    }

cut-single : (x : Run) (xs : List Run) (g o : ℕ) → g ≤ x.last → IsCanonical (x ∷ xs) → row_at (run_from x g ∷ xs) o ≡ option_or (cond (nat_lt o g) None (row_at (x ∷ []) o)) (row_at xs o)
cut-single x xs g o within canonical =
    row_at-cons (run_from x g) xs o
    ∙ ap (λ (r : Option Row). option_or r (row_at xs o)) (choose (λ (r : Option Row). row_at (run_from x g ∷ []) o ≡ r) (nat_lt o g) None (row_at (x ∷ []) o)
    (λ below. row_at-below (run_from x g) [] o (omega (arith, lt_yes o g below)))
    (λ above. let high = lt_no o g above in
    elim (cases_lt o x.first) [
      | inl early ↦ row_at-below (run_from x g) [] o (omega arith) ∙ sym (row_at-below x [] o early)
      | inr from ↦ elim (cases_lt x.last o) [
        | inl beyond ↦ row_at-beyond (run_from x g) [] o beyond ∙ sym (row_at-beyond x [] o beyond)
        | inr upto ↦ row_at-here (run_from x g) [] o (omega arith) upto ∙ sym (row_at-here x [] o from upto)
      ]
    ]))

-- what is known below theirs, within it and behind it
below_theirs : (a b c : Option Row) → option_or (option_or (option_or a b) None) (option_or None (option_or None c)) ≡ option_or a (option_or None (option_or b c))
below_theirs None None c = refl
below_theirs None (Some r) c = refl
below_theirs (Some s) b c = refl

within_theirs : (a b c z : Option Row) (r : Row) → option_or (option_or (option_or a None) (Some r)) z ≡ option_or a (option_or (Some r) (option_or b c))
within_theirs None b c z r = refl
within_theirs (Some s) b c z r = refl

behind_theirs : (a b c z : Option Row) → option_or (option_or (option_or a None) None) (option_or z (option_or b c)) ≡ option_or a (option_or z (option_or b c))
behind_theirs None b c z = refl
behind_theirs (Some s) b c z = refl

over_rows : (out : List Run) (x y : Run) (xs ys : List Run) (o : ℕ) → IsCanonical (join out (part x y.first)) → IsCanonical out → IsCanonical (x ∷ xs) → IsCanonical (y ∷ ys) → y.last < x.last
    → option_or (row_at (join (join out (part x y.first)) (y ∷ [])) o) (option_or (row_at ys o) (row_at (run_from x (y.last + 1) ∷ xs) o))
    ≡ option_or (row_at out o) (option_or (row_at (y ∷ ys) o) (row_at (x ∷ xs) o))
over_rows out x y xs ys o c1 co cx cy ends =
    let a = row_at out o in
    let b = row_at (x ∷ []) o in
    let c = row_at xs o in
    let z = row_at ys o in
    ap (λ (r : Option Row). option_or r (option_or z (row_at (run_from x (y.last + 1) ∷ xs) o)))
    (join-row_at (join out (part x y.first)) (y ∷ []) o c1 (single y cy.0) ∙ ap (λ (r : Option Row). option_or r (row_at (y ∷ []) o)) (written-rows out x y.first o co cx.0))
    ∙ ap (λ (r : Option Row). option_or (option_or (option_or a (cond (nat_lt o y.first) b None)) (row_at (y ∷ []) o)) (option_or z r)) (cut-single x xs (y.last + 1) o (omega arith) cx)
    ∙ elim (cases_lt o y.first) [
      | inl below ↦
          let t1 : nat_lt o y.first ≡ true = yes_lt o y.first below in
          let t2 : nat_lt o (y.last + 1) ≡ true = yes_lt o (y.last + 1) (omega (arith, cy.0)) in
          let e1 : row_at (y ∷ []) o ≡ None = row_at-below y [] o below in
          let e2 : z ≡ None = row_at-none y ys o cy.1 cy.2 (omega (arith, cy.0)) in
          let e3 : row_at (y ∷ ys) o ≡ None = row_at-first y ys o cy below in
          (λ i. option_or (option_or (option_or a (cond (t1 i) b None)) (e1 i)) (option_or (e2 i) (option_or (cond (t2 i) None b) c)))
          ∙ below_theirs a b c ∙ ap (λ (e : Option Row). option_or a (option_or e (option_or b c))) (sym e3)
      | inr from ↦ elim (cases_lt y.last o) [
        | inr upto ↦
            let t1 : nat_lt o y.first ≡ false = no_lt o y.first from in
            let e1 : row_at (y ∷ []) o ≡ Some (row_of y) = row_at-here y [] o from upto in
            let e3 : row_at (y ∷ ys) o ≡ Some (row_of y) = row_at-here y ys o from upto in
            (λ i. option_or (option_or (option_or a (cond (t1 i) b None)) (e1 i)) (option_or z (option_or (cond (nat_lt o (y.last + 1)) None b) c)))
            ∙ within_theirs a b c (option_or z (option_or (cond (nat_lt o (y.last + 1)) None b) c)) (row_of y)
            ∙ ap (λ (e : Option Row). option_or a (option_or e (option_or b c))) (sym e3)
        | inl beyond ↦
            let t1 : nat_lt o y.first ≡ false = no_lt o y.first from in
            let t2 : nat_lt o (y.last + 1) ≡ false = no_lt o (y.last + 1) (omega arith) in
            let e1 : row_at (y ∷ []) o ≡ None = row_at-beyond y [] o beyond in
            let e3 : row_at (y ∷ ys) o ≡ z = row_at-beyond y ys o beyond in
            (λ i. option_or (option_or (option_or a (cond (t1 i) b None)) (e1 i)) (option_or z (option_or (cond (t2 i) None b) c)))
            ∙ behind_theirs a b c z ∙ ap (λ (e : Option Row). option_or a (option_or e (option_or b c))) (sym e3)
      ]
    ]
    ∙ ap (λ (r : Option Row). option_or a (option_or (row_at (y ∷ ys) o) r)) (sym (row_at-cons x xs o))

Follows-cut : (x : Run) (xs : List Run) (g : ℕ) → Follows x xs → Follows (run_from x g) xs
Follows-cut x [] g follows = tt
Follows-cut x (next ∷ xs) g follows = follows

Leads-over : (out : List Run) (y : Run) (ys : List Run) → IsCanonical (y ∷ ys) → EndsBelow out y.first → Leads (join out (y ∷ [])) ys
Leads-over out y [] canonical lead = tt
Leads-over out y (next ∷ ys) canonical lead =
    EndsBelow-join out (y ∷ []) next.first (EndsBelow-more out y.first next.first (omega (arith, canonical.0, canonical.1.0)) lead) (canonical.1.0, tt)

-- a step where the first of theirs ends earlier
pub merges-theirs : (mine theirs out : List Run) (x y : Run) (xs ys : List Run) → IsMerging mine theirs out (x ∷ xs) (y ∷ ys) → y.last < x.last
    → IsMerging mine theirs (join (join out (before (x ∷ []) y.first)) (y ∷ [])) (run_from x (y.last + 1) ∷ xs) ys
merges-theirs mine theirs out x y xs ys m ends =
    let cx = m.mine_canonical in
    let cy = m.theirs_canonical in
    let middle = join out (part x y.first) in
    let c1 : IsCanonical middle = written out x y.first m.out_canonical cx.0 m.before_mine in
    let lead : EndsBelow middle y.first = EndsBelow-join out (part x y.first) y.first m.before_theirs (before-ends (x ∷ []) y.first) in
    record {
      out_canonical = join-canonical middle (y ∷ []) y.first c1 (single y cy.0) lead (omega arith);
      mine_canonical = (omega arith, Follows-cut x xs (y.last + 1) cx.1, cx.2);
      theirs_canonical = cy.2;
      before_mine = EndsBelow-join middle (y ∷ []) (max x.first (y.last + 1)) (EndsBelow-more middle y.first (max x.first (y.last + 1)) (omega (arith, cy.0)) lead) (omega arith, tt);
      before_theirs = Leads-over middle y ys cy lead;
      rows = λ o. over_rows out x y xs ys o c1 m.out_canonical cx cy ends ∙ m.rows o;
    }

pub join-none : (xs : List Run) → join xs [] ≡ xs
join-none [] = refl
join-none (x ∷ []) = refl
join-none (x ∷ x2 ∷ xs) = ap (λ (l : List Run). x ∷ l) (join-none (x2 ∷ xs))

join-lead : (out xs : List Run) → IsCanonical out → IsCanonical xs → Leads out xs → IsCanonical (join out xs)
join-lead out [] co cx lead = subst IsCanonical (sym (join-none out)) co
join-lead out (x ∷ xs) co cx lead = join-canonical out (x ∷ xs) x.first co cx lead (omega arith)

-- nothing is left of theirs
pub record IsMerged (mine theirs out : List Run) : Type 0 where
  pub canonical : IsCanonical out
  pub rows : Overlays mine out theirs

pub ends-theirs : (mine theirs out xs : List Run) → IsMerging mine theirs out xs [] → IsMerged mine theirs (join out xs)
ends-theirs mine theirs out xs m = record {
  canonical = join-lead out xs m.out_canonical m.mine_canonical m.before_mine;
  rows = λ o. join-row_at out xs o m.out_canonical m.mine_canonical ∙ m.rows o;
}

option_or-none : (o : Option Row) → option_or o None ≡ o
option_or-none None = refl
option_or-none (Some row) = refl

-- nothing is left of mine
pub ends-mine : (mine theirs out ys : List Run) → IsMerging mine theirs out [] ys → IsMerged mine theirs (join out ys)
ends-mine mine theirs out ys m = record {
  canonical = join-lead out ys m.out_canonical m.theirs_canonical m.before_theirs;
  rows = λ o. join-row_at out ys o m.out_canonical m.theirs_canonical ∙ ap (option_or (row_at out o)) (sym (option_or-none (row_at ys o))) ∙ m.rows o;
}

-- no first run, and so no other
nothing_left : (head : Option Run) (rest : List Run) → IfNone head (rest ≡ []) → head ≡ None → maybe_run head ++ rest ≡ []
nothing_left None rest none is = none
nothing_left (Some x) rest none is = absurd cc

module _ (mine theirs out : List Run) (head : Option Run) (rest left : List Run) (merging : IsMerging mine theirs out (maybe_run head ++ rest) left) where
  with_first : (x y : Run) (others : List Run) → head ≡ Some x → left ≡ y ∷ others → IsMerging mine theirs out (x ∷ rest) (y ∷ others)
  with_first x y others is split = subst (λ (l : List Run). IsMerging mine theirs out (x ∷ rest) l) split (subst (λ (h : Option Run). IsMerging mine theirs out (maybe_run h ++ rest) left) is merging)

  -- the loop ends where nothing of mine is left
  pub mine_done : (new : List Run) → IfNone head (rest ≡ []) → head ≡ None → new ≡ join out left → IsMerged mine theirs new
  mine_done new none is written_is =
      subst (IsMerged mine theirs) (sym written_is)
      (ends-mine mine theirs out left (subst (λ (l : List Run). IsMerging mine theirs out l left) (nothing_left head rest none is) merging))

  -- the loop ends where nothing of theirs is left
  pub theirs_done : (new first_out : List Run) (x : Run) → head ≡ Some x → length left ≡ 0 → first_out ≡ join out (x ∷ []) → new ≡ first_out ++ rest → IsMerged mine theirs new
  theirs_done new first_out x is none first_is new_is =
      let m : IsMerging mine theirs out (x ∷ rest) [] =
      subst (λ (l : List Run). IsMerging mine theirs out (x ∷ rest) l) (nil_from_length left none) (subst (λ (h : Option Run). IsMerging mine theirs out (maybe_run h ++ rest) left) is merging) in
      subst (IsMerged mine theirs) (sym (new_is ∙ ap (λ (l : List Run). l ++ rest) first_is ∙ sym (join-back out x rest))) (ends-theirs mine theirs out (x ∷ rest) m)

  -- the loop goes on with the next run of mine
  pub next_of_mine : (new : List Run) (x y : Run) (others : List Run) (head2 : Option Run) (rest2 : List Run) → head ≡ Some x → left ≡ y ∷ others → x.last ≤ y.last
      → new ≡ join out (before (x ∷ []) y.first) → maybe_run head2 ++ rest2 ≡ rest → IsMerging mine theirs new (maybe_run head2 ++ rest2) left
  next_of_mine new x y others head2 rest2 is split ends new_is parts =
      let m = merges-mine mine theirs out x y rest others (with_first x y others is split) ends in
      let m2 : IsMerging mine theirs new rest (y ∷ others) = subst (λ (l : List Run). IsMerging mine theirs l rest (y ∷ others)) (sym new_is) m in
      subst (λ (l : List Run). IsMerging mine theirs new l left) (sym parts) (subst (λ (l : List Run). IsMerging mine theirs new rest l) (sym split) m2)

  -- the loop goes on with the next run of theirs
  pub next_of_theirs : (new first_out : List Run) (x y cut : Run) (others : List Run) → head ≡ Some x → left ≡ y ∷ others → y.last < x.last
      → first_out ≡ join out (before (x ∷ []) y.first) → new ≡ join first_out (y ∷ []) → cut ≡ run_from x (y.last + 1) → IsMerging mine theirs new (cut ∷ rest) others
  next_of_theirs new first_out x y cut others is split ends first_is new_is cut_is =
      let m = merges-theirs mine theirs out x y rest others (with_first x y others is split) ends in
      let out_is = new_is ∙ ap (λ (l : List Run). join l (y ∷ [])) first_is in
      subst (λ (r : Run). IsMerging mine theirs new (r ∷ rest) others) (sym cut_is)
      (subst (λ (l : List Run). IsMerging mine theirs l (run_from x (y.last + 1) ∷ rest) others) (sym out_is) m)
