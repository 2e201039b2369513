-- Boxes on top, questions with their answers, and acts.
use Rattle.std.proofs.Common.{◌≡◌, ◌∙◌, ◌+◌, ◌-◌, ◌<◌, ◌++◌, sym, ap, subst, refl, ℕ, List, [], ◌∷◌, length, Option, Some, inl, arith, length-append}
use Rattle.atomic_table.specs.Table.{Me, Step}
use Rattle.atomic_table.specs.Table as table
use Rattle.shard_lock.specs.declared.shard.Entry.{Entry}
use Rattle.shard_lock.specs.History.{entry, Leads as LeadsOn}
use Rattle.shard_lock.proofs.Views.{some_is, leads_on}
use Rattle.turn_lock.specs.declared.board.Desk.{Desk}
use Rattle.turn_lock.specs.declared.board.Cell.{Cell}
use Rattle.turn_lock.specs.declared.board.Cell.TheVariants.{Home, Empty, Ask, Told}
use Rattle.turn_lock.specs.declared.board.Role.{Role}
use Rattle.turn_lock.specs.declared.board.Role.TheVariants.{Idle, Opens, Asks, Leads, Tells}
use Rattle.turn_lock.specs.declared.board.View.{View}
use Rattle.turn_lock.specs.Asking.{AreBelow, asked_of, entries}
use Rattle.turn_lock.specs.Turns.{IsTurn}
use Rattle.turn_lock.specs.Rule.{Acts, Extends, GrabsOne, HasBoxes, HasLeft, boxes, entered, grabbed, rests, tells, with_role}

pub top_of : {X : Type 0} (k : ℕ) (x : X) (more l : List (ℕ × X)) → l ≡ (k, x) ∷ more → l ≡ (k, x) ∷ table.rest l
top_of k x more l is = is ∙ (λ i. (k, x) ∷ table.rest (sym is i))

pub below_snoc : {E : Type 0} (n : ℕ) (xs : List (ℕ × E)) (x : ℕ × E) → x.0 < n → AreBelow n xs → AreBelow n (xs ++ x ∷ [])
below_snoc n [] x low all = (low, tt)
below_snoc n (y ∷ xs) x low all = (all.0, below_snoc n xs x low all.1)

module _ {X : Type 0} where
  head_or : X → List X → X
  head_or d [] = d
  head_or d (x ∷ xs) = x

  tail_of : List X → List X
  tail_of [] = []
  tail_of (x ∷ xs) = xs

  pub snoc_same : (xs ys : List X) (x y : X) → xs ++ x ∷ [] ≡ ys ++ y ∷ [] → (xs ≡ ys) × (x ≡ y)
  unfolding head_or tail_of
  snoc_same [] [] x y is = (refl, ap (head_or x) is)
  snoc_same [] (b ∷ ys) x y is = let n : length (tail_of (x ∷ [])) ≡ length (ys ++ y ∷ []) = ap (λ l. length (tail_of l)) is in let m = length-append ys (y ∷ []) in absurd (omega arith)
  snoc_same (a ∷ xs) [] x y is = let n : length (xs ++ x ∷ []) ≡ length (tail_of (y ∷ [])) = ap (λ l. length (tail_of l)) is in let m = length-append xs (x ∷ []) in absurd (omega arith)
  snoc_same (a ∷ xs) (b ∷ ys) x y is = let r = snoc_same xs ys x y (ap tail_of is) in ((λ i. ap (head_or a) is i ∷ r.0 i), r.1)

module _ {E A : Type 0} where
  pub asked_entries : (asks : List (ℕ × E)) (answers : List A) → length answers ≡ length asks → asked_of (entries asks answers) ≡ asks
  asked_entries [] answers same = refl
  asked_entries (x ∷ asks) [] same = absurd (omega arith)
  asked_entries (x ∷ asks) (a ∷ answers) same = ap (λ l. x ∷ l) (asked_entries asks answers (omega arith))

  pub entries_snoc : (asks : List (ℕ × E)) (answers : List A) (x : ℕ × E) (a : A) → length answers ≡ length asks → entries (asks ++ x ∷ []) (answers ++ a ∷ []) ≡ entries asks answers ++ entry x.0 x.1 a ∷ []
  entries_snoc [] [] x a same = refl
  entries_snoc [] (b ∷ answers) x a same = absurd (omega arith)
  entries_snoc (y ∷ asks) [] x a same = absurd (omega arith)
  entries_snoc (y ∷ asks) (b ∷ answers) x a same = ap (λ l. entry y.0 y.1 b ∷ l) (entries_snoc asks answers x a (omega arith))

module _ {S E A : Type 0} where
  lead_in : Desk S → Role S E A → Desk S
  lead_in s Idle = s
  lead_in s Opens = s
  lead_in s (Asks e) = s
  lead_in s (Leads t took) = t
  lead_in s (Tells es) = s

  took_in : Role S E A → List (ℕ × E)
  took_in Idle = []
  took_in Opens = []
  took_in (Asks e) = []
  took_in (Leads t took) = took
  took_in (Tells es) = []

  same_lead : (k : Role S E A) (s t : Desk S) (xs ys : List (ℕ × E)) → k ≡ Leads s xs → k ≡ Leads t ys → (s ≡ t) × (xs ≡ ys)
  unfolding lead_in took_in
  same_lead k s t xs ys a b = (ap (lead_in s) (sym a ∙ b), ap took_in (sym a ∙ b))

  boxes_snoc : (xs : List (ℕ × E)) (x : ℕ × E) → boxes {S = S} {A = A} (xs ++ x ∷ []) ≡ boxes xs ++ (1 + x.0, Empty) ∷ []
  boxes_snoc [] x = refl
  boxes_snoc (y ∷ xs) x = ap (λ l. (1 + y.0, Empty) ∷ l) (boxes_snoc xs x)

  top_cell : Cell S E A → List (ℕ × Cell S E A) → Cell S E A
  top_cell c [] = c
  top_cell c (x ∷ xs) = x.1

  home_in : Desk S → Cell S E A → Desk S
  home_in t (Home s) = s
  home_in t Empty = t
  home_in t (Ask e) = t
  home_in t (Told a) = t

  pub same_home : (l more more' : List (ℕ × Cell S E A)) (k k' : ℕ) (c : Cell S E A) (s t : Desk S) → c ≡ Home s → l ≡ (k, c) ∷ more → l ≡ (k', Home t) ∷ more' → s ≡ t
  unfolding top_cell home_in
  same_home l more more' k k' c s t is a b = ap (home_in s) (sym is ∙ ap (top_cell c) (sym a ∙ b))

  pub same_desk : (c : Cell S E A) (a b : Desk S) → c ≡ Home a → c ≡ Home b → a ≡ b
  unfolding home_in
  same_desk c a b is is' = ap (home_in a) (sym is ∙ is')

  pub grabs_on : (word : ℕ) (old mid new : Me (Cell S E A) (View S E A)) (e : E) (asks asks' : List (ℕ × E)) → GrabsOne word mid e new → asks' ≡ asks ++ (word - 1, e) ∷ [] → HasBoxes old mid asks → HasBoxes old new asks'
  grabs_on word old mid new e asks asks' (n, t, took, at, role, is) more (s, h) =
      let l = same_lead mid.0.role s t asks took (ap (λ m. m.0.role) h) role in
      let n_is : word - 1 ≡ n = omega arith in
      let xs_is : took ++ (n, e) ∷ [] ≡ asks' = (λ i. sym l.1 i ++ (sym n_is i, e) ∷ []) ∙ sym more in
      let b : mid.1 ++ (word, Empty) ∷ [] ≡ (0, Home s) ∷ boxes (asks ++ (n, e) ∷ []) = (λ i. ap (λ m. m.1) h i ++ (sym at i, Empty) ∷ [])
      ∙ ap (λ z. (0, Home s) ∷ z) (sym (boxes_snoc asks (n, e))) in
      (s, is ∙ (λ i. (with_role (Leads (sym l.0 i) (xs_is i)) (ap (λ m. m.0) h i), (b ∙ ap (λ z. (0, Home s) ∷ boxes z) ((λ i. l.1 i ++ (n, e) ∷ []) ∙ xs_is)) i)))

  pub extends_from : (turn : S → List (Entry E A) → S → Type 0) (k l : Role S E A) (v w : View S E A) (e : Entry E A) → Extends turn (with_role k v) e l w → Extends turn v e l w
  extends_from turn k l v w e x = record { log = x.log; seen = x.seen; is = x.is; legal = x.legal; mine = x.mine }

  pub extends_to : (turn : S → List (Entry E A) → S → Type 0) (k l : Role S E A) (v w : View S E A) (e : Entry E A) → Extends turn v e l w → Extends turn v e k (with_role k w)
  extends_to turn k l v w e x = record { log = x.log; seen = x.seen; is = ap (with_role k) x.is; legal = x.legal; mine = x.mine }

  -- what a seat knows that entered its turn
  pub entered_so : (turn : S → List (Entry E A) → S → Type 0) (said : Option (List (Entry E A) × Entry E A)) (es : List (Entry E A)) (e : Entry E A) (st : Step (Cell S E A)) (m m' : Me (Cell S E A) (View S E A)) (y : Desk S) (asks : List (ℕ × E))
      → said ≡ Some (es, e) → m.1 ≡ (0, Home y) ∷ boxes asks → asked_of es ≡ asks → entered turn said st m 0 m' → HasLeft m' m' es × Extends turn m.0 e (rests es) m'.0
  entered_so turn said es e st m m' y asks is held asked (es', e', more, y', said', held', left, x) =
      let same : (es', e') ≡ (es, e) = some_is (es', e') (es, e) (sym said' ∙ is) in
      let x' : Extends turn m.0 e (rests es) m'.0 = subst (λ (z : List (Entry E A) × Entry E A). Extends turn m.0 z.1 (rests z.0) m'.0) same x in
      let boxes_is : m'.1 ≡ boxes (asked_of es) = left ∙ (ap table.rest (sym held' ∙ held) ∙ ap (λ (l : List (ℕ × E)). boxes {S = S} {A = A} l) (sym asked)) in
      let role_is : m'.0.role ≡ rests es = ap (λ (v : View S E A). v.role) x'.is in
      ((λ i. (with_role (role_is i) m'.0, boxes_is i)), x')

  -- an act that was seen while the seat was at something else, once it is at nothing again
  pub acts_from : (turn : S → List (Entry E A) → S → Type 0) (old new : Me (Cell S E A) (View S E A)) (v w : View S E A) (k l : Role S E A) (e : Entry E A) → v ≡ with_role k old.0 → Extends turn v e l w → new.0 ≡ with_role Idle w → new.1 ≡ []
      → Acts turn old e new
  acts_from turn old new v w k l e is x idle empty = (
    empty,
    subst (λ (z : View S E A). Extends turn old.0 e Idle z) (sym idle) (extends_to turn Idle l old.0 w e (extends_from turn k l old.0 w e (subst (λ (z : View S E A). Extends turn z e l w) is x))),
  )

  -- the first that is left to tell
  pub told_top : (old me : Me (Cell S E A) (View S E A)) (asks others : List (ℕ × E)) (answers rest : List A) (x : ℕ × E) (a : A) → asks ≡ x ∷ others → answers ≡ a ∷ rest → HasLeft old me (entries asks answers)
      → HasLeft old me (entry x.0 x.1 a ∷ entries others rest)
  told_top old me asks others answers rest x a is told left = subst (λ (z : List (ℕ × E) × List A). HasLeft old me (entries z.0 z.1)) (λ i. (is i, told i)) left

  ask_or : E → Cell S E A → E
  ask_or e (Home s) = e
  ask_or e Empty = e
  ask_or e (Ask f) = f
  ask_or e (Told a) = e

  -- what the leader has once it took a box, emptied it and put it behind the others
  pub grab_so : (st : Step (Cell S E A)) (r : ℕ) (old one two three : Me (Cell S E A) (View S E A)) (cell : Cell S E A) (event : E) → r ≡ 1 → grabbed st old r one → one.1 ≡ (st.word, cell) ∷ table.rest one.1
      → two ≡ (one.0, (st.word, Empty) ∷ table.rest one.1) → cell ≡ Ask event → three ≡ (two.0, table.turned two.1) → GrabsOne st.word old event three
  unfolding ask_or top_cell
  grab_so st r old one two three cell event hit told held emptied asked turned = let t = told.0 hit in let e : E = t.1 in
      let cells : Ask e ≡ Ask event = ap (top_cell (Ask e)) (sym (ap (λ m. m.1) t.6) ∙ held) ∙ asked in let same : e ≡ event = ap (ask_or e) cells in
      let w : View S E A = with_role (Leads t.2 (t.3 ++ (t.0, e) ∷ [])) old.0 in let is : one ≡ (w, (st.word, Ask e) ∷ old.1) = t.6 in (
        t.0,
        t.2,
        t.3,
        (let n = t.4 in omega arith),
        t.5,
        turned ∙ (ap (λ (m : Me (Cell S E A) (View S E A)). (m.0, table.turned m.1)) emptied ∙ (ap (λ (m : Me (Cell S E A) (View S E A)). (m.0, table.rest m.1 ++ (st.word, Empty) ∷ [])) is
            ∙ (λ i. (with_role (Leads t.2 (t.3 ++ (t.0, same i) ∷ [])) old.0, old.1 ++ (st.word, Empty) ∷ [])))),
      )

  -- the same boxes, seen from the seat as it is
  pub own_boxes : (old new : Me (Cell S E A) (View S E A)) (asks : List (ℕ × E)) → HasBoxes old new asks → HasBoxes new new asks
  own_boxes old new asks (t, is) = (t, λ i. (with_role (ap (λ (m : Me (Cell S E A) (View S E A)). m.0.role) is i) new.0, ap (λ (m : Me (Cell S E A) (View S E A)). m.1) is i))

  -- a seat that just began to lead has the shard, and no box
  pub leads_off : (old new : Me (Cell S E A) (View S E A)) (t : Desk S) → new ≡ (with_role (Leads t []) old.0, (0, Home t) ∷ old.1) → old.1 ≡ [] → HasBoxes new new []
  leads_off old new t is none = own_boxes old new [] (t, is ∙ (λ i. (with_role (Leads t []) old.0, (0, Home t) ∷ none i)))

  -- the leader laid the shard back on the table
  pub held_so : (old mid new : Me (Cell S E A) (View S E A)) (t y : Desk S) (asks asks' : List (ℕ × E)) → old ≡ (with_role (Leads t asks) old.0, (0, Home t) ∷ boxes asks) → mid ≡ (old.0, (0, Empty) ∷ table.rest old.1)
      → new ≡ (mid.0, (0, Home y) ∷ table.rest mid.1) → asks' ≡ asks → new ≡ (with_role (Leads t asks') new.0, (0, Home y) ∷ boxes asks')
  held_so old mid new t y asks asks' is is' is'' same =
      let role : new.0.role ≡ Leads t asks' = ap (λ (m : Me (Cell S E A) (View S E A)). m.0.role) is'' ∙ (ap (λ (m : Me (Cell S E A) (View S E A)). m.0.role) is' ∙ (ap (λ (m : Me (Cell S E A) (View S E A)). m.0.role) is
      ∙ ap (λ (l : List (ℕ × E)). Leads t l) (sym same))) in
      let list : new.1 ≡ (0, Home y) ∷ boxes asks' = ap (λ (m : Me (Cell S E A) (View S E A)). m.1) is'' ∙ ap (λ (l : List (ℕ × Cell S E A)). (0, Home y) ∷ l)
      (ap (λ (m : Me (Cell S E A) (View S E A)). table.rest m.1) is' ∙ (ap (λ (m : Me (Cell S E A) (View S E A)). table.rest m.1) is ∙ ap (λ (l : List (ℕ × E)). boxes {S = S} {A = A} l) (sym same))) in
      λ i. (with_role (role i) new.0, list i)

  told_in : Role S E A → List (Entry E A)
  told_in Idle = []
  told_in Opens = []
  told_in (Asks e) = []
  told_in (Leads t took) = []
  told_in (Tells es) = es

  -- what is left once the first was told
  pub told_next : (st : Step (Cell S E A)) (old me mid new : Me (Cell S E A) (View S E A)) (first : Entry E A) (es : List (Entry E A)) (x : ℕ × Cell S E A) → HasLeft old me (first ∷ es) → mid ≡ (me.0, x ∷ table.rest me.1) → tells st mid 2 new
      → HasLeft old new es
  unfolding told_in tail_of
  told_next st old me mid new first es x left is (e, es', more, role, held, out) =
      let mid_is : mid.0 ≡ with_role (Tells (first ∷ es)) old.0 = ap (λ (m : Me (Cell S E A) (View S E A)). m.0) is ∙ ap (λ (m : Me (Cell S E A) (View S E A)). m.0) left in
      let roles : Tells (e ∷ es') ≡ Tells (first ∷ es) = sym role ∙ ap (λ (v : View S E A). v.role) mid_is in
      let same : es' ≡ es = ap (λ (k : Role S E A). tail_of (told_in k)) roles in
      let list : more ≡ boxes (asked_of es) = ap table.rest (sym held ∙ ap (λ (m : Me (Cell S E A) (View S E A)). m.1) is) ∙ ap (λ (m : Me (Cell S E A) (View S E A)). table.rest m.1) left in
      out ∙ (λ i. (with_role (rests (same i)) (mid_is i), list i))

module _ {S E A : Type 0} (acts : S → E → A → S → Type 0) (together : S → List (Entry E A) → S → Type 0) where
  -- a turn of one act alone
  pub alone_turn : (s t : S) (asks : List (ℕ × E)) (answers : List A) (n : ℕ) (e : E) (a : A) → asks ≡ [] → acts s e a t → IsTurn acts together s (entries asks answers ++ entry n e a ∷ []) t
  alone_turn s t asks answers n e a is act = subst (λ (z : List (ℕ × E)). IsTurn acts together s (entries z answers ++ entry n e a ∷ []) t) (sym is) (inl (t, act, refl))

  -- a turn with others, whose last question and answer were taken away
  pub record Popped (s t : S) (asks : List (ℕ × E)) (n : ℕ) (e : E) (left : List (ℕ × E)) (x : ℕ × E) (front : List A) (a : A) : Type 0 where
    pub same : left ≡ asks
    pub count : length front ≡ length asks
    pub event : x.1 ≡ e
    pub turn : IsTurn acts together s (entries asks front ++ entry n e a ∷ []) t

  pub popped : (s t : S) (asks pushed left : List (ℕ × E)) (answers front : List A) (n : ℕ) (e : E) (x : ℕ × E) (a : A) → pushed ≡ asks ++ (n, e) ∷ [] → pushed ≡ left ++ x ∷ [] → answers ≡ front ++ a ∷ [] → length answers ≡ length pushed
      → IsTurn acts together s (entries pushed answers) t → Popped s t asks n e left x front a
  popped s t asks pushed left answers front n e x a is pop pop' count act =
      let r = snoc_same asks left (n, e) x (sym is ∙ pop) in
      let p : length answers ≡ length (front ++ a ∷ []) = ap length pop' in let q = length-append front (a ∷ []) in
      let u : length pushed ≡ length (asks ++ (n, e) ∷ []) = ap length is in let v = length-append asks ((n, e) ∷ []) in
      let many : length front ≡ length asks = omega arith in
      let split : entries pushed answers ≡ entries asks front ++ entry n e a ∷ [] = (λ i. entries (is i) (pop' i)) ∙ entries_snoc asks front (n, e) a many in record {
        same = sym r.0;
        count = many;
        event = sym (ap (λ (z : ℕ × E). z.1) r.1);
        turn = subst (λ (z : List (Entry E A)). IsTurn acts together s z t) split act;
      }

  -- one act more behind those of a turn that were done one after the other
  pub leads_more : (s m t : S) (asks : List (ℕ × E)) (answers : List A) (x : ℕ × E) (a : A) (asks' : List (ℕ × E)) (answers' : List A) → length answers ≡ length asks → asks' ≡ asks ++ x ∷ [] → answers' ≡ answers ++ a ∷ []
      → LeadsOn acts s (entries asks answers) m → acts m x.1 a t → LeadsOn acts s (entries asks' answers') t
  leads_more s m t asks answers x a asks' answers' same is told led act = subst (λ (z : List (Entry E A)). LeadsOn acts s z t)
      (sym ((λ i. entries (is i) (told i)) ∙ entries_snoc asks answers x a same)) (leads_on acts s m t (entries asks answers) (entry x.0 x.1 a) led act)
