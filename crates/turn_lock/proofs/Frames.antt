-- What the other seats are at, once one of them took a step.
use Rattle.std.proofs.Common.{◌≡◌, ◌≢◌, ℕ, suc, ◌+◌, ◌<◌, ◌≤◌, List, [], ◌∷◌, ◌++◌, length, get_or, set, sym, ap, ◌∙◌, subst, arith, append-nil, append_assoc}
use mathlib.Core.Logic.{dite}
use mathlib.Core.Option.{Option as Maybe, some, some-injective}
use native.Mathlib.Decide.{ℕ_discrete}
use lib.ListN.{get_elem?}
use Rattle.atomic_table.specs.Table.{State}
use Rattle.atomic_table.proofs.Lists.{set_else}
use Rattle.shard_lock.specs.declared.shard.Entry.{Entry}
use Rattle.shard_lock.specs.History.{entry, of_pass}
use Rattle.shard_lock.specs.Passes.{times, numbers}
use Rattle.shard_lock.proofs.Views.{times_first}
use Rattle.turn_lock.specs.declared.board.Desk.{Desk}
use Rattle.turn_lock.specs.declared.board.Cell.{Cell}
use Rattle.turn_lock.specs.declared.board.Role.{Role}
use Rattle.turn_lock.specs.declared.board.Role.TheVariants.{Idle, Opens, Asks, Leads, Tells}
use Rattle.turn_lock.specs.declared.board.View.{View}
use Rattle.turn_lock.specs.Asking.{asked_of}
use Rattle.turn_lock.specs.Rule.{Box, Absent, once_below, total, with_role, Owed, Exact, IsShut, AsksSo, HasAsked, AreTook, AreEntered, rests, AsRole, Lives, Stands, IsLead, Counted, IsFresh}
use Rattle.turn_lock.specs.Rule.Box.{Bare, Asked, Grabbed, Entered, Answered}
use Rattle.turn_lock.proofs.Histories.{of_join, pairs_absent, far, word_else}
use Rattle.turn_lock.proofs.Views.{live, total-one, total-two}

module _ {S E A : Type 0} where
  pub same_view : (views : List (View S E A)) (i j : ℕ) (v w : View S E A) → i ≡ j → get_elem? views i ≡ some v → get_elem? views j ≡ some w → v ≡ w
  same_view views i j v w is a b = some-injective v w (sym a ∙ (ap (λ k. get_elem? views k) is ∙ b))

  pub took_here : (box : ℕ → Box A) (views : List (View S E A)) (before after : List (Entry E A)) (e : Entry E A) → AreTook box views (asked_of (before ++ (e ∷ after)))
      → (box e.seat ≡ Grabbed) × HasAsked views e.seat e.event × Absent e.seat after
  took_here box views [] after e t = (t.0, t.1, pairs_absent e.seat after t.2)
  took_here box views (b ∷ before) after e t = took_here box views before after e t.3

  pub before_absent : (box : ℕ → Box A) (views : List (View S E A)) (before after : List (Entry E A)) (e : Entry E A) → AreTook box views (asked_of (before ++ (e ∷ after))) → Absent e.seat before
  before_absent box views [] after e t = tt
  before_absent box views (b ∷ before) after e t = ((λ is. far b.seat before after e t.2 (sym is)), before_absent box views before after e t.3)

  abbrev pub IsAsker : Role S E A → Type 0
  IsAsker Idle = ⊥
  IsAsker Opens = ⊥
  IsAsker (Asks e) = Unit {0}
  IsAsker (Leads t took) = ⊥
  IsAsker (Tells es) = ⊥

  -- another seat has asked
  pub asks_else : (views : List (View S E A)) (i n : ℕ) (v : View S E A) (e : E) → get_elem? views i ≡ some v → (IsAsker v.role → ⊥) → HasAsked views n e → n ≢ i
  asks_else views i n v e at not asked is =
      let same : v ≡ asked.0 = same_view views i n v asked.0 (sym is) at asked.1 in
      not (subst (λ (d : View S E A). IsAsker d.role) (sym same) (subst IsAsker (sym asked.2) tt))

  pub leads_no_asker : (k : Role S E A) → IsLead k → IsAsker k → ⊥
  leads_no_asker Idle l a = l
  leads_no_asker Opens l a = l
  leads_no_asker (Asks e) l a = l
  leads_no_asker (Leads t took) l a = a
  leads_no_asker (Tells es) l a = l

  pub leader_absent : (box : ℕ → Box A) (views : List (View S E A)) (id : ℕ) (v : View S E A) → get_elem? views id ≡ some v → (IsAsker v.role → ⊥) → (es : List (Entry E A)) → AreTook box views (asked_of es) → Absent id es
  leader_absent box views id v at lead [] t = tt
  leader_absent box views id v at lead (e ∷ es) t = ((λ is. asks_else views id e.seat v e.event at lead t.1 (sym is)), leader_absent box views id v at lead es t.3)

  pub asked_on : (views : List (View S E A)) (id n : ℕ) (w : View S E A) (e : E) → n ≢ id → HasAsked views n e → HasAsked (set views id w) n e
  asked_on views id n w e not asked = (asked.0, set_else views id n w not ∙ asked.1, asked.2)

  pub owed_on : (log more : List (Entry E A)) (i : ℕ) (v : View S E A) (e : Entry E A) → of_pass i more ≡ [] → Owed log i v e → Owed (log ++ more) i v e
  owed_on log more i v e nil o = record {
    front = o.front;
    behind = o.behind ++ more;
    is = ap (λ l. l ++ more) o.is ∙ append_assoc o.front (e ∷ o.behind) more;
    seen = o.seen;
    mine = o.mine;
    none_left = of_join i o.behind more ∙ (λ k. o.none_left k ++ nil k);
  }

  pub exact_on : (log more : List (Entry E A)) (i : ℕ) (v : View S E A) → of_pass i more ≡ [] → Exact log i v → Exact (log ++ more) i v
  exact_on log more i v nil x = λ h. x h ∙ sym (of_join i log more ∙ (ap (λ l. of_pass i log ++ l) nil ∙ append-nil (of_pass i log)))

  pub asks_on : (log more : List (Entry E A)) (i : ℕ) (v : View S E A) (e : E) (word : ℕ) (home : Maybe (Maybe (Cell S E A))) (b : Box A) → of_pass i more ≡ [] → AsksSo log i v e word home b → AsksSo (log ++ more) i v e word home b
  asks_on log more i v e word home Bare nil h = h
  asks_on log more i v e word home Asked nil h = (h.0, h.1, exact_on log more i v nil h.2)
  asks_on log more i v e word home Grabbed nil h = (h.0, h.1, exact_on log more i v nil h.2)
  asks_on log more i v e word home (Entered by a) nil h = (h.0, h.1, owed_on log more i v (entry i e a) nil h.2)
  asks_on log more i v e word home (Answered a) nil h = (h.0, h.1, owed_on log more i v (entry i e a) nil h.2)

  pub asked_in : E → Role S E A → E
  asked_in x Idle = x
  asked_in x Opens = x
  asked_in x (Asks e) = e
  asked_in x (Leads t took) = x
  asked_in x (Tells es) = x

  pub asks_same : (x e : E) (p : Role S E A) → p ≡ Asks x → p ≡ Asks e → x ≡ e
  unfolding asked_in
  asks_same x e p a b = ap (asked_in x) (sym a ∙ b)

  -- ---- another seat, of which nothing changes
  module _ (box box' : ℕ → Box A) (views views' : List (View S E A)) where
    pub took_frame : (took : List (ℕ × E)) → ((n : ℕ) (e : E) → box n ≡ Grabbed → HasAsked views n e → (box' n ≡ Grabbed) × HasAsked views' n e)
        → AreTook box views took → AreTook box' views' took
    took_frame [] f t = tt
    took_frame (x ∷ took) f t = let g = f x.0 x.1 t.0 t.1 in (g.0, g.1, t.2, took_frame took f t.3)

    pub told_frame : (i : ℕ) (list : List (Entry E A)) → ((n : ℕ) (a : A) (e : E) → box n ≡ Entered i a → HasAsked views n e → (box' n ≡ Entered i a) × HasAsked views' n e)
        → AreEntered i box views list → AreEntered i box' views' list
    told_frame i [] f t = tt
    told_frame i (x ∷ list) f t = let g = f x.seat x.answer x.event t.0 t.1 in (g.0, g.1, t.2, told_frame i list f t.3)

    pub role_frame : (log : List (Entry E A)) (now : Desk S) (word : ℕ) (home : Maybe (Maybe (Cell S E A))) (i : ℕ) (d : View S E A) (k : Role S E A) → box' i ≡ box i
        → ((n : ℕ) (e : E) → box n ≡ Grabbed → HasAsked views n e → (box' n ≡ Grabbed) × HasAsked views' n e)
        → ((n : ℕ) (a : A) (e : E) → box n ≡ Entered i a → HasAsked views n e → (box' n ≡ Entered i a) × HasAsked views' n e)
        → AsRole log now box views word home i d k → AsRole log now box' views' word home i d k
    role_frame log now word home i d Idle same f g h = (same ∙ h.0, h.1, h.2)
    role_frame log now word home i d Opens same f g h = (same ∙ h.0, h.1, h.2)
    role_frame log now word home i d (Asks e) same f g h = subst (λ b. AsksSo log i d e word home b) (sym same) h
    role_frame log now word home i d (Leads t took) same f g h = (same ∙ h.0, h.1, h.2, h.3, took_frame took f h.4)
    role_frame log now word home i d (Tells list) same f g h = (same ∙ h.0, h.1, h.2, told_frame i list g h.3)

  pub moved : (log : List (Entry E A)) (now : Desk S) (box : ℕ → Box A) (views : List (View S E A)) (word word' : ℕ) (home home' : Maybe (Maybe (Cell S E A))) (i : ℕ) (d : View S E A) (k : Role S E A)
      → word' ≡ word → home' ≡ home → AsRole log now box views word home i d k → AsRole log now box views word' home' i d k
  moved log now box views word word' home home' i d k p q h = subst (λ (z : ℕ × Maybe (Maybe (Cell S E A))). AsRole log now box views z.0 z.1 i d k) (λ n. (sym p n, sym q n)) h

  pub rests_no_lead : (es : List (Entry E A)) (k : Role S E A) → k ≡ rests es → IsLead k → ⊥
  rests_no_lead [] k is l = subst IsLead is l
  rests_no_lead (e ∷ es) k is l = subst IsLead is l

  pub rests_role : (log : List (Entry E A)) (now : Desk S) (box : ℕ → Box A) (views : List (View S E A)) (word : ℕ) (home : Maybe (Maybe (Cell S E A))) (i : ℕ) (d : View S E A) (es : List (Entry E A))
      → box i ≡ Bare → Exact log i d → IsShut word home → AreEntered i box views es → AsRole log now box views word home i d (rests es)
  rests_role log now box views word home i d [] a b c e = (a, b, c)
  rests_role log now box views word home i d (x ∷ es) a b c e = (a, b, c, e)

  -- ---- seats that aren't spent
  pub asker_lives : (v : View S E A) → (v.stands ≡ 0 → (v.role ≡ Idle) × (v.numbers ≡ [])) → IsAsker v.role → 0 < v.stands
  asker_lives v spent a = live v.stands (λ z. subst IsAsker (spent z).0 a)

  pub leader_lives : (v : View S E A) → (v.stands ≡ 0 → (v.role ≡ Idle) × (v.numbers ≡ [])) → IsLead v.role → 0 < v.stands
  leader_lives v spent l = live v.stands (λ z. subst IsLead (spent z).0 l)

  abbrev pub IsOpen : Role S E A → Type 0
  IsOpen Idle = ⊥
  IsOpen Opens = Unit {0}
  IsOpen (Asks e) = ⊥
  IsOpen (Leads t took) = ⊥
  IsOpen (Tells es) = ⊥

  pub opener_lives : (v : View S E A) → (v.stands ≡ 0 → (v.role ≡ Idle) × (v.numbers ≡ [])) → IsOpen v.role → 0 < v.stands
  opener_lives v spent l = live v.stands (λ z. subst IsOpen (spent z).0 l)

  abbrev pub IsTeller : Role S E A → Type 0
  IsTeller Idle = ⊥
  IsTeller Opens = ⊥
  IsTeller (Asks e) = ⊥
  IsTeller (Leads t took) = ⊥
  IsTeller (Tells es) = Unit {0}

  pub teller_lives : (v : View S E A) → (v.stands ≡ 0 → (v.role ≡ Idle) × (v.numbers ≡ [])) → IsTeller v.role → 0 < v.stands
  teller_lives v spent l = live v.stands (λ z. subst IsTeller (spent z).0 l)

  -- the number of a seat that isn't spent was joined into no seat
  pub no_ended : (seats : ℕ) (from : S) (log : List (Entry E A)) (views : List (View S E A)) → Counted seats views → (n j : ℕ) (c d : View S E A) → get_elem? views n ≡ some c → Lives from log n c → get_elem? views j ≡ some d → Lives from log j d
      → times n (numbers d.ended) ≡ 0
  no_ended seats from log views counted n j c d at lc at' ld =
      let f : View S E A → ℕ = λ z. times n z.numbers in
      let once : total f views ≡ once_below n (length views) = counted.once n in
      let own : times n c.numbers ≡ 1 + times n (numbers c.ended) = ap (times n) lc.listed ∙ times_first n c.number (numbers c.ended) (sym lc.number) in
      let theirs : times n d.numbers ≡ times n (d.number ∷ numbers d.ended) = ap (times n) ld.listed in
      dite (ℕ_discrete j n)
      (λ hit. let t : times n (d.number ∷ numbers d.ended) ≡ 1 + times n (numbers d.ended) = times_first n d.number (numbers d.ended) (sym (ld.number ∙ hit)) in
      let one : times n d.numbers ≤ total f views = total-one f views j d at' in omega arith)
      (λ miss. let two : times n d.numbers + times n c.numbers ≤ total f views = total-two f views j n d c miss at' at in omega arith)

  -- ---- a seat of which nothing changes, in a table that changed elsewhere
  pub stands_on : (from : S) (log : List (Entry E A)) (now now' : Desk S) (box box' : ℕ → Box A) (s s' : State (Cell S E A) (View S E A)) (j : ℕ) (d : View S E A) → length s'.views ≡ length s.views
      → AsRole log now' box' s'.views (get_or s'.words (suc j) 0) (get_elem? s'.homes (suc j)) j d d.role → Stands from log now box s j d → Stands from log now' box' s' j d
  stands_on from log now now' box box' s s' j d same role f = record { seen = f.seen; role = role; spent = f.spent; lives = f.lives; maker = λ h. let m = f.maker h in (m.0, m.1 ∙ sym same) }

  -- a seat that is at something else now
  pub stands_as : (from : S) (log : List (Entry E A)) (now now' : Desk S) (box box' : ℕ → Box A) (s s' : State (Cell S E A) (View S E A)) (i : ℕ) (v : View S E A) (k : Role S E A) → length s'.views ≡ length s.views → 0 < v.stands
      → AsRole log now' box' s'.views (get_or s'.words (suc i) 0) (get_elem? s'.homes (suc i)) i (with_role k v) k → Stands from log now box s i v → Stands from log now' box' s' i (with_role k v)
  stands_as from log now now' box box' s s' i v k same lv role f = record {
    seen = f.seen;
    role = role;
    spent = λ z. absurd (omega arith);
    lives = λ h. let l = f.lives h in record { number = l.number; first = l.first; ended = l.ended; stands = l.stands; listed = l.listed; olds = l.olds };
    maker = λ h. let m = f.maker h in (m.0, m.1 ∙ sym same);
  }

  -- a seat that isn't made yet, where one box that isn't its own changed
  pub fresh_else : (seats : ℕ) (log log' : List (Entry E A)) (box box' : ℕ → Box A) (s : State (Cell S E A) (View S E A)) (vs : List (View S E A)) (i w : ℕ) (h : Maybe (Cell S E A)) (m : ℕ) → suc m ≢ i → of_pass m log' ≡ of_pass m log
      → box' m ≡ box m → IsFresh seats log box s m → IsFresh seats log' box' record { words = set s.words i w; homes = set s.homes i h; views = vs } m
  fresh_else seats log log' box box' s vs i w h m ne same b f = (
    same ∙ f.0,
    b ∙ f.1,
    λ low. let z = f.2 low in (word_else s.words i (suc m) w ne ∙ z.0, set_else s.homes i (suc m) h ne ∙ z.1),
  )
