-- The steps of the seat that leads keep the rule.
use Rattle.std.proofs.Common.{◌≡◌, ◌≢◌, ◌⊎◌, inl, inr, ⊎_elim, ℕ, suc, ◌<◌, ◌≤◌, ◌==◌, List, [], ◌∷◌, ◌++◌, length, get_or, set, sym, refl, ap, ◌∙◌, subst, arith, Option, append-nil, append_assoc, length-set}
use Rattle.std.specs.List.{AllByRecursion}
use mathlib.Core.Logic.{dite}
use mathlib.Core.Option.{Option as Maybe, none, some}
use native.Mathlib.Decide.{ℕ_discrete}
use prog.Atomic.{either}
use lib.ListN.{get_elem?}
use Rattle.atomic_table.specs.Table.{State, Me, Act, step, keeps, takes, gives, Valid, carried_after, stepped, Allows, put_back}
use Rattle.atomic_table.specs.Table as table
use Rattle.atomic_table.proofs.Lists.{at_set, set_here, set_else, exchanged}
use Rattle.shard_lock.specs.declared.shard.Entry.{Entry}
use Rattle.shard_lock.specs.History.{entry, of_pass, IsStart}
use Rattle.shard_lock.specs.Passes.{times, numbers}
use Rattle.shard_lock.proofs.Views.{some_is, all_join}
use Rattle.turn_lock.specs.declared.board.Desk.{Desk}
use Rattle.turn_lock.specs.declared.board.Cell.{Cell}
use Rattle.turn_lock.specs.declared.board.Cell.TheVariants.{Home, Ask, Told}
use Rattle.turn_lock.specs.declared.board.Role.{Role}
use Rattle.turn_lock.specs.declared.board.Role.TheVariants.{Idle, Opens, Asks, Leads, Tells}
use Rattle.turn_lock.specs.declared.board.View.{View}
use Rattle.turn_lock.specs.Asking.{asked_of}
use Rattle.turn_lock.specs.Rule.{Box, put, IsOut, Absent, after_enter, inner, with_role, after, Owed, AsksSo, HasAsked, AreTook, AreEntered, rests, AsRole, Lives, Stands, IsLead, Kept, led, grabbed, entered, tells, CanEnter}
use Rattle.turn_lock.specs.Rule.Box.{Bare, Asked, Grabbed, Entered, Answered}
use Rattle.turn_lock.specs.Turns.{Leaves}
use Rattle.turn_lock.proofs.Histories.{far_snoc, of_join, of_absent, of_first, absent_join, Found, find, entered_not, entered_here, NoneOf, ended_on, put_not, put_here, IsGrabbed, grabbed_out, entered_out, by_of, start_more, word_else, word_zero, word_here, ne_suc, ne_zero, set_there, leaves_on}
use Rattle.turn_lock.proofs.Views.{within, same_newest, counted_set}
use Rattle.turn_lock.proofs.Frames.{same_view, took_here, before_absent, IsAsker, asks_else, leads_no_asker, leader_absent, asked_on, exact_on, asks_on, asks_same, took_frame, told_frame, role_frame, moved, rests_no_lead, rests_role, asker_lives, leader_lives, IsTeller, teller_lives, no_ended, stands_on, stands_as, fresh_else}
use Rattle.turn_lock.proofs.Boxes.{again}

module _ {S E A : Type 0} where
  no_apart : (box : ℕ → Box A) (views : List (View S E A)) (j : ℕ) (took : List (ℕ × E)) → (IsGrabbed (box j) → ⊥) → AreTook box views took → AllByRecursion (λ (y : ℕ × E). j ≢ y.0) took
  no_apart box views j [] not t = tt
  no_apart box views j (x ∷ took) not t = ((λ is. not (subst (λ n. IsGrabbed (box n)) (sym is) (subst IsGrabbed (sym t.0) tt))), no_apart box views j took not t.3)

  took_snoc : (box : ℕ → Box A) (views : List (View S E A)) (took : List (ℕ × E)) (x : ℕ × E) → box x.0 ≡ Grabbed → HasAsked views x.0 x.1 → AllByRecursion (λ (y : ℕ × E). x.0 ≢ y.0) took
      → AreTook box views took → AreTook box views (took ++ x ∷ [])
  took_snoc box views [] x g a ne t = (g, a, tt, tt)
  took_snoc box views (y ∷ took) x g a ne t = (t.0, t.1, far_snoc y.0 took x (λ is. ne.0 (sym is)) t.2, took_snoc box views took x g a ne.1 t.3)

  -- ---- a seat takes the shard
  pub leads_on_shard : (turn : S → List (Entry E A) → S → Type 0) (from : S) (seats slots id : ℕ) (me : Me (Cell S E A) (View S E A)) → me.0.role ≡ Idle → 0 < me.0.stands
      → Allows (Kept turn from seats) slots id me 0 (λ n. either (n == 0) 1 n) (led (step slots 0 0 1 none) me)
  leads_on_shard turn from seats slots id me idle lives s r _ at _ =
      let v : View S E A = me.0 in let x : ℕ = get_or s.words 0 0 in let f = r.each id v at in let k : Role S E A = Leads r.now [] in let w : View S E A = with_role k v in
      let h = subst (λ k. AsRole r.log r.now r.box s.views (get_or s.words (suc id) 0) (get_elem? s.homes (suc id)) id v k) idle f.role in
      let vs : List (View S E A) = set s.views id w in let ws : List ℕ = set s.words 0 1 in let hs : List (Maybe (Cell S E A)) = set s.homes 0 none in
      let n : State (Cell S E A) (View S E A) = record { words = ws; homes = hs; views = vs } in
      let lw : length ws ≡ length s.words = length-set s.words 0 1 in let lh : length hs ≡ length s.homes = length-set s.homes 0 none in let lv : length vs ≡ length s.views = length-set s.views id w in
      let low : id < length s.views = within s.views id v at in let wide = r.wide in let long = r.long in
      let no_asker : IsAsker v.role → ⊥ = λ a. subst IsAsker idle a in
      let away : (m : ℕ) (e : E) → HasAsked s.views m e → m ≢ id = λ m e a. asks_else s.views id m v e at no_asker a in
      exchanged x 0 1 (λ y. (w : View S E A) × (a : Act (Cell S E A)) × Valid s.homes me.1 a × Kept turn from seats (stepped s 0 y id me.1 w a) × led (step slots 0 0 1 none) me x (w, carried_after me.1 a))
      (λ hit.
      let nobody = r.free hit in (
        w,
        takes 0 (Home r.now),
        r.home nobody,
        record {
          log = r.log;
          now = r.now;
          box = r.box;
          legal = r.legal;
          wide = lh ∙ wide;
          long = lw ∙ long;
          counted = counted_set seats s.views id v w at refl refl refl r.counted;
          newest = same_newest r.log r.log s.views id v w at refl (λ z. z) (λ z. z) r.newest;
          fresh = λ m high. fresh_else seats r.log r.log r.box r.box s vs 0 1 none m (ne_zero m) refl refl (r.fresh m (omega arith));
          each = λ j d at'. ⊎_elim
              (λ (p : (j ≡ id) × (w ≡ d)). subst (λ (z : ℕ × View S E A). Stands from r.log r.now r.box n z.0 z.1) (λ i. (sym p.0 i, p.1 i))
              (stands_as from r.log r.now r.now r.box r.box s n id v k lv lives (h.0, h.1, (word_else s.words 0 (suc id) 1 (ne_zero id) ∙ h.2.0, set_else s.homes 0 (suc id) none (ne_zero id) ∙ h.2.1), refl, tt) f))
              (λ (p : (j ≢ id) × (get_elem? s.views j ≡ some d)). let g = r.each j d p.1 in stands_on from r.log r.now r.now r.box r.box s n j d lv
              (moved r.log r.now r.box vs (get_or s.words (suc j) 0) (get_or ws (suc j) 0) (get_elem? s.homes (suc j)) (get_elem? hs (suc j)) j d d.role
              (word_else s.words 0 (suc j) 1 (ne_zero j)) (set_else s.homes 0 (suc j) none (ne_zero j))
              (role_frame r.box r.box s.views vs r.log r.now (get_or s.words (suc j) 0) (get_elem? s.homes (suc j)) j d d.role refl
              (λ m e o a. (o, asked_on s.views id m w e (away m e a) a)) (λ m b e o a. (o, asked_on s.views id m w e (away m e a) a)) g.role)) g)
              (at_set s.views id j w d at');
          asked = λ k is. let old = r.asked k (sym (word_else s.words 0 (suc k) 1 (ne_zero k)) ∙ is) in (old.0, asked_on s.views id k w old.0 (away k old.0 old.1) old.1, old.2);
          one = λ i j a c ai cj la lc. ⊎_elim
              (λ (p : (i ≡ id) × (w ≡ a)). ⊎_elim
              (λ (q : (j ≡ id) × (w ≡ c)). p.0 ∙ sym q.0)
              (λ (q : (j ≢ id) × (get_elem? s.views j ≡ some c)). absurd (nobody j c q.1 lc))
              (at_set s.views id j w c cj))
              (λ (p : (i ≢ id) × (get_elem? s.views i ≡ some a)). absurd (nobody i a p.1 la))
              (at_set s.views id i w a ai);
          free = λ z i a ai la. let one : get_or ws 0 0 ≡ 1 = word_here s.words 0 1 (omega arith) in absurd (omega arith);
          home = λ none_leads. absurd (none_leads id w (set_here s.views id w low) tt);
        },
        ((λ _. (r.now, refl)), λ no. absurd (no hit)),
      ))
      (λ miss. (v, keeps, tt, again turn from seats s 0 id v at r, ((λ hit. absurd (miss hit)), λ _. refl)))

  -- ---- the leader takes the box of a seat that asked
  pub grabs : (turn : S → List (Entry E A) → S → Type 0) (from : S) (seats slots id j : ℕ) (me : Me (Cell S E A) (View S E A)) (t : Desk S) (took : List (ℕ × E)) → me.0.role ≡ Leads t took
      → Allows (Kept turn from seats) slots id me (suc j) (λ n. either (n == 1) 0 n) (grabbed (step slots (suc j) 1 0 none) me)
  grabs turn from seats slots id j me t took leads s r _ at _ =
      let v : View S E A = me.0 in let x : ℕ = get_or s.words (suc j) 0 in let f = r.each id v at in
      let h = subst (λ k. AsRole r.log r.now r.box s.views (get_or s.words (suc id) 0) (get_elem? s.homes (suc id)) id v k) leads f.role in
      let lead : IsLead v.role = subst IsLead (sym leads) tt in let no_asker : IsAsker v.role → ⊥ = leads_no_asker v.role lead in let lives : 0 < v.stands = leader_lives v f.spent lead in
      exchanged x 1 0 (λ y. (w : View S E A) × (a : Act (Cell S E A)) × Valid s.homes me.1 a × Kept turn from seats (stepped s (suc j) y id me.1 w a) × grabbed (step slots (suc j) 1 0 none) me x (w, carried_after me.1 a))
      (λ hit.
      let ask = r.asked j hit in let e : E = ask.0 in let d : View S E A = ask.1.0 in let atd = ask.1.1 in let roled = ask.1.2 in
      let k' : Role S E A = Leads t (took ++ (j, e) ∷ []) in let w : View S E A = with_role k' v in
      let hd : AsksSo r.log j d e x (get_elem? s.homes (suc j)) Asked = subst (λ b. AsksSo r.log j d e x (get_elem? s.homes (suc j)) b) ask.2
      (subst (λ k. AsRole r.log r.now r.box s.views x (get_elem? s.homes (suc j)) j d k) roled (r.each j d atd).role) in
      let away : (m : ℕ) (e : E) → HasAsked s.views m e → m ≢ id = λ m e a. asks_else s.views id m v e at no_asker a in
      let ne : j ≢ id = away j e ask.1 in let ne' : id ≢ j = λ z. ne (sym z) in
      let not_j : (m : ℕ) → IsOut (r.box m) → m ≢ j = λ m o is. subst IsOut ask.2 (subst (λ k. IsOut (r.box k)) is o) in
      let vs : List (View S E A) = set s.views id w in let ws : List ℕ = set s.words (suc j) 0 in let hs : List (Maybe (Cell S E A)) = set s.homes (suc j) none in let box' : ℕ → Box A = put j Grabbed r.box in
      let n : State (Cell S E A) (View S E A) = record { words = ws; homes = hs; views = vs } in
      let lw : length ws ≡ length s.words = length-set s.words (suc j) 0 in let lh : length hs ≡ length s.homes = length-set s.homes (suc j) none in let lv : length vs ≡ length s.views = length-set s.views id w in
      let low : id < length s.views = within s.views id v at in let lowj : j < length s.views = within s.views j d atd in let wide = r.wide in let long = r.long in
      let on_took : (m : ℕ) (e : E) → r.box m ≡ Grabbed → HasAsked s.views m e → (box' m ≡ Grabbed) × HasAsked vs m e = λ m e o a. (put_not j m Grabbed r.box (not_j m (grabbed_out (r.box m) o)) ∙ o, asked_on s.views id m w e (away m e a) a) in
      let on_told : (k m : ℕ) (b : A) (e : E) → r.box m ≡ Entered k b → HasAsked s.views m e → (box' m ≡ Entered k b) × HasAsked vs m e = λ k m b e o a. (put_not j m Grabbed r.box (not_j m (entered_out (r.box m) k b o)) ∙ o, asked_on s.views id m w e (away m e a) a) in
      let is_id : (i : ℕ) (a : View S E A) → get_elem? vs i ≡ some a → IsLead a.role → i ≡ id = λ i a ai la. ⊎_elim (λ (p : (i ≡ id) × (w ≡ a)). p.0) (λ (p : (i ≢ id) × (get_elem? s.views i ≡ some a)). r.one i id a v p.1 at la lead) (at_set s.views id i w a ai) in (
        w,
        takes (suc j) (Ask e),
        hd.1,
        record {
          log = r.log;
          now = r.now;
          box = box';
          legal = r.legal;
          wide = lh ∙ wide;
          long = lw ∙ long;
          counted = counted_set seats s.views id v w at refl refl refl r.counted;
          newest = same_newest r.log r.log s.views id v w at refl (λ z. z) (λ z. z) r.newest;
          fresh = λ m high. let far : m ≢ j = λ is. absurd (omega arith) in fresh_else seats r.log r.log r.box box' s vs (suc j) 0 none m (ne_suc j m far) refl (put_not j m Grabbed r.box far) (r.fresh m (omega arith));
          each = λ k c at'. ⊎_elim
              (λ (p : (k ≡ id) × (w ≡ c)). subst (λ (z : ℕ × View S E A). Stands from r.log r.now box' n z.0 z.1) (λ i. (sym p.0 i, p.1 i))
              (stands_as from r.log r.now r.now r.box box' s n id v k' lv lives (
                put_not j id Grabbed r.box ne' ∙ h.0,
                h.1,
                (word_else s.words (suc j) (suc id) 0 (ne_suc j id ne') ∙ h.2.0, set_else s.homes (suc j) (suc id) none (ne_suc j id ne') ∙ h.2.1),
                h.3,
                took_snoc box' vs took (j, e) (put_here j Grabbed r.box) (asked_on s.views id j w e ne ask.1) (no_apart r.box s.views j took (λ g. subst IsGrabbed ask.2 g) h.4) (took_frame r.box box' s.views vs took on_took h.4),
              ) f))
              (λ (p : (k ≢ id) × (get_elem? s.views k ≡ some c)). dite (ℕ_discrete k j)
              (λ here. subst (λ (z : ℕ × View S E A). Stands from r.log r.now box' n z.0 z.1) (λ i. (sym here i, same_view s.views j k d c (sym here) atd p.1 i))
              (stands_on from r.log r.now r.now r.box box' s n j d lv (subst (λ k. AsRole r.log r.now box' vs (get_or ws (suc j) 0) (get_elem? hs (suc j)) j d k) (sym roled)
              (subst (λ b. AsksSo r.log j d e (get_or ws (suc j) 0) (get_elem? hs (suc j)) b) (sym (put_here j Grabbed r.box)) (word_zero s.words (suc j), set_there s.homes (suc j) (some (Ask e)) none hd.1, hd.2)))
              (r.each j d atd)))
              (λ apart. let g = r.each k c p.1 in stands_on from r.log r.now r.now r.box box' s n k c lv
              (moved r.log r.now box' vs (get_or s.words (suc k) 0) (get_or ws (suc k) 0) (get_elem? s.homes (suc k)) (get_elem? hs (suc k)) k c c.role
              (word_else s.words (suc j) (suc k) 0 (ne_suc j k apart)) (set_else s.homes (suc j) (suc k) none (ne_suc j k apart))
              (role_frame r.box box' s.views vs r.log r.now (get_or s.words (suc k) 0) (get_elem? s.homes (suc k)) k c c.role (put_not j k Grabbed r.box apart) on_took (on_told k) g.role)) g))
              (at_set s.views id k w c at');
          asked = λ k is. dite (ℕ_discrete k j)
              (λ here. let z : get_or ws (suc k) 0 ≡ 0 = ap (λ m. get_or ws (suc m) 0) here ∙ word_zero s.words (suc j) in absurd (omega arith))
              (λ apart. let old = r.asked k (sym (word_else s.words (suc j) (suc k) 0 (ne_suc j k apart)) ∙ is) in (old.0, asked_on s.views id k w old.0 (away k old.0 old.1) old.1, put_not j k Grabbed r.box apart ∙ old.2));
          one = λ i k a c ai ck la lc. is_id i a ai la ∙ sym (is_id k c ck lc);
          free = λ z i a ai la. r.free (sym (word_else s.words (suc j) 0 0 (λ y. ne_zero j (sym y))) ∙ z) id v at lead;
          home = λ nobody. absurd (nobody id w (set_here s.views id w low) tt);
        },
        ((λ _. (j, e, t, took, refl, leads, refl)), λ no. absurd (no hit)),
      ))
      (λ miss. (v, keeps, tt, again turn from seats s (suc j) id v at r, ((λ hit. absurd (miss hit)), λ _. refl)))

  -- ---- one seat enters what was done for several
  module _ (s : State (Cell S E A) (View S E A)) (log : List (Entry E A)) (now y : Desk S) (box : ℕ → Box A) (id : ℕ) (v w : View S E A)
      (at : get_elem? s.views id ≡ some v) (no_asker : IsAsker v.role → ⊥) (es : List (Entry E A)) (e : Entry E A) (seat : e.seat ≡ id)
      (took : AreTook box s.views (asked_of es)) where
    abbrev block : List (Entry E A)
    block = es ++ e ∷ []

    abbrev vs : List (View S E A)
    vs = set s.views id w

    abbrev now_box : ℕ → Box A
    now_box = after_enter id es box

    nothing_of : (j : ℕ) → j ≢ id → Absent j es → of_pass j block ≡ []
    nothing_of j ne gone = of_absent j block (absent_join j es (e ∷ []) gone ((λ is. ne (is ∙ seat)), tt))

    -- the boxes that were grabbed are those of these entries
    took_of : (f : (n : ℕ) × Found n es) → (box f.0 ≡ Grabbed) × HasAsked s.views f.0 f.1.one.event × Absent f.0 f.1.after
    took_of f = subst (λ (n : ℕ). (box n ≡ Grabbed) × HasAsked s.views n f.1.one.event × Absent n f.1.after) (sym f.1.seat)
        (took_here box s.views f.1.before f.1.after f.1.one (subst (λ l. AreTook box s.views (asked_of l)) f.1.is took))

    -- one whose box wasn't grabbed is none of them
    gone_by : (j : ℕ) → (IsGrabbed (box j) → ⊥) → Absent j es
    gone_by j not = ⊎_elim (λ gone. gone) (λ f. absurd (not (subst IsGrabbed (sym (took_of (j, f)).0) tt))) (find j es)

    bare_gone : (j : ℕ) → box j ≡ Bare → Absent j es
    bare_gone j is = gone_by j (λ g. subst IsGrabbed is g)

    away : (n : ℕ) (x : E) → HasAsked s.views n x → n ≢ id
    away n x a = asks_else s.views id n v x at no_asker a

    news : (before after : List (Entry E A)) → AreTook box s.views (asked_of (before ++ after)) → AreEntered id (after_enter id (before ++ after) box) vs after
    news before [] t = tt
    news before (d ∷ after) t = let h = took_here box s.views before after d t in let assoc = append_assoc before (d ∷ []) after in (
      entered_here id d.seat before after d box (before_absent box s.views before after d t) refl,
      asked_on s.views id d.seat w d.event (away d.seat d.event h.1) h.1,
      h.2,
      subst (λ l. AreEntered id (after_enter id l box) vs after) assoc
          (news (before ++ d ∷ []) after (subst (λ l. AreTook box s.views (asked_of l)) (sym assoc) t)),
    )

    told_on : (j n : ℕ) (a : A) (x : E) → box n ≡ Entered j a → HasAsked s.views n x → (now_box n ≡ Entered j a) × HasAsked vs n x
    told_on j n a x o h = (entered_not id n es box (gone_by n (λ g. subst IsGrabbed o g)) ∙ o, asked_on s.views id n w x (away n x h) h)

    -- another seat that asked
    asks_next : (j : ℕ) (d : View S E A) (ev : E) (word : ℕ) (home : Maybe (Maybe (Cell S E A))) → j ≢ id → get_elem? s.views j ≡ some d → d.role ≡ Asks ev → 0 < d.stands → IsStart d.seen log
        → AsksSo log j d ev word home (box j) → Absent j es ⊎ Found j es → AsksSo (log ++ block) j d ev word home (now_box j)
    asks_next j d ev word home ne atd role lives seen h (inl gone) = subst (λ b. AsksSo (log ++ block) j d ev word home b) (sym (entered_not id j es box gone))
        (asks_on log block j d ev word home (box j) (nothing_of j ne gone) h)
    asks_next j d ev word home ne atd role lives seen h (inr f) =
        let t = took_of (j, f) in
        let g : AsksSo log j d ev word home Grabbed = subst (λ b. AsksSo log j d ev word home b) t.0 h in
        let same : d ≡ t.1.0 = same_view s.views j j d t.1.0 refl atd t.1.1 in
        let ev_is : ev ≡ f.one.event = asks_same ev f.one.event d.role role (ap (λ z. z.role) same ∙ t.1.2) in
        let one_is : f.one ≡ entry j ev f.one.answer = λ i. record { seat = sym f.seat i; event = sym ev_is i; answer = f.one.answer } in
        let more : List (Entry E A) = f.after ++ e ∷ [] in
        let box_is : now_box j ≡ Entered id f.one.answer = ap (λ l. after_enter id l box j) f.is ∙ entered_here id j f.before f.after f.one box f.absent f.seat in
        let exact : d.mine ≡ of_pass j log = g.2 lives in
        let owed : Owed (log ++ block) j d (entry j ev f.one.answer) = record {
          front = log ++ f.before;
          behind = more;
          is = ap (λ l. log ++ (l ++ e ∷ [])) f.is ∙ (ap (λ l. log ++ l) (append_assoc f.before (f.one ∷ f.after) (e ∷ []))
              ∙ (sym (append_assoc log f.before (f.one ∷ more)) ∙ ap (λ z. (log ++ f.before) ++ (z ∷ more)) one_is));
          seen = start_more d.seen log f.before seen;
          mine = of_join j log f.before ∙ ((λ i. sym exact i ++ of_absent j f.before f.absent i) ∙ append-nil d.mine);
          none_left = of_absent j more (absent_join j f.after (e ∷ []) t.2 ((λ is. ne (is ∙ seat)), tt));
        } in
        subst (λ b. AsksSo (log ++ block) j d ev word home b) (sym box_is) (g.0, g.1, owed)

    role_next : (j : ℕ) (d : View S E A) (word : ℕ) (home : Maybe (Maybe (Cell S E A))) (k : Role S E A) → j ≢ id → get_elem? s.views j ≡ some d → d.role ≡ k → (IsLead d.role → ⊥) → (IsAsker d.role → 0 < d.stands) → IsStart d.seen log
        → AsRole log now box s.views word home j d k → AsRole (log ++ block) y now_box vs word home j d k
    role_next j d word home Idle ne atd role alone lives seen h = let gone = bare_gone j h.0 in (entered_not id j es box gone ∙ h.0, exact_on log block j d (nothing_of j ne gone) h.1, h.2)
    role_next j d word home Opens ne atd role alone lives seen h = let gone = bare_gone j h.0 in (entered_not id j es box gone ∙ h.0, exact_on log block j d (nothing_of j ne gone) h.1, h.2)
    role_next j d word home (Asks ev) ne atd role alone lives seen h = asks_next j d ev word home ne atd role (lives (subst IsAsker (sym role) tt)) seen h (find j es)
    role_next j d word home (Leads t own) ne atd role alone lives seen h = absurd (alone (subst IsLead (sym role) tt))
    role_next j d word home (Tells list) ne atd role alone lives seen h = let gone = bare_gone j h.0 in
        (entered_not id j es box gone ∙ h.0, exact_on log block j d (nothing_of j ne gone) h.1, h.2, told_frame box now_box s.views vs j list (told_on j) h.3)

  -- a number that no seat has yet is none of those that asked
  far_off : (box : ℕ → Box A) (views : List (View S E A)) (n : ℕ) → length views ≤ n → (es : List (Entry E A)) → AreTook box views (asked_of es) → Absent n es
  far_off box views n high [] t = tt
  far_off box views n high (e ∷ es) t = ((λ is. let low : e.seat < length views = within views e.seat t.1.0 t.1.1 in absurd (omega arith)), far_off box views n high es t.3)

  -- none of those that asked was joined into a seat
  none_took : (turn : S → List (Entry E A) → S → Type 0) (from : S) (seats : ℕ) (s : State (Cell S E A) (View S E A)) (r : Kept turn from seats s) (j : ℕ) (d : View S E A) → get_elem? s.views j ≡ some d → Lives from r.log j d
      → (es : List (Entry E A)) → AreTook r.box s.views (asked_of es) → NoneOf (numbers d.ended) es
  none_took turn from seats s r j d at l [] t = tt
  none_took turn from seats s r j d at l (e ∷ es) t =
      let c : View S E A = t.1.0 in let g = r.each e.seat c t.1.1 in let lives : 0 < c.stands = asker_lives c g.spent (subst IsAsker (sym t.1.2) tt) in (
        no_ended seats from r.log s.views r.counted e.seat j c d t.1.1 (g.lives lives) at l,
        none_took turn from seats s r j d at l es t.3,
      )

  pub enters : (turn : S → List (Entry E A) → S → Type 0) (from : S) (seats slots id : ℕ) (me : Me (Cell S E A) (View S E A)) (said : Option (List (Entry E A) × Entry E A))
      → CanEnter turn said me → Allows (Kept turn from seats) slots id me 0 (λ _. 0) (λ _. entered turn said (step slots 0 0 0 none) me 0)
  enters turn from seats slots id me said can s r _ at _ =
      let es : List (Entry E A) = can.others in let e : Entry E A = can.own in let y : Desk S = can.after in
      let v : View S E A = me.0 in let block' : List (Entry E A) = es ++ e ∷ [] in let log' : List (Entry E A) = r.log ++ block' in
      let w : View S E A = after (rests es) v (r.log ++ es) e in let seen_is : w.seen ≡ log' = append_assoc r.log es (e ∷ []) in
      let f = r.each id v at in
      let h = subst (λ k. AsRole r.log r.now r.box s.views (get_or s.words (suc id) 0) (get_elem? s.homes (suc id)) id v k) can.leads f.role in
      let lead : IsLead v.role = subst IsLead (sym can.leads) tt in let no_asker : IsAsker v.role → ⊥ = leads_no_asker v.role lead in
      let lives : 0 < v.stands = leader_lives v f.spent lead in let l = f.lives lives in let seat : e.seat ≡ id = can.seat ∙ l.number in
      let took : AreTook r.box s.views (asked_of es) = h.4 in
      let absent : Absent id es = leader_absent r.box s.views id v at no_asker es took in
      let own : of_pass id block' ≡ e ∷ [] = of_join id es (e ∷ []) ∙ (λ i. of_absent id es absent i ++ of_first id e [] (sym seat) i) in
      let old_mine : v.mine ≡ of_pass id r.log = h.1 lives in
      let exact : of_pass id log' ≡ v.mine ++ e ∷ [] = of_join id r.log block' ∙ (λ i. sym old_mine i ++ own i) in
      let legal : Leaves turn from log' (inner y) = leaves_on turn from (inner r.now) (inner y) r.log block' r.legal (subst (λ (z : Desk S). turn (inner z) block' (inner y)) h.3 can.act) in
      let alone : (j : ℕ) (d : View S E A) → j ≢ id → get_elem? s.views j ≡ some d → IsLead d.role → ⊥ = λ j d ne atd l. ne (r.one j id d v atd at l lead) in
      let box' : ℕ → Box A = after_enter id es r.box in let vs' : List (View S E A) = set s.views id w in let ws : List ℕ = set s.words 0 0 in let hs : List (Maybe (Cell S E A)) = set s.homes 0 (some (Home y)) in
      let n : State (Cell S E A) (View S E A) = record { words = ws; homes = hs; views = vs' } in
      let lw : length ws ≡ length s.words = length-set s.words 0 0 in let lh : length hs ≡ length s.homes = length-set s.homes 0 (some (Home y)) in let lv : length vs' ≡ length s.views = length-set s.views id w in
      let low : id < length s.views = within s.views id v at in let wide = r.wide in let long = r.long in
      let none_of : (j : ℕ) (d : View S E A) → get_elem? s.views j ≡ some d → Lives from r.log j d → NoneOf (numbers d.ended) block' = λ j d atd g. all_join (λ (x : Entry E A). times x.seat (numbers d.ended) ≡ 0) es (e ∷ [])
      (none_took turn from seats s r j d atd g es took) (subst (λ (k : ℕ). times k (numbers d.ended) ≡ 0) (sym seat) (no_ended seats from r.log s.views r.counted id j v d at l atd g), tt) in
      let nobody : (i : ℕ) (a : View S E A) → get_elem? vs' i ≡ some a → IsLead a.role → ⊥ = λ i a ai la. ⊎_elim
      (λ (p : (i ≡ id) × (w ≡ a)). rests_no_lead es w.role refl (subst (λ (z : View S E A). IsLead z.role) (sym p.1) la))
      (λ (p : (i ≢ id) × (get_elem? s.views i ≡ some a)). alone i a p.0 p.1 la) (at_set s.views id i w a ai) in (
        w,
        gives,
        tt,
        subst (λ (hs : List (Maybe (Cell S E A))). Kept turn from seats record { words = ws; homes = hs; views = vs' }) (sym (ap (put_back s.homes) can.held)) (record {
          log = log';
          now = y;
          box = box';
          legal = legal;
          wide = lh ∙ wide;
          long = lw ∙ long;
          counted = counted_set seats s.views id v w at refl refl refl r.counted;
          newest = (id, w, set_here s.views id w low, lives, seen_is);
          fresh = λ m high. let gone : Absent m es = far_off r.box s.views m (omega arith) es took in let far : m ≢ id = λ is. absurd (omega arith) in
              fresh_else seats r.log log' r.box box' s vs' 0 0 (some (Home y)) m (ne_zero m)
              (of_join m r.log block' ∙ (ap (λ z. of_pass m r.log ++ z) (of_absent m block' (absent_join m es (e ∷ []) gone ((λ is. far (is ∙ seat)), tt))) ∙ append-nil (of_pass m r.log)))
              (entered_not id m es r.box gone) (r.fresh m (omega arith));
          each = λ j d at'. ⊎_elim
              (λ (p : (j ≡ id) × (w ≡ d)). subst (λ (z : ℕ × View S E A). Stands from log' y box' n z.0 z.1) (λ i. (sym p.0 i, p.1 i)) (record {
                seen = ([], sym seen_is ∙ sym (append-nil w.seen));
                role = rests_role log' y box' vs' (get_or ws (suc id) 0) (get_elem? hs (suc id)) id w es (entered_not id id es r.box absent ∙ h.0) (λ _. sym exact)
                    (word_else s.words 0 (suc id) 0 (ne_zero id) ∙ h.2.0, set_else s.homes 0 (suc id) (some (Home y)) (ne_zero id) ∙ h.2.1)
                    (news s r.log r.now y r.box id v w at no_asker es e seat took [] es took);
                spent = λ z. absurd (omega arith);
                lives = λ _. record { number = l.number; first = l.first; ended = ended_on v.ended r.log block' (none_of id v at l) l.ended; stands = l.stands; listed = l.listed; olds = tt };
                maker = λ h. let m = f.maker h in (m.0, m.1 ∙ sym lv);
              }))
              (λ (p : (j ≢ id) × (get_elem? s.views j ≡ some d)). let g = r.each j d p.1 in record {
                seen = start_more d.seen r.log block' g.seen;
                role = moved log' y box' vs' (get_or s.words (suc j) 0) (get_or ws (suc j) 0) (get_elem? s.homes (suc j)) (get_elem? hs (suc j)) j d d.role
                    (word_else s.words 0 (suc j) 0 (ne_zero j)) (set_else s.homes 0 (suc j) (some (Home y)) (ne_zero j))
                    (role_next s r.log r.now y r.box id v w at no_asker es e seat took j d (get_or s.words (suc j) 0) (get_elem? s.homes (suc j)) d.role p.0 p.1 refl (alone j d p.0 p.1) (asker_lives d g.spent) g.seen g.role);
                spent = g.spent;
                lives = λ h. let o = g.lives h in record { number = o.number; first = o.first; ended = ended_on d.ended r.log block' (none_of j d p.1 o) o.ended; stands = o.stands; listed = o.listed; olds = o.olds };
                maker = λ h. let m = g.maker h in (m.0, m.1 ∙ sym lv);
              })
              (at_set s.views id j w d at');
          asked = λ k is. let old = r.asked k (sym (word_else s.words 0 (suc k) 0 (ne_zero k)) ∙ is) in (
            old.0,
            asked_on s.views id k w old.0 (asks_else s.views id k v old.0 at no_asker old.1) old.1,
            entered_not id k es r.box (gone_by s r.log r.now y r.box id v w at no_asker es e seat took k (λ g. subst IsGrabbed old.2 g)) ∙ old.2,
          );
          one = λ i j a b ai bj la lb. absurd (nobody i a ai la);
          free = λ _. nobody;
          home = λ _. set_here s.homes 0 (some (Home y)) (omega arith);
        }),
        (
          es,
          e,
          can.more,
          y,
          can.told,
          can.held,
          ap table.rest can.held,
          record {
            log = r.log ++ es;
            seen = start_more v.seen r.log es f.seen;
            is = refl;
            legal = λ from' is. record { rest = []; left = inner y; leaves = subst (λ (z : S × List (Entry E A)). Leaves turn z.0 z.1 (inner y)) (λ i. (some_is from from' (sym l.first ∙ is) i, (sym seen_is ∙ sym (append-nil w.seen)) i)) legal };
            mine = subst (λ (z : ℕ × List (Entry E A)). of_pass z.0 z.1 ≡ v.mine ++ e ∷ []) (λ i. (sym l.number i, sym seen_is i)) exact;
          },
        ),
      )

  still : (j : ℕ) (b : Box A) (box : ℕ → Box A) (views : List (View S E A)) (i : ℕ) (w : View S E A) (list : List (Entry E A)) → Absent j list → ((m : ℕ) (x : E) → HasAsked views m x → m ≢ i)
      → AreEntered i box views list → AreEntered i (put j b box) (set views i w) list
  still j b box views i w [] gone away t = tt
  still j b box views i w (x ∷ list) gone away t = (put_not j x.seat b box (λ is. gone.0 (sym is)) ∙ t.0, asked_on views i x.seat w x.event (away x.seat x.event t.1) t.1, t.2, still j b box views i w list gone.1 away t.3)

  -- ---- and tells one of them
  pub tells_one : (turn : S → List (Entry E A) → S → Type 0) (from : S) (seats slots id : ℕ) (me : Me (Cell S E A) (View S E A)) (e : Entry E A) (es : List (Entry E A)) (more : List (ℕ × Cell S E A))
      → me.0.role ≡ Tells (e ∷ es) → me.1 ≡ (suc e.seat, Told e.answer) ∷ more
      → Allows (Kept turn from seats) slots id me (suc e.seat) (λ _. 2) (λ _. tells (step slots (suc e.seat) 2 0 none) me 2)
  tells_one turn from seats slots id me e es more role held s r _ at _ =
      let v : View S E A = me.0 in let j : ℕ = e.seat in let f = r.each id v at in let w : View S E A = with_role (rests es) v in
      let h = subst (λ k. AsRole r.log r.now r.box s.views (get_or s.words (suc id) 0) (get_elem? s.homes (suc id)) id v k) role f.role in let t = h.3 in
      let no_asker : IsAsker v.role → ⊥ = λ a. subst IsAsker role a in let no_lead : IsLead v.role → ⊥ = λ l. subst IsLead role l in
      let lives : 0 < v.stands = teller_lives v f.spent (subst IsTeller (sym role) tt) in
      let d : View S E A = t.1.0 in let atd = t.1.1 in let roled = t.1.2 in
      let hd : AsksSo r.log j d e.event (get_or s.words (suc j) 0) (get_elem? s.homes (suc j)) (Entered id e.answer) = subst (λ b. AsksSo r.log j d e.event (get_or s.words (suc j) 0) (get_elem? s.homes (suc j)) b) t.0
      (subst (λ k. AsRole r.log r.now r.box s.views (get_or s.words (suc j) 0) (get_elem? s.homes (suc j)) j d k) roled (r.each j d atd).role) in
      let away : (m : ℕ) (e : E) → HasAsked s.views m e → m ≢ id = λ m e a. asks_else s.views id m v e at no_asker a in
      let ne : j ≢ id = away j e.event t.1 in let ne' : id ≢ j = λ z. ne (sym z) in
      let y : Maybe (Cell S E A) = some (Told e.answer) in
      let vs' : List (View S E A) = set s.views id w in let ws : List ℕ = set s.words (suc j) 2 in let hs : List (Maybe (Cell S E A)) = set s.homes (suc j) y in let box' : ℕ → Box A = put j (Answered e.answer) r.box in
      let n : State (Cell S E A) (View S E A) = record { words = ws; homes = hs; views = vs' } in
      let lw : length ws ≡ length s.words = length-set s.words (suc j) 2 in let lh : length hs ≡ length s.homes = length-set s.homes (suc j) y in let lv : length vs' ≡ length s.views = length-set s.views id w in
      let low : j < length s.views = within s.views j d atd in let wide = r.wide in let long = r.long in let made = r.counted.made in
      let two : get_or ws (suc j) 0 ≡ 2 = word_here s.words (suc j) 2 (omega arith) in
      let on_took : (m : ℕ) (x : E) → r.box m ≡ Grabbed → HasAsked s.views m x → (box' m ≡ Grabbed) × HasAsked vs' m x = λ m x o a.
      (put_not j m (Answered e.answer) r.box (λ is. subst IsGrabbed t.0 (subst (λ k. IsGrabbed (r.box k)) is (subst IsGrabbed (sym o) tt))) ∙ o, asked_on s.views id m w x (away m x a) a) in
      let on_told : (k m : ℕ) (b : A) (x : E) → k ≢ id → r.box m ≡ Entered k b → HasAsked s.views m x → (box' m ≡ Entered k b) × HasAsked vs' m x = λ k m b x other o a.
      (put_not j m (Answered e.answer) r.box (λ is. other (ap by_of (sym o ∙ (ap r.box is ∙ t.0)))) ∙ o, asked_on s.views id m w x (away m x a) a) in
      let left : AreEntered id box' vs' es = still j (Answered e.answer) r.box s.views id w es t.2 away t.3 in
      let nobody : ((i : ℕ) (a : View S E A) → get_elem? s.views i ≡ some a → IsLead a.role → ⊥) → (i : ℕ) (a : View S E A) → get_elem? vs' i ≡ some a → IsLead a.role → ⊥ = λ old i a ai la. ⊎_elim
      (λ (p : (i ≡ id) × (w ≡ a)). rests_no_lead es w.role refl (subst (λ (z : View S E A). IsLead z.role) (sym p.1) la))
      (λ (p : (i ≢ id) × (get_elem? s.views i ≡ some a)). old i a p.1 la) (at_set s.views id i w a ai) in (
        w,
        gives,
        tt,
        subst (λ (hs : List (Maybe (Cell S E A))). Kept turn from seats record { words = ws; homes = hs; views = vs' }) (sym (ap (put_back s.homes) held)) (record {
          log = r.log;
          now = r.now;
          box = box';
          legal = r.legal;
          wide = lh ∙ wide;
          long = lw ∙ long;
          counted = counted_set seats s.views id v w at refl refl refl r.counted;
          newest = same_newest r.log r.log s.views id v w at refl (λ z. z) (λ z. z) r.newest;
          fresh = λ m high. let far : m ≢ j = λ is. absurd (omega arith) in fresh_else seats r.log r.log r.box box' s vs' (suc j) 2 y m (ne_suc j m far) refl (put_not j m (Answered e.answer) r.box far) (r.fresh m (omega arith));
          each = λ k c at'. ⊎_elim
              (λ (p : (k ≡ id) × (w ≡ c)). subst (λ (z : ℕ × View S E A). Stands from r.log r.now box' n z.0 z.1) (λ i. (sym p.0 i, p.1 i))
              (stands_as from r.log r.now r.now r.box box' s n id v (rests es) lv lives
              (rests_role r.log r.now box' vs' (get_or ws (suc id) 0) (get_elem? hs (suc id)) id w es (put_not j id (Answered e.answer) r.box ne' ∙ h.0) h.1
              (word_else s.words (suc j) (suc id) 2 (ne_suc j id ne') ∙ h.2.0, set_else s.homes (suc j) (suc id) y (ne_suc j id ne') ∙ h.2.1) left) f))
              (λ (p : (k ≢ id) × (get_elem? s.views k ≡ some c)). dite (ℕ_discrete k j)
              (λ here. subst (λ (z : ℕ × View S E A). Stands from r.log r.now box' n z.0 z.1) (λ i. (sym here i, same_view s.views j k d c (sym here) atd p.1 i))
              (stands_on from r.log r.now r.now r.box box' s n j d lv (subst (λ k. AsRole r.log r.now box' vs' (get_or ws (suc j) 0) (get_elem? hs (suc j)) j d k) (sym roled)
              (subst (λ b. AsksSo r.log j d e.event (get_or ws (suc j) 0) (get_elem? hs (suc j)) b) (sym (put_here j (Answered e.answer) r.box)) (two, set_there s.homes (suc j) none y hd.1, hd.2)))
              (r.each j d atd)))
              (λ apart. let g = r.each k c p.1 in stands_on from r.log r.now r.now r.box box' s n k c lv
              (moved r.log r.now box' vs' (get_or s.words (suc k) 0) (get_or ws (suc k) 0) (get_elem? s.homes (suc k)) (get_elem? hs (suc k)) k c c.role
              (word_else s.words (suc j) (suc k) 2 (ne_suc j k apart)) (set_else s.homes (suc j) (suc k) y (ne_suc j k apart))
              (role_frame r.box box' s.views vs' r.log r.now (get_or s.words (suc k) 0) (get_elem? s.homes (suc k)) k c c.role (put_not j k (Answered e.answer) r.box apart) on_took (λ m b x. on_told k m b x p.0) g.role)) g))
              (at_set s.views id k w c at');
          asked = λ k is. dite (ℕ_discrete k j)
              (λ here. let z : get_or ws (suc k) 0 ≡ 2 = ap (λ m. get_or ws (suc m) 0) here ∙ two in absurd (omega arith))
              (λ apart. let old = r.asked k (sym (word_else s.words (suc j) (suc k) 2 (ne_suc j k apart)) ∙ is) in (old.0, asked_on s.views id k w old.0 (away k old.0 old.1) old.1, put_not j k (Answered e.answer) r.box apart ∙ old.2));
          one = λ i k a c ai ck la lc. ⊎_elim
              (λ (p : (i ≡ id) × (w ≡ a)). absurd (rests_no_lead es w.role refl (subst (λ (z : View S E A). IsLead z.role) (sym p.1) la)))
              (λ (p : (i ≢ id) × (get_elem? s.views i ≡ some a)). ⊎_elim
              (λ (q : (k ≡ id) × (w ≡ c)). absurd (rests_no_lead es w.role refl (subst (λ (z : View S E A). IsLead z.role) (sym q.1) lc)))
              (λ (q : (k ≢ id) × (get_elem? s.views k ≡ some c)). r.one i k a c p.1 q.1 la lc)
              (at_set s.views id k w c ck))
              (at_set s.views id i w a ai);
          free = λ z. nobody (r.free (sym (word_else s.words (suc j) 0 2 (λ y. ne_zero j (sym y))) ∙ z));
          home = λ none_leads. set_else s.homes (suc j) 0 y (λ y. ne_zero j (sym y)) ∙ r.home (λ i c ci. dite (ℕ_discrete i id)
              (λ hit. subst (λ (z : View S E A). IsLead z.role → ⊥) (same_view s.views id i v c (sym hit) at ci) no_lead)
              (λ miss. none_leads i c (set_else s.views id i w miss ∙ ci)));
        }),
        (e, es, more, role, held, λ i. (w, table.rest (held i))),
      )
