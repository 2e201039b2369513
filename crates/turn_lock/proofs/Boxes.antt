-- The steps of a seat on its own box keep the rule.
use Rattle.std.proofs.Common.{◌≡◌, ◌≢◌, ⊎_elim, ℕ, suc, ◌<◌, ◌==◌, List, [], ◌∷◌, ◌++◌, length, get_or, set, sym, refl, ap, ◌∙◌, subst, arith, Option, Some, append_assoc, length-set, length-append}
use mathlib.Core.Logic.{dite}
use mathlib.Core.Option.{Option as Maybe, none, some}
use native.Mathlib.Decide.{ℕ_discrete}
use prog.Atomic.{either}
use lib.ListN.{get_elem?}
use lib.Seq.{set-get_or}
use Rattle.atomic_table.specs.Table.{State, Me, Act, step, keeps, takes, gives, Valid, carried_after, stepped, Allows, put_back}
use Rattle.atomic_table.specs.Table as table
use Rattle.atomic_table.proofs.Lists.{at_set, set_here, set_else, set_again, exchanged}
use Rattle.shard_lock.specs.declared.shard.Entry.{Entry}
use Rattle.shard_lock.specs.History.{entry, of_pass}
use Rattle.shard_lock.proofs.Views.{some_is}
use Rattle.turn_lock.specs.declared.board.Cell.{Cell}
use Rattle.turn_lock.specs.declared.board.Cell.TheVariants.{Empty, Ask, Told}
use Rattle.turn_lock.specs.declared.board.Role.{Role}
use Rattle.turn_lock.specs.declared.board.Role.TheVariants.{Idle, Opens, Asks}
use Rattle.turn_lock.specs.declared.board.View.{View}
use Rattle.turn_lock.specs.Rule.{Box, put, IsOut, with_role, after, Owed, AsksSo, HasAsked, AsRole, Stands, IsLead, Kept, opens, asks, saw, withdrew, shuts, compared, inner}
use Rattle.turn_lock.specs.Rule.Box.{Bare, Asked, Grabbed, Entered, Answered}
use Rattle.turn_lock.specs.Turns.{Leaves}
use Rattle.turn_lock.proofs.Histories.{of_join, of_first, put_not, put_here, grabbed_out, entered_out, word_else, word_zero, word_here, ne_suc, ne_zero, set_there}
use Rattle.turn_lock.proofs.Views.{within, same_newest, counted_set}
use Rattle.turn_lock.proofs.Frames.{same_view, asked_on, role_frame, moved, IsAsker, asker_lives, IsOpen, opener_lives, stands_on, stands_as, fresh_else}

module _ {S E A : Type 0} (turn : S → List (Entry E A) → S → Type 0) (from : S) (seats : ℕ) where
  -- where the word of a step is told by the number of the seat
  pub by_number : (slots id : ℕ) (me : Me (Cell S E A) (View S E A)) (f : ℕ → ℕ) (telling : ℕ → ℕ → Me (Cell S E A) (View S E A) → Type 0)
      → ((v : View S E A) → v ≡ me.0 → (v.stands ≡ 0 → (v.role ≡ Idle) × (v.numbers ≡ [])) → 0 < v.stands) → Allows (Kept turn from seats) slots id me (suc id) f (telling (suc id))
      → Allows (Kept turn from seats) slots id me (suc me.0.number) f (telling (suc me.0.number))
  by_number slots id me f telling lv go s r len at low =
      let c = r.each id me.0 at in let is : me.0.number ≡ id = (c.lives (lv me.0 refl c.spent)).number in
      subst (λ (k : ℕ). get_or s.words (suc k) 0 < 18446744073709551616 → (w : View S E A) × (a : Act (Cell S E A)) × Valid s.homes me.1 a × Kept turn from seats (stepped s (suc k) (f (get_or s.words (suc k) 0)) id me.1 w a)
      × telling (suc k) (get_or s.words (suc k) 0) (w, carried_after me.1 a)) (sym is) (go s r len at) low

  own_step : (s : State (Cell S E A) (View S E A)) (r : Kept turn from seats s) (id : ℕ) (v w : View S E A) → get_elem? s.views id ≡ some v → (n : ℕ) (h : Maybe (Cell S E A)) (b : Box A)
      → (IsOut (r.box id) → ⊥) → (IsLead v.role → ⊥) → (IsLead w.role → ⊥) → v.stands ≡ w.stands → v.rest ≡ w.rest → v.numbers ≡ w.numbers → (v.seen ≡ r.log → w.seen ≡ r.log)
      → Stands from r.log r.now (put id b r.box) record { words = set s.words (suc id) n; homes = set s.homes (suc id) h; views = set s.views id w } id w
      → (n ≡ 1 → (e : E) × (w.role ≡ Asks e) × (b ≡ Asked))
      → Kept turn from seats record { words = set s.words (suc id) n; homes = set s.homes (suc id) h; views = set s.views id w }
  own_step s r id v w at n h b not_out no_lead no_lead' same_stands same_rest same_numbers seen mine cond =
      let lw : length (set s.words (suc id) n) ≡ length s.words = length-set s.words (suc id) n in
      let lh : length (set s.homes (suc id) h) ≡ length s.homes = length-set s.homes (suc id) h in
      let lv : length (set s.views id w) ≡ length s.views = length-set s.views id w in
      let low : id < length s.views = within s.views id v at in let wide = r.wide in let long = r.long in let made = r.counted.made in
      let box' : ℕ → Box A = put id b r.box in let s' : State (Cell S E A) (View S E A) = record { words = set s.words (suc id) n; homes = set s.homes (suc id) h; views = set s.views id w } in
      let away : (m : ℕ) → IsOut (r.box m) → m ≢ id = λ m o is. not_out (subst (λ k. IsOut (r.box k)) is o) in record {
        log = r.log;
        now = r.now;
        box = box';
        legal = r.legal;
        wide = lh ∙ wide;
        long = lw ∙ long;
        counted = counted_set seats s.views id v w at same_stands same_rest same_numbers r.counted;
        newest = same_newest r.log r.log s.views id v w at refl seen (λ l. let same = same_stands in omega arith) r.newest;
        fresh = λ m high. let far : m ≢ id = λ is. absurd (omega arith) in fresh_else seats r.log r.log r.box box' s (set s.views id w) (suc id) n h m (ne_suc id m far) refl (put_not id m b r.box far) (r.fresh m (omega arith));
        each = λ j d at'. ⊎_elim
            (λ (p : (j ≡ id) × (w ≡ d)). subst (λ (z : ℕ × View S E A). Stands from r.log r.now box' s' z.0 z.1) (λ i. (sym p.0 i, p.1 i)) mine)
            (λ (p : (j ≢ id) × (get_elem? s.views j ≡ some d)). let g = r.each j d p.1 in stands_on from r.log r.now r.now r.box box' s s' j d lv
            (moved r.log r.now box' (set s.views id w) (get_or s.words (suc j) 0) (get_or (set s.words (suc id) n) (suc j) 0) (get_elem? s.homes (suc j)) (get_elem? (set s.homes (suc id) h) (suc j)) j d d.role
            (word_else s.words (suc id) (suc j) n (ne_suc id j p.0)) (set_else s.homes (suc id) (suc j) h (ne_suc id j p.0))
            (role_frame r.box box' s.views (set s.views id w) r.log r.now (get_or s.words (suc j) 0) (get_elem? s.homes (suc j)) j d d.role (put_not id j b r.box p.0)
            (λ m e o a. let ne = away m (grabbed_out (r.box m) o) in (put_not id m b r.box ne ∙ o, asked_on s.views id m w e ne a))
            (λ m x e o a. let ne = away m (entered_out (r.box m) j x o) in (put_not id m b r.box ne ∙ o, asked_on s.views id m w e ne a))
            g.role)) g)
            (at_set s.views id j w d at');
        asked = λ k is. dite (ℕ_discrete k id)
            (λ hit. let one : n ≡ 1 = sym (word_here s.words (suc id) n (omega arith)) ∙ (ap (λ m. get_or (set s.words (suc id) n) (suc m) 0) (sym hit) ∙ is) in let c = cond one in
            subst (λ m. (e : E) × HasAsked (set s.views id w) m e × (box' m ≡ Asked)) (sym hit) (c.0, (w, set_here s.views id w low, c.1), put_here id b r.box ∙ c.2))
            (λ miss. let old = r.asked k (sym (word_else s.words (suc id) (suc k) n (ne_suc id k miss)) ∙ is) in (old.0, asked_on s.views id k w old.0 miss old.1, put_not id k b r.box miss ∙ old.2));
        one = λ i j a c ai cj la lc. ⊎_elim
            (λ (p : (i ≡ id) × (w ≡ a)). absurd (no_lead' (subst (λ (z : View S E A). IsLead z.role) (sym p.1) la)))
            (λ (p : (i ≢ id) × (get_elem? s.views i ≡ some a)). ⊎_elim
            (λ (q : (j ≡ id) × (w ≡ c)). absurd (no_lead' (subst (λ (z : View S E A). IsLead z.role) (sym q.1) lc)))
            (λ (q : (j ≢ id) × (get_elem? s.views j ≡ some c)). r.one i j a c p.1 q.1 la lc)
            (at_set s.views id j w c cj))
            (at_set s.views id i w a ai);
        free = λ z i a ai la. ⊎_elim
            (λ (p : (i ≡ id) × (w ≡ a)). no_lead' (subst (λ (z : View S E A). IsLead z.role) (sym p.1) la))
            (λ (p : (i ≢ id) × (get_elem? s.views i ≡ some a)). r.free (sym (word_else s.words (suc id) 0 n (λ y. ne_zero id (sym y))) ∙ z) i a p.1 la)
            (at_set s.views id i w a ai);
        home = λ nobody. set_else s.homes (suc id) 0 h (λ y. ne_zero id (sym y)) ∙ r.home (λ i d ei. dite (ℕ_discrete i id)
            (λ hit. subst (λ (z : View S E A). IsLead z.role → ⊥) (same_view s.views id i v d (sym hit) at ei) no_lead)
            (λ miss. nobody i d (set_else s.views id i w miss ∙ ei)));
      }

  -- the same where the seat is at something else, and nothing changes of it besides
  own_role : (s : State (Cell S E A) (View S E A)) (r : Kept turn from seats s) (id : ℕ) (v : View S E A) (k : Role S E A) → get_elem? s.views id ≡ some v → (n : ℕ) (h : Maybe (Cell S E A)) (b : Box A)
      → 0 < v.stands → (IsOut (r.box id) → ⊥) → (IsLead v.role → ⊥) → (IsLead k → ⊥)
      → AsRole r.log r.now (put id b r.box) (set s.views id (with_role k v)) (get_or (set s.words (suc id) n) (suc id) 0) (get_elem? (set s.homes (suc id) h) (suc id)) id (with_role k v) k
      → (n ≡ 1 → (e : E) × (k ≡ Asks e) × (b ≡ Asked))
      → Kept turn from seats record { words = set s.words (suc id) n; homes = set s.homes (suc id) h; views = set s.views id (with_role k v) }
  own_role s r id v k at n h b lives not_out no_lead no_lead' role cond = own_step s r id v (with_role k v) at n h b not_out no_lead no_lead' refl refl refl (λ z. z)
      (stands_as from r.log r.now r.now r.box (put id b r.box) s record { words = set s.words (suc id) n; homes = set s.homes (suc id) h; views = set s.views id (with_role k v) } id v k (length-set s.views id (with_role k v)) lives role (r.each id v at)) cond

  pub again : (s : State (Cell S E A) (View S E A)) (i id : ℕ) (v : View S E A) → get_elem? s.views id ≡ some v → Kept turn from seats s
      → Kept turn from seats record { words = set s.words i (get_or s.words i 0); homes = s.homes; views = set s.views id v }
  again s i id v at r = subst (λ (z : List ℕ × List (View S E A)). Kept turn from seats record { words = z.0; homes = s.homes; views = z.1 })
      (λ k. (sym (set-get_or s.words i 0) k, sym (set_again s.views id v at) k)) r

  opens_own : (slots id : ℕ) (me : Me (Cell S E A) (View S E A)) → me.0.role ≡ Idle → 0 < me.0.stands → Allows (Kept turn from seats) slots id me (suc id) (λ n. n) (opens (step slots (suc id) 0 0 none) me)
  opens_own slots id me idle lives s r _ at _ =
      let v : View S E A = me.0 in let x : ℕ = get_or s.words (suc id) 0 in let f = r.each id v at in
      let h = subst (λ k. AsRole r.log r.now r.box s.views x (get_elem? s.homes (suc id)) id v k) idle f.role in (
        with_role Opens v,
        takes (suc id) Empty,
        h.2.1,
        own_role s r id v Opens at x none Bare lives (λ o. subst IsOut h.0 o) (λ l. subst IsLead idle l) (λ l. l)
            (put_here id Bare r.box, h.1, set_there s.homes (suc id) (some Empty) none h.2.1) (λ one. let zero' = h.2.0 in absurd (omega arith)),
        refl,
      )

  asks_own : (slots id : ℕ) (me : Me (Cell S E A) (View S E A)) (e : E) (more : List (ℕ × Cell S E A)) (said : Option E) → me.0.role ≡ Opens → (word : ℕ) → word ≡ suc id → me.1 ≡ (word, Ask e) ∷ more → said ≡ Some e
      → Allows (Kept turn from seats) slots id me (suc id) (λ _. 1) (λ _. asks said (step slots word 1 0 none) me 1)
  asks_own slots id me e more said role word word_is held is s r _ at _ =
      let v : View S E A = me.0 in let f = r.each id v at in let low : id < length s.views = within s.views id v at in let long = r.long in let made = r.counted.made in
      let h = subst (λ k. AsRole r.log r.now r.box s.views (get_or s.words (suc id) 0) (get_elem? s.homes (suc id)) id v k) role f.role in
      let lives : 0 < v.stands = opener_lives v f.spent (subst IsOpen (sym role) tt) in
      let held' : me.1 ≡ (suc id, Ask e) ∷ more = held ∙ ap (λ (k : ℕ). (k, Ask e) ∷ more) word_is in (
        with_role (Asks e) v,
        gives,
        tt,
        subst (λ (hs : List (Maybe (Cell S E A))). Kept turn from seats record { words = set s.words (suc id) 1; homes = hs; views = set s.views id (with_role (Asks e) v) }) (sym (ap (put_back s.homes) held'))
            (own_role s r id v (Asks e) at 1 (some (Ask e)) Asked lives (λ o. subst IsOut h.0 o) (λ l. subst IsLead role l) (λ l. l)
            (subst (λ b. AsksSo r.log id (with_role (Asks e) v) e (get_or (set s.words (suc id) 1) (suc id) 0) (get_elem? (set s.homes (suc id) (some (Ask e))) (suc id)) b) (sym (put_here id Asked r.box))
            (word_here s.words (suc id) 1 (omega arith), set_there s.homes (suc id) none (some (Ask e)) h.2, h.1))
            (λ _. (e, refl, refl))),
        (e, more, is, held, λ i. (with_role (Asks e) v, table.rest (held i))),
      )

  shuts_own : (slots id : ℕ) (me : Me (Cell S E A) (View S E A)) (more : List (ℕ × Cell S E A)) → me.0.role ≡ Opens → (word : ℕ) → word ≡ suc id → me.1 ≡ (word, Empty) ∷ more
      → Allows (Kept turn from seats) slots id me (suc id) (λ _. 0) (λ _. shuts (step slots word 0 0 none) me 0)
  shuts_own slots id me more role word word_is held s r _ at _ =
      let v : View S E A = me.0 in let f = r.each id v at in
      let h = subst (λ k. AsRole r.log r.now r.box s.views (get_or s.words (suc id) 0) (get_elem? s.homes (suc id)) id v k) role f.role in
      let lives : 0 < v.stands = opener_lives v f.spent (subst IsOpen (sym role) tt) in
      let held' : me.1 ≡ (suc id, Empty) ∷ more = held ∙ ap (λ (k : ℕ). (k, Empty) ∷ more) word_is in (
        with_role Idle v,
        gives,
        tt,
        subst (λ (hs : List (Maybe (Cell S E A))). Kept turn from seats record { words = set s.words (suc id) 0; homes = hs; views = set s.views id (with_role Idle v) }) (sym (ap (put_back s.homes) held'))
            (own_role s r id v Idle at 0 (some Empty) Bare lives (λ o. subst IsOut h.0 o) (λ l. subst IsLead role l) (λ l. l)
            (put_here id Bare r.box, h.1, (word_zero s.words (suc id), set_there s.homes (suc id) none (some Empty) h.2))
            (λ one. absurd (omega arith))),
        (more, held, λ i. (with_role Idle v, table.rest (held i))),
      )

  withdraws_own : (slots id : ℕ) (me : Me (Cell S E A) (View S E A)) (e : E) → me.0.role ≡ Asks e
      → Allows (Kept turn from seats) slots id me (suc id) (λ n. either (n == 1) 0 n) (withdrew (step slots (suc id) 1 0 none) me)
  withdraws_own slots id me e role s r _ at _ =
      let v : View S E A = me.0 in let x : ℕ = get_or s.words (suc id) 0 in let f = r.each id v at in
      let lives : 0 < v.stands = asker_lives v f.spent (subst IsAsker (sym role) tt) in
      let h : AsksSo r.log id v e x (get_elem? s.homes (suc id)) (r.box id) = subst (λ k. AsRole r.log r.now r.box s.views x (get_elem? s.homes (suc id)) id v k) role f.role in
      exchanged x 1 0 (λ y. (w : View S E A) × (a : Act (Cell S E A)) × Valid s.homes me.1 a × Kept turn from seats (stepped s (suc id) y id me.1 w a) × withdrew (step slots (suc id) 1 0 none) me x (w, carried_after me.1 a))
      (λ hit.
      let k = r.asked id hit in let g : AsksSo r.log id v e x (get_elem? s.homes (suc id)) Asked = subst (λ b. AsksSo r.log id v e x (get_elem? s.homes (suc id)) b) k.2 h in (
        with_role Opens v,
        takes (suc id) (Ask e),
        g.1,
        own_role s r id v Opens at 0 none Bare lives (λ o. subst IsOut k.2 o) (λ l. subst IsLead role l) (λ l. l)
            (put_here id Bare r.box, g.2, set_there s.homes (suc id) (some (Ask e)) none g.1) (λ one. absurd (omega arith)),
        ((λ _. (e, role, refl)), λ no. absurd (no hit)),
      ))
      (λ miss. (v, keeps, tt, again s (suc id) id v at r, ((λ hit. absurd (miss hit)), λ _. refl)))

  answered_of : (log : List (Entry E A)) (i : ℕ) (v : View S E A) (e : E) (word : ℕ) (home : Maybe (Maybe (Cell S E A))) (b : Box A) → AsksSo log i v e word home b → word ≡ 2
      → (a : A) × (b ≡ Answered a) × (home ≡ some (some (Told a))) × Owed log i v (entry i e a)
  answered_of log i v e word home Bare h two = absurd h
  answered_of log i v e word home Asked h two = let one = h.0 in absurd (omega arith)
  answered_of log i v e word home Grabbed h two = let one = h.0 in absurd (omega arith)
  answered_of log i v e word home (Entered by a) h two = let one = h.0 in absurd (omega arith)
  answered_of log i v e word home (Answered a) h two = (a, refl, h.1, h.2)

  sees_own : (slots id : ℕ) (me : Me (Cell S E A) (View S E A)) (e : E) → me.0.role ≡ Asks e → Allows (Kept turn from seats) slots id me (suc id) (λ n. n) (saw turn (step slots (suc id) 0 0 none) me)
  sees_own slots id me e role s r _ at _ =
      let v : View S E A = me.0 in let x : ℕ = get_or s.words (suc id) 0 in let f = r.each id v at in
      let lives : 0 < v.stands = asker_lives v f.spent (subst IsAsker (sym role) tt) in let l = f.lives lives in
      let h : AsksSo r.log id v e x (get_elem? s.homes (suc id)) (r.box id) = subst (λ k. AsRole r.log r.now r.box s.views x (get_elem? s.homes (suc id)) id v k) role f.role in
      dite (ℕ_discrete x 2)
      (λ hit.
      let g = answered_of r.log id v e x (get_elem? s.homes (suc id)) (r.box id) h hit in let a : A = g.0 in let o = g.3 in
      let n : Entry E A = entry id e a in let seen' : List (Entry E A) = o.front ++ n ∷ [] in
      let w : View S E A = after Opens v o.front n in
      let own : of_pass id seen' ≡ v.mine ++ n ∷ [] = of_join id o.front (n ∷ []) ∙ (λ i. o.mine i ++ of_first id n [] refl i) in
      let whole : of_pass id r.log ≡ v.mine ++ n ∷ [] = ap (of_pass id) o.is ∙ (of_join id o.front (n ∷ o.behind) ∙ (λ i. o.mine i ++ (of_first id n o.behind refl ∙ ap (λ l. n ∷ l) o.none_left) i)) in
      let split : r.log ≡ seen' ++ o.behind = o.is ∙ sym (append_assoc o.front (n ∷ []) o.behind) in
      let shorter : v.seen ≡ r.log → w.seen ≡ r.log = λ is. let a : length v.seen ≡ length r.log = ap length is in let b : length r.log ≡ length (o.front ++ (n ∷ o.behind)) = ap length o.is in
      let c = length-append o.front (n ∷ o.behind) in let d : length o.front ≡ length (v.seen ++ o.seen.0) = ap length o.seen.1 in let e = length-append v.seen o.seen.0 in absurd (omega arith) in (
        w,
        takes (suc id) (Told a),
        g.2,
        own_step s r id v w at x none Bare (λ l. subst IsOut g.1 l) (λ l. subst IsLead role l) (λ l. l) refl refl refl shorter
            (record {
              seen = (o.behind, split);
              role = (put_here id Bare r.box, (λ _. sym whole), set_there s.homes (suc id) (some (Told a)) none g.2);
              spent = λ z. absurd (omega arith);
              lives = λ _. record { number = l.number; first = l.first; ended = l.ended; stands = l.stands; listed = l.listed; olds = tt };
              maker = λ h. let m = f.maker h in (m.0, m.1 ∙ sym (length-set s.views id w));
            })
            (λ one. absurd (omega arith)),
        (
          (λ no. absurd (no hit)),
          λ _. (
            id,
            e,
            a,
            refl,
            role,
            refl,
            record {
              log = o.front;
              seen = o.seen;
              is = refl;
              legal = λ from' is. record { rest = o.behind; left = inner r.now; leaves = subst (λ (z : S × List (Entry E A)). Leaves turn z.0 z.1 (inner r.now)) (λ i. (some_is from from' (sym l.first ∙ is) i, split i)) r.legal };
              mine = subst (λ (k : ℕ). of_pass k seen' ≡ v.mine ++ n ∷ []) (sym l.number) own;
            },
          ),
        ),
      ))
      (λ miss. (v, keeps, tt, again s (suc id) id v at r, ((λ _. refl), λ hit. absurd (miss hit))))

  -- ---- the same where the word is told by the number
  pub opens_box : (slots id : ℕ) (me : Me (Cell S E A) (View S E A)) → me.0.role ≡ Idle → 0 < me.0.stands → Allows (Kept turn from seats) slots id me (suc me.0.number) (λ n. n) (opens (step slots (suc me.0.number) 0 0 none) me)
  opens_box slots id me idle lives = by_number slots id me (λ n. n) (λ k. opens (step slots k 0 0 none) me) (λ v is _. subst (λ (z : View S E A). 0 < z.stands) (sym is) lives) (opens_own slots id me idle lives)

  pub withdraws : (slots id : ℕ) (me : Me (Cell S E A) (View S E A)) (e : E) → me.0.role ≡ Asks e
      → Allows (Kept turn from seats) slots id me (suc me.0.number) (λ n. either (n == 1) 0 n) (withdrew (step slots (suc me.0.number) 1 0 none) me)
  withdraws slots id me e role = by_number slots id me (λ n. either (n == 1) 0 n) (λ k. withdrew (step slots k 1 0 none) me)
      (λ v is spent. asker_lives v spent (subst (λ (z : View S E A). IsAsker z.role) (sym is) (subst IsAsker (sym role) tt))) (withdraws_own slots id me e role)

  pub sees : (slots id : ℕ) (me : Me (Cell S E A) (View S E A)) (e : E) → me.0.role ≡ Asks e → Allows (Kept turn from seats) slots id me (suc me.0.number) (λ n. n) (saw turn (step slots (suc me.0.number) 0 0 none) me)
  sees slots id me e role = by_number slots id me (λ n. n) (λ k. saw turn (step slots k 0 0 none) me)
      (λ v is spent. asker_lives v spent (subst (λ (z : View S E A). IsAsker z.role) (sym is) (subst IsAsker (sym role) tt))) (sees_own slots id me e role)

  -- here the word stands in what the seat holds too, so that it can't be told by the state
  by_state : (slots id word : ℕ) (me : Me (Cell S E A) (View S E A)) (f : ℕ → ℕ) (telling : ℕ → Me (Cell S E A) (View S E A) → Type 0) → word ≡ suc me.0.number
      → ((v : View S E A) → v ≡ me.0 → (v.stands ≡ 0 → (v.role ≡ Idle) × (v.numbers ≡ [])) → 0 < v.stands) → (word ≡ suc id → Allows (Kept turn from seats) slots id me (suc id) f telling)
      → Allows (Kept turn from seats) slots id me word f telling
  by_state slots id word me f telling is lv go s r len at low =
      let c = r.each id me.0 at in let here : word ≡ suc id = is ∙ ap suc (c.lives (lv me.0 refl c.spent)).number in
      subst (λ (k : ℕ). get_or s.words k 0 < 18446744073709551616 → (w : View S E A) × (a : Act (Cell S E A)) × Valid s.homes me.1 a × Kept turn from seats (stepped s k (f (get_or s.words k 0)) id me.1 w a)
      × telling (get_or s.words k 0) (w, carried_after me.1 a)) (sym here) (go here s r len at) low

  pub asks_box : (slots id word : ℕ) (me : Me (Cell S E A) (View S E A)) (e : E) (more : List (ℕ × Cell S E A)) (said : Option E) → me.0.role ≡ Opens → word ≡ suc me.0.number → me.1 ≡ (word, Ask e) ∷ more → said ≡ Some e
      → Allows (Kept turn from seats) slots id me word (λ _. 1) (λ _. asks said (step slots word 1 0 none) me 1)
  asks_box slots id word me e more said role is held tells = by_state slots id word me (λ _. 1) (λ _. asks said (step slots word 1 0 none) me 1) is
      (λ v same spent. opener_lives v spent (subst (λ (z : View S E A). IsOpen z.role) (sym same) (subst IsOpen (sym role) tt))) (λ here. asks_own slots id me e more said role word here held tells)

  pub shuts_box : (slots id word : ℕ) (me : Me (Cell S E A) (View S E A)) (more : List (ℕ × Cell S E A)) → me.0.role ≡ Opens → word ≡ suc me.0.number → me.1 ≡ (word, Empty) ∷ more
      → Allows (Kept turn from seats) slots id me word (λ _. 0) (λ _. shuts (step slots word 0 0 none) me 0)
  shuts_box slots id word me more role is held = by_state slots id word me (λ _. 0) (λ _. shuts (step slots word 0 0 none) me 0) is
      (λ v same spent. opener_lives v spent (subst (λ (z : View S E A). IsOpen z.role) (sym same) (subst IsOpen (sym role) tt))) (λ here. shuts_own slots id me more role word here held)

  -- a look of a seat that is at nothing
  pub compares : (slots id : ℕ) (me : Me (Cell S E A) (View S E A)) → 0 < me.0.stands → Allows (Kept turn from seats) slots id me 0 (λ n. n) (compared (step slots 0 0 0 none) me)
  compares slots id me lives s r _ at _ = (me.0, keeps, tt, again s 0 id me.0 at r, (refl, ((r.each id me.0 at).lives lives).olds))
