-- Splitting a seat, joining two, and the end.
use Rattle.std.proofs.Common.{◌≡◌, ◌≢◌, ℕ, zero, suc, ◌+◌, ◌-◌, ◌<◌, ◌≤◌, List, [], ◌∷◌, ◌++◌, length, get_or, set, sym, refl, ap, ◌∙◌, subst, inl, inr, arith, length-set, length-append}
use mathlib.Core.Logic.{dite}
use mathlib.Core.Option.{some}
use native.Mathlib.Decide.{ℕ_discrete}
use lib.ListN.{get_elem?}
use Rattle.atomic_table.specs.Table.{State, Splits, Joins}
use Rattle.atomic_table.proofs.Lists.{set_here, set_else, at_longer}
use Rattle.shard_lock.specs.declared.shard.Entry.{Entry}
use Rattle.shard_lock.specs.History.{of_pass, IsStart}
use Rattle.shard_lock.specs.Passes.{times, numbers, Account}
use Rattle.shard_lock.proofs.Views.{longer_by, longer_whole, longer_both, all_join, times_join, once_more, all_below, all_turn, listed_join}
use Rattle.turn_lock.specs.declared.board.Desk.{Desk}
use Rattle.turn_lock.specs.declared.board.Cell.{Cell}
use Rattle.turn_lock.specs.declared.board.Cell.TheVariants.{Home, Empty}
use Rattle.turn_lock.specs.declared.board.Role.{Role}
use Rattle.turn_lock.specs.declared.board.Role.TheVariants.{Idle}
use Rattle.turn_lock.specs.declared.board.View.{View}
use Rattle.turn_lock.specs.Rule.{inner, once_below, total, maker_after, new_seat, merged, spent, HasAsked, AsRole, Lives, Stands, IsLead, Counted, Kept}
use Rattle.turn_lock.specs.Turns.{Leaves}
use Rattle.turn_lock.proofs.Views.{total-set, total-snoc, total-one, total-two, total-alone, within, each_set, each_snoc, same_newest}
use Rattle.turn_lock.proofs.Frames.{same_view, IsAsker, asks_else, asked_on, role_frame}

module _ {S E A : Type 0} where
  split_counted : (seats id : ℕ) (vs : List (View S E A)) (v : View S E A) → get_elem? vs id ≡ some v → 0 < v.rest → v.next ≡ length vs → Counted seats vs → Counted seats (set vs id (maker_after v) ++ new_seat v ∷ [])
  split_counted seats id l v at more next_is c =
      let w : View S E A = maker_after v in let u : View S E A = new_seat v in let vs : List (View S E A) = set l id w in let ws : List (View S E A) = vs ++ u ∷ [] in
      let same_length : length vs ≡ length l = length-set l id w in let wide : length ws ≡ length vs + 1 = length-append vs (u ∷ []) in
      let fr : View S E A → ℕ = λ z. z.rest in let fs : View S E A → ℕ = λ z. z.stands + z.rest in
      let r1 : total fr vs + v.rest ≡ total fr l + (v.rest - 1) = total-set fr l id v w at in let r2 : total fr ws ≡ total fr vs + 0 = total-snoc fr vs u in
      let s1 : total fs vs + (v.stands + v.rest) ≡ total fs l + (v.stands + (v.rest - 1)) = total-set fs l id v w at in let s2 : total fs ws ≡ total fs vs + 1 = total-snoc fs vs u in
      let fp : View S E A → ℕ = λ z. z.stands in
      let p1 : total fp vs + v.stands ≡ total fp l + v.stands = total-set fp l id v w at in let p2 : total fp ws ≡ total fp vs + 1 = total-snoc fp vs u in record {
        made = let a = c.made in omega arith;
        whole = let a = c.whole in omega arith;
        stand = let a = c.stand in omega arith;
        once = λ n. let f : View S E A → ℕ = λ z. times n z.numbers in let a : total f l ≡ once_below n (length l) = c.once n in
            let n1 : total f vs + f v ≡ total f l + f v = total-set f l id v w at in let n2 : total f ws ≡ total f vs + times n (v.next ∷ []) = total-snoc f vs u in
            let is : times n (v.next ∷ []) ≡ times n (length l ∷ []) = ap (λ (k : ℕ). times n (k ∷ [])) next_is in let b : once_below n (length l) + times n (length l ∷ []) ≡ once_below n (length l + 1) = once_more n (length l) in
            let d : total f ws ≡ once_below n (length l + 1) = omega arith in let len : length ws ≡ length l + 1 = omega arith in d ∙ ap (once_below n) (sym len);
      }

  join_counted : (seats id other : ℕ) (vs : List (View S E A)) (v w : View S E A) → get_elem? vs id ≡ some v → get_elem? (set vs id (merged v w)) other ≡ some w → w.rest ≡ 0 → Counted seats vs → Counted seats (set (set vs id (merged v w)) other spent)
  join_counted seats id other l v w at at' no_rest c =
      let b : View S E A = merged v w in let vs : List (View S E A) = set l id b in let ws : List (View S E A) = set vs other spent in
      let l1 : length vs ≡ length l = length-set l id b in let l2 : length ws ≡ length vs = length-set vs other spent in
      let fr : View S E A → ℕ = λ z. z.rest in let fs : View S E A → ℕ = λ z. z.stands + z.rest in
      let r1 : total fr vs + v.rest ≡ total fr l + v.rest = total-set fr l id v b at in let r2 : total fr ws + w.rest ≡ total fr vs + 0 = total-set fr vs other w spent at' in
      let s1 : total fs vs + (v.stands + v.rest) ≡ total fs l + (v.stands + w.stands + v.rest) = total-set fs l id v b at in let s2 : total fs ws + (w.stands + w.rest) ≡ total fs vs + 0 = total-set fs vs other w spent at' in
      let fp : View S E A → ℕ = λ z. z.stands in
      let p1 : total fp vs + v.stands ≡ total fp l + (v.stands + w.stands) = total-set fp l id v b at in let p2 : total fp ws + w.stands ≡ total fp vs + 0 = total-set fp vs other w spent at' in record {
        made = let a = c.made in omega arith;
        whole = let a = c.whole in omega arith;
        stand = let a = c.stand in omega arith;
        once = λ n. let f : View S E A → ℕ = λ z. times n z.numbers in let a : total f l ≡ once_below n (length l) = c.once n in
            let n1 : total f vs + times n v.numbers ≡ total f l + times n (v.numbers ++ w.numbers) = total-set f l id v b at in let n2 : total f ws + times n w.numbers ≡ total f vs + 0 = total-set f vs other w spent at' in
            let t : times n (v.numbers ++ w.numbers) ≡ times n v.numbers + times n w.numbers = times_join n v.numbers w.numbers in
            let d : total f ws ≡ total f l = omega arith in d ∙ (a ∙ ap (once_below n) (sym (l2 ∙ l1)));
      }

  not_asker : (k : Role S E A) → k ≡ Idle → IsAsker k → ⊥
  not_asker k idle a = subst IsAsker idle a

  not_lead : (k : Role S E A) → k ≡ Idle → IsLead k → ⊥
  not_lead k idle a = subst IsLead idle a

  -- who has asked still has, once more views stand behind
  asked_longer : (vs more : List (View S E A)) (n : ℕ) (e : E) → HasAsked vs n e → HasAsked (vs ++ more) n e
  asked_longer vs more n e (d, at, role) = (d, at_longer vs more n d at, role)

  -- a view that changes, and had not led, keeps it that none leads
  none_lead : (vs : List (View S E A)) (me : ℕ) (v w : View S E A) → get_elem? vs me ≡ some v → (IsLead v.role → ⊥) → ((i : ℕ) (d : View S E A) → get_elem? (set vs me w) i ≡ some d → ¬ IsLead d.role)
      → (i : ℕ) (d : View S E A) → get_elem? vs i ≡ some d → ¬ IsLead d.role
  none_lead vs me v w at not nobody i d e = dite (ℕ_discrete i me)
      (λ hit. subst (λ (z : View S E A). ¬ IsLead z.role) (same_view vs me i v d (sym hit) at e) not)
      (λ other. nobody i d (set_else vs me i w other ∙ e))

  module _ (turn : S → List (Entry E A) → S → Type 0) where
    pub splits : (from : S) (seats id : ℕ) (v : View S E A) → v.role ≡ Idle → 0 < v.stands → 0 < v.rest → Splits (Kept turn from seats) id v (maker_after v) (new_seat v)
    splits from seats id v idle live more s r at =
        let w : View S E A = maker_after v in let u : View S E A = new_seat v in let vs : List (View S E A) = set s.views id w in let ws : List (View S E A) = vs ++ u ∷ [] in
        let mine = r.each id v at in let lives = mine.lives live in let made = mine.maker more in let id_is : id ≡ 0 = made.0 in let next_is : v.next ≡ length s.views = made.1 in
        let same_length : length vs ≡ length s.views = length-set s.views id w in let wide : length ws ≡ length vs + 1 = length-append vs (u ∷ []) in
        let no_asker : IsAsker v.role → ⊥ = not_asker v.role idle in let no_lead : IsLead v.role → ⊥ = not_lead v.role idle in
        let away : (m : ℕ) (e : E) → HasAsked s.views m e → m ≢ id = λ m e a. asks_else s.views id m v e at no_asker a in
        let still : (m : ℕ) (e : E) → HasAsked s.views m e → HasAsked ws m e = λ m e a. asked_longer vs (u ∷ []) m e (asked_on s.views id m w e (away m e a) a) in
        let c = split_counted seats id s.views v at more next_is r.counted in
        let fresh = r.fresh (length s.views) (omega arith) in let low : length s.views < seats = let a = r.counted.made in let b = total-one (λ (z : View S E A). z.rest) s.views id v at in omega arith in
        let s' : State (Cell S E A) (View S E A) = record { words = s.words; homes = s.homes; views = ws } in
        let known = same_newest r.log r.log s.views id v w at refl (λ h. h) (λ h. h) r.newest in
        let at_vs : View S E A → ℕ → Type 0 = λ d j. AsRole r.log r.now r.box ws (get_or s.words (suc j) 0) (get_elem? s.homes (suc j)) j d d.role in
        let frame : (j : ℕ) (d : View S E A) → AsRole r.log r.now r.box s.views (get_or s.words (suc j) 0) (get_elem? s.homes (suc j)) j d d.role → AsRole r.log r.now r.box ws (get_or s.words (suc j) 0) (get_elem? s.homes (suc j)) j d d.role
        = λ j d h. role_frame r.box r.box s.views ws r.log r.now (get_or s.words (suc j) 0) (get_elem? s.homes (suc j)) j d d.role refl (λ m e o a. (o, still m e a)) (λ m b e o a. (o, still m e a)) h in
        let mine_role = subst (λ k. AsRole r.log r.now r.box s.views (get_or s.words (suc id) 0) (get_elem? s.homes (suc id)) id v k) idle mine.role in
        record {
          log = r.log;
          now = r.now;
          box = r.box;
          legal = r.legal;
          wide = r.wide;
          long = r.long;
          counted = c;
          newest = (known.0, known.1, at_longer vs (u ∷ []) known.0 known.1 known.2, known.3, known.4);
          fresh = λ n h. r.fresh n (omega arith);
          each = each_snoc (Stands from r.log r.now r.box s') vs u
              (subst (λ (k : ℕ). Stands from r.log r.now r.box s' k u) (sym same_length) (record {
                seen = mine.seen;
                role = (fresh.1, (λ _. sym fresh.0), fresh.2 low);
                spent = λ h. absurd (omega arith);
                lives = λ _. record { number = next_is; first = lives.first; ended = tt; stands = refl; listed = refl; olds = tt };
                maker = λ h. absurd (omega arith);
              }))
              (each_set (Stands from r.log r.now r.box s') s.views id w
              (record {
                seen = mine.seen;
                role = subst (λ k. AsRole r.log r.now r.box ws (get_or s.words (suc id) 0) (get_elem? s.homes (suc id)) id w k) (sym idle) (mine_role.0, mine_role.1, mine_role.2);
                spent = mine.spent;
                lives = λ _. record { number = lives.number; first = lives.first; ended = lives.ended; stands = lives.stands; listed = lives.listed; olds = lives.olds };
                maker = λ _. (id_is, omega arith);
              })
              (λ j d other e. let f = r.each j d e in record { seen = f.seen; role = frame j d f.role; spent = f.spent; lives = f.lives; maker = λ h. absurd (other ((f.maker h).0 ∙ sym id_is)) }));
          asked = λ i is. let a = r.asked i is in (a.0, still i a.0 a.1, a.2);
          one = λ i j a b ai bj la lb. each_snoc (λ n z. IsLead z.role → n ≡ j) vs u (λ h. absurd h) (each_set (λ n z. IsLead z.role → n ≡ j) s.views id w (λ h. absurd (no_lead h))
              (λ n z _ atn hz. each_snoc (λ m y. IsLead y.role → n ≡ m) vs u (λ h. absurd h) (each_set (λ m y. IsLead y.role → n ≡ m) s.views id w (λ h. absurd (no_lead h)) (λ m y _ atm hy. r.one n m z y atn atm hz hy)) j b bj lb)) i a ai la;
          free = λ z. each_snoc (λ _ y. ¬ IsLead y.role) vs u (λ h. h) (each_set (λ _ y. ¬ IsLead y.role) s.views id w no_lead (λ j d _ e. r.free z j d e));
          home = λ nobody. r.home (none_lead s.views id v w at no_lead (λ i d e. nobody i d (at_longer vs (u ∷ []) i d e)));
        }

    join_lives : (from : S) (log : List (Entry E A)) (i j : ℕ) (v w : View S E A) → IsStart v.seen log → IsStart w.seen log → v.mine ≡ of_pass i log → w.mine ≡ of_pass j log → Lives from log i v → Lives from log j w → Lives from log i (merged v w)
    join_lives from log i j v w seen seen' mine mine' p q = record {
      number = p.number;
      first = p.first;
      ended = all_join (λ x. of_pass x.0 log ≡ x.1) v.ended ((w.number, w.mine) ∷ w.ended) p.ended (ap (λ n. of_pass n log) q.number ∙ sym mine', q.ended);
      stands = let a = p.stands in let b = q.stands in let c = length-append v.ended ((w.number, w.mine) ∷ w.ended) in omega arith;
      listed = (λ k. p.listed k ++ q.listed k) ∙ listed_join v.number w.number w.mine v.ended w.ended;
      olds = longer_both v.seen w.seen log seen seen';
    }

    pub joins : (from : S) (seats id : ℕ) (v : View S E A) (other : ℕ) (w : View S E A) → v.role ≡ Idle → w.role ≡ Idle → 0 < v.stands → 0 < w.stands → w.rest ≡ 0 → Joins (Kept turn from seats) id v other w (merged v w) spent
    joins from seats id v other w idle idle' live live' no_rest s r at ne at' =
        let b : View S E A = merged v w in let vs : List (View S E A) = set s.views id b in let ws : List (View S E A) = set vs other spent in
        let at2 : get_elem? s.views other ≡ some w = sym (set_else s.views id other b ne) ∙ at' in
        let mine = r.each id v at in let lives = mine.lives live in let theirs = r.each other w at2 in let lives' = theirs.lives live' in
        let l1 : length vs ≡ length s.views = length-set s.views id b in let l2 : length ws ≡ length vs = length-set vs other spent in let same : length ws ≡ length s.views = l2 ∙ l1 in
        let no_lead : IsLead v.role → ⊥ = not_lead v.role idle in let no_lead' : IsLead w.role → ⊥ = not_lead w.role idle' in
        let mine_role = subst (λ k. AsRole r.log r.now r.box s.views (get_or s.words (suc id) 0) (get_elem? s.homes (suc id)) id v k) idle mine.role in
        let their_role = subst (λ k. AsRole r.log r.now r.box s.views (get_or s.words (suc other) 0) (get_elem? s.homes (suc other)) other w k) idle' theirs.role in
        let still : (m : ℕ) (e : E) → HasAsked s.views m e → HasAsked ws m e = λ m e a. asked_on vs other m spent e (asks_else s.views other m w e at2 (not_asker w.role idle') a) (asked_on s.views id m b e (asks_else s.views id m v e at (not_asker v.role idle) a) a) in
        let here : get_elem? ws id ≡ some b = set_else vs other id spent (λ h. ne (sym h)) ∙ set_here s.views id b (within s.views id v at) in
        let s' : State (Cell S E A) (View S E A) = record { words = s.words; homes = s.homes; views = ws } in
        record {
          log = r.log;
          now = r.now;
          box = r.box;
          legal = r.legal;
          wide = r.wide;
          long = r.long;
          counted = join_counted seats id other s.views v w at at' no_rest r.counted;
          newest = let k = r.newest in dite (ℕ_discrete k.0 id)
              (λ hit. (id, b, here, omega arith, longer_whole v.seen w.seen r.log mine.seen theirs.seen (inl (ap (λ (z : View S E A). z.seen) (same_view s.views id k.0 v k.1 (sym hit) at k.2) ∙ k.4))))
              (λ miss. dite (ℕ_discrete k.0 other)
              (λ hit. (id, b, here, omega arith, longer_whole v.seen w.seen r.log mine.seen theirs.seen (inr (ap (λ (z : View S E A). z.seen) (same_view s.views other k.0 w k.1 (sym hit) at2 k.2) ∙ k.4))))
              (λ miss'. (k.0, k.1, set_else vs other k.0 spent miss' ∙ (set_else s.views id k.0 b miss ∙ k.2), k.3, k.4)));
          fresh = λ n h. r.fresh n (omega arith);
          each = each_set (Stands from r.log r.now r.box s') vs other spent
              (record { seen = (r.log, refl); role = (their_role.0, (λ z. absurd (omega arith)), their_role.2); spent = λ _. (refl, refl); lives = λ h. absurd (omega arith); maker = λ h. absurd (omega arith) })
              (λ j d _ e. each_set (Stands from r.log r.now r.box s') s.views id b
              (record {
                seen = longer_by (λ l. IsStart l r.log) v.seen w.seen mine.seen theirs.seen;
                role = subst (λ k. AsRole r.log r.now r.box ws (get_or s.words (suc id) 0) (get_elem? s.homes (suc id)) id b k) (sym idle) (mine_role.0, (λ _. mine_role.1 live), mine_role.2);
                spent = λ h. absurd (omega arith);
                lives = λ _. join_lives from r.log id other v w mine.seen theirs.seen (mine_role.1 live) (their_role.1 live') lives lives';
                maker = λ h. let m = mine.maker h in (m.0, m.1 ∙ sym same);
              })
              (λ i z _ e'. let f = r.each i z e' in record {
                seen = f.seen;
                role = role_frame r.box r.box s.views ws r.log r.now (get_or s.words (suc i) 0) (get_elem? s.homes (suc i)) i z z.role refl (λ m e o a. (o, still m e a)) (λ m b e o a. (o, still m e a)) f.role;
                spent = f.spent;
                lives = f.lives;
                maker = λ h. let m = f.maker h in (m.0, m.1 ∙ sym same);
              }) j d e);
          asked = λ i is. let a = r.asked i is in (a.0, still i a.0 a.1, a.2);
          one = λ i j x y xi yj lx ly. each_set (λ n z. IsLead z.role → n ≡ j) vs other spent (λ h. absurd h) (λ n z _ atn. each_set (λ n z. IsLead z.role → n ≡ j) s.views id b (λ h. absurd (no_lead h))
              (λ n z _ atn hz. each_set (λ m u. IsLead u.role → n ≡ m) vs other spent (λ h. absurd h) (λ m u _ atm. each_set (λ m u. IsLead u.role → n ≡ m) s.views id b (λ h. absurd (no_lead h)) (λ m u _ atm hu. r.one n m z u atn atm hz hu) m u atm) j y yj ly) n z atn) i x xi lx;
          free = λ z. each_set (λ _ y. ¬ IsLead y.role) vs other spent (λ h. h) (λ j d _ e. each_set (λ _ y. ¬ IsLead y.role) s.views id b no_lead (λ i u _ e'. r.free z i u e') j d e);
          home = λ nobody. r.home (none_lead s.views id v b at no_lead (none_lead vs other w spent at' no_lead' nobody));
        }

    -- What a seat knows that stands for all: the shard is at home in the state that the history leaves, each box is bare, the seat has seen the whole history,
    -- and its passes account for it
    pub record Ends (from : S) (seats : ℕ) (v : View S E A) (s : State (Cell S E A) (View S E A)) : Type 0 where
      pub desk : Desk S
      pub home : get_elem? s.homes 0 ≡ some (some (Home desk))
      pub bare : (n : ℕ) → n < seats → get_elem? s.homes (suc n) ≡ some (some Empty)
      pub left : Leaves turn from v.seen (inner desk)
      pub account : Account seats ((v.number, v.mine) ∷ v.ended) v.seen

    pub closes : (from : S) (seats id : ℕ) (v : View S E A) (s : State (Cell S E A) (View S E A)) → Kept turn from seats s → get_elem? s.views id ≡ some v → v.role ≡ Idle → 0 < v.stands → v.stands ≡ seats → Ends from seats v s
    closes from seats id v s r at idle live all =
        let fs : View S E A → ℕ = λ z. z.stands + z.rest in let whole : total fs s.views ≡ seats = r.counted.whole in let here = r.each id v at in let mine = here.lives live in
        let gone : (j : ℕ) (d : View S E A) → j ≢ id → get_elem? s.views j ≡ some d → d.stands ≡ 0 = λ j d other e. let two : (d.stands + d.rest) + (v.stands + v.rest) ≤ total fs s.views = total-two fs s.views j id d v other e at in omega arith in
        let same : (j : ℕ) (d : View S E A) → j ≡ id → get_elem? s.views j ≡ some d → v ≡ d = λ j d hit e. same_view s.views id j v d (sym hit) at e in
        let at_rest : (j : ℕ) (d : View S E A) → get_elem? s.views j ≡ some d → d.role ≡ Idle = λ j d e. dite (ℕ_discrete j id)
        (λ hit. subst (λ (z : View S E A). z.role ≡ Idle) (same j d hit e) idle) (λ other. ((r.each j d e).spent (gone j d other e)).0) in
        let home = r.home (λ j d e. not_lead d.role (at_rest j d e)) in
        let k = r.newest in let seen : v.seen ≡ r.log = dite (ℕ_discrete k.0 id) (λ hit. ap (λ (z : View S E A). z.seen) (same k.0 k.1 hit k.2) ∙ k.4)
        (λ other. let none_stand : k.1.stands ≡ 0 = gone k.0 k.1 other k.2 in let some_stand = k.3 in absurd (omega arith)) in
        let listed : (n : ℕ) → times n (v.number ∷ numbers v.ended) ≡ once_below n (length s.views) = λ n. let f : View S E A → ℕ = λ z. times n z.numbers in
        sym (ap (times n) mine.listed) ∙ (sym (total-alone f s.views id v at (λ j d other e. ap (times n) ((r.each j d e).spent (gone j d other e)).1)) ∙ r.counted.once n) in
        let fp : View S E A → ℕ = λ z. z.stands in let mine_of_all : v.stands ≤ total fp s.views = total-one fp s.views id v at in let stand : total fp s.views ≡ length s.views = r.counted.stand in
        let made : length s.views ≡ seats = let a = r.counted.made in omega arith in
        let exact : v.mine ≡ of_pass id r.log = (subst (λ k. AsRole r.log r.now r.box s.views (get_or s.words (suc id) 0) (get_elem? s.homes (suc id)) id v k) idle here.role).1 live in
        record {
          desk = r.now;
          home = home;
          bare = λ n low. let f = found s.views n (omega arith) in
              (subst (λ k. AsRole r.log r.now r.box s.views (get_or s.words (suc n) 0) (get_elem? s.homes (suc n)) n f.0 k) (at_rest n f.0 f.1) (r.each n f.0 f.1).role).2.1;
          left = subst (λ (l : List (Entry E A)). Leaves turn from l (inner r.now)) (sym seen) r.legal;
          account = subst (λ (l : List (Entry E A)). Account seats ((v.number, v.mine) ∷ v.ended) l) (sym seen) (record {
            each = (ap (λ n. of_pass n r.log) mine.number ∙ sym exact, mine.ended);
            all = λ n low. let t : times n (numbers ((v.number, v.mine) ∷ v.ended)) ≡ once_below n (length s.views) = listed n in omega arith;
            only = λ n high. let t : times n (numbers ((v.number, v.mine) ∷ v.ended)) ≡ once_below n (length s.views) = listed n in omega arith;
            others = all_turn (λ e. e.seat < length s.views) (λ e. 0 < times e.seat (v.number ∷ numbers v.ended)) (λ e low. let t = listed e.seat in omega arith) r.log (all_below (length s.views) r.log (λ n h. (r.fresh n h).0));
          });
        } where
          found : (vs : List (View S E A)) (n : ℕ) → n < length vs → (d : View S E A) × (get_elem? vs n ≡ some d)
          found [] n low = absurd (omega arith)
          found (x ∷ xs) zero low = (x, refl)
          found (x ∷ xs) (suc n) low = found xs n (omega arith)
