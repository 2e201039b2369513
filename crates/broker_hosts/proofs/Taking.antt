-- Disks are taken from a bay one after another, and put back.
use Rattle.std.proofs.Common.{◌≡◌, ◌≢◌, ◌≤◌, ◌<◌, ◌-◌, ◌^◌, ◌⊎◌, arith, inl, inr, refl, sym, ap, ◌∙◌, subst, ℕ, List, [], ◌∷◌, ◌++◌, map, Bool, true, false, Some, None, is_some, nat_lt, rules, Result, Err, IfErr}
use Rattle.std.proofs.lemmas.Bool.{cases_Bool}
use Rattle.std.specs.List.{AllByRecursion}
use Rattle.std.specs.declared.option.Option.{Option}
use Rattle.edge_io.specs.Bays.{Holds, IsAsTold, SameSlot}
use Rattle.edge_io.specs.Causes.{Rose}
use Rattle.broker_model.specs.Hosted.{IsOneOf, same_name}
use Rattle.broker_hosts.specs.Bays.{HoldsIf, IsLeftAs, OneRisen, RisenIf, StaysAs, TellsStill}
use Rattle.broker_hosts.specs.Hosts.{AreDistinct, NotIn}
use Rattle.broker_hosts.specs.Taking.{Gets, GetsAll, Moves, PutsAll, PutsBack}
use Rattle.edge_io.proofs.Runs.{runs_none}
use Rattle.broker_hosts.proofs.Places.{is_same, same_self}
use Rattle.edge_io.specs.Views.{DiskView, BayView}

-- ---- results

pub err_same : {T E : Type 0} (d e : E) → ◌≡◌ {A = Result T E} (Err d) (Err e) → d ≡ e
err_same d e is = cc

-- an error that is known
pub err_at : {T E : Type 0} (P : E → Type 0) (r : Result T E) (e : E) → r ≡ Err e → P e → IfErr r P
err_at P r e is p = subst (λ q. IfErr q P) (sym is) p

pub some_told : {D : Type 0} (o : Option D) (d : D) → o ≡ Some d → is_some o ≡ true
some_told o d e = ap is_some e

pub same_disk : {D : Type 0} (o : Option D) (d e : D) → o ≡ Some d → o ≡ Some e → d ≡ e
same_disk o d e is was = let g : Some d ≡ Some e = sym is ∙ was in cc

pub not_both : {b : Bool} → b ≡ false → b ≡ true → ⊥
not_both is_no is_yes = let bad : false ≡ true = sym is_no ∙ is_yes in cc

-- ---- what is told of a disk that was put back

module _ {B D : Type 0} (bay_seen : B → BayView D) (seen : D → DiskView) (Fed : Type 0) (name : List ℕ) where
  -- it is the one that it was
  pub stays_kept : (old new : B) → ((d : D) → (bay_seen old).disk name ≡ Some d → (bay_seen new).disk name ≡ Some d) → StaysAs bay_seen seen Fed name old new
  stays_kept old new kept d e was is =
      let same : e ≡ d = same_disk ((bay_seen new).disk name) e d is (kept d was) in
      subst (λ (x : D). IsLeftAs seen Fed d x) (sym same) (record { images = λ c on. (c, on, inl refl); runs = runs_none seen d; fed = λ f s. s })

  pub stays_same : (old new : B) → (bay_seen new).disk name ≡ (bay_seen old).disk name → StaysAs bay_seen seen Fed name old new
  stays_same old new same = stays_kept old new (λ d was. same ∙ was)

  -- it was taken and used, and put back
  pub stays_put : (old mid new : B) (given now : D) → IsAsTold ((bay_seen old).disk name) given → (is_some ((bay_seen old).disk name) ≡ true → is_some ((bay_seen mid).disk name) ≡ true)
      → Holds ((bay_seen mid).disk name) ((bay_seen new).disk name) now → IsLeftAs seen Fed given now → StaysAs bay_seen seen Fed name old new
  stays_put old mid new given now as_told still holds left d e was is =
      let same : e ≡ now = same_disk ((bay_seen new).disk name) e now is (holds (still (some_told ((bay_seen old).disk name) d was))) in
      subst (λ (x : D). IsLeftAs seen Fed x e) (as_told d was) (subst (λ (x : D). IsLeftAs seen Fed given x) (sym same) left)

  -- before and behind it stayed
  pub stays_between : (old mid behind new : B) → (bay_seen mid).disk name ≡ (bay_seen old).disk name → (bay_seen new).disk name ≡ (bay_seen behind).disk name → StaysAs bay_seen seen Fed name mid behind
      → StaysAs bay_seen seen Fed name old new
  stays_between old mid behind new p q s d e was is = s d e (p ∙ was) (sym q ∙ is)

-- a count that rose below its last value is greater
pub greater : (before now : ℕ) → Rose before now → (before < now) ⊎ (2 ^ 64 - 1 ≤ before)
greater before now rose = go (cases_Bool (nat_lt before (2 ^ 64 - 1))) where
  go : (nat_lt before (2 ^ 64 - 1) ≡ true) ⊎ (nat_lt before (2 ^ 64 - 1) ≡ false) → (before < now) ⊎ (2 ^ 64 - 1 ≤ before)
  go (inl less) = inl (let l : before < 2 ^ 64 - 1 = search rules in omega (arith, rose, l))
  go (inr not) = inr (let l : (before < 2 ^ 64 - 1) → ⊥ = search rules in grind (arith, l))

pub rose_between : (a b c d : ℕ) → a ≤ b → Rose b c → c ≤ d → Rose a d
rose_between a b c d l r m = omega (arith, l, r, m)

-- the names of entries
abbrev pub named : {A : Type 0} → List (List ℕ × A) → List (List ℕ)
named es = map (λ e. e.0) es

pub named_append : {A : Type 0} (xs ys : List (List ℕ × A)) → named (xs ++ ys) ≡ named xs ++ named ys
named_append [] ys = refl
named_append (x ∷ xs) ys = ap (λ (l : List (List ℕ)). x.0 ∷ l) (named_append xs ys)

module _ {B D : Type 0} (bay_seen : B → BayView D) where
  abbrev Others : List ℕ → B → B → Type 0
  Others name old new = (m : List ℕ) → m ≢ name → SameSlot bay_seen m old new

  -- ---- what stays

  -- what is told at one name, and stays at the others, is told everywhere
  pub tells_all : (name : List ℕ) (old new : B) → Others name old new → (is_some ((bay_seen old).disk name) ≡ true → is_some ((bay_seen new).disk name) ≡ true) → TellsStill bay_seen old new
  tells_all name old new others at m told = go (same_name m name) refl where
    go : (b : Bool) → same_name m name ≡ b → is_some ((bay_seen new).disk m) ≡ true
    go true is = subst (λ (n : List ℕ). is_some ((bay_seen new).disk n) ≡ true) (sym (is_same m name is)) (at (subst (λ (n : List ℕ). is_some ((bay_seen old).disk n) ≡ true) (is_same m name is) told))
    go false is = ap is_some (others m (λ e. differ e is)).same_disk ∙ told where
      differ : m ≡ name → same_name m name ≡ false → ⊥
      differ e away = let bad : true ≡ false = sym (subst (λ (n : List ℕ). same_name m n ≡ true) e (same_self m)) ∙ away in cc

  pub slot_same : (m : List ℕ) (b : B) → SameSlot bay_seen m b b
  slot_same m b = record { same_disk = refl; same_out = refl; same_taken = refl }

  pub slot_then : (m : List ℕ) (a b c : B) → SameSlot bay_seen m a b → SameSlot bay_seen m b c → SameSlot bay_seen m a c
  slot_then m a b c p q = record { same_disk = q.same_disk ∙ p.same_disk; same_out = q.same_out ∙ p.same_out; same_taken = q.same_taken ∙ p.same_taken }

  pub moves_same : (b : B) → Moves bay_seen b b
  moves_same b = record { told = λ name t. t; later = least (bay_seen b).faults; steadies = λ s. s } where
    least : (n : ℕ) → n ≤ n
    least n = omega arith

  pub moves_then : (a b c : B) → Moves bay_seen a b → Moves bay_seen b c → Moves bay_seen a c
  moves_then a b c p q = record {
    told = λ name t. q.told name (p.told name t);
    later = (let l = p.later in let m = q.later in omega (arith, l, m));
    steadies = λ s. q.steadies (p.steadies s);
  }

  module _ (seen : D → DiskView) where
    -- ---- disks that are taken

    abbrev Take : List ℕ → D → B → B → Type 0
    Take name d old new = Gets bay_seen seen name d old new

    abbrev TakeAll : List (List ℕ × D) → B → B → Type 0
    TakeAll es old new = GetsAll bay_seen seen es old new

    -- a call of `take` that gave a disk
    pub get : (name : List ℕ) (d : D) (old new : B) → IsAsTold ((bay_seen old).disk name) d → ((bay_seen new).out name ≡ true) × ((bay_seen new).taken name ≡ (seen d).faults) → Others name old new
        → is_some ((bay_seen new).disk name) ≡ is_some ((bay_seen old).disk name) → (bay_seen old).faults ≤ (bay_seen new).faults → ((bay_seen old).steady → (bay_seen new).steady) → Take name d old new
    get name d old new given is_out others told later steadies = record {
      as_told = given;
      is_out = is_out.0;
      noted = is_out.1;
      others = others;
      moves = record { told = tells_all name old new others (λ t. told ∙ t); later = later; steadies = steadies };
    }

    pub gets_moves : (es : List (List ℕ × D)) (old new : B) → TakeAll es old new → Moves bay_seen old new
    gets_moves [] old new is = subst (λ (b : B). Moves bay_seen old b) (sym is) (moves_same old)
    gets_moves (e ∷ es) old new (mid, g, more) = moves_then old mid new g.moves (gets_moves es mid new more)

    pub gets_others : (es : List (List ℕ × D)) (old new : B) → TakeAll es old new → (m : List ℕ) → NotIn (named es) m → SameSlot bay_seen m old new
    gets_others [] old new is m n = subst (λ (b : B). SameSlot bay_seen m old b) (sym is) (slot_same m old)
    gets_others (e ∷ es) old new (mid, g, more) m n = slot_then m old mid new (g.others m n.0) (gets_others es mid new more m n.1)

    -- how each of them was given
    pub record IsGiven (old new : B) (e : List ℕ × D) : Type 0 where
      pub as_told : IsAsTold ((bay_seen old).disk e.0) e.1
      pub noted : (bay_seen new).taken e.0 ≡ (seen e.1).faults
      pub is_out : (bay_seen new).out e.0 ≡ true

    pub gets_each : (es : List (List ℕ × D)) (old new : B) → AreDistinct (named es) → TakeAll es old new → AllByRecursion (IsGiven old new) es
    gets_each [] old new distinct is = tt
    gets_each (e ∷ es) old new distinct (mid, g, more) =
        let same = gets_others es mid new more e.0 distinct.0 in (
          record { as_told = g.as_told; noted = same.same_taken ∙ g.noted; is_out = same.same_out ∙ g.is_out },
          later_ones es distinct.0 (gets_each es mid new distinct.1 more),
        )
      where
        later_ones : (rest : List (List ℕ × D)) → NotIn (named rest) e.0 → AllByRecursion (IsGiven mid new) rest → AllByRecursion (IsGiven old new) rest
        later_ones [] away all = tt
        later_ones (r ∷ rest) away all = (
          record {
            as_told = λ d told. all.0.as_told d ((g.others r.0 (λ same. away.0 (sym same))).same_disk ∙ told);
            noted = all.0.noted;
            is_out = all.0.is_out;
          },
          later_ones rest away.1 all.1,
        )

    -- ---- disks that are put back

    abbrev Puts : List ℕ → D → B → B → Type 0
    Puts name d old new = PutsBack bay_seen seen name d old new

    abbrev PutAll : List (List ℕ × Option D) → B → B → Type 0
    PutAll es old new = PutsAll bay_seen seen es old new

    pub put_moves : (name : List ℕ) (d : D) (old new : B) → Puts name d old new → Moves bay_seen old new
    put_moves name d old new p = record {
      told = tells_all name old new p.others (λ t. some_told ((bay_seen new).disk name) d (p.there t));
      later = p.later;
      steadies = p.steadies;
    }

    pub puts_moves : (es : List (List ℕ × Option D)) (old new : B) → PutAll es old new → Moves bay_seen old new
    puts_moves [] old new is = subst (λ (b : B). Moves bay_seen old b) (sym is) (moves_same old)
    puts_moves (e ∷ es) old new (d, mid, has, p, more) = moves_then old mid new (put_moves e.0 d old mid p) (puts_moves es mid new more)

    pub puts_others : (es : List (List ℕ × Option D)) (old new : B) → PutAll es old new → (m : List ℕ) → NotIn (named es) m → SameSlot bay_seen m old new
    puts_others [] old new is m n = subst (λ (b : B). SameSlot bay_seen m old b) (sym is) (slot_same m old)
    puts_others (e ∷ es) old new (d, mid, has, p, more) m n = slot_then m old mid new (p.others m n.0) (puts_others es mid new more m n.1)

    pub put_taken : (name : List ℕ) (d : D) (old new : B) → Puts name d old new → (m : List ℕ) → (bay_seen new).taken m ≡ (bay_seen old).taken m
    put_taken name d old new p m = go (cases_Bool (same_name m name)) where
      go : (same_name m name ≡ true) ⊎ (same_name m name ≡ false) → (bay_seen new).taken m ≡ (bay_seen old).taken m
      go (inl same) = subst (λ (n : List ℕ). (bay_seen new).taken n ≡ (bay_seen old).taken n) (sym (is_same m name same)) p.taken
      go (inr away) =
          (p.others m (λ e. let bad : true ≡ false = sym (same_self m) ∙ ap (λ (k : List ℕ). same_name m k) e ∙ away in cc)).same_taken

    -- with what counts the bay's disks were taken is noted still
    pub puts_taken : (es : List (List ℕ × Option D)) (old new : B) → PutAll es old new → (m : List ℕ) → (bay_seen new).taken m ≡ (bay_seen old).taken m
    puts_taken [] old new is m = ap (λ (b : B). (bay_seen b).taken m) is
    puts_taken (e ∷ es) old new (d, mid, has, p, more) m = puts_taken es mid new more m ∙ put_taken e.0 d old mid p m

    pub puts_in : (es : List (List ℕ × Option D)) (old new : B) → AreDistinct (named es) → PutAll es old new → (m : List ℕ) → IsOneOf (named es) m
        → (bay_seen new).out m ≡ false
    puts_in [] old new distinct is m one = absurd one
    puts_in (e ∷ es) old new distinct (d, mid, has, p, more) m (inl same) =
        subst (λ (n : List ℕ). (bay_seen new).out n ≡ false) (sym same) ((puts_others es mid new more e.0 distinct.0).same_out ∙ p.is_in)
    puts_in (e ∷ es) old new distinct (d, mid, has, p, more) m (inr one) = puts_in es mid new distinct.1 more m one

    pub puts_hold : (es : List (List ℕ × Option D)) (old new : B) → AreDistinct (named es) → PutAll es old new → AllByRecursion (HoldsIf bay_seen old new) es
    puts_hold [] old new distinct is = tt
    puts_hold (e ∷ es) old new distinct (d, mid, has, p, more) = (
      subst (λ (o : Option D). HoldsIf bay_seen old new (e.0, o)) (sym has)
          (λ t. (puts_others es mid new more e.0 distinct.0).same_disk ∙ p.there t),
      later_ones es distinct.0 (puts_hold es mid new distinct.1 more),
    )
      where
        later_ones : (rest : List (List ℕ × Option D)) → NotIn (named rest) e.0 → AllByRecursion (HoldsIf bay_seen mid new) rest
            → AllByRecursion (HoldsIf bay_seen old new) rest
        later_ones [] n all = tt
        later_ones (r ∷ rest) n all = (go r.1 all.0, later_ones rest n.1 all.1) where
          go : (o : Option D) → HoldsIf bay_seen mid new (r.0, o) → HoldsIf bay_seen old new (r.0, o)
          go (Some x) h = λ t. h (ap is_some (p.others r.0 (λ same. n.0 (sym same))).same_disk ∙ t)
          go None h = absurd h

    put_rises : (name : List ℕ) (d : D) (old mid new : B) → Puts name d old mid → (bay_seen mid).faults ≤ (bay_seen new).faults → (bay_seen old).taken name < (seen d).faults
        → Rose (bay_seen old).faults (bay_seen new).faults
    put_rises name d old mid new p later less = let c = p.counts in omega (arith, later, less, c)

    pub puts_rise : (es : List (List ℕ × Option D)) (old new : B) → AreDistinct (named es) → PutAll es old new
        → OneRisen bay_seen seen old es → Rose (bay_seen old).faults (bay_seen new).faults
    puts_rise [] old new distinct is risen = absurd risen
    puts_rise (e ∷ es) old new distinct (d, mid, has, p, more) (inl risen) =
        put_rises e.0 d old mid new p (puts_moves es mid new more).later (subst (λ (o : Option D). RisenIf bay_seen seen old (e.0, o)) has risen)
    puts_rise (e ∷ es) old new distinct (d, mid, has, p, more) (inr risen) =
        let rose = puts_rise es mid new distinct.1 more (later_ones es distinct.0 risen) in
        let l = p.later in
        omega (arith, rose, l)
      where
        later_ones : (rest : List (List ℕ × Option D)) → NotIn (named rest) e.0 → OneRisen bay_seen seen old rest → OneRisen bay_seen seen mid rest
        later_ones [] n h = absurd h
        later_ones (r ∷ rest) n (inl h) = inl (go r.1 h) where
          go : (o : Option D) → RisenIf bay_seen seen old (r.0, o) → RisenIf bay_seen seen mid (r.0, o)
          go (Some x) less = subst (λ (k : ℕ). k < (seen x).faults) (sym (p.others r.0 (λ same. n.0 (sym same))).same_taken) less
          go None less = absurd less
        later_ones (r ∷ rest) n (inr h) = inr (later_ones rest n.1 h)

    -- these, and then those
    pub puts_then : (xs ys : List (List ℕ × Option D)) (old mid new : B) → PutAll xs old mid → PutAll ys mid new → PutAll (xs ++ ys) old new
    puts_then [] ys old mid new is more = subst (λ (b : B). PutAll ys b new) is more
    puts_then (x ∷ xs) ys old mid new (d, next, has, p, front) more = (d, next, has, p, puts_then xs ys next mid new front more)
