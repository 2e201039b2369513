-- A start that is raised in memory: the disks stand for what is kept then.
use Rattle.std.proofs.Common.{◌≡◌, ◌≤◌, ◌<◌, ◌^◌, inl, inr, ⊎_elim, refl, sym, ap, ◌∙◌, subst, ℕ, ℤ, pos, negsuc, List}
use Rattle.std.proofs.Common.{[], ◌∷◌, Option, Some, None, Bool, true, false, cond, ◌||◌, int_lt, arith, length, w64, FitsSigned}
use Rattle.std.specs.BTreeMap.{is_at}
use Rattle.std.specs.List.{AllByRecursion}
use Rattle.std.specs.Map.{lookup, set_value}
use Rattle.std.specs.Option.{option_map}
use Rattle.edge_io.specs.Views.{DiskView}
use Rattle.share_model.specs.ForeignRules.{size_of}
use Rattle.share_model.specs.Keys.{KeyParts, key_cmp}
use Rattle.share_model.specs.Runs.{IsCanonical, row_at}
use Rattle.share_model.specs.ShareStates.{ShareState, is_below}
use Rattle.share_model.specs.declared.run.Run.{Run}
use Rattle.state_records.specs.States.{AreStoredRuns, IsStart}
use Rattle.share_coord.specs.Holding.{Holds, Leaves, StandWith, StandsFor}
use Rattle.share_coord.specs.Parts.{KeptState, StoreParts}
use Rattle.share_coord.specs.Raising.{raised, raised_to, rises, starts_below}
use Rattle.share_coord.specs.Stored.{Entries, kept_at, records_from}
use Rattle.share_coord.specs.Tables.{AreRoomy, entries_in, shown}
use Rattle.share_coord.specs.Unwritten.{AreAlike, AreKeptOf, AreStatesOf, IsKeptOf, IsViewOf, raised_all, raised_entries, raised_kept}
use Rattle.share_coord.specs.declared.view.Kept.{Kept}
use Rattle.share_coord.specs.declared.walk.Walk.TheVariants.{First}
use Rattle.share_coord.proofs.Keys.{some_is, some_none}
use Rattle.share_coord.proofs.Raising.{below_size, no_lower, raised_below, raised_cut, raised_not, raised_twice, started}
use Rattle.share_coord.proofs.Renewing.{AreFit, IsFit, fit_all, fit_frame}
use Rattle.share_coord.proofs.Spans.{cut_laid, laid_stored}
use Rattle.share_coord.specs.Views.{IsKeptState}

-- an offset fits an i64
abbrev pub FitsOffset : ℤ → Type 0
FitsOffset (pos n) = n < 2 ^ 63
FitsOffset (negsuc n) = Unit {0}

pub offset_fits : (z : ℤ) → FitsSigned w64 z → FitsOffset z
offset_fits (pos n) fits = fits.sfits
offset_fits (negsuc n) fits = tt

-- ---- one state, whose rows are cut in place

start_in : (s : ShareState) (start : ℤ) → IsStart s.start → FitsOffset start → int_lt s.start start ≡ true → IsStart start
start_in s (pos n) was fits low = fits
start_in s (negsuc n) was fits low = absurd (no_lower s.start n was low)

pub cut_stored : (start : ℤ) (runs cut : List Run) → AreStoredRuns runs → IsCanonical cut
    → ((o : ℕ) → row_at cut o ≡ cond (is_below o start) None (row_at runs o)) → AreStoredRuns cut
cut_stored start runs cut stored canonical rows = laid_stored start [] runs cut (cut_laid start runs cut canonical rows) (tt, tt) stored

module _ (s : ShareState) (z start : ℤ) (cut : List Run) (same : z ≡ start) (low : int_lt s.start start ≡ true) (kept : IsKeptState s) (canonical : IsCanonical cut)
    (rows : (o : ℕ) → row_at cut o ≡ cond (is_below o z) None (row_at s.runs o)) where
  pub cut_kept : FitsOffset start → length cut ≤ length s.runs
      → IsKeptState (started s z cut)
  cut_kept fits fewer = record {
    state_epoch = kept.state_epoch;
    leader_epoch = kept.leader_epoch;
    start = subst IsStart (sym same) (start_in s start kept.start fits low);
    runs = cut_stored z s.runs cut kept.runs canonical rows;
    few = let few = kept.few in omega (arith, few, fewer);
  }

  pub cut_raises : started s z cut ≡ raised_to start s
  cut_raises = ap (λ (k : ℤ). started s k cut) same
      ∙ raised_cut s start cut kept.start low kept.runs.0 canonical
      (λ o. rows o ∙ ap (λ (k : ℤ). cond (is_below o k) None (row_at s.runs o)) same)

-- ---- one key

over_by : (b : Bool) (n to : ℕ) (v w : ShareState) → v ≡ cond b (raised n w) w → n ≤ to → raised to v ≡ raised to w
over_by true n to v w h le = ap (raised to) h ∙ raised_twice w n to le
over_by false n to v w h le = ap (raised to) h

view_to : (w k : KeptState) (to : ℕ) (c : Bool) → starts_below k.view.start to ≡ c → IsViewOf w k
    → raised to k.view ≡ cond (c || k.raised) (raised (size_of (raised to k.view).start) w.view) w.view
view_to w k to true low h =
    let start : (raised to k.view).start ≡ pos to = ap (λ (v : ShareState). v.start) (raised_below k.view to low) in
    over_by k.raised (size_of k.view.start) to k.view w.view h (below_size k.view.start to low)
    ∙ ap (λ (m : ℕ). raised m w.view) (sym (ap size_of start))
view_to w k to false high h =
    subst (λ (v : ShareState). v ≡ cond k.raised (raised (size_of v.start) w.view) w.view) (sym (raised_not k.view to high)) h

raised_view : (w k : KeptState) (start : ℤ) → IsViewOf w k → IsViewOf w (raised_kept start k)
raised_view w k (pos to) h = view_to w k to (starts_below k.view.start to) refl h
raised_view w k (negsuc n) h = h

abbrev Since : KeptState → ShareState → Bool → Type 0
Since w v tells = IsStart v.start × IsCanonical w.view.runs × (tells ≡ true)

since_to : (w k : KeptState) (to : ℕ) (c : Bool) → starts_below k.view.start to ≡ c → to < 2 ^ 63 → IsCanonical w.view.runs → IsKeptOf w k
    → (c || k.raised) ≡ true → Since w (raised to k.view) (c || k.tells)
since_to w k to true low fits canonical h e = (subst (λ (v : ShareState). IsStart v.start) (sym (raised_below k.view to low)) fits, canonical, refl)
since_to w k to false high fits canonical h e = subst (λ (v : ShareState). Since w v k.tells) (sym (raised_not k.view to high)) (h.since e)

pub kept_one : (w k : KeptState) (start : ℤ) → FitsOffset start → IsCanonical w.view.runs → IsKeptOf w k → IsKeptOf w (raised_kept start k)
kept_one w k (pos to) fits canonical h = record {
  view = raised_view w k (pos to) h.view;
  snapshot = h.snapshot;
  updates = h.updates;
  since = λ e. since_to w k to (starts_below k.view.start to) refl fits canonical h e;
}
kept_one w k (negsuc n) fits canonical h = record { view = h.view; snapshot = h.snapshot; updates = h.updates; since = h.since }

-- told by its parts
abbrev raised_by : ShareState → KeptState → Bool → KeptState
raised_by view k b = record { view = view; snapshot = k.snapshot; updates = k.updates; raised = b || k.raised; tells = b || k.tells }

pub raised_parts : (k : KeptState) (start z : ℤ) (view : ShareState) (b : Bool) → z ≡ start → view ≡ raised_to z k.view → b ≡ rises z k.view
    → raised_by view k b ≡ raised_kept start k
raised_parts k start z view b same v r =
    let first : raised_by view k b ≡ raised_kept z k = λ i. raised_by (v i) k (r i) in
    first ∙ ap (λ (s : ℤ). raised_kept s k) same

-- ---- all keys

module _ (key : KeyParts) (start : ℤ) where
  pub kept_raised : (ws ks : Entries) → FitsOffset start → AllByRecursion (λ e. IsFit e.1) ws → AreKeptOf ws ks → AreKeptOf ws (raised_entries ks key start)
  kept_raised [] [] fits fit h = tt
  kept_raised [] (y ∷ ys) fits fit h = absurd h
  kept_raised (x ∷ xs) [] fits fit h = absurd h
  kept_raised (x ∷ xs) (y ∷ ys) fits fit h = by (is_at (key_cmp key) y.0) (kept_raised xs ys fits fit.1 h.2) where
    by : (b : Bool) → AreKeptOf xs (raised_entries ys key start) → AreKeptOf (x ∷ xs) (cond b ((y.0, raised_kept start y.1) ∷ ys) (y ∷ raised_entries ys key start))
    by true rest = (h.0, kept_one x.1 y.1 start fits fit.0.state.runs.0 h.1, h.2)
    by false rest = (h.0, h.1, rest)

  pub views_raised : (ws ks : Entries) → AreAlike IsViewOf ws ks → AreAlike IsViewOf ws (raised_entries ks key start)
  views_raised [] [] h = tt
  views_raised [] (y ∷ ys) h = absurd h
  views_raised (x ∷ xs) [] h = absurd h
  views_raised (x ∷ xs) (y ∷ ys) h = by (is_at (key_cmp key) y.0) (views_raised xs ys h.2) where
    by : (b : Bool) → AreAlike IsViewOf xs (raised_entries ys key start)
        → AreAlike IsViewOf (x ∷ xs) (cond b ((y.0, raised_kept start y.1) ∷ ys) (y ∷ raised_entries ys key start))
    by true rest = (h.0, raised_view x.1 y.1 start h.1, h.2)
    by false rest = (h.0, h.1, rest)

  abbrev Raised : Entries → Entries
  Raised es = raised_entries es key start

  stands_raised : (a b : List ℕ) (es : Entries) → AreStatesOf a b es → AreStatesOf a b (Raised es)
  stands_raised a b es h = record { written = h.written; stored = h.stored; are = views_raised h.written es h.are }

  with_raised : (a b : List ℕ) (es : Entries) (pending : Option Entries) → StandWith a b es pending → StandWith a b (Raised es) (option_map Raised pending)
  with_raised a b es None h = stands_raised a b es h
  with_raised a b es (Some lost) h = ⊎_elim (λ x. inl (stands_raised a b es x)) (λ x. inr (stands_raised a b lost x)) h

  leaves_raised : (written : Entries) (unwritten : Option (List ℕ)) (pending : Option Entries) → FitsOffset start → AreFit written → Leaves written unwritten pending
      → Leaves written unwritten (option_map Raised pending)
  leaves_raised written None pending fits fit h = ap (option_map Raised) h
  leaves_raised written (Some frame) pending fits fit h =
      let fit_new = fit_frame written frame h.0 h.3 fit in
      (h.0, Raised h.1, ap (option_map Raised) h.2, h.3, kept_raised h.0 h.1 fits fit_new.1 h.4)

  lands_raised : (landed : List (List ℕ)) (es : Entries) → StandsFor landed es → StandsFor landed (Raised es)
  lands_raised landed es h = (h.0, h.1, views_raised h.0 es h.2)

  module _ {D : Type 0} (seen : D → DiskView) (old : StoreParts D) (fits : FitsOffset start) where
    raised_holds : (pending : Option Entries) → Holds seen old pending
        → Holds seen (record { journal = old.journal; entries = Raised old.entries; room = old.room }) (option_map Raised pending)
    raised_holds pending held =
        let fit = fit_all (records_from First held.frames) [] held.written held.taken (tt, tt) in
        record {
          frames = held.frames;
          unwritten = held.unwritten;
          sealing = held.sealing;
          keeps = held.keeps;
          written = held.written;
          taken = held.taken;
          kept = kept_raised held.written old.entries fits fit.1 held.kept;
          few = held.few;
          leaves = leaves_raised held.written held.unwritten pending fits fit held.leaves;
          sealed = λ landed at. lands_raised landed old.entries (held.sealed landed at);
          images = λ a b on_a on_b. with_raised a b old.entries pending (held.images a b on_a on_b);
        }

    -- a store whose entries were raised, and whose other parts are as they were
    pub raised_holds_at : (new : StoreParts D) → new.entries ≡ Raised old.entries → new.journal ≡ old.journal → new.room ≡ old.room
        → (pending : Option Entries) → Holds seen old pending → Holds seen new (option_map Raised pending)
    raised_holds_at new entries journal room pending held =
        let same : ◌≡◌ {A = StoreParts D} (record { journal = old.journal; entries = Raised old.entries; room = old.room }) new =
        λ i. record { journal = sym journal i; entries = sym entries i; room = sym room i } in
        subst (λ (s : StoreParts D). Holds seen s (option_map Raised pending)) same (raised_holds pending held)

-- ---- each key

abbrev All : ℤ → Entries → Entries
All start es = raised_all start es

kept_all : (start : ℤ) (ws ks : Entries) → FitsOffset start → AllByRecursion (λ e. IsFit e.1) ws → AreKeptOf ws ks → AreKeptOf ws (raised_all start ks)
kept_all start [] [] fits fit h = tt
kept_all start [] (y ∷ ys) fits fit h = absurd h
kept_all start (x ∷ xs) [] fits fit h = absurd h
kept_all start (x ∷ xs) (y ∷ ys) fits fit h = (h.0, kept_one x.1 y.1 start fits fit.0.state.runs.0 h.1, kept_all start xs ys fits fit.1 h.2)

views_all : (start : ℤ) (ws ks : Entries) → AreAlike IsViewOf ws ks → AreAlike IsViewOf ws (raised_all start ks)
views_all start [] [] h = tt
views_all start [] (y ∷ ys) h = absurd h
views_all start (x ∷ xs) [] h = absurd h
views_all start (x ∷ xs) (y ∷ ys) h = (h.0, raised_view x.1 y.1 start h.1, views_all start xs ys h.2)

stands_all : (start : ℤ) (a b : List ℕ) (es : Entries) → AreStatesOf a b es → AreStatesOf a b (All start es)
stands_all start a b es h = record { written = h.written; stored = h.stored; are = views_all start h.written es h.are }

with_all : (start : ℤ) (a b : List ℕ) (es : Entries) (pending : Option Entries) → StandWith a b es pending
    → StandWith a b (All start es) (option_map (All start) pending)
with_all start a b es None h = stands_all start a b es h
with_all start a b es (Some lost) h = ⊎_elim (λ x. inl (stands_all start a b es x)) (λ x. inr (stands_all start a b lost x)) h

leaves_all : (start : ℤ) (written : Entries) (unwritten : Option (List ℕ)) (pending : Option Entries) → FitsOffset start → AreFit written
    → Leaves written unwritten pending → Leaves written unwritten (option_map (All start) pending)
leaves_all start written None pending fits fit h = ap (option_map (All start)) h
leaves_all start written (Some frame) pending fits fit h =
    let fit_new = fit_frame written frame h.0 h.3 fit in
    (h.0, All start h.1, ap (option_map (All start)) h.2, h.3, kept_all start h.0 h.1 fits fit_new.1 h.4)

module _ {D : Type 0} (start : ℤ) (seen : D → DiskView) (old : StoreParts D) (fits : FitsOffset start) where
  all_holds : (pending : Option Entries) → Holds seen old pending
      → Holds seen (record { journal = old.journal; entries = All start old.entries; room = old.room }) (option_map (All start) pending)
  all_holds pending held =
      let fit = fit_all (records_from First held.frames) [] held.written held.taken (tt, tt) in
      record {
        frames = held.frames;
        unwritten = held.unwritten;
        sealing = held.sealing;
        keeps = held.keeps;
        written = held.written;
        taken = held.taken;
        kept = kept_all start held.written old.entries fits fit.1 held.kept;
        few = held.few;
        leaves = leaves_all start held.written held.unwritten pending fits fit held.leaves;
        sealed = λ landed at. let s = held.sealed landed at in (s.0, s.1, views_all start s.0 old.entries s.2);
        images = λ a b on_a on_b. with_all start a b old.entries pending (held.images a b on_a on_b);
      }

  -- a store whose entries were raised, and whose other parts are as they were
  pub all_holds_at : (new : StoreParts D) → new.entries ≡ All start old.entries → new.journal ≡ old.journal → new.room ≡ old.room
      → (pending : Option Entries) → Holds seen old pending → Holds seen new (option_map (All start) pending)
  all_holds_at new entries journal room pending held =
      let same : ◌≡◌ {A = StoreParts D} (record { journal = old.journal; entries = All start old.entries; room = old.room }) new =
      λ i. record { journal = sym journal i; entries = sym entries i; room = sym room i } in
      subst (λ (s : StoreParts D). Holds seen s (option_map (All start) pending)) same (all_holds pending held)

-- ---- the table

abbrev Table : Type 0
Table = List (KeyParts × Kept)

-- a key that isn't there
pub raised_none : (es : Entries) (key : KeyParts) (start : ℤ) → kept_at es key ≡ None → raised_entries es key start ≡ es
raised_none [] key start none = refl
raised_none (e ∷ es) key start none = by (is_at (key_cmp key) e.0) none (raised_none es key start) where
  by : (b : Bool) → cond b (Some e.1) (kept_at es key) ≡ None → (kept_at es key ≡ None → raised_entries es key start ≡ es)
      → cond b ((e.0, raised_kept start e.1) ∷ es) (e ∷ raised_entries es key start) ≡ e ∷ es
  by true none rest = absurd (some_none e.1 none)
  by false none rest = ap (λ (l : Entries). e ∷ l) (rest none)

-- one that is there
pub raised_shown : (es : Table) (key : KeyParts) (start : ℤ) (old new : Kept) → lookup (is_at (key_cmp key)) es ≡ Some old
    → shown new ≡ raised_kept start (shown old) → entries_in (set_value (is_at (key_cmp key)) es new) ≡ raised_entries (entries_in es) key start
raised_shown [] key start old new found is = refl
raised_shown (e ∷ es) key start old new found is = by (is_at (key_cmp key) e.0) found (λ at. raised_shown es key start old new at is) where
  by : (b : Bool) → cond b (Some e.1) (lookup (is_at (key_cmp key)) es) ≡ Some old
      → (lookup (is_at (key_cmp key)) es ≡ Some old → entries_in (set_value (is_at (key_cmp key)) es new) ≡ raised_entries (entries_in es) key start)
      → entries_in (cond b ((e.0, new) ∷ es) (e ∷ set_value (is_at (key_cmp key)) es new))
      ≡ cond b ((e.0, raised_kept start (shown e.1)) ∷ entries_in es) ((e.0, shown e.1) ∷ raised_entries (entries_in es) key start)
  by true found rest = ap (λ (k : KeptState). (e.0, k) ∷ entries_in es) (is ∙ ap (λ (k : Kept). raised_kept start (shown k)) (sym (some_is e.1 old found)))
  by false found rest = ap (λ (l : Entries). (e.0, shown e.1) ∷ l) (rest found)

pub roomy_set : (room : ℕ) (es : Table) (key : KeyParts) (new : Kept) → AreRoomy room es → room ≤ new.view.room
    → AreRoomy room (set_value (is_at (key_cmp key)) es new)
roomy_set room [] key new all le = tt
roomy_set room (e ∷ es) key new all le = by (is_at (key_cmp key) e.0) (roomy_set room es key new all.1 le) where
  by : (b : Bool) → AreRoomy room (set_value (is_at (key_cmp key)) es new) → AreRoomy room (cond b ((e.0, new) ∷ es) (e ∷ set_value (is_at (key_cmp key)) es new))
  by true rest = (le, all.1)
  by false rest = (all.0, rest)
