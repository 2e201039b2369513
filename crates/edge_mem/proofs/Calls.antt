-- What the calls of a history do to its images.
use Rattle.std.proofs.Common.{◌≡◌, ◌⊎◌, inl, inr, ⊎_elim, refl, sym, ap, ◌∙◌, subst, ℕ, ◌+◌, ◌-◌, ◌/◌, ◌≤◌}
use Rattle.std.proofs.Common.{◌<◌, max, Option, None, List, [], ◌∷◌, ◌++◌, length, take, drop, arith, length-append, Some}
use Rattle.std.proofs.Common.{take-append-drop, length-take}
use Rattle.std.proofs.lemmas.List.{take_all, take-append-le, drop-drop}
use Rattle.edge_io.specs.Disk.{written, Becomes, UnfinishedWrite, UnfinishedCut, Follows, Leads, Within, Synced}
use Rattle.edge_io.specs.Moments.{TimeGoesOn}
use Rattle.edge_mem.specs.Events.{Event, Wrote, CutTo, Kept, Lost, State, done, replay, LeavesBy}
use Rattle.edge_mem.specs.Events.{IsImage, base, content_of, image_of, loss_of, changed, next, run, first_state}
use Rattle.edge_io.specs.declared.fault.FaultMode.{FaultMode}
use Rattle.edge_io.specs.declared.fault.FaultMode.TheVariants.{Once, Torn, Dead}
use Rattle.edge_mem.specs.Past.{Past, state, content, image, since, with_event, broken_write, failed_write}
use Rattle.edge_mem.specs.Refusals.{Leaves}
use Rattle.edge_mem.specs.declared.faulty.Refusal.{Refusal}
use Rattle.edge_mem.specs.declared.faulty.Refusal.TheVariants.{Broken, NoMemory}
use Rattle.edge_mem.specs.Laws.{run_push, replay_join, image_join, image_split, image_same, torn_same, torn_written}
use Rattle.edge_mem.specs.Laws.{next_wrote, content_there, length_written, Fits, fits_front, replay_is_image, run_fits}
use Rattle.edge_mem.specs.Steps.{EndsKept}
use Rattle.edge_mem.proofs.Sounds.{ended}

-- ---- time

pub elapses_same : (h g : Past) → g ≡ h → TimeGoesOn (length h.events) (length g.events) (since h) (since g) (image g)
elapses_same h g is = subst (λ (k : Past). TimeGoesOn (length h.events) (length k.events) (since h) (since k) (image k)) (sym is)
    (record { later = omega arith; nothing_else = λ t c le left. inl left; keeps = λ t c le left. left })

elapses_then : (h : Past) (e : Event) → TimeGoesOn (length h.events) (length (with_event h e).events) (since h) (since (with_event h e)) (image (with_event h e))
elapses_then h e = record {
  later = omega (arith, length-append h.events (e ∷ []));
  nothing_else = λ t c le left. ⊎_elim (old t c left) (λ gt. inr (subst
      (λ (es : List Event). image_of (run (first_state h.first) es) c)
      (take_all left.0 (h.events ++ e ∷ []) (omega (arith, gt, length-append h.events (e ∷ [])))) left.3)) (cases left.0);
  keeps = λ t c le left. (
    left.0,
    left.1,
    omega (arith, left.2, length-append h.events (e ∷ [])),
    subst
        (λ (es : List Event). image_of (run (first_state h.first) es) c) (sym (take-append-le left.0 h.events (e ∷ []) left.2)) left.3,
  );
}
  where
    cases : (m : ℕ) → (m ≤ length h.events) ⊎ (length h.events < m)
    cases m = grind arith

    old : (t : ℕ) (c : List ℕ) (left : since (with_event h e) t c) → left.0 ≤ length h.events → since h t c ⊎ image (with_event h e) c
    old t c left le = inl (
      left.0,
      left.1,
      le,
      subst (λ (es : List Event). image_of (run (first_state h.first) es) c)
          (take-append-le left.0 h.events (e ∷ []) le) left.3,
    )

pub elapses_push : (h g : Past) (e : Event) → g ≡ with_event h e → TimeGoesOn (length h.events) (length g.events) (since h) (since g) (image g)
elapses_push h g e is = subst (λ (k : Past). TimeGoesOn (length h.events) (length k.events) (since h) (since k) (image k)) (sym is) (elapses_then h e)

-- what was done to a past that is this one
pub done_to : (h k g : Past) (e : Event) → k ≡ h → g ≡ with_event k e → g ≡ with_event h e
done_to h k g e same is = is ∙ ap (λ (l : Past). with_event l e) same

-- ---- changes

pub state_then : (h g : Past) (e : Event) → g ≡ with_event h e → state g ≡ next (state h) e
state_then h g e is = ap state is ∙ run_push (first_state h.first) h.events e

module _ (h g : Past) (e : Event) (is : state g ≡ changed (state h) e) where
  pub follows : (step : List ℕ → List ℕ → Type 0) → ((d c : List ℕ) → LeavesBy e d c → step d c) → Follows step (image h) (image g)
  follows step leads c now =
      let p = image_split (state h).changes (e ∷ []) (base (state h)) c (subst (λ (s : State). image_of s c) is now) in
      (p.0, p.1, subst (step p.0) (sym p.2.2) (leads p.0 p.2.0 p.2.1))

  pub leads : Leads (LeavesBy e) (image h) (image g)
  leads c d was step = subst (λ (s : State). image_of s c) (sym is) (image_join (state h).changes (e ∷ []) (base (state h)) d c was (c, step, refl))

  pub content_done : content g ≡ done e (content h)
  content_done = ap content_of is ∙ replay_join (state h).changes (e ∷ []) (base (state h))

  pub losses_same : (state g).losses ≡ (state h).losses
  losses_same = ap (λ (s : State). s.losses) is

pub torn_more : (at n m : ℕ) (d c : List ℕ) → n ≤ m → UnfinishedWrite at n d c → UnfinishedWrite at m d c
torn_more at n m d c le t = record {
  before = t.before;
  behind = further c ∙ ap (λ (l : List ℕ). drop (m - n) l) t.behind ∙ sym (further d);
  no_shorter = t.no_shorter;
  no_longer = omega (arith, t.no_longer, le);
}
  where
    further : (l : List ℕ) → drop (at + m) l ≡ drop (m - n) (drop (at + n) l)
    further l = let same : at + m ≡ at + n + (m - n) = omega (arith, le) in ap (λ (k : ℕ). drop k l) same ∙ sym (drop-drop (m - n) (at + n) l)

module _ (h g : Past) (at : ℕ) (bytes : List ℕ) (le : at ≤ length (content h)) (is : g ≡ with_event h (Wrote at bytes)) where
  wrote_state : state g ≡ changed (state h) (Wrote at bytes)
  wrote_state = state_then h g (Wrote at bytes) is ∙ next_wrote (state h) at bytes le

  pub wrote_content : content g ≡ written at bytes (content h)
  wrote_content = content_done h g (Wrote at bytes) wrote_state

  pub wrote_becomes : Becomes (written at bytes) (Some (content h)) (Some (content g))
  wrote_becomes c told = let same : content g ≡ c = cc in (content h, refl, sym same ∙ wrote_content)

  pub wrote_crash : (n : ℕ) → length bytes ≤ n → Follows (UnfinishedWrite at n) (image h) (image g)
  wrote_crash n fits = follows h g (Wrote at bytes) wrote_state (UnfinishedWrite at n) (λ d c t. torn_more at (length bytes) n d c fits t)

  pub wrote_all : Leads (UnfinishedWrite at (length bytes)) (image h) (image g)
  wrote_all = leads h g (Wrote at bytes) wrote_state

  pub wrote_size : length (content g) ≡ max (length (content h)) (at + length bytes)
  wrote_size = ap length wrote_content ∙ length_written at bytes (content h) le

  pub wrote_losses : (state g).losses ≡ (state h).losses
  wrote_losses = losses_same h g (Wrote at bytes) wrote_state

module _ (h g : Past) (to : ℕ) (is : g ≡ with_event h (CutTo to)) where
  cut_state : state g ≡ changed (state h) (CutTo to)
  cut_state = state_then h g (CutTo to) is

  pub cut_content : content g ≡ take to (content h)
  cut_content = content_done h g (CutTo to) cut_state

  pub cut_becomes : Becomes (take to) (Some (content h)) (Some (content g))
  cut_becomes c told = let same : content g ≡ c = cc in (content h, refl, sym same ∙ cut_content)

  pub cut_crash : Follows (UnfinishedCut to) (image h) (image g)
  cut_crash = follows h g (CutTo to) cut_state (UnfinishedCut to) (λ d c t. t)

  pub cut_all : Leads (UnfinishedCut to) (image h) (image g)
  cut_all = leads h g (CutTo to) cut_state

  pub cut_size : to ≤ length (content h) → length (content g) ≡ to
  cut_size le = omega (arith, le, ap length cut_content, length-take to (content h))

  pub cut_losses : (state g).losses ≡ (state h).losses
  cut_losses = losses_same h g (CutTo to) cut_state

-- ---- a sync

module _ (h g : Past) (is : (g ≡ with_event h Kept) ⊎ ((g ≡ h) × EndsKept h.events)) where
  kept_state : (g ≡ with_event h Kept) → state g ≡ next (state h) Kept
  kept_state p = state_then h g Kept p

  pub sync_content : content g ≡ content h
  sync_content = ⊎_elim (λ p. ap content_of (kept_state p) ∙ replay_join (state h).kept (state h).changes (state h).first) (λ p. ap content p.0) is

  pub sync_image : (c : List ℕ) → image g c → c ≡ content h
  sync_image c now = ⊎_elim
      (λ p. subst (λ (s : State). image_of s c) (kept_state p) now ∙ replay_join (state h).kept (state h).changes (state h).first)
      (λ p. let none = ended h.first h.events p.1 in subst (λ (es : List Event). IsImage es (base (state h)) c) none (subst
      (λ (k : Past). image k c) p.0 now) ∙ sym (ap (λ (es : List Event). replay es (base (state h))) none))
      is

  pub sync_told : Synced (Some (content h)) (image g)
  sync_told c now = ap (λ (l : List ℕ). Some l) (sym (sync_image c now))

  pub sync_within : Within (image h) (image g)
  sync_within c now = subst (image h) (sym (sync_image c now)) (content_there h)

  pub sync_losses : (state g).losses ≡ (state h).losses
  sync_losses = ⊎_elim (λ p. ap (λ (s : State). s.losses) (kept_state p)) (λ p. ap (λ (k : Past). (state k).losses) p.0) is

  pub sync_time : TimeGoesOn (length h.events) (length g.events) (since h) (since g) (image g)
  sync_time = ⊎_elim (λ p. elapses_push h g Kept p) (λ p. elapses_same h g p.0) is

-- ---- a power loss

module _ (h g : Past) (choice : ℕ) (is : g ≡ with_event h (Lost choice)) where
  lost_state : state g ≡ next (state h) (Lost choice)
  lost_state = state_then h g (Lost choice) is

  loss_is_image : image h (loss_of (state h) choice)
  loss_is_image =
      let s = state h in
      let fits : Fits (take choice s.changes ++ drop choice s.changes) (base s) = subst
      (λ (es : List Event). Fits es (base s)) (sym (take-append-drop choice s.changes)) (run_fits (first_state h.first) h.events tt) in
      subst (λ (es : List Event). IsImage es (base s) (loss_of s choice)) (take-append-drop choice s.changes)
      (image_join (take choice s.changes) (drop choice s.changes) (base s) (loss_of s choice) (loss_of s choice)
      (replay_is_image (take choice s.changes) (base s) (fits_front (take choice s.changes) (drop choice s.changes) (base s) fits))
      (image_same (drop choice s.changes) (loss_of s choice)))

  pub lost_content : content g ≡ loss_of (state h) choice
  lost_content = ap content_of lost_state

  pub lost_image : (c : List ℕ) → image g c → c ≡ loss_of (state h) choice
  lost_image c now = subst (λ (s : State). image_of s c) lost_state now

  pub lost_left : (c : List ℕ) → Some (content g) ≡ Some c → image h c × ((state g).losses ≡ (state h).losses ++ (choice, c) ∷ [])
  lost_left c told =
      let same : content g ≡ c = cc in
      let left : loss_of (state h) choice ≡ c = sym lost_content ∙ same in
      (subst (image h) left loss_is_image, ap (λ (s : State). s.losses) lost_state ∙ ap (λ (l : List ℕ). (state h).losses ++ (choice, l) ∷ []) left)

  pub lost_told : Synced (Some (content g)) (image g)
  lost_told c now = ap (λ (l : List ℕ). Some l) (lost_content ∙ sym (lost_image c now))

  pub lost_within : Within (image h) (image g)
  lost_within c now = subst (image h) (sym (lost_image c now)) loss_is_image

-- ---- a write that was broken

-- nothing was written, or some bytes that are no more
abbrev pub IsPart : Past → Past → ℕ → List ℕ → Type 0
IsPart h g at bytes = (g ≡ h) ⊎ ((part : List ℕ) × (length part ≤ length bytes) × (g ≡ with_event h (Wrote at part)))

half_part : (h g : Past) (at : ℕ) (bytes : List ℕ) → g ≡ with_event h (Wrote at (take (length bytes / 2) bytes)) → IsPart h g at bytes
half_part h g at bytes is = inr (take (length bytes / 2) bytes, omega (arith, length-take (length bytes / 2) bytes), is)

broken_part : (mode : FaultMode) (h g : Past) (at : ℕ) (bytes : List ℕ) → g ≡ broken_write mode at bytes h → IsPart h g at bytes
broken_part Once h g at bytes is = inl is
broken_part Torn h g at bytes is = half_part h g at bytes is
broken_part Dead h g at bytes is = half_part h g at bytes is

failed_part : (how : Option FaultMode) (h g : Past) (at : ℕ) (bytes : List ℕ) → g ≡ failed_write how at bytes h → IsPart h g at bytes
failed_part None h g at bytes is = inl is
failed_part (Some mode) h g at bytes is = broken_part mode h g at bytes is

some_part : (e : Refusal) (how : Option FaultMode) (h g : Past) (at : ℕ) (bytes : List ℕ) → Leaves e (failed_write how at bytes h) h g
    → IsPart h g at bytes
some_part Broken how h g at bytes left = failed_part how h g at bytes left
some_part NoMemory how h g at bytes left = inl left

-- what a refused write left, of a past that is this one
pub refused_part : (e : Refusal) (how : Option FaultMode) (h k g l : Past) (at : ℕ) (bytes : List ℕ) → k ≡ h → l ≡ g
    → Leaves e (failed_write how at bytes k) k g → IsPart h l at bytes
refused_part e how h k g l at bytes same is left = subst (λ (m : Past). IsPart h m at bytes) (sym is) (subst
    (λ (m : Past). IsPart m g at bytes) same (some_part e how k g at bytes left))

module _ (h g : Past) (at : ℕ) (bytes : List ℕ) (le : at ≤ length (content h)) (part : IsPart h g at bytes) where
  pub part_crash : Follows (UnfinishedWrite at (length bytes)) (image h) (image g)
  part_crash = ⊎_elim (λ same c now. (c, subst (λ (k : Past). image k c) same now, torn_same at (length bytes) c))
      (λ p. wrote_crash h g at p.0 le p.2 (length bytes) p.1) part

  part_done : UnfinishedWrite at (length bytes) (content h) (content g)
  part_done = ⊎_elim
      (λ same. subst (λ (k : Past). UnfinishedWrite at (length bytes) (content h) (content k)) (sym same) (torn_same at (length bytes) (content h)))
      (λ p. subst (λ (l : List ℕ). UnfinishedWrite at (length bytes) (content h) l) (sym (wrote_content h g at p.0 le p.2))
      (torn_more at (length p.0) (length bytes) (content h) (written at p.0 (content h)) p.1 (torn_written at p.0 (content h) le)))
      part

  pub part_content : (c d : List ℕ) → Some (content h) ≡ Some c → Some (content g) ≡ Some d → UnfinishedWrite at (length bytes) c d
  part_content c d was now =
      let a : content h ≡ c = cc in
      let b : content g ≡ d = cc in
      subst (λ (l : List ℕ). UnfinishedWrite at (length bytes) l d) a (subst
      (λ (l : List ℕ). UnfinishedWrite at (length bytes) (content h) l) b part_done)

  pub part_low : length (content h) ≤ length (content g)
  part_low = ⊎_elim (λ same. omega (arith, ap (λ (k : Past). length (content k)) same)) (λ p. omega (arith, wrote_size h g at p.0 le p.2)) part

  pub part_high : length (content g) ≤ max (length (content h)) (at + length bytes)
  part_high = ⊎_elim (λ same. omega (arith, ap (λ (k : Past). length (content k)) same)) (λ p. omega (arith, wrote_size h g at p.0 le p.2, p.1)) part

  pub part_time : TimeGoesOn (length h.events) (length g.events) (since h) (since g) (image g)
  part_time = ⊎_elim (λ same. elapses_same h g same) (λ p. elapses_push h g (Wrote at p.0) p.2) part

  pub part_losses : (state g).losses ≡ (state h).losses
  part_losses = ⊎_elim (λ same. ap (λ (k : Past). (state k).losses) same) (λ p. wrote_losses h g at p.0 le p.2) part

pub front_fits : (n : ℕ) (xs ys : List ℕ) → xs ≡ take n ys → length xs ≤ length ys
front_fits n xs ys is = omega (arith, ap length is, length-take n ys)
