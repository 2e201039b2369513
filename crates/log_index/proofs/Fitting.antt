-- The cache fits the journal, before a read and after it.
use Rattle.std.proofs.Common.{◌+◌, ◌⊎◌, ◌≡◌, ◌≢◌, inl, inr, ℕ, ◌≤◌, ◌<◌, List, [], ◌∷◌, ◌++◌, length, take, drop, take-append-drop, length-append, length-drop, ◌-◌, get_or, Contains, zero, suc}
use Rattle.std.proofs.Common.{refl, sym, ap, ◌∙◌, subst, arith, rules, Some, Result, Ok, Err, OnOk, IsOk, is_some}
use Rattle.std.proofs.Math.Seq.{get_or-append_seam}
use Rattle.std.proofs.lemmas.List.{drop_at, get_or_append_left, take_all, take_at}
use Rattle.edge_io.specs.Disk.{IsTold}
use Rattle.edge_io.specs.Views.{DiskView}
use Rattle.gate_journal.specs.Reading.{ExtendsWithin, HasFrameAt, ReadsOnly}
use Rattle.gate_journal.specs.declared.writer.Writer.{Writer}
use Rattle.gate_journal.proofs.FrameReads.{frame_in_image, frame_once, some_of}
use Rattle.share_model.specs.Rooms.{Appends, Filled}
use Rattle.share_model.specs.declared.fault.BatchRead.{BatchRead}
use Rattle.share_model.specs.declared.fault.BatchRead.TheVariants.{NoMemory}
use Rattle.log_index.specs.Indexes.{CachesAlso, FillsWithin, IndexParts, Indexes, IsEntryAt}
use Rattle.log_index.specs.Searches.{IsAppended}
use Rattle.log_index.specs.declared.entry.Entry.{Entry}

-- ---- entries by number

pub entry_at : (entries : List Entry) (n : ℕ) (d : Entry) → n < length entries → IsEntryAt entries n (get_or entries n d)
entry_at [] n d lt = absurd (omega (arith, lt))
entry_at (e ∷ entries) zero d lt = ([], entries, refl, refl)
entry_at (e ∷ entries) (suc n) d lt =
    let r = entry_at entries n d (omega (arith, lt)) in
    (e ∷ r.0, r.1, ap (λ (l : List Entry). e ∷ l) r.2, ap suc r.3)

entry_is : (entries : List Entry) (n : ℕ) (e d : Entry) → IsEntryAt entries n e → get_or entries n d ≡ e
entry_is entries n e d at = ap (λ (l : List Entry). get_or l n d) at.2 ∙ ap (λ (k : ℕ). get_or (at.0 ++ (e ∷ at.1)) k d) at.3 ∙ get_or-append_seam at.0 e at.1 d

pub entry_once : (entries : List Entry) (n : ℕ) (e f : Entry) → IsEntryAt entries n e → IsEntryAt entries n f → e ≡ f
entry_once entries n e f a b = sym (entry_is entries n e e a) ∙ entry_is entries n f e b

-- ---- frames

same_behind : (old new a b : List ℕ) → new ≡ old ++ a → new ≡ old ++ b → a ≡ b
same_behind old new a b p q = sym (drop_at old a (length old) refl) ∙ ap (λ (l : List ℕ). drop (length old) l) (sym p ∙ q) ∙ drop_at old b (length old) refl

-- what stands behind the old bytes
pub rest_behind : (most : ℕ) (old new : List ℕ) → ExtendsWithin most old new → new ≡ old ++ drop (length old) new
rest_behind most old new e = sym (take-append-drop (length old) new) ∙ ap (λ (l : List ℕ). l ++ drop (length old) new) e.front

-- that part is cut out of the room's bytes
pub cut_rest : (most : ℕ) (old new before whole part : List ℕ) → ExtendsWithin most old new → before ≡ old → whole ≡ new
    → part ≡ take (length whole - length before) (drop (length before) whole) → new ≡ old ++ part
cut_rest most old new before whole part e b w is =
    let cut : part ≡ drop (length before) whole = is ∙ take_all (length whole - length before) (drop (length before) whole) (omega (arith, length-drop (length before) whole)) in
    let same : drop (length before) whole ≡ drop (length old) new = ap (λ (l : List ℕ). drop (length l) whole) b ∙ ap (λ (l : List ℕ). drop (length old) l) w in
    rest_behind most old new e ∙ ap (λ (l : List ℕ). old ++ l) (sym (cut ∙ same))

module _ {D : Type 0} (seen : D → DiskView)
    (is_image : (disk : D) (c : List ℕ) → (seen disk).content ≡ Some c → (seen disk).image c × ((seen disk).size ≡ length c)) where
  -- where the disk tells its content, one frame stands at a place
  pub one_frame : (w : Writer D) (place : ℕ) (f g : List ℕ) → IsTold (seen w.disk).content → HasFrameAt seen w place f → HasFrameAt seen w place g → f ≡ g
  one_frame w place f g told a b =
      let c = some_of (seen w.disk).content told in
      let image = (is_image w.disk c.0 c.1).0 in
      frame_once c.0 place f g (frame_in_image seen w place f c.0 a image) (frame_in_image seen w place g c.0 b image)

  -- what is cached is the frame, so it was appended as without the cache
  pub cached_ok : (index : IndexParts) (w : Writer D) → Indexes seen index w → (number : ℕ) (bytes : List ℕ) → Contains index.cached (number, bytes)
      → (r : Result (Unit {0}) BatchRead) (old new : Filled) → IsAppended r old new bytes
      → OnOk r (IsTold (seen w.disk).content → (e : Entry) (frame : List ℕ) → IsEntryAt index.entries number e → HasFrameAt seen w e.place frame → Appends old new frame)
  cached_ok index w fits number bytes has (Ok x) old new done = λ told e frame at here.
      subst (λ (b : List ℕ). Appends old new b) (one_frame w e.place bytes frame told (fits.cached told number bytes e has at) here) done
  cached_ok index w fits number bytes has (Err x) old new done = tt

  pub cached_spared : (index : IndexParts) (w : Writer D) → Indexes seen index w → (number : ℕ) (bytes : List ℕ) → Contains index.cached (number, bytes)
      → (r : Result (Unit {0}) BatchRead) (old new : Filled) → IsAppended r old new bytes
      → (e : Entry) → IsEntryAt index.entries number e → e.size ≤ old.spare → r ≢ Err NoMemory
  cached_spared index w fits number bytes has (Ok x) old new done e at room = λ is. absurd (search (rules, is))
  cached_spared index w fits number bytes has (Err x) old new done e at room = λ is. absurd (done.2 (omega (arith, fits.short number bytes e has at, room)))

  -- it is no longer than the entry says
  pub cached_extends : (index : IndexParts) (w : Writer D) → Indexes seen index w → (number : ℕ) (bytes : List ℕ) → Contains index.cached (number, bytes)
      → (r : Result (Unit {0}) BatchRead) (old new : Filled) → IsAppended r old new bytes
      → OnOk r ((e : Entry) → IsEntryAt index.entries number e → FillsWithin e.size old new)
  cached_extends index w fits number bytes has (Ok x) old new done = λ e at.
      let short = fits.short number bytes e has at in
      let len : length new.bytes ≡ length old.bytes + length bytes = ap length done.bytes ∙ length-append old.bytes bytes in
      record {
        bytes = record {
          front = ap (λ (l : List ℕ). take (length old.bytes) l) done.bytes ∙ take_at old.bytes bytes (length old.bytes) refl;
          longer = omega (arith, len);
          within = omega (arith, len, short);
        };
        spare = omega (arith, done.spare, short);
      }
  cached_extends index w fits number bytes has (Err x) old new done = tt

  -- and what was read is the frame
  pub read_ok : (index : IndexParts) (w : Writer D) → Indexes seen index w → (number : ℕ) (entry : Entry) → IsEntryAt index.entries number entry
      → (r : Result (Unit {0}) BatchRead) (old mid new : Filled) → mid ≡ old
      → OnOk r (IsTold (seen w.disk).content → (frame : List ℕ) → HasFrameAt seen w entry.place frame → length frame ≤ entry.size → Appends mid new frame)
      → OnOk r (IsTold (seen w.disk).content → (e : Entry) (frame : List ℕ) → IsEntryAt index.entries number e → HasFrameAt seen w e.place frame → Appends old new frame)
  read_ok index w fits number entry here (Ok x) old mid new same ok = λ told e frame at is.
      let stands = fits.frames number e at in
      let len : length frame ≡ length stands.0 = ap length (one_frame w e.place frame stands.0 told is stands.1) in
      let entry_same : e ≡ entry = entry_once index.entries number e entry at here in
      subst (λ (m : Filled). Appends m new frame) same (ok told frame (subst (λ (f : Entry). HasFrameAt seen w f.place frame) entry_same is)
      (subst (λ (f : Entry). length frame ≤ f.size) entry_same (omega (arith, len, stands.2))))
  read_ok index w fits number entry here (Err x) old mid new same ok = tt

-- what was read is no longer than the entry says
pub read_extends : (entries : List Entry) (number : ℕ) (entry : Entry) → IsEntryAt entries number entry
    → (r : Result (Unit {0}) BatchRead) (old mid new : Filled) → mid ≡ old
    → OnOk r (ExtendsWithin entry.size mid.bytes new.bytes) → OnOk r (mid.spare ≤ new.spare + entry.size)
    → OnOk r ((e : Entry) → IsEntryAt entries number e → FillsWithin e.size old new)
read_extends entries number entry here (Ok x) old mid new same extends less = λ e at.
    subst (λ (m : Filled). FillsWithin e.size m new) same
    (subst (λ (f : Entry). FillsWithin f.size mid new) (entry_once entries number entry e here at) (record { bytes = extends; spare = less }))
read_extends entries number entry here (Err x) old mid new same extends less = tt

-- what was cached before, seen from earlier
pub also_from : (old mid new : List (ℕ × List ℕ)) (number : ℕ) (P Q : List ℕ → Type 0) → CachesAlso mid number P new
    → ((k : ℕ) (bytes : List ℕ) → Contains mid (k, bytes) → Contains old (k, bytes)) → ((bytes : List ℕ) → P bytes → Q bytes) → CachesAlso old number Q new
also_from old mid new number P Q also back f = λ k bytes has. elim (also k bytes has) [
  | inl was ↦ inl (back k bytes was)
  | inr is ↦ inr (is.0, f bytes is.1)
]

pub still : {D : Type 0} (seen : D → DiskView) (a b : Writer D) → ReadsOnly seen a b → (place : ℕ) (frame : List ℕ) → HasFrameAt seen a place frame → HasFrameAt seen b place frame
still seen a b only place frame h = record { frames = h.frames; pending = h.pending; stands = only.stands h.frames h.pending h.stands; at = h.at }

pub told_before : {D : Type 0} (seen : D → DiskView) (a b : Writer D) → ReadsOnly seen a b → IsTold (seen b.disk).content → IsTold (seen a.disk).content
told_before seen a b only told = ap is_some (sym only.looks.stays.content) ∙ told

-- what is new in the cache
pub record FitsAnew {D : Type 0} (seen : D → DiskView) (entries : List Entry) (w : Writer D) (cached : List (ℕ × List ℕ)) : Type 0 where
  pub is : IsTold (seen w.disk).content → (k : ℕ) (bytes : List ℕ) (e : Entry) → Contains cached (k, bytes) → IsEntryAt entries k e → HasFrameAt seen w e.place bytes
  pub known : (k : ℕ) (bytes : List ℕ) → Contains cached (k, bytes) → k < length entries
  pub short : (k : ℕ) (bytes : List ℕ) (e : Entry) → Contains cached (k, bytes) → IsEntryAt entries k e → length bytes ≤ e.size

-- the index still fits, with what it has cached besides
pub still_fits : {D : Type 0} (seen : D → DiskView) (old new : IndexParts) (a b : Writer D) → Indexes seen old a
    → ((place : ℕ) (frame : List ℕ) → HasFrameAt seen a place frame → HasFrameAt seen b place frame) → (IsTold (seen b.disk).content → IsTold (seen a.disk).content)
    → new.entries ≡ old.entries → FitsAnew seen old.entries a new.cached → Indexes seen new b
still_fits seen old new a b fits keeps back same anew = record {
  frames = λ n e at.
      let here = fits.frames n e (subst (λ (l : List Entry). IsEntryAt l n e) same at) in
      (here.0, keeps e.place here.0 here.1, here.2);
  cached = λ told k bytes e has at. keeps e.place bytes (anew.is (back told) k bytes e has (subst (λ (l : List Entry). IsEntryAt l k e) same at));
  known = λ k bytes has. subst (λ (l : List Entry). k < length l) (sym same) (anew.known k bytes has);
  short = λ k bytes e has at. anew.short k bytes e has (subst (λ (l : List Entry). IsEntryAt l k e) same at);
}

-- where nothing is cached but what was
pub fits_less : {D : Type 0} (seen : D → DiskView) (old : IndexParts) (a : Writer D) (cached : List (ℕ × List ℕ)) → Indexes seen old a
    → ((k : ℕ) (bytes : List ℕ) → Contains cached (k, bytes) → Contains old.cached (k, bytes)) → FitsAnew seen old.entries a cached
fits_less seen old a cached fits back = record {
  is = λ told k bytes e has at. fits.cached told k bytes e (back k bytes has) at;
  known = λ k bytes has. fits.known k bytes (back k bytes has);
  short = λ k bytes e has at. fits.short k bytes e (back k bytes has) at;
}

-- what is cached anew is the frame
cached_anew : {D : Type 0} (seen : D → DiskView) (old : IndexParts) (a : Writer D) (number : ℕ) (entry : Entry) (cached : List (ℕ × List ℕ))
    (r : Result (Unit {0}) BatchRead) (before after : Filled)
    → Indexes seen old a → IsEntryAt old.entries number entry
    → OnOk r (IsTold (seen a.disk).content → (frame : List ℕ) → HasFrameAt seen a entry.place frame → length frame ≤ entry.size → Appends before after frame)
    → CachesAlso old.cached number (λ bytes. IsOk r × (after.bytes ≡ before.bytes ++ bytes)) cached
    → IsTold (seen a.disk).content → (k : ℕ) (bytes : List ℕ) (e : Entry) → Contains cached (k, bytes) → IsEntryAt old.entries k e → HasFrameAt seen a e.place bytes
cached_anew seen old a number entry cached (Ok x) before after fits here ok also told k bytes e has at = elim (also k bytes has) [
  | inl was ↦ fits.cached told k bytes e was at
  | inr is ↦
      let frame = fits.frames number entry here in
      let same : frame.0 ≡ bytes = same_behind before.bytes after.bytes frame.0 bytes (ok told frame.0 frame.1 (omega (arith, frame.2))).bytes is.1.1 in
      let entry_same : entry ≡ e = entry_once old.entries number entry e here (subst (λ (n : ℕ). IsEntryAt old.entries n e) is.0 at) in
      subst (λ (f : Entry). HasFrameAt seen a f.place bytes) entry_same (subst (λ (b : List ℕ). HasFrameAt seen a entry.place b) same frame.1)
]
cached_anew seen old a number entry cached (Err x) before after fits here ok also told k bytes e has at = elim (also k bytes has) [
  | inl was ↦ fits.cached told k bytes e was at
  | inr is ↦ absurd (search (rules, is.1.0))
]

entry_below : (entries : List Entry) (n : ℕ) (e : Entry) → IsEntryAt entries n e → n < length entries
entry_below entries n e at = omega (arith, ap length at.2, length-append at.0 (e ∷ at.1), at.3)

-- a frame that was read, and is cached
pub fits_more : {D : Type 0} (seen : D → DiskView) (old : IndexParts) (a : Writer D) (number : ℕ) (entry : Entry) (cached : List (ℕ × List ℕ))
    (r : Result (Unit {0}) BatchRead) (before after : Filled)
    → Indexes seen old a → IsEntryAt old.entries number entry
    → OnOk r (IsTold (seen a.disk).content → (frame : List ℕ) → HasFrameAt seen a entry.place frame → length frame ≤ entry.size → Appends before after frame)
    → OnOk r (ExtendsWithin entry.size before.bytes after.bytes)
    → CachesAlso old.cached number (λ bytes. IsOk r × (after.bytes ≡ before.bytes ++ bytes)) cached
    → FitsAnew seen old.entries a cached
fits_more seen old a number entry cached r before after fits here ok extends also = record {
  is = cached_anew seen old a number entry cached r before after fits here ok also;
  known = λ k bytes has. elim (also k bytes has) [
    | inl was ↦ fits.known k bytes was
    | inr is ↦ subst (λ (n : ℕ). n < length old.entries) (sym is.0) (entry_below old.entries number entry here)
  ];
  short = λ k bytes e has at. elim (also k bytes has) [
    | inl was ↦ fits.short k bytes e was at
    | inr is ↦
        let same : entry ≡ e = entry_once old.entries number entry e here (subst (λ (n : ℕ). IsEntryAt old.entries n e) is.0 at) in
        let whole : ExtendsWithin entry.size before.bytes after.bytes = on_ok_is r _ extends is.1.0 in
        subst (λ (f : Entry). length bytes ≤ f.size) same (omega (arith, whole.within, ap length is.1.1, length-append before.bytes bytes))
  ];
}
  where
    on_ok_is : (r : Result (Unit {0}) BatchRead) (P : Type 0) → OnOk r P → IsOk r → P
    on_ok_is (Ok x) P p is = p
    on_ok_is (Err x) P p is = absurd (search (rules, is))

-- ---- one batch more, for those who append to the journal and push

last_or_before : (entries : List Entry) (e x : Entry) (n : ℕ) → IsEntryAt (entries ++ e ∷ []) n x → IsEntryAt entries n x ⊎ ((n ≡ length entries) × (e ≡ x))
last_or_before entries e x n at =
    let below : n < length entries + 1 = omega (arith, entry_below (entries ++ e ∷ []) n x at, length-append entries (e ∷ [])) in
    let found : get_or (entries ++ e ∷ []) n x ≡ x = entry_is (entries ++ e ∷ []) n x x at in
    elim (split n (length entries)) [
      | inl lt ↦ inl (subst (λ (f : Entry). IsEntryAt entries n f) (sym (get_or_append_left entries (e ∷ []) x n lt) ∙ found) (entry_at entries n x lt))
      | inr le ↦
          let last : n ≡ length entries = omega (arith, below, le) in
          inr (last, sym (get_or-append_seam entries e [] x) ∙ ap (λ (k : ℕ). get_or (entries ++ e ∷ []) k x) (sym last) ∙ found)
    ]
  where
    split : (n m : ℕ) → (n < m) ⊎ (m ≤ n)
    split n m = grind arith

-- what holds of an index still does when a frame was appended to its journal and pushed
pub pushed_fits : {D : Type 0} (seen : D → DiskView) (old new : IndexParts) (a b : Writer D) (e : Entry) (frame : List ℕ) → Indexes seen old a
    → new.entries ≡ old.entries ++ e ∷ [] → new.cached ≡ old.cached
    → ((place : ℕ) (frame : List ℕ) → HasFrameAt seen a place frame → HasFrameAt seen b place frame) → (IsTold (seen b.disk).content → IsTold (seen a.disk).content)
    → HasFrameAt seen b e.place frame → length frame ≡ e.size → Indexes seen new b
pushed_fits seen old new a b e frame fits pushed same keeps back here size =
    let at_old : (n : ℕ) (x : Entry) → IsEntryAt new.entries n x → IsEntryAt (old.entries ++ e ∷ []) n x = λ n x at. subst (λ (l : List Entry). IsEntryAt l n x) pushed at in
    let had : (n : ℕ) (bytes : List ℕ) → Contains new.cached (n, bytes) → Contains old.cached (n, bytes) = λ n bytes has. subst (λ (l : List (ℕ × List ℕ)). Contains l (n, bytes)) same has in
    record {
      frames = λ n x at. elim (last_or_before old.entries e x n (at_old n x at)) [
        | inl was ↦ let f = fits.frames n x was in (f.0, keeps x.place f.0 f.1, f.2)
        | inr is ↦ (frame, subst (λ (f : Entry). HasFrameAt seen b f.place frame) is.1 here, size ∙ ap (λ (f : Entry). f.size) is.1)
      ];
      cached = λ told n bytes x has at. elim (last_or_before old.entries e x n (at_old n x at)) [
        | inl was ↦ keeps x.place bytes (fits.cached (back told) n bytes x (had n bytes has) was)
        | inr is ↦ absurd (omega (arith, is.0, fits.known n bytes (had n bytes has)))
      ];
      known = λ n bytes has. omega (arith, fits.known n bytes (had n bytes has), ap length pushed, length-append old.entries (e ∷ []));
      short = λ n bytes x has at. elim (last_or_before old.entries e x n (at_old n x at)) [
        | inl was ↦ fits.short n bytes x (had n bytes has) was
        | inr is ↦ absurd (omega (arith, is.0, fits.known n bytes (had n bytes has)))
      ];
    }

-- and when nothing was, in a journal with these frames still
pub fits_still : {D : Type 0} (seen : D → DiskView) (old new : IndexParts) (a b : Writer D) → Indexes seen old a
    → new.entries ≡ old.entries → new.cached ≡ old.cached
    → ((place : ℕ) (frame : List ℕ) → HasFrameAt seen a place frame → HasFrameAt seen b place frame) → (IsTold (seen b.disk).content → IsTold (seen a.disk).content)
    → Indexes seen new b
fits_still seen old new a b fits entries cached keeps back = still_fits seen old new a b fits keeps back entries
    (fits_less seen old a new.cached fits (λ k bytes has. subst (λ (l : List (ℕ × List ℕ)). Contains l (k, bytes)) cached has))

-- an index of nothing fits any journal
pub fits_none : {D : Type 0} (seen : D → DiskView) (index : IndexParts) (w : Writer D) → index.cached ≡ []
    → ((number : ℕ) (e : Entry) → IsEntryAt index.entries number e → (frame : List ℕ) × HasFrameAt seen w e.place frame × (length frame ≡ e.size))
    → Indexes seen index w
fits_none seen index w none frames = record {
  frames = frames;
  cached = λ told k bytes e has at. absurd (not_there k bytes has);
  known = λ k bytes has. absurd (not_there k bytes has);
  short = λ k bytes e has at. absurd (not_there k bytes has);
}
  where
    nowhere : (x : ℕ × List ℕ) → Contains [] x → ⊥
    nowhere x has = search (rules, has)

    not_there : (k : ℕ) (bytes : List ℕ) → Contains index.cached (k, bytes) → ⊥
    not_there k bytes has = nowhere (k, bytes) (subst (λ (l : List (ℕ × List ℕ)). Contains l (k, bytes)) none has)
