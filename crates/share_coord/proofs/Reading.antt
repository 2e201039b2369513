-- Contents stand for one map of states, and a content with a refused frame for none.
use Rattle.std.proofs.Common.{◌≡◌, ◌⊎◌, inl, inr, Some, None, if◌then◌else◌, ◌<◌, ◌^◌, sym, ap, ◌∙◌, subst, arith, ℕ, List, [], ◌∷◌, ◌++◌, length, Bool, true, false}
use Rattle.coord_checkpoint.specs.declared.fault.CoordOpen.{CoordOpen}
use Rattle.coord_checkpoint.specs.declared.fault.CoordOpen.TheVariants.{Damaged, Device, NoMemory}
use Rattle.share_model.specs.ShareStates.{AreLaid, start_after}
use Rattle.share_model.specs.declared.run.Run.{Run}
use Rattle.state_records.specs.declared.record.StateRecord.{StateRecord}
use Rattle.state_records.specs.declared.record.StateRecord.TheVariants.{Snapshot, Update, Removal, Head, Seal}
use Rattle.state_records.proofs.Whole.{one_record}
use Rattle.share_coord.specs.Stored.{Entries, Follows, Accepts, AreAccepted, AreTaken, IsRefused, IsRefusedOn, AreDamaged, kept_at, next_snapshot, records_from, walk_of, with_kept, snapshot_of, update_of}
use Rattle.share_coord.specs.Parts.{KeptState}
use Rattle.share_coord.proofs.Spans.{laid_once}
use Rattle.share_coord.specs.declared.walk.Walk.{Walk}
use Rattle.share_coord.specs.declared.walk.Walk.TheVariants.{First}
use Rattle.share_model.specs.Keys.{KeyParts}
use Rattle.share_coord.proofs.Keys.{next_few, some_is, some_none}
use Rattle.share_coord.proofs.Taken.{push_before}
use Rattle.share_coord.proofs.Unwritten.{next_same}
use Rattle.share_coord.proofs.Walking.{front_taken, records_few}
use Rattle.share_coord.specs.Unwritten.{AreKeptOf}

follows_once : (old : Entries) (r : StateRecord) (m n : Entries) → Follows old r m → Follows old r n → m ≡ n
follows_once old (Snapshot state) m n p q =
    let same = laid_once state.start [] state.runs p.runs q.runs p.laid q.laid in
    p.is ∙ (ap (λ (l : List Run). with_kept old state.key (snapshot_of state l)) same ∙ sym q.is)
follows_once old (Update state) m n p q =
    let one : p.kept ≡ q.kept = some_is p.kept q.kept (sym p.known ∙ q.known) in
    let theirs = subst (λ (k : KeptState). AreLaid (start_after k.view.start state.start) k.view.runs state.runs q.runs) (sym one) q.laid in
    let same = laid_once (start_after p.kept.view.start state.start) p.kept.view.runs state.runs p.runs q.runs p.laid theirs in
    p.is ∙ (ap (λ (k : KeptState). with_kept old state.key (update_of k state p.runs)) one
    ∙ (ap (λ (l : List Run). with_kept old state.key (update_of q.kept state l)) same ∙ sym q.is))
follows_once old (Removal key) m n p q = p.is ∙ sym q.is
follows_once old (Head generation) m n p q = absurd p
follows_once old Seal m n p q = absurd p

accepts_once : (old : Entries) (frame : List ℕ) (m n : Entries) → Accepts old frame m → Accepts old frame n → m ≡ n
accepts_once old frame m n p q =
    let one = one_record q.written p.written q.valid p.valid (sym q.bytes ∙ p.bytes) in
    follows_once old p.written m n p.follows (subst (λ (r : StateRecord). Follows old r n) one q.follows)

pub accepted_once : (old : Entries) (frames : List (List ℕ)) (m n : Entries) → AreAccepted old frames m → AreAccepted old frames n → m ≡ n
accepted_once old [] m n p q = p ∙ sym q
accepted_once old (f ∷ fs) m n p q =
    accepted_once p.0 fs m n p.2 (subst (λ (e : Entries). AreAccepted e fs n) (sym (accepts_once old f p.0 q.0 p.1 q.1)) q.2)

pub taken_once : (frames : List (List ℕ)) (m n : Entries) → AreTaken frames m → AreTaken frames n → m ≡ n
taken_once frames m n p q = accepted_once [] (records_from First frames) m n p q

-- a key has fewer snapshots than there are frames
pub next_held : (frames : List (List ℕ)) (entries written : Entries) (key : KeyParts) → AreTaken frames written → AreKeptOf written entries → length frames < 2 ^ 63
    → next_snapshot (kept_at entries key) < 2 ^ 64
next_held frames entries written key taken kept few =
    let le = records_few First frames in
    subst (λ (n : ℕ). n < 2 ^ 64) (next_same written entries key kept) (next_few (records_from First frames) written key taken (omega (arith, le, few)))

-- a frame that doesn't go on from those before it
pub next_refused : (frames : List (List ℕ)) (frame : List ℕ) (walk : Walk) (entries : Entries) → walk ≡ walk_of First frames → AreTaken frames entries
    → ((new : Entries) → AreAccepted entries (records_from walk (frame ∷ [])) new → ⊥) → (new : Entries) → AreTaken (frames ++ frame ∷ []) new → ⊥
next_refused frames frame walk entries is taken refused new a =
    let s = front_taken frames (frame ∷ []) new a in
    refused new (subst (λ (w : Walk). AreAccepted entries (records_from w (frame ∷ [])) new) (sym is)
    (subst (λ (e : Entries). AreAccepted e (records_from (walk_of First frames) (frame ∷ [])) new) (taken_once frames s.0 entries s.1 taken) s.2))

pub refused_clash : (frames : List (List ℕ)) (place : ℕ) (entries : Entries) → IsRefused frames place → AreTaken frames entries → ⊥
refused_clash frames place entries is a =
    let parts = is.parts ∙ sym (push_before is.before is.frame is.behind) in
    let s = front_taken (is.before ++ is.frame ∷ []) is.behind entries (subst (λ (l : List (List ℕ)). AreTaken l entries) parts a) in
    is.refused s.0 s.1

-- ---- what a refusal names

which : CoordOpen → Bool
which (Damaged second place) = second
which (Device second) = false
which NoMemory = false

where_at : CoordOpen → ℕ
where_at (Damaged second place) = place
where_at (Device second) = 0
where_at NoMemory = 0

-- on the live disk
pub refused_damaged : (x y : List ℕ) (on_second : Bool) (told : ℕ) (second : Bool) (place : ℕ) → IsRefusedOn x y on_second told
    → ◌≡◌ {A = CoordOpen} (Damaged on_second told) (Damaged second place) → AreDamaged x y second place
unfolding which where_at
refused_damaged x y on_second told second place is e =
    inr (subst (λ (b : Bool). IsRefusedOn x y b place) (ap which e) (subst (λ (n : ℕ). IsRefusedOn x y on_second n) (ap where_at e) is))

is_damaged : CoordOpen → Type 0
is_damaged (Damaged second place) = Unit {0}
is_damaged (Device second) = ⊥
is_damaged NoMemory = ⊥

pub no_device : (second other : Bool) (place : ℕ) → Damaged second place ≡ Device other → ⊥
unfolding is_damaged
no_device second other place is = subst is_damaged is tt

-- ---- the live disk

pub live_one : (b sealed : Bool) (ones twos frames : List (List ℕ)) → (if b then Some twos else if sealed then Some ones else None) ≡ Some frames
    → (frames ≡ ones) ⊎ (frames ≡ twos)
live_one true sealed ones twos frames is = inr (sym (some_is twos frames is))
live_one false true ones twos frames is = inl (sym (some_is ones frames is))
live_one false false ones twos frames is = absurd (some_none frames (sym is))
