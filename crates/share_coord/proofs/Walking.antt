-- The walk over the frames of a journal, one frame further.
use Rattle.std.proofs.Common.{◌≡◌, ◌<◌, ◌≤◌, ◌+◌, ◌^◌, refl, sym, ap, ◌∙◌, subst, arith, append_assoc, ℕ, List, [], ◌∷◌, ◌++◌, length, Bool, true, false, if◌then◌else◌}
use Rattle.checkpoint_journal.specs.Checkpoints.{AreSnapshots}
use Rattle.checkpoint_journal.specs.Generations.{checkpoint_of, head_frame, mark_of, mark_read, seal_frame}
use Rattle.checkpoint_journal.specs.declared.mark.Mark.{Mark}
use Rattle.checkpoint_journal.specs.declared.mark.Mark.TheVariants as marks
use Rattle.checkpoint_journal.proofs.Marks.{head_mark, seal_mark}
use Rattle.state_records.specs.declared.record.StateRecord.{StateRecord}
use Rattle.state_records.specs.declared.record.StateRecord.TheVariants as records
use Rattle.state_records.proofs.Whole.{record_again}
use Rattle.std.specs.Prelude.{Ok}
use Rattle.share_coord.specs.Stored.{Entries, Accepts, AreAccepted, AreTaken, Follows, is_passed, records_from, walk_of, walked}
use Rattle.share_coord.specs.declared.walk.Walk.{Walk}
use Rattle.share_coord.specs.declared.walk.Walk.TheVariants.{First, Snapshots, Records}

pub accepted_then : (old mid new : Entries) (frames : List (List ℕ)) (frame : List ℕ) → AreAccepted old frames mid → Accepts mid frame new
    → AreAccepted old (frames ++ frame ∷ []) new
accepted_then old mid new [] frame is a = (new, subst (λ e. Accepts e frame new) is a, refl)
accepted_then old mid new (f ∷ fs) frame h a = (h.0, h.1, accepted_then h.0 mid new fs frame h.2 a)

pub records_more : (walk : Walk) (xs ys : List (List ℕ)) → records_from walk (xs ++ ys) ≡ records_from walk xs ++ records_from (walk_of walk xs) ys
records_more walk [] ys = refl
records_more walk (x ∷ xs) ys =
    let one : List (List ℕ) = if is_passed walk (mark_of x) then [] else x ∷ [] in
    ap (λ (l : List (List ℕ)). one ++ l) (records_more (walked walk (mark_of x)) xs ys)
    ∙ sym (append_assoc one (records_from (walked walk (mark_of x)) xs) (records_from (walk_of (walked walk (mark_of x)) xs) ys))

pub walk_more : (walk : Walk) (xs : List (List ℕ)) (y : List ℕ) → walk_of walk (xs ++ y ∷ []) ≡ walked (walk_of walk xs) (mark_of y)
walk_more walk [] y = refl
walk_more walk (x ∷ xs) y = walk_more (walked walk (mark_of x)) xs y

-- a frame that is a record of the states, by its mark
abbrev pub IsPut : Mark → Type 0
IsPut (marks.Head n) = ⊥
IsPut marks.Snapshot = Unit {0}
IsPut marks.Seal = ⊥
IsPut marks.Other = Unit {0}

not_passed : (walk : Walk) (mark : Mark) → IsPut mark → is_passed walk mark ≡ false
not_passed First (marks.Head n) is = absurd is
not_passed First marks.Snapshot is = refl
not_passed First marks.Seal is = absurd is
not_passed First marks.Other is = refl
not_passed Snapshots (marks.Head n) is = refl
not_passed Snapshots marks.Snapshot is = refl
not_passed Snapshots marks.Seal is = absurd is
not_passed Snapshots marks.Other is = refl
not_passed Records mark is = refl

-- it stands behind the records before it
pub records_put : (walk : Walk) (frames : List (List ℕ)) (frame : List ℕ) → IsPut (mark_of frame) → records_from walk (frames ++ frame ∷ []) ≡ records_from walk frames ++ frame ∷ []
records_put walk frames frame is = records_more walk frames (frame ∷ [])
    ∙ ap (λ (b : Bool). records_from walk frames ++ ((if b then [] else frame ∷ []) ++ [])) (not_passed (walk_of walk frames) (mark_of frame) is)

-- one that is passed over adds nothing
pub records_pass : (walk : Walk) (frames : List (List ℕ)) (frame : List ℕ) → is_passed (walk_of walk frames) (mark_of frame) ≡ true → records_from walk (frames ++ frame ∷ []) ≡ records_from walk frames
records_pass walk frames frame is = records_more walk frames (frame ∷ [])
    ∙ (ap (λ (b : Bool). records_from walk frames ++ ((if b then [] else frame ∷ []) ++ [])) is ∙ nil (records_from walk frames))
  where
    nil : (l : List (List ℕ)) → l ++ [] ≡ l
    nil [] = refl
    nil (x ∷ xs) = ap (λ (l : List (List ℕ)). x ∷ l) (nil xs)

pub records_keep : (walk : Walk) (frames : List (List ℕ)) (frame : List ℕ) → is_passed (walk_of walk frames) (mark_of frame) ≡ false → records_from walk (frames ++ frame ∷ []) ≡ records_from walk frames ++ frame ∷ []
records_keep walk frames frame is = records_more walk frames (frame ∷ [])
    ∙ ap (λ (b : Bool). records_from walk frames ++ ((if b then [] else frame ∷ []) ++ [])) is

put_by : (old : Entries) (r : StateRecord) (new : Entries) → Follows old r new → IsPut (mark_read (Ok r))
put_by old (records.Snapshot state) new f = tt
put_by old (records.Update state) new f = tt
put_by old (records.Removal key) new f = tt
put_by old (records.Head generation) new f = absurd f
put_by old records.Seal new f = absurd f

pub accepts_put : (old : Entries) (frame : List ℕ) (new : Entries) → Accepts old frame new → IsPut (mark_of frame)
accepts_put old frame new a =
    subst IsPut (sym (ap mark_of a.bytes ∙ ap mark_read (record_again a.written a.valid))) (put_by old a.written new a.follows)

pub taken_then : (frames : List (List ℕ)) (frame : List ℕ) (mid new : Entries) → AreTaken frames mid → Accepts mid frame new → AreTaken (frames ++ frame ∷ []) new
taken_then frames frame mid new taken a =
    subst (λ (l : List (List ℕ)). AreAccepted [] l new) (sym (records_put First frames frame (accepts_put mid frame new a)))
    (accepted_then [] mid new (records_from First frames) frame taken a)

few_by : (b : Bool) (x : List ℕ) (rest : List (List ℕ)) (n : ℕ) → length rest ≤ n → length ((if b then [] else x ∷ []) ++ rest) ≤ n + 1
few_by true x rest n le = omega (arith, le)
few_by false x rest n le = omega (arith, le)

pub records_few : (walk : Walk) (frames : List (List ℕ)) → length (records_from walk frames) ≤ length frames
records_few walk [] = omega arith
records_few walk (f ∷ fs) =
    let le = few_by (is_passed walk (mark_of f)) f (records_from (walked walk (mark_of f)) fs) (length fs) (records_few (walked walk (mark_of f)) fs) in
    omega (arith, le)

-- ---- the walk, one frame further

accepted_join : (old mid new : Entries) (xs ys : List (List ℕ)) → AreAccepted old xs mid → AreAccepted mid ys new → AreAccepted old (xs ++ ys) new
accepted_join old mid new [] ys is a = subst (λ (e : Entries). AreAccepted e ys new) is a
accepted_join old mid new (x ∷ xs) ys h a = (h.0, h.1, accepted_join h.0 mid new xs ys h.2 a)

pub accepted_split : (old new : Entries) (xs ys : List (List ℕ)) → AreAccepted old (xs ++ ys) new
    → (mid : Entries) × AreAccepted old xs mid × AreAccepted mid ys new
accepted_split old new [] ys a = (old, refl, a)
accepted_split old new (x ∷ xs) ys a = let s = accepted_split a.0 new xs ys a.2 in (s.0, (a.0, a.1, s.1), s.2)

pub next_taken : (frames : List (List ℕ)) (frame : List ℕ) (walk : Walk) (old new : Entries) → walk ≡ walk_of First frames → AreTaken frames old
    → AreAccepted old (records_from walk (frame ∷ [])) new → AreTaken (frames ++ frame ∷ []) new
next_taken frames frame walk old new is taken a =
    subst (λ (l : List (List ℕ)). AreAccepted [] l new) (sym (records_more First frames (frame ∷ [])))
    (accepted_join [] old new (records_from First frames) (records_from (walk_of First frames) (frame ∷ [])) taken
    (subst (λ (w : Walk). AreAccepted old (records_from w (frame ∷ [])) new) is a))

-- the frames before others are taken too
pub front_taken : (before behind : List (List ℕ)) (new : Entries) → AreTaken (before ++ behind) new
    → (mid : Entries) × AreTaken before mid × AreAccepted mid (records_from (walk_of First before) behind) new
front_taken before behind new a =
    accepted_split [] new (records_from First before) (records_from (walk_of First before) behind)
    (subst (λ (l : List (List ℕ)). AreAccepted [] l new) (records_more First before behind) a)

-- ---- a checkpoint

snapshots_alone : (cs : List (List ℕ)) → AreSnapshots cs → records_from Snapshots (cs ++ seal_frame ∷ []) ≡ cs
snapshots_alone [] all = ap (λ (m : Mark). (if is_passed Snapshots m then [] else seal_frame ∷ []) ++ records_from (walked Snapshots m) []) seal_mark
snapshots_alone (c ∷ cs) all =
    ap (λ (m : Mark). (if is_passed Snapshots m then [] else c ∷ []) ++ records_from (walked Snapshots m) (cs ++ seal_frame ∷ [])) all.0
    ∙ ap (λ (l : List (List ℕ)). c ∷ l) (snapshots_alone cs all.1)

records_of_checkpoint : (n : ℕ) (cs : List (List ℕ)) → n < 2 ^ 64 → AreSnapshots cs → records_from First (checkpoint_of n cs) ≡ cs
records_of_checkpoint n cs lt all =
    ap (λ (m : Mark). (if is_passed First m then [] else head_frame n ∷ []) ++ records_from (walked First m) (cs ++ seal_frame ∷ [])) (head_mark n lt)
    ∙ snapshots_alone cs all

pub taken_checkpoint : (n : ℕ) (cs : List (List ℕ)) (entries : Entries) → n < 2 ^ 64 → AreSnapshots cs → AreAccepted [] cs entries → AreTaken (checkpoint_of n cs) entries
taken_checkpoint n cs entries lt all accepted =
    subst (λ (l : List (List ℕ)). AreAccepted [] l entries) (sym (records_of_checkpoint n cs lt all)) accepted
