-- A shard with a tape of what it is asked. This project's own. Worked example: with at most 2 tags, after a part, an offer, an expiry and
-- another part the tape has the part and the expiry, and is full.
use Rattle.std.specs.Prelude.{◌≡◌, ◌≤◌, ◌<◌, ◌++◌, ◌∷◌, [], List, ℕ, Option, Some, None, length, ⊤}
use Rattle.shard_lock.specs.declared.shard.Entry.{Entry}
use Rattle.shard_lock.specs.History.{Leads, entry}
use Rattle.share_record.specs.declared.tag.Tag.{Tag}
use Rattle.share_record.specs.declared.tag.Tag.TheVariants.{Part, Expire, Tick, Offer}
use Rattle.share_record.specs.declared.tag.Tagged.{Tagged}
use Rattle.share_record.specs.declared.tape.TapeState.{TapeState}
use Rattle.share_record.specs.declared.tape.TapeState.TheVariants.{Whole, Full, NoMemory}

pub record Recorded (S : Type 0) : Type 0 where
  pub shard : S
  pub tags : List Tag
  pub most : Option ℕ
  pub state : TapeState

-- A tag comes to a whole tape: it is appended, or the tape has as many as it may have, or there is no memory.
abbrev pub NotesTag : (most : ℕ) → Tag → (old new : List Tag) → TapeState → Type 0
NotesTag most tag old new Whole = (new ≡ old ++ tag ∷ []) × (length old < most)
NotesTag most tag old new Full = (new ≡ old) × (most ≤ length old)
NotesTag most tag old new NoMemory = (new ≡ old) × (length old < most)

-- Offers are left out.
abbrev pub NotesWhole : (most : ℕ) → Tag → (old new : List Tag) → TapeState → Type 0
NotesWhole most Offer old new after = (new ≡ old) × (after ≡ Whole)
NotesWhole most (Part link step) old new after = NotesTag most (Part link step) old new after
NotesWhole most (Expire now) old new after = NotesTag most (Expire now) old new after
NotesWhole most (Tick now) old new after = NotesTag most (Tick now) old new after

-- What becomes of a tape. One that isn't whole any more stays as it is, and so does one that is to have none.
abbrev pub Notes : (most : Option ℕ) → Tag → (old : List Tag) → TapeState → (new : List Tag) → TapeState → Type 0
Notes None tag old state new after = (new ≡ old) × (after ≡ state)
Notes (Some most) tag old Whole new after = NotesWhole most tag old new after
Notes (Some most) tag old Full new after = (new ≡ old) × (after ≡ Full)
Notes (Some most) tag old NoMemory new after = (new ≡ old) × (after ≡ NoMemory)

-- the shard acts on the event, and its tag comes to the tape
pub record ActsRecorded {S E A : Type 0} (acts : S → E → A → S → Type 0) (old : Recorded S) (event : Tagged E) (answer : A) (new : Recorded S) : Type 0 where
  pub acts_so : acts old.shard event.event answer new.shard
  pub notes : Notes old.most event.tag old.tags old.state new.tags new.state
  pub most : new.most ≡ old.most

-- the tag of an event, but for an offer
abbrev pub tape_of : Tag → List Tag
tape_of (Part link step) = Part link step ∷ []
tape_of (Expire now) = Expire now ∷ []
tape_of (Tick now) = Tick now ∷ []
tape_of Offer = []

module _ {E A : Type 0} where
  -- the tags of a history, in order, offers left out
  abbrev pub tags_of : List (Entry (Tagged E) A) → List Tag
  tags_of [] = []
  tags_of (e ∷ es) = tape_of e.event.tag ++ tags_of es

  -- the history without its tags
  abbrev pub untagged : List (Entry (Tagged E) A) → List (Entry E A)
  untagged [] = []
  untagged (e ∷ es) = entry e.seat e.event.event e.answer ∷ untagged es

abbrev pub IfWhole : TapeState → Type 0 → Type 0
IfWhole Whole fact = fact
IfWhole Full fact = ⊤
IfWhole NoMemory fact = ⊤

abbrev pub begins : {S : Type 0} → S → ℕ → Recorded S
begins shard most = record { shard = shard; tags = []; most = Some most; state = Whole }

-- The history of a new recorder is one of its shard, and a tape that is still whole has its tags.
pub record RecordsHistory {S E A : Type 0} (acts : S → E → A → S → Type 0) (shard : S) (history : List (Entry (Tagged E) A)) (new : Recorded S) : Type 0 where
  pub acts_so : Leads acts shard (untagged history) new.shard
  pub tape : IfWhole new.state (new.tags ≡ tags_of history)
