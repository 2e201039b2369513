-- A segment is loaded on by one batch, or to its end, or stopped.
use Rattle.std.proofs.Common.{◌≡◌, ◌≢◌, ◌+◌, ◌-◌, ◌≤◌, ◌⊎◌, inl, inr, ℕ, List, [], ◌∷◌, ◌++◌, Bool, false, Option, Some, None, IfSome, Ok, Err, length, refl, sym, ap, subst, ◌∙◌, arith}
use Rattle.std.proofs.Common.{length-append, append-nil, append_assoc}
use Rattle.std.proofs.lemmas.List.Concat.{flat_map-append}
use Rattle.std.specs.Io.KnownBytes.{Consumes, IsAtEnd}
use Rattle.std.proofs.KnownBytes.{Consumes-trans}
use Rattle.edge_io.specs.Causes.{Rose}
use Rattle.gate_journal.specs.Frames.{behind_gate, blocks}
use Rattle.gate_journal.proofs.FrameReads.{blocks_append}
use Rattle.std.proofs.lemmas.List.{map-append}
use Rattle.std.specs.Prelude.{map}
use Rattle.std.specs.Int.{w32, to_be_bytes}
use Rattle.session_script.specs.Script.{longest}
use Rattle.session_script.specs.Unread.{Unread}
use Rattle.session_script.specs.Reading.{Takes}
use Rattle.session_script.specs.Output.{malformed_line}
use Rattle.share_model.specs.Logs.{Batch, end_of}
use Rattle.share_model.specs.Pending.{WithPending}
use Rattle.part_log.specs.Logs.{IsAdded, IsUnwritten, IsLogText, IsStoredLog, LogParts, MayFollow, Keeps as KeepsLog, frame_of, frames_of, log_in}
use Rattle.part_log.specs.Starts.{Log, LogWrite, with_write}
use Rattle.part_log.specs.Starts.LogWrite.{Adds}
use Rattle.part_log.proofs.Keeping.{keeps_sound}
use Rattle.part_log.specs.Shards.{HasNoRoomAt}
use Rattle.part_log.proofs.Rising.{sound_more}
use Rattle.share_top.specs.declared.load.Stop.{Stop}
use Rattle.share_top.specs.declared.load.Stop.TheVariants.{Refused, Read, Full, Device, NoMemory}
use Rattle.share_top.specs.Changes.{InputChange}
use Rattle.share_top.specs.Segments.{Begins, IsSegment, IsRefused, HasNoBatch, segment_of}
use Rattle.share_top.specs.Loading.{LoadEnding, IsWhole, IsRefusedSegment, IsBegunSegment, WithLine, WithPlace, loaded_line, with_batches}
use Rattle.share_top.specs.Loads.{IsNext, LacksRoom, LoadsNext, HasLoaded, IsGrown, AtPlace, LoadsAll}
use Rattle.share_top.proofs.SegmentReads.{same_consumes}
use Rattle.edge_io.specs.Views.{DiskView}

segment_more : (batches : List Batch) (b : Batch) → segment_of (batches ++ b ∷ []) ≡ segment_of batches ++ b.bytes
segment_more batches b =
    flat_map-append (λ (x : Batch). x.bytes) batches (b ∷ []) ∙ ap (λ (l : List ℕ). segment_of batches ++ l) (append-nil b.bytes)

one_block : (x : List ℕ) → length (blocks (x ∷ [])) ≡ length x + 5
one_block x = omega (arith, length-append (behind_gate x) [], length-append (to_be_bytes w32 (length x)) x)

pub starts : {D : Type 0} (seen : D → DiskView) (first : LogParts D) (left : Option (List ℕ)) → KeepsLog seen first None
    → HasLoaded seen first first left left (record { place = 0; pending = [] })
starts seen first left kept = record {
  given = [];
  batches = [];
  consumed = same_consumes left;
  parts = refl;
  place = refl;
  added = ap (λ (l : List Batch). record { batches = l; start = first.start }) (sym (append-nil first.batches));
  end = omega arith;
  kept = kept;
}

module _ {D : Type 0} (seen : D → DiskView) (first log : LogParts D) (left mid : Option (List ℕ)) (u : Unread) (h : HasLoaded seen first log left mid u) where
  -- a batch was added
  pub goes : (new : LogParts D) (after : Option (List ℕ)) (v : Unread) (b : Batch) → Takes u v mid after b.bytes → IsAdded seen log new b
      → HasLoaded seen first new left after v
  goes new after v b t a = record {
    given = h.given ++ t.given;
    batches = h.batches ++ b ∷ [];
    consumed = Consumes-trans left mid after h.given t.given h.consumed t.consumed;
    parts = ap (λ (l : List ℕ). l ++ t.given) h.parts ∙ append_assoc (segment_of h.batches) u.pending t.given
        ∙ ap (λ (l : List ℕ). segment_of h.batches ++ l) t.parts ∙ sym (append_assoc (segment_of h.batches) b.bytes v.pending)
        ∙ ap (λ (l : List ℕ). l ++ v.pending) (sym (segment_more h.batches b));
    place = let size = ap length (segment_more h.batches b) in let sum = length-append (segment_of h.batches) b.bytes in omega (arith, t.place, h.place, size, sum);
    added =
        let bs : new.batches ≡ first.batches ++ (h.batches ++ b ∷ []) =
        a.batches ∙ ap (λ (l : Log). l.batches ++ b ∷ []) h.added ∙ append_assoc first.batches h.batches (b ∷ []) in
        let at : new.start ≡ first.start = a.start ∙ ap (λ (l : Log). l.start) h.added in
        λ i. record { batches = bs i; start = at i };
    end =
        let more = ap (λ (l : List LogWrite). length (blocks (frames_of l))) (map-append Adds h.batches (b ∷ []))
        ∙ ap (λ (l : List (List ℕ)). length (blocks l)) (map-append frame_of (map Adds h.batches) (Adds b ∷ []))
        ∙ ap length (blocks_append (frames_of (map Adds h.batches)) (b.bytes ∷ []))
        ∙ length-append (blocks (frames_of (map Adds h.batches))) (blocks (b.bytes ∷ [])) in
        omega (arith, a.end, h.end, more, one_block b.bytes);
    kept = a.kept None h.kept;
  }

  has_batches : log.batches ≡ first.batches ++ h.batches
  has_batches = ap (λ (l : Log). l.batches) h.added

  sound : IsStoredLog (first.batches ++ h.batches)
  sound = subst IsStoredLog has_batches (keeps_sound seen log None h.kept)

  pub grown : IsGrown seen first log (log_in first) h.batches None
  grown = record {
    was = refl;
    has = h.added;
    images = λ c on. subst (λ (l : Log). WithPending (IsLogText c) l None) h.added (h.kept.images c on);
  }

-- ---- texts

begins_more : (text : List ℕ) (log batches : List Batch) (rest : List ℕ) (b : Batch) (more : List ℕ) → Begins text log batches rest → rest ≡ b.bytes ++ more
    → MayFollow (log ++ batches) b → length (segment_of batches) + length b.bytes ≤ longest → Begins text log (batches ++ b ∷ []) more
begins_more text log batches rest b more s e f le = record {
  parts = s.parts ∙ ap (λ (l : List ℕ). segment_of batches ++ l) e ∙ sym (append_assoc (segment_of batches) b.bytes more)
      ∙ ap (λ (l : List ℕ). l ++ more) (sym (segment_more batches b));
  sound = subst IsStoredLog (append_assoc log batches (b ∷ [])) (sound_more (log ++ batches) b s.sound f);
  within = let size = ap length (segment_more batches b) in let sum = length-append (segment_of batches) b.bytes in omega (arith, size, sum, le);
}

-- the text is what was given and what is left
whole_text : (left after : Option (List ℕ)) (given : List ℕ) (P : List ℕ → Type 0) → Consumes left after given → IfSome after (λ more. P (given ++ more)) → IfSome left P
whole_text None after given P c h = tt
whole_text (Some text) None given P c h = absurd c
whole_text (Some text) (Some more) given P c h = subst P (sym c) h

some_end : (after : Option (List ℕ)) (P : List ℕ → Type 0) → IsAtEnd after → P [] → IfSome after P
some_end None P e h = tt
some_end (Some more) P e h = subst P (sym e) h

some_each : (after : Option (List ℕ)) (P : List ℕ → Type 0) → ((more : List ℕ) → P more) → IfSome after P
some_each None P h = tt
some_each (Some more) P h = h more

pub some_then : (after : Option (List ℕ)) (P Q : List ℕ → Type 0) → ((more : List ℕ) → P more → Q more) → IfSome after P → IfSome after Q
some_then None P Q f h = tt
some_then (Some more) P Q f h = f more h

-- ---- the end, or a stop

abbrev pub change : Option (List ℕ) → Option (List ℕ) → Bool → ℕ → ℕ → Type 0 → InputChange
change left after ended f g Same = record { left = left; left_after = after; ended = ended; faults = f; faults_after = g; Same = Same }

module _ {D : Type 0} (seen : D → DiskView) (first log new : LogParts D) (left mid after : Option (List ℕ)) (u v : Unread)
    (h : HasLoaded seen first log left mid u) (le : u.place ≤ longest) (ended : Bool) (f g k : ℕ) (Same SameStep : Type 0) (read : f ≤ g)
    (disks : (seen first.journal.disk).faults ≤ (seen log.journal.disk).faults) where
  abbrev input : InputChange
  input = change left after ended f k Same

  abbrev step : InputChange
  step = change mid after ended g k SameStep

  abbrev Took : Type 0
  Took = Takes u v mid after []

  all_given : (t : Took) → Consumes left after (h.given ++ t.given)
  all_given t = Consumes-trans left mid after h.given t.given h.consumed t.consumed

  begins_still : (t : Took) (more : List ℕ) → Begins ((h.given ++ t.given) ++ more) first.batches h.batches (v.pending ++ more)
  begins_still t more = record {
    parts = ap (λ (l : List ℕ). l ++ more) (ap (λ (l : List ℕ). l ++ t.given) h.parts ∙ append_assoc (segment_of h.batches) u.pending t.given
        ∙ ap (λ (l : List ℕ). segment_of h.batches ++ l) t.parts) ∙ append_assoc (segment_of h.batches) v.pending more;
    sound = sound seen first log left mid u h;
    within = omega (arith, h.place, le);
  }

  begins_given : (t : Took) → Begins (h.given ++ t.given) first.batches h.batches v.pending
  begins_given t = subst (λ (l : List ℕ). Begins l first.batches h.batches v.pending) (append-nil (h.given ++ t.given))
      (subst (λ (l : List ℕ). Begins ((h.given ++ t.given) ++ []) first.batches h.batches l) (append-nil v.pending) (begins_still t []))

  at : Took → v.place ≡ length (segment_of h.batches)
  at t = omega (arith, t.place, h.place)

  has_none : (t : Took) (rest : List ℕ) → HasNoBatch v.place log.batches rest → HasNoBatch (length (segment_of h.batches)) (first.batches ++ h.batches) rest
  has_none t rest none = subst (λ (n : ℕ). HasNoBatch n (first.batches ++ h.batches) rest) (at t) (subst (λ (l : Log). HasNoBatch v.place l.batches rest) h.added none)

  abbrev Ends : LoadEnding
  Ends log batches pending = IsGrown seen first new log batches pending

  same : new ≡ log → Ends (log_in first) h.batches None
  same e = subst (λ (l : LogParts D). IsGrown seen first l (log_in first) h.batches None) (sym e) (grown seen first log left mid u h)

  pub done : LoadsNext seen log new u v step (Ok false) → IsWhole input Ends
  done (t, none, end, has_ended, e) = record {
    log = log_in first;
    batches = h.batches;
    segment = whole_text left after (h.given ++ t.given) (λ text. IsSegment text first.batches h.batches) (all_given t)
        (some_end after (λ more. IsSegment ((h.given ++ t.given) ++ more) first.batches h.batches) end
        (subst (λ (l : List ℕ). Begins ((h.given ++ t.given) ++ []) first.batches h.batches l) (append-nil v.pending ∙ none) (begins_still t [])));
    whole = end;
    ended = has_ended;
    ends = same e;
  }

  begun : (t : Took) → Ends (log_in first) h.batches None → IsBegunSegment input Ends
  begun t ends = record {
    log = log_in first;
    batches = h.batches;
    pending = None;
    begins = whole_text left after (h.given ++ t.given) (λ text. (rest : List ℕ) × Begins text first.batches (h.batches ++ []) rest) (all_given t)
        (some_each after (λ more. (rest : List ℕ) × Begins ((h.given ++ t.given) ++ more) first.batches (h.batches ++ []) rest)
        (λ more. (v.pending ++ more, subst (λ (l : List Batch). Begins ((h.given ++ t.given) ++ more) first.batches l (v.pending ++ more)) (sym (append-nil h.batches)) (begins_still t more))));
    ends = ends;
  }

  begins_next : (t : Took) (b : Batch) (n : IsNext log.batches v b) → IfSome left (λ text. (rest : List ℕ) × Begins text first.batches (h.batches ++ b ∷ []) rest)
  begins_next t b n =
      let follows = subst (λ (l : Log). MayFollow l.batches b) h.added n.follows in
      let within : length (segment_of h.batches) + length b.bytes ≤ longest = omega (arith, at t, n.within) in
      whole_text left after (h.given ++ t.given) (λ text. (rest : List ℕ) × Begins text first.batches (h.batches ++ b ∷ []) rest) (all_given t)
      (some_each after (λ more. (rest : List ℕ) × Begins ((h.given ++ t.given) ++ more) first.batches (h.batches ++ b ∷ []) rest)
      (λ more. (
        n.more ++ more,
        begins_more ((h.given ++ t.given) ++ more) first.batches h.batches (v.pending ++ more) b (n.more ++ more) (begins_still t more)
            (ap (λ (l : List ℕ). l ++ more) n.front ∙ append_assoc b.bytes n.more more) follows within,
      )))

  -- the write of the batch at the front failed
  unwritten : (t : Took) (b : Batch) → IsNext log.batches v b → IsUnwritten seen log new (Adds b) → IsBegunSegment input Ends
  unwritten t b n w = go (w.kept None h.kept) where
    still : log_in new ≡ log_in log
    still = λ i. record { batches = w.batches i; start = w.start i }

    has : log_in new ≡ with_batches (log_in first) h.batches
    has = still ∙ h.added

    go : KeepsLog seen new None ⊎ KeepsLog seen new (Some (Adds b)) → IsBegunSegment input Ends
    go (inl k) = begun t (record {
      was = refl;
      has = has;
      images = λ c on. subst (λ (l : Log). WithPending (IsLogText c) l None) has (k.images c on);
    })
    go (inr k) = record {
      log = log_in first;
      batches = h.batches;
      pending = Some b;
      begins = begins_next t b n;
      ends = record {
        was = refl;
        has = has;
        images = λ c on. subst (λ (l : Log). WithPending (IsLogText c) l (Some (with_write l (Adds b)))) has (k.images c on);
      };
    }

  rose : (a b c : ℕ) → a ≤ b → Rose b c → Rose a c
  rose a b c le r = omega (arith, le, r)

  pub stopped : (stop : Stop) → LoadsNext seen log new u v step (Err stop)
      → LoadsAll input Ends (LacksRoom first) (Rose (seen first.journal.disk).faults (seen new.journal.disk).faults) (Err stop)
  stopped (Refused place) (t, is, e, none) = record {
    log = log_in first;
    batches = h.batches;
    refused = whole_text left after (h.given ++ t.given) (λ text. IsRefused text first.batches h.batches) (all_given t)
        (some_then after (λ more. HasNoBatch v.place log.batches (v.pending ++ more) × (v.pending ++ more ≢ []))
        (λ more. IsRefused ((h.given ++ t.given) ++ more) first.batches h.batches)
        (λ more n. (v.pending ++ more, begins_still t more, has_none t (v.pending ++ more) n.0, n.1)) none);
    ends = (same e, is ∙ at t);
  }
  stopped Read (t, e, none, r) = (
    rose f g k read r,
    record {
      log = log_in first;
      batches = h.batches;
      given = h.given ++ t.given;
      consumed = all_given t;
      whole = (v.pending, begins_given t, has_none t v.pending none);
      ends = same e;
    },
  )
  stopped Full (t, e, (b, end, n, room)) = record {
    log = log_in first;
    batches = h.batches;
    next = b;
    at = end;
    begins = begins_next t b n;
    no_room = record {
      was = refl;
      none =
          subst (λ (n : ℕ). HasNoRoomAt n (first.batches ++ h.batches) b end) h.end
          (subst (λ (l : Log). HasNoRoomAt log.journal.end l.batches b end) h.added room);
    };
    ends = same e;
  }
  stopped Device (t, (b, n, w), r) = (rose _ _ _ disks r, unwritten t b n w)
  stopped NoMemory (t, inl e) = begun t (same e)
  stopped NoMemory (t, inr (b, n, w)) = unwritten t b n w

-- ---- the last line

module _ {D : Type 0} (seen : D → DiskView) (first new : LogParts D) (input : InputChange) where
  abbrev Grows : LoadEnding
  Grows log batches pending = IsGrown seen first new log batches pending

  pub with_line : (Tells : List ℕ → Type 0) (before count end : ℕ) → before ≡ length first.batches → count ≡ length new.batches - before → end ≡ end_of new.batches
      → Tells (loaded_line count end) → IsWhole input Grows → IsWhole input (WithLine Grows Tells)
  with_line Tells before count end b c e told w =
      let size = ap (λ (l : Log). length l.batches) w.ends.has in
      let sum = length-append w.log.batches w.batches in
      let was = ap (λ (l : Log). length l.batches) w.ends.was in
      let same : count ≡ length w.batches = omega (arith, b, c, size, sum, was) in
      let at : end ≡ end_of (w.log.batches ++ w.batches) = e ∙ ap (λ (l : Log). end_of l.batches) w.ends.has in
      record {
        log = w.log;
        batches = w.batches;
        segment = w.segment;
        whole = w.whole;
        ended = w.ended;
        ends = (w.ends, subst (λ (n : ℕ). Tells (loaded_line n (end_of (w.log.batches ++ w.batches)))) same (subst (λ (n : ℕ). Tells (loaded_line count n)) at told));
      }

  pub with_place : (Tells : List ℕ → Type 0) (place : ℕ) → Tells (malformed_line place) → IsRefusedSegment input (AtPlace place Grows) → IsRefusedSegment input (WithPlace Grows Tells)
  with_place Tells place told r = record {
    log = r.log;
    batches = r.batches;
    refused = r.refused;
    ends = (r.ends.0, subst (λ (n : ℕ). Tells (malformed_line n)) r.ends.1 told);
  }

  -- the same with nothing told of them
  pub begun_whole : IsWhole input Grows → IsBegunSegment input Grows
  begun_whole w = record {
    log = w.log;
    batches = w.batches;
    pending = None;
    begins = some_then input.left (λ text. IsSegment text w.log.batches w.batches) (λ text. (rest : List ℕ) × Begins text w.log.batches (w.batches ++ []) rest)
        (λ text s. ([], subst (λ (l : List Batch). Begins text w.log.batches l []) (sym (append-nil w.batches)) s)) w.segment;
    ends = w.ends;
  }

  pub begun_refused : (place : ℕ) → IsRefusedSegment input (AtPlace place Grows) → IsBegunSegment input Grows
  begun_refused place r = record {
    log = r.log;
    batches = r.batches;
    pending = None;
    begins = some_then input.left (λ text. IsRefused text r.log.batches r.batches) (λ text. (rest : List ℕ) × Begins text r.log.batches (r.batches ++ []) rest)
        (λ text s. (s.0, subst (λ (l : List Batch). Begins text r.log.batches l s.0) (sym (append-nil r.batches)) s.1)) r.refused;
    ends = r.ends.0;
  }
