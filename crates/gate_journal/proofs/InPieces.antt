-- A content is read in pieces.
use Rattle.std.proofs.Common.{◌≡◌, ◌≢◌, inl, inr, ℕ, ◌+◌, ◌<◌, ◌≤◌, Bool, List, [], ◌∷◌, ◌++◌, length, take, drop, refl, sym, ap, ◌∙◌, subst, arith}
use Rattle.std.proofs.Common.{append_assoc, length-append, length-drop, take-append-drop, Option}
use Rattle.std.proofs.lemmas.List.{append-nil, drop-drop, take_at, take-append-le}
use Rattle.std.specs.Int.{w32, to_be_bytes}
use Rattle.std.specs.List.{AllByRecursion}
use Rattle.edge_io.specs.Counting.{MakesUpTo}
use Rattle.edge_io.specs.Disk.{WhereTold}
use Rattle.edge_io.specs.Views.{DiskView}
use Rattle.edge_io.proofs.Moments.{joined}
use Rattle.edge_io.proofs.Runs.{runs_none, runs_then}
use Rattle.gate_journal.specs.Frames.{IsBroken, IsDamaged, IsFrame, behind_gate, blocks}
use Rattle.gate_journal.specs.Reading.{LooksAt}
use Rattle.gate_journal.specs.Visits.{CallsFor, HandsOver, LooksFor, VisitsAll, placed}
use Rattle.gate_journal.proofs.Changes.{no_call, stays_then}
use Rattle.gate_journal.proofs.FrameReads.{blocks_append}

-- ---- the disk

pub calls_none : {D : Type 0} (seen : D → DiskView) (a : D) → CallsFor seen a a ⊥
calls_none seen a = record { runs = runs_none seen a; quiet = λ _ told. refl; rose = λ f. absurd f; memory = λ f. absurd f }

module _ {D : Type 0} (seen : D → DiskView) where
  pub calls_as : (a b : D) (P Q : Type 0) → CallsFor seen a b P → (P → Q) → (Q → P) → CallsFor seen a b Q
  calls_as a b P Q l f g = record { runs = l.runs; quiet = λ not. l.quiet (λ p. not (f p)); rose = λ q. l.rose (g q); memory = λ q. l.memory (g q) }

  pub calls_then : (a b d : D) (failed : Type 0) → CallsFor seen a b ⊥ → CallsFor seen b d failed → CallsFor seen a d failed
  calls_then a b d failed l more = record {
    runs = runs_then seen a b d l.runs more.runs;
    quiet = λ not told. more.quiet not (l.runs.told ∙ told) ∙ l.quiet (λ f. f) told;
    rose = λ f. omega (arith, l.runs.later, more.rose f);
    memory = λ f told none. more.memory f (l.runs.told ∙ told) (l.runs.unarmed told none);
  }

  pub calls_by : (n : ℕ) (a b : D) (failed : Type 0) → MakesUpTo seen n a b failed → CallsFor seen a b failed
  calls_by n a b failed m = record { runs = m.runs; quiet = λ not told. ((m.done not).2 told).same_faults; rose = m.rose; memory = m.memory }

module _ {D : Type 0} (seen : D → DiskView)
    (only_now : (d : D) (c : List ℕ) → (seen d).since (seen d).moment c → (seen d).image c) where
  pub looks_none : (a : D) → LooksFor seen a a ⊥
  looks_none a = record {
    looks = record { stays = record { content = refl; size = refl }; images = record { no_more = λ c now. now; no_fewer = λ c now. now }; moments = no_call seen only_now a };
    calls = calls_none seen a;
  }

module _ {D : Type 0} (seen : D → DiskView) where
  pub looks_as : (a b : D) (P Q : Type 0) → LooksFor seen a b P → (P → Q) → (Q → P) → LooksFor seen a b Q
  looks_as a b P Q l f g = record { looks = l.looks; calls = calls_as seen a b P Q l.calls f g }

  pub looks_then : (a b d : D) (failed : Type 0) → LooksFor seen a b ⊥ → LooksAt seen b d → MakesUpTo seen 1 b d failed → LooksFor seen a d failed
  looks_then a b d failed l more makes = record {
    looks = record {
      stays = stays_then (seen a) (seen b) (seen d) l.looks.stays more.stays;
      images = record { no_more = λ c now. l.looks.images.no_more c (more.images.no_more c now); no_fewer = λ c now. more.images.no_fewer c (l.looks.images.no_fewer c now) };
      moments = joined seen a b d (seen a).image (seen b).image (seen a).image l.looks.moments more.moments (λ c p. p) (λ c p. l.looks.images.no_more c p);
    };
    calls = calls_then seen a b d failed l.calls (calls_by seen 1 b d failed makes);
  }

-- ---- the frames

placed_append : (place : ℕ) (fs gs : List (List ℕ)) → placed place (fs ++ gs) ≡ placed place fs ++ placed (place + length (blocks fs)) gs
placed_append place [] gs = ap (λ (n : ℕ). placed n gs) (omega arith)
placed_append place (x ∷ fs) gs =
    let n : place + (5 + length x) + length (blocks fs) ≡ place + length (blocks (x ∷ fs)) = omega (
      arith,
      length-append (behind_gate x) (blocks fs),
      length-append (to_be_bytes w32 (length x)) x,
    ) in
    ap (λ (l : List (ℕ × List ℕ)). (place, x) ∷ l) (placed_append (place + (5 + length x)) fs gs
    ∙ ap (λ (k : ℕ). placed (place + (5 + length x)) fs ++ placed k gs) n)

fit_append : (fs gs : List (List ℕ)) → AllByRecursion IsFrame fs → AllByRecursion IsFrame gs → AllByRecursion IsFrame (fs ++ gs)
fit_append [] gs p q = q
fit_append (x ∷ fs) gs p q = (p.0, fit_append fs gs p.1 q)

-- Frames were handed over up to this place, and behind it these bytes were read.
pub record Front (content : Option (List ℕ)) (size : ℕ) (old now : List (ℕ × List ℕ)) (held : List ℕ) (place count : ℕ) : Type 0 where
  pub frames : List (List ℕ)
  pub fit : AllByRecursion IsFrame frames
  pub place_is : place ≡ length (blocks frames)
  pub count_is : count ≡ length frames
  pub visits : now ≡ old ++ placed 0 frames
  pub is : WhereTold content (λ c. c ≡ blocks frames ++ (held ++ drop (place + length held) c))
  pub within : place + length held ≤ size

pub front_none : (content : Option (List ℕ)) (size : ℕ) (old : List (ℕ × List ℕ)) (held : List ℕ) → held ≡ [] → Front content size old old held 0 0
front_none content size old held none = record {
  frames = [];
  fit = tt;
  place_is = refl;
  count_is = refl;
  visits = sym (append-nil old);
  is = λ c told. sym (ap (λ (l : List ℕ). l ++ drop (0 + length l) c) none);
  within = omega (arith, ap length none);
}

module _ (content : Option (List ℕ)) (size : ℕ) (old : List (ℕ × List ℕ)) where
  pub front_read : (mid : List (ℕ × List ℕ)) (held place_held : List ℕ) (place count piece : ℕ) → Front content size old mid held place count
      → WhereTold content (λ c. place_held ≡ held ++ take piece (drop (place + length held) c)) → length place_held ≡ length held + piece
      → place + length held + piece ≤ size → Front content size old mid place_held place count
  front_read mid held next place count piece f read len room = record {
    frames = f.frames;
    fit = f.fit;
    place_is = f.place_is;
    count_is = f.count_is;
    visits = f.visits;
    is = λ c told.
        let r = place + length held in
        let after : drop piece (drop r c) ≡ drop (place + length next) c = drop-drop piece r c ∙ ap (λ (n : ℕ). drop n c) (omega (arith, len)) in
        f.is c told ∙ ap (λ (l : List ℕ). blocks f.frames ++ (held ++ l)) (sym (take-append-drop piece (drop r c)))
        ∙ ap (λ (l : List ℕ). blocks f.frames ++ l) (sym (append_assoc held (take piece (drop r c)) (drop piece (drop r c))))
        ∙ ap (λ (l : List ℕ). blocks f.frames ++ (l ++ drop piece (drop r c))) (sym (read c told))
        ∙ ap (λ (l : List ℕ). blocks f.frames ++ (next ++ l)) after;
    within = omega (arith, len, room);
  }

  pub front_handed : (mid new : List (ℕ × List ℕ)) (held : List ℕ) (place count used more : ℕ) (closed : Bool) → Front content size old mid held place count
      → HandsOver place held mid new used more closed → Front content size old new (drop used held) (place + used) (count + more)
  front_handed mid new held place count used more closed f h =
      let len : length held ≡ used + length (drop used held) = omega (arith, ap length h.is, length-append (blocks h.frames) (drop used held), h.used_is) in
      let at : place ≡ 0 + length (blocks f.frames) = omega (arith, f.place_is) in
      let both : length (blocks (f.frames ++ h.frames)) ≡ length (blocks f.frames) + length (blocks h.frames) =
      ap length (blocks_append f.frames h.frames) ∙ length-append (blocks f.frames) (blocks h.frames) in
      record {
        frames = f.frames ++ h.frames;
        fit = fit_append f.frames h.frames f.fit h.fit;
        place_is = omega (arith, f.place_is, h.used_is, both);
        count_is = omega (arith, f.count_is, h.count_is, length-append f.frames h.frames);
        visits = h.visits ∙ ap (λ (l : List (ℕ × List ℕ)). l ++ placed place h.frames) f.visits ∙ append_assoc old (placed 0 f.frames) (placed place h.frames)
            ∙ ap (λ (k : ℕ). old ++ (placed 0 f.frames ++ placed k h.frames)) at
            ∙ ap (λ (l : List (ℕ × List ℕ)). old ++ l) (sym (placed_append 0 f.frames h.frames));
        is = λ c told.
            let rest = drop (place + length held) c in
            let same : rest ≡ drop (place + used + length (drop used held)) c = ap (λ (n : ℕ). drop n c) (omega (arith, len)) in
            f.is c told ∙ ap (λ (l : List ℕ). blocks f.frames ++ (l ++ rest)) h.is
            ∙ ap (λ (l : List ℕ). blocks f.frames ++ l) (append_assoc (blocks h.frames) (drop used held) rest)
            ∙ sym (append_assoc (blocks f.frames) (blocks h.frames) (drop used held ++ rest))
            ∙ ap (λ (l : List ℕ). l ++ (drop used held ++ rest)) (sym (blocks_append f.frames h.frames))
            ∙ ap (λ (l : List ℕ). blocks (f.frames ++ h.frames) ++ (drop used held ++ l)) same;
        within = omega (arith, f.within, len);
      }

  -- one turn: a piece more, and the frames that are whole then
  pub turned : (mid new : List (ℕ × List ℕ)) (held next slice : List ℕ) (place count piece at used more : ℕ) (closed : Bool) → Front content size old mid held place count
      → WhereTold content (λ c. next ≡ held ++ take piece (drop at c)) → at ≡ place + length held → length next ≡ length held + piece → at + piece ≤ size → slice ≡ next
      → HandsOver place slice mid new used more closed → Front content size old new (drop used slice) (place + used) (count + more)
  turned mid new held next slice place count piece at used more closed f read at_is len room same h =
      front_handed mid new slice place count used more closed
      (front_read mid held slice place count piece f
      (λ c told. same ∙ read c told ∙ ap (λ (n : ℕ). held ++ take piece (drop n c)) at_is) (ap length same ∙ len) (omega (arith, at_is, room))) h

  pub front_shut : (new : List (ℕ × List ℕ)) (held : List ℕ) (place count gate : ℕ) (behind : List ℕ) → 1 < size → WhereTold content (λ c. size ≡ length c)
      → Front content size old new held place count → held ≡ gate ∷ behind → gate ≢ 1 → VisitsAll content size old new (place + 1) count
  front_shut new held place count gate behind long sized f next shut = record {
    frames = f.frames;
    fit = f.fit;
    read = λ c told. record {
      stands = inr (gate, behind ++ drop (place + length held) c, shut, f.is c told ∙ ap (λ (l : List ℕ). blocks f.frames ++ (l ++ drop (place + length held) c)) next, f.fit);
      fit = f.fit;
      end_is = omega (arith, f.place_is);
      len_is = sized c told;
    };
    end_is = omega (arith, f.place_is);
    count_is = f.count_is;
    fits = λ le. absurd (omega (arith, le, long));
    within = λ _. omega (arith, f.within, ap length next);
    visits = f.visits;
  }

  pub front_broken : (new : List (ℕ × List ℕ)) (held : List ℕ) (place count : ℕ) (behind more c : List ℕ) → 1 < length c
      → (f : Front content size old new held place count) → c ≡ blocks f.frames ++ (held ++ more) → held ≡ 1 ∷ behind → IsBroken (behind ++ more) → IsDamaged c place
  front_broken new held place count behind more c long f is next broken = record {
    frames = f.frames;
    behind = behind ++ more;
    long = long;
    is = is ∙ ap (λ (l : List ℕ). blocks f.frames ++ (l ++ more)) next;
    at = f.place_is;
    fit = f.fit;
    broken = broken;
  }

-- at most one byte
pub none_visited : (content : Option (List ℕ)) (size : ℕ) (old : List (ℕ × List ℕ)) → size ≤ 1 → WhereTold content (λ c. size ≡ length c)
    → VisitsAll content size old old 1 0
none_visited content size old few sized = record {
  frames = [];
  fit = tt;
  read = λ c told. record { stands = inl (omega (arith, few, sized c told), refl); fit = tt; end_is = refl; len_is = sized c told };
  end_is = refl;
  count_is = refl;
  fits = λ _. refl;
  within = λ long. absurd (omega (arith, few, long));
  visits = sym (append-nil old);
}

-- with more bytes than a frame has, it stays broken
pub broken_more : (behind more : List ℕ) → 33554437 ≤ length behind → IsBroken behind → IsBroken (behind ++ more)
broken_more behind more long broken frame after fit some is =
    let n : length (behind_gate frame) ≡ 4 + length frame = length-append (to_be_bytes w32 (length frame)) frame in
    let front : take (length (behind_gate frame)) behind ≡ behind_gate frame =
    sym (take-append-le (length (behind_gate frame)) behind more (omega (arith, n, fit.1, long)))
    ∙ ap (λ (l : List ℕ). take (length (behind_gate frame)) l) is ∙ take_at (behind_gate frame) after (length (behind_gate frame)) refl in
    broken frame (drop (length (behind_gate frame)) behind) fit (omega (arith, length-drop (length (behind_gate frame)) behind, n, fit.1, long))
    (sym (take-append-drop (length (behind_gate frame)) behind) ∙ ap (λ (l : List ℕ). l ++ drop (length (behind_gate frame)) behind) front)

pub broken_end : (behind rest : List ℕ) → rest ≡ [] → IsBroken behind → IsBroken (behind ++ rest)
broken_end behind rest none broken = subst IsBroken (sym (append-nil behind) ∙ ap (λ (l : List ℕ). behind ++ l) (sym none)) broken
