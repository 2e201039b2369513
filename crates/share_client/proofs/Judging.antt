-- The partitions of a reply, from the first one on.
use Rattle.std.proofs.Common.{inl, inr, ◌≡◌, ◌∙◌, ◌∷◌, [], ◌++◌, ◌+◌, ℕ, ℤ, Bool, true, false, not, cond, List, Option, Some, None, Result, Ok, Err, refl, sym, ap, subst, append_assoc, true≢false}
use Rattle.std.specs.Prelude.{◌⊎◌, flat_map}
use Rattle.std.specs.List.{list_any}
use Rattle.std.proofs.lemmas.List.{append-nil}
use Rattle.std.specs.Bool.{MatchBool}
use Rattle.std.specs.BTreeMap.{is_at}
use Rattle.std.specs.BTreeSet.{contains}
use Rattle.std.specs.Cmp.Lexicographic.{slice_cmp}
use Rattle.std.specs.Ordering.{int_cmp, nat_cmp}
use Rattle.std.specs.Cmp.{Equal-is}
use Rattle.std.proofs.lemmas.Map.Lookups.{CmpEqualImpliesEq, exact_bytes, exact_pairs, exact_signed}
use Rattle.share_client.specs.declared.batches.Span.{Span}
use Rattle.share_client.specs.declared.fault.ClientFault.{ClientFault}
use Rattle.share_client.specs.declared.fault.ClientFault.TheVariants.{Refused, Strange, NoMemory}
use Rattle.share_client.specs.declared.fetched.LocatedFetch.{LocatedFetch}
use Rattle.share_client.specs.declared.fetched.LocatedPartition.{LocatedPartition}
use Rattle.share_client.specs.declared.judge.Tally.{Tally}
use Rattle.flex_fields.specs.declared.fault.WireFault.{WireFault}
use Rattle.flex_fields.specs.declared.fault.WireFault.TheVariants.{Short, BadVarint, BadLength, NotUtf8, Trailing, NoMemory as no_memory}
use Rattle.share_client.specs.Frames.{IsAnswer, fault_of, said, within}
use Rattle.share_client.specs.Fetches.{HearsFetch, IsJudged, located_in}
use Rattle.share_client.specs.Grants.{AreFetched, AreGrants, Entry, IsFetched, Named, StandsIn, content_of, entries_of, is_passed, name_of, place_of}
use Rattle.share_client.specs.Spans.{AreSpans, Fetches, IsBrokenAt, IsToldAt, Knows, Names, Notes, name_cmp}

-- ---- names

exact_names : CmpEqualImpliesEq name_cmp
exact_names = exact_pairs (slice_cmp nat_cmp) int_cmp exact_bytes exact_signed

module _ (old new : Names) (name : Named) (named : List Named) (k : Knows old named) where
  pub stands_already : contains name_cmp old name ≡ true → StandsIn named name
  stands_already h = (k name).0 h

  module _ (absent : contains name_cmp old name ≡ false) (has : (q : Named) → contains name_cmp new q ≡ cond (is_at (name_cmp name) q) true (contains name_cmp old q))
      (there : contains name_cmp new name ≡ true) where
    not_yet : StandsIn named name → ⊥
    not_yet h = let t = (k name).1 h in true≢false (sym t ∙ absent)

    to_list : (q : Named) (b : Bool) → is_at (name_cmp name) q ≡ b → cond b true (contains name_cmp old q) ≡ true → StandsIn (name ∷ named) q
    to_list q true e h = inl (sym (exact_names name q ((Equal-is (name_cmp name q)).0 e)))
    to_list q false e h = inr ((k q).0 h)

    or_true : (b : Bool) → cond b true true ≡ true
    or_true true = refl
    or_true false = refl

    to_set : (q : Named) → StandsIn (name ∷ named) q → contains name_cmp new q ≡ true
    to_set q (inl e) = subst (λ (x : Named). contains name_cmp new x ≡ true) (sym e) there
    to_set q (inr h) = has q ∙ (ap (λ (b : Bool). cond (is_at (name_cmp name) q) true b) ((k q).1 h) ∙ or_true (is_at (name_cmp name) q))

    pub notes_new : (StandsIn named name → ⊥) × Knows new (name ∷ named)
    notes_new = (not_yet, λ q. (λ h. to_list q (is_at (name_cmp name) q) refl (sym (has q) ∙ h), λ h. to_set q h))

absent_by : (b : Bool) → true ≡ not b → b ≡ false
absent_by true e = absurd (true≢false e)
absent_by false e = refl

there_by : (b : Bool) → false ≡ not b → b ≡ true
there_by true e = refl
there_by false e = absurd (true≢false (sym e))

module _ (old new : Names) (name : Named) where
  pub noted : (added : Bool) → added ≡ not (contains name_cmp old name) → ((q : Named) → contains name_cmp new q ≡ cond (is_at (name_cmp name) q) true (contains name_cmp old q))
      → contains name_cmp new name ≡ true → Notes old name (Ok added) new
  noted true e has there = λ named k. notes_new old new name named k (absent_by (contains name_cmp old name) e) has there
  noted false e has there = λ named k. stands_already old new name named k (there_by (contains name_cmp old name) e)

-- ---- one partition

module _ (left : ℕ) (p : LocatedPartition) where
  pub fetched_told : (spans : List Span) → AreSpans (content_of p.records) spans → (result : Result ℕ ClientFault) → IsToldAt (AreGrants spans 0 left p.acquired_records) result
      → IsToldAt (IsFetched left p) result
  fetched_told spans s (Ok rest) h = inr (s.0, s.1, subst (λ (x : List Span). AreGrants x 0 left p.acquired_records (Ok rest)) s.2 h)
  fetched_told spans s (Err NoMemory) h = tt
  fetched_told spans s (Err (Strange place)) h = (h.0, inr (s.0, s.1, subst (λ (x : List Span). AreGrants x 0 left p.acquired_records (Err h.0)) s.2 h.1), h.2)
  fetched_told spans s (Err (Refused code)) h = h

  pub broken_told : (fault : ClientFault) → IsBrokenAt (place_of p.records) (content_of p.records) fault → IsToldAt (IsFetched left p) (Err fault)
  broken_told NoMemory h = tt
  broken_told (Strange place) h = (place_of p.records + h.1, inl (h.0, h.1, h.2, refl), h.3)
  broken_told (Refused code) h = h

-- ---- one entry

module _ (e : Entry) (left : ℕ) (named : List Named) where
  passed_entry : is_passed e ≡ true → (others : List Entry) (told : Option ℕ) → AreFetched named left others told → AreFetched named left (e ∷ others) told
  passed_entry p others told h = subst
      (λ (b : Bool). MatchBool b (AreFetched named left others told)
      ((StandsIn named (name_of e) × (told ≡ Some e.1.place))
      ⊎ ((StandsIn named (name_of e) → ⊥)
      × (((place : ℕ) × IsFetched left e.1.item (Err place) × (told ≡ Some place))
      ⊎ ((rest : ℕ) × IsFetched left e.1.item (Ok rest) × AreFetched (name_of e ∷ named) rest others told)))))
      (sym p) h

  looked_entry : is_passed e ≡ false → (others : List Entry) (told : Option ℕ)
      → ((StandsIn named (name_of e) × (told ≡ Some e.1.place))
      ⊎ ((StandsIn named (name_of e) → ⊥)
      × (((place : ℕ) × IsFetched left e.1.item (Err place) × (told ≡ Some place))
      ⊎ ((rest : ℕ) × IsFetched left e.1.item (Ok rest) × AreFetched (name_of e ∷ named) rest others told))))
      → AreFetched named left (e ∷ others) told
  looked_entry p others told h = subst
      (λ (b : Bool). MatchBool b (AreFetched named left others told)
      ((StandsIn named (name_of e) × (told ≡ Some e.1.place))
      ⊎ ((StandsIn named (name_of e) → ⊥)
      × (((place : ℕ) × IsFetched left e.1.item (Err place) × (told ≡ Some place))
      ⊎ ((rest : ℕ) × IsFetched left e.1.item (Ok rest) × AreFetched (name_of e ∷ named) rest others told)))))
      (sym p) h

module _ (e : Entry) (old : Tally) where
  pub entry_passed : is_passed e ≡ true → Fetches (e ∷ []) old (Ok tt) old
  entry_passed p = λ named k. (named, k, λ others told h. passed_entry e old.left named p others told h)

  module _ (p : is_passed e ≡ false) where
    pub entry_twice : (new : Tally) (names : Names) → Notes old.names (name_of e) (Ok false) names → Fetches (e ∷ []) old (Err (Strange (within e.1.place))) new
    entry_twice new names n = λ named k. (e.1.place, refl, λ others. looked_entry e old.left named p others (Some e.1.place) (inl (n named k, refl)))

    module _ (new : Tally) (n : Notes old.names (name_of e) (Ok true) new.names) where
      pub entry_fails : (fault : ClientFault) → IsToldAt (IsFetched old.left e.1.item) (Err fault) → Fetches (e ∷ []) old (Err fault) new
      entry_fails NoMemory h = tt
      entry_fails (Refused code) h = h
      entry_fails (Strange place) h = λ named k.
          (h.0, h.2, λ others. looked_entry e old.left named p others (Some h.0) (inr ((n named k).0, inl (h.0, h.1, refl))))

      pub entry_done : IsFetched old.left e.1.item (Ok new.left) → Fetches (e ∷ []) old (Ok tt) new
      entry_done h = λ named k.
          (name_of e ∷ named, (n named k).1, λ others told more. looked_entry e old.left named p others told (inr ((n named k).0, inr (new.left, h, more))))

-- ---- entries one after another

-- From what was seen at first to what was seen since: what the rest says then, all say.
pub record Goes (old : Tally) (all : List Entry) (new : Tally) (rest : List Entry) : Type 0 where
  pub goes : (named : List Named) → Knows old.names named
      → (behind : List Named) × Knows new.names behind
      × ((others : List Entry) (told : Option ℕ) → AreFetched behind new.left (rest ++ others) told → AreFetched named old.left (all ++ others) told)

pub goes_from : (old : Tally) (all : List Entry) → Goes old all old all
goes_from old all = record { goes = λ named k. (named, k, λ others told h. h) }

module _ (old : Tally) (all : List Entry) (mid : Tally) (front rest : List Entry) (g : Goes old all mid (front ++ rest)) where
  pub goes_on : (new : Tally) → Fetches front mid (Ok tt) new → Goes old all new rest
  goes_on new f = record {
    goes = λ named k.
        let x = g.goes named k in
        let y = f x.0 x.1 in (
          y.0,
          y.1,
          λ others told h. x.2 others told
              (subst (λ (l : List Entry). AreFetched x.0 mid.left l told) (sym (append_assoc front rest others)) (y.2 (rest ++ others) told h)),
        );
  }

  pub goes_wrong : (new : Tally) (fault : ClientFault) → Fetches front mid (Err fault) new → Fetches all old (Err fault) new
  goes_wrong new NoMemory f = tt
  goes_wrong new (Refused code) f = f
  goes_wrong new (Strange place) f = λ named k.
      let x = g.goes named k in
      let y = f x.0 x.1 in (
        y.0,
        y.1,
        λ others. x.2 others (Some y.0)
            (subst (λ (l : List Entry). AreFetched x.0 mid.left l (Some y.0)) (sym (append_assoc front rest others)) (y.2 (rest ++ others))),
      )

pub goes_all : (old : Tally) (all : List Entry) (new : Tally) → Goes old all new [] → Fetches all old (Ok tt) new
goes_all old all new g = λ named k. g.goes named k

-- ---- a reply

-- an empty set has no name
knows_none : (names : Names) → names.keys ≡ [] → Knows names []
knows_none names e = λ name. (λ h. true≢false (sym h ∙ ap (λ (l : List Named). list_any (is_at (name_cmp name)) l) e), λ h. absurd h)

module _ (reply : LocatedFetch) (tally : Tally) (empty : tally.names.keys ≡ []) (new : Tally) where
  abbrev all : List Entry
  all = flat_map entries_of reply.responses

  shorter : (told : Option ℕ) → AreFetched [] tally.left (all ++ []) told → AreFetched [] tally.left all told
  shorter told h = subst (λ (l : List Entry). AreFetched [] tally.left l told) (append-nil all) h

  pub judged : (result : Result (Unit {0}) ClientFault) → Fetches all tally result new → IsJudged reply tally.left result
  judged (Ok done) f = shorter None ((f [] (knows_none tally.names empty)).2 [] None refl)
  judged (Err NoMemory) f = tt
  judged (Err (Refused code)) f = f
  judged (Err (Strange place)) f = let x = f [] (knows_none tally.names empty) in (x.0, shorter (Some x.0) (x.2 []), x.1)

-- ---- a frame

-- reading refuses no reply for its code
not_code : (fault : WireFault) (code : ℤ) → ◌≡◌ {A = Result LocatedFetch ClientFault} (Err (fault_of fault)) (Err (Refused code)) → ⊥
not_code (Short p) code h = cc
not_code (BadVarint p) code h = cc
not_code (BadLength p) code h = cc
not_code (NotUtf8 p) code h = cc
not_code (Trailing p) code h = cc
not_code no_memory code h = cc

never_refused : (r : Result (ℤ × LocatedFetch) WireFault) (code : ℤ) → said r ≡ Err (Refused code) → ⊥
never_refused (Ok x) code h = cc
never_refused (Err fault) code h = not_code fault code h

module _ (frame : List ℕ) (most : ℕ) where
  pub unread : (fault : ClientFault) → IsAnswer (Err fault) (said (located_in frame)) → HearsFetch frame most (Err fault)
  unread NoMemory h = tt
  unread (Strange place) h = inl h
  unread (Refused code) h = absurd (never_refused (located_in frame) code h)

  module _ (reply : LocatedFetch) (is : said (located_in frame) ≡ Ok reply) where
    pub misjudged : (fault : ClientFault) → IsJudged reply most (Err fault) → HearsFetch frame most (Err fault)
    misjudged NoMemory h = tt
    misjudged (Strange place) h = inr (reply, h.0, is, h.1, h.2)
    misjudged (Refused code) h = absurd h
