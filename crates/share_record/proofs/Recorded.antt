-- What a recorder keeps over a history.
use Rattle.std.proofs.Common.{◌≡◌, ◌∷◌, ◌++◌, ◌∙◌, [], List, Some, ℕ, refl, sym, ap, subst, append_assoc, append-nil}
use Rattle.shard_lock.specs.declared.shard.Entry.{Entry}
use Rattle.shard_lock.specs.History.{Leads}
use Rattle.share_record.specs.declared.tag.Tag.{Tag}
use Rattle.share_record.specs.declared.tag.Tag.TheVariants.{Part, Expire, Tick, Offer}
use Rattle.share_record.specs.declared.tag.Tagged.{Tagged}
use Rattle.share_record.specs.declared.tape.TapeState.{TapeState}
use Rattle.share_record.specs.declared.tape.TapeState.TheVariants.{Whole, Full, NoMemory}
use Rattle.share_record.specs.Tapes.{ActsRecorded, IfWhole, Notes, Recorded, RecordsHistory, begins, tags_of, tape_of, untagged}

still_whole : (state : TapeState) {P Q : Type 0} → (P → Q) → IfWhole state P → IfWhole state Q
still_whole Whole f h = f h
still_whole Full f h = tt
still_whole NoMemory f h = tt

noted : (most : ℕ) (tag : Tag) (old : List Tag) (state : TapeState) (new : List Tag) (after : TapeState) (x : List Tag)
    → Notes (Some most) tag old state new after → IfWhole state (old ≡ x) → IfWhole after (new ≡ x ++ tape_of tag)
noted most Offer old Whole new after x h k = subst (λ (s : TapeState). IfWhole s (new ≡ x ++ [])) (sym h.1) (h.0 ∙ (k ∙ sym (append-nil x)))
noted most (Part l s) old Whole new Whole x h k = h.0 ∙ ap (λ y. y ++ Part l s ∷ []) k
noted most (Part l s) old Whole new Full x h k = tt
noted most (Part l s) old Whole new NoMemory x h k = tt
noted most (Expire n) old Whole new Whole x h k = h.0 ∙ ap (λ y. y ++ Expire n ∷ []) k
noted most (Expire n) old Whole new Full x h k = tt
noted most (Expire n) old Whole new NoMemory x h k = tt
noted most (Tick n) old Whole new Whole x h k = h.0 ∙ ap (λ y. y ++ Tick n ∷ []) k
noted most (Tick n) old Whole new Full x h k = tt
noted most (Tick n) old Whole new NoMemory x h k = tt
noted most tag old Full new after x h k = subst (λ (s : TapeState). IfWhole s (new ≡ x ++ tape_of tag)) (sym h.1) tt
noted most tag old NoMemory new after x h k = subst (λ (s : TapeState). IfWhole s (new ≡ x ++ tape_of tag)) (sym h.1) tt

module _ {S E A : Type 0} (acts : S → E → A → S → Type 0) where
  leads_shard : (old : Recorded S) (es : List (Entry (Tagged E) A)) (new : Recorded S) → Leads (ActsRecorded acts) old es new
      → Leads acts old.shard (untagged es) new.shard
  leads_shard old [] new h = ap (λ (r : Recorded S). r.shard) h
  leads_shard old (e ∷ es) new h = (h.0.shard, h.1.acts_so, leads_shard h.0 es new h.2)

  tape_grows : (most : ℕ) (old : Recorded S) (es : List (Entry (Tagged E) A)) (new : Recorded S) (x : List Tag) → old.most ≡ Some most
      → IfWhole old.state (old.tags ≡ x) → Leads (ActsRecorded acts) old es new → IfWhole new.state (new.tags ≡ x ++ tags_of es)
  tape_grows most old [] new x is k h =
      subst (λ (r : Recorded S). IfWhole r.state (r.tags ≡ x ++ [])) h (still_whole old.state (λ q. q ∙ sym (append-nil x)) k)
  tape_grows most old (e ∷ es) new x is k h =
      let mid = h.0 in
      let notes : Notes (Some most) e.event.tag old.tags old.state mid.tags mid.state =
      subst (λ o. Notes o e.event.tag old.tags old.state mid.tags mid.state) is h.1.notes in
      let more = noted most e.event.tag old.tags old.state mid.tags mid.state x notes k in
      still_whole new.state (λ q. q ∙ append_assoc x (tape_of e.event.tag) (tags_of es))
      (tape_grows most mid es new (x ++ tape_of e.event.tag) (h.1.most ∙ is) more h.2)

  pub records : (shard : S) (most : ℕ) (history : List (Entry (Tagged E) A)) (new : Recorded S)
      → Leads (ActsRecorded acts) (begins shard most) history new → RecordsHistory acts shard history new
  records shard most history new h = record {
    acts_so = leads_shard (begins shard most) history new h;
    tape = tape_grows most (begins shard most) history new [] refl refl h;
  }
