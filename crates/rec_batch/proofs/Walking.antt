-- What the pass over the records keeps: so many stand in front, and what is due behind them.
use Rattle.std.proofs.Common.{◌≡◌, ◌≢◌, ℕ, ◌+◌, ◌<◌, List, [], ◌∷◌, ◌++◌, length, inl, inr, refl, sym}
use Rattle.std.proofs.Common.{ap, subst, ◌∙◌, append_assoc, append-nil, length-append, arith}
use Rattle.std.specs.Prelude.{ℤ, pos, ◌+ℤ◌, Option, Some, None, MatchBool, is_some}
use Rattle.flex_fields.specs.Grammar.{AreMany, IsBytes}
use Rattle.rec_batch.specs.declared.form.Form.{Form}
use Rattle.rec_batch.specs.Grammar.{IsRecord, Record}
use Rattle.rec_batch.specs.Passing.{record_in}
use Rattle.rec_batch.specs.Batches.{Follow, IsBadRecord, MayFollow}
use Rattle.rec_batch.specs.Verdicts.{DueAfter, IsDue, Walks, next_due}
use Rattle.rec_batch.proofs.Parts.{IsBytes-behind}
use Rattle.rec_batch.proofs.Passed.{record_goes, record_none}

pub record Walked (form : Form) (last : ℤ) (content : List ℕ) (index : ℕ) (due : Option ℤ) (rest : List ℕ) : Type 0 where
  pub front : List ℕ
  pub records : List Record
  pub parts : content ≡ front ++ rest
  pub before : AreMany IsRecord front records
  pub number : length records ≡ index
  pub is_due : IsDue form last records due

pub walked_none : (form : Form) (last : ℤ) (content : List ℕ) → Walked form last content 0 (Some (pos 0)) content
walked_none form last content = record { front = []; records = []; parts = refl; before = refl; number = refl; is_due = (tt, refl) }

-- one more at the end
pub many_more : (front more : List ℕ) (records : List Record) (r : Record) → AreMany IsRecord front records → IsRecord more r → AreMany IsRecord (front ++ more) (records ++ (r ∷ []))
many_more front more [] r s t = (more, [], t, refl, ap (λ l. l ++ more) s ∙ sym (append-nil more))
many_more front more (q ∷ records) r s t = (s.0, s.1 ++ more, s.2, many_more s.1 more records r s.3 t, ap (λ l. l ++ more) s.4 ∙ append_assoc s.0 s.1 more)

next_due-more : (next : ℤ) (records : List Record) (r : Record) → next_due next (records ++ (r ∷ [])) ≡ r.offset_delta +ℤ pos 1
next_due-more next [] r = refl
next_due-more next (q ∷ records) r = next_due-more (q.offset_delta +ℤ pos 1) records r

follow_more : (form : Form) (last next : ℤ) (records : List Record) (r : Record) → Follow form last next records →
    MayFollow form last (next_due next records) r.offset_delta → Follow form last next (records ++ (r ∷ []))
follow_more form last next [] r f m = (m, tt)
follow_more form last next (q ∷ records) r f m = (f.0, follow_more form last (q.offset_delta +ℤ pos 1) records r f.1 m)

follow_less : (form : Form) (last next : ℤ) (records : List Record) (r : Record) → Follow form last next (records ++ (r ∷ [])) →
    Follow form last next records × MayFollow form last (next_due next records) r.offset_delta
follow_less form last next [] r f = (tt, f.0)
follow_less form last next (q ∷ records) r f = let g = follow_less form last (q.offset_delta +ℤ pos 1) records r f.1 in ((f.0, g.0), g.1)

due_more : (form : Form) (last : ℤ) (records : List Record) (r : Record) (due after : Option ℤ) → IsDue form last records due →
    DueAfter form last due r.offset_delta after → IsDue form last (records ++ (r ∷ [])) after
due_more form last records r None None i d = λ f. i (follow_less form last (pos 0) records r f).0
due_more form last records r None (Some n) i d = cc
due_more form last records r (Some next) None i d = λ f. d (subst (λ z. MayFollow form last z r.offset_delta) (sym i.1) (follow_less form last (pos 0) records r f).1)
due_more form last records r (Some next) (Some n) i d =
    (follow_more form last (pos 0) records r i.0 (subst (λ z. MayFollow form last z r.offset_delta) i.1 d.0), d.1 ∙ sym (next_due-more (pos 0) records r))

pub walked_more : (form : Form) (last : ℤ) (content : List ℕ) (index : ℕ) (due after : Option ℤ) (rest tail : List ℕ) (delta : ℤ) → IsBytes content → Walked form last content index due rest
    → record_in rest ≡ Some (delta, tail) → DueAfter form last due delta after → Walked form last content (index + 1) after tail
walked_more form last content index due after rest tail delta fits w e d =
    let r = record_goes rest tail delta (IsBytes-behind w.front rest (subst IsBytes w.parts fits)) e in
    record {
      front = w.front ++ r.2.front;
      records = w.records ++ (r.0 ∷ []);
      parts = w.parts ∙ ap (λ l. w.front ++ l) r.2.parts ∙ sym (append_assoc w.front r.2.front tail);
      before = many_more w.front r.2.front w.records r.0 w.before r.2.stands;
      number = omega (arith, length-append w.records (r.0 ∷ []), w.number);
      is_due = due_more form last w.records r.0 due after w.is_due (subst (λ z. DueAfter form last due z after) (sym r.1) d);
    }

-- no record stands where one is due
pub walked_bad : (form : Form) (last : ℤ) (content : List ℕ) (count index : ℕ) (due : Option ℤ) (rest : List ℕ) → index < count →
    Walked form last content index due rest → record_in rest ≡ None → IsBadRecord content count index
walked_bad form last content count index due rest h w e = record {
  front = w.front;
  rest = rest;
  records = w.records;
  parts = w.parts;
  before = w.before;
  number = w.number;
  bad = inl (h, λ front tail r p s. record_none rest front tail r e p s);
}

-- something stands behind the last one
pub walked_past : (form : Form) (last : ℤ) (content : List ℕ) (count index : ℕ) (due : Option ℤ) (rest : List ℕ) → index ≡ count →
    Walked form last content index due rest → (rest ≢ []) → IsBadRecord content count count
walked_past form last content count index due rest e w h = record {
  front = w.front;
  rest = rest;
  records = w.records;
  parts = w.parts;
  before = w.before;
  number = w.number ∙ e;
  bad = inr (refl, h);
}

-- nothing does
pub walked_all : (form : Form) (last : ℤ) (content : List ℕ) (count index : ℕ) (due : Option ℤ) (rest : List ℕ) → index ≡ count →
    Walked form last content index due rest → rest ≡ [] → Walks form last content count (is_some due)
walked_all form last content count index due rest e w h =
    (w.records, w.number ∙ e, subst (λ l. AreMany IsRecord l w.records) (sym (w.parts ∙ ap (λ l. w.front ++ l) h ∙ append-nil w.front)) w.before, follows due w.is_due)
  where
    follows : (due : Option ℤ) → IsDue form last w.records due → MatchBool (is_some due) (Follow form last (pos 0) w.records) (Follow form last (pos 0) w.records → ⊥)
    follows None i = i
    follows (Some n) i = i.0
