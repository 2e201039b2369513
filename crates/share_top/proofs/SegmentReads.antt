-- What a reader of segments finds.
use Rattle.std.proofs.Common.{◌≡◌, ◌+◌, ◌<◌, ◌≤◌, ℕ, List, [], ◌++◌, Option, Some, None, IfSome, length, refl, sym, ap, subst, ◌∙◌, arith, append_assoc}
use Rattle.std.proofs.Common.{append-nil, take, drop, length-append}
use Rattle.std.specs.Prelude.{ℤ, pos, ◌+ℤ◌}
use Rattle.std.specs.Int.{w32, from_be_bytes, cast_signed}
use Rattle.std.proofs.lemmas.Int.{ints}
use Rattle.std.proofs.lemmas.List.{take-append-le, drop-append-le, length-drop}
use Rattle.std.specs.Io.KnownBytes.{Consumes, Keeps, IsAtEnd}
use Rattle.std.proofs.KnownBytes.{Consumes-trans}
use Rattle.session_script.specs.Script.{longest}
use Rattle.session_script.specs.Unread.{Unread}
use Rattle.session_script.specs.Reading.{Takes}
use Rattle.rec_batch.specs.Fields.{batch_length}
use Rattle.share_top.specs.SegmentReading.{IsSize, IsNoSize, IsSized, HasNoFront, RefusesFront}

pub keeps_consumes : (old new : Option (List ℕ)) → Keeps old new → Consumes old new []
keeps_consumes None new k = tt
keeps_consumes (Some xs) None k = absurd k
keeps_consumes (Some xs) (Some ys) k = sym k

pub same_consumes : (old : Option (List ℕ)) → Consumes old old []
same_consumes None = tt
same_consumes (Some xs) = refl

-- nothing was taken yet
pub takes_none : (u : Unread) (left : Option (List ℕ)) → Takes u u left left []
takes_none u left = record { given = []; consumed = same_consumes left; parts = append-nil u.pending; place = omega arith }

-- nothing, and then this
pub takes_then : (a b c : Unread) (x y z : Option (List ℕ)) (line : List ℕ) → Takes a b x y [] → Takes b c y z line → Takes a c x z line
takes_then a b c x y z line p q = record {
  given = p.given ++ q.given;
  consumed = Consumes-trans x y z p.given q.given p.consumed q.consumed;
  parts = sym (append_assoc a.pending p.given q.given) ∙ ap (λ (l : List ℕ). l ++ q.given) p.parts ∙ q.parts;
  place = omega (arith, p.place, q.place);
}

-- ---- the length field stands in the first 12 bytes

pub same_field : (bytes more : List ℕ) → 12 ≤ length bytes → batch_length (bytes ++ more) ≡ batch_length bytes
same_field bytes more le =
    let len = length-drop 8 bytes in
    let field : take 4 (drop 8 (bytes ++ more)) ≡ take 4 (drop 8 bytes) =
    ap (take 4) (drop-append-le 8 bytes more (omega (arith, le))) ∙ take-append-le 4 (drop 8 bytes) more (omega (arith, len, le)) in
    ap (λ (l : List ℕ). cast_signed w32 (from_be_bytes w32 l)) field

pub same_size : (header : List ℕ) (m n : ℕ) → IsSize header m → IsSize header n → m ≡ n
same_size header m n p q = let e = sym p.is ∙ q.is in omega (arith, ints, e)

-- what a front of the rest says, the rest says
pub size_of_whole : (bytes more : List ℕ) (n : ℕ) → 12 ≤ length bytes → IsSize bytes n → IsSize (bytes ++ more) n
size_of_whole bytes more n le s = record { least = s.least; most = s.most; is = ap (λ (z : ℤ). z +ℤ pos 12) (same_field bytes more le) ∙ s.is }

pub size_of_front : (bytes more : List ℕ) (n : ℕ) → 12 ≤ length bytes → IsSize (bytes ++ more) n → IsSize bytes n
size_of_front bytes more n le s = record { least = s.least; most = s.most; is = ap (λ (z : ℤ). z +ℤ pos 12) (sym (same_field bytes more le)) ∙ s.is }

-- such bytes at the front of a rest have the size that the rest says
pub front_size : (bytes more rest : List ℕ) → IsSized bytes → rest ≡ bytes ++ more → IsSize rest (length bytes)
front_size bytes more rest s e = subst (λ (l : List ℕ). IsSize l (length bytes)) (sym e) (size_of_whole bytes more (length bytes) (omega (arith, s.least)) s)

module _ (place : ℕ) (pending more : List ℕ) where
  -- fewer bytes than the length field needs, and nothing more
  pub few_none : length pending < 12 → HasNoFront place pending
  few_none lt bytes after s e = absurd (omega (arith, lt, ap length e, length-append bytes after, s.least))

  pub no_size_none : 12 ≤ length pending → IsNoSize pending → HasNoFront place (pending ++ more)
  no_size_none le none bytes after s e = absurd (none (length bytes) (size_of_front pending more (length bytes) le (front_size bytes after (pending ++ more) s e)))

  pub far_none : (size : ℕ) → 12 ≤ length pending → IsSize pending size → longest < place + size → HasNoFront place (pending ++ more)
  far_none size le is far bytes after s e =
      let same = same_size pending size (length bytes) is (size_of_front pending more (length bytes) le (front_size bytes after (pending ++ more) s e)) in
      omega (arith, far, same)

  pub short_none : (size : ℕ) → IsSize pending size → length pending < size → HasNoFront place pending
  short_none size is lt bytes after s e =
      let same = same_size pending size (length bytes) is (front_size bytes after pending s e) in
      absurd (omega (arith, same, lt, ap length e, length-append bytes after))

-- ---- of all that may follow

pub refuses_each : (left : Option (List ℕ)) (place : ℕ) (pending : List ℕ) → 0 < length pending → ((more : List ℕ) → HasNoFront place (pending ++ more))
    → IfSome left (λ more. RefusesFront place (pending ++ more))
refuses_each None place pending lt none = tt
refuses_each (Some more) place pending lt none = (none more, λ e. omega (arith, lt, ap length e, length-append pending more))

pub refuses_end : (left : Option (List ℕ)) (place : ℕ) (pending : List ℕ) → 0 < length pending → IsAtEnd left → HasNoFront place pending
    → IfSome left (λ more. RefusesFront place (pending ++ more))
refuses_end None place pending lt end none = tt
refuses_end (Some more) place pending lt end none =
    subst (λ (l : List ℕ). RefusesFront place l) (sym (ap (λ (l : List ℕ). pending ++ l) end ∙ append-nil pending)) (none, λ e. omega (arith, lt, ap length e))

-- what was read on keeps the size that is said
pub size_on : (old new : Unread) (before after : Option (List ℕ)) (size : ℕ) → Takes old new before after [] → 12 ≤ length old.pending → IsSize old.pending size → IsSize new.pending size
size_on old new before after size t le s = subst (λ (l : List ℕ). IsSize l size) t.parts (size_of_whole old.pending t.given size le s)

pub longer_on : (old new : Unread) (before after : Option (List ℕ)) → Takes old new before after [] → length old.pending ≤ length new.pending
longer_on old new before after t = omega (arith, ap length t.parts, length-append old.pending t.given)
