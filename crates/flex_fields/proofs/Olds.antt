-- What is written of older fields, and of a tagged field, stands for what was to be written.
use Rattle.std.proofs.Common.{◌≡◌, ◌^◌, ◌<◌, ℕ, ℤ, pos, List, [], ◌++◌, length, refl, sym, ap, subst, ◌∙◌, append_assoc, append-nil, arith}
use Rattle.std.specs.Int.{w16, w32}
use Rattle.std.specs.Str.{IsUtf8}
use Rattle.std.proofs.lemmas.Str.{is_utf8-from_IsUtf8}
use Rattle.flex_fields.specs.Grammar.{IsInt, IsTags}
use Rattle.flex_fields.specs.Writing.{int_bytes, uvarint_bytes, one_tag_bytes}
use Rattle.flex_fields.specs.Formats.{Writes, int16, int32}
use Rattle.flex_fields.specs.Versions.{old_string, old_byte_string}
use Rattle.flex_fields.proofs.Written.{uvarint_spells}

pub string_writes : {a b c : List ℕ} {z : ℤ} (text t : List ℕ) → Writes int16 a b z → z ≡ pos (length text) → c ≡ b ++ t → t ≡ text
    → IsUtf8 text → Writes old_string a c text
string_writes {a} {b} {c} {z} text t p len bytes same utf8 = record {
  appended = bytes ∙ ap (λ (l : List ℕ). b ++ l) same ∙ ap (λ (l : List ℕ). l ++ text) p.appended
      ∙ ap (λ (y : ℤ). (a ++ int_bytes w16 y) ++ text) len ∙ append_assoc a (int_bytes w16 (pos (length text))) text;
  stands = ((int_bytes w16 (pos (length text)), subst (λ (y : ℤ). IsInt w16 (int_bytes w16 y) y) len p.stands, refl), is_utf8-from_IsUtf8 text utf8);
}

pub bytes_write : {a b c : List ℕ} {z : ℤ} (text : List ℕ) → Writes int32 a b z → z ≡ pos (length text) → c ≡ b ++ text
    → Writes old_byte_string a c text
bytes_write {a} {b} {c} {z} text p len bytes = record {
  appended = bytes ∙ ap (λ (l : List ℕ). l ++ text) p.appended
      ∙ ap (λ (y : ℤ). (a ++ int_bytes w32 y) ++ text) len ∙ append_assoc a (int_bytes w32 (pos (length text))) text;
  stands = (int_bytes w32 (pos (length text)), subst (λ (y : ℤ). IsInt w32 (int_bytes w32 y) y) len p.stands, refl);
}

pub one_tag_spells : (tag : ℕ) (inner : List ℕ) → tag < 2 ^ 32 → length inner < 2 ^ 32 → IsTags (one_tag_bytes tag inner)
one_tag_spells tag inner small few =
    let one = uvarint_bytes tag ++ (uvarint_bytes (length inner) ++ inner) in (
      uvarint_bytes 1,
      one,
      1,
      uvarint_spells 1 (omega arith),
      (
        one,
        [],
        (uvarint_bytes tag, uvarint_bytes (length inner), inner, tag, uvarint_spells tag small, uvarint_spells (length inner) few, refl),
        refl,
        sym (append-nil one),
      ),
      refl,
    )
