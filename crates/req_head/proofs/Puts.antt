-- A length and a string are the spelling of a client id.
use Rattle.std.proofs.Common.{◌≡◌, ℕ, ℤ, pos, List, ◌++◌, length, Some, refl, ap, subst, ◌∙◌, append_assoc}
use Rattle.std.specs.Int.{w16}
use Rattle.std.specs.Str.{IsUtf8}
use Rattle.std.proofs.lemmas.Str.{is_utf8-from_IsUtf8}
use Rattle.flex_fields.specs.Grammar.{IsInt}
use Rattle.flex_fields.specs.Writing.{int_bytes}
use Rattle.flex_fields.specs.Formats.{Writes, int16}
use Rattle.req_head.specs.Heads.{client_id}

pub string_writes : {a b c : List ℕ} {z : ℤ} (text t : List ℕ) → Writes int16 a b z → z ≡ pos (length text) → c ≡ b ++ t → t ≡ text
    → IsUtf8 text → Writes client_id a c (Some text)
string_writes {a} {b} {c} {z} text t p len bytes same utf8 = record {
  appended = bytes ∙ ap (λ (l : List ℕ). b ++ l) same ∙ ap (λ (l : List ℕ). l ++ text) p.appended
      ∙ ap (λ (y : ℤ). (a ++ int_bytes w16 y) ++ text) len ∙ append_assoc a (int_bytes w16 (pos (length text))) text;
  stands = (int_bytes w16 (pos (length text)), subst (λ (y : ℤ). IsInt w16 (int_bytes w16 y) y) len p.stands, is_utf8-from_IsUtf8 text utf8, refl);
}
