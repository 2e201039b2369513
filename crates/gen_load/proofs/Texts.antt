-- The lines of events.
use Rattle.std.proofs.Common.{◌≡◌, ℕ, ◌/◌, ◌%◌, List, [], ◌∷◌, ◌++◌, slice_index, refl, ap, ◌∙◌, append_assoc, codes, arith}
use Rattle.std.specs.Int.{w32, to_be_bytes}
use Rattle.std.specs.List.{flat_map}
use Rattle.std.specs.Fmt.{decimal}
use Rattle.std.proofs.lemmas.Fmt.{decimal_digit}
use Rattle.hex.specs.Hex.{encode_lower, encode_with, lower_digits}
use Rattle.session_script.specs.Script.{line_of}
use Rattle.session_script.specs.declared.event.Event.TheVariants.{Bytes, Expire, Power}
use Rattle.gen_load.specs.Session.{opened}

pub digits_append : (table xs ys : List ℕ) → encode_with table (xs ++ ys) ≡ encode_with table xs ++ encode_with table ys
unfolding encode_with
digits_append table [] ys = refl
digits_append table (x ∷ xs) ys = ap (λ (l : List ℕ). slice_index table (x / 16) ∷ slice_index table (x % 16) ∷ l) (digits_append table xs ys)

pub no_part : decimal 0 ≡ 48 ∷ []
no_part = decimal_digit 0 (omega arith)

pub opened_lines : flat_map line_of opened ≡ codes "open 1\nopen 2\nopen 3\n"
opened_lines = rw (decimal_digit 1 (omega arith), decimal_digit 2 (omega arith), decimal_digit 3 (omega arith)) refl

pub restart_lines : flat_map line_of (Power 0 ∷ opened) ≡ codes "power 0\nopen 1\nopen 2\nopen 3\n"
restart_lines = rw (decimal_digit 0 (omega arith), decimal_digit 1 (omega arith), decimal_digit 2 (omega arith), decimal_digit 3 (omega arith)) refl

joined : (old a b c d e f : List ℕ) → ((((((old ++ a) ++ b) ++ c) ++ d) ++ e) ++ f) ≡ old ++ (a ++ ((b ++ (c ++ (d ++ e))) ++ f))
joined old a b c d e f =
    let words = b ++ (c ++ (d ++ e)) in
    ap (λ (l : List ℕ). l ++ f) (append_assoc (((old ++ a) ++ b) ++ c) d e ∙ append_assoc ((old ++ a) ++ b) c (d ++ e)
    ∙ append_assoc (old ++ a) b (c ++ (d ++ e)) ∙ append_assoc old a words)
    ∙ append_assoc old (a ++ words) f ∙ ap (λ (l : List ℕ). old ++ l) (append_assoc a words f)

-- the line of some bytes, made of its pieces; the bytes are a size and what it is the size of
pub bytes_line : (old a b c d e : List ℕ) (conn size : ℕ) (content : List ℕ) → a ≡ old ++ codes "bytes " → b ≡ a ++ decimal conn → c ≡ b ++ codes " "
    → d ≡ c ++ encode_lower (to_be_bytes w32 size) → e ≡ d ++ encode_lower content
    → e ++ codes "\n" ≡ old ++ line_of (Bytes conn (to_be_bytes w32 size ++ content))
bytes_line old a b c d e conn size content p q r s t =
    rw (t, s, r, q, p, digits_append lower_digits (to_be_bytes w32 size) content)
    (joined old (codes "bytes ") (decimal conn) (codes " ") (encode_lower (to_be_bytes w32 size)) (encode_lower content) (codes "\n"))

pub expiry_line : (old a b : List ℕ) (moment : ℕ) → a ≡ old ++ codes "expire orders 0 " → b ≡ a ++ decimal moment
    → b ++ codes "\n" ≡ old ++ line_of (Expire (codes "orders") 0 moment)
expiry_line old a b moment p q =
    rw (q, p, no_part) (append_assoc (old ++ codes "expire orders 0 ") (decimal moment) (codes "\n") ∙ append_assoc old (codes "expire orders 0 ") (decimal moment ++ codes "\n"))
