-- The line of a reply, made of its pieces.
use Rattle.std.proofs.Common.{◌≡◌, ℕ, List, ◌++◌, ◌∙◌, append_assoc, codes}
use Rattle.std.specs.Fmt.{decimal}
use Rattle.hex.specs.Hex.{encode_lower}
use Rattle.topic_conf.specs.declared.topic.Topic.{Topic}
use Rattle.session_script.specs.declared.event.Outcome.TheVariants.{Reply}
use Rattle.session_script.specs.Output.{outcome_line}

behind : (old a b c d e : List ℕ) → ((((old ++ a) ++ b) ++ c) ++ d) ++ e ≡ old ++ (a ++ (b ++ (c ++ (d ++ e))))
behind old a b c d e =
    append_assoc (((old ++ a) ++ b) ++ c) d e ∙ append_assoc ((old ++ a) ++ b) c (d ++ e)
    ∙ append_assoc (old ++ a) b (c ++ (d ++ e)) ∙ append_assoc old a (b ++ (c ++ (d ++ e)))

pub reply_line : (topics : List Topic) (old a b c d : List ℕ) (conn : ℕ) (frame : List ℕ) → a ≡ old ++ codes "reply " → b ≡ a ++ decimal conn
    → c ≡ b ++ codes " " → d ≡ c ++ encode_lower frame → d ++ codes "\n" ≡ old ++ outcome_line topics (Reply conn frame)
reply_line topics old a b c d conn frame p q r s =
    rw (s, r, q, p) (behind old (codes "reply ") (decimal conn) (codes " ") (encode_lower frame) (codes "\n"))
