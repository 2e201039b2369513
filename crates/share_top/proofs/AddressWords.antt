-- An address is read in one way.
use Rattle.std.proofs.Common.{◌≡◌, ◌≢◌, ◌≤◌, ◌<◌, ℕ, List, ◌∷◌, ◌++◌, Option, Bor, MatchOption, All, length, get_or, refl, sym, ap, subst, ◌∙◌, arith, true}
use Rattle.std.specs.Fmt.{decimal}
use Rattle.std.proofs.lemmas.Fmt.{decimal_is_IsNumeral, decimal_injective}
use Rattle.std.proofs.lemmas.Bool.{false≢true}
use Rattle.session_script.specs.Lines.{HasNone}
use Rattle.session_script.proofs.Cuts.{none_at, one_cut, none_digits}
use Rattle.share_top.specs.declared.words.address.Address.{Address}
use Rattle.share_top.specs.Words.{IsAddress, IsHost, address_word, is_host_byte}
use Rattle.share_top.specs.WordReading.{IsNoNumberWithin, IsNumberWithin}
use Rattle.share_top.proofs.TopicWords.{IsColonCut}

colon_is_none : (b : ℕ) → is_host_byte b ≡ true → b ≢ 58
colon_is_none b h e = false≢true (subst (λ (x : ℕ). is_host_byte x ≡ true) e h)

pub no_colon : (host : List ℕ) → IsHost host → HasNone 58 host
no_colon host h = none_at 58 host (λ i lt. colon_is_none (get_or host i 0) (h.2 i 0 lt))

-- the host and the port of one address
pub one_address : (least : ℕ) (a b : Address) → IsAddress least a → IsAddress least b → address_word a ≡ address_word b → (a.host ≡ b.host) × (a.port ≡ b.port)
one_address least a b p q e =
    let c = one_cut 58 a.host b.host (decimal a.port) (decimal b.port) (no_colon a.host p.host) (no_colon b.host q.host) e in
    (c.0, decimal_injective a.port b.port (omega (arith, p.most_port)) (omega (arith, q.most_port)) c.1)

module _ (least : ℕ) (word : List ℕ) (address : Address) (is : IsAddress least address) (says : word ≡ address_word address) where
  -- its colon
  pub cut_there : ((front rest : List ℕ) → IsColonCut word front rest → ⊥) → ⊥
  cut_there none = none address.host (decimal address.port) (no_colon address.host is.host, says)

  pub parts_are : (host port : List ℕ) → IsColonCut word host port → (host ≡ address.host) × (port ≡ decimal address.port)
  parts_are host port c = one_cut 58 host address.host port (decimal address.port) c.0 (no_colon address.host is.host) (sym c.1 ∙ says)

  pub host_is : (host port : List ℕ) → IsColonCut word host port → IsHost host
  host_is host port c = subst IsHost (sym (parts_are host port c).0) is.host

  pub port_is : (host port : List ℕ) → IsColonCut word host port → IsNoNumberWithin least 65535 port → ⊥
  port_is host port c none = none address.port (is.least_port, (is.most_port, (parts_are host port c).1))

pub is_address : (least : ℕ) (word host port name : List ℕ) (n : ℕ) → IsColonCut word host port → IsHost host → name ≡ host → IsNumberWithin least 65535 port n
    → IsAddress least (record { host = name; port = n }) × (word ≡ address_word (record { host = name; port = n }))
is_address least word host port name n c h same p = (
  record { host = subst IsHost (sym same) h; least_port = p.0; most_port = p.1.0 },
  c.1 ∙ ap (λ (x : List ℕ). x ++ 58 ∷ port) (sym same) ∙ ap (λ (x : List ℕ). name ++ 58 ∷ x) p.1.1,
)
