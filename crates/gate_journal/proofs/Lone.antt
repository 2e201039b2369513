-- A journal behind whose first gate no byte can stand, while its first gate is closed and what follows is cut off.
use Rattle.std.proofs.Common.{◌≡◌, inl, inr, sym, ap, ◌∙◌, arith, ℕ, ◌≤◌, List, [], ◌∷◌, length, drop}
use Rattle.std.proofs.lemmas.List.{take_all}
use Rattle.edge_io.specs.Disk.{UnfinishedCut}
use Rattle.gate_journal.specs.Clearing.{IsAsBefore, IsShort, IsTouched}
use Rattle.gate_journal.specs.declared.writer.Writer.{Writer}
use Rattle.gate_journal.specs.declared.writer.Mending.{Mending}
use Rattle.gate_journal.specs.declared.writer.Mending.TheVariants.{Nothing, Behind}

pub short : (c d : List ℕ) → length d ≤ 1 → drop 1 c ≡ drop 1 d → length c ≤ 1
short [] d le same = omega arith
short (x ∷ c) [] le same = let is : c ≡ [] = same in omega (arith, ap length is)
short (x ∷ c) (y ∷ d) le same = let is : c ≡ d = same in omega (arith, le, ap length is)

-- writing the first gate lets nothing follow
pub touched_short : {D : Type 0} (writer : Writer D) (image : List ℕ → Type 0) → IsShort image → (c : List ℕ) → IsTouched writer image c → length c ≤ 1
touched_short writer image few c t = elim t.2 [
  | inl is ↦ let le = few t.0 t.1 in omega (arith, le, ap length is)
  | inr far ↦ short c t.0 (few t.0 t.1) far.1
]

-- nor does a cut change it
pub cut_short : (n : ℕ) (e x : List ℕ) → n ≡ 1 → length e ≤ 1 → UnfinishedCut n e x → x ≡ e
cut_short n e x one le cut = sym cut.front ∙ take_all (length x) e (omega (arith, one, le, cut.no_shorter))

pub not_both : (m : Mending) → m ≡ Behind → m ≡ Nothing → ⊥
not_both m behind nothing = let e : Behind ≡ Nothing = sym behind ∙ nothing in absurd cc

module _ {D : Type 0} (old mid new : Writer D) (was : IsAsBefore old mid) where
  -- another call that leaves the numbers
  pub as_before : new.end ≡ mid.end → new.count ≡ mid.count → new.mending ≡ mid.mending → IsAsBefore old new
  as_before end count mending =
      ap (λ (n : ℕ). record { disk = new.disk; end = n; count = new.count; mending = new.mending }) (end ∙ ap (λ (w : Writer D). w.end) was)
      ∙ ap (λ (n : ℕ). record { disk = new.disk; end = old.end; count = n; mending = new.mending }) (count ∙ ap (λ (w : Writer D). w.count) was)
      ∙ ap (λ (m : Mending). record { disk = new.disk; end = old.end; count = old.count; mending = m }) (mending ∙ ap (λ (w : Writer D). w.mending) was)
