-- What happens to one connection, as it is found by its number.
use Rattle.std.proofs.Common.{◌≡◌, ◌≢◌, ◌∙◌, ℕ, Bool, true, false, cond, [], ◌∷◌, Option, Some, None, refl, sym, ap, subst}
use Rattle.std.proofs.lemmas.Map.Lookups.{exact_unsigned}
use Rattle.std.specs.Ordering.{nat_cmp}
use Rattle.std.specs.declared.cmp.Ordering.TheVariants.{Less}
use Rattle.std.specs.Cmp.{nat_cmp_total}
use Rattle.std.specs.List.{AllByRecursion}
use Rattle.std.specs.Map.{remove_entry}
use Rattle.conn_core.specs.Conns.{ConnParts, conn_after_end, is_gone, new_conn}
use Rattle.broker_model.specs.Machine.{at_connection, conn_at, ended_in, left, named, opened, opened_at}
use Rattle.broker_model.proofs.Lists.{some_same, none_not}
use Rattle.broker_model.proofs.Maps.{Rises, removed_gone, removed_other, rises_removed, rises_set, set_found, set_other}
use Rattle.broker_model.proofs.Others.{conn_other}
use Rattle.tape_run.specs.Recordings.{closed, kept}
use Rattle.tape_run.proofs.Pieces.{Connections}

-- the numbers rise strictly, so that each connection stands once
abbrev pub InOrder : Connections → Type 0
InOrder es = Rises nat_cmp nat_cmp_total exact_unsigned es

abbrev IsAbove : ℕ → Connections → Type 0
IsAbove key es = AllByRecursion (λ (e : ℕ × ConnParts). nat_cmp key e.0 ≡ Less) es

-- ---- a connection that changes

module _ (id : ℕ) (f : ConnParts → ConnParts) where
  pub changed_found : (es : Connections) (c : ConnParts) → conn_at id es ≡ Some c → conn_at id (at_connection id f es) ≡ Some (f c)
  changed_found [] c e = absurd (none_not c e)
  changed_found (x ∷ xs) c e = go (named id x.0) refl (changed_found xs c) e where
    go : (b : Bool) → named id x.0 ≡ b → (conn_at id xs ≡ Some c → conn_at id (at_connection id f xs) ≡ Some (f c))
        → cond b (Some x.1) (conn_at id xs) ≡ Some c → conn_at id (cond b ((x.0, f x.1) ∷ xs) (x ∷ at_connection id f xs)) ≡ Some (f c)
    go true is ih e = ap (λ b. cond b (Some (f x.1)) (conn_at id xs)) is ∙ ap (λ d. Some (f d)) (some_same x.1 c e)
    go false is ih e = ap (λ b. cond b (Some x.1) (conn_at id (at_connection id f xs))) is ∙ ih e

  above_changed : (key : ℕ) (es : Connections) → IsAbove key es → IsAbove key (at_connection id f es)
  above_changed key [] above = tt
  above_changed key (x ∷ xs) above = go (named id x.0) (above_changed key xs above.1) where
    go : (b : Bool) → IsAbove key (at_connection id f xs) → IsAbove key (cond b ((x.0, f x.1) ∷ xs) (x ∷ at_connection id f xs))
    go true ih = (above.0, above.1)
    go false ih = (above.0, ih)

  pub rises_changed : (es : Connections) → InOrder es → InOrder (at_connection id f es)
  rises_changed [] rises = tt
  rises_changed (x ∷ xs) rises = go (named id x.0) (rises_changed xs rises.1) where
    go : (b : Bool) → InOrder (at_connection id f xs) → InOrder (cond b ((x.0, f x.1) ∷ xs) (x ∷ at_connection id f xs))
    go true ih = (rises.0, rises.1)
    go false ih = (above_changed x.0 xs rises.0, ih)

-- ---- a connection that is left so, or is gone

module _ (id : ℕ) where
  pub left_found : (c : ConnParts) (es : Connections) (was : ConnParts) → InOrder es → conn_at id es ≡ Some was → conn_at id (left id c es) ≡ kept c
  left_found c es was rises e = go (is_gone c) where
    go : (gone : Bool) → conn_at id (cond gone (remove_entry (named id) es) (at_connection id (λ d. c) es)) ≡ cond gone None (Some c)
    go true = removed_gone nat_cmp nat_cmp_total exact_unsigned id es rises
    go false = changed_found id (λ d. c) es was e

  pub left_rises : (c : ConnParts) (es : Connections) → InOrder es → InOrder (left id c es)
  left_rises c es rises = go (is_gone c) where
    go : (gone : Bool) → InOrder (cond gone (remove_entry (named id) es) (at_connection id (λ d. c) es))
    go true = rises_removed nat_cmp nat_cmp_total exact_unsigned (named id) es rises
    go false = rises_changed id (λ d. c) es rises

  pub left_other : (other : ℕ) → other ≢ id → (c : ConnParts) (es : Connections) → conn_at other (left id c es) ≡ conn_at other es
  left_other other ne c es = go (is_gone c) where
    go : (gone : Bool) → conn_at other (cond gone (remove_entry (named id) es) (at_connection id (λ d. c) es)) ≡ conn_at other es
    go true = removed_other nat_cmp nat_cmp_total exact_unsigned id other ne es
    go false = conn_other id other ne (λ d. c) es

  -- ---- one that is closed, and one that is opened

  ended_found : (o : Option ConnParts) (es : Connections) → InOrder es → conn_at id es ≡ o → conn_at id (ended_in id o es) ≡ closed o
  ended_found None es rises e = e
  ended_found (Some c) es rises e = left_found (conn_after_end c) es c rises e

  ended_rises : (o : Option ConnParts) (es : Connections) → InOrder es → InOrder (ended_in id o es)
  ended_rises None es rises = rises
  ended_rises (Some c) es rises = left_rises (conn_after_end c) es rises

  ended_other : (other : ℕ) → other ≢ id → (o : Option ConnParts) (es : Connections) → conn_at other (ended_in id o es) ≡ conn_at other es
  ended_other other ne None es = refl
  ended_other other ne (Some c) es = left_other other ne (conn_after_end c) es

  pub close_found : (es : Connections) → InOrder es → conn_at id (ended_in id (conn_at id es) es) ≡ closed (conn_at id es)
  close_found es rises = ended_found (conn_at id es) es rises refl

  pub close_rises : (es : Connections) → InOrder es → InOrder (ended_in id (conn_at id es) es)
  close_rises es rises = ended_rises (conn_at id es) es rises

  pub close_other : (other : ℕ) → other ≢ id → (es : Connections) → conn_at other (ended_in id (conn_at id es) es) ≡ conn_at other es
  close_other other ne es = ended_other other ne (conn_at id es) es

  pub open_found : (es : Connections) → conn_at id es ≡ None → conn_at id (opened id es) ≡ Some new_conn
  open_found es none =
      subst (λ (o : Option ConnParts). conn_at id (opened_at id o es) ≡ Some new_conn) (sym none) (set_found nat_cmp nat_cmp_total exact_unsigned id new_conn es)

  pub open_rises : (es : Connections) → conn_at id es ≡ None → InOrder es → InOrder (opened id es)
  open_rises es none rises =
      subst (λ (o : Option ConnParts). InOrder (opened_at id o es)) (sym none) (rises_set nat_cmp nat_cmp_total exact_unsigned id new_conn es rises)

  pub open_other : (other : ℕ) → other ≢ id → (es : Connections) → conn_at id es ≡ None → conn_at other (opened id es) ≡ conn_at other es
  open_other other ne es none =
      subst (λ (o : Option ConnParts). conn_at other (opened_at id o es) ≡ conn_at other es) (sym none) (set_other nat_cmp nat_cmp_total exact_unsigned id new_conn other ne es)
