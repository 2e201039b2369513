-- What a client's step means to the broker.
use Rattle.std.proofs.Common.{◌≡◌, ℕ, Bool, true, false, cond, List, [], ◌∷◌, Some, None, Result, Ok, Err, OnOk, OnErr, IfOk, IfErr, MatchResult, refl, sym, ap, ◌∙◌}
use Rattle.std.specs.Map.{set_value, remove_entry}
use Rattle.conn_core.specs.Conns.{ConnParts, is_gone, without_replies}
use Rattle.broker_model.specs.Machine.{named, conn_at, at_connection, left}

-- a connection without replies
pub none_waiting : (conn : ConnParts) → conn.replies ≡ [] → conn ≡ without_replies conn
none_waiting conn e = λ i. record { unread = conn.unread; work = conn.work; sessions = conn.sessions; releases = conn.releases; replies = e i }

pub on_err : {X Y P : Type 0} (result : Result X Y) → P → OnErr result P
on_err (Ok x) p = tt
on_err (Err y) p = p

pub ok_both : {X Y Q : Type 0} (P R : X → Type 0) (result : Result X Y) → ((x : X) → P x → Q → R x) → IfOk result P → OnOk result Q → IfOk result R
ok_both P R (Ok x) f p q = f x p q
ok_both P R (Err y) f p q = tt

pub ok_weaker : {X Y : Type 0} (P R : X → Type 0) (result : Result X Y) → ((x : X) → P x → R x) → IfOk result P → IfOk result R
ok_weaker P R (Ok x) f p = f x p
ok_weaker P R (Err y) f p = tt

pub ok_gives : {X Y Q : Type 0} (P : X → Type 0) (result : Result X Y) → ((x : X) → P x → Q) → IfOk result P → OnOk result Q
ok_gives P (Ok x) f p = f x p
ok_gives P (Err y) f p = tt

pub err_weaker : {X Y : Type 0} (P R : Y → Type 0) (result : Result X Y) → ((y : Y) → P y → R y) → IfErr result P → IfErr result R
err_weaker P R (Ok x) f p = tt
err_weaker P R (Err y) f p = f y p

pub on_err_weaker : {X Y P Q : Type 0} (result : Result X Y) → (P → Q) → OnErr result P → OnErr result Q
on_err_weaker (Ok x) f p = tt
on_err_weaker (Err y) f p = f p

pub on_ok : {X Y P Q : Type 0} (result : Result X Y) → (P → Q) → OnOk result P → OnOk result Q
on_ok (Ok x) f p = f p
on_ok (Err y) f p = tt

pub match_weaker : {X Y : Type 0} (P Q : X → Type 0) (R S : Y → Type 0) (result : Result X Y) → ((x : X) → P x → Q x) → ((y : Y) → R y → S y)
    → MatchResult result P R → MatchResult result Q S
match_weaker P Q R S (Ok x) f h p = f x p
match_weaker P Q R S (Err y) f h p = h y p

pub match_err : {X Y : Type 0} (P : X → Type 0) (R : Y → Type 0) (result : Result X Y) → MatchResult result P R → IfErr result R
match_err P R (Ok x) p = tt
match_err P R (Err y) p = p

-- a value that is written where a look-up found one
pub changed_at : (id : ℕ) (f : ConnParts → ConnParts) (es : List (ℕ × ConnParts)) (c : ConnParts) → conn_at id es ≡ Some c →
    set_value (named id) es (f c) ≡ at_connection id f es
changed_at id f [] c e = absurd (cc)
changed_at id f (x ∷ es) c e = go (named id x.0) (changed_at id f es c) e where
  go : (b : Bool) → (conn_at id es ≡ Some c → set_value (named id) es (f c) ≡ at_connection id f es) → cond b (Some x.1) (conn_at id es) ≡ Some c →
      cond b ((x.0, f c) ∷ es) (x ∷ set_value (named id) es (f c)) ≡ cond b ((x.0, f x.1) ∷ es) (x ∷ at_connection id f es)
  go true ih e = let same : x.1 ≡ c = cc in ap (λ d. (x.0, f d) ∷ es) (sym same)
  go false ih e = ap (λ l. x ∷ l) (ih e)

pub changed_none : (id : ℕ) (f : ConnParts → ConnParts) (es : List (ℕ × ConnParts)) → conn_at id es ≡ None → es ≡ at_connection id f es
changed_none id f [] e = refl
changed_none id f (x ∷ es) e = go (named id x.0) (changed_none id f es) e where
  go : (b : Bool) → (conn_at id es ≡ None → es ≡ at_connection id f es) → cond b (Some x.1) (conn_at id es) ≡ None →
      x ∷ es ≡ cond b ((x.0, f x.1) ∷ es) (x ∷ at_connection id f es)
  go true ih e = absurd (cc)
  go false ih e = ap (λ l. x ∷ l) (ih e)

removed_set : (id : ℕ) (d : ConnParts) (es : List (ℕ × ConnParts)) → remove_entry (named id) (set_value (named id) es d) ≡ remove_entry (named id) es
removed_set id d [] = refl
removed_set id d (x ∷ es) = go (named id x.0) refl (removed_set id d es) where
  go : (b : Bool) → named id x.0 ≡ b → remove_entry (named id) (set_value (named id) es d) ≡ remove_entry (named id) es →
      remove_entry (named id) (cond b ((x.0, d) ∷ es) (x ∷ set_value (named id) es d)) ≡ cond b es (x ∷ remove_entry (named id) es)
  go true is ih = ap (λ b. cond b es ((x.0, d) ∷ remove_entry (named id) es)) is
  go false is ih = ap (λ b. cond b (set_value (named id) es d) (x ∷ remove_entry (named id) (set_value (named id) es d))) is ∙ ap (λ l. x ∷ l) ih

-- the connection stands like this now, or is gone
pub left_at : (id : ℕ) (d c : ConnParts) (es : List (ℕ × ConnParts)) → conn_at id es ≡ Some c →
    cond (is_gone d) (remove_entry (named id) (set_value (named id) es d)) (set_value (named id) es d) ≡ left id d es
left_at id d c es e = go (is_gone d) where
  go : (gone : Bool) → cond gone (remove_entry (named id) (set_value (named id) es d)) (set_value (named id) es d)
      ≡ cond gone (remove_entry (named id) es) (at_connection id (λ x. d) es)
  go true = removed_set id d es
  go false = changed_at id (λ x. d) es c e

-- in either case
pub both_ways : {T E P G : Type 0} (Q : E → Type 0) (r : Result T E) → (P → G) → ((e : E) → Q e → G) → OnOk r P → IfErr r Q → G
both_ways Q (Ok x) f h p q = f p
both_ways Q (Err e) f h p q = h e q
