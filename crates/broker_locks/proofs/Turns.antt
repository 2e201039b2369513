-- Expiries one after the other.
use Rattle.std.proofs.Common.{◌≡◌, ◌+◌, ◌≤◌, ◌∙◌, ℕ, suc, List, [], ◌∷◌, ◌++◌, Option, Result, Ok, Err, refl, sym, ap, subst, arith, length, map, sum_by}
use Rattle.std.proofs.lemmas.List.Sums.{sum_by-cons, sum_by_push}
use Rattle.edge_io.specs.Serving.{TellsMore}
use Rattle.edge_io.specs.Views.{DiskView}
use Rattle.edge_io.proofs.Telling.{tells_none, tells_then}
use Rattle.flex_fields.specs.declared.fault.NoMemory.{NoMemory}
use Rattle.share_model.specs.declared.visit.ExpireAnswer.{ExpireAnswer}
use Rattle.share_model.specs.declared.visit.ExpireAnswer.TheVariants.{Done, Store}
use Rattle.broker_shards.specs.declared.part.PartAsk.TheVariants as asks
use Rattle.broker_locks.specs.declared.expiry.TurnAnswer.{TurnAnswer}
use Rattle.broker_locks.specs.Acting.{ActsByPart}
use Rattle.broker_locks.specs.Expiring.{Expires, ExpiresFrom, Expiry, expiry_told, starved, stored_not}
use Rattle.broker_locks.specs.Shared.{PassesParts, SharedParts}
use Rattle.broker_locks.proofs.Lines.{length_snoc, map_snoc}

stored_least : (answer : Result ExpireAnswer NoMemory) → stored_not answer ≤ 1
stored_least (Ok (Done freed)) = omega arith
stored_least (Ok (Store freed group fault)) = omega arith
stored_least (Err fault) = omega arith

starved_least : (answer : Result ExpireAnswer NoMemory) → starved answer ≤ 1
starved_least (Ok answer) = omega arith
starved_least (Err fault) = omega arith

sum_least : {A : Type 0} (f : A → ℕ) → ((x : A) → f x ≤ 1) → (xs : List A) → sum_by f xs ≤ length xs
sum_least f b [] = omega arith
sum_least f b (x ∷ xs) = let e = sum_least f b xs in let l = b x in let c = sum_by-cons f x xs in omega (arith, e, l, c)

module _ {D : Type 0} (seen : D → DiskView) (shared : SharedParts D) where
  from_snoc : (n k : ℕ) (es : List Expiry) (e : Expiry) (a b c : PassesParts D) → k ≡ n + length es → ExpiresFrom seen shared n es a b
      → ActsByPart seen shared k (record { now = e.now; ask = asks.Expire }) (expiry_told e.answer) b c → ExpiresFrom seen shared n (es ++ e ∷ []) a c
  from_snoc n k [] e a b c is p q =
      let same : k ≡ n = omega (arith, is) in
      let r = subst (λ (x : PassesParts D). ActsByPart seen shared k (record { now = e.now; ask = asks.Expire }) (expiry_told e.answer) x c) p q in
      (c, subst (λ (x : ℕ). ActsByPart seen shared x (record { now = e.now; ask = asks.Expire }) (expiry_told e.answer) a c) same r, refl)
  from_snoc n k (d ∷ es) e a b c is p q = (p.0, p.1, from_snoc (suc n) k es e p.0 b c (omega (arith, is)) p.2 q)

  pub expires_none : (answer : TurnAnswer) (p : PassesParts D) (t : Option (List ℕ)) → answer.faults ≡ 0 → answer.no_memory ≡ 0
      → Expires seen shared 0 answer p p t t
  expires_none answer p t f m = record { did = []; count = refl; each = refl; moments = tells_none t; faults = f; no_memory = m }

  -- one more partition was expired
  pub expires_then : (n : ℕ) (x y : TurnAnswer) (now : ℕ) (answer : Result ExpireAnswer NoMemory) (a b c : PassesParts D) (s t u : Option (List ℕ))
      → Expires seen shared n x a b s t → ActsByPart seen shared n (record { now = now; ask = asks.Expire }) (expiry_told answer) b c
      → TellsMore t u (now ∷ []) → y.faults ≡ x.faults + stored_not answer → y.no_memory ≡ x.no_memory + starved answer
      → Expires seen shared (suc n) y a c s u
  expires_then n x y now answer a b c s t u g q m f w =
      let e : Expiry = record { now = now; answer = answer } in
      record {
        did = g.did ++ e ∷ [];
        count = length_snoc g.did e ∙ ap suc g.count;
        each = let k = g.count in from_snoc 0 n g.did e a b c (omega (arith, k)) g.each q;
        moments = subst (TellsMore s u) (sym (map_snoc (λ (d : Expiry). d.now) g.did e))
            (tells_then s t u (map (λ (d : Expiry). d.now) g.did) (now ∷ []) g.moments m);
        faults = f ∙ ap (λ (k : ℕ). k + stored_not answer) g.faults ∙ sym (sum_by_push (λ (d : Expiry). stored_not d.answer) g.did e);
        no_memory = w ∙ ap (λ (k : ℕ). k + starved answer) g.no_memory ∙ sym (sum_by_push (λ (d : Expiry). starved d.answer) g.did e);
      }

  -- no more of them than partitions
  pub expires_few : (n : ℕ) (x : TurnAnswer) (a b : PassesParts D) (s t : Option (List ℕ)) → Expires seen shared n x a b s t
      → (x.faults ≤ n) × (x.no_memory ≤ n)
  expires_few n x a b s t g =
      let c = g.count in
      let f = g.faults in
      let w = g.no_memory in
      let i = sum_least (λ (d : Expiry). stored_not d.answer) (λ d. stored_least d.answer) g.did in
      let j = sum_least (λ (d : Expiry). starved d.answer) (λ d. starved_least d.answer) g.did in
      (omega (arith, c, f, i), omega (arith, c, w, j))
