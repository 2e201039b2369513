-- Bytes that are appended one after another.
use Rattle.std.proofs.Common.{◌≡◌, ℕ, List, [], ◌++◌, sym, ap, ◌∙◌, append_assoc, append-nil, arith}
use Rattle.std.proofs.lemmas.List.{length-append}
use Rattle.share_model.specs.Rooms.{Filled, Appends}

pub appended0 : (o : Filled) → Appends o o []
appended0 o = record { bytes = sym (append-nil o.bytes); spare = omega arith }

pub appended2 : (o0 o1 o2 : Filled) (a b : List ℕ) → Appends o0 o1 a → Appends o1 o2 b → Appends o0 o2 (a ++ b)
appended2 o0 o1 o2 a b p q = record {
  bytes = q.bytes ∙ ap (λ (l : List ℕ). l ++ b) p.bytes ∙ append_assoc o0.bytes a b;
  spare = omega (arith, p.spare, q.spare, length-append a b);
}

pub appended3 : (o0 o1 o2 o3 : Filled) (a b c : List ℕ) → Appends o0 o1 a → Appends o1 o2 b → Appends o2 o3 c → Appends o0 o3 (a ++ (b ++ c))
appended3 o0 o1 o2 o3 a b c p q r = appended2 o0 o1 o3 a (b ++ c) p (appended2 o1 o2 o3 b c q r)

pub appended4 : (o0 o1 o2 o3 o4 : Filled) (a b c d : List ℕ) → Appends o0 o1 a → Appends o1 o2 b → Appends o2 o3 c → Appends o3 o4 d
    → Appends o0 o4 (a ++ (b ++ (c ++ d)))
appended4 o0 o1 o2 o3 o4 a b c d p q r s = appended2 o0 o1 o4 a (b ++ (c ++ d)) p (appended3 o1 o2 o3 o4 b c d q r s)

pub appended7 : (o0 o1 o2 o3 o4 o5 o6 o7 : Filled) (a b c d e f g : List ℕ) → Appends o0 o1 a → Appends o1 o2 b → Appends o2 o3 c → Appends o3 o4 d
    → Appends o4 o5 e → Appends o5 o6 f → Appends o6 o7 g → Appends o0 o7 (a ++ (b ++ (c ++ (d ++ (e ++ (f ++ g))))))
appended7 o0 o1 o2 o3 o4 o5 o6 o7 a b c d e f g p q r s t u v =
    appended4 o0 o1 o2 o3 o7 a b c (d ++ (e ++ (f ++ g))) p q r (appended4 o3 o4 o5 o6 o7 d e f g s t u v)
