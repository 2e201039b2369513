use Rattle.std.proofs.Common.{◌≡◌, ◌∙◌, ◌+◌, ◌≤◌, ◌<◌, ◌∷◌, List, ℕ, length, drop, sym, ap, subst, inr, ⊎_elim, arith, rules}
use Rattle.std.proofs.lemmas.List.{drop_all}
use Rattle.gate_journal.specs.Frames.{IsDamaged}
use Rattle.gate_journal.proofs.InPieces.{Front, broken_end, broken_more, front_broken, front_shut, looks_as, looks_then, none_visited, turned}
use Rattle.gate_journal.proofs.Texts.{few_frames}
use Rattle.gate_journal.proofs.pieces.visit_frames.Goals as goal

pub returns-then-size-le1-clause-ok : goal.returns-then-size-le1-clause-ok
returns-then-size-le1-clause-ok g c = none_visited (g.D.Disk.seen c.args.disk.now).content (g.D.Disk.seen c.args.disk.now).size _
    (omega (arith, c.len-size.ensures, c.if-size-le1.true)) (λ x told. (g.met.D.Disk.read_is_image c.args.disk.now x told).1)

pub overflow_add-count : goal.overflow_add-count
overflow_add-count g c =
    let l = c.loop-place in
    let size : c.len-size.result ≡ (g.D.Disk.seen c.args.disk.now).size = c.len-size.ensures in
    let at : l.place + c.len-in-loop-place.result ≡ l.place + length l.held.items = omega (arith, c.len-in-loop-place.ensures, l.held.ok.0) in
    let room : l.place + c.len-in-loop-place.result + c.min-piece.result ≤ (g.D.Disk.seen c.args.disk.now).size =
    omega (arith, size, c.min-piece.ensures, c.len.ensures, c.len-in-loop-place.ensures, c.loop-place-test.true) in
    let h = c.in-Ok-hand_over.ensures in
    let f = turned (g.D.Disk.seen c.args.disk.now).content (g.D.Disk.seen c.args.disk.now).size (g.V.FrameVisit.seen c.args.visit.now)
    (g.V.FrameVisit.seen l.visit) (g.V.FrameVisit.seen c.hand_over.new.visit) l.held.items c.append_at.new.out.items c.deref.result.now l.place l.count c.min-piece.result
    (l.place + c.len-in-loop-place.result) c.in-Ok-hand_over.field-0.used c.in-Ok-hand_over.field-0.count c.in-Ok-hand_over.field-0.closed l.invariant.front
    (λ x told. c.in-Ok.ensures.ok x (l.invariant.looks.looks.stays.content ∙ told)) at c.in-Ok.ensures.len room c.deref.ensures.value h in
    omega (arith, f.count_is, few_frames f.frames, f.place_is, f.within, size, c.len-size.type_inv)

pub returns-then-closed-clause-ok : goal.returns-then-closed-clause-ok
returns-then-closed-clause-ok g c =
    let l = c.loop-place in
    let size : c.len-size.result ≡ (g.D.Disk.seen c.args.disk.now).size = c.len-size.ensures in
    let at : l.place + c.len-in-loop-place.result ≡ l.place + length l.held.items = omega (arith, c.len-in-loop-place.ensures, l.held.ok.0) in
    let room : l.place + c.len-in-loop-place.result + c.min-piece.result ≤ (g.D.Disk.seen c.args.disk.now).size =
    omega (arith, size, c.min-piece.ensures, c.len.ensures, c.len-in-loop-place.ensures, c.loop-place-test.true) in
    let h = c.in-Ok-hand_over.ensures in
    let f = turned (g.D.Disk.seen c.args.disk.now).content (g.D.Disk.seen c.args.disk.now).size (g.V.FrameVisit.seen c.args.visit.now)
    (g.V.FrameVisit.seen l.visit) (g.V.FrameVisit.seen c.hand_over.new.visit) l.held.items c.append_at.new.out.items c.deref.result.now l.place l.count c.min-piece.result
    (l.place + c.len-in-loop-place.result) c.in-Ok-hand_over.field-0.used c.in-Ok-hand_over.field-0.count c.in-Ok-hand_over.field-0.closed l.invariant.front
    (λ x told. c.in-Ok.ensures.ok x (l.invariant.looks.looks.stays.content ∙ told)) at c.in-Ok.ensures.len room c.deref.ensures.value h in
    front_shut (g.D.Disk.seen c.args.disk.now).content (g.D.Disk.seen c.args.disk.now).size (g.V.FrameVisit.seen c.args.visit.now) (g.V.FrameVisit.seen c.hand_over.new.visit)
    _ _ _ h.gate h.behind (omega (arith, size, c.if-size-le1.false)) (λ x told. (g.met.D.Disk.read_is_image c.args.disk.now x told).1) f h.next (h.shut c.if-closed.true)

pub returns-then-len-ge-MOST-clause-damaged : goal.returns-then-len-ge-MOST-clause-damaged
returns-then-len-ge-MOST-clause-damaged g c = λ place is x told.
    let l = c.loop-place in
    let size : c.len-size.result ≡ (g.D.Disk.seen c.args.disk.now).size = c.len-size.ensures in
    let at : l.place + c.len-in-loop-place.result ≡ l.place + length l.held.items = omega (arith, c.len-in-loop-place.ensures, l.held.ok.0) in
    let room : l.place + c.len-in-loop-place.result + c.min-piece.result ≤ (g.D.Disk.seen c.args.disk.now).size =
    omega (arith, size, c.min-piece.ensures, c.len.ensures, c.len-in-loop-place.ensures, c.loop-place-test.true) in
    let h = c.in-Ok-hand_over.ensures in
    let f = turned (g.D.Disk.seen c.args.disk.now).content (g.D.Disk.seen c.args.disk.now).size (g.V.FrameVisit.seen c.args.visit.now)
    (g.V.FrameVisit.seen l.visit) (g.V.FrameVisit.seen c.hand_over.new.visit) l.held.items c.append_at.new.out.items c.deref.result.now l.place l.count c.min-piece.result
    (l.place + c.len-in-loop-place.result) c.in-Ok-hand_over.field-0.used c.in-Ok-hand_over.field-0.count c.in-Ok-hand_over.field-0.closed l.invariant.front
    (λ x told. c.in-Ok.ensures.ok x (l.invariant.looks.looks.stays.content ∙ told)) at c.in-Ok.ensures.len room c.deref.ensures.value h in
    let broken = h.waits c.if-closed.false in
    let next : drop c.in-Ok-hand_over.field-0.used c.deref.result.now ≡ 1 ∷ h.behind = h.next ∙ ap (λ (k : ℕ). k ∷ h.behind) broken.0 in
    let cut : c.cut_front.new.held.items ≡ 1 ∷ h.behind = c.cut_front.ensures ∙ ap (λ (l : List ℕ). drop c.in-Ok-hand_over.field-0.used l) (sym c.deref.ensures.value) ∙ next in
    let long : 33554437 ≤ length h.behind = omega (arith, c.if-len-ge-MOST.true, c.len-in-loop-place-2.ensures, c.cut_front.new.held.ok.0, ap length cut) in
    let whole : 1 < length x = omega (arith, size, c.if-size-le1.false, (g.met.D.Disk.read_is_image c.args.disk.now x told).1) in
    let at_place : l.place + c.in-Ok-hand_over.field-0.used ≡ place = search rules in
    subst (IsDamaged x) at_place (front_broken _ _ _ (g.V.FrameVisit.seen c.hand_over.new.visit) _ _ _ h.behind _ x whole f (f.is x told) next (broken_more h.behind _ long broken.1))

pub loop-place-preserved : goal.loop-place-preserved
loop-place-preserved g c =
    let l = c.loop-place in
    let size : c.len-size.result ≡ (g.D.Disk.seen c.args.disk.now).size = c.len-size.ensures in
    let at : l.place + c.len-in-loop-place.result ≡ l.place + length l.held.items = omega (arith, c.len-in-loop-place.ensures, l.held.ok.0) in
    let room : l.place + c.len-in-loop-place.result + c.min-piece.result ≤ (g.D.Disk.seen c.args.disk.now).size =
    omega (arith, size, c.min-piece.ensures, c.len.ensures, c.len-in-loop-place.ensures, c.loop-place-test.true) in
    let h = c.in-Ok-hand_over.ensures in
    let f = turned (g.D.Disk.seen c.args.disk.now).content (g.D.Disk.seen c.args.disk.now).size (g.V.FrameVisit.seen c.args.visit.now)
    (g.V.FrameVisit.seen l.visit) (g.V.FrameVisit.seen c.hand_over.new.visit) l.held.items c.append_at.new.out.items c.deref.result.now l.place l.count c.min-piece.result
    (l.place + c.len-in-loop-place.result) c.in-Ok-hand_over.field-0.used c.in-Ok-hand_over.field-0.count c.in-Ok-hand_over.field-0.closed l.invariant.front
    (λ x told. c.in-Ok.ensures.ok x (l.invariant.looks.looks.stays.content ∙ told)) at c.in-Ok.ensures.len room c.deref.ensures.value h in
    let broken = h.waits c.if-closed.false in
    let same : c.cut_front.new.held.items ≡ drop c.in-Ok-hand_over.field-0.used c.deref.result.now =
    c.cut_front.ensures ∙ ap (λ (l : List ℕ). drop c.in-Ok-hand_over.field-0.used l) (sym c.deref.ensures.value) in
    record {
      front = subst (λ (l : List ℕ). Front (g.D.Disk.seen c.args.disk.now).content (g.D.Disk.seen c.args.disk.now).size (g.V.FrameVisit.seen c.args.visit.now)
          (g.V.FrameVisit.seen c.hand_over.new.visit) l (c.loop-place.place + c.in-Ok-hand_over.field-0.used) (c.loop-place.count + c.in-Ok-hand_over.field-0.count)) (sym same) f;
      waits = inr (h.behind, same ∙ h.next ∙ ap (λ (k : ℕ). k ∷ h.behind) broken.0, broken.1);
      looks = looks_as g.D.Disk.seen c.args.disk.now c.append_at.new.disk _ _
          (looks_then g.D.Disk.seen c.args.disk.now l.disk c.append_at.new.disk _ l.invariant.looks c.in-Ok.ensures.looks c.in-Ok.ensures.disk) (λ is. absurd (search (rules, is))) (λ never. absurd never);
      long = l.invariant.long;
      size_is = l.invariant.size_is;
    }

pub returns-clause-damaged : goal.returns-clause-damaged
returns-clause-damaged g c = λ place is x told.
    let l = c.loop-place in
    let size : c.len-size.result ≡ length x = c.len-size.ensures ∙ (g.met.D.Disk.read_is_image c.args.disk.now x told).1 in
    let whole : 1 < length x = omega (arith, size, c.if-size-le1.false) in
    let ended : length x ≤ l.place + length l.held.items = omega (arith, size, c.len.ensures, l.held.ok.0, c.loop-place-test.false) in
    let at_place : l.place ≡ place = search rules in
    ⊎_elim (λ empty. absurd (omega (arith, empty, ended, whole)))
    (λ waits. subst (IsDamaged x) at_place (front_broken _ _ _ (g.V.FrameVisit.seen l.visit) l.held.items l.place l.count waits.0 (drop (l.place + length l.held.items) x) x whole l.invariant.front
    (l.invariant.front.is x told) waits.1 (broken_end waits.0 _ (drop_all (l.place + length l.held.items) x ended) waits.2)))
    l.invariant.waits
