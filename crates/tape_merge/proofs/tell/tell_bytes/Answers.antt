use Rattle.std.proofs.Common.{◌++◌, ◌∷◌, ◌∙◌, [], length, take, ap, refl, arith, length-drop}
use Rattle.session_script.specs.declared.event.Event.TheVariants.{Bytes}
use Rattle.tape_merge.proofs.Tellings.{all_pieces_told, bytes_told, piece_told}
use Rattle.tape_merge.proofs.tell.tell_bytes.Goals as goal

pub loop-piece-init : goal.loop-piece-init
loop-piece-init c = refl

pub loop-piece-preserved : goal.loop-piece-preserved
loop-piece-preserved c =
    let cut = c.in-Some.ensures.some in
    let blob = c.new-bytes.ensures ∙ (c.in_ok-owned.ensures.items ∙ cut.1) in
    let whole = c.args.events.now.items ++ bytes_told c.args.id c.args.bytes.now in
    let told = c.in_ok-tell.ensures ∙ ap (λ x. c.loop-piece.events.items ++ Bytes c.args.id x ∷ []) blob in
    ap (λ x. x ++ bytes_told c.args.id c.in-Some.others.now) told
    ∙ (ap (λ x. (c.loop-piece.events.items ++ Bytes c.args.id (take 65536 c.loop-piece.rest.now) ∷ []) ++ bytes_told c.args.id x) cut.2
    ∙ piece_told c.args.id c.loop-piece.rest.now c.loop-piece.events.items whole cut.0 c.loop-piece.invariant)

pub loop-piece-smaller : goal.loop-piece-smaller
loop-piece-smaller c =
    let cut = c.in-Some.ensures.some in
    omega (arith, cut.0, ap length cut.2, length-drop 65536 c.loop-piece.rest.now)

pub returns : goal.returns
returns c =
    all_pieces_told c.args.id c.loop-piece.rest.now c.loop-piece.events.items (c.args.events.now.items ++ bytes_told c.args.id c.args.bytes.now)
    c.in_default.ensures.none c.loop-piece.invariant
