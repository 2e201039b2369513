-- The events that open links, one after another.
use Rattle.std.proofs.Common.{◌≡◌, ◌<◌, ◌≤◌, ◌+◌, ◌-◌, ◌/◌, ◌++◌, ◌∙◌, ℕ, suc, List, Option, Some, slice_get, [], ◌∷◌, length, map, take, drop, get_or, sym, ap, arith, append_assoc, append-nil, length-drop, add-one}
use Rattle.std.proofs.lemmas.List.{drop_more, drop_all, nil_from_length, take_all}
use Rattle.session_script.specs.declared.event.Event.{Event}
use Rattle.session_script.specs.declared.event.Event.TheVariants.{Bytes}
use Rattle.share_record.specs.declared.tape.LinkTape.{LinkTape}
use Rattle.share_record.specs.declared.tag.Tag.{Tag}
use Rattle.share_record.specs.declared.tape.ShardTape.{ShardTape}
use Rattle.topic_conf.specs.declared.topic.Topic.{Topic}
use Rattle.tape_merge.specs.Telling.{opening, openings, pieces, pieces_of, told_by_tag, told_by_tape}

one_piece_more : (n : ℕ) → 0 < n → (n + 65535) / 65536 ≡ suc ((n - 65536 + 65535) / 65536)
one_piece_more n h = omega (arith, h)

pieces_more : (bytes : List ℕ) → 0 < length bytes → pieces_of bytes ≡ take 65536 bytes ∷ pieces_of (drop 65536 bytes)
pieces_more bytes h =
    let count : (length bytes + 65535) / 65536 ≡ suc ((length (drop 65536 bytes) + 65535) / 65536) =
    one_piece_more (length bytes) h ∙ ap (λ n. suc ((n + 65535) / 65536)) (sym (length-drop 65536 bytes)) in
    ap (λ n. pieces n bytes) count

abbrev pub bytes_told : ℕ → List ℕ → List Event
bytes_told id bytes = map (λ piece. Bytes id piece) (pieces_of bytes)

-- one piece more is told
pub piece_told : (id : ℕ) (rest : List ℕ) (done whole : List Event) → 0 < length rest → done ++ bytes_told id rest ≡ whole
    → (done ++ Bytes id (take 65536 rest) ∷ []) ++ bytes_told id (drop 65536 rest) ≡ whole
piece_told id rest done whole h is =
    append_assoc done (Bytes id (take 65536 rest) ∷ []) (bytes_told id (drop 65536 rest))
    ∙ (ap (λ x. done ++ map (λ piece. Bytes id piece) x) (sym (pieces_more rest h)) ∙ is)

pub all_pieces_told : (id : ℕ) (rest : List ℕ) (done whole : List Event) → length rest ≡ 0 → done ++ bytes_told id rest ≡ whole → done ≡ whole
all_pieces_told id rest done whole h is =
    sym (append-nil done) ∙ (ap (λ x. done ++ bytes_told id x) (sym (nil_from_length rest h)) ∙ is)

-- few bytes are one piece
pub few_taken : (bytes : List ℕ) (n : ℕ) → n ≡ length bytes → length bytes ≤ 65536 → take n bytes ≡ take 65536 bytes
few_taken bytes n is few = take_all n bytes (omega (arith, is)) ∙ sym (take_all 65536 bytes few)

pub few_left : (bytes : List ℕ) (n : ℕ) → n ≡ length bytes → length bytes ≤ 65536 → drop n bytes ≡ drop 65536 bytes
few_left bytes n is few = drop_all n bytes (omega (arith, is)) ∙ sym (drop_all 65536 bytes few)

-- one link more is opened
pub link_opened : (links : List LinkTape) (at : ℕ) (link : LinkTape) (done more whole : List Event) → at < length links → link ≡ get_or links at link
    → more ≡ done ++ opening at link → done ++ openings at (drop at links) ≡ whole → more ++ openings (at + 1) (drop (at + 1) links) ≡ whole
link_opened links at link done more whole h is tells keeps =
    ap (λ x. x ++ openings (at + 1) (drop (at + 1) links)) tells
    ∙ (append_assoc done (opening at link) (openings (at + 1) (drop (at + 1) links))
    ∙ (ap (λ n. done ++ (opening at link ++ openings n (drop (at + 1) links))) (add-one at)
    ∙ (ap (λ x. done ++ (opening at x ++ openings (suc at) (drop (at + 1) links))) is
    ∙ (ap (λ x. done ++ openings at x) (sym (drop_more links at link h)) ∙ keeps))))

pub all_opened : (links : List LinkTape) (at : ℕ) (done whole : List Event) → length links ≤ at → done ++ openings at (drop at links) ≡ whole → done ≡ whole
all_opened links at done whole h keeps = sym (append-nil done) ∙ (ap (λ x. done ++ openings at x) (sym (drop_all at links h)) ∙ keeps)

-- ---- events told one after another

pub told_none : (a ys : List Event) → ys ≡ [] → a ≡ a ++ ys
told_none a ys h = sym (ap (λ y. a ++ y) h ∙ append-nil a)

pub told_opening : (a b c d ys zs : List Event) (x : Event) → b ≡ a ++ x ∷ [] → c ≡ b ++ ys → d ≡ c ++ zs → d ≡ a ++ (x ∷ (ys ++ zs))
told_opening a b c d ys zs x e f g =
    g ∙ (ap (λ y. y ++ zs) f ∙ (append_assoc b ys zs ∙ (ap (λ y. y ++ (ys ++ zs)) e ∙ append_assoc a (x ∷ []) (ys ++ zs))))

pub told_step : (a b c d xs zs : List Event) (x : Event) → b ≡ a ++ xs → c ≡ b ++ x ∷ [] → d ≡ c ++ zs → d ≡ a ++ (xs ++ (x ∷ zs))
told_step a b c d xs zs x e f g =
    g ∙ (ap (λ y. y ++ zs) f ∙ (append_assoc b (x ∷ []) zs ∙ (ap (λ y. y ++ (x ∷ zs)) e ∙ append_assoc a xs (x ∷ zs))))

-- what the next tag of a tape tells
pub tape_told : (topics : List Topic) (tapes : List ShardTape) (tape : ℕ) (of : ShardTape) (done passed : ℕ) (tags : List Tag) (o : Option Tag)
    → Some of ≡ slice_get tapes tape → done ≡ passed → tags ≡ of.tags → o ≡ slice_get tags done
    → told_by_tag topics o of.shard ≡ told_by_tape topics (slice_get tapes tape) passed
tape_told topics tapes tape of done passed tags o is same all next =
    ap (λ x. told_by_tag topics x of.shard) next
    ∙ (ap (λ x. told_by_tag topics (slice_get x done) of.shard) all
    ∙ (ap (λ n. told_by_tag topics (slice_get of.tags n) of.shard) same
    ∙ ap (λ x. told_by_tape topics x passed) is))
