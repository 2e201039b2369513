use Rattle.std.proofs.Common.{◌≡◌, ◌≢◌, ◌∷◌, ◌<◌, codes, length, string_bytes, Global, List, ℕ, ap, ◌∙◌, rules, arith}
use Rattle.std.proofs.lemmas.List.{length-map}
use Rattle.share_top.specs.Words.{texts}
use Rattle.share_top.proofs.OptionWords.{first_text}
use Rattle.share_top.proofs.FolderWords.{here_dir, later_dir, later_none}
use Rattle.share_top.proofs.bay.+folder_place.Goals as goal

pub returns-else-is_empty-clause-place : goal.returns-else-is_empty-clause-place
returns-else-is_empty-clause-place t c =
    let w = first_text c.args.words.now c.in-Some.behind.now c.in-Some.word.now c.as_str.result.now c.in-Some.ensures.cases.0 c.as_str.ensures.value in
    let is : c.as_str.result.now ≡ codes "--dir" = search rules in
    let some : 0 < length c.in-Some.behind.now = search rules in
    here_dir (texts c.args.words.now) (texts c.in-Some.behind.now) (w ∙ ap (λ (l : List ℕ). l ∷ texts c.in-Some.behind.now) is)
    (omega (arith, some, length-map c.in-Some.behind.now (string_bytes {Z = Global})))

pub returns-in-Some-folder_place-clause-place : goal.returns-in-Some-folder_place-clause-place
returns-in-Some-folder_place-clause-place t c =
    let w = first_text c.args.words.now c.in-Some.behind.now c.in-Some.word.now c.as_str.result.now c.in-Some.ensures.cases.0 c.as_str.ensures.value in
    let other : c.as_str.result.now ≢ codes "--dir" = search rules in
    later_dir (texts c.args.words.now) (texts c.in-Some.behind.now) c.as_str.result.now w c.in-Some-folder_place.place other c.in-Some-folder_place.ensures.place

pub returns-in-None-clause-place : goal.returns-in-None-clause-place
returns-in-None-clause-place t c =
    let w = first_text c.args.words.now c.in-Some.behind.now c.in-Some.word.now c.as_str.result.now c.in-Some.ensures.cases.0 c.as_str.ensures.value in
    let other : c.as_str.result.now ≢ codes "--dir" = search rules in
    later_none (texts c.args.words.now) (texts c.in-Some.behind.now) c.as_str.result.now w other c.in-None.ensures.place
