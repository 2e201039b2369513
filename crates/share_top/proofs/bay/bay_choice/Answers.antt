use Rattle.share_top.specs.Words.{texts}
use Rattle.share_top.proofs.OptionWords.{first_text}
use Rattle.share_top.proofs.FolderWords.{no_folder}
use Rattle.share_top.proofs.bay.bay_choice.Goals as goal

pub returns-in-None : goal.returns-in-None
returns-in-None c =
    let w = first_text c.args.words.now c.in-Some.behind.now c.in-Some.command.now c.as_str.result.now c.in-Some.ensures.cases.0 c.as_str.ensures.value in
    no_folder (texts c.args.words.now) (texts c.in-Some.behind.now) c.as_str.result.now w c.in-None.ensures.place
