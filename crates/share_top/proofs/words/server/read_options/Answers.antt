use Rattle.share_top.specs.Words.{texts}
use Rattle.share_top.proofs.ServerWords.{no_folder, options_read}
use Rattle.share_top.proofs.words.server.read_options.Goals as goal

pub returns-in_default-behind_folder : goal.returns-in_default-behind_folder
returns-in_default-behind_folder c =
    let h = c.in-Some.ensures.some in
    no_folder (texts c.args.words.now) h.0 (texts c.in-Some.rest.now) c.in-Some.before h.1 c.in_default-behind_folder.ensures

pub returns : goal.returns
returns c =
    let h = c.in-Some.ensures.some in
    let f = c.in-Some-behind_folder.ensures in
    options_read (texts c.args.words.now) h.0 (texts c.in-Some.rest.now) c.in-Some.before h.1 f.0 (texts c.in-Some-behind_folder.behind.now) f.1
    c.read_settings-2.result c.read_settings-2.ensures.some c.read_settings-2.ensures.none
