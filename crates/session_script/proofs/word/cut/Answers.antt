use Rattle.session_script.proofs.Cuts.{cut_of}
use Rattle.session_script.proofs.word.cut.Goals as goal

pub returns : goal.returns
returns c = cut_of c.args.text.now c.split_once.result c.split_once.ensures.cases
