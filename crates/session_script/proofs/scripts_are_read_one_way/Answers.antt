use Rattle.session_script.proofs.OneReading.{one_reading}
use Rattle.session_script.proofs.scripts_are_read_one_way.Goals as goal

pub returns : goal.returns
returns c = λ text. one_reading text
