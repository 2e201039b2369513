use Rattle.std.proofs.Common.{refl}
use Rattle.share_client.proofs.Reading.{left_closed}
use Rattle.share_client.proofs.reader.Reader.new.Goals as goal

pub returns : goal.returns
returns c = λ found s. left_closed _ 0 found refl s
