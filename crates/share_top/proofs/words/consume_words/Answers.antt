use Rattle.std.proofs.Common.{refl}
use Rattle.share_top.specs.declared.words.Words.TheVariants.{Consume}
use Rattle.share_top.proofs.words.consume_words.Goals as goal

pub returns-in-Err-Usage : goal.returns-in-Err-Usage
returns-in-Err-Usage c = λ are. ((rw c.in-Err-Usage.field-0-is at c.in-Err-Usage.ensures.usage) refl) (Consume are.0 are.1) are.2
