use Rattle.rec_batch.proofs.RecordPlaces.{splits_end, splits_first, splits_more}
use Rattle.rec_batch.proofs.laws.records_stand_one_behind_another.Goals as goal

pub returns-clause-first : goal.returns-clause-first
returns-clause-first c = splits_first

pub returns-clause-more : goal.returns-clause-more
returns-clause-more c = λ bytes place before behind r h. splits_more bytes place before behind r h

pub returns-clause-end : goal.returns-clause-end
returns-clause-end c = splits_end
