use Rattle.log_index.proofs.Caching.{kept_by}
use Rattle.log_index.proofs.cache.keep.Goals as goal

pub returns : goal.returns
returns c = kept_by c.put.result c.args.cache.now c.put.new.self c.args.number c.in-Ok.copy c.args.bytes.now c.in-Ok.ensures c.put.ensures.entries c.put.ensures.err
