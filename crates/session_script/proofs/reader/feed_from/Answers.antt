use Rattle.std.proofs.Common.{drop}
use Rattle.session_script.proofs.Feeds.{nowhere_none, all_none, feed_found}
use Rattle.session_script.proofs.reader.feed_from.Goals as goal

pub returns-in-Some : goal.returns-in-Some
returns-in-Some c =
    let e = rw c.split_at.ensures.back at c.in-Some.ensures in
    feed_found c.args.bytes.now c.args.from c.in-Some.count c.requires e.0.high e.1
    (nowhere_none (drop c.args.from c.args.bytes.now) c.in-Some.count e.0.before)

pub returns-in-None : goal.returns-in-None
returns-in-None c = all_none (drop c.args.from c.args.bytes.now) (rw c.split_at.ensures.back at c.in-None.ensures)
