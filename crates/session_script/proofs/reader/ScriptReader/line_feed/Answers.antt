use Rattle.std.proofs.Common.{arith}
use Rattle.session_script.proofs.Feeds.{found_is_buffered, none_is_buffered, looked_all, line_of_feed}
use Rattle.session_script.proofs.reader.ScriptReader.line_feed.Goals as goal

pub invariant_of-self : goal.invariant_of-self
invariant_of-self c =
    found_is_buffered c.self.inside.buffer.items c.self.inside.start c.self.inside.scanned c.in-Some.place c.self.inside.place c.self.invariant
    (rw c.deref.ensures.value at c.in-Some.ensures)

pub invariant_of-self-in-None : goal.invariant_of-self-in-None
invariant_of-self-in-None c =
    none_is_buffered c.self.inside.buffer.items c.self.inside.start c.self.inside.scanned c.len-self-inside.result c.self.inside.place c.self.invariant
    (omega (arith, c.len-self-inside.ensures, c.self.inside.buffer.ok)) (rw c.deref.ensures.value at c.in-None.ensures)

pub returns-in-Some-clause-found : goal.returns-in-Some-clause-found
returns-in-Some-clause-found c =
    line_of_feed c.self.inside.buffer.items c.self.inside.start c.self.inside.scanned c.in-Some.place c.self.invariant.begun c.self.invariant.looked
    (rw c.deref.ensures.value at c.in-Some.ensures)

pub returns-in-None-clause-found : goal.returns-in-None-clause-found
returns-in-None-clause-found c =
    looked_all c.self.inside.buffer.items c.self.inside.start c.self.inside.scanned c.self.invariant.begun c.self.invariant.within
    c.self.invariant.looked (rw c.deref.ensures.value at c.in-None.ensures)
