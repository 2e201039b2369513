use Rattle.std.proofs.Common.{◌≡◌, ℕ, List, IfOk, string_bytes, subst}
use Rattle.session_script.proofs.Joined.{fault_is}
use Rattle.session_script.proofs.writer.fault_line.Goals as goal

pub returns : goal.returns
returns c =
    let line = fault_is c.args.conf.now.topics c.args.shard c.in-Part.number c.in-Some.topic.now c.in-Some.part c.in-Part.is c.in-Some.ensures.found in
    subst (λ (l : List ℕ). IfOk c.fault_of.result (λ text. string_bytes text ≡ l)) line c.fault_of.ensures
