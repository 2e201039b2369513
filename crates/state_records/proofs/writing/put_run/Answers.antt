use Rattle.std.proofs.Common.{ℕ, [], ◌∷◌, subst}
use Rattle.std.specs.Int.{w16, w64, to_be_bytes}
use Rattle.share_model.specs.Rooms.{Appends}
use Rattle.share_model.specs.Rows.{state_number}
use Rattle.state_records.proofs.Appends.{appended4}
use Rattle.state_records.proofs.writing.put_run.Goals as goal

pub returns : goal.returns
returns c =
    let run = c.args.run.now in
    appended4 c.args.out.now c.put_u64.new.out c.put_u64-2.new.out c.put.new.out c.put_u16.new.out
    (to_be_bytes w64 run.first) (to_be_bytes w64 run.last) (state_number run.state ∷ []) (to_be_bytes w16 run.count)
    c.put_u64.ensures.written c.put_u64-2.ensures.written
    (subst (λ (n : ℕ). Appends c.put_u64-2.new.out c.put.new.out (n ∷ [])) c.number.ensures c.put.ensures) c.put_u16.ensures
