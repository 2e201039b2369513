-- What becomes of a frame by its first eight bytes.
use Rattle.std.proofs.Common.{◌≡◌, ℤ, List, ℕ, Result, Ok, IfOk, sym, subst}
use Rattle.flex_fields.specs.declared.fault.NoMemory.{NoMemory}
use Rattle.flex_fields.specs.Reading.{At}
use Rattle.topic_conf.specs.Configs.{ConfigParts}
use Rattle.req_head.specs.InTwo.{head_start}
use Rattle.share_session.specs.SessionParts.{SessionParts}
use Rattle.conn_core.specs.declared.judge.Verdict.{Verdict}
use Rattle.conn_core.specs.Judging.{call_verdict, start_verdict, verdict}

pub started_by : (conf : ConfigParts) (sessions : List SessionParts) (frame : List ℕ) (key version correlation : ℤ) (at : At) (result : Result Verdict NoMemory) →
    head_start.read (record { place = 0; left = frame }) ≡ Ok ((key, (version, correlation)), at) →
    IfOk result (λ j. j ≡ call_verdict conf sessions key version correlation at) → IfOk result (λ j. j ≡ verdict conf sessions frame)
started_by conf sessions frame key version correlation at result read told =
    subst (λ r. IfOk result (λ j. j ≡ start_verdict conf sessions r)) (sym read) told
