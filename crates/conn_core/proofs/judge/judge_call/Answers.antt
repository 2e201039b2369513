use Rattle.std.proofs.Common.{◌≡◌, ◌∙◌, ap, sym, subst, Some, None, ℤ, List, ℕ, Bool, true, false, if◌then◌else◌, of_z, to_z, w32, rules}
use Rattle.std.proofs.lemmas.Int.{to_z-of_z}
use Rattle.msgs_base.specs.ApiVersionsReply.{api_versions_reply}
use Rattle.call_fold.specs.declared.call.Stage.TheVariants.{Says}
use Rattle.conn_core.specs.declared.judge.Verdict.{Verdict}
use Rattle.conn_core.specs.declared.judge.Verdict.TheVariants.{Taken}
use Rattle.conn_core.specs.Served.{api_at}
use Rattle.conn_core.specs.Versions.{other_versions_answer, version_0}
use Rattle.conn_core.specs.Judging.{api_verdict, is_other_version, reply_verdict}
use Rattle.conn_core.proofs.judge.judge_call.Goals as goal

pub returns-then-is_other_version-clause-verdict : goal.returns-then-is_other_version-clause-verdict
returns-then-is_other_version-clause-verdict c =
    let a = c.args in
    let said : List ℕ = (api_versions_reply version_0).format.bytes (other_versions_answer a.conf.now.versions) in
    let other : is_other_version a.conf.now.versions a.key a.version ≡ true = search rules in
    let told : c.in_ok-body.body ≡ said = search rules in
    let made : ℤ → List ℕ → Verdict = λ z body. Taken false z (record { stage = Says (Some body); change = None }) in
    subst (λ (o : Bool). made (to_z w32 (of_z w32 a.correlation)) c.in_ok-body.body ≡
    (if o then reply_verdict false a.correlation said
    else api_verdict a.conf.now a.sessions.now a.key a.version a.correlation a.cursor.now (api_at a.conf.now.versions a.key a.version)))
    (sym other)
    (ap (λ (z : ℤ). made z c.in_ok-body.body) (to_z-of_z w32 a.correlation c.ranges.correlation)
    ∙ ap (λ (body : List ℕ). made a.correlation body) told)
