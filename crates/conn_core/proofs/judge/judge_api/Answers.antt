use Rattle.std.proofs.Common.{◌≡◌, ◌∙◌, ap, Some, IfOk, ℤ, subst, w16, rules}
use Rattle.std.proofs.lemmas.Int.{to_z-of_z}
use Rattle.flex_fields.specs.declared.version.Version.{Version}
use Rattle.req_head.specs.InTwo.{head_rest}
use Rattle.conn_core.specs.Served.{api_at, version_at}
use Rattle.conn_core.specs.Judging.{head_verdict, api_verdict}
use Rattle.conn_core.proofs.judge.judge_api.Goals as goal

pub returns-in-Some-clause-verdict : goal.returns-in-Some-clause-verdict
returns-in-Some-clause-verdict c =
    let a = c.args in
    let api = c.in-Some.api in
    let v = c.at-version.result in
    let asked : Some api ≡ api_at a.conf.now.versions a.key a.version = search rules in
    let served : v ≡ version_at api a.version =
    c.at-version.ensures ∙ ap (λ (z : ℤ). version_at api z) (to_z-of_z w16 a.version c.ranges.version) in
    let told : IfOk c.judge_head.result (λ j. j ≡ head_verdict a.conf.now a.sessions.now api v a.correlation ((head_rest v.flexible).read a.cursor.now)) = search rules in
    subst (λ o. IfOk c.judge_head.result (λ j. j ≡ api_verdict a.conf.now a.sessions.now a.key a.version a.correlation a.cursor.now o)) asked
    (subst (λ (w : Version). IfOk c.judge_head.result (λ j. j ≡ head_verdict a.conf.now a.sessions.now api w a.correlation ((head_rest w.flexible).read a.cursor.now))) served told)
