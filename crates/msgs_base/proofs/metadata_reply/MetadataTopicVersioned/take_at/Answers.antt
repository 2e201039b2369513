use Rattle.std.proofs.Common.{rules, ◌≡◌, of_z, to_z, w32}
use Rattle.std.specs.Int.{w16}
use Rattle.std.proofs.lemmas.Result.{err_from_is_err_and}
use Rattle.msgs_base.specs.MetadataReply.{metadata_topic_shape, metadata_topic}
use Rattle.msgs_base.proofs.Taken.{structure_refused, structure_taken}
use Rattle.msgs_base.proofs.metadata_reply.MetadataTopicVersioned.take_at.Goals as goal

pub returns-in_err-error_code : goal.returns-in_err-error_code
unfolding metadata_topic
returns-in_err-error_code c =
    let p = err_from_is_err_and c.from_residual.result c.from_residual.ensures.1 in
    rw (p.1, p.2) (structure_refused metadata_topic_shape.make _ c.in_err-error_code.field-0.0
    (rw c.nil.ensures at c.in_err-error_code.ensures))

pub returns : goal.returns
unfolding metadata_topic
returns c =
    let code : to_z w16 (of_z w16 c.in_ok-error_code.error_code) ≡ c.in_ok-error_code.error_code = search rules in
    let operations : to_z w32 (of_z w32 c.in_ok-error_code.topic_authorized_operations) ≡ c.in_ok-error_code.topic_authorized_operations =
    search rules in
    rw (code, operations) (structure_taken metadata_topic_shape.make _ _ (rw c.nil.ensures at c.in_ok-error_code.ensures))
