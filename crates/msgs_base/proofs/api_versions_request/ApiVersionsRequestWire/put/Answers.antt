use Rattle.flex_fields.proofs.Puts.{structure_put}
use Rattle.msgs_base.specs.ApiVersionsRequest.{api_versions_request_shape, api_versions_request}
use Rattle.msgs_base.proofs.api_versions_request.ApiVersionsRequestWire.put.Goals as goal

pub returns-clause-ok : goal.returns-clause-ok
unfolding api_versions_request
returns-clause-ok c = structure_put api_versions_request_shape _ _ _ _ c.put_structure.result c.put_structure.ensures.ok
