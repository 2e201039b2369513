use Rattle.std.proofs.Common.{◌≡◌, refl, sym, subst}
use Rattle.std.proofs.lemmas.Bool.{false≢true}
use Rattle.share_top.specs.Words.{IsHost}
use Rattle.share_top.proofs.AddressWords.{cut_there, host_is, is_address, port_is}
use Rattle.share_top.proofs.TopicWords.{colon_cut}
use Rattle.share_top.proofs.words.address.read_address.Goals as goal

pub returns-in_default : goal.returns-in_default
returns-in_default c = λ address is says.
    let h = colon_cut c.args.word.now c.split_once.result c.split_once.ensures.cases in
    cut_there c.args.least c.args.word.now address is says (rw c.in_default.is at h)

pub returns-then-not-is_host : goal.returns-then-not-is_host
returns-then-not-is_host c = λ address is says.
    let h = colon_cut c.args.word.now c.split_once.result c.split_once.ensures.cases in
    let same : c.as_bytes.result.now ≡ c.in-Some.host.now = c.as_bytes.ensures.value in
    let host = host_is c.args.least c.args.word.now address is says c.in-Some.host.now c.in-Some.port.now (rw c.in-Some.is at h) in
    false≢true (c.if-not-is_host.ensures.1 (subst IsHost (sym same) host))

pub returns-in-Some-number : goal.returns-in-Some-number
returns-in-Some-number c =
    let h = colon_cut c.args.word.now c.split_once.result c.split_once.ensures.cases in
    let same : c.as_bytes.result.now ≡ c.in-Some.host.now = c.as_bytes.ensures.value in
    is_address c.args.least c.args.word.now c.in-Some.host.now c.in-Some.port.now c.in-Some-new.host c.in-Some-number.port (rw c.in-Some.is at h)
    (subst IsHost same (c.if-not-is_host.ensures.0 refl)) c.in-Some-new.ensures.some c.in-Some-number.ensures

pub returns-in-None : goal.returns-in-None
returns-in-None c = λ address is says.
    let h = colon_cut c.args.word.now c.split_once.result c.split_once.ensures.cases in
    port_is c.args.least c.args.word.now address is says c.in-Some.host.now c.in-Some.port.now (rw c.in-Some.is at h) c.in-None.ensures
