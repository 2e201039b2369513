use Rattle.std.proofs.Common.{◌∷◌, codes, subst, sym}
use Rattle.share_top.specs.declared.words.server.ServeWords.{ServeWords}
use Rattle.share_top.specs.Words.{AreServeWords, texts}
use Rattle.share_top.proofs.ServerWords.{are_serve, no_addresses, no_options, no_topics, numbers_in_range}
use Rattle.share_top.proofs.words.server.read_serve.Goals as goal

pub returns-in_default : goal.returns-in_default
returns-in_default c = no_options (texts c.args.words.now) c.in_default.ensures

pub returns-in_default-addresses : goal.returns-in_default-addresses
returns-in_default-addresses c =
    no_addresses (texts c.args.words.now) (texts c.in-Some.rest.now) c.in-Some.given c.in-Some.ensures c.in_default-addresses.ensures

pub serve_words-requires-clause-lock_time : goal.serve_words-requires-clause-lock_time
serve_words-requires-clause-lock_time c = (numbers_in_range (texts c.args.words.now) (texts c.in-Some.rest.now) c.in-Some.given c.in-Some.ensures).0

pub serve_words-requires-clause-limit : goal.serve_words-requires-clause-limit
serve_words-requires-clause-limit c = (numbers_in_range (texts c.args.words.now) (texts c.in-Some.rest.now) c.in-Some.given c.in-Some.ensures).1

pub returns-in-Some-2 : goal.returns-in-Some-2
returns-in-Some-2 c =
    let t = rw c.in-Some-2.is at c.in_ok-topics.ensures in
    subst (λ (s : ServeWords). AreServeWords (codes "serve" ∷ texts c.args.words.now) c.in-Some-addresses.listen s) (sym c.serve_words.ensures)
    (are_serve (texts c.args.words.now) (texts c.in-Some.rest.now) c.in-Some.given c.in-Some.ensures c.in-Some-addresses.listen c.in-Some-addresses.told
    c.in-Some-2.topics c.in-Some-addresses.ensures t)

pub returns-in-None : goal.returns-in-None
returns-in-None c =
    let t = rw c.in-None.is at c.in_ok-topics.ensures in
    no_topics (texts c.args.words.now) (texts c.in-Some.rest.now) c.in-Some.given c.in-Some.ensures t
