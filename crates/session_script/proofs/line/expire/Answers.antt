use Rattle.session_script.proofs.Sayings.{expire_not_cut, expire_cut_once, expire_no_topic, expire_no_part, expire_no_moment}
use Rattle.session_script.proofs.line.expire.Goals as goal

pub returns-in_default : goal.returns-in_default
returns-in_default c = expire_not_cut c.args.rest.now c.in_default.ensures

pub returns-in_default-cut : goal.returns-in_default-cut
returns-in_default-cut c = expire_cut_once c.args.rest.now c.in-Some.topic.now c.in-Some.rest.now c.in-Some.ensures c.in_default-cut.ensures

pub returns-in_default-topic_name : goal.returns-in_default-topic_name
returns-in_default-topic_name c =
    expire_no_topic c.args.rest.now c.in-Some.topic.now c.in-Some.rest.now c.in-Some.ensures c.in_default-topic_name.ensures

pub returns-in_default-number : goal.returns-in_default-number
returns-in_default-number c = expire_no_part c.args.rest.now c.in-Some.topic.now c.in-Some.rest.now c.in-Some.ensures
    c.in-Some-cut.part.now c.in-Some-cut.now.now c.in-Some-cut.ensures c.in_default-number.ensures

pub returns-in_default-number-2 : goal.returns-in_default-number-2
returns-in_default-number-2 c = expire_no_moment c.args.rest.now c.in-Some.topic.now c.in-Some.rest.now c.in-Some.ensures
    c.in-Some-cut.part.now c.in-Some-cut.now.now c.in-Some-cut.ensures c.in_default-number-2.ensures
