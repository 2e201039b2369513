use Rattle.topic_conf.proofs.Lists.{list_few}
use Rattle.topic_conf.proofs.topic.TopicList.as_slice.Goals as goal

pub returns-clause-few : goal.returns-clause-few
returns-clause-few c = rw (← c.self.view_is) (list_few c.self.inside.topics.items c.self.invariant)
