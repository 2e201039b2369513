use Rattle.std.proofs.Common.{rules, ◌++◌, refl}
use Rattle.fetch_wait.specs.Calls.{Calls}
use Rattle.fetch_wait.specs.Polls.{ArePoll, registered_all}
use Rattle.fetch_wait.proofs.Chains.{calls_join}
use Rattle.fetch_wait.proofs.wait.FetchWaitFuture.poll.Goals as goal

pub returns-in-Ok-clause-polls : goal.returns-in-Ok-clause-polls
returns-in-Ok-clause-polls g c =
    let all : Calls g.W.Watch.acts g.W.Watch.told (registered_all c.args.self.now.places c.args.self.now.deadline) c.args.self.now.watch c.register_all.new.watch = search rules in
    let looks = c.looked.ensures in
    record {
      calls = registered_all c.args.self.now.places c.args.self.now.deadline ++ looks.0;
      poll = ArePoll.Looked looks.0 looks.1 refl;
      does = calls_join g.W.Watch.acts g.W.Watch.told _ _ _ _ _ all looks.2;
    }
