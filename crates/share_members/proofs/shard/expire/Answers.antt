use Rattle.std.proofs.Common.{◌≡◌, ◌==◌, not, length, refl, rules}
use Rattle.share_members.specs.Expiry.{group_expired}
use Rattle.share_members.proofs.Maps.{changed_from_retain}
use Rattle.share_members.proofs.shard.expire.Goals as goal

pub returns : goal.returns
returns c = changed_from_retain _ (λ f. f.0.now ≡ c.args.moment) (group_expired c.args.moment) (λ g. not (length g.members == 0))
    (λ g k v b w g' i t. (search rules, search rules, search rules))
    _ c.args.groups.now.entries c.retain.new.self.entries refl c.retain.ensures.filtered
