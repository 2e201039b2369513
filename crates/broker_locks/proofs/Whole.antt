-- A lock for each hosted partition.
use Rattle.std.proofs.Common.{◌≡◌, sym, ◌∙◌, map, subst}
use Rattle.std.proofs.lemmas.List.{length-map}
use Rattle.topic_conf.specs.Configs.{ConfigParts}
use Rattle.broker_hosts.proofs.Naming.{parts_many}
use Rattle.broker_locks.specs.Acting.{HostsAll}
use Rattle.broker_locks.specs.Opening.{AreWhole, hosts_of, slot_of}
use Rattle.broker_locks.specs.Shared.{SharedParts, first_shards}

pub hosts_all : {D : Type 0} (shared : SharedParts D) → AreWhole shared.conf (first_shards shared) → HostsAll shared.conf shared
hosts_all shared whole =
    sym (length-map shared.parts (λ l. l.first))
    ∙ sym (length-map (map (λ l. l.first) shared.parts) slot_of)
    ∙ parts_many shared.conf (hosts_of (first_shards shared)) whole

pub whole_of : {D : Type 0} (shared : SharedParts D) (conf : ConfigParts) → shared.conf ≡ conf → AreWhole conf (first_shards shared)
    → AreWhole shared.conf (first_shards shared)
whole_of shared conf is whole = subst (λ (c : ConfigParts). AreWhole c (first_shards shared)) (sym is) whole
