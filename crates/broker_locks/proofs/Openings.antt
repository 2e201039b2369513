-- What an opening of the locks around a broker's shards makes of one of the shards.
use Rattle.std.proofs.Common.{◌≡◌, refl, sym, subst, ℕ, List, [], ◌∷◌, map, Result, Ok, Err, IfErr, IfOk}
use Rattle.std.specs.List.{AllByRecursion}
use Rattle.edge_io.specs.Views.{BayView, DiskView}
use Rattle.topic_conf.specs.Configs.{ConfigParts}
use Rattle.broker_hosts.specs.Bays.{AreOpened}
use Rattle.broker_hosts.specs.Carried.{IsFresh}
use Rattle.broker_hosts.specs.Hosts.{AreFresh, HostsParts}
use Rattle.broker_hosts.specs.declared.fault.CoreOpen.TheVariants as open_fault
use Rattle.broker_shards.specs.Hosts.{Host}
use Rattle.broker_locks.specs.Opening.{IsOpening, IsRefused, hosts_of, slot_of}
use Rattle.broker_locks.specs.Shared.{ShardParts}

pub both_ok : {A E : Type 0} (result : Result A E) (P Q R : A → Type 0) → ((a : A) → P a → Q a → R a) → IfOk result P → IfOk result Q → IfOk result R
both_ok (Ok a) P Q R f p q = f a p q
both_ok (Err e) P Q R f p q = tt

pub err_is : {A E : Type 0} (result : Result A E) (e : E) (R : E → Type 0) → IfErr result (λ x. x ≡ e) → R e → IfErr result R
err_is (Ok a) e R is r = tt
err_is (Err x) e R is r = subst R (sym is) r

fresh_hosts : {D : Type 0} (seen : D → DiskView) (hosts : List (Host D)) → AreFresh seen (map slot_of hosts) → AllByRecursion (λ (h : Host D). IsFresh seen h.part) hosts
fresh_hosts seen [] a = tt
fresh_hosts seen (h ∷ hosts) a = (a.0, fresh_hosts seen hosts a.1)

module _ {B D : Type 0} (bay_seen : B → BayView D) (seen : D → DiskView) (conf : ConfigParts) (old new : B) where
  pub opening_of : (hosts : HostsParts D) (shards : ShardParts D) → hosts_of shards ≡ hosts → AreOpened bay_seen seen conf old hosts new
      → IsOpening bay_seen seen conf old new shards
  opening_of hosts shards is opened =
      let o : AreOpened bay_seen seen conf old (hosts_of shards) new = subst (λ (h : HostsParts D). AreOpened bay_seen seen conf old h new) (sym is) opened in record {
        opens = o.opens;
        fresh = fresh_hosts seen shards.parts o.fresh.0;
        fresh_states = o.fresh.1;
        whole = o.whole;
        taken = o.taken;
        counts = o.counts;
      }

  pub no_memory_found : IsRefused bay_seen seen conf old open_fault.NoMemory new
  no_memory_found = record {
    back = λ other. absurd (other refl);
    stays = λ other. absurd (other refl);
    fed = λ of. absurd of;
    damaged = λ disk place e. absurd (not_damaged disk place e);
    recovers = λ contents was tells stand disk place e. not_damaged disk place e;
    bay = λ e. absurd (not_bay e);
    device = λ e. absurd (not_device e);
    sound = λ s. (not_bay, not_device);
  }
    where
      not_damaged : (disk : List ℕ) (place : ℕ) → open_fault.NoMemory ≡ open_fault.Damaged disk place → ⊥
      not_damaged disk place e = cc

      not_bay : open_fault.NoMemory ≡ open_fault.Bay → ⊥
      not_bay e = cc

      not_device : open_fault.NoMemory ≡ open_fault.Device → ⊥
      not_device e = cc
