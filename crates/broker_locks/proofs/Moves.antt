-- Histories of shards in memory, and of the states for which they stand.
use Rattle.std.proofs.Common.{◌≡◌, refl, sym, ap, ◌∙◌, subst, List, [], ◌∷◌, Bool, is_some, Ok, Err}
use Rattle.edge_io.specs.Views.{DiskView}
use Rattle.foreign_coord.specs.Shards.{ForeignShardState, Carries as CarriesForeign}
use Rattle.share_part.specs.Shards.{PartShardState, Carries}
use Rattle.shard_lock.specs.History.{Leads}
use Rattle.shard_lock.specs.Passes.{LockParts, PassParts}
use Rattle.shard_lock.specs.declared.shard.Entry.{Entry}
use Rattle.broker_model.proofs.Ungranted.{carried_above}
use Rattle.broker_hosts.specs.Hosts.{hosted_slot}
use Rattle.broker_hosts.proofs.Opening.{carried_stands}
use Rattle.broker_hosts.proofs.OpeningParts.{images_left}
use Rattle.broker_shards.specs.Acts.{ActsForeign, ActsPart}
use Rattle.broker_shards.specs.Hosts.{Host, holding}
use Rattle.broker_shards.specs.declared.foreign.ForeignEvent.{ForeignEvent}
use Rattle.broker_shards.specs.declared.foreign.ForeignHost.{ForeignHost}
use Rattle.broker_shards.specs.declared.part.PartEvent.{PartEvent}
use Rattle.broker_locks.specs.Closing.{LeavesForeign, LeavesPart}
use Rattle.broker_locks.specs.Histories.{FindsPart, FindsStates, MovesForeign, MovesPart, StepsPart, StepsStates}
use Rattle.broker_locks.proofs.Exclusives.{is_history}
use Rattle.broker_locks.specs.Opening.{slot_of}
use Rattle.broker_locks.specs.Rows.{Ends}
use Rattle.broker_locks.specs.Shared.{PartAnswer, StateAnswer}

module _ {D : Type 0} (seen : D → DiskView) where
  -- ---- a partition

  abbrev Carried : Host D → PartShardState → Type 0
  Carried h s = Carries seen holding h.part s

  part_moves : (old new : Host D) (event : PartEvent) (answer : PartAnswer) (s : PartShardState) → ActsPart seen old event answer new → Carried old s
      → (t : PartShardState) × MovesPart seen old new event answer s t × Carried new t
  part_moves old new event (Ok told) s a k =
      let n = a.acts.steps s k in (n.0, (a.acts.did, a.acts.asks, a.acts.tells, n.2), n.1)
  part_moves old new event (Err fault) s a k = (s, refl, a.acts.1 s k)

  part_found : (h : Host D) (s : PartShardState) → Carried h s → FindsPart seen h s
  part_found h s k = images_left seen h.part.conf h.part s refl k

  part_leads : (h : Host D) (es : List (Entry PartEvent PartAnswer)) (g : Host D) (s : PartShardState) → Leads (ActsPart seen) h es g → Carried h s
      → (t : PartShardState) × Leads (StepsPart seen) (h, s) es (g, t) × Carried g t
  part_leads h [] g s l k = (s, (λ i. (l i, s)), subst (λ (x : Host D). Carried x s) l k)
  part_leads h (e ∷ es) g s (m, a, more) k =
      let n = part_moves h m e.event e.answer s a k in
      let r = part_leads m es g n.0 more n.2 in
      (r.0, ((m, n.0), record { acts = a; moves = n.1; found = part_found m n.0 n.2 }, r.1), r.2)

  abbrev told : D → Bool
  told d = is_some (seen d).content

  -- what no act changes of it
  pub record StaysPart (old new : Host D) : Type 0 where
    pub topic : new.topic ≡ old.topic
    pub conf : new.conf ≡ old.conf
    pub own : new.part.conf ≡ old.part.conf
    pub log : told new.part.log.journal.disk ≡ told old.part.log.journal.disk
    pub first : told new.part.states.journal.first.disk ≡ told old.part.states.journal.first.disk
    pub second : told new.part.states.journal.second.disk ≡ told old.part.states.journal.second.disk

  pub part_stays : (h : Host D) (es : List (Entry PartEvent PartAnswer)) (g : Host D) → Leads (ActsPart seen) h es g → StaysPart h g
  part_stays h [] g l =
      subst (λ (x : Host D). StaysPart h x) l (record { topic = refl; conf = refl; own = refl; log = refl; first = refl; second = refl })
  part_stays h (e ∷ es) g (m, a, more) =
      let r = part_stays m es g more in
      record {
        topic = r.topic ∙ a.topic;
        conf = r.conf ∙ a.conf;
        own = r.own ∙ a.goes_on.conf;
        log = r.log ∙ a.goes_on.log.told;
        first = r.first ∙ a.goes_on.first.told;
        second = r.second ∙ a.goes_on.second.told;
      }

  pub same_hosted : (h : Host D) (es : List (Entry PartEvent PartAnswer)) (g : Host D) → Leads (ActsPart seen) h es g
      → hosted_slot (slot_of g) ≡ hosted_slot (slot_of h)
  same_hosted h es g l =
      let k = part_stays h es g l in
      λ i. record { topic = k.topic i; conf = k.conf i }

  pub leaves_part : (given : List (PassParts (Host D) PartEvent PartAnswer)) (lock : LockParts (Host D)) (last : Host D) → Ends (ActsPart seen) given lock last
      → LeavesPart seen given lock last
  leaves_part given lock last e =
      let k = part_stays lock.first e.pass.seen last e.leads in
      record {
        ends = e;
        same = (k.topic, k.conf);
        leads = λ s c.
            let r = part_leads lock.first e.pass.seen last s e.leads c in
            (r.0, is_history seen (lock.first, s) (last, r.0) e.pass.seen r.1 (carried_above seen holding lock.first.part s c), r.2);
        stands = λ s c.
            let r = part_leads lock.first e.pass.seen last s e.leads c.carries in (
              r.0,
              is_history seen (lock.first, s) (last, r.0) e.pass.seen r.1 (carried_above seen holding lock.first.part s c.carries),
              record {
                stand = images_left seen lock.first.conf last.part r.0 (k.own ∙ c.conf_is) r.2;
                log_told = k.log ∙ c.log.told;
                first_told = k.first ∙ c.first.told;
                second_told = k.second ∙ c.second.told;
              },
            );
      }

  -- ---- foreign state

  abbrev CarriedStates : ForeignHost D → ForeignShardState → Type 0
  CarriedStates h s = CarriesForeign seen h.foreign s

  states_move : (old new : ForeignHost D) (event : ForeignEvent) (answer : StateAnswer) (s : ForeignShardState) → ActsForeign seen old event answer new
      → CarriedStates old s → (t : ForeignShardState) × MovesForeign seen old new event answer s t × CarriedStates new t
  states_move old new event (Ok answer) s a k =
      let n = a.acts.steps s k in (n.0, (n.1, n.3), n.2)
  states_move old new event (Err fault) s a k =
      (s, refl, subst (λ x. CarriesForeign seen x s) (sym a.acts) k)

  states_found : (h : ForeignHost D) (s : ForeignShardState) → CarriedStates h s → FindsStates seen h s
  states_found h s k = carried_stands seen h.foreign s k

  states_lead : (h : ForeignHost D) (es : List (Entry ForeignEvent StateAnswer)) (g : ForeignHost D) (s : ForeignShardState) → Leads (ActsForeign seen) h es g
      → CarriedStates h s → (t : ForeignShardState) × Leads (StepsStates seen) (h, s) es (g, t) × CarriedStates g t
  states_lead h [] g s l k = (s, (λ i. (l i, s)), subst (λ (x : ForeignHost D). CarriedStates x s) l k)
  states_lead h (e ∷ es) g s (m, a, more) k =
      let n = states_move h m e.event e.answer s a k in
      let r = states_lead m es g n.0 more n.2 in
      (r.0, ((m, n.0), record { acts = a; moves = n.1; found = states_found m n.0 n.2 }, r.1), r.2)

  states_told : (h : ForeignHost D) (es : List (Entry ForeignEvent StateAnswer)) (g : ForeignHost D) → Leads (ActsForeign seen) h es g
      → (told g.foreign.journal.first.disk ≡ told h.foreign.journal.first.disk) × (told g.foreign.journal.second.disk ≡ told h.foreign.journal.second.disk)
  states_told h [] g l = (
    ap (λ (x : ForeignHost D). told x.foreign.journal.first.disk) (sym l),
    ap (λ (x : ForeignHost D). told x.foreign.journal.second.disk) (sym l),
  )
  states_told h (e ∷ es) g (m, a, more) =
      let r = states_told m es g more in (r.0 ∙ a.first.told, r.1 ∙ a.second.told)

  pub leaves_foreign : (given : List (PassParts (ForeignHost D) ForeignEvent StateAnswer)) (lock : LockParts (ForeignHost D)) (last : ForeignHost D)
      → Ends (ActsForeign seen) given lock last → LeavesForeign seen given lock last
  leaves_foreign given lock last e =
      let k = states_told lock.first e.pass.seen last e.leads in
      record {
        ends = e;
        leads = λ s c. states_lead lock.first e.pass.seen last s e.leads c;
        stands = λ s c.
            let r = states_lead lock.first e.pass.seen last s e.leads c.carries in (
              r.0,
              r.1,
              record {
                stand = carried_stands seen last.foreign r.0 r.2;
                told = k.0 ∙ c.told;
                second_told = k.1 ∙ c.second_told;
              },
            );
      }
