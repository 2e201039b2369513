-- Acts of the shard of a hosted partition, and which parts they answer.
use Rattle.std.proofs.Common.{◌≡◌, ◌≢◌, ◌<◌, inl, inr, refl, sym, ap, ◌∙◌, subst, ℕ, List, Some, None, false}
use Rattle.std.specs.declared.option.Option.{Option}
use Rattle.edge_io.specs.Armed.{RunsOn}
use Rattle.edge_io.specs.Disk.{IsTold}
use Rattle.edge_io.specs.Views.{DiskView}
use Rattle.share_model.specs.declared.visit.ExpireAnswer.{ExpireAnswer}
use Rattle.share_part.specs.Hosting.{PartConfParts}
use Rattle.share_part.specs.Shards.{Carries, PartShardState}
use Rattle.call_fold.specs.declared.part.Part.{Part}
use Rattle.call_fold.specs.declared.part.Part.TheVariants as parts
use Rattle.call_fold.specs.declared.part.PartAnswer.{PartAnswer}
use Rattle.call_fold.specs.declared.part.PartAnswer.TheVariants as answers
use Rattle.broker_model.specs.Shards.{Answered, Counts, Ends, PartCall, ShardCall, Shards, answered_by_part}
use Rattle.broker_model.specs.Shards.PartCall.{Visits, Produces, Looks, Expires, Deletes}
use Rattle.broker_model.specs.Acting.{StepsOn}
use Rattle.broker_model.specs.Disks.{IsUsed, facts_of}
use Rattle.broker_shards.specs.Acts.{Answers, CanBeTold, FindsNoMemory, GoesOnPart, LeavesUnused, PartDeed, StepsBy, asked_by, told_by}
use Rattle.broker_shards.specs.Acts.PartDeed.{Calls, Offers}
use Rattle.broker_shards.specs.Answering.{answer_told, part_asking}
use Rattle.broker_shards.specs.Histories.{IsToldOf}
use Rattle.broker_shards.specs.Hosts.{holding}
use Rattle.broker_shards.specs.declared.part.PartAsk.{PartAsk}
use Rattle.broker_shards.specs.declared.part.PartAsk.TheVariants as asks
use Rattle.broker_shards.specs.declared.part.PartTold.{PartTold}
use Rattle.broker_shards.specs.declared.part.PartTold.TheVariants as tells
use Rattle.broker_shards.proofs.Legal.{of_kind}
use Rattle.broker_hosts.specs.declared.slot.PartSlot.{PartSlot}
use Rattle.broker_hosts.specs.declared.slot.PartState.TheVariants as part
use Rattle.broker_core.specs.PartCalls.{HaltsPart, IsCall, LeadsPart, PartGoesOn, Uses}
use Rattle.broker_hosts.specs.Carried.{IsPartCarried, OpenPart}
use Rattle.broker_core.specs.Calls.{DidPart, HaltsSlot, IsThere, LeadsSlot}

module _ {D : Type 0} (seen : D → DiskView) where
  abbrev Carried : PartConfParts → OpenPart D → PartShardState → Type 0
  Carried conf part s = IsPartCarried seen conf part s

  -- its own configuration is that of the slot
  pub of_conf : (conf : PartConfParts) (was : OpenPart D) (Q : PartConfParts → PartShardState → Type 0)
      → ((s : PartShardState) → Carried was.conf was s → Q was.conf s) → (s : PartShardState) → Carried conf was s → Q conf s
  of_conf conf was Q f s k = subst (λ (c : PartConfParts). Q c s) k.conf_is
      (f s (record { conf_is = refl; carries = k.carries; log = k.log; first = k.first; second = k.second }))

  abbrev Fed : OpenPart D → Type 0
  Fed new = ((seen new.log.journal.disk).starved ≡ false) × ((seen new.states.journal.first.disk).starved ≡ false) × ((seen new.states.journal.second.disk).starved ≡ false)

  pub used_on : (old new : D) → RunsOn seen old new → IsTold (seen old).content → (seen new).starved ≡ false → IsUsed (facts_of seen old) (facts_of seen new)
  used_on old new r told fed = record { losses = r.same_losses; arms = r.same_arms; spends = r.spends told fed }

  module _ (old new : OpenPart D) (goes : GoesOnPart seen holding old new) where
    pub part_on : PartGoesOn seen old new
    part_on = record {
      log = record { later = goes.log.later; told = goes.log.told };
      first = record { later = goes.first.later; told = goes.first.told };
      second = record { later = goes.second.later; told = goes.second.told };
    }

    -- how its disks were used
    uses : (did : PartCall) → LeavesUnused (asked_by (Calls did)) old new → (s : PartShardState) → Carried old.conf old s → Fed new → Uses seen old new did
    uses did unused s k fed = go did unused where
      log : IsUsed (facts_of seen old.log.journal.disk) (facts_of seen new.log.journal.disk)
      log = used_on old.log.journal.disk new.log.journal.disk goes.log k.log.told fed.0

      first : IsUsed (facts_of seen old.states.journal.first.disk) (facts_of seen new.states.journal.first.disk)
      first = used_on old.states.journal.first.disk new.states.journal.first.disk goes.first k.first.told fed.1

      second : IsUsed (facts_of seen old.states.journal.second.disk) (facts_of seen new.states.journal.second.disk)
      second = used_on old.states.journal.second.disk new.states.journal.second.disk goes.second k.second.told fed.2

      go : (did : PartCall) → LeavesUnused (asked_by (Calls did)) old new → Uses seen old new did
      go (Visits visit answer unread) u = record { used = first; second_used = second; log_used = log; log = u.0; log_end = u.1 }
      go (Produces batch produced) u = record { used = log; states = u }
      go (Looks group looked) u = u
      go (Expires answer) u = record { used = first; second_used = second; log = u }
      go (Deletes to answer) u = record { used = log; states = u }

    -- it was a call of the machine, from each state that was carried
    pub record IsDone (now : ℕ) (asked : PartAsk) (told : PartTold) : Type 0 where
      pub did : PartCall
      pub is : IsCall asked told did
      pub steps : (s : PartShardState) → Carries seen holding old s → (after : PartShardState) × Carries seen holding new after
          × StepsOn seen old.conf old new now s did after

    pub done : (now : ℕ) (asked : PartAsk) (told : PartTold) → ((group : List ℕ) → asked ≢ asks.Offer group)
        → Answers seen holding now asked told old new → IsDone now asked told
    done now asked told none a = go a.did a.asks a.tells a.tellable a.steps where
      go : (did : PartDeed) → asked ≡ asked_by did → told ≡ told_by did → CanBeTold did
          → ((s : PartShardState) → Carries seen holding old s → (after : PartShardState) × Carries seen holding new after
          × StepsBy seen old new now s did after) → IsDone now asked told
      go (Calls call) e f fair steps = record { did = call; is = record { asks = e; tells = f; tellable = fair }; steps = steps }
      go (Offers group offer) e f fair steps = absurd (none group e)

    -- what was done, where memory was found
    pub act_leads : (now : ℕ) (asked : PartAsk) (told : PartTold) (d : IsDone now asked told) → LeavesUnused asked old new → Fed new
        → (s : PartShardState) → Carried old.conf old s → LeadsPart seen old.conf now d.did old s new
    act_leads now asked told d unused fed s k =
        let r = d.steps s k.carries in
        record {
          after = r.0;
          carried = record {
            conf_is = goes.conf;
            carries = r.1;
            log = record { told = goes.log.told ∙ k.log.told; fed = fed.0 };
            first = record { told = goes.first.told ∙ k.first.told; fed = fed.1 };
            second = record { told = goes.second.told ∙ k.second.told; fed = fed.2 };
          };
          step = r.2;
          ends = goes.ends s k.carries;
          used = uses d.did (subst (λ (x : PartAsk). LeavesUnused x old new) d.is.asks unused) s k fed;
        }

    -- and where a disk found none, behind it
    pub act_whole : (now : ℕ) (asked : PartAsk) (told : PartTold) → IsDone now asked told → (s : PartShardState)
        → Carried old.conf old s → HaltsPart seen old.conf now (λ did. asked ≡ asked_by (Calls did)) old s new
    act_whole now asked told d s k =
        let r = d.steps s k.carries in
        record {
          after = r.0;
          conf_is = goes.conf;
          carries = r.1;
          does = inr (d.did, d.is.asks, r.2);
          ends = goes.ends s k.carries;
          log_told = goes.log.told ∙ k.log.told;
          first_told = goes.first.told ∙ k.first.told;
          second_told = goes.second.told ∙ k.second.told;
        }

    pub act_refused : (now : ℕ) (asked : PartAsk) → FindsNoMemory seen holding old new → (s : PartShardState)
        → Carried old.conf old s → HaltsPart seen old.conf now (λ did. asked ≡ asked_by (Calls did)) old s new
    act_refused now asked stays s k = record {
      after = s;
      conf_is = goes.conf;
      carries = stays s k.carries;
      does = inl refl;
      ends = goes.ends s k.carries;
      log_told = goes.log.told ∙ k.log.told;
      first_told = goes.first.told ∙ k.first.told;
      second_told = goes.second.told ∙ k.second.told;
    }

  -- ---- a slot whose shard acted

  abbrev slot_with : PartSlot D → OpenPart D → PartSlot D
  slot_with x is = record { topic = x.topic; conf = x.conf; state = part.Open is }

  pub slot_leads : (now : ℕ) (did : PartCall) (x : PartSlot D) (was is : OpenPart D) → x.state ≡ part.Open was → GoesOnPart seen holding was is
      → ((s : PartShardState) → Carried was.conf was s → LeadsPart seen was.conf now did was s is) → LeadsSlot seen now did x (slot_with x is)
  slot_leads now did x was is opened goes leads = record {
    was = was;
    is = is;
    old_is = opened;
    new_is = refl;
    topic = refl;
    conf = refl;
    goes = part_on was is goes;
    leads = of_conf x.conf was (λ conf s. LeadsPart seen conf now did was s is) leads;
  }

  pub slot_halts : (now : ℕ) (Whole : PartCall → Type 0) (x : PartSlot D) (was is : OpenPart D) → x.state ≡ part.Open was
      → GoesOnPart seen holding was is → ((s : PartShardState) → Carried was.conf was s → HaltsPart seen was.conf now Whole was s is)
      → HaltsSlot seen now Whole x (slot_with x is)
  slot_halts now Whole x was is opened goes halts = record {
    was = was;
    is = is;
    old_is = opened;
    new_is = refl;
    topic = refl;
    conf = refl;
    goes = part_on was is goes;
    halts = of_conf x.conf was (λ conf s. HaltsPart seen conf now Whole was s is) halts;
  }

-- ---- which parts they answer

some_is : {A : Type 0} (a b : A) → Some a ≡ Some b → a ≡ b
some_is a b e = cc

no_part : {T : Type 0} (part : Part) → ◌≡◌ {A = Option Part} None (Some part) → T
no_part part e = absurd (let bad : ⊥ = cc in bad)

-- an answer of the kind that was asked
pub call_fits : (asked : PartAsk) (told : PartTold) (did : PartCall) → IsCall asked told did → IsToldOf asked told
call_fits asked told did c =
    subst (λ (x : PartAsk). IsToldOf x told) (sym c.asks) (subst (λ (y : PartTold). IsToldOf (asked_by (Calls did)) y) (sym c.tells) (of_kind (Calls did) c.tellable))

abbrev answered : Part → PartAnswer → Option Answered
answered part answer = Some (record { part = part; answer = answer })

pub answered_as : (asked part : Part) (answer : PartAnswer) → Some asked ≡ Some part → answered asked answer ≡ answered part answer
answered_as asked part answer e = λ i. answered (some_is asked part e i) answer

-- a visit that is asked is of a shard that is there
pub there_of : (count shard : ℕ) (asked : PartAsk) (part : Part) → part_asking shard asked ≡ Some part → shard < count → IsThere count part
there_of count shard asked part e below = go asked e where
  so : (x : Part) → Some x ≡ Some part → IsThere count x → IsThere count part
  so x f there = subst (λ (p : Part). IsThere count p) (some_is x part f) there

  go : (asked : PartAsk) → part_asking shard asked ≡ Some part → IsThere count part
  go (asks.Visit visit) f = so (parts.Visit shard visit) f below
  go (asks.Produce batch) f = so (parts.Produce shard batch) f tt
  go (asks.Delete to) f = so (parts.Delete shard to) f tt
  go (asks.Look group) f = so (parts.Look shard group) f tt
  go (asks.Offer group) f = no_part part f
  go asks.Expire f = no_part part f

-- the part that asks this and the answer told are those of the call
pub answers_part : (shard : ℕ) (asked : PartAsk) (told : PartTold) (did : PartCall) (part : Part) (answer : PartAnswer) → IsCall asked told did
    → part_asking shard asked ≡ Some part → answer_told told ≡ Some answer
    → answered_by_part shard did ≡ answered part answer
answers_part shard asked told did part answer c p a = go did
    (subst (λ (x : PartAsk). part_asking shard x ≡ Some part) c.asks p)
    (subst (λ (x : PartTold). answer_told x ≡ Some answer) c.tells a)
  where
    both : (x : Part) (y : PartAnswer) → Some x ≡ Some part → Some y ≡ Some answer
        → answered x y ≡ answered part answer
    both x y e f = λ i. answered (some_is x part e i) (some_is y answer f i)

    go : (did : PartCall) → part_asking shard (asked_by (Calls did)) ≡ Some part → answer_told (told_by (Calls did)) ≡ Some answer
        → answered_by_part shard did ≡ answered part answer
    go (Visits visit told unread) e f = both (parts.Visit shard visit) (answers.Visit told) e f
    go (Produces batch told) e f = both (parts.Produce shard batch) (answers.Produce told) e f
    go (Looks group told) e f = both (parts.Look shard group) (answers.Look told) e f
    go (Deletes to told) e f = both (parts.Delete shard to) (answers.Delete told) e f
    go (Expires told) e f = no_part part e

-- a call that does a part has an answer to it
pub some_answer : (shard : ℕ) (asked : PartAsk) (did : PartCall) (part : Part) → asked ≡ asked_by (Calls did) → part_asking shard asked ≡ Some part
    → (answer : PartAnswer) × (answered_by_part shard did ≡ answered part answer)
some_answer shard asked did part is p = go did (subst (λ (x : PartAsk). part_asking shard x ≡ Some part) is p) where
  go : (did : PartCall) → part_asking shard (asked_by (Calls did)) ≡ Some part
      → (answer : PartAnswer) × (answered_by_part shard did ≡ answered part answer)
  go (Visits visit told unread) e = (answers.Visit told, answered_as (parts.Visit shard visit) part (answers.Visit told) e)
  go (Produces batch told) e = (answers.Produce told, answered_as (parts.Produce shard batch) part (answers.Produce told) e)
  go (Looks group told) e = (answers.Look told, answered_as (parts.Look shard group) part (answers.Look told) e)
  go (Deletes to told) e = (answers.Delete told, answered_as (parts.Delete shard to) part (answers.Delete told) e)
  go (Expires told) e = no_part part e

-- what is asked to expire does an expiry, and tells its answer
expiry_is : (did : PartCall) → asks.Expire ≡ asked_by (Calls did) → (answer : ExpireAnswer) × (did ≡ Expires answer)
expiry_is (Visits visit told unread) e = absurd (let bad : asks.Expire ≡ asks.Visit visit = e in cc)
expiry_is (Produces batch told) e = absurd (let bad : asks.Expire ≡ asks.Produce batch = e in cc)
expiry_is (Looks group told) e = absurd (let bad : asks.Expire ≡ asks.Look group = e in cc)
expiry_is (Deletes to told) e = absurd (let bad : asks.Expire ≡ asks.Delete to = e in cc)
expiry_is (Expires told) e = (told, refl)

expiry_same : (told answer : ExpireAnswer) → tells.Expire answer ≡ tells.Expire told → told ≡ answer
expiry_same told answer e = cc

pub expiry_tells : (did : PartCall) (answer : ExpireAnswer) → IsCall asks.Expire (tells.Expire answer) did → did ≡ Expires answer
expiry_tells did answer c =
    let e = expiry_is did c.asks in
    e.1 ∙ ap (λ (a : ExpireAnswer). Expires a)
    (expiry_same e.0 answer (c.tells ∙ ap (λ (d : PartCall). told_by (Calls d)) e.1))

pub expiry_done : (counts : Counts) (ends : Ends) (now shard : ℕ) (did : PartCall) (a : Shards) (call : Option ShardCall) (b : Shards)
    → asks.Expire ≡ asked_by (Calls did) → DidPart counts ends now shard did a call b
    → (answer : ExpireAnswer) × DidPart counts ends now shard (Expires answer) a call b
expiry_done counts ends now shard did a call b is d =
    let e = expiry_is did is in (e.0, subst (λ (q : PartCall). DidPart counts ends now shard q a call b) e.1 d)
