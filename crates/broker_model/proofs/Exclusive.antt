-- No record is held by two members whose locks both stand, over whole runs.
use Rattle.std.proofs.Common.{true, ◌≡◌, ◌⊎◌, inl, inr, ⊎_elim, refl, sym, ap, ◌∙◌, subst, ℕ, List, [], ◌∷◌, ◌++◌, Some}
use Rattle.std.specs.List.{Contains}
use Rattle.share_part.specs.Shards.{PartShardState}
use Rattle.topic_conf.specs.Configs.{ConfigParts}
use Rattle.broker_model.specs.Hosted.{Hosted}
use Rattle.broker_model.specs.Shards.{HostedPart, PartCall}
use Rattle.broker_model.specs.Shards.ShardCall.{CallPart}
use Rattle.broker_model.specs.PartHistory.{PartAct, PartStep, StepsAlone}
use Rattle.broker_model.specs.PartHistory.PartAct.{Called}
use Rattle.broker_model.specs.Locks.{EndsLock, GrantsTo, HasExclusiveLocks, IsSeenBy, Record}
use Rattle.broker_model.specs.Runs.{Step, IsRun}
use Rattle.broker_model.specs.States.{State, counts_of, ends_of}
use Rattle.broker_model.proofs.Chains.{run_parts}
use Rattle.broker_model.proofs.Goes.{Goes, IsStepOf, called, parts_of, went}
use Rattle.broker_model.proofs.Lists.{contains_front, contains_rest, entry_at, entry_holds, holds_of, some_same}
use Rattle.broker_model.proofs.PartLocks.{Kept, grant_ends, grant_lock, step_lock}

module _ (r : Record) (member : List ℕ) (until : ℕ) where
  abbrev IsLocked : PartShardState → Type 0
  IsLocked p = Kept r.group r.offset member until p

  abbrev Ends : Step → Type 0
  Ends s = EndsLock r member until s

  pub record LockedIn (state : State) : Type 0 where
    pub part : HostedPart
    pub there : entry_at r.shard (parts_of state) ≡ Some part
    pub locked : IsLocked part.shard

  module _ (conf : ConfigParts) (s : Step) (step : IsStepOf conf s) where
    -- a call as a step of its partition alone
    abbrev alone : HostedPart → PartCall → HostedPart → PartStep
    alone x did y = record { before = x.shard; act = Called did; after = y.shard }

    seen_by : (hosted : Hosted) (did : PartCall) (x y : HostedPart) → s.call ≡ Some (CallPart r.shard hosted did) → entry_at r.shard (parts_of s.before) ≡ Some x
        → entry_at r.shard (parts_of s.after) ≡ Some y → IsSeenBy r.shard hosted (alone x did y) s
    seen_by hosted did x y call was is = record {
      did = did;
      act = refl;
      call = call;
      before = entry_holds r.shard (λ (q : HostedPart). q.shard ≡ x.shard) (parts_of s.before) x was refl;
      after = entry_holds r.shard (λ (q : HostedPart). q.shard ≡ y.shard) (parts_of s.after) y is refl;
    }

    pub step_locks : LockedIn s.before → LockedIn s.after ⊎ Ends s
    step_locks l = let w = went conf s step r.shard l.part l.there in go w.0 w.1 w.2 where
      go : (y : HostedPart) → entry_at r.shard (parts_of s.after) ≡ Some y → Goes r.shard s l.part y → LockedIn s.after ⊎ Ends s
      go y is (inl same) = inl (record { part = y; there = is; locked = subst (λ (p : HostedPart). IsLocked p.shard) (sym same) l.locked })
      go y is (inr (inl c)) = ⊎_elim
          (λ locked. inl (record { part = y; there = is; locked = locked }))
          (λ e. inr (inl (c.hosted, alone l.part c.did y, seen_by c.hosted c.did l.part y c.call l.there is, e)))
          (step_lock r.group r.offset member until c.hosted (alone l.part c.did y) (true, counts_of s.before s.after, ends_of s.before s.after, c.now, c.step.step)
          l.locked)
      go y is (inr (inr lost)) = inr (inr (lost.choice, lost.event))

    -- what the step is to the partition, as its shard steps
    pub record IsAlone (hosted : Hosted) (p : PartStep) : Type 0 where
      pub old : HostedPart
      pub new : HostedPart
      pub was : entry_at r.shard (parts_of s.before) ≡ Some old
      pub is : entry_at r.shard (parts_of s.after) ≡ Some new
      pub before : old.shard ≡ p.before
      pub after : new.shard ≡ p.after
      pub steps : StepsAlone hosted p.before p.act p.after

    pub taken_alone : (hosted : Hosted) (p : PartStep) → IsSeenBy r.shard hosted p s → IsAlone hosted p
    taken_alone hosted p k =
        let c = called conf s step r.shard hosted k.did k.call in
        let before : c.old.shard ≡ p.before = holds_of r.shard (λ (q : HostedPart). q.shard ≡ p.before) (parts_of s.before) c.old c.was k.before in
        let after : c.new.shard ≡ p.after = holds_of r.shard (λ (q : HostedPart). q.shard ≡ p.after) (parts_of s.after) c.new c.is k.after in
        record {
          old = c.old;
          new = c.new;
          was = c.was;
          is = c.is;
          before = before;
          after = after;
          steps = subst (λ (a : PartAct). StepsAlone hosted p.before a p.after) (sym k.act)
              (subst (λ (x : PartShardState). StepsAlone hosted x (Called k.did) p.after) before
              (subst (λ (y : PartShardState). StepsAlone hosted c.old.shard (Called k.did) y) after
              (true, counts_of s.before s.after, ends_of s.before s.after, c.now, c.step.step)));
        }

    -- a record that is granted is locked
    pub grant_locks : GrantsTo r member until s → LockedIn s.after
    grant_locks (hosted, p, seen, grants) =
        let c = taken_alone hosted p seen in
        record {
          part = c.new;
          there = c.is;
          locked = subst IsLocked (sym c.after) (grant_lock r.group r.offset member until hosted p c.steps grants);
        }

    -- it isn't granted again before the lock has ended
    pub grants_end : (other : List ℕ) (late : ℕ) → GrantsTo r other late s → LockedIn s.before → Ends s
    grants_end other late (hosted, p, seen, grants) l =
        let c = taken_alone hosted p seen in
        let old : IsLocked p.before = subst IsLocked (ap (λ (q : HostedPart). q.shard) (some_same l.part c.old (sym l.there ∙ c.was)) ∙ c.before) l.locked in
        inl (hosted, p, seen, grant_ends r.group r.offset member until hosted p c.steps other late grants old)

  -- ---- a run

  module _ (conf : ConfigParts) (other : List ℕ) (late : ℕ) where
    record EndsIn (steps : List Step) : Type 0 where
      u : Step
      there : Contains steps u
      ends : Ends u

    through : (first last : State) (between after : List Step) (t : Step) → IsRun conf first (between ++ (t ∷ after)) last → LockedIn first
        → GrantsTo r other late t → EndsIn (between ++ t ∷ [])
    through first last [] after t run l g = record {
      u = t;
      there = contains_front t t [] refl;
      ends = grants_end conf t run.1 other late g (subst LockedIn (sym run.0) l);
    }
    through first last (u ∷ between) after t run l g = ⊎_elim
        (λ (l : LockedIn u.after).
        let e = through u.after last between after t run.2 l g in
        record { u = e.u; there = contains_rest u e.u (between ++ t ∷ []) e.there; ends = e.ends })
        (λ e. record { u = u; there = contains_front u u (between ++ t ∷ []) refl; ends = e })
        (step_locks conf u run.1 (subst LockedIn (sym run.0) l))

pub exclusive : (conf : ConfigParts) (first last : State) (steps : List Step) → IsRun conf first steps last → HasExclusiveLocks steps
exclusive conf first last steps run before between after s t split r member other until late one two =
    let p = run_parts conf first last before (s ∷ (between ++ (t ∷ after))) (subst (λ (l : List Step). IsRun conf first l last) split run) in
    let e = through r member until conf other late s.after last between after t p.2.2 (grant_locks r member until conf s p.2.1 one) two in
    (e.u, e.there, e.ends)
