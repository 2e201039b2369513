-- Locks of partitions are closed one after another, and their disks put back.
use Rattle.std.proofs.Common.{◌≡◌, inl, inr, refl, sym, ap, ◌∙◌, subst, ℕ, suc, List, [], ◌∷◌, ◌++◌, append_assoc, append-nil, length, map, true}
use Rattle.std.proofs.lemmas.Grind.{flat_map-append}
use Rattle.std.specs.List.{AllByRecursion, AllZip}
use Rattle.std.specs.declared.option.Option.{Option}
use Rattle.edge_io.specs.Views.{BayView, DiskView}
use Rattle.shard_lock.specs.History.{Leads}
use Rattle.shard_lock.specs.Passes.{Account, LockParts, PassParts, passes_of}
use Rattle.topic_conf.specs.Configs.{ConfigParts}
use Rattle.broker_model.specs.Hosted.{Hosted, IsOneOf, disks_of, hosted_of, part_disks, state_a, state_b}
use Rattle.broker_hosts.specs.Hosts.{AreApart, AreDistinct, AreNamed, IsNamed, NotIn, all_names, hosted_slot, hosted_slots, slot_disks, slots_disks}
use Rattle.broker_hosts.specs.Taking.{PutsAll, PutsAllBack, PutsForeignBack}
use Rattle.broker_hosts.specs.declared.slot.ForeignSlot.TheVariants as foreign_slot
use Rattle.broker_hosts.specs.declared.slot.PartSlot.{PartSlot}
use Rattle.broker_hosts.proofs.Partitions.{Putting, names_of_disks, putting_apart, putting_named, putting_out}
use Rattle.broker_hosts.proofs.Places.{one_in_rest}
use Rattle.broker_hosts.proofs.Starting.{all_back, all_in, all_rise, back_moves, back_noted, names_in, no_state_a, no_state_b, others_same}
use Rattle.broker_hosts.proofs.Taking.{puts_others, puts_then}
use Rattle.broker_shards.specs.Acts.{ActsForeign, ActsMembers, ActsPart}
use Rattle.broker_shards.specs.Hosts.{Host}
use Rattle.broker_shards.specs.declared.foreign.ForeignHost.{ForeignHost}
use Rattle.broker_shards.specs.declared.members.MembersHost.{MembersHost}
use Rattle.broker_shards.specs.declared.part.PartEvent.{PartEvent}
use Rattle.broker_locks.specs.Closing.{AreLeft, ArePut, Closes, LeavesPart}
use Rattle.broker_locks.specs.Opening.{AreWhole, hosted_in, hosts_of, names_in as names_of, slot_of}
use Rattle.broker_locks.specs.Rows.{AreEnded, Ends, StandsAmong, StandsFor, foreign_in, members_in, parts_in}
use Rattle.broker_locks.specs.Shared.{PartAnswer, PassesParts, ShardParts, SharedParts, first_shards}
use Rattle.broker_locks.proofs.Lines.{ended_among, ended_more, ended_snoc, length_snoc, map_snoc}
use Rattle.broker_locks.proofs.Standing.{all_stand}
use Rattle.broker_locks.proofs.Moves.{leaves_foreign, leaves_part, same_hosted}

map_then : {A B : Type 0} (f : A → B) (xs ys : List A) → map f (xs ++ ys) ≡ map f xs ++ map f ys
map_then f [] ys = refl
map_then f (x ∷ xs) ys = ap (λ l. f x ∷ l) (map_then f xs ys)

module _ {B D : Type 0} (bay_seen : B → BayView D) (seen : D → DiskView) where
  abbrev Lock : Type 0
  Lock = LockParts (Host D)

  abbrev Pass : Type 0
  Pass = PassParts (Host D) PartEvent PartAnswer

  abbrev made : Lock → PartSlot D
  made l = slot_of l.first

  -- the partitions of these locks
  abbrev pub hosted_by : List Lock → List Hosted
  hosted_by locks = hosted_slots (map made locks)

  abbrev Closed : List Lock → List Pass → List (Host D) → Type 0
  Closed locks passes last = AreEnded (ActsPart seen) locks passes last

  -- Of these locks those in front of the rest are closed with the passes at their places, and the disks behind them put back.
  pub record Closing (locks rest : List Lock) (given passes : List Pass) (old now : B) : Type 0 where
    pub done : List Lock
    pub used : List Pass
    pub last : List (Host D)
    pub split : done ++ rest ≡ locks
    pub parted : used ++ passes ≡ given
    pub many : length done ≡ length used
    pub ends : Closed done used last
    pub puts : PutsAll bay_seen seen (slots_disks (map slot_of last)) old now
    pub seats : ℕ
    pub stand : AllZip (StandsFor seats) rest passes
    pub all : AllByRecursion (λ (l : Lock). l.seats ≡ seats) rest

  pub closed_hosted : (locks : List Lock) (passes : List Pass) (last : List (Host D)) → Closed locks passes last
      → hosted_slots (map slot_of last) ≡ hosted_by locks
  closed_hosted [] passes last z = ap (λ (hs : List (Host D)). hosted_slots (map slot_of hs)) z
  closed_hosted (l ∷ locks) [] last z = absurd z
  closed_hosted (l ∷ locks) (p ∷ passes) [] z = absurd z
  closed_hosted (l ∷ locks) (p ∷ passes) (h ∷ last) z =
      λ i. same_hosted seen l.first p.seen h z.0.leads i ∷ closed_hosted locks passes last z.1 i

  leaves_parts : (given : List Pass) (locks : List Lock) (last : List (Host D)) → AllZip (Ends (ActsPart seen) given) locks last
      → AllZip (LeavesPart seen given) locks last
  leaves_parts given [] [] z = tt
  leaves_parts given [] (h ∷ last) z = absurd z
  leaves_parts given (l ∷ locks) [] z = absurd z
  leaves_parts given (l ∷ locks) (h ∷ last) z = (leaves_part seen given l h z.0, leaves_parts given locks last z.1)

  pub closing_first : (locks : List Lock) (passes : List Pass) (now : B) (seats : ℕ) → AllZip (StandsFor seats) locks passes
      → AllByRecursion (λ (l : Lock). l.seats ≡ seats) locks → Closing locks locks passes passes now now
  closing_first locks passes now seats stand all = record {
    done = [];
    used = [];
    last = [];
    split = refl;
    parted = refl;
    many = refl;
    ends = refl;
    puts = refl;
    seats = seats;
    stand = stand;
    all = all;
  }

  pub closing_all : (locks rest : List Lock) (given passes : List Pass) (old now : B) → Closing locks rest given passes old now → rest ≡ []
      → (last : List (Host D)) × Closed locks given last × PutsAll bay_seen seen (slots_disks (map slot_of last)) old now
  closing_all locks rest given passes old now c none = (
    c.last,
    subst (λ (x : List Lock × List Pass). Closed x.0 x.1 c.last) (λ i. (whole i, c.parted i))
        (ended_more (ActsPart seen) c.done c.used passes c.last c.ends),
    c.puts,
  )
    where
      whole : c.done ≡ locks
      whole = sym (append-nil c.done) ∙ ap (λ (l : List Lock). c.done ++ l) (sym none) ∙ c.split

  module _ (locks rest more : List Lock) (given passes others : List Pass) (lock : Lock) (pass : Pass) (old now : B)
      (c : Closing locks rest given passes old now)
      (is : rest ≡ lock ∷ more) (has : passes ≡ pass ∷ others) where
    zipped : AllZip (StandsFor c.seats) (lock ∷ more) (pass ∷ others)
    zipped = subst (λ (x : List Lock × List Pass). AllZip (StandsFor c.seats) x.0 x.1) (λ i. (is i, has i)) c.stand

    seated : AllByRecursion (λ (l : Lock). l.seats ≡ c.seats) (lock ∷ more)
    seated = subst (λ (x : List Lock). AllByRecursion (λ (l : Lock). l.seats ≡ c.seats) x) is c.all

    pub closing_of : StandsFor c.seats lock pass
    closing_of = zipped.0

    pub closing_whole : pass.stands ≡ lock.seats
    closing_whole = zipped.0.1 ∙ sym seated.0

    -- the disks that are back are those of the first locks
    back : Putting bay_seen seen (map slot_of c.last ++ map made rest) (map slot_of c.last) (map made rest) old now
    back = record { parts = refl; puts = c.puts }

    same : hosted_slots (map slot_of c.last ++ map made rest) ≡ hosted_by locks
    same = map_then hosted_slot (map slot_of c.last) (map made rest)
        ∙ ap (λ (l : List Hosted). l ++ hosted_by rest) (closed_hosted c.done c.used c.last c.ends)
        ∙ sym (map_then hosted_slot (map made c.done) (map made rest))
        ∙ ap hosted_slots (sym (map_then made c.done rest))
        ∙ ap hosted_by c.split

    next : map made rest ≡ made lock ∷ map made more
    next = ap (map made) is

    module _ (last : Host D) (leads : Leads (ActsPart seen) lock.first pass.seen last) where
      hosted_is : hosted_slot (made lock) ≡ hosted_slot (slot_of last)
      hosted_is = sym (same_hosted seen lock.first pass.seen last leads)

      pub closing_named : AreNamed (hosted_by locks) → IsNamed (hosted_slot (slot_of last))
      closing_named named = subst IsNamed hosted_is
          (putting_named bay_seen seen (map slot_of c.last ++ map made rest) (map slot_of c.last) (map made rest) (map made more) (made lock) old now
          back next (subst AreNamed (sym same) named))

      pub closing_apart : AreDistinct (part_disks (hosted_by locks)) → AreDistinct (disks_of (hosted_slot (slot_of last)))
      closing_apart apart = subst (λ (h : Hosted). AreDistinct (disks_of h)) hosted_is
          (putting_apart bay_seen seen (map slot_of c.last ++ map made rest) (map slot_of c.last) (map made rest) (map made more) (made lock) old now
          back next (subst (λ (l : List Hosted). AreDistinct (part_disks l)) (sym same) apart))

      pub closing_out : AreDistinct (part_disks (hosted_by locks))
          → ((m : List ℕ) → IsOneOf (part_disks (hosted_by locks)) m → (bay_seen old).out m ≡ true)
          → (m : List ℕ) → IsOneOf (disks_of (hosted_slot (slot_of last))) m → (bay_seen now).out m ≡ true
      closing_out apart out = subst (λ (h : Hosted). (m : List ℕ) → IsOneOf (disks_of h) m → (bay_seen now).out m ≡ true) hosted_is
          (putting_out bay_seen seen (map slot_of c.last ++ map made rest) (map slot_of c.last) (map made rest) (map made more) (made lock) old now
          back next (subst (λ (l : List Hosted). AreDistinct (part_disks l)) (sym same) apart)
          (subst (λ (l : List Hosted). (m : List ℕ) → IsOneOf (part_disks l) m → (bay_seen old).out m ≡ true) (sym same) out))

      pub closing_on : (new : B) → Account lock.seats (passes_of pass) pass.seen → PutsAll bay_seen seen (slot_disks (slot_of last)) now new
          → Closing locks more given others old new
      closing_on new account put = record {
        done = c.done ++ lock ∷ [];
        used = c.used ++ pass ∷ [];
        last = c.last ++ last ∷ [];
        split = append_assoc c.done (lock ∷ []) more ∙ ap (λ (l : List Lock). c.done ++ l) (sym is) ∙ c.split;
        parted = append_assoc c.used (pass ∷ []) others ∙ ap (λ (l : List Pass). c.used ++ l) (sym has) ∙ c.parted;
        many = length_snoc c.done lock ∙ ap suc c.many ∙ sym (length_snoc c.used pass);
        ends = ended_snoc (ActsPart seen) c.done c.used c.last lock pass last c.many c.ends (record { leads = leads; account = account });
        puts = subst (λ (es : List (List ℕ × Option D)). PutsAll bay_seen seen es old new)
            (sym (ap slots_disks (map_snoc slot_of c.last last) ∙ flat_map-append slot_disks (map slot_of c.last) (slot_of last ∷ [])))
            (puts_then bay_seen seen (slots_disks (map slot_of c.last)) (slot_disks (slot_of last)) old now new c.puts put);
        seats = c.seats;
        stand = zipped.1;
        all = seated.1;
      }

  -- all disks are back
  pub put_all : (conf : ConfigParts) (shards : ShardParts D) (old new : B) → AreApart (hosts_of shards) → hosted_slots (hosts_of shards).parts ≡ hosted_of conf
      → PutsAllBack bay_seen seen (hosts_of shards) old new → ArePut bay_seen seen conf old shards new
  put_all conf shards old new apart hosted p = record {
    back = all_back bay_seen seen (hosts_of shards) apart old new p;
    are_in = names_in bay_seen seen (hosts_of shards) apart old new p;
    none_out = all_in bay_seen seen (hosts_of shards) apart old new p;
    noted = back_noted bay_seen seen (hosts_of shards) apart old new p;
    others = others_same bay_seen seen (hosts_of shards) apart old new p conf hosted;
    rises = all_rise bay_seen seen (hosts_of shards) apart old new p;
    later = (back_moves bay_seen seen (hosts_of shards) apart old new p).later;
    told = (back_moves bay_seen seen (hosts_of shards) apart old new p).told;
  }

  -- ---- all locks

  pub hosted_firsts : (locks : List Lock) → hosted_slots (map slot_of (map (λ l. l.first) locks)) ≡ hosted_by locks
  hosted_firsts [] = refl
  hosted_firsts (l ∷ locks) = ap (λ (hosted : List Hosted). hosted_slot (made l) ∷ hosted) (hosted_firsts locks)

  module _ (shared : SharedParts D) (whole : AreWhole shared.conf (first_shards shared)) (passes : List Pass) (last : List (Host D))
      (closed : Closed shared.parts passes last) (old mid : B) (puts : PutsAll bay_seen seen (slots_disks (map slot_of last)) old mid) where
    hosted_last : hosted_slots (map slot_of last) ≡ hosted_in (first_shards shared)
    hosted_last = closed_hosted shared.parts passes last closed ∙ sym (hosted_firsts shared.parts)

    apart_last : AreDistinct (all_names (hosted_slots (map slot_of last)))
    apart_last = subst (λ (l : List Hosted). AreDistinct (all_names l)) (sym hosted_last) whole.apart

    stays_out : (name : List ℕ) → NotIn (part_disks (hosted_slots (map slot_of last))) name → (bay_seen mid).out name ≡ (bay_seen old).out name
    stays_out name away = (puts_others bay_seen seen (slots_disks (map slot_of last)) old mid puts name
        (subst (λ (l : List (List ℕ)). NotIn l name) (sym (names_of_disks (map slot_of last))) away)).same_out

    abbrev Out : Type 0
    Out = (name : List ℕ) → IsOneOf (names_of (first_shards shared)) name → (bay_seen old).out name ≡ true

    pub first_out : Out → (bay_seen mid).out state_a ≡ true
    first_out out = stays_out state_a (no_state_a (hosted_slots (map slot_of last)) apart_last)
        ∙ out state_a (one_in_rest (part_disks (hosted_in (first_shards shared))) (state_a ∷ state_b ∷ []) state_a (inl refl))

    pub second_out : Out → (bay_seen mid).out state_b ≡ true
    second_out out = stays_out state_b (no_state_b (hosted_slots (map slot_of last)) apart_last)
        ∙ out state_b (one_in_rest (part_disks (hosted_in (first_shards shared))) (state_a ∷ state_b ∷ []) state_b (inr (inl refl)))

    pub closes_all : (rows : List (PassesParts D)) (n : ℕ) (new : B) (members : MembersHost) (foreign : ForeignHost D)
        → AllZip (StandsAmong (parts_in rows) n) shared.parts passes → Ends ActsMembers (members_in rows) shared.members members
        → Ends (ActsForeign seen) (foreign_in rows) shared.foreign foreign
        → PutsForeignBack bay_seen seen (foreign_slot.Open foreign.foreign) mid new → Closes bay_seen seen shared rows old new
    closes_all rows n new members foreign among member_ends foreign_ends back =
        let all : ShardParts D = record { parts = last; members = members; foreign = foreign } in
        let ends = ended_among (ActsPart seen) (parts_in rows) n shared.parts passes last closed among in
        let left : AreLeft seen rows shared all = record {
          parts = leaves_parts (parts_in rows) shared.parts last ends;
          members = member_ends;
          foreign = leaves_foreign seen (foreign_in rows) shared.foreign foreign foreign_ends;
        } in
        record {
          last = all;
          hosts = hosted_last;
          left = left;
          stand = λ s k. all_stand seen rows shared all left s k;
          put = put_all shared.conf all old new apart_last (hosted_last ∙ whole.hosts) (mid, puts, back);
        }
