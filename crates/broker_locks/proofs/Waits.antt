-- Glances one after the other, and the calls of a watch as glances.
use Rattle.std.proofs.Common.{◌≡◌, ◌≢◌, ◌∙◌, ◌≤◌, ◌<◌, ◌+◌, ◌⊎◌, ◌↔◌, ℕ, zero, suc, List, Option, Some, None, Bool, true, false, All, IfSome, IsTrue, [], ◌∷◌, ◌++◌, Ok, inl, inr, refl, sym, ap, subst, arith, append_assoc}
use Rattle.std.proofs.lemmas.List.Elements.{All-append, All-cons, All-nil, All-weaker, Contains-append_left, Contains-append_right}
use Rattle.std.specs.List.{AllZip, Contains, slice_index_or}
use Rattle.std.specs.Io.KnownBytes.{IsAtEnd}
use Rattle.edge_io.specs.Serving.{TellsMore}
use Rattle.edge_io.specs.Views.{DiskView}
use Rattle.edge_io.proofs.Telling.{tells_none, tells_then}
use Rattle.futures.specs.declared.task.Poll.TheVariants.{Ready as IsReady}
use Rattle.share_model.specs.declared.offer.Offer.{Offer}
use Rattle.share_model.specs.declared.offer.Offer.TheVariants.{Nothing}
use Rattle.share_calls.specs.declared.wish.WaitWish.{WaitWish}
use Rattle.fetch_wait.specs.Calls.{AreCalls}
use Rattle.fetch_wait.specs.Polls.{ArePoll, AreLooks, Polls, nothing_at, registered_all}
use Rattle.fetch_wait.specs.declared.wait.WaitEnd.{WaitEnd}
use Rattle.fetch_wait.specs.declared.wait.WaitEnd.TheVariants.{Ready, TimedOut, NoMemory}
use Rattle.fetch_wait.specs.declared.watch.WatchCall.{WatchCall}
use Rattle.fetch_wait.specs.declared.watch.WatchCall.TheVariants.{Registers, RegistersTimer, Refuses, RefusesTimer, Looks, Asks}
use Rattle.shard_lock.specs.Passes.{IsOf, PassParts, StaysSame}
use Rattle.broker_shards.specs.Acts.{ActsPart}
use Rattle.broker_shards.specs.Hosts.{Host}
use Rattle.broker_shards.specs.declared.part.PartEvent.{PartEvent}
use Rattle.broker_shards.specs.declared.part.PartTold.TheVariants as part_told
use Rattle.broker_locks.specs.Acting.{AreOf, StayOf}
use Rattle.broker_locks.specs.Looking.{LookerParts, LooksBy, SleepEnds, Sleeps, looker_acts}
use Rattle.broker_locks.specs.Shared.{PartAnswer, PassesParts, SharedParts}
use Rattle.broker_locks.specs.Waiting.{EndsWith, Glance, GlanceThrough, Glanced, Glances, HasFound, HasLeft, HasLooked, HasPassed, IsOn, IsOver, LooksAt, LooksThrough, StopsWaiting, WaitsFor, WaitsLong, asked_in, looked_by, peer_from}
use Rattle.broker_locks.specs.Waiting.Glance.{asks, looks}
use Rattle.broker_locks.proofs.Places.{place_stay, stays_same, stays_then, zip_same, zip_then, one_stays}

-- ---- lists of glances

pub asked_append : (xs ys : List Glance) → asked_in (xs ++ ys) ≡ asked_in xs ++ asked_in ys
asked_append [] ys = refl
asked_append (looks shard offer ∷ xs) ys = asked_append xs ys
asked_append (asks now ∷ xs) ys = ap (λ (l : List ℕ). now ∷ l) (asked_append xs ys)

pub found_behind : (xs ys : List Glance) → HasFound ys → HasFound (xs ++ ys)
found_behind xs ys f =
    (xs ++ f.0, f.1, f.2, ap (λ (l : List Glance). xs ++ l) f.3 ∙ sym (append_assoc xs f.0 (looks f.1 f.2 ∷ [])), f.4)

module _ {D : Type 0} (seen : D → DiskView) (shared : SharedParts D) (group : List ℕ) where
  abbrev Parts : Type 0
  Parts = List (PassParts (Host D) PartEvent PartAnswer)

  pub through_then : (xs ys : List Glance) (a b c : Parts) → GlanceThrough seen shared group xs a b → GlanceThrough seen shared group ys b c
      → GlanceThrough seen shared group (xs ++ ys) a c
  through_then [] ys a b c p q = subst (λ (x : Parts). GlanceThrough seen shared group ys x c) p q
  through_then (looks shard offer ∷ xs) ys a b c p q = (p.0, p.1, through_then xs ys p.0 b c p.2 q)
  through_then (asks now ∷ xs) ys a b c p q = through_then xs ys a b c p q

  pub look_stay : (shard : ℕ) (offer : Offer) (a b : Parts) → AllZip IsOf shared.parts a → LooksAt seen shared group shard offer a b
      → AllZip IsOf shared.parts b × AllZip StaysSame a b
  look_stay shard offer a b of (inl act) = place_stay (ActsPart seen) shared.parts shard (looked_by group) (Ok (part_told.Offer offer)) a b of act
  look_stay shard offer a b of (inr none) = (
    subst (λ (x : Parts). AllZip IsOf shared.parts x) (sym none.2) of,
    subst (λ (x : Parts). AllZip StaysSame a x) (sym none.2) (zip_same StaysSame stays_same a),
  )

  pub through_stay : (xs : List Glance) (a b : Parts) → AllZip IsOf shared.parts a → GlanceThrough seen shared group xs a b
      → AllZip IsOf shared.parts b × AllZip StaysSame a b
  through_stay [] a b of p = (
    subst (λ (x : Parts). AllZip IsOf shared.parts x) (sym p) of,
    subst (λ (x : Parts). AllZip StaysSame a x) (sym p) (zip_same StaysSame stays_same a),
  )
  through_stay (looks shard offer ∷ xs) a b of p =
      let one = look_stay shard offer a p.0 of p.1 in
      let more = through_stay xs p.0 b one.0 p.2 in
      (more.0, zip_then StaysSame stays_then a p.0 b one.1 more.1)
  through_stay (asks now ∷ xs) a b of p = through_stay xs a b of p

  pub glances_then : (xs ys : List Glance) (a b c : PassesParts D) → Glances seen shared group xs a b → Glances seen shared group ys b c
      → Glances seen shared group (xs ++ ys) a c
  glances_then xs ys a b c p q = record {
    parts = through_then xs ys a.parts b.parts c.parts p.parts q.parts;
    members = q.members ∙ p.members;
    foreign = q.foreign ∙ p.foreign;
  }

  pub glances_stay : (xs : List Glance) (a b : PassesParts D) → AreOf shared a → Glances seen shared group xs a b → StayOf shared a b
  glances_stay xs a b of g =
      let p = through_stay xs a.parts b.parts of.parts g.parts in
      record {
        of = record {
          parts = p.0;
          members = subst (λ x. IsOf shared.members x) (sym g.members) of.members;
          foreign = subst (λ x. IsOf shared.foreign x) (sym g.foreign) of.foreign;
        };
        same = record { parts = p.1; members = one_stays a.members b.members g.members; foreign = one_stays a.foreign b.foreign g.foreign };
      }

module _ {D : Type 0} (seen : D → DiskView) (shared : SharedParts D) (wish : WaitWish) where
  pub glanced_then : (xs ys : List Glance) (a b c : PassesParts D) (s t u : Option (List ℕ)) → Glanced seen shared wish xs a b s t
      → Glanced seen shared wish ys b c t u → Glanced seen shared wish (xs ++ ys) a c s u
  glanced_then xs ys a b c s t u p q = record {
    on = All-append (IsOn wish.shards) xs ys p.on q.on;
    does = glances_then seen shared wish.group xs ys a b c p.does q.does;
    asked = subst (TellsMore s u) (sym (asked_append xs ys)) (tells_then s t u (asked_in xs) (asked_in ys) p.asked q.asked);
  }

-- ---- calls of a watch

module _ {W C : Type 0} (acts : W → C → W → Type 0) where
  -- the last of some calls
  pub last_of : (xs : List C) (x : C) (a b : W) → AreCalls acts (xs ++ x ∷ []) a b → (m : W) × AreCalls acts xs a m × acts m x b
  last_of [] x a b h = (a, refl, subst (λ w. acts a x w) (sym h.2) h.1)
  last_of (y ∷ xs) x a b h = let r = last_of xs x h.0 b h.2 in (r.0, (h.0, h.1, r.1), r.2)

module _ {D C : Type 0} (seen : D → DiskView) (told : C → Option (List ℕ)) (shared : SharedParts D) (wish : WaitWish) where
  abbrev pub Look : Type 0
  Look = LookerParts D C

  abbrev Acts : Look → WatchCall → Look → Type 0
  Acts = looker_acts seen told

  -- it is of these locks and this wish
  abbrev pub IsAt : Look → Type 0
  IsAt a = (a.shared ≡ shared) × (a.wish ≡ wish)

  -- the calls between, as glances
  pub record Seen (a b : Look) : Type 0 where
    pub glances : List Glance
    pub at : IsAt b
    pub on : All (IsOn wish.shards) glances
    pub through : GlanceThrough seen shared wish.group glances a.parts b.parts
    pub asked : TellsMore (told a.clock) (told b.clock) (asked_in glances)

  abbrev pub seen_none : (a b : Look) → IsAt a → IsAt b → b.parts ≡ a.parts → b.clock ≡ a.clock → Seen a b
  seen_none a b at is parts clock = record {
    glances = [];
    at = is;
    on = All-nil (IsOn wish.shards);
    through = parts;
    asked = subst (λ (c : C). TellsMore (told a.clock) (told c) []) (sym clock) (tells_none (told a.clock));
  }

  abbrev pub seen_then : (a b c : Look) → Seen a b → Seen b c → Seen a c
  seen_then a b c p q = record {
    glances = p.glances ++ q.glances;
    at = q.at;
    on = All-append (IsOn wish.shards) p.glances q.glances p.on q.on;
    through = through_then seen shared wish.group p.glances q.glances a.parts b.parts c.parts p.through q.through;
    asked = subst (TellsMore (told a.clock) (told c.clock)) (sym (asked_append p.glances q.glances))
        (tells_then (told a.clock) (told b.clock) (told c.clock) (asked_in p.glances) (asked_in q.glances) p.asked q.asked);
  }

  abbrev MoveOn : Look → Look → Type 0
  MoveOn a b = (b.shared ≡ a.shared) × (b.wish ≡ a.wish)

  at_still : (a b : Look) → IsAt a → MoveOn a b → IsAt b
  at_still a b at same = (same.0 ∙ at.0, same.1 ∙ at.1)

  -- a look that tells this
  look_seen : (offer : Offer) (a b : Look) → IsAt a → IsAt b → b.clock ≡ a.clock → LooksBy seen shared wish.group wish.shards offer a.parts b.parts
      → (s : Seen a b) × (offer ≢ Nothing → HasFound s.glances)
  look_seen offer a b at is clock (inl (shard, there, l)) = (
    record {
      glances = looks shard offer ∷ [];
      at = is;
      on = All-cons (IsOn wish.shards) (looks shard offer) [] there (All-nil (IsOn wish.shards));
      through = (b.parts, l, refl);
      asked = subst (λ (c : C). TellsMore (told a.clock) (told c) []) (sym clock) (tells_none (told a.clock));
    },
    λ some. ([], shard, offer, refl, some),
  )
  look_seen offer a b at is clock (inr none) = (seen_none a b at is none.1 clock, λ some. absurd (some none.0))

  looks_by : (offer : Offer) (a b : Look) → IsAt a → LooksBy seen a.shared a.wish.group a.wish.shards offer a.parts b.parts
      → LooksBy seen shared wish.group wish.shards offer a.parts b.parts
  looks_by offer a b at l = subst (λ (w : WaitWish). LooksBy seen shared w.group w.shards offer a.parts b.parts) at.1
      (subst (λ (s : SharedParts D). LooksBy seen s a.wish.group a.wish.shards offer a.parts b.parts) at.0 l)

  abbrev ask_seen : (now : ℕ) (a b : Look) → IsAt a → Acts a (Asks now) b → Seen a b
  ask_seen now a b at act = record {
    glances = asks now ∷ [];
    at = at_still a b at act.0;
    on = All-cons (IsOn wish.shards) (asks now) [] tt (All-nil (IsOn wish.shards));
    through = act.1;
    asked = act.2;
  }

  one_seen : (call : WatchCall) (a b : Look) → IsAt a → Acts a call b → Seen a b
  one_seen (Registers place) a b at act = seen_none a b at (at_still a b at act.0) act.1 act.2
  one_seen (RegistersTimer deadline) a b at act = seen_none a b at (at_still a b at act.0) act.1 act.2
  one_seen (Refuses place) a b at act = seen_none a b at (at_still a b at act.0) act.1 act.2
  one_seen (RefusesTimer deadline) a b at act = seen_none a b at (at_still a b at act.0) act.1 act.2
  one_seen (Looks place offer) a b at act = (look_seen offer a b at (at_still a b at act.0) act.1 (looks_by offer a b at act.2)).0
  one_seen (Asks now) a b at act = ask_seen now a b at act

  pub calls_seen : (calls : List WatchCall) (a b : Look) → IsAt a → AreCalls Acts calls a b → Seen a b
  calls_seen [] a b at is = seen_none a b at (subst IsAt (sym is) at) (ap (λ (l : Look). l.parts) is) (ap (λ (l : Look). l.clock) is)
  calls_seen (call ∷ calls) a b at h =
      let one = one_seen call a h.0 at h.1 in
      seen_then a h.0 b one (calls_seen calls h.0 b one.at h.2)

  -- what ended a sleep, as glances
  sleep_ends : (left : Option (List ℕ)) (since deadline : ℕ) (end : Option WaitEnd) (calls : List WatchCall) (a b : Look) → IsAt a
      → since + wish.wait_ms ≤ deadline → SleepEnds seen told left since deadline end calls → AreCalls Acts calls a b
      → (s : Seen a b) × EndsWith seen shared wish left since end s.glances
  sleep_ends left since deadline (Some (Ready place offer)) calls a b at from h does =
      let split = last_of Acts h.0 (Looks place offer) a b (subst (λ (l : List WatchCall). AreCalls Acts l a b) h.1 does) in
      let before = calls_seen h.0 a split.0 at split.1 in
      let last = look_seen offer split.0 b before.at (at_still split.0 b before.at split.2.0) split.2.1 (looks_by offer split.0 b before.at split.2.2) in
      (seen_then a split.0 b before last.0, found_behind before.glances last.0.glances (last.1 h.2))
  sleep_ends left since deadline (Some (TimedOut now)) calls a b at from h does =
      let split = last_of Acts h.0 (Asks now) a b (subst (λ (l : List WatchCall). AreCalls Acts l a b) h.1 does) in
      let before = calls_seen h.0 a split.0 at split.1 in (
        seen_then a split.0 b before (ask_seen now split.0 b before.at split.2),
        (omega (arith, from, h.2), (asked_in before.glances, asked_append before.glances (asks now ∷ []))),
      )
  sleep_ends left since deadline (Some NoMemory) calls a b at from h does = (calls_seen calls a b at does, tt)
  sleep_ends left since deadline None calls a b at from h does =
      let split = last_of Acts h.0 (Asks h.1) a b (subst (λ (l : List WatchCall). AreCalls Acts l a b) h.2 does) in
      let before = calls_seen h.0 a split.0 at split.1 in (
        seen_then a split.0 b before (ask_seen h.1 split.0 b before.at split.2),
        (h.1, h.3, (asked_in before.glances, asked_append before.glances (asks h.1 ∷ []))),
      )

  pub slept : (left : Option (List ℕ)) (since deadline : ℕ) (end : Option WaitEnd) (a b : Look) (p q : PassesParts D)
      → IsAt a → since + wish.wait_ms ≤ deadline → a.parts ≡ p.parts → b.parts ≡ q.parts → q.members ≡ p.members → q.foreign ≡ p.foreign
      → Sleeps seen told left since deadline end a b
      → WaitsLong seen shared wish left since end p q (told a.clock) (told b.clock)
  slept left since deadline end a b p q at is from to members foreign w =
      let s = sleep_ends left since deadline end w.calls a b at is w.ends w.does in
      record {
        glances = s.0.glances;
        does = record {
          on = s.0.on;
          does = record {
            parts = subst (λ (x : List (PassParts (Host D) PartEvent PartAnswer)). GlanceThrough seen shared wish.group s.0.glances x q.parts) from
                (subst (λ (x : List (PassParts (Host D) PartEvent PartAnswer)). GlanceThrough seen shared wish.group s.0.glances a.parts x) to s.0.through);
            members = members;
            foreign = foreign;
          };
          asked = s.0.asked;
        };
        ends = s.1;
      }

-- ---- a sleep

pub calls_then : {W C : Type 0} (acts : W → C → W → Type 0) (xs ys : List C) (a b c : W) → AreCalls acts xs a b → AreCalls acts ys b c
    → AreCalls acts (xs ++ ys) a c
calls_then acts [] ys a b c p q = subst (λ w. AreCalls acts ys w c) p q
calls_then acts (x ∷ xs) ys a b c p q = (p.0, p.1, calls_then acts xs ys p.0 b c p.2 q)

-- the last of the calls of a poll, behind others
behind : (xs ys zs : List WatchCall) (x : WatchCall) → xs ++ (ys ++ (zs ++ x ∷ [])) ≡ (xs ++ (ys ++ zs)) ++ x ∷ []
behind xs ys zs x = sym (append_assoc xs (ys ++ zs) (x ∷ []) ∙ ap (λ (l : List WatchCall). xs ++ l) (append_assoc ys zs (x ∷ [])))

module _ {D C : Type 0} (seen : D → DiskView) (told : C → Option (List ℕ)) (left : Option (List ℕ)) (since places deadline : ℕ) where
  looks_end : (end : WaitEnd) (before front looked : List WatchCall) → AreLooks places deadline looked (IsReady end)
      → SleepEnds {D = D} {C = C} seen told left since deadline (Some end) (before ++ (front ++ looked))
  looks_end (Ready place offer) before front looked h =
      (before ++ (front ++ nothing_at place), ap (λ (l : List WatchCall). before ++ (front ++ l)) h.2 ∙ behind before front (nothing_at place) (Looks place offer), h.1)
  looks_end (TimedOut now) before front looked h =
      (before ++ (front ++ nothing_at places), ap (λ (l : List WatchCall). before ++ (front ++ l)) h.1 ∙ behind before front (nothing_at places) (Asks now), h.0)
  looks_end NoMemory before front looked h = absurd h

  -- a poll that ends it
  poll_ends : (end : WaitEnd) (before calls : List WatchCall) → ArePoll places deadline calls (IsReady end)
      → SleepEnds {D = D} {C = C} seen told left since deadline (Some end) (before ++ calls)
  poll_ends (Ready place offer) before calls (ArePoll.Refused is refused) = absurd (let bad : ◌≡◌ {A = WaitEnd} (Ready place offer) NoMemory = cc in cc)
  poll_ends (TimedOut now) before calls (ArePoll.Refused is refused) = absurd (let bad : ◌≡◌ {A = WaitEnd} (TimedOut now) NoMemory = cc in cc)
  poll_ends NoMemory before calls (ArePoll.Refused is refused) = tt
  poll_ends end before calls (ArePoll.Looked looked fits is) =
      subst (λ (l : List WatchCall). SleepEnds {D = D} {C = C} seen told left since deadline (Some end) (before ++ l)) (sym is)
      (looks_end end before (registered_all places deadline) looked fits)

  pub slept_to_poll : (tells : LookerParts D C → Option (List WatchCall)) (end : WaitEnd) (before : List WatchCall) (a b c : LookerParts D C)
      → AreCalls (looker_acts seen told) before a b → Polls (looker_acts seen told) tells places deadline b (IsReady end) c
      → Sleeps seen told left since deadline (Some end) a c
  slept_to_poll tells end before a b c p q = record {
    calls = before ++ q.calls;
    does = calls_then (looker_acts seen told) before q.calls a b c p q.does.acts_so;
    ends = poll_ends end before q.calls q.poll;
  }

  pub slept_to_peer : (now : ℕ) (before : List WatchCall) (a b c : LookerParts D C) → AreCalls (looker_acts seen told) before a b
      → looker_acts seen told b (Asks now) c → HasLeft left since now true → Sleeps seen told left since deadline None a c
  slept_to_peer now before a b c p q is = record {
    calls = before ++ Asks now ∷ [];
    does = calls_then (looker_acts seen told) before (Asks now ∷ []) a b c p (c, q, refl);
    ends = (before, now, refl, is);
  }

-- ---- looks around

looked_behind : (xs ys : List Glance) → (zs : List ℕ) → All (HasLooked xs) zs → All (HasLooked (xs ++ ys)) zs
looked_behind xs ys zs all = All-weaker (HasLooked xs) (HasLooked (xs ++ ys)) (λ x h. (h.0, Contains-append_left xs ys (looks x h.0) h.1)) zs all

looked_before : (xs ys : List Glance) → (zs : List ℕ) → All (HasLooked ys) zs → All (HasLooked (xs ++ ys)) zs
looked_before xs ys zs all = All-weaker (HasLooked ys) (HasLooked (xs ++ ys)) (λ x h. (h.0, Contains-append_right xs ys (looks x h.0) h.1)) zs all

module _ {D : Type 0} (seen : D → DiskView) (shared : SharedParts D) (group : List ℕ) where
  -- a look at one partition
  pub looked_at : (shard : ℕ) (offer : Offer) (a b : PassesParts D) → LooksAt seen shared group shard offer a.parts b.parts
      → b.members ≡ a.members → b.foreign ≡ a.foreign → LooksThrough seen shared group (shard ∷ []) offer a b
  looked_at shard offer a b l members foreign = record {
    glances = looks shard offer ∷ [];
    on = All-cons (IsOn (shard ∷ [])) (looks shard offer) [] (0, omega (arith), refl) (All-nil (IsOn (shard ∷ [])));
    does = record { parts = (b.parts, l, refl); members = members; foreign = foreign };
    unasked = refl;
    finds = λ some. ([], shard, offer, refl, some);
    all = λ none. All-cons (HasLooked (looks shard offer ∷ [])) shard [] (offer, (0, omega (arith), refl)) (All-nil (HasLooked (looks shard offer ∷ [])));
  }

  pub looks_stay : (shards : List ℕ) (offer : Offer) (a b : PassesParts D) → AreOf shared a → LooksThrough seen shared group shards offer a b → StayOf shared a b
  looks_stay shards offer a b of l = glances_stay seen shared group l.glances a b of l.does

  -- so many of the partitions were looked at, and had nothing
  pub record LookedSoFar (shards looked : List ℕ) (old new : PassesParts D) : Type 0 where
    pub glances : List Glance
    pub on : All (IsOn shards) glances
    pub does : Glances seen shared group glances old new
    pub unasked : asked_in glances ≡ []
    pub all : All (HasLooked glances) looked

  pub looked_none : (shards : List ℕ) (a : PassesParts D) → LookedSoFar shards [] a a
  looked_none shards a = record {
    glances = [];
    on = All-nil (IsOn shards);
    does = record { parts = refl; members = refl; foreign = refl };
    unasked = refl;
    all = All-nil (HasLooked []);
  }

  one_on : (shards : List ℕ) (shard : ℕ) → Contains shards shard → (glance : Glance) → IsOn (shard ∷ []) glance → IsOn shards glance
  one_on shards shard there (looks other offer) h = only h.0 h.1 h.2
    where
      only : (k : ℕ) → k < 1 → slice_index_or (shard ∷ []) k other ≡ other → Contains shards other
      only zero l e = subst (λ (x : ℕ). Contains shards x) e there
      only (suc k) l e = absurd (omega (arith, l))
  one_on shards shard there (asks now) h = tt

  module _ (shards looked : List ℕ) (shard : ℕ) (offer : Offer) (a b c : PassesParts D) (s : LookedSoFar shards looked a b)
      (l : LooksThrough seen shared group (shard ∷ []) offer b c) (there : Contains shards shard) where
    on_both : All (IsOn shards) (s.glances ++ l.glances)
    on_both = All-append (IsOn shards) s.glances l.glances s.on
        (All-weaker (IsOn (shard ∷ [])) (IsOn shards) (one_on shards shard there) l.glances l.on)

    asked_both : asked_in (s.glances ++ l.glances) ≡ []
    asked_both = asked_append s.glances l.glances ∙ ap (λ (x : List ℕ). x ++ asked_in l.glances) s.unasked ∙ l.unasked

    pub looked_more : offer ≡ Nothing → LookedSoFar shards (looked ++ shard ∷ []) a c
    looked_more none = record {
      glances = s.glances ++ l.glances;
      on = on_both;
      does = glances_then seen shared group s.glances l.glances a b c s.does l.does;
      unasked = asked_both;
      all = All-append (HasLooked (s.glances ++ l.glances)) looked (shard ∷ [])
          (looked_behind s.glances l.glances looked s.all) (looked_before s.glances l.glances (shard ∷ []) (l.all none));
    }

    pub looked_found : offer ≢ Nothing → LooksThrough seen shared group shards offer a c
    looked_found some = record {
      glances = s.glances ++ l.glances;
      on = on_both;
      does = glances_then seen shared group s.glances l.glances a b c s.does l.does;
      unasked = asked_both;
      finds = λ other. found_behind s.glances l.glances (l.finds some);
      all = λ none. absurd (some none);
    }

  pub looked_through : (shards looked : List ℕ) (a b : PassesParts D) → looked ≡ shards → LookedSoFar shards looked a b
      → LooksThrough seen shared group shards Nothing a b
  looked_through shards looked a b is s = record {
    glances = s.glances;
    on = s.on;
    does = s.does;
    unasked = s.unasked;
    finds = λ some. absurd (some refl);
    all = λ none. subst (λ (l : List ℕ). All (HasLooked s.glances) l) is s.all;
  }

-- ---- a whole wait

pub at_end : (left : Option (List ℕ)) (result : Bool) → result ≡ true → IfSome left (λ bytes. IsTrue result ↔ (bytes ≡ [])) → IsAtEnd left
at_end None result is h = tt
at_end (Some bytes) result is h = h.0 is

module _ {D : Type 0} (seen : D → DiskView) (shared : SharedParts D) (wish : WaitWish) where
  pub found_at_once : (offer : Offer) (left : Option (List ℕ)) (a b : PassesParts D) (t : Option (List ℕ)) → offer ≢ Nothing
      → LooksThrough seen shared wish.group wish.shards offer a b → WaitsFor seen shared wish left a b t t
  found_at_once offer left a b t some l = record {
    waited = record { wish = wish; glances = l.glances; gone = false };
    wished = refl;
    wait = record { on = l.on; ends = inl (l.finds some) };
    does = record { on = l.on; does = l.does; asked = subst (TellsMore t t) (sym l.unasked) (tells_none t) };
    gone = λ is. absurd (let bad : false ≡ true = is in cc);
  }

  -- the looks had nothing
  abbrev pub looked_in_vain : (shards : List ℕ) (offer : Offer) (a b : PassesParts D) → shards ≡ wish.shards → offer ≡ Nothing
      → LooksThrough seen shared wish.group shards offer a b → LooksThrough seen shared wish.group wish.shards Nothing a b
  looked_in_vain shards offer a b are none l =
      subst (λ (x : List ℕ). LooksThrough seen shared wish.group x Nothing a b) are (subst (λ (o : Offer). LooksThrough seen shared wish.group shards o a b) none l)

  module _ (left : Option (List ℕ)) (now : ℕ) (a b c : PassesParts D) (t u v : Option (List ℕ))
      (l : LooksThrough seen shared wish.group wish.shards Nothing a b) (tells : TellsMore t u (now ∷ [])) where
    -- the looks, the clock, and what comes behind
    abbrev all_of : List Glance → List Glance
    all_of xs = l.glances ++ asks now ∷ xs

    asked_of_all : (xs : List Glance) → asked_in (all_of xs) ≡ now ∷ asked_in xs
    asked_of_all xs = asked_append l.glances (asks now ∷ xs) ∙ ap (λ (x : List ℕ). x ++ now ∷ asked_in xs) l.unasked

    does_all : (xs : List Glance) → Glanced seen shared wish xs b c u v → Glanced seen shared wish (all_of xs) a c t v
    does_all xs g = record {
      on = All-append (IsOn wish.shards) l.glances (asks now ∷ xs) l.on (All-cons (IsOn wish.shards) (asks now) xs tt g.on);
      does = glances_then seen shared wish.group l.glances (asks now ∷ xs) a b c l.does
          (record { parts = g.does.parts; members = g.does.members; foreign = g.does.foreign });
      asked = subst (TellsMore t v) (sym (asked_of_all xs)) (tells_then t u v (now ∷ []) (asked_in xs) tells g.asked);
    }

    all_looked : (xs : List Glance) → All (HasLooked (all_of xs)) wish.shards
    all_looked xs = looked_behind l.glances (asks now ∷ xs) wish.shards (l.all refl)

    -- the clock answered now first, and this last
    passed : (xs : List Glance) (wait at : ℕ) (before : List ℕ) → asked_in xs ≡ before ++ at ∷ [] → now + wait ≤ at → HasPassed wait (asked_in (all_of xs))
    passed xs wait at before is le = ([], before, now, at, asked_of_all xs ∙ ap (λ (x : List ℕ). now ∷ x) is, le)

    ended : (gone : Bool) (xs : List Glance) → Glanced seen shared wish xs b c u v
        → HasFound (all_of xs) ⊎ IsOver (record { wish = wish; glances = all_of xs; gone = gone })
        → (gone ≡ true → IsAtEnd left) → WaitsFor seen shared wish left a c t v
    ended gone xs g over is_gone = record {
      waited = record { wish = wish; glances = all_of xs; gone = gone };
      wished = refl;
      wait = record { on = (does_all xs g).on; ends = ends_so over };
      does = does_all xs g;
      gone = is_gone;
    }
      where
        ends_so : HasFound (all_of xs) ⊎ IsOver (record { wish = wish; glances = all_of xs; gone = gone })
            → HasFound (all_of xs) ⊎ (All (HasLooked (all_of xs)) wish.shards × IsOver (record { wish = wish; glances = all_of xs; gone = gone }))
        ends_so (inl found) = inl found
        ends_so (inr over) = inr (all_looked xs, over)

    pub waited_for : (end : Option WaitEnd) → end ≢ Some NoMemory → WaitsLong seen shared wish left now end b c u v → WaitsFor seen shared wish left a c t v
    waited_for (Some (Ready place offer)) ok w =
        ended false w.glances w.does (inl (found_behind l.glances (asks now ∷ w.glances) (found_behind (asks now ∷ []) w.glances w.ends)))
        (λ is. absurd (let bad : false ≡ true = is in cc))
    waited_for (Some (TimedOut at)) ok w =
        ended false w.glances w.does (inr (inl (passed w.glances wish.wait_ms at w.ends.1.0 w.ends.1.1 w.ends.0))) (λ is. absurd (let bad : false ≡ true = is in cc))
    waited_for (Some NoMemory) ok w = absurd (ok refl)
    waited_for None ok w =
        ended true w.glances w.does (inr (inr (refl, passed w.glances peer_from w.ends.0 w.ends.2.0 w.ends.2.1 (w.ends.1 refl).0))) (λ is. (w.ends.1 refl).1)

    pub stopped : (end : Option WaitEnd) → WaitsLong seen shared wish left now end b c u v → StopsWaiting seen shared wish a c t v
    stopped end w = record { glances = all_of w.glances; does = does_all w.glances w.does }

  -- passes that were waited through are of the same locks
  pub long_stay : (left : Option (List ℕ)) (since : ℕ) (end : Option WaitEnd) (a b : PassesParts D) (t u : Option (List ℕ)) → AreOf shared a
      → WaitsLong seen shared wish left since end a b t u → StayOf shared a b
  long_stay left since end a b t u of w = glances_stay seen shared wish.group w.glances a b of w.does.does
