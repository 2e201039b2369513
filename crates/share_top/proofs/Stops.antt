-- A replay as it ended, with its last line.
use Rattle.std.proofs.Common.{◌≡◌, ◌≢◌, ◌⊎◌, inl, inr, refl, sym, subst, Bool, ℕ, List, [], ◌++◌, Ok, Err, append-nil}
use Rattle.std.specs.Prelude.{Result, OnOk}
use Rattle.std.specs.Io.KnownBytes.{Appends, Keeps}
use Rattle.std.proofs.KnownBytes.{Appends-trans}
use Rattle.edge_io.specs.Causes.{Rose}
use Rattle.edge_io.specs.Streams.{AppendsFront}
use Rattle.edge_io.specs.Views.{DiskView}
use Rattle.topic_conf.specs.Configs.{ConfigParts}
use Rattle.session_script.specs.declared.event.Event.{Event}
use Rattle.session_script.specs.declared.event.Outcome.{Outcome}
use Rattle.session_script.specs.declared.writer.LineFault.{LineFault}
use Rattle.session_script.specs.declared.writer.LineFault.TheVariants as line_fault
use Rattle.session_script.specs.Output.{malformed_line}
use Rattle.session_script.specs.Writing.{WritesText}
use Rattle.broker_hosts.specs.declared.fault.CoreOpen.{CoreOpen}
use Rattle.broker_hosts.specs.declared.fault.CoreOpen.TheVariants as open_fault
use Rattle.broker_hosts.specs.Hosts.{LeftDisks}
use Rattle.broker_core.specs.Cores.{CoreParts}
use Rattle.share_top.specs.declared.replay.Stopped.{Stopped}
use Rattle.share_top.specs.declared.replay.Stopped.TheVariants as stopped
use Rattle.share_top.specs.declared.status.Status.{Status}
use Rattle.share_top.specs.declared.status.Status.TheVariants.{Done, Usage, Malformed, ReadFault, WriteFault, Damaged, Device, NoMemory, Listener, Spawner, Lost, Refused, Strange}
use Rattle.share_top.specs.Changes.{InputChange, OutputChange}
use Rattle.share_top.specs.Sessions.{Ending, Leaves, MayLeaveMore, Writes, WritesAll, WritesAllFront, WritesFront, WritesFrontOf, WritesThen, WritesThenFront}
use Rattle.share_top.specs.Statuses.{ComesNext, IsCut, IsDone, IsPlayed, IsRefusedScript}
use Rattle.share_top.specs.Going.{FromCore, HasBegun, IsRefusal, IsStopped, NeverFrom, TellsEnd, TellsLine}
use Rattle.session_script.specs.Telling.{Held, Tells, TellsFront, TellsMore, TellsPart, TellsSome, TellsSomeOf, TellsStill, is_summary, told_in_all, told_so_far}
use Rattle.session_script.specs.declared.telling.Telling.{Telling}
use Rattle.session_script.proofs.Texts.{front_behind, front_more, keeps_appends}
use Rattle.session_script.proofs.Tellings.{part_of}

-- ---- what an event told, of a broker with the same configuration

module _ (conf now : ConfigParts) (same : now ≡ conf) (old new : Telling) (start a b : Held) (xs ys : List Outcome) where
  before : Tells conf.topics old start a xs → Tells now.topics old start a xs
  before t = subst (λ (k : ConfigParts). Tells k.topics old start a xs) (sym same) t

  pub told_on : Tells conf.topics old start a xs → TellsMore now.topics old new a b ys → Tells conf.topics new start b (xs ++ ys)
  told_on t u = subst (λ (k : ConfigParts). Tells k.topics new start b (xs ++ ys)) same (u start xs (before t))

  pub some_on : Tells conf.topics old start a xs → TellsSome now.topics old new a b ys → TellsPart conf.topics new start b (xs ++ ys)
  some_on t u = subst (λ (k : ConfigParts). TellsPart k.topics new start b (xs ++ ys)) same (u start xs (before t))

  pub front_on : is_summary new ≡ is_summary old → Tells conf.topics old start a xs → TellsSomeOf now.topics old a b ys
      → TellsFront conf.topics (is_summary new) start b (xs ++ ys)
  front_on way t u = subst (λ (s : Bool). TellsFront conf.topics s start b (xs ++ ys)) (sym way)
      (subst (λ (k : ConfigParts). TellsFront k.topics (is_summary old) start b (xs ++ ys)) same (u start xs (before t)))

  pub still_on : Tells conf.topics old start a xs → TellsStill now.topics old new a b → TellsPart conf.topics new start b xs
  still_on t u = part_of conf.topics new start b xs (subst (λ (k : ConfigParts). Tells k.topics new start b xs) same (u start xs (before t)))

-- ---- a line behind all

pub tells_line : (result : Result (Unit {0}) LineFault) (line : List ℕ) (ok status : Status) (output : OutputChange)
    → WritesText output.held output.held_after output.faults output.faults_after line result → OnOk result (status ≡ ok)
    → (result ≡ Err line_fault.Write → status ≡ WriteFault) → (result ≡ Err line_fault.NoMemory → status ≡ NoMemory) → TellsLine line ok output status
tells_line (Ok x) line ok status output w is write memory = inl (is, w.whole)
tells_line (Err line_fault.Write) line ok status output w is write memory = inr (inl (write refl, w.cause refl, w.front refl))
tells_line (Err line_fault.NoMemory) line ok status output w is write memory = inr (inr (memory refl, w.nothing refl))

-- ---- sessions of which another thing is told

pub retold_core : {D : Type 0} (seen : D → DiskView) (core : CoreParts D) (left : LeftDisks D) (events : List Event) (S T : List Outcome → Type 0) (Ends : Ending)
    → ((xs : List Outcome) → S xs → T xs) → FromCore seen core left events S Ends → FromCore seen core left events T Ends
retold_core seen core left events S T Ends f from m k = let r = from m k in
    record { steps = r.steps; last = r.last; run = r.run; events_are = r.events_are; tells = f _ r.tells; ends = r.ends }

-- ---- texts one behind the other

module _ (a b c : Held) where
  pub line_then : (text line all : List ℕ) → Appends a b text → Appends b c line → text ++ line ≡ all → Appends a c all
  line_then text line all p q is = subst (λ (l : List ℕ). Appends a c l) is (Appends-trans a b c text line p q)

  pub front_then : (text line all : List ℕ) → Appends a b text → (rest : List ℕ) × AppendsFront b c line rest → text ++ line ≡ all
      → (rest : List ℕ) × AppendsFront a c all rest
  front_then text line all p q is = (q.0, subst (λ (l : List ℕ). AppendsFront a c l q.0) is (front_behind a b c text line q.0 p q.1))

  pub kept_then : (text : List ℕ) → (rest : List ℕ) × AppendsFront a b text rest → Keeps b c → (rest : List ℕ) × AppendsFront a c text rest
  kept_then text p k = (
    p.0,
    record {
      front = p.1.front;
      parts = p.1.parts;
      grown = subst (λ (l : List ℕ). Appends a c l) (append-nil p.1.front) (Appends-trans a b c p.1.front [] p.1.grown (keeps_appends b c k));
    },
  )

  pub same_then : (text : List ℕ) → Appends a b text → Keeps b c → Appends a c text
  same_then text p k = subst (λ (l : List ℕ). Appends a c l) (append-nil text) (Appends-trans a b c text [] p (keeps_appends b c k))

-- a front of a text is one of the text with a line behind it
pub front_of_more : (a b : Held) (text line : List ℕ) → (rest : List ℕ) × AppendsFront a b text rest → (rest : List ℕ) × AppendsFront a b (text ++ line) rest
front_of_more a b text line f = (f.0 ++ line, front_more a b text line f.0 f.1)

-- ---- the end

module _ {D : Type 0} (seen : D → DiskView) (core : CoreParts D) (left : LeftDisks D) (summary : Bool) (input : InputChange) (all : OutputChange)
    (Told Part Front : List Outcome → Type 0) (Rises Fails : Type 0) where
  abbrev Session : List Event → (List Outcome → Type 0) → Ending → Type 0
  Session events Tells Ends = FromCore seen core left events Tells Ends

  abbrev conf : ConfigParts
  conf = core.conf

  abbrev Played : Status → Type 0
  Played status = IsPlayed conf summary input all Session (NeverFrom seen core) Rises status

  abbrev Begun : (List Outcome → Type 0) → Type 0
  Begun Tells = HasBegun conf input Session Tells

  retold : (S T : List Outcome → Type 0) → ((xs : List Outcome) → S xs → T xs) → (events : List Event) (Ends : Ending) → Session events S Ends → Session events T Ends
  retold S T f events Ends from = retold_core seen core left events S T Ends f from

  pub begun : (S T : List Outcome → Type 0) → ((xs : List Outcome) → S xs → T xs) → Begun S → Begun T
  begun S T f b = record { events = b.events; begins = b.begins; session = retold S T f b.events (MayLeaveMore conf (ComesNext input b.events)) b.session }

  done : (S T : List Outcome → Type 0) → ((xs : List Outcome) → S xs → T xs) → IsDone input (λ events. Session events S (Leaves conf))
      → IsDone input (λ events. Session events T (Leaves conf))
  done S T f d = record {
    events = d.events;
    script = d.script;
    whole = d.whole;
    ended = d.ended;
    session = retold S T f d.events (Leaves conf) d.session;
  }

  refused : (place : ℕ) (S : List Outcome → Type 0) (T : ℕ → List Outcome → Type 0) → ((xs : List Outcome) → S xs → T place xs)
      → IsRefusedScript input (λ events fault. (fault ≡ place) × Session events S (Leaves conf))
      → IsRefusedScript input (λ events fault. Session events (T fault) (Leaves conf))
  refused place S T f r = record {
    events = r.events;
    fault = r.fault;
    malformed = r.malformed;
    no_script = r.no_script;
    session = subst (λ (n : ℕ). Session r.events (T n) (Leaves conf)) (sym r.session.0) (retold S (T place) f r.events (Leaves conf) r.session.1);
  }

  cut : (S T : List Outcome → Type 0) → ((xs : List Outcome) → S xs → T xs) → IsCut input (λ events. Session events S (Leaves conf))
      → IsCut input (λ events. Session events T (Leaves conf))
  cut S T f c = record {
    given = c.given;
    events = c.events;
    consumed = c.consumed;
    whole = c.whole;
    session = retold S T f c.events (Leaves conf) c.session;
  }

  abbrev Stops : Stopped → Type 0
  Stops s = IsStopped conf input Session Told Part Front (NeverFrom seen core) Rises Fails s

  -- what was told in part when it ended
  pub begun_part : (s : Stopped) → Stops s → s ≢ stopped.Write → ((xs : List Outcome) → Told xs → Part xs) → Begun Part
  begun_part stopped.End p other f = begun Told Part f p.1
  begun_part (stopped.Malformed place) p other f = begun Told Part f p.1
  begun_part stopped.Read p other f = begun Told Part f p.2
  begun_part stopped.Write p other f = absurd (other refl)
  begun_part (stopped.Reopen fault) p other f = begun (λ xs. ⊥) Part (λ xs never. absurd never) p.3
  begun_part stopped.NoMemory p other f = p

  -- the output failed at an event, or before a read
  pub stops_write : (s : Stopped) → Stops s → s ≡ stopped.Write → Fails × Begun Front
  stops_write s p is = subst Stops is p

  -- the output failed where lines were handed on
  pub write_fault : Rose all.faults all.faults_after → Begun (WritesFront conf summary all) → Played WriteFault
  write_fault rose b = (rose, inl b)

  abbrev so_far : List Outcome → List ℕ
  so_far xs = told_so_far conf.topics summary xs

  -- what waited was handed on, so that this stands, and then the end was told
  module _ (mid : Held) (last : List ℕ) (output : OutputChange) (before : output.held ≡ mid) (behind : output.held_after ≡ all.held_after)
      (same : output.faults ≡ all.faults) (after : output.faults_after ≡ all.faults_after)
      (told : (xs : List Outcome) → Told xs → Appends all.held mid (so_far xs))
      (part : (xs : List Outcome) → Part xs → (rest : List ℕ) × AppendsFront all.held mid (so_far xs) rest)
      (whole : (xs : List Outcome) → Told xs → so_far xs ++ last ≡ told_in_all conf.topics summary xs)
      (in_part : (xs : List Outcome) → Told xs → Part xs) where
    now : (line : List ℕ) → Appends output.held output.held_after line → Appends mid all.held_after line
    now line p = subst (λ (h : Held). Appends mid h line) behind (subst (λ (h : Held). Appends h output.held_after line) before p)

    now_front : (line : List ℕ) → WritesFrontOf line output → (rest : List ℕ) × AppendsFront mid all.held_after line rest
    now_front line p = (p.0, subst (λ (h : Held). AppendsFront mid h line p.0) behind (subst (λ (h : Held). AppendsFront h output.held_after line p.0) before p.1))

    now_kept : Keeps output.held output.held_after → Keeps mid all.held_after
    now_kept p = subst (λ (h : Held). Keeps mid h) behind (subst (λ (h : Held). Keeps h output.held_after) before p)

    risen : Rose output.faults output.faults_after → Rose all.faults all.faults_after
    risen p = subst (λ (n : ℕ). Rose all.faults n) after (subst (λ (n : ℕ). Rose n output.faults_after) same p)

    -- nothing was written behind what was told in part
    stays : Keeps output.held output.held_after → Begun Part → Begun (WritesFront conf summary all)
    stays k b = begun Part (WritesFront conf summary all) (λ xs p. kept_then all.held mid all.held_after (so_far xs) (part xs p) (now_kept k)) b

    stays_told : Keeps output.held output.held_after → Begun Told → Begun (WritesFront conf summary all)
    stays_told k b = stays k (begun Told Part in_part b)

    of_line : (line : List ℕ) (ok status : Status) → TellsLine line ok output status → Begun Told
        → (Appends mid all.held_after line → Played ok) → (Rose all.faults all.faults_after → (rest : List ℕ) × AppendsFront mid all.held_after line rest → Played WriteFault)
        → Played status
    of_line line ok status (inl t) b whole_line failed = subst Played (sym t.0) (whole_line (now line t.1))
    of_line line ok status (inr (inl t)) b whole_line failed = subst Played (sym t.0) (failed (risen t.1) (now_front line t.2))
    of_line line ok status (inr (inr t)) b whole_line failed = subst Played (sym t.0) (stays_told t.1 b)

    of_refusal : (fault : CoreOpen) (status : Status) → IsRefusal fault output status → NeverFrom seen core → fault ≢ open_fault.Bay
        → (fault ≡ open_fault.Device → Rises) → Begun (λ xs. ⊥) → Played status
    of_refusal fault Damaged r never bay rises b = never
    of_refusal fault WriteFault r never bay rises b =
        (risen r.0, inl (begun (λ xs. ⊥) (WritesFront conf summary all) (λ xs never. absurd never) b))
    of_refusal fault Device r never bay rises b = (go r.0, never) where
      go : (fault ≡ open_fault.Device) ⊎ (fault ≡ open_fault.Bay) → Rises
      go (inl e) = rises e
      go (inr e) = absurd (bay e)
    of_refusal fault NoMemory r never bay rises b = begun (λ xs. ⊥) (WritesFront conf summary all) (λ xs never. absurd never) b
    of_refusal fault Done r never bay rises b = absurd r
    of_refusal fault Usage r never bay rises b = absurd r
    of_refusal fault Listener r never bay rises b = absurd r
    of_refusal fault Spawner r never bay rises b = absurd r
    of_refusal fault Lost r never bay rises b = absurd r
    of_refusal fault Refused r never bay rises b = absurd r
    of_refusal fault Strange r never bay rises b = absurd r
    of_refusal fault Malformed r never bay rises b = absurd r
    of_refusal fault ReadFault r never bay rises b = absurd r

    pub ended : (s : Stopped) (status : Status) → Stops s → s ≢ stopped.Write → TellsEnd last s output status → Played status
    ended stopped.End status p other t = of_line last Done status t p.1
        (λ line. done Told (WritesAll conf summary all)
        (λ xs x. line_then all.held mid all.held_after (so_far xs) last (told_in_all conf.topics summary xs) (told xs x) line (whole xs x)) p.0)
        (λ rose line. (
          rose,
          inr (inr (done Told (WritesAllFront conf summary all)
              (λ xs x. front_then all.held mid all.held_after (so_far xs) last (told_in_all conf.topics summary xs) (told xs x) line (whole xs x)) p.0)),
        ))
    ended (stopped.Malformed place) status p other t = of_line (malformed_line place) Malformed status t p.1
        (λ line. refused place Told (λ fault. WritesThen conf summary (malformed_line fault) all)
        (λ xs x. line_then all.held mid all.held_after (so_far xs) (malformed_line place) (so_far xs ++ malformed_line place) (told xs x) line refl) p.0)
        (λ rose line. (
          rose,
          inr (inl (refused place Told (λ fault. WritesThenFront conf summary (malformed_line fault) all)
              (λ xs x. front_then all.held mid all.held_after (so_far xs) (malformed_line place) (so_far xs ++ malformed_line place) (told xs x) line refl) p.0)),
        ))
    ended stopped.Read status p other t = subst Played (sym t.0) (
      p.0,
      cut Told (Writes conf summary all) (λ xs x. same_then all.held mid all.held_after (so_far xs) (told xs x) (now_kept t.1)) p.1,
    )
    ended stopped.Write status p other t = absurd (other refl)
    ended (stopped.Reopen fault) status p other t = of_refusal fault status t p.0 p.1 p.2 p.3
    ended stopped.NoMemory status p other t = subst Played (sym t.0) (stays t.1 p)
