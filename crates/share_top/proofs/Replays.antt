-- How a replay ends: with its script, or within it.
use Rattle.std.proofs.Common.{◌≡◌, ◌≤◌, inl, inr, refl, sym, subst, ◌∙◌, ℕ, List, [], ◌∷◌, ◌++◌, true, IfSome}
use Rattle.std.specs.declared.option.Option.{Option}
use Rattle.std.specs.Io.KnownBytes.{IsAtEnd}
use Rattle.session_script.specs.declared.event.Event.{Event}
use Rattle.session_script.specs.declared.event.Outcome.{Outcome}
use Rattle.session_script.specs.Script.{IsEvent, IsRefused, HasNoMalformed, line_of, end_line, longest}
use Rattle.session_script.specs.Unread.{Unread}
use Rattle.session_script.specs.Reading.{Takes}
use Rattle.broker_model.specs.Machine.{Machine}
use Rattle.broker_model.specs.States.{State}
use Rattle.broker_hosts.specs.Hosts.{AreOpen, disks_in}
use Rattle.broker_core.specs.Calls.{GoOn, OneRose}
use Rattle.broker_core.specs.Cores.{CoreParts, IsCore, state_of}
use Rattle.broker_core.proofs.Leading.{go_on_same}
use Rattle.share_top.specs.declared.replay.Stopped.{Stopped}
use Rattle.share_top.specs.declared.replay.Stopped.TheVariants as stop
use Rattle.share_top.specs.Changes.{InputChange}
use Rattle.share_top.specs.Sessions.{Ending, Leaves, MayLeaveMore}
use Rattle.share_top.specs.Statuses.{ComesNext, IsDone, IsRefusedScript, IsCut}
use Rattle.share_top.specs.Going.{Going, FromCore, Halts, HasBegun, NeverFrom, Plays, IsNotPlayed, IsStopped}
use Rattle.share_top.proofs.ScriptReads as reads
use Rattle.share_top.proofs.Counts.{go_on_then, rises}
use Rattle.share_top.proofs.Goes.{begins, goes_on, retold, ran, ran_or_more, halted}
use Rattle.edge_io.specs.Views.{DiskView}

module _ {D : Type 0} (seen : D → DiskView) where
  abbrev From : CoreParts D → CoreParts D → List Event → (List Outcome → Type 0) → Ending → Type 0
  From first last events Tells Ends = FromCore seen first (disks_in last.hosts) events Tells Ends

  pub starts : (left : Option (List ℕ)) (first : CoreParts D) (Tells : List Outcome → Type 0) → AreOpen first.hosts → Tells []
      → Going seen left left (record { place = 0; pending = [] }) Tells first first
  starts left first Tells opened told = record {
    read = reads.starts left;
    goes = λ m k. begins seen m first Tells k told;
    conf = refl;
    disks = go_on_same seen (disks_in first.hosts);
    is_open = opened;
  }

  module _ (first now : CoreParts D) (T : List Outcome → Type 0) (left mid : Option (List ℕ)) (u v : Unread)
      (going : Going seen left mid u T first now) where
    -- an event was done, and its outcomes are told
    pub goes : (after : Option (List ℕ)) (U V : List Outcome → Type 0) → ((xs ys : List Outcome) → T xs → U ys → V (xs ++ ys)) → (e : Event) (next : CoreParts D)
        → Takes u v mid after (line_of e) → IsEvent e → v.place ≤ longest → Plays seen now e U next
        → next.conf ≡ now.conf → GoOn seen (disks_in now.hosts) (disks_in next.hosts) → AreOpen next.hosts
        → Going seen left after v V first next
    goes after U V join e next t is le plays same disks opened = record {
      read = reads.read_on left mid after u v e going.read t is le;
      goes = λ m k. goes_on seen first.conf (state_of seen m first) going.read.events e T U V join
          now next going.conf (going.goes m k) plays;
      conf = same ∙ going.conf;
      disks = go_on_then seen (disks_in first.hosts) (disks_in now.hosts) (disks_in next.hosts) going.disks disks;
      is_open = opened;
    }

  module _ (input : InputChange) (first now : CoreParts D) (T : List Outcome → Type 0) (mid : Option (List ℕ)) (u v : Unread)
      (going : Going seen input.left mid u T first now) where
    abbrev Took : List ℕ → Type 0
    Took line = Takes u v mid input.left_after line

    abbrev begun : Machine → State
    begun m = state_of seen m first

    whole : From first now going.read.events T (Leaves first.conf)
    whole m k = ran seen first.conf (begun m) going.read.events T now (going.goes m k)

    pub done : Took end_line → v.pending ≡ [] → IsAtEnd input.left_after → v.place ≤ longest → input.ended ≡ true
        → IsDone input (λ events. From first now events T (Leaves first.conf))
    done t none end le ended = reads.done input mid u v going.read (λ events. From first now events T (Leaves first.conf)) t none end le ended whole

    pub cut : Took [] → HasNoMalformed v.place v.pending → IsCut input (λ events. From first now events T (Leaves first.conf))
    cut t none = reads.cut input mid u v going.read (λ events. From first now events T (Leaves first.conf)) t none whole

    pub malformed : (place : ℕ) → Took [] → IfSome input.left_after (λ more. IsRefused v.place (v.pending ++ more) place)
        → IsRefusedScript input (λ events fault. (fault ≡ place) × From first now events T (Leaves first.conf))
    malformed place t h =
        reads.refused input mid u v going.read (λ events fault. (fault ≡ place) × From first now events T (Leaves first.conf)) place t h (refl, whole)

  module _ (input : InputChange) (first now : CoreParts D) (T : List Outcome → Type 0) (mid : Option (List ℕ)) (u : Unread)
      (going : Going seen input.left mid u T first now) where
    -- so far
    pub has_begun : (U : List Outcome → Type 0) → ((xs : List Outcome) → T xs → U xs) → HasBegun first.conf input (From first now) U
    has_begun U f = reads.begun_now input mid u going.read (λ events. From first now events U (MayLeaveMore first.conf (ComesNext input events)))
        (λ m k. ran_or_more seen first.conf (ComesNext input going.read.events) (state_of seen m first) going.read.events U now
        (retold seen first.conf (state_of seen m first) going.read.events T U f now (going.goes m k)))

  -- another thing is told, and the reader is the same
  pub regoing : (left mid : Option (List ℕ)) (u v : Unread) (T U : List Outcome → Type 0) (first now : CoreParts D) → v ≡ u → ((xs : List Outcome) → T xs → U xs)
      → Going seen left mid u T first now → Going seen left mid v U first now
  regoing left mid u v T U first now same f going = subst (λ (x : Unread). Going seen left mid x U first now) (sym same) (record {
    read = going.read;
    goes = λ m k. retold seen first.conf (state_of seen m first) going.read.events T U f now (going.goes m k);
    conf = going.conf;
    disks = going.disks;
    is_open = going.is_open;
  })

  -- ---- an event that wasn't done and told whole

  module _ (input : InputChange) (first now : CoreParts D) (T : List Outcome → Type 0) (mid : Option (List ℕ)) (u v : Unread)
      (going : Going seen input.left mid u T first now) (e : Event) (next : CoreParts D)
      (t : Takes u v mid input.left_after (line_of e)) (is : IsEvent e) (le : v.place ≤ longest) where
    abbrev Begun : (List Outcome → Type 0) → Type 0
    Begun U = HasBegun first.conf input (From first next) U

    abbrev began : Machine → State
    began m = state_of seen m first

    -- it was done, and told so
    did : (S U : List Outcome → Type 0) → ((xs ys : List Outcome) → T xs → S ys → U (xs ++ ys)) → Plays seen now e S next → Begun U
    did S U join plays = reads.begun_behind input mid u v going.read (λ events. From first next events U (MayLeaveMore first.conf (ComesNext input events))) e t is le
        (λ m k. ran_or_more seen first.conf (ComesNext input (going.read.events ++ e ∷ [])) (began m) (going.read.events ++ e ∷ []) U next
        (goes_on seen first.conf (began m) going.read.events e T S U join now next going.conf (going.goes m k) plays))

    -- no memory was found in it
    left : (U : List Outcome → Type 0) → ((xs : List Outcome) → T xs → U xs) → ((m : Machine) → IsCore seen now m → Halts seen now m e next) → Begun U
    left U keep halts = reads.begun_before input mid u v going.read (λ events. From first next events U (MayLeaveMore first.conf (ComesNext input events))) e t is le
        (λ m k. halted seen first.conf (ComesNext input going.read.events) (began m) going.read.events e
        (reads.begins_behind input mid u v going.read e t is le) T U keep now next going.conf (going.goes m k) halts)

    never : NeverFrom seen now → NeverFrom seen first
    never n m k = let g = going.goes m k in n g.machine g.core

    pub stopped : (Told U V Part Front : List Outcome → Type 0) (Kept Fails Failed : Type 0) → ((xs ys : List Outcome) → T xs → Part ys → U (xs ++ ys))
        → ((xs ys : List Outcome) → T xs → Front ys → V (xs ++ ys)) → (Kept → (xs : List Outcome) → T xs → U xs) → (Fails → Failed) → AreOpen first.hosts
        → (s : Stopped) → IsNotPlayed seen now e next Part Front Kept Fails s
        → IsStopped first.conf input (From first next) Told U V (NeverFrom seen first) (OneRose seen (disks_in first.hosts) (disks_in next.hosts)) Failed s
    stopped Told U V Part Front Kept Fails Failed some failed kept fails opened stop.Write p = (fails p.0, did Front V failed p.1)
    stopped Told U V Part Front Kept Fails Failed some failed kept fails opened stop.NoMemory (inl p) = did Part U some p
    stopped Told U V Part Front Kept Fails Failed some failed kept fails opened stop.NoMemory (inr p) = left U (kept p.0) p.1
    stopped Told U V Part Front Kept Fails Failed some failed kept fails opened (stop.Reopen fault) p = (
      never p.0,
      p.1,
      λ device. rises seen first.hosts (disks_in now.hosts) (disks_in next.hosts) opened going.disks (p.2 device),
      reads.begun_before input mid u v going.read (λ events. From first next events (λ xs. ⊥) (MayLeaveMore first.conf (ComesNext input events))) e t is le
          (λ m k. absurd (never p.0 m k)),
    )
    stopped Told U V Part Front Kept Fails Failed some failed kept fails opened stop.End p = absurd p
    stopped Told U V Part Front Kept Fails Failed some failed kept fails opened (stop.Malformed place) p = absurd p
    stopped Told U V Part Front Kept Fails Failed some failed kept fails opened stop.Read p = absurd p
