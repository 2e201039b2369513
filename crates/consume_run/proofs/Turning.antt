-- What each step of a turn leads to.
use Rattle.std.proofs.Common.{◌≡◌, ◌⊎◌, inl, inr, ℕ, List, [], ◌∷◌, ◌++◌, Bool, true, false, Option, Some, None, IfNone, IfSome, Ok, Err, refl, sym, ap, subst, ◌∙◌, ◌≤◌, arith}
use Rattle.std.specs.Prelude.{if◌then◌else◌}
use Rattle.std.specs.Io.KnownBytes.{Appends}
use Rattle.std.proofs.KnownBytes.{Appends-nil, Appends-trans}
use Rattle.std.proofs.lemmas.List.{append-nil}
use Rattle.edge_io.specs.Streams.{AppendsFront}
use Rattle.flex_fields.specs.declared.fault.NoMemory.{NoMemory as NoMemoryType}
use Rattle.share_client.specs.declared.client.ClientCore.{ClientCore}
use Rattle.share_client.specs.declared.conf.ClientConf.{ClientConf}
use Rattle.share_client.specs.declared.fault.ClientFault.{ClientFault}
use Rattle.share_client.specs.declared.fault.ClientFault.TheVariants.{Refused, Strange, NoMemory}
use Rattle.share_client.specs.declared.step.ClientStep.{ClientStep}
use Rattle.share_client.specs.declared.step.ClientStep.TheVariants.{Heartbeat, Fetch, Write, Wait, Done}
use Rattle.share_client.specs.declared.step.LinkKind.{LinkKind}
use Rattle.share_client.specs.declared.step.Took.{Took}
use Rattle.share_client.specs.Cores.{StandsFor}
use Rattle.share_client.specs.Kept.{unacknowledged}
use Rattle.share_client.specs.Traces.{Trace}
use Rattle.share_client.specs.Traces.Call.{Asked, Got, Wrote, Lost}
use Rattle.consume_run.specs.declared.end.ConsumeEnd.{ConsumeEnd}
use Rattle.consume_run.specs.declared.end.ConsumeEnd.TheVariants as end
use Rattle.consume_run.specs.Ends.{GoesOn, HasLine, IsOutside, before_newest, end_of, ended_by, given, last_line, written}
use Rattle.consume_run.specs.Consuming.{ComesByLinks, Consumes, EndsAs, Writes, due}
use Rattle.consume_run.specs.Turns.{EndsBy, Goes, Offers, Stops, WroteBefore}
use Rattle.consume_run.proofs.Fronts.{front_behind}

pub none_ended : (conf : ClientConf) (trace : Trace) → GoesOn conf trace → ended_by conf trace ≡ None
none_ended conf [] g = refl
none_ended conf (call ∷ before) g = g.0

pub goes_before : (conf : ClientConf) (trace : Trace) → GoesOn conf trace → GoesOn conf (before_newest trace)
goes_before conf [] g = tt
goes_before conf (call ∷ before) g = g.1

-- before its first call
pub begins : (conf : ClientConf) (core : ClientCore) (held : Option (List ℕ)) → StandsFor conf core [] → Goes conf held core held
begins conf core held s = record { trace = []; stands = s; goes_on = tt; wrote = Appends-nil held }

-- a program that goes on ended by what is outside its core
pub stops_outside : (conf : ClientConf) (start held : Option (List ℕ)) (core : ClientCore) (result : ConsumeEnd) → Goes conf start core held
    → IsOutside result → ((trace : Trace) → Appends start held (written trace) → WroteBefore start held trace result) → Stops conf start held result
stops_outside conf start held core result g outside wrote = record {
  core = core;
  trace = g.trace;
  stands = g.stands;
  goes_on = goes_before conf g.trace g.goes_on;
  ends = subst (λ (o : Option ConsumeEnd). EndsBy o result) (sym (none_ended conf g.trace g.goes_on)) outside;
  wrote = wrote g.trace g.wrote;
}

-- ---- the core was asked what is to be done

module _ (conf : ClientConf) (start held : Option (List ℕ)) (core new : ClientCore) (now : ℕ) (g : Goes conf start core held) where
  pub asked_goes : (step : ClientStep) → ended_by conf (Asked now (Ok step) ∷ g.trace) ≡ None → StandsFor conf new (Asked now (Ok step) ∷ g.trace)
      → Goes conf start new held
  asked_goes step on s = record {
    trace = Asked now (Ok step) ∷ g.trace;
    stands = s;
    goes_on = (on, g.goes_on);
    wrote = g.wrote;
  }

  pub asked_offers : (lines : List ℕ) → StandsFor conf new (Asked now (Ok (Write lines)) ∷ g.trace) → Offers conf start new held lines
  asked_offers lines s = record { before = g.trace; now = now; stands = s; goes_on = g.goes_on; wrote = g.wrote }

  pub asked_done : StandsFor conf new (Asked now (Ok Done) ∷ g.trace) → Stops conf start held end.Done
  asked_done s = record {
    core = new;
    trace = Asked now (Ok Done) ∷ g.trace;
    stands = s;
    goes_on = g.goes_on;
    ends = refl;
    wrote = g.wrote;
  }

  pub asked_starved : (fault : NoMemoryType) → StandsFor conf new (Asked now (Err fault) ∷ g.trace) → Stops conf start held end.NoMemory
  asked_starved fault s = record {
    core = new;
    trace = Asked now (Err fault) ∷ g.trace;
    stands = s;
    goes_on = g.goes_on;
    ends = tt;
    wrote = g.wrote;
  }

-- ---- lines were written, or the output failed

module _ (conf : ClientConf) (start held now_held : Option (List ℕ)) (core : ClientCore) (lines : List ℕ) (o : Offers conf start core held lines) where
  pub wrote_goes : (new : ClientCore) → StandsFor conf new (Wrote ∷ (Asked o.now (Ok (Write lines)) ∷ o.before)) → Appends held now_held lines
      → Goes conf start new now_held
  wrote_goes new s a = record {
    trace = Wrote ∷ (Asked o.now (Ok (Write lines)) ∷ o.before);
    stands = s;
    goes_on = (refl, (refl, o.goes_on));
    wrote = Appends-trans start held now_held (written o.before) lines o.wrote a;
  }

  pub failed_stops : (rest : List ℕ) → AppendsFront held now_held lines rest → Stops conf start now_held end.Output
  failed_stops rest f = record {
    core = core;
    trace = Asked o.now (Ok (Write lines)) ∷ o.before;
    stands = o.stands;
    goes_on = o.goes_on;
    ends = tt;
    wrote = (rest, front_behind start held now_held (written o.before) lines rest o.wrote f);
  }

-- ---- the core was given a reply, or told of a loss

module _ (conf : ClientConf) (start held : Option (List ℕ)) (core new : ClientCore) (on : LinkKind) (g : Goes conf start core held) where
  pub got_goes : (frame : List ℕ) (took : Took) → StandsFor conf new (Got on frame (Ok took) ∷ g.trace) → Goes conf start new held
  got_goes frame took s = record {
    trace = Got on frame (Ok took) ∷ g.trace;
    stands = s;
    goes_on = (refl, g.goes_on);
    wrote = g.wrote;
  }

  pub got_stops : (frame : List ℕ) (fault : ClientFault) → StandsFor conf new (Got on frame (Err fault) ∷ g.trace) → Stops conf start held (end_of fault)
  got_stops frame (Refused code) s = record {
    core = new;
    trace = Got on frame (Err (Refused code)) ∷ g.trace;
    stands = s;
    goes_on = g.goes_on;
    ends = refl;
    wrote = g.wrote;
  }
  got_stops frame (Strange place) s = record {
    core = new;
    trace = Got on frame (Err (Strange place)) ∷ g.trace;
    stands = s;
    goes_on = g.goes_on;
    ends = refl;
    wrote = g.wrote;
  }
  got_stops frame NoMemory s = record {
    core = new;
    trace = Got on frame (Err NoMemory) ∷ g.trace;
    stands = s;
    goes_on = g.goes_on;
    ends = refl;
    wrote = g.wrote;
  }

  abbrev by_loss : Bool → Option ConsumeEnd
  by_loss unacknowledged = if unacknowledged then Some end.Unacknowledged else None

  pub lost_goes : StandsFor conf new (Lost on ∷ g.trace) → unacknowledged conf (Lost on ∷ g.trace) ≡ false → Goes conf start new held
  lost_goes s e = record {
    trace = Lost on ∷ g.trace;
    stands = s;
    goes_on = (ap by_loss e, g.goes_on);
    wrote = g.wrote;
  }

  pub lost_stops : StandsFor conf new (Lost on ∷ g.trace) → unacknowledged conf (Lost on ∷ g.trace) ≡ true → Stops conf start held end.Unacknowledged
  lost_stops s e = record {
    core = new;
    trace = Lost on ∷ g.trace;
    stands = s;
    goes_on = g.goes_on;
    ends = subst (λ (b : Bool). EndsBy (by_loss b) end.Unacknowledged) (sym e) refl;
    wrote = g.wrote;
  }

-- ---- what is outside the core ended the program

module _ (conf : ClientConf) (start held : Option (List ℕ)) (core : ClientCore) (g : Goes conf start core held) where
  pub stops_starved : Stops conf start held end.NoMemory
  stops_starved = stops_outside conf start held core end.NoMemory g tt (λ trace a. a)

  pub stops_spawner : Stops conf start held end.Spawner
  stops_spawner = stops_outside conf start held core end.Spawner g tt (λ trace a. a)

  pub stops_links : (result : ConsumeEnd) → (result ≡ end.NoLink) ⊎ (result ≡ end.Listener) → Stops conf start held result
  stops_links result (inl e) = subst (Stops conf start held) (sym e) (stops_outside conf start held core end.NoLink g tt (λ trace a. a))
  stops_links result (inr e) = subst (Stops conf start held) (sym e) (stops_outside conf start held core end.Listener g tt (λ trace a. a))

-- ---- the last line

-- no call of the core ends the program as a fault of the output
never_output : (conf : ClientConf) (trace : Trace) → ended_by conf trace ≡ Some end.Output → ⊥
never_output conf [] e = absurd cc
never_output conf (Asked now (Ok Done) ∷ before) e = absurd cc
never_output conf (Asked now (Ok (Heartbeat frame)) ∷ before) e = absurd cc
never_output conf (Asked now (Ok (Fetch frame)) ∷ before) e = absurd cc
never_output conf (Asked now (Ok (Write lines)) ∷ before) e = absurd cc
never_output conf (Asked now (Ok (Wait until)) ∷ before) e = absurd cc
never_output conf (Asked now (Err none) ∷ before) e = absurd cc
never_output conf (Got on frame (Ok took) ∷ before) e = absurd cc
never_output conf (Got on frame (Err (Refused code)) ∷ before) e = absurd cc
never_output conf (Got on frame (Err (Strange place)) ∷ before) e = absurd cc
never_output conf (Got on frame (Err NoMemory) ∷ before) e = absurd cc
never_output conf (Wrote ∷ before) e = absurd cc
never_output conf (Lost on ∷ before) e = go (unacknowledged conf (Lost on ∷ before)) e where
  go : (b : Bool) → (if b then Some end.Unacknowledged else None) ≡ Some end.Output → ⊥
  go true e = absurd cc
  go false e = absurd cc

due_given : (conf : ClientConf) (trace : Trace) (told : Option ConsumeEnd) → ended_by conf trace ≡ told → EndsBy told end.Output
    → due trace (ended_by conf trace) ≡ given trace
due_given conf trace None e p = subst (λ (o : Option ConsumeEnd). due trace o ≡ given trace) (sym e) refl
due_given conf trace (Some told) e p = absurd (never_output conf trace (e ∙ ap (λ (x : ConsumeEnd). Some x) (sym p)))

-- nothing more is written behind a front
front_stays : (start held now : Option (List ℕ)) (bytes rest : List ℕ) → AppendsFront start held bytes rest → Appends held now [] → AppendsFront start now bytes rest
front_stays start held now bytes rest p a = record {
  front = p.front;
  parts = p.parts;
  grown = subst (λ (l : List ℕ). Appends start now l) (append-nil p.front) (Appends-trans start held now p.front [] p.grown a);
}

ends_as : (told : Option ConsumeEnd) (result : ConsumeEnd) → EndsBy told result → EndsAs told result
ends_as None result p = p
ends_as (Some told) result p = inl p

module _ (conf : ClientConf) (start held now : Option (List ℕ)) (t : Trace) where
  all_written : (result : ConsumeEnd) → EndsBy (ended_by conf t) result → WroteBefore start held t result → Appends held now (last_line result)
      → Writes conf start now t result
  all_written end.Output e w a = (
    w.0,
    front_stays start held now (written t ++ due t (ended_by conf t)) w.0
        (subst (λ (l : List ℕ). AppendsFront start held (written t ++ l) w.0) (sym (due_given conf t (ended_by conf t) refl e)) w.1) a,
  )
  all_written end.Done e w a = Appends-trans start held now (written t) [] w a
  all_written (end.Refused code) e w a = Appends-trans start held now (written t) (last_line (end.Refused code)) w a
  all_written (end.Strange place) e w a = Appends-trans start held now (written t) (last_line (end.Strange place)) w a
  all_written end.Unacknowledged e w a = Appends-trans start held now (written t) (last_line end.Unacknowledged) w a
  all_written end.NoLink e w a = Appends-trans start held now (written t) [] w a
  all_written end.Listener e w a = Appends-trans start held now (written t) [] w a
  all_written end.Spawner e w a = Appends-trans start held now (written t) [] w a
  all_written end.NoMemory e w a = Appends-trans start held now (written t) [] w a

  -- what was written before a last line
  before_line : (result : ConsumeEnd) → HasLine result → WroteBefore start held t result → Appends start held (written t)
  before_line (end.Refused code) l w = w
  before_line (end.Strange place) l w = w
  before_line end.Unacknowledged l w = w
  before_line end.Done l w = absurd l
  before_line end.NoLink l w = absurd l
  before_line end.Output l w = absurd l
  before_line end.Listener l w = absurd l
  before_line end.Spawner l w = absurd l
  before_line end.NoMemory l w = absurd l

  lined_outside : {P : Type 0} (result : ConsumeEnd) → HasLine result → IsOutside result → P
  lined_outside (end.Refused code) l p = absurd p
  lined_outside (end.Strange place) l p = absurd p
  lined_outside end.Unacknowledged l p = absurd p
  lined_outside end.Done l p = absurd l
  lined_outside end.NoLink l p = absurd l
  lined_outside end.Output l p = absurd l
  lined_outside end.Listener l p = absurd l
  lined_outside end.Spawner l p = absurd l
  lined_outside end.NoMemory l p = absurd l

  line_ends : (told : Option ConsumeEnd) (result : ConsumeEnd) → HasLine result → EndsBy told result → EndsAs told end.Output
  line_ends None result l p = lined_outside result l p
  line_ends (Some told) result l p = inr (refl, subst HasLine p l)

  line_due : (told : Option ConsumeEnd) (result : ConsumeEnd) → HasLine result → EndsBy told result → last_line result ≡ due t told
  line_due None result l p = lined_outside result l p
  line_due (Some told) result l p = ap last_line p

-- the last line was written, where there is one
pub finished : (conf : ClientConf) (start held now : Option (List ℕ)) (result : ConsumeEnd) → Stops conf start held result
    → Appends held now (last_line result) → Consumes conf start now result
finished conf start held now result s a = record {
  core = s.core;
  trace = s.trace;
  stands = s.stands;
  goes_on = s.goes_on;
  ends = ends_as (ended_by conf s.trace) result s.ends;
  writes = all_written conf start held now s.trace result s.ends s.wrote a;
}

-- the output failed at the last line
pub broke_off : (conf : ClientConf) (start held now : Option (List ℕ)) (result : ConsumeEnd) (rest : List ℕ) → Stops conf start held result → HasLine result
    → AppendsFront held now (last_line result) rest → Consumes conf start now end.Output
broke_off conf start held now result rest s l f = record {
  core = s.core;
  trace = s.trace;
  stands = s.stands;
  goes_on = s.goes_on;
  ends = line_ends conf start held now s.trace (ended_by conf s.trace) result l s.ends;
  writes = (
    rest,
    front_behind start held now (written s.trace) (due s.trace (ended_by conf s.trace)) rest (before_line conf start held now s.trace result l s.wrote)
        (subst (λ (line : List ℕ). AppendsFront held now line rest) (line_due conf start held now s.trace (ended_by conf s.trace) result l s.ends) f),
  );
}

-- ---- causes of an earlier call

pub links_later : (result : ConsumeEnd) (done : Bool) (first before now : ℕ) → first ≤ before → ComesByLinks result done before now
    → ComesByLinks result done first now
links_later end.NoLink done first before now le p = p
links_later end.Listener done first before now le p = omega (arith, le, p)
links_later end.Done done first before now le p = tt
links_later (end.Refused code) done first before now le p = tt
links_later (end.Strange place) done first before now le p = tt
links_later end.Unacknowledged done first before now le p = tt
links_later end.Output done first before now le p = tt
links_later end.Spawner done first before now le p = tt
links_later end.NoMemory done first before now le p = tt

-- ---- what a call gave

pub when_none : {A P Q : Type 0} (r : Option A) → (P → Q) → IfNone r P → IfNone r Q
when_none None f p = f p
when_none (Some x) f p = p

pub when_some : {A : Type 0} {P Q : A → Type 0} (r : Option A) → ((x : A) → P x → Q x) → IfSome r P → IfSome r Q
when_some None f p = p
when_some (Some x) f p = f x p

pub on_none : {A P : Type 0} (r : Option A) → P → IfNone r P
on_none None p = p
on_none (Some x) p = tt

-- ---- the start failed

pub stops_start : (conf : ClientConf) (start held : Option (List ℕ)) (core : ClientCore) (g : Goes conf start core held) (result : ConsumeEnd)
    → (result ≡ end.Spawner) ⊎ (result ≡ end.NoMemory) → Stops conf start held result
stops_start conf start held core g result (inl e) = subst (Stops conf start held) (sym e) (stops_spawner conf start held core g)
stops_start conf start held core g result (inr e) = subst (Stops conf start held) (sym e) (stops_starved conf start held core g)
