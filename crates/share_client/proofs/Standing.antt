-- What a consumer stands for behind each of its calls.
use Rattle.std.proofs.Common.{◌≡◌, ◌+◌, ◌∙◌, ◌∷◌, [], ℕ, ℤ, suc, Bool, true, false, not, ◌&&◌, ◌||◌, List, Option, Some, None, Result, Ok, Err, refl, sym, ap, subst}
use Rattle.std.specs.Prelude.{is_err, is_none, is_some, nat_le}
use Rattle.std.specs.Bool.{MatchBool}
use Rattle.std.specs.Option.{option_map_or, option_or, unwrap_or}
use Rattle.flex_fields.specs.declared.fault.NoMemory.{NoMemory as NoMemoryType}
use Rattle.msgs_group.specs.declared.heartbeat_reply.Assignment.{Assignment}
use Rattle.msgs_group.specs.declared.heartbeat_reply.HeartbeatReply.{HeartbeatReply}
use Rattle.rec_batch.specs.Batches.{at_least_zero}
use Rattle.share_session.specs.Sessions.{next_epoch}
use Rattle.share_client.specs.declared.client.ClientCore.{ClientCore}
use Rattle.share_client.specs.declared.conf.ClientConf.{ClientConf}
use Rattle.share_client.specs.declared.data_link.DataLink.{DataLink}
use Rattle.share_client.specs.declared.fault.ClientFault.{ClientFault}
use Rattle.share_client.specs.declared.fault.ClientFault.TheVariants.{Refused, Strange, NoMemory}
use Rattle.share_client.specs.declared.group.GroupLink.{GroupLink}
use Rattle.share_client.specs.declared.step.ClientStep.{ClientStep}
use Rattle.share_client.specs.declared.step.ClientStep.TheVariants.{Heartbeat, Fetch, Write, Wait, Done}
use Rattle.share_client.specs.declared.step.LinkKind.{LinkKind}
use Rattle.share_client.specs.declared.step.LinkKind.TheVariants.{Group, Data}
use Rattle.share_client.specs.declared.step.Took.{Took}
use Rattle.share_client.specs.declared.step.Took.TheVariants.{Taken, Stray}
use Rattle.share_client.specs.Frames.{IsAnswer, has_correlation}
use Rattle.share_client.specs.Traces.{Call, Trace, correlation, is_fault, is_over, is_request, is_writing, newest, requests}
use Rattle.share_client.specs.Traces.Call.{Asked, Got, Lost, Wrote}
use Rattle.share_client.specs.Heartbeats.{assigned, assignment_in, awaited, due_from, epoch_in, heard, heartbeat_frame, interval_in, member_epoch, waits_until}
use Rattle.share_client.specs.Groups.{BeatsBy, GoesOnBy, HearsReply, IsAsked, IsLost, IsTold, LosesOn, RepliesBy, StepsBy, TakesFrame, TakesOn, asks_now, due_behind, ends_with, group_awaits, new_group, parts_with, wait_end}
use Rattle.share_client.specs.DataLinks.{TakesData, TakesReply, behind_loss, behind_request, behind_written, data_after, data_awaits, data_frame, is_served, lines_text, new_data, sends}
use Rattle.share_client.specs.Kept.{beat_epoch, ends_by, has_left, is_done, is_due, is_leaving, is_parting, is_pending, kept, parting_by, unacknowledged}
use Rattle.share_client.specs.Rules.{AllowsReply, Judges, awaits, taken_where}
use Rattle.share_client.specs.Cores.{GroupStands, StandsFor}

pub stands_new : (conf : ClientConf) → StandsFor conf (record { conf = conf; group = new_group; fetches = new_data conf.count; parting = false; ended = false }) []
stands_new conf = record {
  made = refl;
  allowed = tt;
  ended = refl;
  parting = refl;
  keeps = refl;
  group = λ _. record { asked = refl; number = refl; due = refl; epoch = refl; assigned = refl };
}

-- a call that says nothing of the group link
module _ (g : GroupLink) (t : Trace) (s : GroupStands g t) where
  same_step : (now : ℕ) (answer : Result ClientStep NoMemoryType) → is_request Group (Asked now answer) ≡ false → GroupStands g (Asked now answer ∷ t)
  same_step now (Ok Done) e = record { asked = s.asked; number = s.number; due = s.due; epoch = s.epoch; assigned = s.assigned }
  same_step now (Ok (Wait until)) e = record { asked = s.asked; number = s.number; due = s.due; epoch = s.epoch; assigned = s.assigned }
  same_step now (Ok (Write lines)) e = record { asked = s.asked; number = s.number; due = s.due; epoch = s.epoch; assigned = s.assigned }
  same_step now (Ok (Fetch frame)) e = record { asked = s.asked; number = s.number; due = s.due; epoch = s.epoch; assigned = s.assigned }
  same_step now (Ok (Heartbeat frame)) e = absurd cc
  same_step now (Err fault) e = record { asked = s.asked; number = s.number; due = s.due; epoch = s.epoch; assigned = s.assigned }

  same_stray : (on : LinkKind) (frame : List ℕ) → GroupStands g (Got on frame (Ok Stray) ∷ t)
  same_stray Group frame = record { asked = s.asked; number = s.number; due = s.due; epoch = s.epoch; assigned = s.assigned }
  same_stray Data frame = record { asked = s.asked; number = s.number; due = s.due; epoch = s.epoch; assigned = s.assigned }

  same_data : (frame : List ℕ) (took : Took) → GroupStands g (Got Data frame (Ok took) ∷ t)
  same_data frame Taken = record { asked = s.asked; number = s.number; due = s.due; epoch = s.epoch; assigned = s.assigned }
  same_data frame Stray = record { asked = s.asked; number = s.number; due = s.due; epoch = s.epoch; assigned = s.assigned }

  same_lost : GroupStands g (Lost Data ∷ t)
  same_lost = record { asked = s.asked; number = s.number; due = s.due; epoch = s.epoch; assigned = s.assigned }

  same_wrote : GroupStands g (Wrote ∷ t)
  same_wrote = record { asked = s.asked; number = s.number; due = s.due; epoch = s.epoch; assigned = s.assigned }

  asked_stands : (now : ℕ) (frame : List ℕ) (new : GroupLink) → IsAsked now g new → GroupStands new (Asked now (Ok (Heartbeat frame)) ∷ t)
  asked_stands now frame new a = record {
    asked = a.asked;
    number = a.number ∙ ap (λ (n : ℤ). next_epoch n) s.number;
    due = a.due ∙ s.due;
    epoch = a.epoch ∙ s.epoch;
    assigned = a.assigned ∙ s.assigned;
  }

  lost_stands : (new : GroupLink) → IsLost g new → GroupStands new (Lost Group ∷ t)
  lost_stands new l = record {
    asked = l.asked;
    number = l.number ∙ s.number;
    due = l.due;
    epoch = l.epoch ∙ s.epoch;
    assigned = l.assigned ∙ s.assigned;
  }

  told_stands : (frame : List ℕ) (reply : HeartbeatReply) (new : GroupLink) → heard frame ≡ Ok reply
      → IsTold (due_behind g.asked reply.heartbeat_interval_ms) reply g new → GroupStands new (Got Group frame (Ok Taken) ∷ t)
  told_stands frame reply new said h = record {
    asked = h.asked;
    number = h.number ∙ s.number;
    due = h.due_is ∙ (ap (λ (o : Option ℕ). unwrap_or o 0 + at_least_zero reply.heartbeat_interval_ms) s.asked
        ∙ ap (λ (r : Result HeartbeatReply ClientFault). unwrap_or (awaited t) 0 + interval_in r) (sym said));
    epoch = h.epoch ∙ ap (λ (r : Result HeartbeatReply ClientFault). epoch_in r) (sym said);
    assigned = h.assigned ∙ (ap (λ (o : Option Assignment). option_or reply.assignment o) s.assigned
        ∙ ap (λ (r : Result HeartbeatReply ClientFault). option_or (assignment_in r) (assigned t)) (sym said));
  }

  due_same : (leaving : Bool) (now : ℕ) → asks_now g leaving now ≡ (is_none (awaited t) && (leaving || nat_le (due_from t) now))
  due_same leaving now = ap (λ (a : Option ℕ). is_none a && (leaving || nat_le g.due now)) s.asked ∙ ap (λ (n : ℕ). is_none (awaited t) && (leaving || nat_le n now)) s.due

  until_same : wait_end g ≡ waits_until t
  until_same = ap (λ (a : Option ℕ). option_map_or (λ now. 4611686018427387904) a g.due) s.asked
      ∙ ap (λ (n : ℕ). option_map_or (λ now. 4611686018427387904) (awaited t) n) s.due

  frame_same : (conf : ClientConf) (leaving : Bool)
      → heartbeat_frame conf (next_epoch g.number) (beat_epoch leaving g.epoch) ≡ heartbeat_frame conf (correlation (suc (requests Group t))) (beat_epoch leaving (member_epoch t))
  frame_same conf leaving = ap (λ (n : ℤ). heartbeat_frame conf (next_epoch n) (beat_epoch leaving g.epoch)) s.number
      ∙ ap (λ (e : ℤ). heartbeat_frame conf (next_epoch (correlation (requests Group t))) (beat_epoch leaving e)) s.epoch

moved : (t : Trace) (old new : GroupLink) → new ≡ old → GroupStands old t → GroupStands new t
moved t old new e s = subst (λ (g : GroupLink). GroupStands g t) (sym e) s

-- ---- what is to be done

module _ (conf : ClientConf) (core : ClientCore) (t : Trace) (s : StandsFor conf core t) where
  runs_on : core.ended ≡ false → is_done conf t ≡ false
  runs_on runs = sym s.ended ∙ runs

  pending_is : (b : Bool) → is_some core.fetches.lines ≡ b → is_pending conf t ≡ b
  pending_is b e = ap (λ (d : DataLink). is_some d.lines) (sym s.keeps) ∙ e

  left_is : core.fetches.left ≡ is_leaving conf t
  left_is = ap (λ (d : DataLink). d.left) s.keeps

  due_is : (now : ℕ) (b : Bool) → GroupStands core.group t → asks_now core.group core.fetches.left now ≡ b → is_due conf t now ≡ b
  due_is now b gs e =
      sym (due_same core.group t gs (is_leaving conf t) now) ∙ (ap (λ (l : Bool). asks_now core.group l now) (sym left_is) ∙ e)

  sends_is : (b : Bool) → GroupStands core.group t → sends core.fetches core.group.assigned ≡ b → sends (kept conf t) (assigned t) ≡ b
  sends_is b gs e =
      ap (λ (d : DataLink). sends d (assigned t)) (sym s.keeps) ∙ (ap (λ (a : Option Assignment). sends core.fetches a) (sym gs.assigned) ∙ e)

  request_is : GroupStands core.group t → behind_request core.fetches core.group.assigned ≡ behind_request (kept conf t) (assigned t)
  request_is gs = ap (λ (a : Option Assignment). behind_request core.fetches a) gs.assigned ∙ ap (λ (d : DataLink). behind_request d (assigned t)) s.keeps

  data_frame_is : GroupStands core.group t → data_frame core.conf core.fetches core.group.assigned ≡ data_frame conf (kept conf t) (assigned t)
  data_frame_is gs =
      ap (λ (a : Option Assignment). data_frame core.conf core.fetches a) gs.assigned
      ∙ (ap (λ (d : DataLink). data_frame core.conf d (assigned t)) s.keeps ∙ ap (λ (c : ClientConf). data_frame c (kept conf t) (assigned t)) s.made)

  beat_is : GroupStands core.group t → heartbeat_frame core.conf (next_epoch core.group.number) (beat_epoch core.fetches.left core.group.epoch)
      ≡ heartbeat_frame conf (correlation (suc (requests Group t))) (beat_epoch (is_leaving conf t) (member_epoch t))
  beat_is gs =
      ap (λ (c : ClientConf). heartbeat_frame c (next_epoch core.group.number) (beat_epoch core.fetches.left core.group.epoch)) s.made
      ∙ (ap (λ (l : Bool). heartbeat_frame conf (next_epoch core.group.number) (beat_epoch l core.group.epoch)) left_is
      ∙ frame_same core.group t gs conf (is_leaving conf t))

  module _ (g : GroupLink) (d : DataLink) (p : Bool) (now : ℕ) where
    pub stands_step : (result : Result ClientStep NoMemoryType) → p ≡ parts_with d.left core.parting result → StepsBy core.conf core.ended now core.group core.fetches result g d
        → StandsFor conf (record { conf = core.conf; group = g; fetches = d; parting = p; ended = core.ended }) (Asked now result ∷ t)
    stands_step (Err none) pe h = record {
      made = s.made;
      allowed = (tt, s.allowed);
      ended = s.ended;
      parting = pe ∙ s.parting;
      keeps = h.1 ∙ s.keeps;
      group = λ runs. same_step g t (moved t core.group g h.0 (s.group runs)) now (Err none) refl;
    }
    stands_step (Ok Done) pe h = record {
      made = s.made;
      allowed = (sym s.ended ∙ h.0, s.allowed);
      ended = s.ended;
      parting = pe ∙ s.parting;
      keeps = h.2 ∙ s.keeps;
      group = λ runs. same_step g t (moved t core.group g h.1 (s.group runs)) now (Ok Done) refl;
    }
    stands_step (Ok (Write lines)) pe h = record {
      made = s.made;
      allowed = ((runs_on h.0, pending_is true h.1, h.2 ∙ ap (λ (x : DataLink). lines_text x.lines) s.keeps), s.allowed);
      ended = s.ended;
      parting = pe ∙ s.parting;
      keeps = h.4 ∙ s.keeps;
      group = λ runs. same_step g t (moved t core.group g h.3 (s.group runs)) now (Ok (Write lines)) refl;
    }
    stands_step (Ok (Wait until)) pe h =
        let gs = s.group h.0 in
        let b = h.2 in
        let w = b.2 in
        record {
          made = s.made;
          allowed = (
            (runs_on h.0, pending_is false h.1, due_is now false gs b.0, sends_is false gs w.0, w.1 ∙ until_same core.group t gs),
            s.allowed,
          );
          ended = s.ended;
          parting = pe ∙ s.parting;
          keeps = w.2 ∙ s.keeps;
          group = λ runs. same_step g t (moved t core.group g b.1 gs) now (Ok (Wait until)) refl;
        }
    stands_step (Ok (Fetch frame)) pe h =
        let gs = s.group h.0 in
        let b = h.2 in
        let w = b.2 in
        record {
          made = s.made;
          allowed = (
            (runs_on h.0, pending_is false h.1, due_is now false gs b.0, sends_is true gs w.0, w.1 ∙ data_frame_is gs),
            s.allowed,
          );
          ended = s.ended;
          parting = pe ∙ s.parting;
          keeps = w.2 ∙ request_is gs;
          group = λ runs. same_step g t (moved t core.group g b.1 gs) now (Ok (Fetch frame)) refl;
        }
    stands_step (Ok (Heartbeat frame)) pe h =
        let gs = s.group h.0 in
        let b = h.2 in
        record {
          made = s.made;
          allowed = (
            (runs_on h.0, pending_is false h.1, due_is now true gs b.0, b.1 ∙ beat_is gs),
            s.allowed,
          );
          ended = s.ended;
          parting = pe ∙ (ap (λ (x : DataLink). x.left) b.3 ∙ left_is);
          keeps = b.3 ∙ s.keeps;
          group = λ _. asked_stands core.group t gs now frame g b.2;
        }

    pub stands_lost : (on : LinkKind) → LosesOn on core.group core.fetches g d
        → StandsFor conf (record { conf = core.conf; group = g; fetches = d; parting = core.parting; ended = core.ended }) (Lost on ∷ t)
    stands_lost Group h = record {
      made = s.made;
      allowed = (tt, s.allowed);
      ended = s.ended;
      parting = s.parting;
      keeps = h.1 ∙ s.keeps;
      group = λ runs. lost_stands core.group t (s.group runs) g h.0;
    }
    stands_lost Data h = record {
      made = s.made;
      allowed = (tt, s.allowed);
      ended = s.ended;
      parting = s.parting;
      keeps = h.1 ∙ ap behind_loss s.keeps;
      group = λ runs. same_lost g t (moved t core.group g h.0 (s.group runs));
    }

    pub stands_wrote : is_writing t ≡ true → d ≡ behind_written core.fetches
        → StandsFor conf (record { conf = core.conf; group = core.group; fetches = d; parting = core.parting; ended = core.ended }) (Wrote ∷ t)
    stands_wrote w h = record {
      made = s.made;
      allowed = (w, s.allowed);
      ended = s.ended;
      parting = s.parting;
      keeps = h ∙ ap behind_written s.keeps;
      group = λ runs. same_wrote core.group t (s.group runs);
    }

  pub unacknowledged_is : (is_served core.fetches && core.fetches.cut) ≡ unacknowledged conf t
  unacknowledged_is = ap (λ (d : DataLink). is_served d && d.cut) s.keeps

-- ---- replies

-- what isn't heard isn't taken
fault_taken : (fault : ClientFault) (told : Result HeartbeatReply ClientFault) → IsAnswer (Err fault) told → IsAnswer (Err fault) (taken_where told)
fault_taken (Refused code) told h = ap (λ (r : Result HeartbeatReply ClientFault). taken_where r) h
fault_taken (Strange place) told h = ap (λ (r : Result HeartbeatReply ClientFault). taken_where r) h
fault_taken NoMemory told h = tt

reply_answers : (frame : List ℕ) (old new : GroupLink) (r : Result Took ClientFault) → HearsReply frame old r new → IsAnswer r (taken_where (heard frame))
reply_answers frame old new (Ok Taken) h = ap (λ (r : Result HeartbeatReply ClientFault). taken_where r) h.1
reply_answers frame old new (Ok Stray) h = absurd h
reply_answers frame old new (Err fault) h = fault_taken fault (heard frame) h

-- what ends the consumer
ended_by : (f o l h : Bool) → ((o || h) || (f || l)) ≡ ((f || o) || (l || h))
ended_by true true l h = refl
ended_by true false l true = refl
ended_by true false l false = refl
ended_by false true l h = refl
ended_by false false true true = refl
ended_by false false true false = refl
ended_by false false false true = refl
ended_by false false false false = refl

ends_is : (on : LinkKind) (parting : Bool) (frame : List ℕ) (r : Result Took ClientFault) → ends_with on parting r ≡ (is_fault (Got on frame r) || ends_by (Got on frame r) parting)
ends_is on parting frame (Err fault) = refl
ends_is Group parting frame (Ok Stray) = refl
ends_is Data parting frame (Ok Stray) = refl
ends_is Group parting frame (Ok Taken) = refl
ends_is Data parting frame (Ok Taken) = refl

parting_same : (conf : ClientConf) (t : Trace) (on : LinkKind) (frame : List ℕ) (r : Result Took ClientFault) → is_parting conf t ≡ is_parting conf (Got on frame r ∷ t)
parting_same conf t on frame r = refl

module _ (frame : List ℕ) (old new : GroupLink) (t : Trace) (s : GroupStands old t) where
  reply_stands : (took : Took) → HearsReply frame old (Ok took) new → GroupStands new (Got Group frame (Ok took) ∷ t)
  reply_stands Taken h = told_stands old t s frame h.0 new h.1 h.2
  reply_stands Stray h = absurd h

  stray_stands : (took : Took) → ◌≡◌ {A = Result Took ClientFault} (Ok took) (Ok Stray) → new ≡ old → GroupStands new (Got Group frame (Ok took) ∷ t)
  stray_stands Stray e same = same_stray new t (moved t old new same s) Group frame
  stray_stands Taken e same = absurd cc

  takes_stands : (b : Bool) (took : Took) → group_awaits frame old ≡ b → TakesFrame frame old (Ok took) new → GroupStands new (Got Group frame (Ok took) ∷ t)
  takes_stands true took e h = reply_stands took (h.awaited e)
  takes_stands false took e h = let x = h.stray e in stray_stands took x.0 x.1

  taken_stands : (on : LinkKind) (old_data new_data : DataLink) (r : Result Took ClientFault) (parting : Bool) → ends_with on parting r ≡ false
      → TakesOn on frame old old_data r new new_data → GroupStands new (Got on frame r ∷ t)
  taken_stands Group od nd (Ok took) p e h = takes_stands (group_awaits frame old) took refl h.0
  taken_stands Group od nd (Err fault) p e h = absurd cc
  taken_stands Data od nd (Ok took) p e h = same_data new t (moved t old new h.1 s) frame took
  taken_stands Data od nd (Err fault) p e h = absurd cc

-- what the data link keeps behind a frame
kept_taken : (conf : ClientConf) (t : Trace) (frame : List ℕ) (r : Result Took ClientFault) → data_after (kept conf t) frame r ≡ kept conf (Got Data frame r ∷ t)
kept_taken conf t frame (Ok Taken) = refl
kept_taken conf t frame (Ok Stray) = refl
kept_taken conf t frame (Err fault) = refl

kept_group : (conf : ClientConf) (t : Trace) (frame : List ℕ) (r : Result Took ClientFault) → kept conf t ≡ kept conf (Got Group frame r ∷ t)
kept_group conf t frame (Ok Taken) = refl
kept_group conf t frame (Ok Stray) = refl
kept_group conf t frame (Err fault) = refl

kept_stray : (conf : ClientConf) (t : Trace) (on : LinkKind) (frame : List ℕ) → kept conf t ≡ kept conf (Got on frame (Ok Stray) ∷ t)
kept_stray conf t Group frame = refl
kept_stray conf t Data frame = refl

module _ (conf : ClientConf) (core : ClientCore) (t : Trace) (s : StandsFor conf core t) (frame : List ℕ) where
  awaits_group : core.ended ≡ false → group_awaits frame core.group ≡ awaits conf t Group frame
  awaits_group runs =
      let gs = s.group runs in
      let done : is_done conf t ≡ false = sym s.ended ∙ runs in
      ap (λ (o : Option ℕ). is_some o && has_correlation frame core.group.number) gs.asked
      ∙ (ap (λ (n : ℤ). is_some (awaited t) && has_correlation frame n) gs.number
      ∙ ap (λ (b : Bool). not b && (is_some (awaited t) && has_correlation frame (correlation (requests Group t)))) (sym done))

  awaits_data : core.ended ≡ false → data_awaits frame core.fetches ≡ awaits conf t Data frame
  awaits_data runs =
      let done : is_done conf t ≡ false = sym s.ended ∙ runs in
      ap (λ (d : DataLink). data_awaits frame d) s.keeps ∙ ap (λ (b : Bool). not b && data_awaits frame (kept conf t)) (sym done)

  answers_group : (g : GroupLink) (b : Bool) (r : Result Took ClientFault) → group_awaits frame core.group ≡ b → TakesFrame frame core.group r g
      → MatchBool b (Judges conf t Group frame r) (r ≡ Ok Stray)
  answers_group g true r e h = reply_answers frame core.group g r (h.awaited e)
  answers_group g false r e h = (h.stray e).0

  answers_data : (d : DataLink) (b : Bool) (r : Result Took ClientFault) → data_awaits frame core.fetches ≡ b → TakesData frame core.fetches r d
      → MatchBool b (Judges conf t Data frame r) (r ≡ Ok Stray)
  answers_data d true r e h = subst (λ (x : DataLink). TakesReply frame x.asked r) s.keeps (h.awaited e)
  answers_data d false r e h = h.stray e

  taken_allowed : (g : GroupLink) (d : DataLink) (on : LinkKind) (r : Result Took ClientFault) → core.ended ≡ false → TakesOn on frame core.group core.fetches r g d → AllowsReply conf t on frame r
  taken_allowed g d Group r runs h = answers_group g (awaits conf t Group frame) r (awaits_group runs) h.0
  taken_allowed g d Data r runs h = answers_data d (awaits conf t Data frame) r (awaits_data runs) h.0

  over_by : (on : LinkKind) (b : Bool) → b ≡ false → MatchBool b (Judges conf t on frame (Ok Stray)) (◌≡◌ {A = Result Took ClientFault} (Ok Stray) (Ok Stray))
  over_by on true e = absurd cc
  over_by on false e = refl

  over_allowed : (on : LinkKind) → core.ended ≡ true → AllowsReply conf t on frame (Ok Stray)
  over_allowed Group over =
      over_by Group (awaits conf t Group frame)
      (ap (λ (b : Bool). not b && (is_some (awaited t) && has_correlation frame (correlation (requests Group t)))) (sym s.ended ∙ over))
  over_allowed Data over = over_by Data (awaits conf t Data frame) (ap (λ (b : Bool). not b && data_awaits frame (kept conf t)) (sym s.ended ∙ over))

  module _ (g : GroupLink) (d : DataLink) where
    allowed_by : (on : LinkKind) (r : Result Took ClientFault) (b : Bool) → core.ended ≡ b → RepliesBy b on frame core.group core.fetches r g d → AllowsReply conf t on frame r
    allowed_by on r true over h = subst (λ (x : Result Took ClientFault). AllowsReply conf t on frame x) (sym h.0) (over_allowed on over)
    allowed_by on r false runs h = taken_allowed g d on r runs h

    group_by : (on : LinkKind) (r : Result Took ClientFault) (b : Bool) → core.ended ≡ b → (b || ends_with on core.parting r) ≡ false
        → RepliesBy b on frame core.group core.fetches r g d → GroupStands g (Got on frame r ∷ t)
    group_by on r true over fine h = absurd cc
    group_by on r false runs fine h = taken_stands frame core.group g t (s.group runs) on core.fetches d r core.parting fine h

    data_on : (on : LinkKind) (r : Result Took ClientFault) → TakesOn on frame core.group core.fetches r g d → d ≡ kept conf (Got on frame r ∷ t)
    data_on Group r h = h.1 ∙ (s.keeps ∙ kept_group conf t frame r)
    data_on Data r h = h.0.becomes ∙ (ap (λ (x : DataLink). data_after x frame r) s.keeps ∙ kept_taken conf t frame r)

    data_by : (on : LinkKind) (r : Result Took ClientFault) (b : Bool) → RepliesBy b on frame core.group core.fetches r g d → d ≡ kept conf (Got on frame r ∷ t)
    data_by on r true h = h.2 ∙ (s.keeps ∙ (kept_stray conf t on frame ∙ ap (λ (x : Result Took ClientFault). kept conf (Got on frame x ∷ t)) (sym h.0)))
    data_by on r false h = data_on on r h

    pub stands_reply : (e : Bool) (on : LinkKind) (r : Result Took ClientFault) → e ≡ (core.ended || ends_with on core.parting r)
        → RepliesBy core.ended on frame core.group core.fetches r g d
        → StandsFor conf (record { conf = core.conf; group = g; fetches = d; parting = core.parting; ended = e }) (Got on frame r ∷ t)
    stands_reply e on r e_is h = record {
      made = s.made;
      allowed = (allowed_by on r core.ended refl h, s.allowed);
      ended = e_is
          ∙ (ap (λ (b : Bool). b || ends_with on core.parting r) s.ended
          ∙ (ap (λ (p : Bool). is_done conf t || ends_with on p r) s.parting
          ∙ (ap (λ (b : Bool). is_done conf t || b) (ends_is on (is_parting conf t) frame r)
          ∙ ended_by (is_fault (Got on frame r)) (is_over t) (ends_by (Got on frame r) (is_parting conf t)) (has_left conf t))));
      parting = s.parting ∙ parting_same conf t on frame r;
      keeps = data_by on r core.ended h;
      group = λ fine. group_by on r core.ended refl (sym e_is ∙ fine) h;
    }
