-- A connection has at most 100 sessions.
use Rattle.std.proofs.Common.{◌≡◌, ◌≤◌, ◌<◌, ◌+◌, ℕ, ℤ, pos, negsuc, int_lt, Bool, true, false, cond, not, ◌&&◌, ◌||◌, List, [], ◌∷◌, Option, Some, None, is_none, nat_le, length, refl, sym, ap, ◌∙◌, arith, length-append, if◌then◌else◌}
use Rattle.std.proofs.lemmas.Bool.Decides.{nat_tests}
use Rattle.share_model.specs.declared.ack.AckBatch.{AckBatch}
use Rattle.msgs_share.specs.declared.share_topic.SharePartition.{SharePartition}
use Rattle.msgs_share.specs.declared.share_topic.ShareTopic.{ShareTopic}
use Rattle.share_session.specs.SessionParts.{SessionParts, most_sessions}
use Rattle.share_session.specs.declared.step.Caller.{Caller}
use Rattle.share_session.specs.declared.fault.SessionFault.{SessionFault}
use Rattle.share_session.specs.declared.fault.SessionFault.TheVariants.{BadGroup, BadMember, BadEpoch, Invalid, Limit, NotFound}
use Rattle.share_session.specs.Requests.{is_name, entries, has_repeat, has_batches}
use Rattle.share_session.specs.Sessions.{is_of, session_of, without, with_session, applied}
use Rattle.share_session.specs.Refusals.{opens, closes, first_row, is_next, standing_rows, request_rows, refusal}
use Rattle.share_session.specs.Plans.{visit_list, partitions_of, session_after, without_shards, opening, fetching, acknowledging, closing, fetch_by_epoch, ack_by_epoch}

module _ (group member : List ℕ) where
  without_few : (ss : List SessionParts) → length (without group member ss) ≤ length ss
  without_few [] = omega arith
  without_few (s ∷ ss) = by (is_of group member s) (without_few ss)
    where
      by : (b : Bool) → length (without group member ss) ≤ length ss → length (cond (not b) (s ∷ without group member ss) (without group member ss)) ≤ length (s ∷ ss)
      by true h = omega arith
      by false h = omega arith

  without_one : (ss : List SessionParts) (s : SessionParts) → session_of group member ss ≡ Some s → length (without group member ss) < length ss
  without_one [] s h = absurd (cc)
  without_one (x ∷ ss) s h = by (is_of group member x) h (without_one ss s)
    where
      by : (b : Bool) → cond b (Some x) (session_of group member ss) ≡ Some s → (session_of group member ss ≡ Some s → length (without group member ss) < length ss) →
          length (cond (not b) (x ∷ without group member ss) (without group member ss)) < length (x ∷ ss)
      by true h rest = omega (arith, without_few ss)
      by false h rest = omega (arith, rest h)

  -- a session more, where the member had one or there was room
  one_more : (ss : List SessionParts) → length ss ≤ most_sessions → (session : Option SessionParts) → session_of group member ss ≡ session →
      (is_none session && nat_le most_sessions (length ss)) ≡ false → length (without group member ss) + 1 ≤ most_sessions
  one_more ss few (Some s) e h = omega (arith, without_one ss s e)
  one_more ss few None e h = let room : length ss < most_sessions = grind (arith, nat_tests) in omega (arith, without_few ss)

with_few : (new : SessionParts) (ss : List SessionParts) → length (with_session new ss) ≡ length ss
with_few new [] = refl
with_few new (s ∷ ss) = by (is_of new.group new.member s) (with_few new ss)
  where
    by : (b : Bool) → length (with_session new ss) ≡ length ss → length (if b then new ∷ ss else s ∷ with_session new ss) ≡ length (s ∷ ss)
    by true h = refl
    by false h = omega arith

this_row : (row : Bool × SessionFault) (rows : List (Bool × SessionFault)) → first_row (row ∷ rows) ≡ None → row.0 ≡ false
this_row row rows h = by row.0 h
  where
    by : (b : Bool) → (if b then Some row.1 else first_row rows) ≡ None → b ≡ false
    by true h = absurd (cc)
    by false h = refl

next_rows : (row : Bool × SessionFault) (rows : List (Bool × SessionFault)) → first_row (row ∷ rows) ≡ None → first_row rows ≡ None
next_rows row rows h = by row.0 h
  where
    by : (b : Bool) → (if b then Some row.1 else first_row rows) ≡ None → first_row rows ≡ None
    by true h = absurd (cc)
    by false h = h

module _ (may_open : Bool) (ss : List SessionParts) (caller : Caller) (epoch : ℤ) (topics : List (ShareTopic SharePartition)) (few : length ss ≤ most_sessions)
    (granted : refusal may_open ss caller.group caller.member epoch topics ≡ None) where
  abbrev own : Option SessionParts
  own = session_of caller.group caller.member ss

  -- what the row of the limit says of a request that opens a session
  limit : opens epoch ≡ true → (is_none own && nat_le most_sessions (length ss)) ≡ false
  limit opening =
      sym (by (is_none own)) ∙ ap (λ o. is_none own && o && nat_le most_sessions (length ss)) (sym opening)
      ∙ this_row (is_none own && opens epoch && nat_le most_sessions (length ss), Limit)
      ((is_none own && not (opens epoch), NotFound) ∷ (int_lt (pos 0) epoch && not (is_next epoch own), BadEpoch) ∷ [])
      (next_rows (has_repeat (entries topics) || (opens epoch && has_batches topics), Invalid) (standing_rows own (length ss) epoch)
      (next_rows (int_lt epoch (negsuc 0) || (opens epoch && not may_open), BadEpoch)
      ((has_repeat (entries topics) || (opens epoch && has_batches topics), Invalid) ∷ standing_rows own (length ss) epoch)
      (next_rows (not (is_name caller.member), BadMember) (request_rows may_open epoch topics own (length ss))
      (next_rows (not (is_name caller.group), BadGroup) ((not (is_name caller.member), BadMember) ∷ request_rows may_open epoch topics own (length ss)) granted))))
    where
      by : (b : Bool) → (b && true && nat_le most_sessions (length ss)) ≡ (b && nat_le most_sessions (length ss))
      by true = refl
      by false = refl

  -- a fetch leaves at most 100 sessions
  pub fetch_few : (wanted : List (ℕ × List AckBatch)) (forgotten : List ℕ) → length (applied (fetch_by_epoch caller own epoch wanted forgotten).change ss) ≤ most_sessions
  fetch_few wanted forgotten = by (closes epoch) (opens epoch) refl
    where
      by : (b d : Bool) → opens epoch ≡ d →
          length (applied (if b then closing caller own wanted else if d then opening caller own wanted forgotten else fetching caller own epoch wanted forgotten).change ss) ≤ most_sessions
      by true d e = omega (arith, without_few caller.group caller.member ss)
      by false true e =
          omega (arith, one_more caller.group caller.member ss few own refl (limit e), length-append (without caller.group caller.member ss) (session_after caller (pos 0) (without_shards forgotten (visit_list [] wanted)) ∷ []))
      by false false e = omega (arith, with_few (session_after caller epoch (without_shards forgotten (visit_list (partitions_of own) wanted))) ss)

  -- so does an acknowledgement
  pub ack_few : (wanted : List (ℕ × List AckBatch)) → length (applied (ack_by_epoch caller own epoch wanted).change ss) ≤ most_sessions
  ack_few wanted = by (closes epoch)
    where
      by : (b : Bool) → length (applied (if b then closing caller own wanted else acknowledging caller own epoch wanted).change ss) ≤ most_sessions
      by true = omega (arith, without_few caller.group caller.member ss)
      by false = omega (arith, with_few (session_after caller epoch (partitions_of own)) ss)
