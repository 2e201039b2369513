-- A script is read on by one event, or to its end.
use Rattle.std.proofs.Common.{◌≡◌, ◌≤◌, ◌+◌, ℕ, List, [], ◌∷◌, ◌++◌, true, Option, Some, None, IfSome, length, length-append, refl}
use Rattle.std.proofs.Common.{sym, ap, ◌∙◌, subst, arith, append_assoc, append-nil}
use Rattle.std.specs.List.{flat_map, AllByRecursion}
use Rattle.std.proofs.lemmas.List.Concat.{flat_map-append}
use Rattle.std.specs.Io.KnownBytes.{Consumes, IsAtEnd}
use Rattle.std.proofs.KnownBytes.{Consumes-trans}
use Rattle.session_script.specs.declared.event.Event.{Event}
use Rattle.session_script.specs.Script.{Begins, IsEvent, IsScript, IsMalformed, IsRefused, HasNoMalformed, line_of, end_line, longest}
use Rattle.session_script.specs.Unread.{Unread}
use Rattle.session_script.specs.Reading.{Takes}
use Rattle.session_script.proofs.OneReading.{malformed_is_none}
use Rattle.share_top.specs.Changes.{InputChange}
use Rattle.share_top.specs.Statuses.{IsDone, IsRefusedScript, IsCut, IsBegun}
use Rattle.share_top.specs.Going.{IsRead}

abbrev Held : Type 0
Held = Option (List ℕ)

abbrev lines : List Event → List ℕ
lines events = flat_map line_of events

lines_then : (events : List Event) (e : Event) → lines (events ++ e ∷ []) ≡ lines events ++ line_of e
lines_then events e = flat_map-append line_of events (e ∷ []) ∙ ap (λ (l : List ℕ). lines events ++ l) (append-nil (line_of e))

all_then : (events : List Event) (e : Event) → AllByRecursion IsEvent events → IsEvent e → AllByRecursion IsEvent (events ++ e ∷ [])
all_then [] e p q = (q, tt)
all_then (f ∷ events) e p q = (p.0, all_then events e p.1 q)

all_less : (events : List Event) (e : Event) → AllByRecursion IsEvent (events ++ e ∷ []) → AllByRecursion IsEvent events
all_less [] e p = tt
all_less (f ∷ events) e p = (p.0, all_less events e p.1)

pub nothing_left : (left : Held) → Consumes left left []
nothing_left None = tt
nothing_left (Some xs) = refl

abbrev pub starts : (left : Held) → IsRead left left (record { place = 0; pending = [] })
starts left = record {
  given = [];
  events = [];
  consumed = nothing_left left;
  begins = record { each = tt; parts = refl; within = omega arith };
  place = refl;
}

-- ---- the text is what was given and what is left

whole_text : (left after : Held) (given : List ℕ) (P : List ℕ → Type 0) → Consumes left after given → IfSome after (λ more. P (given ++ more)) → IfSome left P
whole_text None after given P c h = tt
whole_text (Some text) None given P c h = absurd c
whole_text (Some text) (Some more) given P c h = subst P (sym c) h

some_end : (after : Held) (P : List ℕ → Type 0) → IsAtEnd after → P [] → IfSome after P
some_end None P e h = tt
some_end (Some more) P e h = subst P (sym e) h

some_each : (after : Held) (P : List ℕ → Type 0) → ((more : List ℕ) → P more) → IfSome after P
some_each None P h = tt
some_each (Some more) P h = h more

some_then : (after : Held) (P Q : List ℕ → Type 0) → ((more : List ℕ) → P more → Q more) → IfSome after P → IfSome after Q
some_then None P Q f h = tt
some_then (Some more) P Q f h = f more h

-- ---- one line more

-- what was given before and in a call, cut behind the line that it took
given_then : (given more : List ℕ) (events : List Event) (u v : Unread) (line : List ℕ) → Begins given events u.pending →
    u.pending ++ more ≡ line ++ v.pending → given ++ more ≡ (lines events ++ line) ++ v.pending
given_then given more events u v line b p =
    ap (λ (l : List ℕ). l ++ more) b.parts ∙ append_assoc (lines events) u.pending more ∙ ap (λ (l : List ℕ). lines events ++ l) p
    ∙ sym (append_assoc (lines events) line v.pending)

pub place_line : (left mid after : Held) (u v : Unread) (e : Event) (g : IsRead left mid u) (t : Takes u v mid after (line_of e))
    → v.place ≡ length (lines (g.events ++ e ∷ []))
place_line left mid after u v e g t = sym (ap length (lines_then g.events e) ∙ length-append (lines g.events) (line_of e)
    ∙ ap (λ (n : ℕ). n + length (line_of e)) (sym g.place) ∙ sym t.place)

pub begins_line : (left mid after : Held) (u v : Unread) (e : Event) (g : IsRead left mid u) (t : Takes u v mid after (line_of e)) → IsEvent e → v.place ≤ longest
    → Begins (g.given ++ t.given) (g.events ++ e ∷ []) v.pending
begins_line left mid after u v e g t is le =
    let size = place_line left mid after u v e g t in
    record {
      each = all_then g.events e g.begins.each is;
      parts = given_then g.given t.given g.events u v (line_of e) g.begins t.parts ∙ ap (λ (l : List ℕ). l ++ v.pending) (sym (lines_then g.events e));
      within = omega (arith, size, le);
    }

abbrev pub read_on : (left mid after : Held) (u v : Unread) (e : Event) → IsRead left mid u → Takes u v mid after (line_of e) → IsEvent e → v.place ≤ longest
    → IsRead left after v
read_on left mid after u v e g t is le = record {
  given = g.given ++ t.given;
  events = g.events ++ e ∷ [];
  consumed = Consumes-trans left mid after g.given t.given g.consumed t.consumed;
  begins = begins_line left mid after u v e g t is le;
  place = place_line left mid after u v e g t;
}

-- the input begins with what was read
pub begun_now : (input : InputChange) (mid : Held) (u : Unread) (g : IsRead input.left mid u) (Session : List Event → Type 0) → Session g.events → IsBegun input Session
begun_now input mid u g Session session = record {
  events = g.events;
  begins = whole_text input.left mid g.given (λ text. (rest : List ℕ) × Begins text g.events rest) g.consumed
      (some_each mid (λ more. (rest : List ℕ) × Begins (g.given ++ more) g.events rest)
      (λ more. (
        u.pending ++ more,
        record {
          each = g.begins.each;
          parts = ap (λ (l : List ℕ). l ++ more) g.begins.parts ∙ append_assoc (lines g.events) u.pending more;
          within = g.begins.within;
        },
      )));
  session = session;
}

-- ---- no line more

begins_still : (left mid after : Held) (u v : Unread) (g : IsRead left mid u) (t : Takes u v mid after []) (more : List ℕ)
    → Begins ((g.given ++ t.given) ++ more) g.events (v.pending ++ more)
begins_still left mid after u v g t more = record {
  each = g.begins.each;
  parts = ap (λ (l : List ℕ). l ++ more) (given_then g.given t.given g.events u v [] g.begins t.parts
      ∙ ap (λ (l : List ℕ). l ++ v.pending) (append-nil (lines g.events))) ∙ append_assoc (lines g.events) v.pending more;
  within = g.begins.within;
}

still_at : (left mid after : Held) (u v : Unread) (g : IsRead left mid u) → Takes u v mid after [] → v.place ≡ length (lines g.events)
still_at left mid after u v g t = omega (arith, t.place, g.place)

module _ (input : InputChange) (mid : Held) (u v : Unread) (g : IsRead input.left mid u) where
  abbrev Took : List ℕ → Type 0
  Took line = Takes u v mid input.left_after line

  all_given : (line : List ℕ) (t : Took line) → Consumes input.left input.left_after (g.given ++ t.given)
  all_given line t = Consumes-trans input.left mid input.left_after g.given t.given g.consumed t.consumed

  is_script : (t : Took end_line) → v.pending ≡ [] → v.place ≤ longest → IsScript (g.given ++ t.given) g.events
  is_script t none le =
      let given = g.given ++ t.given in
      let all : given ≡ lines g.events ++ end_line = given_then g.given t.given g.events u v end_line g.begins t.parts
      ∙ ap (λ (l : List ℕ). (lines g.events ++ end_line) ++ l) none ∙ append-nil (lines g.events ++ end_line) in
      let size : length given ≡ v.place =
      ap length all ∙ length-append (lines g.events) end_line ∙ ap (λ (n : ℕ). n + length end_line) (sym g.place) ∙ sym t.place in
      let begins : Begins given g.events end_line = record { each = g.begins.each; parts = all; within = g.begins.within } in
      (begins, (let r : length given ≤ longest = omega (arith, size, le) in r))

  -- the last line was taken
  pub done : (Session : List Event → Type 0) (t : Took end_line) → v.pending ≡ [] → IsAtEnd input.left_after → v.place ≤ longest → input.ended ≡ true
      → Session g.events → IsDone input Session
  done Session t none end le ended session =
      let given = g.given ++ t.given in
      record {
        events = g.events;
        whole = end;
        ended = ended;
        session = session;
        script = whole_text input.left input.left_after given (λ text. IsScript text g.events) (all_given end_line t)
            (some_end input.left_after (λ more. IsScript (given ++ more) g.events) end
            (subst (λ (l : List ℕ). IsScript l g.events) (sym (append-nil given)) (is_script t none le)));
      }

  abbrev Refuses : ℕ → Type 0
  Refuses fault = IfSome input.left_after (λ more. IsRefused v.place (v.pending ++ more) fault)

  -- what no line of an event and no end begins is the first malformed line
  is_malformed : (fault : ℕ) (t : Took []) → Refuses fault → IfSome input.left (λ text. IsMalformed text g.events fault)
  is_malformed fault t h =
      let given = g.given ++ t.given in
      let at = still_at input.left mid input.left_after u v g t in
      whole_text input.left input.left_after given (λ text. IsMalformed text g.events fault) (all_given [] t)
      (some_then input.left_after (λ more. IsRefused v.place (v.pending ++ more) fault) (λ more. IsMalformed (given ++ more) g.events fault)
      (λ more r. (
        v.pending ++ more,
        begins_still input.left mid input.left_after u v g t more,
        subst (λ (n : ℕ). IsRefused n (v.pending ++ more) fault) at r,
      )) h)

  pub refused : (Session : List Event → ℕ → Type 0) (fault : ℕ) → Took [] → Refuses fault → Session g.events fault → IsRefusedScript input Session
  refused Session fault t h session =
      let m = is_malformed fault t h in
      record {
        events = g.events;
        fault = fault;
        malformed = m;
        no_script = some_then input.left (λ text. IsMalformed text g.events fault) (λ text. (others : List Event) → IsScript text others → ⊥)
            (λ text is others s. malformed_is_none text g.events others fault is s) m;
        session = session;
      }

  -- the input failed
  pub cut : (Session : List Event → Type 0) (t : Took []) → HasNoMalformed v.place v.pending → Session g.events → IsCut input Session
  cut Session t none session =
      let given = g.given ++ t.given in
      record {
        given = given;
        events = g.events;
        consumed = all_given [] t;
        whole = (
          v.pending,
          subst (λ (l : List ℕ). Begins l g.events v.pending) (append-nil given)
              (subst (λ (l : List ℕ). Begins ((g.given ++ t.given) ++ []) g.events l) (append-nil v.pending) (begins_still input.left mid input.left_after u v g t [])),
          subst (λ (n : ℕ). HasNoMalformed n v.pending) (still_at input.left mid input.left_after u v g t) none,
        );
        session = session;
      }

  pub begins_behind : (e : Event) (t : Took (line_of e)) → IsEvent e → v.place ≤ longest → IfSome input.left (λ text. (rest : List ℕ) × Begins text (g.events ++ e ∷ []) rest)
  begins_behind e t is le =
      let given = g.given ++ t.given in
      let b = begins_line input.left mid input.left_after u v e g t is le in
      whole_text input.left input.left_after given (λ text. (rest : List ℕ) × Begins text (g.events ++ e ∷ []) rest) (all_given (line_of e) t)
      (some_each input.left_after (λ more. (rest : List ℕ) × Begins (given ++ more) (g.events ++ e ∷ []) rest)
      (λ more. (
        v.pending ++ more,
        record {
          each = b.each;
          parts = ap (λ (l : List ℕ). l ++ more) b.parts ∙ append_assoc (lines (g.events ++ e ∷ [])) v.pending more;
          within = b.within;
        },
      )))

  -- a line was taken, and its event is counted
  pub begun_behind : (Session : List Event → Type 0) (e : Event) → Took (line_of e) → IsEvent e → v.place ≤ longest → Session (g.events ++ e ∷ []) → IsBegun input Session
  begun_behind Session e t is le session = record { events = g.events ++ e ∷ []; begins = begins_behind e t is le; session = session }

  -- or isn't
  pub begun_before : (Session : List Event → Type 0) (e : Event) → Took (line_of e) → IsEvent e → v.place ≤ longest → Session g.events → IsBegun input Session
  begun_before Session e t is le session = record {
    events = g.events;
    begins = some_then input.left (λ text. (rest : List ℕ) × Begins text (g.events ++ e ∷ []) rest) (λ text. (rest : List ℕ) × Begins text g.events rest)
        (λ text b. (
          line_of e ++ b.0,
          record {
            each = all_less g.events e b.1.each;
            parts = b.1.parts ∙ ap (λ (l : List ℕ). l ++ b.0) (lines_then g.events e) ∙ append_assoc (lines g.events) (line_of e) b.0;
            within = (let size = ap length (lines_then g.events e) in let sum = length-append (lines g.events) (line_of e) in omega (arith, size, sum, b.1.within));
          },
        )) (begins_behind e t is le);
    session = session;
  }
