-- What is told of outcomes: lines that are gathered and handed on, or numbers.
use Rattle.std.proofs.Common.{◌≡◌, ◌≢◌, ℕ, List, [], ◌++◌, Bool, true, false, Some, None, Ok, Err, take, drop, refl, sym, ap, subst, ◌∙◌, append_assoc, append-nil}
use Rattle.std.specs.Prelude.{OnErr, OnOk, Result}
use Rattle.std.proofs.lemmas.List.{take-append-drop}
use Rattle.std.proofs.lemmas.List.Concat.{flat_map-append}
use Rattle.std.specs.Io.KnownBytes.{Appends, Keeps}
use Rattle.std.proofs.KnownBytes.{Appends-trans}
use Rattle.edge_io.specs.Causes.{Rose}
use Rattle.edge_io.specs.Streams.{AppendsFront}
use Rattle.text_pieces.specs.declared.fault.GenFault.{GenFault}
use Rattle.text_pieces.specs.declared.fault.GenFault.TheVariants.{NoMemory, Write}
use Rattle.text_pieces.specs.Pieces.{HandsFull, HandsOn, WritesPieces}
use Rattle.topic_conf.specs.declared.topic.Topic.{Topic}
use Rattle.session_script.specs.declared.event.Outcome.{Outcome}
use Rattle.session_script.specs.declared.summary.Summary.{Summary}
use Rattle.session_script.specs.Output.{outcome_line, output_of}
use Rattle.session_script.specs.Summary.{joined, summary_of}
use Rattle.session_script.proofs.Sums.{summary_append}
use Rattle.session_script.specs.declared.telling.Telling.{Telling}
use Rattle.session_script.specs.declared.telling.Telling.TheVariants.{Lines, Numbers}
use Rattle.session_script.specs.Telling.{Held, Tells, TellsFront, TellsMore, TellsPart, TellsSomeOf, TellsStill, is_summary, last_line, told_in_all, told_so_far}
use Rattle.session_script.proofs.Texts.{appends_none, front_more, keeps_appends}

-- ---- keeping a text

pub keeps_then : (a b c : Held) → Keeps a b → Keeps b c → Keeps a c
keeps_then a b c p q = go a b c p q where
  go : (a b c : Held) → Keeps a b → Keeps b c → Keeps a c
  go None b c p q = tt
  go (Some x) None c p q = absurd p
  go (Some x) (Some y) None p q = absurd q
  go (Some x) (Some y) (Some z) p q = q ∙ p

-- ---- what waits

module _ (start a b : Held) where
  -- some of what waits is handed on
  pub then_on : (all waited waits : List ℕ) → HandsOn start a all waited → HandsOn a b waited waits → HandsOn start b all waits
  then_on all waited waits p q = record {
    front = p.front ++ q.front;
    grown = Appends-trans start a b p.front q.front p.grown q.grown;
    parts = append_assoc p.front q.front waits ∙ ap (λ (l : List ℕ). p.front ++ l) q.parts ∙ p.parts;
  }

  -- a front of it
  pub then_front : (all waited rest : List ℕ) → HandsOn start a all waited → AppendsFront a b waited rest → AppendsFront start b all rest
  then_front all waited rest p q = record {
    front = p.front ++ q.front;
    parts = append_assoc p.front q.front rest ∙ ap (λ (l : List ℕ). p.front ++ l) q.parts ∙ p.parts;
    grown = Appends-trans start a b p.front q.front p.grown q.grown;
  }

  -- all of it
  pub then_all : (all waited : List ℕ) → HandsOn start a all waited → Appends a b waited → Appends start b all
  then_all all waited p q = subst (λ (l : List ℕ). Appends start b l) p.parts (Appends-trans start a b p.front waited p.grown q)

-- more waits
pub more_waits : (start a : Held) (all waited more : List ℕ) → HandsOn start a all waited → HandsOn start a (all ++ more) (waited ++ more)
more_waits start a all waited more p = record {
  front = p.front;
  grown = p.grown;
  parts = sym (append_assoc p.front waited more) ∙ ap (λ (l : List ℕ). l ++ more) p.parts;
}

pub all_on : (a b : Held) (text : List ℕ) → Appends a b text → HandsOn a b text []
all_on a b text p = record { front = text; grown = p; parts = append-nil text }

-- ---- lines

module _ (topics : List Topic) where
  abbrev lines : List Outcome → List ℕ
  lines xs = output_of topics xs

  pub lines_more : (xs ys : List Outcome) → lines (xs ++ ys) ≡ lines xs ++ lines ys
  lines_more xs ys = flat_map-append (outcome_line topics) xs ys

  -- the lines before one that was not put
  pub missing_lines : (xs : List Outcome) (i : ℕ) (old text : List ℕ) → text ≡ old ++ lines (take i xs)
      → (missing : List ℕ) × (text ++ missing ≡ old ++ lines xs)
  missing_lines xs i old text is = (
    lines (drop i xs),
    ap (λ (l : List ℕ). l ++ lines (drop i xs)) is ∙ append_assoc old (lines (take i xs)) (lines (drop i xs))
        ∙ ap (λ (l : List ℕ). old ++ l) (sym (lines_more (take i xs) (drop i xs)) ∙ ap lines (take-append-drop i xs)),
  )

  module _ (start a b : Held) (xs ys : List Outcome) (text : List ℕ) (p : HandsOn start a (lines xs) text) where
    waits_more : HandsOn start a (lines (xs ++ ys)) (text ++ lines ys)
    waits_more = subst (λ (l : List ℕ). HandsOn start a l (text ++ lines ys)) (sym (lines_more xs ys)) (more_waits start a (lines xs) text (lines ys) p)

    pub lines_told : (new : List ℕ) → HandsOn a b (text ++ lines ys) new → HandsOn start b (lines (xs ++ ys)) new
    lines_told new q = then_on start a b (lines (xs ++ ys)) (text ++ lines ys) new waits_more q

    pub lines_part : (new : List ℕ) → a ≡ b → (missing : List ℕ) × (new ++ missing ≡ text ++ lines ys)
        → (missing : List ℕ) × HandsOn start b (lines (xs ++ ys)) (new ++ missing)
    lines_part new same q = (
      q.0,
      subst (λ (h : Held). HandsOn start h (lines (xs ++ ys)) (new ++ q.0)) same
          (subst (λ (l : List ℕ). HandsOn start a (lines (xs ++ ys)) l) (sym q.1) waits_more),
    )

    pub lines_front : (rest : List ℕ) × AppendsFront a b (text ++ lines ys) rest → (rest : List ℕ) × AppendsFront start b (lines (xs ++ ys)) rest
    lines_front q = (q.0, then_front start a b (lines (xs ++ ys)) (text ++ lines ys) q.0 waits_more q.1)

-- ---- a fault of a text's writing

pub is_write : {T : Type 0} (result : Result T GenFault) (before after : ℕ) → result ≢ Err NoMemory → (result ≡ Err Write → Rose before after)
    → OnErr result (Rose before after)
is_write (Ok x) before after none cause = tt
is_write (Err Write) before after none cause = cause refl
is_write (Err NoMemory) before after none cause = absurd (none refl)

pub is_counted : {T : Type 0} (result : Result T GenFault) (before after : ℕ) → (result ≢ Err Write → after ≡ before) → OnOk result (after ≡ before)
is_counted (Ok x) before after same = same (λ e. absurd (let never : ⊥ = cc in never))
is_counted (Err f) before after same = tt

-- ---- both ways of telling

pub part_of : (topics : List Topic) (telling : Telling) (start now : Held) (xs : List Outcome) → Tells topics telling start now xs
    → TellsPart topics telling start now xs
part_of topics (Lines text) start now xs t = ([], subst (λ (l : List ℕ). HandsOn start now (output_of topics xs) l) (sym (append-nil text)) t)
part_of topics (Numbers numbers) start now xs t = t.0

pub none_told : (topics : List Topic) (start : Held) → HandsOn start start (output_of topics []) []
none_told topics start = record { front = []; grown = appends_none start; parts = refl }

pub numbers_told : (numbers new : Summary) (xs ys : List Outcome) → numbers ≡ summary_of xs → new ≡ joined numbers (summary_of ys) → new ≡ summary_of (xs ++ ys)
numbers_told numbers new xs ys p q = q ∙ ap (λ (s : Summary). joined s (summary_of ys)) p ∙ sym (summary_append xs ys)

-- nothing of a text was written, which is none
pub no_front : (start now : Held) → Keeps start now → (rest : List ℕ) × AppendsFront start now [] rest
no_front start now k = ([], record { front = []; parts = refl; grown = keeps_appends start now k })

-- a front of what is told so far is one of what is told in all
pub front_in_all : (topics : List Topic) (summary : Bool) (start now : Held) (xs : List Outcome)
    → (rest : List ℕ) × AppendsFront start now (told_so_far topics summary xs) rest → (rest : List ℕ) × AppendsFront start now (told_in_all topics summary xs) rest
front_in_all topics false start now xs f = f
front_in_all topics true start now xs f =
    (f.0 ++ told_in_all topics true xs, front_more start now [] (told_in_all topics true xs) f.0 f.1)

-- what is told in all is what is told so far and the last line
pub in_all : (topics : List Topic) (telling : Telling) (start now : Held) (xs : List Outcome) → Tells topics telling start now xs
    → told_so_far topics (is_summary telling) xs ++ last_line telling ≡ told_in_all topics (is_summary telling) xs
in_all topics (Lines text) start now xs t = append-nil (output_of topics xs)
in_all topics (Numbers numbers) start now xs t = ap (λ (s : Summary). last_line (Numbers s)) t.1

-- ---- the calls

module _ (topics : List Topic) (a b : Held) (self : Telling) (text new : List ℕ) (is : self ≡ Lines text) where
  -- what was told by lines before
  before : (start : Held) (xs : List Outcome) → Tells topics self start a xs → HandsOn start a (output_of topics xs) text
  before start xs t = subst (λ (s : Telling). Tells topics s start a xs) is t

  abbrev Fronts : (start : Held) → List Outcome → Type 0
  Fronts start xs = TellsFront topics (is_summary self) start b xs

  as_front : (start : Held) (xs : List Outcome) → (rest : List ℕ) × AppendsFront start b (output_of topics xs) rest → Fronts start xs
  as_front start xs f = subst (λ (s : Telling). TellsFront topics (is_summary s) start b xs) (sym is) f

  pub told_lines : (result : Result (Unit {0}) GenFault) (n m : ℕ) (ys : List Outcome)
      → (result ≢ Err NoMemory → HandsFull a b n m (text ++ output_of topics ys) new result) → OnOk result (TellsMore topics self (Lines new) a b ys)
  told_lines (Ok x) n m ys h = λ start xs t. lines_told topics start a b xs ys text (before start xs t) new (h (λ e. absurd (let never : ⊥ = cc in never))).done
  told_lines (Err f) n m ys h = tt

  pub failed_lines : (result : Result (Unit {0}) GenFault) (n m : ℕ) (ys : List Outcome)
      → (result ≢ Err NoMemory → HandsFull a b n m (text ++ output_of topics ys) new result) → result ≡ Err Write
      → Rose n m × TellsSomeOf topics self a b ys
  failed_lines result n m ys h e =
      let w = h (λ f. absurd (let never : ⊥ = cc (e, f) in never)) in (
        w.cause e,
        λ start xs t. as_front start (xs ++ ys) (lines_front topics start a b xs ys text (before start xs t) w.front),
      )

  pub front_lines : {T : Type 0} (result : Result T GenFault) (n m : ℕ) → WritesPieces a b n m text result → (start : Held) (xs : List Outcome)
      → TellsPart topics self start a xs → Fronts start xs
  front_lines result n m w start xs t =
      let p : TellsPart topics (Lines text) start a xs = subst (λ (s : Telling). TellsPart topics s start a xs) is t in
      as_front start xs (
        w.front.0 ++ p.0,
        then_front start a b (output_of topics xs) (text ++ p.0) (w.front.0 ++ p.0) p.1 (front_more a b text p.0 w.front.0 w.front.1),
      )

pub still_lines : (a b : Held) (self : Telling) (text new : List ℕ) → self ≡ Lines text → (result : Result (Unit {0}) GenFault) (n m : ℕ)
    → WritesPieces a b n m text result → OnOk result (new ≡ []) → OnOk result ((topics : List Topic) → TellsStill topics self (Lines new) a b)
still_lines a b self text new is (Ok x) n m w none = λ topics start xs t.
    subst (λ (l : List ℕ). HandsOn start b (output_of topics xs) l) (sym none)
    (then_on start a b (output_of topics xs) text [] (before topics a b self text new is start xs t) (all_on a b text w.whole))
still_lines a b self text new is (Err f) n m w none = tt

pub told_numbers : (topics : List Topic) (a : Held) (self : Telling) (numbers new : Summary) (result : Result (Unit {0}) GenFault) (ys : List Outcome)
    → self ≡ Numbers numbers → OnOk result (new ≡ joined numbers (summary_of ys)) → OnOk result (TellsMore topics self (Numbers new) a a ys)
told_numbers topics a self numbers new (Ok x) ys is ok = λ start xs t.
    let p : Tells topics (Numbers numbers) start a xs = subst (λ (s : Telling). Tells topics s start a xs) is t in
    (p.0, numbers_told numbers new xs ys p.1 ok)
told_numbers topics a self numbers new (Err f) ys is ok = tt
