-- The rule of the table, and what its steps tell. These words are this project's own.
use Rattle.std.specs.Prelude.{◌≡◌, ◌≢◌, ℕ, suc, ◌+◌, ◌-◌, ◌<◌, ◌≤◌, ◌==◌, if◌then◌else◌, List, [], ◌∷◌, ◌++◌, length, map, Option, Some, None, slice_index}
use Rattle.std.specs.List.{AllByRecursion}
use mathlib.Core.Option.{Option as Maybe, none, some}
use lib.ListN.{get_elem?}
use Rattle.atomic_table.specs.Table.{State, Me, Step}
use Rattle.atomic_table.specs.Seated.{TableId}
use Rattle.shard_lock.specs.declared.shard.Entry.{Entry}
use Rattle.shard_lock.specs.History.{entry, of_pass, IsStart, longer}
use Rattle.shard_lock.specs.Passes.{LockParts, PassParts, times, numbers}
use Rattle.turn_lock.specs.declared.board.Desk.{Desk}
use Rattle.turn_lock.specs.declared.board.Cell.{Cell}
use Rattle.turn_lock.specs.declared.board.Cell.TheVariants.{Home, Empty, Ask, Told}
use Rattle.turn_lock.specs.declared.board.Role.{Role}
use Rattle.turn_lock.specs.declared.board.Role.TheVariants.{Idle, Opens, Asks, Leads, Tells}
use Rattle.turn_lock.specs.declared.board.View.{View}
use Rattle.turn_lock.specs.declared.board.About.{About}
use Rattle.turn_lock.specs.Asking.{asked_of}
use Rattle.turn_lock.specs.Turns.{Leaves, IsLegal}

-- how far the event of a seat has come
pub data Box (A : Type 0) : Type 0 where
  Bare : Box A
  Asked : Box A
  Grabbed : Box A
  Entered : ℕ → A → Box A  -- by whom
  Answered : A → Box A

module _ {A : Type 0} where
  -- one box is so now
  abbrev pub put : ℕ → Box A → (ℕ → Box A) → ℕ → Box A
  put i b box n = if n == i then b else box n

  -- a box is with another seat
  abbrev pub IsOut : Box A → Type 0
  IsOut Bare = ⊥
  IsOut Asked = ⊥
  IsOut Grabbed = Unit {0}
  IsOut (Entered by a) = Unit {0}
  IsOut (Answered a) = ⊥

module _ {E A : Type 0} where
  abbrev pub Absent : ℕ → List (Entry E A) → Type 0
  Absent n es = AllByRecursion (λ e. n ≢ e.seat) es

  -- the boxes once these entries stand in the history
  abbrev pub after_enter : ℕ → List (Entry E A) → (ℕ → Box A) → ℕ → Box A
  after_enter by [] box n = box n
  after_enter by (e ∷ es) box n = if n == e.seat then Entered by e.answer else after_enter by es box n

-- 1 where n is below the bound, and else 0
abbrev pub once_below : ℕ → ℕ → ℕ
once_below n bound = 1 - (1 + n - bound)

abbrev pub total : {X : Type 0} → (X → ℕ) → List X → ℕ
total f [] = 0
total f (x ∷ xs) = f x + total f xs

-- the shard that lies on the desk
abbrev pub inner : {S : Type 0} → Desk S → S
inner d = d.shard.value

-- what contracts see of a lock
abbrev pub lock_of : {S : Type 0} → TableId → About S → LockParts S
lock_of table about = record { table = table; first = about.shard.value; seats = about.seats }

module _ {S E A : Type 0} where
  -- the first seat, when n seats are made
  abbrev pub maker : S → ℕ → ℕ → View S E A
  maker first seats n = record { number = 0; seen = []; mine = []; role = Idle; first = Some first; stands = 1; ended = []; numbers = 0 ∷ []; olds = []; rest = seats - n; next = n }

  abbrev pub with_role : Role S E A → View S E A → View S E A
  with_role k v = record {
    number = v.number;
    seen = v.seen;  -- a role adds nothing to the history
    mine = v.mine;
    role = k;
    first = v.first;
    stands = v.stands;
    ended = v.ended;
    numbers = v.numbers;
    olds = v.olds;
    rest = v.rest;
    next = v.next;
  }

  -- its act stands behind these others, and it is at this now
  abbrev pub after : Role S E A → View S E A → List (Entry E A) → Entry E A → View S E A
  after k v log e = record {
    number = v.number;
    seen = log ++ e ∷ [];
    mine = v.mine ++ e ∷ [];
    role = k;
    first = v.first;
    stands = v.stands;
    ended = v.ended;
    numbers = v.numbers;
    olds = [];
    rest = v.rest;
    next = v.next;
  }

  -- the first seat, once it made one more; and that one
  abbrev pub maker_after : View S E A → View S E A
  maker_after v = record {
    number = v.number;
    seen = v.seen;
    mine = v.mine;
    role = v.role;
    first = v.first;
    stands = v.stands;
    ended = v.ended;
    numbers = v.numbers;
    olds = v.olds;
    rest = v.rest - 1;
    next = v.next + 1;
  }

  abbrev pub new_seat : View S E A → View S E A
  new_seat v = record { number = v.next; seen = v.seen; mine = []; role = Idle; first = v.first; stands = 1; ended = []; numbers = v.next ∷ []; olds = []; rest = 0; next = 0 }

  -- a seat, once another was joined into it; and what the other is then
  abbrev pub merged : View S E A → View S E A → View S E A
  merged v w = record {
    number = v.number;
    seen = longer v.seen w.seen;
    mine = v.mine;
    role = v.role;
    first = v.first;
    stands = v.stands + w.stands;
    ended = v.ended ++ (w.number, w.mine) ∷ w.ended;
    numbers = v.numbers ++ w.numbers;
    olds = v.seen ∷ w.seen ∷ [];
    rest = v.rest;
    next = v.next;
  }

  abbrev pub spent : View S E A
  spent = record { number = 0; seen = []; mine = []; role = Idle; first = None; stands = 0; ended = []; numbers = []; olds = []; rest = 0; next = 0 }

  -- what contracts see of a pass
  abbrev pub parts_of : TableId → View S E A → PassParts S E A
  parts_of table v = record { table = table; first = v.first; number = v.number; seen = v.seen; own = v.mine; joined = v.ended; stands = v.stands }

  abbrev pub IsIdle : Me (Cell S E A) (View S E A) → Type 0
  IsIdle me = (me.0.role ≡ Idle) × (me.1 ≡ [])

  -- a pass is at nothing between its calls
  pub record IsAtRest (number : ℕ) (table : TableId) (me : Me (Cell S E A) (View S E A)) : Type 0 where
    pub number_is : number ≡ me.0.number
    pub low : 1 + number < table.words
    pub lives : 0 < me.0.stands
    pub made : me.0.rest ≡ 0
    pub idle : IsIdle me

  -- the history has this entry of the seat, which it hasn't seen yet
  pub record Owed (log : List (Entry E A)) (i : ℕ) (v : View S E A) (e : Entry E A) : Type 0 where
    pub front : List (Entry E A)
    pub behind : List (Entry E A)
    pub is : log ≡ front ++ (e ∷ behind)
    pub seen : IsStart v.seen front
    pub mine : of_pass i front ≡ v.mine
    pub none_left : of_pass i behind ≡ []

  -- of a seat that isn't spent: the history has just its own entries
  abbrev pub Exact : List (Entry E A) → ℕ → View S E A → Type 0
  Exact log i v = 0 < v.stands → v.mine ≡ of_pass i log

  abbrev pub IsShut : (word : ℕ) → (home : Maybe (Maybe (Cell S E A))) → Type 0
  IsShut word home = (word ≡ 0) × (home ≡ some (some Empty))

  abbrev pub AsksSo : List (Entry E A) → ℕ → View S E A → E → (word : ℕ) → (home : Maybe (Maybe (Cell S E A))) → Box A → Type 0
  AsksSo log i v e word home Bare = ⊥
  AsksSo log i v e word home Asked = (word ≡ 1) × (home ≡ some (some (Ask e))) × Exact log i v
  AsksSo log i v e word home Grabbed = (word ≡ 0) × (home ≡ some none) × Exact log i v
  AsksSo log i v e word home (Entered by a) = (word ≡ 0) × (home ≡ some none) × Owed log i v (entry i e a)
  AsksSo log i v e word home (Answered a) = (word ≡ 2) × (home ≡ some (some (Told a))) × Owed log i v (entry i e a)

  -- the seat n has asked this
  abbrev pub HasAsked : List (View S E A) → ℕ → E → Type 0
  HasAsked views n e = (d : View S E A) × (get_elem? views n ≡ some d) × (d.role ≡ Asks e)

  -- boxes that a seat has, of others that asked, each once
  abbrev pub AreTook : (ℕ → Box A) → List (View S E A) → List (ℕ × E) → Type 0
  AreTook box views [] = Unit {0}
  AreTook box views (x ∷ xs) = (box x.0 ≡ Grabbed) × HasAsked views x.0 x.1 × AllByRecursion (λ y. x.0 ≢ y.0) xs × AreTook box views xs

  -- entries that this seat put into the history, whose seats aren't told yet, each once
  abbrev pub AreEntered : ℕ → (ℕ → Box A) → List (View S E A) → List (Entry E A) → Type 0
  AreEntered by box views [] = Unit {0}
  AreEntered by box views (e ∷ es) = (box e.seat ≡ Entered by e.answer) × HasAsked views e.seat e.event × Absent e.seat es × AreEntered by box views es

  -- what a seat is at that has these left to tell
  abbrev pub rests : List (Entry E A) → Role S E A
  rests [] = Idle
  rests (e ∷ es) = Tells (e ∷ es)

  -- what the box and the word of a seat are, by what it is at
  abbrev pub AsRole : List (Entry E A) → Desk S → (ℕ → Box A) → List (View S E A) → (word : ℕ) → (home : Maybe (Maybe (Cell S E A))) → ℕ → View S E A → Role S E A → Type 0
  AsRole log now box views word home i v Idle = (box i ≡ Bare) × Exact log i v × IsShut word home
  AsRole log now box views word home i v Opens = (box i ≡ Bare) × Exact log i v × (home ≡ some none)
  AsRole log now box views word home i v (Asks e) = AsksSo log i v e word home (box i)
  AsRole log now box views word home i v (Leads t took) = (box i ≡ Bare) × Exact log i v × IsShut word home × (t ≡ now) × AreTook box views took
  AsRole log now box views word home i v (Tells es) = (box i ≡ Bare) × Exact log i v × IsShut word home × AreEntered i box views es

  -- of a seat that isn't spent: it stands for itself and for those that were joined into it, of which the history has just their own entries
  pub record Lives (from : S) (log : List (Entry E A)) (i : ℕ) (v : View S E A) : Type 0 where
    pub number : v.number ≡ i
    pub first : v.first ≡ Some from
    pub ended : AllByRecursion (λ p. of_pass p.0 log ≡ p.1) v.ended
    pub stands : v.stands ≡ 1 + length v.ended
    pub listed : v.numbers ≡ v.number ∷ numbers v.ended
    pub olds : AllByRecursion (λ x. IsStart x v.seen) v.olds

  pub record Stands (from : S) (log : List (Entry E A)) (now : Desk S) (box : ℕ → Box A) (s : State (Cell S E A) (View S E A)) (i : ℕ) (v : View S E A) : Type 0 where
    pub seen : IsStart v.seen log
    pub role : AsRole log now box s.views (slice_index s.words (suc i)) (get_elem? s.homes (suc i)) i v v.role
    pub spent : v.stands ≡ 0 → (v.role ≡ Idle) × (v.numbers ≡ [])
    pub lives : 0 < v.stands → Lives from log i v
    pub maker : 0 < v.rest → (i ≡ 0) × (v.next ≡ length s.views)

  abbrev pub IsLead : Role S E A → Type 0
  IsLead Idle = ⊥
  IsLead Opens = ⊥
  IsLead (Asks e) = ⊥
  IsLead (Leads t took) = Unit {0}
  IsLead (Tells es) = ⊥

  abbrev pub Newest : List (Entry E A) → List (View S E A) → Type 0
  Newest log views = (i : ℕ) × (v : View S E A) × (get_elem? views i ≡ some v) × (0 < v.stands) × (v.seen ≡ log)

  -- seats are made until there are enough. Those that aren't spent stand for all that are made, and each number is of one of them
  pub record Counted (seats : ℕ) (views : List (View S E A)) : Type 0 where
    pub made : length views + total (λ v. v.rest) views ≤ seats
    pub whole : total (λ v. v.stands + v.rest) views ≡ seats
    pub stand : total (λ v. v.stands) views ≡ length views
    pub once : (n : ℕ) → total (λ v. times n v.numbers) views ≡ once_below n (length views)

  -- of a seat that isn't made yet: the history has nothing of it, and its box is bare
  abbrev pub IsFresh : ℕ → List (Entry E A) → (ℕ → Box A) → State (Cell S E A) (View S E A) → ℕ → Type 0
  IsFresh seats log box s n = (of_pass n log ≡ []) × (box n ≡ Bare) × (n < seats → IsShut (slice_index s.words (suc n)) (get_elem? s.homes (suc n)))

  -- What holds between any two steps. Word 0 says whether a seat leads, and slot 0 holds the shard. Word 1 + n says what the box of the seat n is at,
  -- and slot 1 + n is that box. The history `log` can be cut into turns, and some seat has seen it whole (`newest`).
  pub record Kept (turn : S → List (Entry E A) → S → Type 0) (from : S) (seats : ℕ) (s : State (Cell S E A) (View S E A)) : Type 0 where
    pub log : List (Entry E A)
    pub now : Desk S
    pub box : ℕ → Box A
    pub legal : Leaves turn from log (inner now)
    pub wide : length s.homes ≡ 1 + seats
    pub long : length s.words ≡ 1 + seats
    pub counted : Counted seats s.views
    pub newest : Newest log s.views
    pub fresh : (n : ℕ) → length s.views ≤ n → IsFresh seats log box s n
    pub each : (i : ℕ) (v : View S E A) → get_elem? s.views i ≡ some v → Stands from log now box s i v
    -- who has a box with the word 1 has asked
    pub asked : (i : ℕ) → slice_index s.words (suc i) ≡ 1 → (e : E) × HasAsked s.views i e × (box i ≡ Asked)
    -- one seat at most leads, none where word 0 is 0; and while none does the shard is at home
    pub one : (i j : ℕ) (v w : View S E A) → get_elem? s.views i ≡ some v → get_elem? s.views j ≡ some w → IsLead v.role → IsLead w.role → i ≡ j
    pub free : slice_index s.words 0 ≡ 0 → (i : ℕ) (v : View S E A) → get_elem? s.views i ≡ some v → ¬ IsLead v.role
    pub home : ((i : ℕ) (v : View S E A) → get_elem? s.views i ≡ some v → ¬ IsLead v.role) → get_elem? s.homes 0 ≡ some (some (Home now))

  -- ---- what steps tell
  -- the seat has the shard now, or another has it
  abbrev pub led : Step (Cell S E A) → Me (Cell S E A) (View S E A) → ℕ → Me (Cell S E A) (View S E A) → Type 0
  led st m r m' = (r ≡ 0 → (t : Desk S) × (m' ≡ (with_role (Leads t []) m.0, (0, Home t) ∷ m.1))) × (r ≢ 0 → m' ≡ m)

  -- the leader has one more box, of another seat that asked
  abbrev pub grabbed : Step (Cell S E A) → Me (Cell S E A) (View S E A) → ℕ → Me (Cell S E A) (View S E A) → Type 0
  grabbed st m r m' = (r ≡ 1 → (j : ℕ) × (e : E) × (t : Desk S) × (took : List (ℕ × E)) × (suc j ≡ st.word) × (m.0.role ≡ Leads t took)
      × (m' ≡ (with_role (Leads t (took ++ (j, e) ∷ [])) m.0, (st.word, Ask e) ∷ m.1))) × (r ≢ 1 → m' ≡ m)

  -- What a seat sees: the history goes on from what it had seen, and ends with the entry e, its own. The seat is at k then.
  pub record Extends (turn : S → List (Entry E A) → S → Type 0) (v : View S E A) (e : Entry E A) (k : Role S E A) (w : View S E A) : Type 0 where
    pub log : List (Entry E A)
    pub seen : IsStart v.seen log
    pub is : w ≡ after k v log e
    pub legal : (from : S) → v.first ≡ Some from → IsLegal turn from (log ++ e ∷ [])
    pub mine : of_pass v.number (log ++ e ∷ []) ≡ v.mine ++ e ∷ []

  -- a seat enters what was done in its turn, and gives the shard back
  abbrev pub entered : (S → List (Entry E A) → S → Type 0) → Option (List (Entry E A) × Entry E A) → Step (Cell S E A) → Me (Cell S E A) (View S E A) → ℕ
      → Me (Cell S E A) (View S E A) → Type 0
  entered turn said st m r m' = (es : List (Entry E A)) × (e : Entry E A) × (more : List (ℕ × Cell S E A)) × (y : Desk S) × (said ≡ Some (es, e))
      × (m.1 ≡ (0, Home y) ∷ more) × (m'.1 ≡ more) × Extends turn m.0 e (rests es) m'.0

  -- one seat more was answered
  abbrev pub tells : Step (Cell S E A) → Me (Cell S E A) (View S E A) → ℕ → Me (Cell S E A) (View S E A) → Type 0
  tells st m r m' = (e : Entry E A) × (es : List (Entry E A)) × (more : List (ℕ × Cell S E A)) × (m.0.role ≡ Tells (e ∷ es)) × (m.1 ≡ (st.word, Told e.answer) ∷ more)
      × (m' ≡ (with_role (rests es) m.0, more))

  abbrev pub opens : Step (Cell S E A) → Me (Cell S E A) (View S E A) → ℕ → Me (Cell S E A) (View S E A) → Type 0
  opens st m r m' = m' ≡ (with_role Opens m.0, (st.word, Empty) ∷ m.1)

  abbrev pub asks : Option E → Step (Cell S E A) → Me (Cell S E A) (View S E A) → ℕ → Me (Cell S E A) (View S E A) → Type 0
  asks said st m r m' = (e : E) × (more : List (ℕ × Cell S E A)) × (said ≡ Some e) × (m.1 ≡ (st.word, Ask e) ∷ more) × (m' ≡ (with_role (Asks e) m.0, more))

  -- a seat looks whether it was answered
  abbrev pub saw : (S → List (Entry E A) → S → Type 0) → Step (Cell S E A) → Me (Cell S E A) (View S E A) → ℕ → Me (Cell S E A) (View S E A) → Type 0
  saw turn st m r m' = (r ≢ 2 → m' ≡ m)
      × (r ≡ 2 → (n : ℕ) × (e : E) × (a : A) × (suc n ≡ st.word) × (m.0.role ≡ Asks e) × (m'.1 ≡ (st.word, Told a) ∷ m.1) × Extends turn m.0 (entry n e a) Opens m'.0)

  abbrev pub withdrew : Step (Cell S E A) → Me (Cell S E A) (View S E A) → ℕ → Me (Cell S E A) (View S E A) → Type 0
  withdrew st m r m' = (r ≡ 1 → (e : E) × (m.0.role ≡ Asks e) × (m' ≡ (with_role Opens m.0, (st.word, Ask e) ∷ m.1))) × (r ≢ 1 → m' ≡ m)

  abbrev pub shuts : Step (Cell S E A) → Me (Cell S E A) (View S E A) → ℕ → Me (Cell S E A) (View S E A) → Type 0
  shuts st m r m' = (more : List (ℕ × Cell S E A)) × (m.1 ≡ (st.word, Empty) ∷ more) × (m' ≡ (with_role Idle m.0, more))

  -- a seat that is at nothing looked: what was seen of it and of the one that was joined into it are beginnings of what it has seen
  abbrev pub compared : Step (Cell S E A) → Me (Cell S E A) (View S E A) → ℕ → Me (Cell S E A) (View S E A) → Type 0
  compared st m r m' = (m' ≡ m) × AllByRecursion (λ x. IsStart x m.0.seen) m.0.olds

  -- what it takes to enter: the seat leads, with the boxes of these entries, and did them in one turn with one of its own
  pub record CanEnter (turn : S → List (Entry E A) → S → Type 0) (said : Option (List (Entry E A) × Entry E A)) (me : Me (Cell S E A) (View S E A)) : Type 0 where
    pub before : Desk S
    pub after : Desk S
    pub more : List (ℕ × Cell S E A)
    pub others : List (Entry E A)
    pub own : Entry E A
    pub leads : me.0.role ≡ Leads before (asked_of others)
    pub held : me.1 ≡ (0, Home after) ∷ more
    pub told : said ≡ Some (others, own)
    pub seat : own.seat ≡ me.0.number
    pub act : turn (inner before) (others ++ own ∷ []) (inner after)

  -- what it takes to tell: the seat has this box, with the answer, among those that it has to tell
  pub record CanTell (word : ℕ) (me : Me (Cell S E A) (View S E A)) : Type 0 where
    pub first : Entry E A
    pub others : List (Entry E A)
    pub more : List (ℕ × Cell S E A)
    pub tells : me.0.role ≡ Tells (first ∷ others)
    pub seat : suc first.seat ≡ word
    pub held : me.1 ≡ (word, Told first.answer) ∷ more

  abbrev pub IsAsking : Me (Cell S E A) (View S E A) → Type 0
  IsAsking me = (e : E) × (me.0.role ≡ Asks e)

  abbrev pub IsLeading : Me (Cell S E A) (View S E A) → Type 0
  IsLeading me = (t : Desk S) × (took : List (ℕ × E)) × (me.0.role ≡ Leads t took)

  pub record CanAsk (said : Option E) (word : ℕ) (me : Me (Cell S E A) (View S E A)) : Type 0 where
    pub event : E
    pub more : List (ℕ × Cell S E A)
    pub opens : me.0.role ≡ Opens
    pub held : me.1 ≡ (word, Ask event) ∷ more
    pub told : said ≡ Some event

  pub record CanShut (word : ℕ) (me : Me (Cell S E A) (View S E A)) : Type 0 where
    pub more : List (ℕ × Cell S E A)
    pub opens : me.0.role ≡ Opens
    pub held : me.1 ≡ (word, Empty) ∷ more

  abbrev pub asked_cell : Cell S E A → Option E
  asked_cell (Home s) = None
  asked_cell Empty = None
  asked_cell (Ask e) = Some e
  asked_cell (Told a) = None

  -- the event in the box on top
  abbrev pub asked_first : List (ℕ × Cell S E A) → Option E
  asked_first [] = None
  asked_first (x ∷ xs) = asked_cell x.1

  -- empty boxes of these seats
  abbrev pub boxes : List (ℕ × E) → List (ℕ × Cell S E A)
  boxes asks = map (λ x. (1 + x.0, Empty)) asks

  -- the seat has the shard, and these boxes, which are empty
  abbrev pub HasBoxes : Me (Cell S E A) (View S E A) → Me (Cell S E A) (View S E A) → List (ℕ × E) → Type 0
  HasBoxes old new asks = (t : Desk S) × (new ≡ (with_role (Leads t asks) old.0, (0, Home t) ∷ boxes asks))

  abbrev pub HasLeft : Me (Cell S E A) (View S E A) → Me (Cell S E A) (View S E A) → List (Entry E A) → Type 0
  HasLeft old new es = new ≡ (with_role (rests es) old.0, boxes (asked_of es))

  -- the seat acted once
  abbrev pub Acts : (S → List (Entry E A) → S → Type 0) → Me (Cell S E A) (View S E A) → Entry E A → Me (Cell S E A) (View S E A) → Type 0
  Acts turn old e new = (new.1 ≡ []) × Extends turn old.0 e Idle new.0

  -- the leader has one more box, empty, behind what it had
  abbrev pub GrabsOne : (word : ℕ) → Me (Cell S E A) (View S E A) → E → Me (Cell S E A) (View S E A) → Type 0
  GrabsOne word old event new = (n : ℕ) × (t : Desk S) × (took : List (ℕ × E)) × (1 + n ≡ word) × (old.0.role ≡ Leads t took)
      × (new ≡ (with_role (Leads t (took ++ (n, event) ∷ [])) old.0, old.1 ++ (word, Empty) ∷ []))
