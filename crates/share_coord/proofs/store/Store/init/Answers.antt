use Rattle.std.proofs.Common.{◌≡◌, None, ◌<◌, ◌^◌, ◌∙◌, [], refl, sym, ap, subst, Option, to_z, of_z, w32, w64}
use Rattle.std.specs.Prelude.{is_some}
use Rattle.share_coord.specs.Recorded.{IsInitRecord}
use Rattle.share_coord.specs.Stored.{next_snapshot, kept_at}
use Rattle.share_coord.specs.Calls.{IsInitialised, init_refusal}
use Rattle.share_coord.specs.Parts.{KeptState}
use Rattle.share_coord.specs.Tables.{found, shown}
use Rattle.share_coord.proofs.Keys.{some_none}
use Rattle.share_coord.proofs.Numeric.{causes_in, init_apart, memory_apart}
use Rattle.share_coord.proofs.Once.{untouched, rewritten}
use Rattle.share_coord.proofs.Reading.{next_held}
use Rattle.share_coord.proofs.Signed.{init_as, init_record_as, init_refusal_as}
use Rattle.share_coord.proofs.Starting.{copied_some, none_of, init_first, init_fits, init_goes, init_left, init_one}
use Rattle.share_coord.proofs.Storing.{unstored, as_this}
use Rattle.edge_io.proofs.Runs.{runs_none}
use Rattle.share_coord.proofs.store.Store.init.Goals as goal

pub returns-in-Some-clause-once : goal.returns-in-Some-clause-once
returns-in-Some-clause-once g c = untouched g.D.Disk.seen _ g.met.D.Disk.only_now _ _ c.in-Some.fault
    (init_apart (found c.get-known.result) (to_z w32 (of_z w32 c.args.state_epoch)) (to_z w64 (of_z w64 c.args.start)) c.in-Some.fault (sym c.init_refusal.ensures ∙ c.in-Some.is))

pub returns-in_default-empty_snapshot-clause-once : goal.returns-in_default-empty_snapshot-clause-once
returns-in_default-empty_snapshot-clause-once g c = untouched g.D.Disk.seen _ g.met.D.Disk.only_now _ _ _ memory_apart

pub returns-in_default-empty_snapshot-clause-causes : goal.returns-in_default-empty_snapshot-clause-causes
returns-in_default-empty_snapshot-clause-causes g c =
    let none : init_refusal (kept_at c.args.self.now.table.entries c.args.key.now) c.args.state_epoch c.args.start ≡ None =
    ap (λ (o : Option KeptState). init_refusal o c.args.state_epoch c.args.start) (sym c.get-known.ensures)
    ∙ (init_refusal_as (found c.get-known.result) c.args.state_epoch c.args.start c.ranges.state_epoch c.ranges.start
    ∙ (sym c.init_refusal.ensures ∙ c.in_default.is)) in
    none

pub returns-in_default-empty_snapshot-clause-refused : goal.returns-in_default-empty_snapshot-clause-refused
returns-in_default-empty_snapshot-clause-refused g c =
    let none : init_refusal (kept_at c.args.self.now.table.entries c.args.key.now) c.args.state_epoch c.args.start ≡ None =
    ap (λ (o : Option KeptState). init_refusal o c.args.state_epoch c.args.start) (sym c.get-known.ensures)
    ∙ (init_refusal_as (found c.get-known.result) c.args.state_epoch c.args.start c.ranges.state_epoch c.ranges.start
    ∙ (sym c.init_refusal.ensures ∙ c.in_default.is)) in
    λ fault is. absurd (some_none fault (sym is ∙ none))

pub returns-in-Some-clause-stored : goal.returns-in-Some-clause-stored
returns-in-Some-clause-stored g c = unstored g.D.Disk.seen _ _ _ c.in-Some.fault
    (init_apart (found c.get-known.result) (to_z w32 (of_z w32 c.args.state_epoch)) (to_z w64 (of_z w64 c.args.start)) c.in-Some.fault (sym c.init_refusal.ensures ∙ c.in-Some.is))

pub returns-in_default-empty_snapshot-clause-stored : goal.returns-in_default-empty_snapshot-clause-stored
returns-in_default-empty_snapshot-clause-stored g c = unstored g.D.Disk.seen _ _ _ _ memory_apart

pub returns-in-Some-clause-runs : goal.returns-in-Some-clause-runs
returns-in-Some-clause-runs g c = (runs_none g.D.Disk.seen c.args.self.now.journal.first.disk, runs_none g.D.Disk.seen c.args.self.now.journal.second.disk)

pub returns-in_default-empty_snapshot-clause-runs : goal.returns-in_default-empty_snapshot-clause-runs
returns-in_default-empty_snapshot-clause-runs g c = (runs_none g.D.Disk.seen c.args.self.now.journal.first.disk, runs_none g.D.Disk.seen c.args.self.now.journal.second.disk)

pub next_snapshot-next-requires : goal.next_snapshot-next-requires
next_snapshot-next-requires g c = subst (λ (o : Option KeptState). next_snapshot o < 2 ^ 64) (sym c.get-known.ensures)
    (next_held c.requires.held.1.frames c.args.self.now.table.entries c.requires.held.1.written c.args.key.now c.requires.held.1.taken c.requires.held.1.kept
    c.requires.held.1.few)

pub replace-requires-clause-frames : goal.replace-requires-clause-frames
replace-requires-clause-frames g c =
    let es = c.args.self.now.table.entries in
    let key = c.args.key.now in
    let state = to_z w32 (of_z w32 c.args.state_epoch) in
    let start = to_z w64 (of_z w64 c.args.start) in
    let value = c.get-known.ensures in
    let next = c.next_snapshot-next.ensures ∙ ap next_snapshot value in
    let known : c.is_some-is_known.result ≡ is_some (kept_at es key) = c.is_some-is_known.ensures ∙ (sym (copied_some c.get-known.result) ∙ ap is_some value) in
    init_fits es key state start [] c.next_snapshot-next.result c.is_some-is_known.result c.in-Ok.change.written (shown c.in-Ok.change.kept) c.first_where-fresh.result
    refl next known c.in-Ok.ensures.written c.in-Ok.ensures.kept c.first_where-fresh.ensures c.key_fits.ensures

pub replace-requires-clause-follows : goal.replace-requires-clause-follows
replace-requires-clause-follows g c =
    let es = c.args.self.now.table.entries in
    let key = c.args.key.now in
    let state = to_z w32 (of_z w32 c.args.state_epoch) in
    let start = to_z w64 (of_z w64 c.args.start) in
    let value = c.get-known.ensures in
    let next = c.next_snapshot-next.ensures ∙ ap next_snapshot value in
    let known : c.is_some-is_known.result ≡ is_some (kept_at es key) = c.is_some-is_known.ensures ∙ (sym (copied_some c.get-known.result) ∙ ap is_some value) in
    init_goes es key state start [] c.next_snapshot-next.result c.is_some-is_known.result c.in-Ok.change.written (shown c.in-Ok.change.kept) c.first_where-fresh.result
    refl next known c.in-Ok.ensures.written c.in-Ok.ensures.kept c.first_where-fresh.ensures

pub add-requires-clause-frames : goal.add-requires-clause-frames
add-requires-clause-frames g c =
    let es = c.args.self.now.table.entries in
    let key = c.args.key.now in
    let state = to_z w32 (of_z w32 c.args.state_epoch) in
    let start = to_z w64 (of_z w64 c.args.start) in
    let value = c.get-known.ensures in
    let next = c.next_snapshot-next.ensures ∙ ap next_snapshot value in
    let known : c.is_some-is_known.result ≡ is_some (kept_at es key) = c.is_some-is_known.ensures ∙ (sym (copied_some c.get-known.result) ∙ ap is_some value) in
    init_fits es key state start [] c.next_snapshot-next.result c.is_some-is_known.result c.in-Ok.change.written (shown c.in-Ok.change.kept) c.first_where-fresh.result
    refl next known c.in-Ok.ensures.written c.in-Ok.ensures.kept c.first_where-fresh.ensures c.key_fits.ensures

pub add-requires-clause-follows : goal.add-requires-clause-follows
add-requires-clause-follows g c =
    let es = c.args.self.now.table.entries in
    let key = c.args.key.now in
    let state = to_z w32 (of_z w32 c.args.state_epoch) in
    let start = to_z w64 (of_z w64 c.args.start) in
    let value = c.get-known.ensures in
    let next = c.next_snapshot-next.ensures ∙ ap next_snapshot value in
    let known : c.is_some-is_known.result ≡ is_some (kept_at es key) = c.is_some-is_known.ensures ∙ (sym (copied_some c.get-known.result) ∙ ap is_some value) in
    init_goes es key state start [] c.next_snapshot-next.result c.is_some-is_known.result c.in-Ok.change.written (shown c.in-Ok.change.kept) c.first_where-fresh.result
    refl next known c.in-Ok.ensures.written c.in-Ok.ensures.kept c.first_where-fresh.ensures

pub returns-then-is_known-clause-once : goal.returns-then-is_known-clause-once
returns-then-is_known-clause-once g c =
    let es = c.args.self.now.table.entries in
    let key = c.args.key.now in
    let state = to_z w32 (of_z w32 c.args.state_epoch) in
    let start = to_z w64 (of_z w64 c.args.start) in
    let value = c.get-known.ensures in
    let next = c.next_snapshot-next.ensures ∙ ap next_snapshot value in
    let known : c.is_some-is_known.result ≡ is_some (kept_at es key) = c.is_some-is_known.ensures ∙ (sym (copied_some c.get-known.result) ∙ ap is_some value) in
    let none : init_refusal (kept_at es key) state start ≡ None =
    ap (λ (o : Option KeptState). init_refusal o state start) (sym value) ∙ (sym c.init_refusal.ensures ∙ c.in_default.is) in
    rewritten g.D.Disk.seen _ _ (IsInitialised es key c.args.state_epoch c.args.start) _ _ _
    (λ l h. init_as es key c.args.state_epoch c.args.start l c.ranges.state_epoch c.ranges.start
    (subst (IsInitialised es key state start) (sym h.3) (init_left es key state start [] c.next_snapshot-next.result c.is_some-is_known.result c.in-Ok.change.written (shown c.in-Ok.change.kept) c.first_where-fresh.result
    refl next known c.in-Ok.ensures.written c.in-Ok.ensures.kept c.first_where-fresh.ensures none h.0 h.1 h.2))) c.replace.ensures.once

pub returns-then-is_known-clause-stored : goal.returns-then-is_known-clause-stored
returns-then-is_known-clause-stored g c =
    let es = c.args.self.now.table.entries in
    let key = c.args.key.now in
    let state = to_z w32 (of_z w32 c.args.state_epoch) in
    let start = to_z w64 (of_z w64 c.args.start) in
    let value = c.get-known.ensures in
    let next = c.next_snapshot-next.ensures ∙ ap next_snapshot value in
    let known : c.is_some-is_known.result ≡ is_some (kept_at es key) = c.is_some-is_known.ensures ∙ (sym (copied_some c.get-known.result) ∙ ap is_some value) in
    as_this g.D.Disk.seen _ _ (IsInitRecord es key c.args.state_epoch c.args.start) _ _
    (λ one h. init_record_as es key c.args.state_epoch c.args.start one c.ranges.state_epoch c.ranges.start (init_one es key state start [] c.next_snapshot-next.result c.is_some-is_known.result c.in-Ok.change.written (shown c.in-Ok.change.kept) c.first_where-fresh.result
    refl next known c.in-Ok.ensures.written c.in-Ok.ensures.kept c.first_where-fresh.ensures h.0 one h.1)) c.replace.result c.replace.ensures.stored

pub returns-then-is_known-clause-causes : goal.returns-then-is_known-clause-causes
returns-then-is_known-clause-causes g c =
    let none : init_refusal (kept_at c.args.self.now.table.entries c.args.key.now) c.args.state_epoch c.args.start ≡ None =
    ap (λ (o : Option KeptState). init_refusal o c.args.state_epoch c.args.start) (sym c.get-known.ensures)
    ∙ (init_refusal_as (found c.get-known.result) c.args.state_epoch c.args.start c.ranges.state_epoch c.ranges.start
    ∙ (sym c.init_refusal.ensures ∙ c.in_default.is)) in
    causes_in c.replace.result _ _ none c.replace.ensures.causes

pub returns-then-is_known-clause-refused : goal.returns-then-is_known-clause-refused
returns-then-is_known-clause-refused g c =
    let none : init_refusal (kept_at c.args.self.now.table.entries c.args.key.now) c.args.state_epoch c.args.start ≡ None =
    ap (λ (o : Option KeptState). init_refusal o c.args.state_epoch c.args.start) (sym c.get-known.ensures)
    ∙ (init_refusal_as (found c.get-known.result) c.args.state_epoch c.args.start c.ranges.state_epoch c.ranges.start
    ∙ (sym c.init_refusal.ensures ∙ c.in_default.is)) in
    λ fault is. absurd (some_none fault (sym is ∙ none))

pub returns-else-is_known-clause-once : goal.returns-else-is_known-clause-once
returns-else-is_known-clause-once g c =
    let es = c.args.self.now.table.entries in
    let key = c.args.key.now in
    let state = to_z w32 (of_z w32 c.args.state_epoch) in
    let start = to_z w64 (of_z w64 c.args.start) in
    let value = c.get-known.ensures in
    let next = c.next_snapshot-next.ensures ∙ ap next_snapshot value in
    let known : c.is_some-is_known.result ≡ is_some (kept_at es key) = c.is_some-is_known.ensures ∙ (sym (copied_some c.get-known.result) ∙ ap is_some value) in
    let none : init_refusal (kept_at es key) state start ≡ None =
    ap (λ (o : Option KeptState). init_refusal o state start) (sym value) ∙ (sym c.init_refusal.ensures ∙ c.in_default.is) in
    rewritten g.D.Disk.seen _ _ (IsInitialised es key c.args.state_epoch c.args.start) _ _ _
    (λ l h. init_as es key c.args.state_epoch c.args.start l c.ranges.state_epoch c.ranges.start
    (subst (IsInitialised es key state start) (sym h.3) (init_left es key state start [] c.next_snapshot-next.result c.is_some-is_known.result c.in-Ok.change.written (shown c.in-Ok.change.kept) c.first_where-fresh.result
    refl next known c.in-Ok.ensures.written c.in-Ok.ensures.kept c.first_where-fresh.ensures none h.0 h.1 h.2))) c.add.ensures.once

pub returns-else-is_known-clause-stored : goal.returns-else-is_known-clause-stored
returns-else-is_known-clause-stored g c =
    let es = c.args.self.now.table.entries in
    let key = c.args.key.now in
    let state = to_z w32 (of_z w32 c.args.state_epoch) in
    let start = to_z w64 (of_z w64 c.args.start) in
    let value = c.get-known.ensures in
    let next = c.next_snapshot-next.ensures ∙ ap next_snapshot value in
    let known : c.is_some-is_known.result ≡ is_some (kept_at es key) = c.is_some-is_known.ensures ∙ (sym (copied_some c.get-known.result) ∙ ap is_some value) in
    as_this g.D.Disk.seen _ _ (IsInitRecord es key c.args.state_epoch c.args.start) _ _
    (λ one h. init_record_as es key c.args.state_epoch c.args.start one c.ranges.state_epoch c.ranges.start (init_one es key state start [] c.next_snapshot-next.result c.is_some-is_known.result c.in-Ok.change.written (shown c.in-Ok.change.kept) c.first_where-fresh.result
    refl next known c.in-Ok.ensures.written c.in-Ok.ensures.kept c.first_where-fresh.ensures h.0 one h.1)) c.add.result c.add.ensures.stored

pub returns-else-is_known-clause-causes : goal.returns-else-is_known-clause-causes
returns-else-is_known-clause-causes g c =
    let none : init_refusal (kept_at c.args.self.now.table.entries c.args.key.now) c.args.state_epoch c.args.start ≡ None =
    ap (λ (o : Option KeptState). init_refusal o c.args.state_epoch c.args.start) (sym c.get-known.ensures)
    ∙ (init_refusal_as (found c.get-known.result) c.args.state_epoch c.args.start c.ranges.state_epoch c.ranges.start
    ∙ (sym c.init_refusal.ensures ∙ c.in_default.is)) in
    causes_in c.add.result _ _ none c.add.ensures.causes

pub returns-else-is_known-clause-refused : goal.returns-else-is_known-clause-refused
returns-else-is_known-clause-refused g c =
    let none : init_refusal (kept_at c.args.self.now.table.entries c.args.key.now) c.args.state_epoch c.args.start ≡ None =
    ap (λ (o : Option KeptState). init_refusal o c.args.state_epoch c.args.start) (sym c.get-known.ensures)
    ∙ (init_refusal_as (found c.get-known.result) c.args.state_epoch c.args.start c.ranges.state_epoch c.ranges.start
    ∙ (sym c.init_refusal.ensures ∙ c.in_default.is)) in
    λ fault is. absurd (some_none fault (sym is ∙ none))

pub add-requires-clause-first : goal.add-requires-clause-first
add-requires-clause-first g c =
    let es = c.args.self.now.table.entries in
    let key = c.args.key.now in
    let state = to_z w32 (of_z w32 c.args.state_epoch) in
    let start = to_z w64 (of_z w64 c.args.start) in
    let value = c.get-known.ensures in
    let next = c.next_snapshot-next.ensures ∙ ap next_snapshot value in
    let known : c.is_some-is_known.result ≡ is_some (kept_at es key) = c.is_some-is_known.ensures ∙ (sym (copied_some c.get-known.result) ∙ ap is_some value) in
    let absent : kept_at es key ≡ None = none_of (kept_at es key) (sym known ∙ c.if-is_known.false) in
    init_first es key state start [] c.next_snapshot-next.result c.is_some-is_known.result c.in-Ok.change.written (shown c.in-Ok.change.kept) c.first_where-fresh.result
    refl next known c.in-Ok.ensures.written c.in-Ok.ensures.kept c.first_where-fresh.ensures c.if-is_known.false (next ∙ ap next_snapshot absent)
