use Rattle.std.proofs.Common.{◌≡◌, ◌≤◌, ◌∙◌, refl, sym, ap, subst, arith, ℤ, List, ℕ, None, false, length, to_z, of_z, w64, ◌<◌, ◌+◌, ◌*◌, ◌^◌, Option, Result, vec_capacity}
use Rattle.std.proofs.lemmas.Int.{to_z-of_z}
use Rattle.coord_checkpoint.specs.Writes.{StaysOn}
use Rattle.gate_journal.specs.Frames.{IsFrame, frame_in}
use Rattle.share_model.specs.declared.fault.StoreFault.{StoreFault}
use Rattle.offset_runs.specs.Changes.{RunsParts, room_of}
use Rattle.state_records.specs.Spelling.{record_bytes}
use Rattle.share_coord.specs.Planning.{left_by}
use Rattle.share_coord.specs.Putting.{stored_as}
use Rattle.share_coord.specs.Reserved.{own_record}
use Rattle.share_coord.specs.Rooms.{IsGranted, IsOwnRecord, IsOwnWritten}
use Rattle.share_coord.specs.Stored.{kept_at, next_snapshot, snapshot_frames, with_kept}
use Rattle.share_coord.specs.Tables.{shown}
use Rattle.share_coord.specs.Parts.{KeptState}
use Rattle.share_coord.specs.Views.{IsKeptState}
use Rattle.share_coord.proofs.Once.{refused_at, rewritten, stored_at}
use Rattle.share_coord.proofs.Putting.{plain_mark}
use Rattle.share_coord.proofs.Reading.{next_held}
use Rattle.share_coord.proofs.Owning.{IsLaid, left_of, over_stored, own_sent, own_stored, own_written, plan, rows_stored, few_over, few_rows, size, start_stored, told_same, told_stored, view_kept}
use Rattle.share_coord.proofs.Signed.{in_range, start_fits}
use Rattle.share_coord.proofs.Storing.{as_this, stores_err, stores_ok}
use Rattle.share_coord.proofs.store.Store.write_reserved.Goals as goal

pub own_numbers-own-requires : goal.own_numbers-own-requires
own_numbers-own-requires g c =
    subst (λ (o : Option KeptState). next_snapshot o < 2 ^ 64) (sym c.in-Some.ensures)
    (next_held c.requires.held.1.frames c.args.self.now.table.entries c.requires.held.1.written c.args.key.now c.requires.held.1.taken c.requires.held.1.kept
    c.requires.held.1.few)

pub own_frame-requires-clause-starts : goal.own_frame-requires-clause-starts
own_frame-requires-clause-starts g c =
    let es = c.args.self.now.table.entries in
    let key = c.args.key.now in
    let runs = c.args.runs.now in
    let room = c.args.self.now.room in
    let z = to_z w64 (of_z w64 c.args.start) in
    let same : z ≡ c.args.start = to_z-of_z w64 c.args.start c.ranges.start in
    let granted : IsGranted es key z runs room = subst (λ (s : ℤ). IsGranted es key s runs room) (sym same) c.requires.granted in
    let over = c.lay_write-after.new.written.list in
    let rows = c.lay_write-after.new.rows.list in
    let after = c.lay_write-after.result in
    let own = c.own_numbers-own.result in
    let w = c.requires.granted in
    let range = in_range (kept_at es key) w.kept.view.state_epoch w.kept.view.leader_epoch c.args.start runs w.valid in
    let told = to_z w64 (of_z w64 c.start_told-told.result) in
    let f : IsLaid es key z runs room over rows after own told = record {
      granted = granted;
      kept = shown c.in-Some.kept.now;
      found = c.in-Some.ensures;
      is_kept = c.lay_write-after.ensures.kept;
      is_key = c.key_fits.ensures;
      starts_in = start_fits c.args.start c.ranges.start range.start_is;
      own_is = own_sent (shown c.in-Some.kept.now) z after c.counted-count.result own c.own_numbers-own.ensures c.counted-count.ensures
          c.lay_write-after.ensures.start c.lay_write-after.ensures.kept.start (start_fits c.args.start c.ranges.start range.start_is);
      starts = c.lay_write-after.ensures.start;
      told_is = told_same (shown c.in-Some.kept.now) z c.start_told-told.result c.start_told-told.ensures c.lay_write-after.ensures.kept.start
          (start_fits c.args.start c.ranges.start range.start_is);
      complete_is = c.lay_write-after.ensures.complete;
      are_written = c.lay_write-after.ensures.written;
      are_laid = c.lay_write-after.ensures.laid;
      few_over = c.lay_write-after.ensures.few_written;
      few = c.lay_write-after.ensures.few;
    } in
    (told_stored es key z runs room over rows after own told f, start_stored es key z runs room over rows after own told f)

pub own_frame-requires-clause-written : goal.own_frame-requires-clause-written
own_frame-requires-clause-written g c =
    let es = c.args.self.now.table.entries in
    let key = c.args.key.now in
    let runs = c.args.runs.now in
    let room = c.args.self.now.room in
    let z = to_z w64 (of_z w64 c.args.start) in
    let same : z ≡ c.args.start = to_z-of_z w64 c.args.start c.ranges.start in
    let granted : IsGranted es key z runs room = subst (λ (s : ℤ). IsGranted es key s runs room) (sym same) c.requires.granted in
    let over = c.lay_write-after.new.written.list in
    let rows = c.lay_write-after.new.rows.list in
    let after = c.lay_write-after.result in
    let own = c.own_numbers-own.result in
    let w = c.requires.granted in
    let range = in_range (kept_at es key) w.kept.view.state_epoch w.kept.view.leader_epoch c.args.start runs w.valid in
    let told = to_z w64 (of_z w64 c.start_told-told.result) in
    let f : IsLaid es key z runs room over rows after own told = record {
      granted = granted;
      kept = shown c.in-Some.kept.now;
      found = c.in-Some.ensures;
      is_kept = c.lay_write-after.ensures.kept;
      is_key = c.key_fits.ensures;
      starts_in = start_fits c.args.start c.ranges.start range.start_is;
      own_is = own_sent (shown c.in-Some.kept.now) z after c.counted-count.result own c.own_numbers-own.ensures c.counted-count.ensures
          c.lay_write-after.ensures.start c.lay_write-after.ensures.kept.start (start_fits c.args.start c.ranges.start range.start_is);
      starts = c.lay_write-after.ensures.start;
      told_is = told_same (shown c.in-Some.kept.now) z c.start_told-told.result c.start_told-told.ensures c.lay_write-after.ensures.kept.start
          (start_fits c.args.start c.ranges.start range.start_is);
      complete_is = c.lay_write-after.ensures.complete;
      are_written = c.lay_write-after.ensures.written;
      are_laid = c.lay_write-after.ensures.laid;
      few_over = c.lay_write-after.ensures.few_written;
      few = c.lay_write-after.ensures.few;
    } in
    let few = few_over es key z runs room over rows after own told f in (over_stored es key z runs room over rows after own told f, omega (arith, few))

pub own_frame-requires-clause-rows : goal.own_frame-requires-clause-rows
own_frame-requires-clause-rows g c =
    let es = c.args.self.now.table.entries in
    let key = c.args.key.now in
    let runs = c.args.runs.now in
    let room = c.args.self.now.room in
    let z = to_z w64 (of_z w64 c.args.start) in
    let same : z ≡ c.args.start = to_z-of_z w64 c.args.start c.ranges.start in
    let granted : IsGranted es key z runs room = subst (λ (s : ℤ). IsGranted es key s runs room) (sym same) c.requires.granted in
    let over = c.lay_write-after.new.written.list in
    let rows = c.lay_write-after.new.rows.list in
    let after = c.lay_write-after.result in
    let own = c.own_numbers-own.result in
    let w = c.requires.granted in
    let range = in_range (kept_at es key) w.kept.view.state_epoch w.kept.view.leader_epoch c.args.start runs w.valid in
    let told = to_z w64 (of_z w64 c.start_told-told.result) in
    let f : IsLaid es key z runs room over rows after own told = record {
      granted = granted;
      kept = shown c.in-Some.kept.now;
      found = c.in-Some.ensures;
      is_kept = c.lay_write-after.ensures.kept;
      is_key = c.key_fits.ensures;
      starts_in = start_fits c.args.start c.ranges.start range.start_is;
      own_is = own_sent (shown c.in-Some.kept.now) z after c.counted-count.result own c.own_numbers-own.ensures c.counted-count.ensures
          c.lay_write-after.ensures.start c.lay_write-after.ensures.kept.start (start_fits c.args.start c.ranges.start range.start_is);
      starts = c.lay_write-after.ensures.start;
      told_is = told_same (shown c.in-Some.kept.now) z c.start_told-told.result c.start_told-told.ensures c.lay_write-after.ensures.kept.start
          (start_fits c.args.start c.ranges.start range.start_is);
      complete_is = c.lay_write-after.ensures.complete;
      are_written = c.lay_write-after.ensures.written;
      are_laid = c.lay_write-after.ensures.laid;
      few_over = c.lay_write-after.ensures.few_written;
      few = c.lay_write-after.ensures.few;
    } in
    let few = few_rows es key z runs room over rows after own told f in (rows_stored es key z runs room over rows after own told f, omega (arith, few))

pub own_frame-requires-clause-room : goal.own_frame-requires-clause-room
own_frame-requires-clause-room g c =
    let es = c.args.self.now.table.entries in
    let key = c.args.key.now in
    let runs = c.args.runs.now in
    let room = c.args.self.now.room in
    let z = to_z w64 (of_z w64 c.args.start) in
    let same : z ≡ c.args.start = to_z-of_z w64 c.args.start c.ranges.start in
    let granted : IsGranted es key z runs room = subst (λ (s : ℤ). IsGranted es key s runs room) (sym same) c.requires.granted in
    let over = c.lay_write-after.new.written.list in
    let rows = c.lay_write-after.new.rows.list in
    let after = c.lay_write-after.result in
    let own = c.own_numbers-own.result in
    let w = c.requires.granted in
    let range = in_range (kept_at es key) w.kept.view.state_epoch w.kept.view.leader_epoch c.args.start runs w.valid in
    let told = to_z w64 (of_z w64 c.start_told-told.result) in
    let f : IsLaid es key z runs room over rows after own told = record {
      granted = granted;
      kept = shown c.in-Some.kept.now;
      found = c.in-Some.ensures;
      is_kept = c.lay_write-after.ensures.kept;
      is_key = c.key_fits.ensures;
      starts_in = start_fits c.args.start c.ranges.start range.start_is;
      own_is = own_sent (shown c.in-Some.kept.now) z after c.counted-count.result own c.own_numbers-own.ensures c.counted-count.ensures
          c.lay_write-after.ensures.start c.lay_write-after.ensures.kept.start (start_fits c.args.start c.ranges.start range.start_is);
      starts = c.lay_write-after.ensures.start;
      told_is = told_same (shown c.in-Some.kept.now) z c.start_told-told.result c.start_told-told.ensures c.lay_write-after.ensures.kept.start
          (start_fits c.args.start c.ranges.start range.start_is);
      complete_is = c.lay_write-after.ensures.complete;
      are_written = c.lay_write-after.ensures.written;
      are_laid = c.lay_write-after.ensures.laid;
      few_over = c.lay_write-after.ensures.few_written;
      few = c.lay_write-after.ensures.few;
    } in
    let most = size es key z runs room over rows after own told f in
    let has : 320 + 19 * room ≤ vec_capacity c.replace-buffer.result = subst (λ v. 320 + 19 * room ≤ vec_capacity v) (sym c.replace-buffer.ensures.value) c.requires.roomy.buffer in
    omega (arith, most, has)

pub put_framed-requires : goal.put_framed-requires
put_framed-requires g c =
    let es = c.args.self.now.table.entries in
    let key = c.args.key.now in
    let runs = c.args.runs.now in
    let room = c.args.self.now.room in
    let z = to_z w64 (of_z w64 c.args.start) in
    let same : z ≡ c.args.start = to_z-of_z w64 c.args.start c.ranges.start in
    let granted : IsGranted es key z runs room = subst (λ (s : ℤ). IsGranted es key s runs room) (sym same) c.requires.granted in
    let over = c.lay_write-after.new.written.list in
    let rows = c.lay_write-after.new.rows.list in
    let after = c.lay_write-after.result in
    let own = c.own_numbers-own.result in
    let w = c.requires.granted in
    let range = in_range (kept_at es key) w.kept.view.state_epoch w.kept.view.leader_epoch c.args.start runs w.valid in
    let told = to_z w64 (of_z w64 c.start_told-told.result) in
    let f : IsLaid es key z runs room over rows after own told = record {
      granted = granted;
      kept = shown c.in-Some.kept.now;
      found = c.in-Some.ensures;
      is_kept = c.lay_write-after.ensures.kept;
      is_key = c.key_fits.ensures;
      starts_in = start_fits c.args.start c.ranges.start range.start_is;
      own_is = own_sent (shown c.in-Some.kept.now) z after c.counted-count.result own c.own_numbers-own.ensures c.counted-count.ensures
          c.lay_write-after.ensures.start c.lay_write-after.ensures.kept.start (start_fits c.args.start c.ranges.start range.start_is);
      starts = c.lay_write-after.ensures.start;
      told_is = told_same (shown c.in-Some.kept.now) z c.start_told-told.result c.start_told-told.ensures c.lay_write-after.ensures.kept.start
          (start_fits c.args.start c.ranges.start range.start_is);
      complete_is = c.lay_write-after.ensures.complete;
      are_written = c.lay_write-after.ensures.written;
      are_laid = c.lay_write-after.ensures.laid;
      few_over = c.lay_write-after.ensures.few_written;
      few = c.lay_write-after.ensures.few;
    } in
    let plain = own_record key own told over rows in
    let is : frame_in c.deref_mut.result.now ≡ record_bytes plain = ap frame_in c.deref_mut.ensures.value ∙ c.own_frame.ensures.frame in
    let planned = plan es key z runs room over rows after own told f in
    (subst IsFrame (sym is) planned.frames.0.0, plain_mark plain _ is c.own_frame.ensures.valid planned.frames.0.1)

pub returns-in-Err-clause-once : goal.returns-in-Err-clause-once
returns-in-Err-clause-once g c =
    let es = c.args.self.now.table.entries in
    let key = c.args.key.now in
    let runs = c.args.runs.now in
    let room = c.args.self.now.room in
    let z = to_z w64 (of_z w64 c.args.start) in
    let same : z ≡ c.args.start = to_z-of_z w64 c.args.start c.ranges.start in
    let granted : IsGranted es key z runs room = subst (λ (s : ℤ). IsGranted es key s runs room) (sym same) c.requires.granted in
    let over = c.lay_write-after.new.written.list in
    let rows = c.lay_write-after.new.rows.list in
    let after = c.lay_write-after.result in
    let own = c.own_numbers-own.result in
    let w = c.requires.granted in
    let range = in_range (kept_at es key) w.kept.view.state_epoch w.kept.view.leader_epoch c.args.start runs w.valid in
    let told = to_z w64 (of_z w64 c.start_told-told.result) in
    let f : IsLaid es key z runs room over rows after own told = record {
      granted = granted;
      kept = shown c.in-Some.kept.now;
      found = c.in-Some.ensures;
      is_kept = c.lay_write-after.ensures.kept;
      is_key = c.key_fits.ensures;
      starts_in = start_fits c.args.start c.ranges.start range.start_is;
      own_is = own_sent (shown c.in-Some.kept.now) z after c.counted-count.result own c.own_numbers-own.ensures c.counted-count.ensures
          c.lay_write-after.ensures.start c.lay_write-after.ensures.kept.start (start_fits c.args.start c.ranges.start range.start_is);
      starts = c.lay_write-after.ensures.start;
      told_is = told_same (shown c.in-Some.kept.now) z c.start_told-told.result c.start_told-told.ensures c.lay_write-after.ensures.kept.start
          (start_fits c.args.start c.ranges.start range.start_is);
      complete_is = c.lay_write-after.ensures.complete;
      are_written = c.lay_write-after.ensures.written;
      are_laid = c.lay_write-after.ensures.laid;
      few_over = c.lay_write-after.ensures.few_written;
      few = c.lay_write-after.ensures.few;
    } in
    let plain = own_record key own told over rows in
    let is : frame_in c.deref_mut.result.now ≡ record_bytes plain = ap frame_in c.deref_mut.ensures.value ∙ c.own_frame.ensures.frame in
    let long : length c.deref_mut.result.now ≡ length (record_bytes plain) + 5 = ap (λ (l : List ℕ). length l) c.deref_mut.ensures.value ∙ c.own_frame.ensures.len in
    let puts = c.put_framed.ensures.puts plain c.own_frame.ensures.valid is long (snapshot_frames es) in
    let planned = plan es key z runs room over rows after own told f in
    rewritten g.D.Disk.seen _ (IsOwnWritten es key z runs) (IsOwnWritten es key c.args.start runs) _ _ _
    (λ l h. subst (λ (s : ℤ). IsOwnWritten es key s runs l) same h)
    (refused_at g.D.Disk.seen plain None c.args.self.now.journal c.put_framed.new.journal es room c.ordered.ensures (left_by es key (left_of own rows) None)
    (planned.follows es (sym f.found)) (IsOwnWritten es key z runs) (own_written es key z runs room over rows after own told f) planned.frames.0.0 c.requires.held false (stored_as c.put_framed.result) puts
    _ es room refl refl (ap stored_as c.in-Err.is))

pub returns-in-Err-clause-stored : goal.returns-in-Err-clause-stored
returns-in-Err-clause-stored g c =
    let es = c.args.self.now.table.entries in
    let key = c.args.key.now in
    let runs = c.args.runs.now in
    let room = c.args.self.now.room in
    let z = to_z w64 (of_z w64 c.args.start) in
    let same : z ≡ c.args.start = to_z-of_z w64 c.args.start c.ranges.start in
    let granted : IsGranted es key z runs room = subst (λ (s : ℤ). IsGranted es key s runs room) (sym same) c.requires.granted in
    let over = c.lay_write-after.new.written.list in
    let rows = c.lay_write-after.new.rows.list in
    let after = c.lay_write-after.result in
    let own = c.own_numbers-own.result in
    let w = c.requires.granted in
    let range = in_range (kept_at es key) w.kept.view.state_epoch w.kept.view.leader_epoch c.args.start runs w.valid in
    let told = to_z w64 (of_z w64 c.start_told-told.result) in
    let f : IsLaid es key z runs room over rows after own told = record {
      granted = granted;
      kept = shown c.in-Some.kept.now;
      found = c.in-Some.ensures;
      is_kept = c.lay_write-after.ensures.kept;
      is_key = c.key_fits.ensures;
      starts_in = start_fits c.args.start c.ranges.start range.start_is;
      own_is = own_sent (shown c.in-Some.kept.now) z after c.counted-count.result own c.own_numbers-own.ensures c.counted-count.ensures
          c.lay_write-after.ensures.start c.lay_write-after.ensures.kept.start (start_fits c.args.start c.ranges.start range.start_is);
      starts = c.lay_write-after.ensures.start;
      told_is = told_same (shown c.in-Some.kept.now) z c.start_told-told.result c.start_told-told.ensures c.lay_write-after.ensures.kept.start
          (start_fits c.args.start c.ranges.start range.start_is);
      complete_is = c.lay_write-after.ensures.complete;
      are_written = c.lay_write-after.ensures.written;
      are_laid = c.lay_write-after.ensures.laid;
      few_over = c.lay_write-after.ensures.few_written;
      few = c.lay_write-after.ensures.few;
    } in
    let plain = own_record key own told over rows in
    let is : frame_in c.deref_mut.result.now ≡ record_bytes plain = ap frame_in c.deref_mut.ensures.value ∙ c.own_frame.ensures.frame in
    let long : length c.deref_mut.result.now ≡ length (record_bytes plain) + 5 = ap (λ (l : List ℕ). length l) c.deref_mut.ensures.value ∙ c.own_frame.ensures.len in
    let puts = c.put_framed.ensures.puts plain c.own_frame.ensures.valid is long (snapshot_frames es) in
    let planned = plan es key z runs room over rows after own told f in
    as_this g.D.Disk.seen (snapshot_frames es) (IsOwnRecord es key z runs) (IsOwnRecord es key c.args.start runs) _ _ (λ one h. subst (λ (s : ℤ). IsOwnRecord es key s runs one) same h) _
    (stores_err g.D.Disk.seen (snapshot_frames es) plain None c.args.self.now.journal c.put_framed.new.journal false (stored_as c.put_framed.result) puts
    c.requires.held.1.frames c.requires.held.1.sealing c.requires.held.1.unwritten c.requires.held.1.keeps _ (own_stored es key z runs room over rows after own told f) _ (ap stored_as c.in-Err.is))

pub returns-in-Err-clause-runs : goal.returns-in-Err-clause-runs
returns-in-Err-clause-runs g c =
    let es = c.args.self.now.table.entries in
    let key = c.args.key.now in
    let runs = c.args.runs.now in
    let room = c.args.self.now.room in
    let z = to_z w64 (of_z w64 c.args.start) in
    let same : z ≡ c.args.start = to_z-of_z w64 c.args.start c.ranges.start in
    let granted : IsGranted es key z runs room = subst (λ (s : ℤ). IsGranted es key s runs room) (sym same) c.requires.granted in
    let over = c.lay_write-after.new.written.list in
    let rows = c.lay_write-after.new.rows.list in
    let after = c.lay_write-after.result in
    let own = c.own_numbers-own.result in
    let w = c.requires.granted in
    let range = in_range (kept_at es key) w.kept.view.state_epoch w.kept.view.leader_epoch c.args.start runs w.valid in
    let told = to_z w64 (of_z w64 c.start_told-told.result) in
    let f : IsLaid es key z runs room over rows after own told = record {
      granted = granted;
      kept = shown c.in-Some.kept.now;
      found = c.in-Some.ensures;
      is_kept = c.lay_write-after.ensures.kept;
      is_key = c.key_fits.ensures;
      starts_in = start_fits c.args.start c.ranges.start range.start_is;
      own_is = own_sent (shown c.in-Some.kept.now) z after c.counted-count.result own c.own_numbers-own.ensures c.counted-count.ensures
          c.lay_write-after.ensures.start c.lay_write-after.ensures.kept.start (start_fits c.args.start c.ranges.start range.start_is);
      starts = c.lay_write-after.ensures.start;
      told_is = told_same (shown c.in-Some.kept.now) z c.start_told-told.result c.start_told-told.ensures c.lay_write-after.ensures.kept.start
          (start_fits c.args.start c.ranges.start range.start_is);
      complete_is = c.lay_write-after.ensures.complete;
      are_written = c.lay_write-after.ensures.written;
      are_laid = c.lay_write-after.ensures.laid;
      few_over = c.lay_write-after.ensures.few_written;
      few = c.lay_write-after.ensures.few;
    } in
    let plain = own_record key own told over rows in
    let is : frame_in c.deref_mut.result.now ≡ record_bytes plain = ap frame_in c.deref_mut.ensures.value ∙ c.own_frame.ensures.frame in
    let long : length c.deref_mut.result.now ≡ length (record_bytes plain) + 5 = ap (λ (l : List ℕ). length l) c.deref_mut.ensures.value ∙ c.own_frame.ensures.len in
    let puts = c.put_framed.ensures.puts plain c.own_frame.ensures.valid is long (snapshot_frames es) in
    let planned = plan es key z runs room over rows after own told f in
    puts.runs

pub own_kept-requires-clause-state : goal.own_kept-requires-clause-state
own_kept-requires-clause-state g c =
    let es = c.args.self.now.table.entries in
    let key = c.args.key.now in
    let runs = c.args.runs.now in
    let room = c.args.self.now.room in
    let z = to_z w64 (of_z w64 c.args.start) in
    let same : z ≡ c.args.start = to_z-of_z w64 c.args.start c.ranges.start in
    let granted : IsGranted es key z runs room = subst (λ (s : ℤ). IsGranted es key s runs room) (sym same) c.requires.granted in
    let over = c.lay_write-after.new.written.list in
    let rows = c.lay_write-after.new.rows.list in
    let after = c.lay_write-after.result in
    let own = c.own_numbers-own.result in
    let w = c.requires.granted in
    let range = in_range (kept_at es key) w.kept.view.state_epoch w.kept.view.leader_epoch c.args.start runs w.valid in
    let told = to_z w64 (of_z w64 c.start_told-told.result) in
    let f : IsLaid es key z runs room over rows after own told = record {
      granted = granted;
      kept = shown c.in-Some.kept.now;
      found = c.in-Some.ensures;
      is_kept = c.lay_write-after.ensures.kept;
      is_key = c.key_fits.ensures;
      starts_in = start_fits c.args.start c.ranges.start range.start_is;
      own_is = own_sent (shown c.in-Some.kept.now) z after c.counted-count.result own c.own_numbers-own.ensures c.counted-count.ensures
          c.lay_write-after.ensures.start c.lay_write-after.ensures.kept.start (start_fits c.args.start c.ranges.start range.start_is);
      starts = c.lay_write-after.ensures.start;
      told_is = told_same (shown c.in-Some.kept.now) z c.start_told-told.result c.start_told-told.ensures c.lay_write-after.ensures.kept.start
          (start_fits c.args.start c.ranges.start range.start_is);
      complete_is = c.lay_write-after.ensures.complete;
      are_written = c.lay_write-after.ensures.written;
      are_laid = c.lay_write-after.ensures.laid;
      few_over = c.lay_write-after.ensures.few_written;
      few = c.lay_write-after.ensures.few;
    } in
    subst (λ (rs : RunsParts). IsKeptState (record { state_epoch = own.state_epoch; leader_epoch = own.leader_epoch; start = own.start; runs = rs.list }))
    (sym c.replace-rows.ensures.value) (view_kept es key z runs room over rows after own told f)

pub returns-clause-once : goal.returns-clause-once
returns-clause-once g c =
    let es = c.args.self.now.table.entries in
    let key = c.args.key.now in
    let runs = c.args.runs.now in
    let room = c.args.self.now.room in
    let z = to_z w64 (of_z w64 c.args.start) in
    let same : z ≡ c.args.start = to_z-of_z w64 c.args.start c.ranges.start in
    let granted : IsGranted es key z runs room = subst (λ (s : ℤ). IsGranted es key s runs room) (sym same) c.requires.granted in
    let over = c.lay_write-after.new.written.list in
    let rows = c.lay_write-after.new.rows.list in
    let after = c.lay_write-after.result in
    let own = c.own_numbers-own.result in
    let w = c.requires.granted in
    let range = in_range (kept_at es key) w.kept.view.state_epoch w.kept.view.leader_epoch c.args.start runs w.valid in
    let told = to_z w64 (of_z w64 c.start_told-told.result) in
    let f : IsLaid es key z runs room over rows after own told = record {
      granted = granted;
      kept = shown c.in-Some.kept.now;
      found = c.in-Some.ensures;
      is_kept = c.lay_write-after.ensures.kept;
      is_key = c.key_fits.ensures;
      starts_in = start_fits c.args.start c.ranges.start range.start_is;
      own_is = own_sent (shown c.in-Some.kept.now) z after c.counted-count.result own c.own_numbers-own.ensures c.counted-count.ensures
          c.lay_write-after.ensures.start c.lay_write-after.ensures.kept.start (start_fits c.args.start c.ranges.start range.start_is);
      starts = c.lay_write-after.ensures.start;
      told_is = told_same (shown c.in-Some.kept.now) z c.start_told-told.result c.start_told-told.ensures c.lay_write-after.ensures.kept.start
          (start_fits c.args.start c.ranges.start range.start_is);
      complete_is = c.lay_write-after.ensures.complete;
      are_written = c.lay_write-after.ensures.written;
      are_laid = c.lay_write-after.ensures.laid;
      few_over = c.lay_write-after.ensures.few_written;
      few = c.lay_write-after.ensures.few;
    } in
    let plain = own_record key own told over rows in
    let is : frame_in c.deref_mut.result.now ≡ record_bytes plain = ap frame_in c.deref_mut.ensures.value ∙ c.own_frame.ensures.frame in
    let long : length c.deref_mut.result.now ≡ length (record_bytes plain) + 5 = ap (λ (l : List ℕ). length l) c.deref_mut.ensures.value ∙ c.own_frame.ensures.len in
    let puts = c.put_framed.ensures.puts plain c.own_frame.ensures.valid is long (snapshot_frames es) in
    let planned = plan es key z runs room over rows after own told f in
    rewritten g.D.Disk.seen _ (IsOwnWritten es key z runs) (IsOwnWritten es key c.args.start runs) _ _ _
    (λ l h. subst (λ (s : ℤ). IsOwnWritten es key s runs l) same h)
    (stored_at g.D.Disk.seen plain None c.args.self.now.journal c.put_framed.new.journal es room c.ordered.ensures (left_by es key (left_of own rows) None)
    (planned.follows es (sym f.found)) (IsOwnWritten es key z runs) (own_written es key z runs room over rows after own told f) planned.frames.0.0 c.requires.held false (stored_as c.put_framed.result) puts
    tt c.exchange.new.self.entries room refl (c.exchange.ensures.entries ∙ (ap (λ (k : KeptState). with_kept es key k) c.own_kept.ensures.kept
    ∙ ap (λ (rs : RunsParts). with_kept es key (left_of own rs.list)) c.replace-rows.ensures.value)) (ap stored_as c.in_default-put_framed.is))

pub returns-clause-stored : goal.returns-clause-stored
returns-clause-stored g c =
    let es = c.args.self.now.table.entries in
    let key = c.args.key.now in
    let runs = c.args.runs.now in
    let room = c.args.self.now.room in
    let z = to_z w64 (of_z w64 c.args.start) in
    let same : z ≡ c.args.start = to_z-of_z w64 c.args.start c.ranges.start in
    let granted : IsGranted es key z runs room = subst (λ (s : ℤ). IsGranted es key s runs room) (sym same) c.requires.granted in
    let over = c.lay_write-after.new.written.list in
    let rows = c.lay_write-after.new.rows.list in
    let after = c.lay_write-after.result in
    let own = c.own_numbers-own.result in
    let w = c.requires.granted in
    let range = in_range (kept_at es key) w.kept.view.state_epoch w.kept.view.leader_epoch c.args.start runs w.valid in
    let told = to_z w64 (of_z w64 c.start_told-told.result) in
    let f : IsLaid es key z runs room over rows after own told = record {
      granted = granted;
      kept = shown c.in-Some.kept.now;
      found = c.in-Some.ensures;
      is_kept = c.lay_write-after.ensures.kept;
      is_key = c.key_fits.ensures;
      starts_in = start_fits c.args.start c.ranges.start range.start_is;
      own_is = own_sent (shown c.in-Some.kept.now) z after c.counted-count.result own c.own_numbers-own.ensures c.counted-count.ensures
          c.lay_write-after.ensures.start c.lay_write-after.ensures.kept.start (start_fits c.args.start c.ranges.start range.start_is);
      starts = c.lay_write-after.ensures.start;
      told_is = told_same (shown c.in-Some.kept.now) z c.start_told-told.result c.start_told-told.ensures c.lay_write-after.ensures.kept.start
          (start_fits c.args.start c.ranges.start range.start_is);
      complete_is = c.lay_write-after.ensures.complete;
      are_written = c.lay_write-after.ensures.written;
      are_laid = c.lay_write-after.ensures.laid;
      few_over = c.lay_write-after.ensures.few_written;
      few = c.lay_write-after.ensures.few;
    } in
    let plain = own_record key own told over rows in
    let is : frame_in c.deref_mut.result.now ≡ record_bytes plain = ap frame_in c.deref_mut.ensures.value ∙ c.own_frame.ensures.frame in
    let long : length c.deref_mut.result.now ≡ length (record_bytes plain) + 5 = ap (λ (l : List ℕ). length l) c.deref_mut.ensures.value ∙ c.own_frame.ensures.len in
    let puts = c.put_framed.ensures.puts plain c.own_frame.ensures.valid is long (snapshot_frames es) in
    let planned = plan es key z runs room over rows after own told f in
    as_this g.D.Disk.seen (snapshot_frames es) (IsOwnRecord es key z runs) (IsOwnRecord es key c.args.start runs) _ _ (λ one h. subst (λ (s : ℤ). IsOwnRecord es key s runs one) same h) _
    (stores_ok g.D.Disk.seen (snapshot_frames es) plain None c.args.self.now.journal c.put_framed.new.journal false (stored_as c.put_framed.result) puts
    c.requires.held.1.frames c.requires.held.1.sealing c.requires.held.1.unwritten c.requires.held.1.keeps _ (own_stored es key z runs room over rows after own told f) tt (ap stored_as c.in_default-put_framed.is))

pub returns-clause-runs : goal.returns-clause-runs
returns-clause-runs g c =
    let es = c.args.self.now.table.entries in
    let key = c.args.key.now in
    let runs = c.args.runs.now in
    let room = c.args.self.now.room in
    let z = to_z w64 (of_z w64 c.args.start) in
    let same : z ≡ c.args.start = to_z-of_z w64 c.args.start c.ranges.start in
    let granted : IsGranted es key z runs room = subst (λ (s : ℤ). IsGranted es key s runs room) (sym same) c.requires.granted in
    let over = c.lay_write-after.new.written.list in
    let rows = c.lay_write-after.new.rows.list in
    let after = c.lay_write-after.result in
    let own = c.own_numbers-own.result in
    let w = c.requires.granted in
    let range = in_range (kept_at es key) w.kept.view.state_epoch w.kept.view.leader_epoch c.args.start runs w.valid in
    let told = to_z w64 (of_z w64 c.start_told-told.result) in
    let f : IsLaid es key z runs room over rows after own told = record {
      granted = granted;
      kept = shown c.in-Some.kept.now;
      found = c.in-Some.ensures;
      is_kept = c.lay_write-after.ensures.kept;
      is_key = c.key_fits.ensures;
      starts_in = start_fits c.args.start c.ranges.start range.start_is;
      own_is = own_sent (shown c.in-Some.kept.now) z after c.counted-count.result own c.own_numbers-own.ensures c.counted-count.ensures
          c.lay_write-after.ensures.start c.lay_write-after.ensures.kept.start (start_fits c.args.start c.ranges.start range.start_is);
      starts = c.lay_write-after.ensures.start;
      told_is = told_same (shown c.in-Some.kept.now) z c.start_told-told.result c.start_told-told.ensures c.lay_write-after.ensures.kept.start
          (start_fits c.args.start c.ranges.start range.start_is);
      complete_is = c.lay_write-after.ensures.complete;
      are_written = c.lay_write-after.ensures.written;
      are_laid = c.lay_write-after.ensures.laid;
      few_over = c.lay_write-after.ensures.few_written;
      few = c.lay_write-after.ensures.few;
    } in
    let plain = own_record key own told over rows in
    let is : frame_in c.deref_mut.result.now ≡ record_bytes plain = ap frame_in c.deref_mut.ensures.value ∙ c.own_frame.ensures.frame in
    let long : length c.deref_mut.result.now ≡ length (record_bytes plain) + 5 = ap (λ (l : List ℕ). length l) c.deref_mut.ensures.value ∙ c.own_frame.ensures.len in
    let puts = c.put_framed.ensures.puts plain c.own_frame.ensures.valid is long (snapshot_frames es) in
    let planned = plan es key z runs room over rows after own told f in
    puts.runs

pub returns-clause-roomy : goal.returns-clause-roomy
returns-clause-roomy g c =
    let roomy = c.requires.roomy in
    let room = c.args.self.now.room in
    let in_table = roomy.table in
    let in_written = roomy.written in
    let in_laid = roomy.laid in
    let in_buffer = roomy.buffer in
    let written_more = c.lay_write-after.ensures.room_written in
    let laid_more = c.lay_write-after.ensures.room in
    let kept_is : c.own_kept.result.view.room ≡ room_of c.lay_write-after.new.rows = c.own_kept.ensures.room ∙ ap room_of c.replace-rows.ensures.value in
    let kept_has : room ≤ c.own_kept.result.view.room = omega (arith, in_laid, laid_more, kept_is) in
    let old_has = c.in-Some-exchange.ensures.old in
    let rows_are = c.rows_of.ensures in
    let buffer_is = ap (λ v. vec_capacity v) c.replace-buffer.ensures.value in
    let buffer_more = c.own_frame.ensures.capacity in
    let buffer_has : 320 + 19 * room ≤ vec_capacity c.own_frame.result = omega (arith, in_buffer, buffer_is, buffer_more) in
    record {
      table = c.exchange.ensures.room room in_table kept_has;
      written = omega (arith, in_written, written_more);
      laid = omega (arith, in_table, old_has, rows_are);
      buffer = buffer_has;
    }

pub returns-in-Err-clause-alone : goal.returns-in-Err-clause-alone
returns-in-Err-clause-alone g c =
    subst (λ (r : Result (Unit {0}) StoreFault). StaysOn g.D.Disk.seen c.args.self.now.journal c.put_framed.new.journal r) c.in-Err.is c.put_framed.ensures.alone

pub returns-clause-alone : goal.returns-clause-alone
returns-clause-alone g c =
    subst (λ (r : Result (Unit {0}) StoreFault). StaysOn g.D.Disk.seen c.args.self.now.journal c.put_framed.new.journal r) c.in_default-put_framed.is
    c.put_framed.ensures.alone
