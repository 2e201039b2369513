use Rattle.std.proofs.Common.{◌<◌, ◌≡◌, inl, ◌++◌, length, sym, ap, subst, Contains}
use Rattle.share_model.specs.Rooms.{Filled}
use Rattle.log_index.specs.Indexes.{IndexParts, IsEntryAt}
use Rattle.log_index.specs.declared.entry.Entry.{Entry}
use Rattle.log_index.proofs.Fitting.{also_from, read_extends, read_ok, cached_extends, cached_ok, cached_spared, entry_at, fits_less, fits_more, still, still_fits, told_before}
use Rattle.log_index.proofs.index.LogIndex.read.Goals as goal

pub returns-in-Some-clause-ok : goal.returns-in-Some-clause-ok
returns-in-Some-clause-ok g c =
    let kept = c.in-Some.ensures.some in
    let has = subst (λ (p : IndexParts). Contains p.cached (c.args.number, kept.0)) c.self.view_is kept.1 in
    cached_ok g.D.Disk.seen g.met.D.Disk.read_is_image c.args.self.now c.args.journal.now c.requires.fits c.args.number kept.0 has
    c.in-Some.read c.args.out.now c.append_kept.new.out kept.2

pub returns-in-Some-clause-extends : goal.returns-in-Some-clause-extends
returns-in-Some-clause-extends g c =
    let kept = c.in-Some.ensures.some in
    let has = subst (λ (p : IndexParts). Contains p.cached (c.args.number, kept.0)) c.self.view_is kept.1 in
    cached_extends g.D.Disk.seen g.met.D.Disk.read_is_image c.args.self.now c.args.journal.now c.requires.fits c.args.number kept.0 has
    c.in-Some.read c.args.out.now c.append_kept.new.out kept.2

pub returns-in-Some-clause-spared : goal.returns-in-Some-clause-spared
returns-in-Some-clause-spared g c =
    let kept = c.in-Some.ensures.some in
    let has = subst (λ (p : IndexParts). Contains p.cached (c.args.number, kept.0)) c.self.view_is kept.1 in
    cached_spared g.D.Disk.seen g.met.D.Disk.read_is_image c.args.self.now c.args.journal.now c.requires.fits c.args.number kept.0 has
    c.in-Some.read c.args.out.now c.append_kept.new.out kept.2

pub returns-in-Some-clause-fits : goal.returns-in-Some-clause-fits
returns-in-Some-clause-fits g c =
    still_fits g.D.Disk.seen c.args.self.now _ c.args.journal.now c.args.journal.now c.requires.fits (λ place frame h. h) (λ told. told)
    (ap (λ (p : IndexParts). p.entries) c.self.view_is)
    (fits_less g.D.Disk.seen c.args.self.now c.args.journal.now _ c.requires.fits
    (λ k bytes has. subst (λ (p : IndexParts). Contains p.cached (k, bytes)) c.self.view_is (c.in-Some.ensures.cached (k, bytes) has)))

pub returns-in-Some-clause-cached : goal.returns-in-Some-clause-cached
returns-in-Some-clause-cached g c = λ k bytes has. inl (subst (λ (p : IndexParts). Contains p.cached (k, bytes)) c.self.view_is (c.in-Some.ensures.cached (k, bytes) has))

pub append_frame-requires : goal.append_frame-requires
append_frame-requires g c =
    let lt : c.args.number < length c.self.inside.entries.items = subst (λ (p : IndexParts). c.args.number < length p.entries) (sym c.self.view_is) c.requires.number in
    let inside : IsEntryAt c.self.inside.entries.items c.args.number c.index-entry.result.now =
    subst (λ (e : Entry). IsEntryAt c.self.inside.entries.items c.args.number e) (sym c.index-entry.ensures)
    (entry_at c.self.inside.entries.items c.args.number c.index-entry.result.now lt) in
    let at = subst (λ (p : IndexParts). IsEntryAt p.entries c.args.number c.index-entry.result.now) c.self.view_is inside in
    c.requires.fits.frames c.args.number c.index-entry.result.now at

pub returns-clause-ok : goal.returns-clause-ok
returns-clause-ok g c =
    let lt : c.args.number < length c.self.inside.entries.items = subst (λ (p : IndexParts). c.args.number < length p.entries) (sym c.self.view_is) c.requires.number in
    let inside : IsEntryAt c.self.inside.entries.items c.args.number c.index-entry.result.now =
    subst (λ (e : Entry). IsEntryAt c.self.inside.entries.items c.args.number e) (sym c.index-entry.ensures)
    (entry_at c.self.inside.entries.items c.args.number c.index-entry.result.now lt) in
    let at = subst (λ (p : IndexParts). IsEntryAt p.entries c.args.number c.index-entry.result.now) c.self.view_is inside in
    read_ok g.D.Disk.seen g.met.D.Disk.read_is_image c.args.self.now c.args.journal.now c.requires.fits c.args.number c.index-entry.result.now at
    c.append_frame.result c.args.out.now c.append_kept.new.out c.append_frame.new.out (c.append_kept.ensures.none c.in_default.is) c.append_frame.ensures.ok

pub returns-clause-extends : goal.returns-clause-extends
returns-clause-extends g c =
    let lt : c.args.number < length c.self.inside.entries.items = subst (λ (p : IndexParts). c.args.number < length p.entries) (sym c.self.view_is) c.requires.number in
    let inside : IsEntryAt c.self.inside.entries.items c.args.number c.index-entry.result.now =
    subst (λ (e : Entry). IsEntryAt c.self.inside.entries.items c.args.number e) (sym c.index-entry.ensures)
    (entry_at c.self.inside.entries.items c.args.number c.index-entry.result.now lt) in
    let at = subst (λ (p : IndexParts). IsEntryAt p.entries c.args.number c.index-entry.result.now) c.self.view_is inside in
    read_extends c.args.self.now.entries c.args.number c.index-entry.result.now at
    c.append_frame.result c.args.out.now c.append_kept.new.out c.append_frame.new.out (c.append_kept.ensures.none c.in_default.is)
    c.append_frame.ensures.extends c.append_frame.ensures.less

pub returns-clause-fits : goal.returns-clause-fits
returns-clause-fits g c =
    let lt : c.args.number < length c.self.inside.entries.items = subst (λ (p : IndexParts). c.args.number < length p.entries) (sym c.self.view_is) c.requires.number in
    let inside : IsEntryAt c.self.inside.entries.items c.args.number c.index-entry.result.now =
    subst (λ (e : Entry). IsEntryAt c.self.inside.entries.items c.args.number e) (sym c.index-entry.ensures)
    (entry_at c.self.inside.entries.items c.args.number c.index-entry.result.now lt) in
    let at = subst (λ (p : IndexParts). IsEntryAt p.entries c.args.number c.index-entry.result.now) c.self.view_is inside in
    still_fits g.D.Disk.seen c.args.self.now _ c.args.journal.now c.append_frame.new.journal c.requires.fits
    (still g.D.Disk.seen c.args.journal.now c.append_frame.new.journal c.append_frame.ensures.only)
    (told_before g.D.Disk.seen c.args.journal.now c.append_frame.new.journal c.append_frame.ensures.only)
    (ap (λ (p : IndexParts). p.entries) c.self.view_is)
    (fits_more g.D.Disk.seen c.args.self.now c.args.journal.now c.args.number c.index-entry.result.now c.append_frame.new.cache.entries c.append_frame.result
    c.append_kept.new.out c.append_frame.new.out c.requires.fits at c.append_frame.ensures.ok c.append_frame.ensures.extends
    (also_from _ _ _ _ _ _ c.append_frame.ensures.cached
    (λ k bytes has. subst (λ (p : IndexParts). Contains p.cached (k, bytes)) c.self.view_is (c.append_kept.ensures.cached (k, bytes) has)) (λ bytes p. p)))

pub returns-clause-cached : goal.returns-clause-cached
returns-clause-cached g c = also_from _ _ _ _ _ _ c.append_frame.ensures.cached
    (λ k bytes has. subst (λ (p : IndexParts). Contains p.cached (k, bytes)) c.self.view_is (c.append_kept.ensures.cached (k, bytes) has))
    (λ bytes p. (p.0, subst (λ (f : Filled). c.append_frame.new.out.bytes ≡ f.bytes ++ bytes) (c.append_kept.ensures.none c.in_default.is) p.1))
