use Rattle.std.proofs.Common.{inr, arith}
use Rattle.edge_io.proofs.Moments.{weakened}
use Rattle.gate_journal.proofs.Repairs.{first_stands, cut_stands, cut_rests}
use Rattle.gate_journal.proofs.repair.repair.Goals as goal

pub returns-in_err-write_and_sync-clause-any_moment : goal.returns-in_err-write_and_sync-clause-any_moment
returns-in_err-write_and_sync-clause-any_moment g c = λ frames read synced.
    weakened g.D.Disk.seen _ _ _ _ c.write_and_sync.ensures.any_moment
    (λ x p. let r = read p.0 (synced p.0 p.1) in (
      p.0,
      p.1,
      inr
          (frames, r.stands, first_stands _ _ _ _ r x (omega (arith, c.if-len-le1.true, c.len-len.ensures)) p.2),
    ))

pub returns-then-len-le1-clause-any_moment : goal.returns-then-len-le1-clause-any_moment
returns-then-len-le1-clause-any_moment g c = λ frames read synced.
    weakened g.D.Disk.seen _ _ _ _ c.write_and_sync.ensures.any_moment
    (λ x p. let r = read p.0 (synced p.0 p.1) in (
      p.0,
      p.1,
      inr
          (frames, r.stands, first_stands _ _ _ _ r x (omega (arith, c.if-len-le1.true, c.len-len.ensures)) p.2),
    ))

pub returns-in_err-cut_and_sync-clause-any_moment : goal.returns-in_err-cut_and_sync-clause-any_moment
returns-in_err-cut_and_sync-clause-any_moment g c = λ frames read synced.
    weakened g.D.Disk.seen _ _ _ _ c.cut_and_sync.ensures.any_moment
    (λ x p. let r = read p.0 (synced p.0 p.1) in (
      p.0,
      p.1,
      inr
          (frames, r.stands, cut_stands _ _ _ _ r x (omega (arith, c.if-len-le1.false, c.len-len.ensures)) p.2),
    ))

pub returns-then-end-len-clause-any_moment : goal.returns-then-end-len-clause-any_moment
returns-then-end-len-clause-any_moment g c = λ frames read synced.
    weakened g.D.Disk.seen _ _ _ _ c.cut_and_sync.ensures.any_moment
    (λ x p. let r = read p.0 (synced p.0 p.1) in (
      p.0,
      p.1,
      inr
          (frames, r.stands, cut_stands _ _ _ _ r x (omega (arith, c.if-len-le1.false, c.len-len.ensures)) p.2),
    ))

pub returns-then-end-len-clause-ok : goal.returns-then-end-len-clause-ok
returns-then-end-len-clause-ok g c = λ frames read synced x now.
    let p = c.in_ok-cut_and_sync.ensures.ok x now in
    cut_rests _ _ _ _ (read p.0 p.1) x (omega (arith, c.if-len-le1.false, c.len-len.ensures)) p.2
