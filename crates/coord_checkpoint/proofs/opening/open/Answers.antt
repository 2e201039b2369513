use Rattle.std.proofs.Common.{Bool, sym, subst}
use Rattle.checkpoint_journal.specs.Generations.{IsUnlisted}
use Rattle.gate_journal.proofs.Once.{not_both}
use Rattle.coord_checkpoint.proofs.Opened.{if_seen, read_few, read_keeps, read_listed, read_live, read_none, read_places, read_recovers, read_unsealed, unsealed_unlisted}
use Rattle.coord_checkpoint.proofs.opening.open.Goals as goal

pub returns-in-Err-clause-recovers : goal.returns-in-Err-clause-recovers
returns-in-Err-clause-recovers g c = λ a b frames on_a on_b is second place e.
    c.in-Err.ensures.recovers a is.ones place on_a is.first_is (c.fault_of.ensures.damaged second place e).1

pub returns-in-Err-open_disk-clause-recovers : goal.returns-in-Err-open_disk-clause-recovers
returns-in-Err-open_disk-clause-recovers g c = λ a b frames on_a on_b is second place e.
    c.in-Err-open_disk.ensures.recovers b is.twos place on_b is.second_is (c.fault_of-in-Err-open_disk.ensures.damaged second place e).1

pub returns-in-Err-open_disk-clause-damaged : goal.returns-in-Err-open_disk-clause-damaged
returns-in-Err-open_disk-clause-damaged g c = λ second place e a b on_a on_b.
    let one = c.in-Ok.ensures.ok in
    let d = c.fault_of-in-Err-open_disk.ensures.damaged second place e in
    subst (λ (s : Bool). IsUnlisted a b s place) (sym d.0)
    ((one.frames, one.opens.stands a on_a), c.in-Err-open_disk.ensures.damaged b place on_b d.1)

pub returns-in-Some-clause-places : goal.returns-in-Some-clause-places
returns-in-Some-clause-places g c =
    let one = c.in-Ok.ensures.ok in
    let two = c.in-Ok-open_disk.ensures.ok in
    let is = c.in-Some.ensures one.frames two.frames one.stands two.stands in
    let from = if_seen g.V.StateVisit.seen c.in-Some.turn.on_second c.in-Ok.read.1 c.in-Ok-open_disk.read.1 c.pick-live.result c.pick-live.ensures in
    read_places g.D.Disk.seen c.args.first c.args.second _ _ _ _ _ _ one two c.in-Some.turn is _ from

pub returns-in-Some-clause-few : goal.returns-in-Some-clause-few
returns-in-Some-clause-few g c =
    let one = c.in-Ok.ensures.ok in
    let two = c.in-Ok-open_disk.ensures.ok in
    let is = c.in-Some.ensures one.frames two.frames one.stands two.stands in
    let from = if_seen g.V.StateVisit.seen c.in-Some.turn.on_second c.in-Ok.read.1 c.in-Ok-open_disk.read.1 c.pick-live.result c.pick-live.ensures in
    read_few g.D.Disk.seen c.args.first c.args.second _ _ _ _ _ _ one two c.in-Some.turn is _ from

pub returns-in-Some-clause-kept : goal.returns-in-Some-clause-kept
returns-in-Some-clause-kept g c =
    let one = c.in-Ok.ensures.ok in
    let two = c.in-Ok-open_disk.ensures.ok in
    let is = c.in-Some.ensures one.frames two.frames one.stands two.stands in
    let from = if_seen g.V.StateVisit.seen c.in-Some.turn.on_second c.in-Ok.read.1 c.in-Ok-open_disk.read.1 c.pick-live.result c.pick-live.ensures in
    read_keeps g.D.Disk.seen c.args.first c.args.second _ _ _ _ _ _ one two c.in-Some.turn is _ from c.opened.result c.opened.ensures

pub returns-in-Some-clause-live : goal.returns-in-Some-clause-live
returns-in-Some-clause-live g c =
    let one = c.in-Ok.ensures.ok in
    let two = c.in-Ok-open_disk.ensures.ok in
    let is = c.in-Some.ensures one.frames two.frames one.stands two.stands in
    let from = if_seen g.V.StateVisit.seen c.in-Some.turn.on_second c.in-Ok.read.1 c.in-Ok-open_disk.read.1 c.pick-live.result c.pick-live.ensures in
    λ a b on_a on_b. read_live g.D.Disk.seen c.args.first c.args.second _ _ _ _ _ _ one two c.in-Some.turn is _ from a b on_a on_b c.opened.result c.opened.ensures

pub returns-in-Some-clause-opens : goal.returns-in-Some-clause-opens
returns-in-Some-clause-opens g c =
    let one = c.in-Ok.ensures.ok in
    let two = c.in-Ok-open_disk.ensures.ok in
    let is = c.in-Some.ensures one.frames two.frames one.stands two.stands in
    let from = if_seen g.V.StateVisit.seen c.in-Some.turn.on_second c.in-Ok.read.1 c.in-Ok-open_disk.read.1 c.pick-live.result c.pick-live.ensures in
    λ a b on_a on_b. read_listed g.D.Disk.seen c.args.first c.args.second _ _ _ _ _ _ one two c.in-Some.turn is _ from a b on_a on_b

pub returns-in-Some-clause-recovers : goal.returns-in-Some-clause-recovers
returns-in-Some-clause-recovers g c =
    let one = c.in-Ok.ensures.ok in
    let two = c.in-Ok-open_disk.ensures.ok in
    let is = c.in-Some.ensures one.frames two.frames one.stands two.stands in
    let from = if_seen g.V.StateVisit.seen c.in-Some.turn.on_second c.in-Ok.read.1 c.in-Ok-open_disk.read.1 c.pick-live.result c.pick-live.ensures in
    λ a b frames on_a on_b listed. read_recovers g.D.Disk.seen c.args.first c.args.second _ _ _ _ _ _ one two c.in-Some.turn is _ from a b on_a on_b frames listed

pub returns-in-None-clause-recovers : goal.returns-in-None-clause-recovers
returns-in-None-clause-recovers g c =
    let one = c.in-Ok.ensures.ok in
    let two = c.in-Ok-open_disk.ensures.ok in
    let none = c.in-None.ensures one.frames two.frames one.stands two.stands in
    λ a b frames on_a on_b listed second place e. read_none g.D.Disk.seen c.args.first c.args.second _ _ _ _ _ _ one two none a b on_a on_b frames listed

pub returns-in-None-clause-damaged : goal.returns-in-None-clause-damaged
returns-in-None-clause-damaged g c =
    let one = c.in-Ok.ensures.ok in
    let two = c.in-Ok-open_disk.ensures.ok in
    let none = c.in-None.ensures one.frames two.frames one.stands two.stands in
    λ second place e a b on_a on_b. unsealed_unlisted a b second place e (read_unsealed g.D.Disk.seen c.args.first c.args.second _ _ _ _ _ _ one two none a b on_a on_b)

pub returns-in-None-clause-unread : goal.returns-in-None-clause-unread
returns-in-None-clause-unread g c =
    let one = c.in-Ok.ensures.ok in
    λ a place on_a damaged e. absurd (not_both a one.frames place (one.opens.stands a on_a) damaged)
