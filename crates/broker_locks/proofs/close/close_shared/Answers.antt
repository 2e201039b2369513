use Rattle.std.proofs.Common.{◌≡◌, ◌∷◌, [], List, subst, sym, ap, ◌∙◌}
use Rattle.std.specs.List.{AllByRecursion, AllZip}
use Rattle.shard_lock.specs.Passes.{LockParts, PassParts, passes_of}
use Rattle.broker_model.specs.Hosted.{Hosted, IsOneOf, part_disks, state_a, state_b}
use Rattle.broker_hosts.specs.Hosts.{AreDistinct, AreNamed}
use Rattle.broker_hosts.proofs.Places.{one_in_front}
use Rattle.broker_hosts.proofs.Starting.{parts_distinct}
use Rattle.broker_shards.specs.Acts.{ActsForeign, ActsMembers, ActsPart}
use Rattle.broker_shards.specs.Hosts.{Host}
use Rattle.broker_shards.specs.declared.foreign.ForeignEvent.{ForeignEvent}
use Rattle.broker_shards.specs.declared.foreign.ForeignHost.{ForeignHost}
use Rattle.broker_shards.specs.declared.members.MembersEvent.{MembersEvent}
use Rattle.broker_shards.specs.declared.members.MembersHost.{MembersHost}
use Rattle.broker_shards.specs.declared.part.PartEvent.{PartEvent}
use Rattle.broker_locks.specs.Opening.{hosted_in}
use Rattle.broker_locks.specs.Rows.{AreEnded, Ends, IsOfOne, IsRow, StandsAmong, StandsFor, foreign_in, members_in, parts_in}
use Rattle.broker_locks.specs.Shared.{MembersAnswer, PartAnswer, PassesParts, StateAnswer, first_shards}
use Rattle.broker_locks.proofs.Closings.{closes_all, first_out, hosted_by, hosted_firsts, second_out}
use Rattle.broker_locks.proofs.Lines.{among_for}
use Rattle.broker_locks.proofs.close.close_shared.Goals as goal

pub close_parts-requires-clause-all : goal.close_parts-requires-clause-all
close_parts-requires-clause-all g c =
    let made = c.requires.all in
    let row : IsRow c.args.passes.items made.0 c.args.shared c.gather-pass.result = c.gather-pass.ensures made.0 made.1 in
    let K : Type 0 = LockParts (Host g.row.D.Denot) in
    let P : Type 0 = PassParts (Host g.row.D.Denot) PartEvent PartAnswer in
    let locks : c.shared.inside.parts.items ≡ c.args.shared.parts = ap (λ x. x.parts) c.shared.view_is in
    let passes : c.pass.inside.parts.items ≡ c.gather-pass.result.parts = ap (λ x. x.parts) c.pass.view_is in (
      made.0,
      subst (λ (x : List K × List P). AllZip (StandsFor made.0) x.0 x.1) (λ j. (sym locks j, sym passes j)) (among_for (parts_in c.args.passes.items) made.0 _ _ row.parts),
      subst (λ (x : List K). AllByRecursion (λ (k : K). k.seats ≡ made.0) x) (sym locks) made.1.parts,
    )

pub close-requires-clause-of : goal.close-requires-clause-of
close-requires-clause-of g c =
    let made = c.requires.all in
    let row : IsRow c.args.passes.items made.0 c.args.shared c.gather-pass.result = c.gather-pass.ensures made.0 made.1 in
    let lock : c.shared.inside.members ≡ c.args.shared.members = ap (λ x. x.members) c.shared.view_is in
    let pass : c.pass.inside.members ≡ c.gather-pass.result.members = ap (λ x. x.members) c.pass.view_is in
    let s = subst (λ (x : LockParts MembersHost × PassParts MembersHost MembersEvent MembersAnswer). StandsFor made.0 x.0 x.1) (λ j. (sym lock j, sym pass j)) row.members.0 in
    s.0

pub close-requires-clause-all : goal.close-requires-clause-all
close-requires-clause-all g c =
    let made = c.requires.all in
    let row : IsRow c.args.passes.items made.0 c.args.shared c.gather-pass.result = c.gather-pass.ensures made.0 made.1 in
    let lock : c.shared.inside.members ≡ c.args.shared.members = ap (λ x. x.members) c.shared.view_is in
    let pass : c.pass.inside.members ≡ c.gather-pass.result.members = ap (λ x. x.members) c.pass.view_is in
    ap (λ p. p.stands) pass ∙ row.members.0.1 ∙ sym (ap (λ l. l.seats) lock ∙ made.1.members)

pub close-foreign-requires-clause-of : goal.close-foreign-requires-clause-of
close-foreign-requires-clause-of g c =
    let made = c.requires.all in
    let row : IsRow c.args.passes.items made.0 c.args.shared c.gather-pass.result = c.gather-pass.ensures made.0 made.1 in
    let lock : c.shared.inside.foreign ≡ c.args.shared.foreign = ap (λ x. x.foreign) c.shared.view_is in
    let pass : c.pass.inside.foreign ≡ c.gather-pass.result.foreign = ap (λ x. x.foreign) c.pass.view_is in
    let s = subst (λ (x : LockParts (ForeignHost g.row.D.Denot) × PassParts (ForeignHost g.row.D.Denot) ForeignEvent StateAnswer). StandsFor made.0 x.0 x.1) (λ j. (sym lock j, sym pass j)) row.foreign.0 in
    s.0

pub close-foreign-requires-clause-all : goal.close-foreign-requires-clause-all
close-foreign-requires-clause-all g c =
    let made = c.requires.all in
    let row : IsRow c.args.passes.items made.0 c.args.shared c.gather-pass.result = c.gather-pass.ensures made.0 made.1 in
    let lock : c.shared.inside.foreign ≡ c.args.shared.foreign = ap (λ x. x.foreign) c.shared.view_is in
    let pass : c.pass.inside.foreign ≡ c.gather-pass.result.foreign = ap (λ x. x.foreign) c.pass.view_is in
    ap (λ p. p.stands) pass ∙ row.foreign.0.1 ∙ sym (ap (λ l. l.seats) lock ∙ made.1.foreign)

pub close_parts-requires-clause-named : goal.close_parts-requires-clause-named
close_parts-requires-clause-named g c =
    let locks : c.shared.inside.parts.items ≡ c.args.shared.parts = ap (λ x. x.parts) c.shared.view_is in
    let is : hosted_in (first_shards c.args.shared) ≡ hosted_by g.B.Bay.seen g.D.Disk.seen c.shared.inside.parts.items =
    hosted_firsts g.B.Bay.seen g.D.Disk.seen c.args.shared.parts ∙ ap (hosted_by g.B.Bay.seen g.D.Disk.seen) (sym locks) in
    subst AreNamed is c.requires.opened.named

pub close_parts-requires-clause-apart : goal.close_parts-requires-clause-apart
close_parts-requires-clause-apart g c =
    let locks : c.shared.inside.parts.items ≡ c.args.shared.parts = ap (λ x. x.parts) c.shared.view_is in
    let is : hosted_in (first_shards c.args.shared) ≡ hosted_by g.B.Bay.seen g.D.Disk.seen c.shared.inside.parts.items =
    hosted_firsts g.B.Bay.seen g.D.Disk.seen c.args.shared.parts ∙ ap (hosted_by g.B.Bay.seen g.D.Disk.seen) (sym locks) in
    subst (λ (l : List Hosted). AreDistinct (part_disks l)) is (parts_distinct (hosted_in (first_shards c.args.shared)) c.requires.opened.apart)

pub close_parts-requires-clause-out : goal.close_parts-requires-clause-out
close_parts-requires-clause-out g c = λ name one.
    let locks : c.shared.inside.parts.items ≡ c.args.shared.parts = ap (λ x. x.parts) c.shared.view_is in
    let is : hosted_in (first_shards c.args.shared) ≡ hosted_by g.B.Bay.seen g.D.Disk.seen c.shared.inside.parts.items =
    hosted_firsts g.B.Bay.seen g.D.Disk.seen c.args.shared.parts ∙ ap (hosted_by g.B.Bay.seen g.D.Disk.seen) (sym locks) in
    c.requires.out name (one_in_front (part_disks (hosted_in (first_shards c.args.shared))) (state_a ∷ state_b ∷ []) name
    (subst (λ (l : List Hosted). IsOneOf (part_disks l) name) (sym is) one))

pub put_foreign_back-requires-clause-first : goal.put_foreign_back-requires-clause-first
put_foreign_back-requires-clause-first g c =
    let locks : c.shared.inside.parts.items ≡ c.args.shared.parts = ap (λ x. x.parts) c.shared.view_is in
    let p = c.close_parts.ensures in
    first_out g.B.Bay.seen g.D.Disk.seen c.args.shared c.requires.opened c.pass.inside.parts.items p.0
    (subst (λ (l : List (LockParts (Host g.row.D.Denot))). AreEnded (ActsPart g.D.Disk.seen) l c.pass.inside.parts.items p.0) locks p.1)
    c.args.bay.now c.close_parts.new.bay p.2 c.requires.out

pub put_foreign_back-requires-clause-second : goal.put_foreign_back-requires-clause-second
put_foreign_back-requires-clause-second g c =
    let locks : c.shared.inside.parts.items ≡ c.args.shared.parts = ap (λ x. x.parts) c.shared.view_is in
    let p = c.close_parts.ensures in
    second_out g.B.Bay.seen g.D.Disk.seen c.args.shared c.requires.opened c.pass.inside.parts.items p.0
    (subst (λ (l : List (LockParts (Host g.row.D.Denot))). AreEnded (ActsPart g.D.Disk.seen) l c.pass.inside.parts.items p.0) locks p.1)
    c.args.bay.now c.close_parts.new.bay p.2 c.requires.out

pub returns : goal.returns
returns g c =
    let D : Type 0 = g.row.D.Denot in
    let made = c.requires.all in
    let rows : List (PassesParts D) = c.args.passes.items in
    let row : IsRow rows made.0 c.args.shared c.gather-pass.result = c.gather-pass.ensures made.0 made.1 in
    let locks : c.shared.inside.parts.items ≡ c.args.shared.parts = ap (λ x. x.parts) c.shared.view_is in
    let passes : c.pass.inside.parts.items ≡ c.gather-pass.result.parts = ap (λ x. x.parts) c.pass.view_is in
    let member : c.shared.inside.members ≡ c.args.shared.members = ap (λ x. x.members) c.shared.view_is in
    let member_pass : c.pass.inside.members ≡ c.gather-pass.result.members = ap (λ x. x.members) c.pass.view_is in
    let other : c.shared.inside.foreign ≡ c.args.shared.foreign = ap (λ x. x.foreign) c.shared.view_is in
    let other_pass : c.pass.inside.foreign ≡ c.gather-pass.result.foreign = ap (λ x. x.foreign) c.pass.view_is in
    let p = c.close_parts.ensures in
    closes_all g.B.Bay.seen g.D.Disk.seen c.args.shared c.requires.opened c.pass.inside.parts.items p.0
    (subst (λ (l : List (LockParts (Host D))). AreEnded (ActsPart g.D.Disk.seen) l c.pass.inside.parts.items p.0) locks p.1)
    c.args.bay.now c.close_parts.new.bay p.2 rows made.0 c.put_foreign_back.new.bay c.close.result c.close-foreign.result
    (subst (λ (l : List (PassParts (Host D) PartEvent PartAnswer)). AllZip (StandsAmong (parts_in rows) made.0) c.args.shared.parts l) (sym passes) row.parts)
    (subst (λ (l : LockParts MembersHost). Ends ActsMembers (members_in rows) l c.close.result) member (record {
      pass = c.pass.inside.members;
      leads = c.close.ensures.left;
      account = c.close.ensures.account;
      of = subst (λ (x : LockParts MembersHost × PassParts MembersHost MembersEvent MembersAnswer). AllByRecursion (IsOfOne (members_in rows) x.0) (passes_of x.1))
          (λ j. (sym member j, sym member_pass j)) row.members.1;
    }))
    (subst (λ (l : LockParts (ForeignHost D)). Ends (ActsForeign g.D.Disk.seen) (foreign_in rows) l c.close-foreign.result) other (record {
      pass = c.pass.inside.foreign;
      leads = c.close-foreign.ensures.left;
      account = c.close-foreign.ensures.account;
      of = subst (λ (x : LockParts (ForeignHost D) × PassParts (ForeignHost D) ForeignEvent StateAnswer). AllByRecursion (IsOfOne (foreign_in rows) x.0) (passes_of x.1))
          (λ j. (sym other j, sym other_pass j)) row.foreign.1;
    }))
    c.put_foreign_back.ensures
