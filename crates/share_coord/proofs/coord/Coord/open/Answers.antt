use Rattle.std.proofs.Common.{arith, ◌≡◌, ◌∙◌, inl, sym, ap, subst, List, ℕ, Bool, None, false, true}
use Rattle.gate_journal.proofs.Once.{not_both}
use Rattle.checkpoint_journal.specs.Generations.{IsLiveOn}
use Rattle.coord_checkpoint.specs.Openings.{frames_in}
use Rattle.coord_checkpoint.proofs.Opened.{frames_placed}
use Rattle.share_coord.specs.Stored.{AreTaken, IsRefused}
use Rattle.share_coord.proofs.Reading.{no_device, refused_clash, refused_damaged, taken_once}
use Rattle.share_coord.proofs.Replaying.{refused_at, replayed}
use Rattle.share_coord.proofs.Unraised.{taken_unraised}
use Rattle.share_coord.proofs.coord.Coord.open.Goals as goal

pub returns-in-Err-clause-refused : goal.returns-in-Err-clause-refused
returns-in-Err-clause-refused g c = record {
  damaged = λ second place e x y on_a on_b. inl (c.in-Err.ensures.damaged second place e x y on_a on_b);
  sound = λ x y entries on_a on_b stored. c.in-Err.ensures.recovers x y stored.frames on_a on_b stored.listed;
  device = c.in-Err.ensures.device;
  second_device = c.in-Err.ensures.second_device;
  untouched = c.in-Err.ensures.untouched;
  unread = λ x y place on_a on_b bad is. c.in-Err.ensures.unread x place on_a bad is;
}

pub invariant_of-result : goal.invariant_of-result
invariant_of-result g c = (
  (None, replayed g.D.Disk.seen c.in-Ok-open.opened.0 c.in-Ok-open.opened.1 c.in-Ok-finish.table.entries 0 c.in-Ok-open.ensures.kept c.in-Ok-finish.ensures.taken c.in-Ok-open.ensures.few),
  record { table = omega arith; written = omega arith; laid = omega arith; buffer = let has = c.in-Ok.ensures.capacity in omega (arith, has) },
)

pub returns-in-Ok-finish-clause-opened : goal.returns-in-Ok-finish-clause-opened
returns-in-Ok-finish-clause-opened g c =
    let items = frames_in c.in-Ok-open.opened.1 in
    let es = c.in-Ok-finish.table.entries in
    let taken = c.in-Ok-finish.ensures.taken in
    record {
      holds = replayed g.D.Disk.seen c.in-Ok-open.opened.0 c.in-Ok-open.opened.1 es 0 c.in-Ok-open.ensures.kept taken c.in-Ok-open.ensures.few;
      unraised = taken_unraised items es taken;
      opens = λ x y on_a on_b. record { frames = items; listed = c.in-Ok-open.ensures.opens x y on_a on_b; taken = taken };
      only = λ x y entries on_a on_b stored.
          let same : items ≡ stored.frames = ap frames_in (c.in-Ok-open.ensures.recovers x y stored.frames on_a on_b stored.listed) ∙ frames_placed 0 stored.frames in
          taken_once items es entries taken (subst (λ (fs : List (List ℕ)). AreTaken fs entries) (sym same) stored.taken);
    }

pub returns-in-Err-finish-clause-refused : goal.returns-in-Err-finish-clause-refused
returns-in-Err-finish-clause-refused g c =
    let items = frames_in c.in-Ok-open.opened.1 in
    let at = c.in-Err-finish.place in
    let is : IsRefused items at = refused_at c.in-Ok-open.opened.1 at c.in-Ok-open.ensures.places c.in-Err-finish.ensures.refused in
    let on_second = c.on_second-second.result in
    record {
      damaged = λ second place e x y on_a on_b.
          let live = subst (λ (b : Bool). IsLiveOn x y b items) (sym c.on_second-second.ensures) (c.in-Ok-open.ensures.live x y on_a on_b) in
          refused_damaged x y on_second at second place (record { frames = items; live = live; refused = is }) e;
      sound = λ x y entries on_a on_b stored second place e.
          let same : items ≡ stored.frames = ap frames_in (c.in-Ok-open.ensures.recovers x y stored.frames on_a on_b stored.listed) ∙ frames_placed 0 stored.frames in
          refused_clash items at entries is (subst (λ (fs : List (List ℕ)). AreTaken fs entries) (sym same) stored.taken);
      device = λ e. absurd (no_device on_second false at e);
      second_device = λ e. absurd (no_device on_second true at e);
      untouched = λ e. absurd (no_device on_second false at e);
      unread = λ x y place on_a on_b bad e. absurd (not_both x (c.in-Ok-open.ensures.live x y on_a on_b).ones place (c.in-Ok-open.ensures.live x y on_a on_b).first_is bad);
    }
