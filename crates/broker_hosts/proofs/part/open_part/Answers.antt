use Rattle.std.proofs.Common.{◌≡◌, ◌∙◌, false, inl, inr, subst, sym, List, ℕ}
use Rattle.std.proofs.lemmas.Bool.{false≢true}
use Rattle.gate_journal.specs.Frames.{StandsAs}
use Rattle.broker_hosts.proofs.Images.{reopened_images}
use Rattle.broker_hosts.proofs.OpeningParts.{fed_three, one_failed, opened_part}
use Rattle.broker_hosts.proofs.part.open_part.Goals as goal

pub returns-else-starved-clause-opens : goal.returns-else-starved-clause-opens
returns-else-starved-clause-opens g c = λ l a b is is_first is_second.
    (let not : c.starved.result ≡ false = c.if-starved.false in
    let fed = fed_three c.starved.result _ _ _ not c.starved.ensures in
    opened_part g.D.Disk.seen
    c.args.conf c.args.disks.0 c.args.disks.1 c.args.disks.2 l a b c.in-Ok.part is is_first is_second c.in-Ok.ensures.opened
    c.in-Ok.ensures.runs c.in-Ok.ensures.both.one.runs c.in-Ok.ensures.both.two.runs fed.0 fed.1 fed.2)

pub returns-else-starved-clause-fresh : goal.returns-else-starved-clause-fresh
returns-else-starved-clause-fresh g c = c.in-Ok.ensures.opened.carries

pub returns-else-starved-clause-fed : goal.returns-else-starved-clause-fed
returns-else-starved-clause-fed g c = fed_three c.starved.result _ _ _ c.if-starved.false c.starved.ensures

pub returns-else-one_starved-clause-recovers : goal.returns-else-one_starved-clause-recovers
returns-else-one_starved-clause-recovers g c = λ l a b batches states is is_first is_second text name place damaged.
    (let why = c.fault_of_open-fault.ensures.damaged name place damaged in
    c.in-Err.ensures.refused.sound l a b batches states is is_first is_second text why.0 place why.1)

pub returns-else-one_starved-clause-damaged : goal.returns-else-one_starved-clause-damaged
returns-else-one_starved-clause-damaged g c = λ name place damaged l a b is is_first is_second.
    (let why = c.fault_of_open-fault.ensures.damaged name place damaged in
    (why.0, why.2, c.in-Err.ensures.refused.damaged why.0 place why.1 l a b is is_first is_second))

pub returns-then-starved-clause-images : goal.returns-then-starved-clause-images
returns-then-starved-clause-images g c =
    let is = c.into_disks.ensures in
    record {
      on_log = subst (λ (d : g.row.D.Denot). (x : List ℕ) → (g.D.Disk.seen d).image x → StandsAs (g.D.Disk.seen c.args.disks.0).image x) (sym is.0)
          (reopened_images g.D.Disk.seen g.met.D.Disk.counts_now _ _ c.in-Ok.ensures.log);
      on_first = subst (λ (d : g.row.D.Denot). (x : List ℕ) → (g.D.Disk.seen d).image x → StandsAs (g.D.Disk.seen c.args.disks.1).image x) (sym is.1)
          (reopened_images g.D.Disk.seen g.met.D.Disk.counts_now _ _ c.in-Ok.ensures.both.one.any_moment);
      on_second = subst (λ (d : g.row.D.Denot). (x : List ℕ) → (g.D.Disk.seen d).image x → StandsAs (g.D.Disk.seen c.args.disks.2).image x) (sym is.2)
          (reopened_images g.D.Disk.seen g.met.D.Disk.counts_now _ _ c.in-Ok.ensures.both.two.any_moment);
    }

pub returns-else-starved-clause-images : goal.returns-else-starved-clause-images
returns-else-starved-clause-images g c = record {
  on_log = reopened_images g.D.Disk.seen g.met.D.Disk.counts_now _ _ c.in-Ok.ensures.log;
  on_first = reopened_images g.D.Disk.seen g.met.D.Disk.counts_now _ _ c.in-Ok.ensures.both.one.any_moment;
  on_second = reopened_images g.D.Disk.seen g.met.D.Disk.counts_now _ _ c.in-Ok.ensures.both.two.any_moment;
}

pub returns-else-one_starved-clause-sound : goal.returns-else-one_starved-clause-sound
returns-else-one_starved-clause-sound g c = λ told first_told second_told none first_none second_none e.
    let why = c.fault_of_open-fault.ensures.device e in
    let fed = c.one_starved.ensures c.if-one_starved.false in
    elim (one_failed g.D.Disk.seen c.args.conf _ _ _ _ _ _ _ why.0 c.in-Err.ensures.refused why.1) [
      | inl h ↦ false≢true (sym fed.0 ∙ h.1 told none)
      | inr more ↦ elim more [
        | inl h ↦ false≢true (sym fed.1 ∙ h.1 first_told first_none)
        | inr h ↦ false≢true (sym fed.2 ∙ h.1 second_told second_none)
      ]
    ]

pub returns-else-one_starved-clause-device : goal.returns-else-one_starved-clause-device
returns-else-one_starved-clause-device g c = λ e.
    let why = c.fault_of_open-fault.ensures.device e in
    elim (one_failed g.D.Disk.seen c.args.conf _ _ _ _ _ _ _ why.0 c.in-Err.ensures.refused why.1) [
      | inl h ↦ inl h.0
      | inr more ↦ elim more [
        | inl h ↦ inr (inl h.0)
        | inr h ↦ inr (inr h.0)
      ]
    ]
