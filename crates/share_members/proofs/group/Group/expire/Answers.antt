use Rattle.std.proofs.Common.{◌≡◌, ◌-◌, not, length, refl, ap, ◌∙◌, arith, rules, to_z, of_z, w32}
use Rattle.std.specs.List.{filter}
use Rattle.std.proofs.lemmas.Int.{to_z-of_z}
use Rattle.std.proofs.lemmas.Map.Entries.{filter_from_retain_pairs}
use Rattle.std.proofs.lemmas.List.Filters.{length-filter_both}
use Rattle.std.proofs.lemmas.List.Sums.{length-filter}
use Rattle.share_members.specs.Expiry.{is_due, due, later_epoch, group_expired}
use Rattle.share_members.proofs.group.Group.expire.Goals as goal

pub returns : goal.returns
returns c =
    let moment = c.args.moment in
    let es = c.self.inside.members.entries in
    let epoch = c.self.inside.epoch in
    let left : c.retain.new.self.entries ≡ filter (λ e. not (is_due moment e)) es =
    filter_from_retain_pairs _ (λ f. f.0.now ≡ moment) (λ e. not (is_due moment e)) (λ g k v b w g' i t. (search rules, search rules, search rules))
    _ es c.retain.new.self.entries refl c.retain.ensures.filtered in
    let gone : c.len-before.result - c.len.result ≡ due moment es =
    omega (
      arith,
      length-filter_both (is_due moment) (λ e. not (is_due moment e)) (λ e. refl) es,
      length-filter (is_due moment) es,
      ap length left,
      c.len-before.ensures.len,
      c.len.ensures.len,
    ) in
    let same : to_z w32 (of_z w32 epoch) ≡ epoch = grind (arith, to_z-of_z) in
    let later = c.later_epoch-self-inside.result in
    let here : to_z w32 (of_z w32 later) ≡ later = grind (arith, to_z-of_z) in
    let risen : to_z w32 (of_z w32 later) ≡ later_epoch (due moment es) epoch =
    here ∙ c.later_epoch-self-inside.ensures ∙ (λ i. later_epoch (gone i) (same i)) in
    (λ i. record { epoch = risen i; members = left i }) ∙ ap (group_expired moment) c.self.view_is
