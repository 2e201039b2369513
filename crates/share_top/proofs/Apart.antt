-- What a command leaves alone, over calls of a bay.
use Rattle.std.proofs.Common.{◌≡◌, refl, sym, ap, ◌∙◌, subst, ℕ, List, Some, is_some}
use Rattle.edge_io.specs.Armed.{RunsOn}
use Rattle.edge_io.specs.Bays.{IsAsTold, Holds, SameSlot}
use Rattle.share_top.specs.Apart.{RunsDisk}
use Rattle.share_top.specs.Changes.{bay_change}
use Rattle.edge_io.specs.Views.{DiskView, BayView}

module _ {B D : Type 0} (bay_seen : B → BayView D) (name : List ℕ) where
  pub same_slot : (bay : B) → SameSlot bay_seen name bay bay
  same_slot bay = record { same_disk = refl; same_out = refl; same_taken = refl }

  pub slot_then : (a b c : B) → SameSlot bay_seen name a b → SameSlot bay_seen name b c → SameSlot bay_seen name a c
  slot_then a b c p q = record {
    same_disk = q.same_disk ∙ p.same_disk;
    same_out = q.same_out ∙ p.same_out;
    same_taken = q.same_taken ∙ p.same_taken;
  }

module _ {B D : Type 0} (bay_seen : B → BayView D) (seen : D → DiskView) (name : List ℕ) (old new : B) where
  abbrev Runs : D → D → Type 0
  Runs d e = RunsOn seen d e

  some_one : (d e : D) → Some d ≡ Some e → d ≡ e
  some_one d e is = cc

  -- the disk was used and put back
  pub runs_back : (mid : B) (given last : D) → IsAsTold ((bay_seen old).disk name) given → is_some ((bay_seen mid).disk name) ≡ is_some ((bay_seen old).disk name)
      → Holds ((bay_seen mid).disk name) ((bay_seen new).disk name) last → Runs given last → RunsDisk (bay_change bay_seen seen old new) name
  runs_back mid given last as_told told there runs d e was is =
      let begun : given ≡ d = as_told d was in
      let ended : last ≡ e = some_one last e (sym (there (told ∙ ap is_some was)) ∙ is) in
      subst (λ (x : D). Runs x e) begun (subst (λ (y : D). Runs given y) ended runs)
