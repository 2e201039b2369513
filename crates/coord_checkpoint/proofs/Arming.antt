-- A store of which a disk is armed.
use Rattle.std.proofs.Common.{◌≡◌, inl, refl, ℕ, Bool, true, false, List, Option}
use Rattle.edge_io.specs.Disk.{SameImages}
use Rattle.edge_io.specs.Views.{DiskView}
use Rattle.gate_journal.specs.Clearing.{IsAsBefore}
use Rattle.gate_journal.specs.Journals.{Stands}
use Rattle.gate_journal.specs.declared.writer.Writer.{Writer}
use Rattle.gate_journal.proofs.Spares.{spare_touched}
use Rattle.checkpoint_journal.specs.Spares.{IsAside, IsIdle}
use Rattle.coord_checkpoint.specs.Stores.{AreSides, Keeps, arranged}
use Rattle.coord_checkpoint.specs.declared.step.Turn.{Turn}
use Rattle.coord_checkpoint.proofs.Sides.{keeps_by, keeps_sides}

module _ {D : Type 0} (seen : D → DiskView) (old new : Writer D) (as_before : IsAsBefore old new) (same : SameImages (seen old.disk).image (seen new.disk).image)
    (stays : (frames : List (List ℕ)) (pending : Option (List ℕ)) → Stands seen old frames pending → Stands seen new frames pending) where
  armed_aside : (b : Bool) (g : ℕ) (sealing : Option (List (List ℕ))) → IsAside seen old b g sealing → IsAside seen new b g sealing
  armed_aside b g sealing h = record {
    each = λ c now. h.each c (same.no_more c now);
    spare = λ none. record {
      none = none;
      spare = spare_touched (IsIdle b g sealing) (inl none) seen old (h.spare none).spare new as_before (λ c now. (c, same.no_more c now, inl refl));
    };
  }

  module _ (b : Bool) (g : ℕ) (frames : List (List ℕ)) (sealing : Option (List (List ℕ))) (pending : Option (List ℕ)) where
    armed_live : (other : Writer D) → AreSides seen old other b g frames sealing pending → AreSides seen new other b g frames sealing pending
    armed_live other h = record {
      written = h.written;
      within = h.within;
      stands = stays frames h.written h.stands;
      whole = h.whole;
      plain = h.plain;
      aside = h.aside;
      next = h.next;
    }

    armed_idle : (other : Writer D) → AreSides seen other old b g frames sealing pending → AreSides seen other new b g frames sealing pending
    armed_idle other h = record {
      written = h.written;
      within = h.within;
      stands = h.stands;
      whole = h.whole;
      plain = h.plain;
      aside = armed_aside b g sealing h.aside;
      next = h.next;
    }

  module _ (other : Writer D) (turn : Turn) (frames : List (List ℕ)) (sealing : Option (List (List ℕ))) (pending : Option (List ℕ)) where
    pub armed_first : Keeps seen (arranged old other turn) frames sealing pending → Keeps seen (arranged new other turn) frames sealing pending
    armed_first k = by turn.on_second refl
      where
        by : (b : Bool) → turn.on_second ≡ b → Keeps seen (arranged new other turn) frames sealing pending
        by true e = keeps_by seen other new turn frames sealing pending true e
            (armed_idle true turn.generation frames sealing pending other (keeps_sides seen other old turn frames sealing pending true e k)) k.unsealed k.clears
        by false e = keeps_by seen new other turn frames sealing pending false e
            (armed_live false turn.generation frames sealing pending other (keeps_sides seen old other turn frames sealing pending false e k)) k.unsealed k.clears

    pub armed_second : Keeps seen (arranged other old turn) frames sealing pending → Keeps seen (arranged other new turn) frames sealing pending
    armed_second k = by turn.on_second refl
      where
        by : (b : Bool) → turn.on_second ≡ b → Keeps seen (arranged other new turn) frames sealing pending
        by true e = keeps_by seen new other turn frames sealing pending true e
            (armed_live true turn.generation frames sealing pending other (keeps_sides seen old other turn frames sealing pending true e k)) k.unsealed k.clears
        by false e = keeps_by seen other new turn frames sealing pending false e
            (armed_idle false turn.generation frames sealing pending other (keeps_sides seen other old turn frames sealing pending false e k)) k.unsealed k.clears
