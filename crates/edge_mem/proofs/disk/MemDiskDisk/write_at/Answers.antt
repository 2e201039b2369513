use Rattle.std.proofs.Common.{◌≡◌, refl, ap, ◌∙◌, arith}
use Rattle.edge_mem.specs.Events.{Wrote}
use Rattle.edge_mem.specs.Past.{DiskState, with_event, broken_by}
use Rattle.edge_mem.proofs.Calls.{done_to, IsPart, refused_part, part_content, part_crash, part_low, part_high, part_time, part_losses}
use Rattle.edge_mem.proofs.Calls.{wrote_becomes, wrote_crash, wrote_all, wrote_size, wrote_losses}
use Rattle.edge_mem.proofs.disk.MemDiskDisk.write_at.Goals as goal

-- the whole was written
wrote : (c : goal.In-Ok) → c.write.new.history ≡ with_event c.args.self.now.past (Wrote c.args.place c.args.bytes.now)
wrote c = done_to _ c.self.inside.history _ _ (ap (λ (d : DiskState). d.past) c.self.view_is) c.in-Ok.ensures.done

-- a part was written
part : (c : goal.After-refuse) → IsPart c.args.self.now.past c.refuse.new.self.past c.args.place c.args.bytes.now
part c = refused_part _ (broken_by c.self.inside.armed) _ c.self.inside.history c.write.new.history _ _ _ (ap
    (λ (d : DiskState). d.past) c.self.view_is) c.refuse.ensures.past c.in-Err.ensures.left

pub returns-in-Ok-clause-content : goal.returns-in-Ok-clause-content
returns-in-Ok-clause-content c = record { done = wrote_becomes _ _ _ _ c.requires.begins (wrote c); failed = tt; told = refl }

pub returns-in-Ok-clause-size : goal.returns-in-Ok-clause-size
returns-in-Ok-clause-size c = wrote_size _ _ _ _ c.requires.begins (wrote c)

pub returns-in-Ok-clause-images : goal.returns-in-Ok-clause-images
returns-in-Ok-clause-images c = record {
  follows = wrote_crash _ _ _ _ c.requires.begins (wrote c) _
      (omega arith);
  leads = wrote_all _ _ _ _ c.requires.begins (wrote c);
}

pub returns-in-Ok-clause-events : goal.returns-in-Ok-clause-events
returns-in-Ok-clause-events c = record { losses = wrote_losses _ _ _ _ c.requires.begins (wrote c); arms = ap (λ (d : DiskState). d.arms) c.self.view_is }

pub returns-in-Err-clause-content : goal.returns-in-Err-clause-content
returns-in-Err-clause-content c = record { done = tt; failed = part_content _ _ _ _ c.requires.begins (part c); told = refl }

pub returns-in-Err-clause-size : goal.returns-in-Err-clause-size
returns-in-Err-clause-size c = (part_low _ _ _ _ c.requires.begins (part c), part_high _ _ _ _ c.requires.begins (part c))

pub returns-in-Err-clause-images : goal.returns-in-Err-clause-images
returns-in-Err-clause-images c = record { follows = part_crash _ _ _ _ c.requires.begins (part c); leads = tt }

pub returns-in-Err-clause-time : goal.returns-in-Err-clause-time
returns-in-Err-clause-time c = part_time _ _ _ _ c.requires.begins (part c)

pub returns-in-Err-clause-events : goal.returns-in-Err-clause-events
returns-in-Err-clause-events c = record {
  losses = part_losses _ _ _ _ c.requires.begins (part c);
  arms = c.refuse.ensures.arms
      ∙ ap (λ (d : DiskState). d.arms) c.self.view_is;
}
