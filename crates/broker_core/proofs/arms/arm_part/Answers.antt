use Rattle.std.proofs.Common.{refl}
use Rattle.broker_core.proofs.Arming.{place_of_arm}
use Rattle.broker_core.proofs.arms.arm_part.Goals as goal

pub returns : goal.returns
returns g c = record {
  was = c.in-Open.part;
  is = c.arm.new.self;
  old_is = c.in-Open.is;
  new_is = refl;
  topic = refl;
  conf = refl;
  arms_disk = place_of_arm g.D.Disk.seen
      c.args.after c.args.mode c.in-Open.part c.arm.new.self c.args.place c.arm.ensures.log c.arm.ensures.first c.arm.ensures.second c.requires.of_text;
  ends = c.arm.ensures.ends;
  part_conf = c.arm.ensures.conf;
  stays = c.arm.ensures.stays;
}
