use Rattle.std.proofs.Common.{◌∙◌, ap}
use Rattle.part_log.specs.Logs.{log_in}
use Rattle.coord_checkpoint.specs.Disks.{HasFailed}
use Rattle.share_model.specs.declared.reset.Reset.{Reset}
use Rattle.share_part.specs.Shards.{first_start}
use Rattle.share_part.proofs.Planning.{made_table}
use Rattle.share_part.proofs.fetch.make_table.Goals as goal

pub returns-clause-made : goal.returns-clause-made
returns-clause-made g c = made_table g.D.Disk.seen (HasFailed g.D.Disk.seen)
    c.args.conf.now c.args.group.now (log_in c.args.log.now) c.args.states.now c.store_state.new.states c.store_state.result c.key-key.result c.first_start.result
    c.key-key.ensures (c.first_start.ensures.start ∙ ap (λ (r : Reset). first_start r (log_in c.args.log.now)) c.reset.ensures)
    c.store_state.ensures.there c.store_state.ensures.absent
