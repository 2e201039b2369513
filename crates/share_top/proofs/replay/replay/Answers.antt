use Rattle.std.proofs.Common.{◌≢◌, ℕ, Bool, List, ◌++◌, refl, ap, ◌∙◌, subst}
use Rattle.edge_io.specs.Causes.{Rose}
use Rattle.broker_core.specs.Calls.{OneRose}
use Rattle.broker_hosts.specs.Hosts.{disks_in}
use Rattle.session_script.specs.Telling.{Tells, TellsFront, TellsPart, is_summary, last_line, told_so_far}
use Rattle.session_script.proofs.Tellings.{in_all, part_of}
use Rattle.share_top.specs.declared.replay.Stopped.TheVariants as stopped
use Rattle.share_top.specs.declared.status.Status.TheVariants.{WriteFault}
use Rattle.share_top.specs.Changes.{input_change, output_change}
use Rattle.share_top.specs.Going.{FromCore, NeverFrom}
use Rattle.share_top.specs.Sessions.{WritesFront}
use Rattle.share_top.specs.Statuses.{IsPlayed}
use Rattle.share_top.proofs.Stops.{begun, begun_part, ended, stops_write, write_fault}
use Rattle.share_top.proofs.replay.replay.Goals as goal

pub returns-in_default-clause-played : goal.returns-in_default-clause-played
returns-in_default-clause-played g c =
    let other : c.play-stopped.result ≢ stopped.Write = c.is_write.ensures.other c.if-is_write.false in
    let rose = subst (λ (n : ℕ). Rose n (g.O.Sink.faults c.hand_on.new.output)) (c.play-stopped.ensures.counted other) c.in_default.ensures.write in
    subst (λ (b : Bool). IsPlayed c.args.core.now.conf b (input_change g.I.Source.left g.I.Source.ended g.I.Source.faults c.args.input.now c.play-stopped.new.input) (output_change g.O.Sink.held g.O.Sink.faults c.args.output.now c.hand_on.new.output) (FromCore g.D.Disk.seen c.args.core.now (disks_in c.play-stopped.new.core.hosts)) (NeverFrom g.D.Disk.seen c.args.core.now) (OneRose g.D.Disk.seen (disks_in c.args.core.now.hosts) (disks_in c.play-stopped.new.core.hosts)) WriteFault) (c.play-stopped.ensures.same ∙ c.new-telling.ensures.is)
    (write_fault g.D.Disk.seen c.args.core.now (disks_in c.play-stopped.new.core.hosts) (is_summary c.play-stopped.new.telling) (input_change g.I.Source.left g.I.Source.ended g.I.Source.faults c.args.input.now c.play-stopped.new.input) (output_change g.O.Sink.held g.O.Sink.faults c.args.output.now c.hand_on.new.output) (Tells c.args.core.now.conf.topics c.play-stopped.new.telling (g.O.Sink.held c.args.output.now) (g.O.Sink.held c.play-stopped.new.output)) (TellsPart c.args.core.now.conf.topics c.play-stopped.new.telling (g.O.Sink.held c.args.output.now) (g.O.Sink.held c.play-stopped.new.output)) (TellsFront c.args.core.now.conf.topics (is_summary c.play-stopped.new.telling) (g.O.Sink.held c.args.output.now) (g.O.Sink.held c.play-stopped.new.output)) (OneRose g.D.Disk.seen (disks_in c.args.core.now.hosts) (disks_in c.play-stopped.new.core.hosts)) (Rose (g.O.Sink.faults c.args.output.now) (g.O.Sink.faults c.play-stopped.new.output)) rose
    (begun g.D.Disk.seen c.args.core.now (disks_in c.play-stopped.new.core.hosts) (is_summary c.play-stopped.new.telling) (input_change g.I.Source.left g.I.Source.ended g.I.Source.faults c.args.input.now c.play-stopped.new.input) (output_change g.O.Sink.held g.O.Sink.faults c.args.output.now c.hand_on.new.output) (Tells c.args.core.now.conf.topics c.play-stopped.new.telling (g.O.Sink.held c.args.output.now) (g.O.Sink.held c.play-stopped.new.output)) (TellsPart c.args.core.now.conf.topics c.play-stopped.new.telling (g.O.Sink.held c.args.output.now) (g.O.Sink.held c.play-stopped.new.output)) (TellsFront c.args.core.now.conf.topics (is_summary c.play-stopped.new.telling) (g.O.Sink.held c.args.output.now) (g.O.Sink.held c.play-stopped.new.output)) (OneRose g.D.Disk.seen (disks_in c.args.core.now.hosts) (disks_in c.play-stopped.new.core.hosts)) (Rose (g.O.Sink.faults c.args.output.now) (g.O.Sink.faults c.play-stopped.new.output)) (TellsPart c.args.core.now.conf.topics c.play-stopped.new.telling (g.O.Sink.held c.args.output.now) (g.O.Sink.held c.play-stopped.new.output)) (WritesFront c.args.core.now.conf (is_summary c.play-stopped.new.telling) (output_change g.O.Sink.held g.O.Sink.faults c.args.output.now c.hand_on.new.output))
    (λ xs p. c.hand_on.ensures.front c.args.core.now.conf.topics (g.O.Sink.held c.args.output.now) xs p)
    (begun_part g.D.Disk.seen c.args.core.now (disks_in c.play-stopped.new.core.hosts) (is_summary c.play-stopped.new.telling) (input_change g.I.Source.left g.I.Source.ended g.I.Source.faults c.args.input.now c.play-stopped.new.input) (output_change g.O.Sink.held g.O.Sink.faults c.args.output.now c.hand_on.new.output) (Tells c.args.core.now.conf.topics c.play-stopped.new.telling (g.O.Sink.held c.args.output.now) (g.O.Sink.held c.play-stopped.new.output)) (TellsPart c.args.core.now.conf.topics c.play-stopped.new.telling (g.O.Sink.held c.args.output.now) (g.O.Sink.held c.play-stopped.new.output)) (TellsFront c.args.core.now.conf.topics (is_summary c.play-stopped.new.telling) (g.O.Sink.held c.args.output.now) (g.O.Sink.held c.play-stopped.new.output)) (OneRose g.D.Disk.seen (disks_in c.args.core.now.hosts) (disks_in c.play-stopped.new.core.hosts)) (Rose (g.O.Sink.faults c.args.output.now) (g.O.Sink.faults c.play-stopped.new.output)) c.play-stopped.result c.play-stopped.ensures.stopped other (λ xs t. part_of c.args.core.now.conf.topics c.play-stopped.new.telling (g.O.Sink.held c.args.output.now) (g.O.Sink.held c.play-stopped.new.output) xs t))))

pub returns-clause-played : goal.returns-clause-played
returns-clause-played g c =
    let other : c.play-stopped.result ≢ stopped.Write = c.is_write.ensures.other c.if-is_write.false in
    subst (λ (b : Bool). IsPlayed c.args.core.now.conf b (input_change g.I.Source.left g.I.Source.ended g.I.Source.faults c.args.input.now c.play-stopped.new.input) (output_change g.O.Sink.held g.O.Sink.faults c.args.output.now c.tell_end.new.output) (FromCore g.D.Disk.seen c.args.core.now (disks_in c.play-stopped.new.core.hosts)) (NeverFrom g.D.Disk.seen c.args.core.now) (OneRose g.D.Disk.seen (disks_in c.args.core.now.hosts) (disks_in c.play-stopped.new.core.hosts)) c.tell_end.result) (c.play-stopped.ensures.same ∙ c.new-telling.ensures.is)
    (ended g.D.Disk.seen c.args.core.now (disks_in c.play-stopped.new.core.hosts) (is_summary c.play-stopped.new.telling) (input_change g.I.Source.left g.I.Source.ended g.I.Source.faults c.args.input.now c.play-stopped.new.input) (output_change g.O.Sink.held g.O.Sink.faults c.args.output.now c.tell_end.new.output) (Tells c.args.core.now.conf.topics c.play-stopped.new.telling (g.O.Sink.held c.args.output.now) (g.O.Sink.held c.play-stopped.new.output)) (TellsPart c.args.core.now.conf.topics c.play-stopped.new.telling (g.O.Sink.held c.args.output.now) (g.O.Sink.held c.play-stopped.new.output)) (TellsFront c.args.core.now.conf.topics (is_summary c.play-stopped.new.telling) (g.O.Sink.held c.args.output.now) (g.O.Sink.held c.play-stopped.new.output)) (OneRose g.D.Disk.seen (disks_in c.args.core.now.hosts) (disks_in c.play-stopped.new.core.hosts)) (Rose (g.O.Sink.faults c.args.output.now) (g.O.Sink.faults c.play-stopped.new.output))
    (g.O.Sink.held c.hand_on.new.output) (last_line c.hand_on.new.self) (output_change g.O.Sink.held g.O.Sink.faults c.hand_on.new.output c.tell_end.new.output)
    refl refl (c.in-Ok.ensures.counted ∙ c.play-stopped.ensures.counted other) refl
    (λ xs t. c.in-Ok.ensures.all c.args.core.now.conf.topics (g.O.Sink.held c.args.output.now) xs t) (λ xs p. c.hand_on.ensures.front c.args.core.now.conf.topics (g.O.Sink.held c.args.output.now) xs p)
    (λ xs t. ap (λ (l : List ℕ). told_so_far c.args.core.now.conf.topics (is_summary c.play-stopped.new.telling) xs ++ l) c.in-Ok.ensures.last ∙ in_all c.args.core.now.conf.topics c.play-stopped.new.telling (g.O.Sink.held c.args.output.now) (g.O.Sink.held c.play-stopped.new.output) xs t)
    (λ xs t. part_of c.args.core.now.conf.topics c.play-stopped.new.telling (g.O.Sink.held c.args.output.now) (g.O.Sink.held c.play-stopped.new.output) xs t) c.play-stopped.result c.tell_end.result c.play-stopped.ensures.stopped other c.tell_end.ensures.told)

pub returns-then-is_write-clause-played : goal.returns-then-is_write-clause-played
returns-then-is_write-clause-played g c =
    let p = stops_write g.D.Disk.seen c.args.core.now (disks_in c.play-stopped.new.core.hosts) (is_summary c.play-stopped.new.telling) (input_change g.I.Source.left g.I.Source.ended g.I.Source.faults c.args.input.now c.play-stopped.new.input) (output_change g.O.Sink.held g.O.Sink.faults c.args.output.now c.play-stopped.new.output) (Tells c.args.core.now.conf.topics c.play-stopped.new.telling (g.O.Sink.held c.args.output.now) (g.O.Sink.held c.play-stopped.new.output)) (TellsPart c.args.core.now.conf.topics c.play-stopped.new.telling (g.O.Sink.held c.args.output.now) (g.O.Sink.held c.play-stopped.new.output)) (TellsFront c.args.core.now.conf.topics (is_summary c.play-stopped.new.telling) (g.O.Sink.held c.args.output.now) (g.O.Sink.held c.play-stopped.new.output)) (OneRose g.D.Disk.seen (disks_in c.args.core.now.hosts) (disks_in c.play-stopped.new.core.hosts)) (Rose (g.O.Sink.faults c.args.output.now) (g.O.Sink.faults c.play-stopped.new.output)) c.play-stopped.result c.play-stopped.ensures.stopped (c.is_write.ensures.failed c.if-is_write.true) in
    subst (λ (b : Bool). IsPlayed c.args.core.now.conf b (input_change g.I.Source.left g.I.Source.ended g.I.Source.faults c.args.input.now c.play-stopped.new.input) (output_change g.O.Sink.held g.O.Sink.faults c.args.output.now c.play-stopped.new.output) (FromCore g.D.Disk.seen c.args.core.now (disks_in c.play-stopped.new.core.hosts)) (NeverFrom g.D.Disk.seen c.args.core.now) (OneRose g.D.Disk.seen (disks_in c.args.core.now.hosts) (disks_in c.play-stopped.new.core.hosts)) WriteFault) (c.play-stopped.ensures.same ∙ c.new-telling.ensures.is)
    (write_fault g.D.Disk.seen c.args.core.now (disks_in c.play-stopped.new.core.hosts) (is_summary c.play-stopped.new.telling) (input_change g.I.Source.left g.I.Source.ended g.I.Source.faults c.args.input.now c.play-stopped.new.input) (output_change g.O.Sink.held g.O.Sink.faults c.args.output.now c.play-stopped.new.output) (Tells c.args.core.now.conf.topics c.play-stopped.new.telling (g.O.Sink.held c.args.output.now) (g.O.Sink.held c.play-stopped.new.output)) (TellsPart c.args.core.now.conf.topics c.play-stopped.new.telling (g.O.Sink.held c.args.output.now) (g.O.Sink.held c.play-stopped.new.output)) (TellsFront c.args.core.now.conf.topics (is_summary c.play-stopped.new.telling) (g.O.Sink.held c.args.output.now) (g.O.Sink.held c.play-stopped.new.output)) (OneRose g.D.Disk.seen (disks_in c.args.core.now.hosts) (disks_in c.play-stopped.new.core.hosts)) (Rose (g.O.Sink.faults c.args.output.now) (g.O.Sink.faults c.play-stopped.new.output)) p.0 p.1)
