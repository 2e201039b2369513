use Rattle.std.proofs.Common.{inl, inr, refl}
use Rattle.share_top.specs.declared.words.Words.TheVariants.{Replay, Load, DumpState, Gen}
use Rattle.share_top.specs.Changes.{bay_change, input_change, output_change}
use Rattle.share_top.specs.Words.{AreDumpStateWords, AreGenWords, AreLoadWords, AreReplayWords, texts}
use Rattle.share_top.proofs.Commands.{counted_by, dumps_state, promises, replays_script}
use Rattle.share_top.proofs.top.run_alone.Goals as goal

pub returns-in-Ok-Replay-clause-does : goal.returns-in-Ok-Replay-clause-does
returns-in-Ok-Replay-clause-does g c =
    let found : AreReplayWords (texts c.args.words.now) c.in-Ok-Replay.conf c.in-Ok-Replay.summary = rw c.in-Ok-Replay.field-0-is at c.in-Ok-Replay.ensures.found in
    inr (
      Replay c.in-Ok-Replay.conf c.in-Ok-Replay.summary,
      c.session.result,
      found,
      c.number.ensures,
      replays_script (bay_change g.B.Bay.seen g.B.D.Disk.seen c.args.bay.now c.session.new.bay) c.in-Ok-Replay.conf c.session.result
          c.session.ensures.recovers c.session.ensures.sound c.session.ensures.others
          (output_change g.O.Sink.held g.O.Sink.faults c.args.output.now c.session.new.output)
          (input_change g.I.Source.left g.I.Source.ended g.I.Source.faults c.args.input.now c.session.new.input) c.in-Ok-Replay.summary c.session.ensures.replay,
    )

pub returns-in-Ok-Replay-clause-counted : goal.returns-in-Ok-Replay-clause-counted
returns-in-Ok-Replay-clause-counted g c = counted_by _ _ _ c.session.result c.number.ensures c.session.ensures.counted

pub returns-in-Ok-Load-clause-does : goal.returns-in-Ok-Load-clause-does
returns-in-Ok-Load-clause-does g c =
    let found : AreLoadWords (texts c.args.words.now) c.in-Ok-Load.conf c.in-Ok-Load.shard = rw c.in-Ok-Load.field-0-is at c.in-Ok-Load.ensures.found in
    inr (Load c.in-Ok-Load.conf c.in-Ok-Load.shard, c.load.result, found, c.number-in-Ok-Load.ensures, c.load.ensures.loads)

pub returns-in-Ok-Load-clause-counted : goal.returns-in-Ok-Load-clause-counted
returns-in-Ok-Load-clause-counted g c = counted_by _ _ _ c.load.result c.number-in-Ok-Load.ensures c.load.ensures.counted

pub returns-in-Ok-DumpState-clause-does : goal.returns-in-Ok-DumpState-clause-does
returns-in-Ok-DumpState-clause-does g c =
    let found : AreDumpStateWords (texts c.args.words.now) c.in-Ok-DumpState.conf = rw c.in-Ok-DumpState.field-0-is at c.in-Ok-DumpState.ensures.found in
    inr (
      DumpState c.in-Ok-DumpState.conf,
      c.dump.result,
      found,
      c.number-in-Ok-DumpState.ensures,
      (
        refl,
        dumps_state (bay_change g.B.Bay.seen g.B.D.Disk.seen c.args.bay.now c.dump.new.bay) c.in-Ok-DumpState.conf c.dump.result
            c.dump.ensures.recovers c.dump.ensures.sound c.dump.ensures.others
            (output_change g.O.Sink.held g.O.Sink.faults c.args.output.now c.dump.new.output) c.dump.ensures.dump,
      ),
    )

pub returns-in-Ok-DumpState-clause-counted : goal.returns-in-Ok-DumpState-clause-counted
returns-in-Ok-DumpState-clause-counted g c = counted_by _ _ _ c.dump.result c.number-in-Ok-DumpState.ensures c.dump.ensures.counted

pub returns-in-Ok-Gen-clause-does : goal.returns-in-Ok-Gen-clause-does
returns-in-Ok-Gen-clause-does g c =
    let found : AreGenWords (texts c.args.words.now) c.in-Ok-Gen.n = rw c.in-Ok-Gen.field-0-is at c.in-Ok-Gen.ensures.found in
    inr (Gen c.in-Ok-Gen.n, c.generate.result, found, c.number-in-Ok-Gen.ensures, (refl, refl, c.generate.ensures.written))

pub returns-in-Ok-Gen-clause-counted : goal.returns-in-Ok-Gen-clause-counted
returns-in-Ok-Gen-clause-counted g c = counted_by _ _ _ c.generate.result c.number-in-Ok-Gen.ensures c.generate.ensures.counted

pub returns-in-Err-Usage-clause-does : goal.returns-in-Err-Usage-clause-does
returns-in-Err-Usage-clause-does g c = inl (record {
  why = inl (c.number-in-Err-Usage.ensures, (rw c.in-Err-Usage.field-0-is at c.in-Err-Usage.ensures.usage) refl);
  untouched = (refl, refl, refl);
  unserved = (tt, tt);
})

pub returns-in-Err-NoMemory-clause-does : goal.returns-in-Err-NoMemory-clause-does
returns-in-Err-NoMemory-clause-does g c = inl (record {
  why = inr c.number-in-Err-NoMemory.ensures;
  untouched = (refl, refl, refl);
  unserved = (tt, tt);
})

-- ---- promises

pub returns-in-Ok-Replay-clause-promises : goal.returns-in-Ok-Replay-clause-promises
returns-in-Ok-Replay-clause-promises g c = promises (bay_change g.B.Bay.seen g.B.D.Disk.seen c.args.bay.now c.session.new.bay)

pub returns-in-Ok-Load-clause-promises : goal.returns-in-Ok-Load-clause-promises
returns-in-Ok-Load-clause-promises g c = promises (bay_change g.B.Bay.seen g.B.D.Disk.seen c.args.bay.now c.load.new.bay)

pub returns-in-Ok-DumpState-clause-promises : goal.returns-in-Ok-DumpState-clause-promises
returns-in-Ok-DumpState-clause-promises g c = promises (bay_change g.B.Bay.seen g.B.D.Disk.seen c.args.bay.now c.dump.new.bay)

pub returns-in-Ok-Gen-clause-promises : goal.returns-in-Ok-Gen-clause-promises
returns-in-Ok-Gen-clause-promises g c = promises (bay_change g.B.Bay.seen g.B.D.Disk.seen c.args.bay.now c.args.bay.now)

pub returns-in-Err-Usage-clause-promises : goal.returns-in-Err-Usage-clause-promises
returns-in-Err-Usage-clause-promises g c = promises (bay_change g.B.Bay.seen g.B.D.Disk.seen c.args.bay.now c.args.bay.now)

pub returns-in-Err-NoMemory-clause-promises : goal.returns-in-Err-NoMemory-clause-promises
returns-in-Err-NoMemory-clause-promises g c = promises (bay_change g.B.Bay.seen g.B.D.Disk.seen c.args.bay.now c.args.bay.now)
