-- How a program ends whose core meets no fault and loses no link.
use Rattle.std.proofs.Common.{inl, inr, [], ◌∷◌, Some, Ok, Err}
use Rattle.share_client.specs.declared.conf.ClientConf.{ClientConf}
use Rattle.share_client.specs.declared.fault.ClientFault.TheVariants.{Refused, Strange, NoMemory}
use Rattle.share_client.specs.declared.step.ClientStep.TheVariants.{Heartbeat, Fetch, Write, Wait, Done}
use Rattle.share_client.specs.Traces.{Trace}
use Rattle.share_client.specs.Traces.Call.{Asked, Got, Wrote, Lost}
use Rattle.consume_run.specs.declared.end.ConsumeEnd.{ConsumeEnd}
use Rattle.consume_run.specs.declared.end.ConsumeEnd.TheVariants as end
use Rattle.consume_run.specs.Ends.{IsOutside, ended_by}
use Rattle.consume_run.specs.Consuming.{EndsAs, GoesWell, IsCalm}

outside : (result : ConsumeEnd) → IsOutside result → IsCalm result
outside end.NoLink p = tt
outside end.Output p = tt
outside end.Listener p = tt
outside end.Spawner p = tt
outside end.NoMemory p = tt
outside end.Done p = absurd p
outside (end.Refused code) p = absurd p
outside (end.Strange place) p = absurd p
outside end.Unacknowledged p = absurd p

done : (result : ConsumeEnd) → EndsAs (Some end.Done) result → IsCalm result
done result (inl e) = rw e tt
done result (inr e) = absurd e.1

starved : (result : ConsumeEnd) → EndsAs (Some end.NoMemory) result → IsCalm result
starved result (inl e) = rw e tt
starved result (inr e) = absurd e.1

pub calm : (conf : ClientConf) (trace : Trace) (result : ConsumeEnd) → GoesWell trace → EndsAs (ended_by conf trace) result → IsCalm result
calm conf [] result w p = outside result p
calm conf (Asked now (Ok Done) ∷ before) result w p = done result p
calm conf (Asked now (Ok (Heartbeat frame)) ∷ before) result w p = outside result p
calm conf (Asked now (Ok (Fetch frame)) ∷ before) result w p = outside result p
calm conf (Asked now (Ok (Write lines)) ∷ before) result w p = outside result p
calm conf (Asked now (Ok (Wait until)) ∷ before) result w p = outside result p
calm conf (Asked now (Err none) ∷ before) result w p = outside result p
calm conf (Got on frame (Ok took) ∷ before) result w p = outside result p
calm conf (Got on frame (Err NoMemory) ∷ before) result w p = starved result p
calm conf (Got on frame (Err (Refused code)) ∷ before) result w p = absurd w
calm conf (Got on frame (Err (Strange place)) ∷ before) result w p = absurd w
calm conf (Wrote ∷ before) result w p = outside result p
calm conf (Lost on ∷ before) result w p = absurd w
