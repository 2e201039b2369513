use Rattle.std.proofs.Common.{refl}
use Rattle.share_client.specs.declared.step.ClientStep.TheVariants.{Wait}
use Rattle.consume_run.proofs.Turning.{asked_done, asked_goes, asked_offers, when_none, when_some}
use Rattle.consume_run.proofs.turn.turn.Goals as goal

pub returns-in-Write-clause-goes : goal.returns-in-Write-clause-goes
returns-in-Write-clause-goes g c = when_none c.write_lines.result (λ go conf start p.
    go conf start (asked_offers conf start _ c.args.core.now c.next.new.self c.now_ms.result p c.in-Write.lines
    (rw c.in-Write.is at c.in-Ok.ensures conf p.trace p.stands))) c.write_lines.ensures.goes

pub returns-in-Write-clause-stops : goal.returns-in-Write-clause-stops
returns-in-Write-clause-stops g c = when_some c.write_lines.result (λ end stop conf start p.
    stop conf start (asked_offers conf start _ c.args.core.now c.next.new.self c.now_ms.result p c.in-Write.lines
    (rw c.in-Write.is at c.in-Ok.ensures conf p.trace p.stands))) c.write_lines.ensures.stops

pub returns-in-Wait-clause-goes : goal.returns-in-Wait-clause-goes
returns-in-Wait-clause-goes g c = when_none c.wait_on.result (λ go conf start p.
    go conf start _ (asked_goes conf start _ c.args.core.now c.next.new.self c.now_ms.result p (Wait c.in-Wait.until) refl
    (rw c.in-Wait.is at c.in-Ok.ensures conf p.trace p.stands))) c.wait_on.ensures.goes

pub returns-in-Wait-clause-stops : goal.returns-in-Wait-clause-stops
returns-in-Wait-clause-stops g c = when_some c.wait_on.result (λ end stop conf start p.
    stop conf start _ (asked_goes conf start _ c.args.core.now c.next.new.self c.now_ms.result p (Wait c.in-Wait.until) refl
    (rw c.in-Wait.is at c.in-Ok.ensures conf p.trace p.stands))) c.wait_on.ensures.stops

pub returns-in-Done-clause-stops : goal.returns-in-Done-clause-stops
returns-in-Done-clause-stops g c = λ conf start p.
    asked_done conf start _ c.args.core.now c.next.new.self c.now_ms.result p (rw c.in-Done.is at c.in-Ok.ensures conf p.trace p.stands)
