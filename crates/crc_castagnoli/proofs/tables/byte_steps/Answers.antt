use Rattle.std.proofs.Common.{◌≡◌, ◌∙◌, ◌+◌, ◌*◌, ℕ, true, refl, ap, arith}
use Rattle.crc_castagnoli.specs.Division.{castagnoli, step, steps}
use Rattle.crc_castagnoli.specs.declared.tables.TheConstants.{STEPS}
use Rattle.crc_castagnoli.proofs.TableCheck.{is_table, are_tables, tables_entry}
use Rattle.crc_castagnoli.proofs.tables.byte_steps.Goals as goal

checked : are_tables 8 STEPS ≡ true
unfolding are_tables is_table castagnoli step steps
checked = refl

pub returns : goal.returns
returns c =
    let e : 8 + 8 * c.args.behind ≡ 8 * (c.args.behind + 1) = omega arith in
    c.entry.ensures ∙ tables_entry 8 STEPS c.args.behind c.args.byte checked (omega arith) (omega arith)
    ∙ ap (λ (n : ℕ). steps n c.args.byte) e
