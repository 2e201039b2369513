use Rattle.session_script.proofs.Sayings.{arm_not_cut, arm_cut_once, arm_no_disk, arm_no_number, arm_no_mode}
use Rattle.session_script.proofs.line.arm.Goals as goal

pub returns-in_default : goal.returns-in_default
returns-in_default c = arm_not_cut c.args.rest.now c.in_default.ensures

pub returns-in_default-cut : goal.returns-in_default-cut
returns-in_default-cut c = arm_cut_once c.args.rest.now c.in-Some.disk.now c.in-Some.rest.now c.in-Some.ensures c.in_default-cut.ensures

pub returns-in_default-parse : goal.returns-in_default-parse
returns-in_default-parse c = arm_no_disk c.args.rest.now c.in-Some.disk.now c.in-Some.rest.now c.in-Some.ensures c.in_default-parse.ensures.none

pub returns-in_default-number : goal.returns-in_default-number
returns-in_default-number c = arm_no_number c.args.rest.now c.in-Some.disk.now c.in-Some.rest.now c.in-Some.ensures
    c.in-Some-cut.after.now c.in-Some-cut.mode.now c.in-Some-cut.ensures c.in_default-number.ensures

pub returns-in_default-fault_mode : goal.returns-in_default-fault_mode
returns-in_default-fault_mode c = arm_no_mode c.args.rest.now c.in-Some.disk.now c.in-Some.rest.now c.in-Some.ensures
    c.in-Some-cut.after.now c.in-Some-cut.mode.now c.in-Some-cut.ensures c.in_default-fault_mode.ensures
