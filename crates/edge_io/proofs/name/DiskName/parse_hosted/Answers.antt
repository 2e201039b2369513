use Rattle.std.proofs.Common.{sym, ◌∙◌}
use Rattle.edge_io.proofs.Names.{no_cut, no_second_cut, other_number, other_place, hosted_of, named_of}
use Rattle.edge_io.proofs.name.DiskName.parse_hosted.Goals as goal

pub returns-in_default-clause-same : goal.returns-in_default-clause-same
returns-in_default-clause-same c = no_cut c.args.text.now c.in_default.ensures.cases

pub returns-in_default-split_once-clause-same : goal.returns-in_default-split_once-clause-same
returns-in_default-split_once-clause-same c = no_second_cut c.args.text.now c.in-Some.topic c.in-Some.rest c.in-Some.ensures.cases c.in_default-split_once.ensures.cases

pub returns-in_default-number_of-clause-same : goal.returns-in_default-number_of-clause-same
returns-in_default-number_of-clause-same c = other_number c.args.text.now c.in-Some.topic c.in-Some.rest c.in-Some.ensures.cases
    c.in-Some-split_once.number c.in-Some-split_once.place c.in-Some-split_once.ensures.cases (rw c.as_bytes.ensures.value at c.in_default-number_of.ensures)

pub returns-in_default-place_of-clause-same : goal.returns-in_default-place_of-clause-same
returns-in_default-place_of-clause-same c = other_place c.args.text.now c.in-Some.topic c.in-Some.rest c.in-Some.ensures.cases
    c.in-Some-split_once.number c.in-Some-split_once.place c.in-Some-split_once.ensures.cases c.in_default-place_of.ensures

pub returns-clause-same : goal.returns-clause-same
returns-clause-same c = hosted_of c.args.text.now c.in-Some.topic c.in-Some.rest c.in-Some.ensures.cases
    c.in-Some-split_once.number c.in-Some-split_once.place c.in-Some-split_once.ensures.cases
    c.in-Some-number_of.number c.in-Some-place_of.place c.hosted.result
    c.in-Some-number_of.ensures.0 (sym c.as_bytes.ensures.value ∙ c.in-Some-number_of.ensures.1) c.in-Some-place_of.ensures.0
    (rw c.as_bytes-2.ensures.value at c.hosted.ensures.some) (rw c.as_bytes-2.ensures.value at c.hosted.ensures.exact)

pub returns-clause-named : goal.returns-clause-named
returns-clause-named c = named_of c.args.text.now c.in-Some.topic c.in-Some.rest c.in-Some.ensures.cases
    c.in-Some-split_once.number c.in-Some-split_once.place c.in-Some-split_once.ensures.cases
    c.in-Some-number_of.number c.in-Some-place_of.place c.hosted.result
    c.in-Some-number_of.ensures.0 c.in-Some-place_of.ensures.1
    (rw c.as_bytes-2.ensures.value at c.hosted.ensures.some) (rw c.as_bytes-2.ensures.value at c.hosted.ensures.exact)
