use Rattle.std.proofs.Common.{◌+◌, ◌-◌, ◌<◌, ◌^◌, rules, arith}
use Rattle.pickle_doc.proofs.Starts.{start_put, start_taken, start_set}
use Rattle.pickle_doc.proofs.record.start_behind.Goals as goal

pub overflow_add-result : goal.overflow_add-result
overflow_add-result c =
    let s = start_put c.args.change.now c.args.place c.in-Put.item c.args.items.now.items c.in-Put.is c.requires.can in
    let fits : c.args.start + c.size.result < 2 ^ 64 = omega (arith, s, c.requires.start, c.requires.small, c.size.ensures) in
    search rules

pub overflow_sub-result : goal.overflow_sub-result
overflow_sub-result c =
    let s = start_taken c.args.change.now c.args.place c.at.result.now c.args.items.now.items c.in-Take.is c.requires.can c.at.ensures in
    omega (arith, s, c.requires.start, c.size-in-Take.ensures)

pub overflow_sub-result-in-Set : goal.overflow_sub-result-in-Set
overflow_sub-result-in-Set c =
    let s = start_set c.args.change.now c.args.place c.at-in-Set.result.now c.in-Set.item c.args.items.now.items c.in-Set.is c.requires.can c.at-in-Set.ensures in
    omega (arith, s.least, c.requires.start, c.size-in-Set.ensures)

pub overflow_add-result-in-Set : goal.overflow_add-result-in-Set
overflow_add-result-in-Set c =
    let s = start_set c.args.change.now c.args.place c.at-in-Set.result.now c.in-Set.item c.args.items.now.items c.in-Set.is c.requires.can c.at-in-Set.ensures in
    let fits : c.args.start - c.size-in-Set.result + c.size-in-Set-2.result < 2 ^ 64 =
    omega (arith, s.sum, s.least, c.requires.start, c.requires.small, c.size-in-Set.ensures, c.size-in-Set-2.ensures) in
    search rules

pub returns-in-Put : goal.returns-in-Put
returns-in-Put c =
    let s = start_put c.args.change.now c.args.place c.in-Put.item c.args.items.now.items c.in-Put.is c.requires.can in
    omega (arith, s, c.requires.start, c.size.ensures)

pub returns-in-Take : goal.returns-in-Take
returns-in-Take c =
    let s = start_taken c.args.change.now c.args.place c.at.result.now c.args.items.now.items c.in-Take.is c.requires.can c.at.ensures in
    omega (arith, s, c.requires.start, c.size-in-Take.ensures)

pub returns-in-Set : goal.returns-in-Set
returns-in-Set c =
    let s = start_set c.args.change.now c.args.place c.at-in-Set.result.now c.in-Set.item c.args.items.now.items c.in-Set.is c.requires.can c.at-in-Set.ensures in
    omega (arith, s.sum, s.least, c.requires.start, c.size-in-Set.ensures, c.size-in-Set-2.ensures)
