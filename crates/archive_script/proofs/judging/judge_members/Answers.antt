use Rattle.std.proofs.Common.{◌∙◌}
use Rattle.archive_gate.specs.Members.{IsFailing}
use Rattle.archive_script.proofs.GateTexts.{is_there, openable_failing, failing_is}
use Rattle.archive_script.proofs.judging.judge_members.Goals as goal

pub line_in-requires : goal.line_in-requires
line_in-requires c =
    let fails : IsFailing c.args.list.now c.args.entries.now c.in-Some.failing = rw c.in-Some.is at c.in_ok-first_failing.ensures in
    openable_failing c.args.list.now c.args.entries.now c.in-Some.failing fails c.index-entries-failing.result
    (c.index-entries-failing.is ∙ is_there c.args.list.now c.args.entries.now c.in-Some.failing fails c.index-entries-failing.result) c.requires

pub returns-in_ok-line-in-Some : goal.returns-in_ok-line-in-Some
returns-in_ok-line-in-Some c =
    let fails : IsFailing c.args.list.now c.args.entries.now c.in-Some.failing = rw c.in-Some.is at c.in_ok-first_failing.ensures in
    failing_is c.args.list.now c.args.entries.now c.in-Some.failing fails c.index-entries-failing.result _ _
    (c.index-entries-failing.is ∙ is_there c.args.list.now c.args.entries.now c.in-Some.failing fails c.index-entries-failing.result) c.name.ensures
    c.in_ok-line-in-Some.ensures
