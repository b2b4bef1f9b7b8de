use Rattle.archive_gate.specs.Tar.{IsFailingIn}
use Rattle.archive_script.proofs.TarTexts.{is_there_in, failing_in}
use Rattle.archive_script.proofs.tar.judge_held.Goals as goal

pub returns-in-Some : goal.returns-in-Some
returns-in-Some c =
    let fails : IsFailingIn c.args.list.now c.args.bytes.now c.args.members.now c.in-Some.failing = rw c.in-Some.is at c.in_ok-first_failing_in.ensures in
    failing_in c.args.list.now c.args.bytes.now c.args.members.now c.in-Some.failing fails _ _ (is_there_in c.args.list.now c.args.bytes.now c.args.members.now c.in-Some.failing fails _)
    c.judge_member.ensures
