use Rattle.archive_script.proofs.TarTexts.{members_in, no_tar}
use Rattle.archive_script.proofs.tar.judge_tar.Goals as goal

pub returns-in-Ok : goal.returns-in-Ok
returns-in-Ok c = members_in c.args.list.now c.args.bytes.now c.in-Ok.members.items _ _ (rw c.in-Ok.is at c.in_ok-members.ensures) c.as_slice.ensures.value c.judge_read.ensures

pub returns-in-Err : goal.returns-in-Err
returns-in-Err c = no_tar c.args.list.now c.args.bytes.now c.in-Err.refusal (rw c.in-Err.is at c.in_ok-members.ensures)
