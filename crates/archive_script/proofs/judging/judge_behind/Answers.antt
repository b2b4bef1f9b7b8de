use Rattle.archive_script.proofs.GateTexts.{behind_tells}
use Rattle.archive_script.proofs.judging.judge_behind.Goals as goal

pub returns : goal.returns
returns c = behind_tells c.args.list.now c.args.bytes.now _ c.in_ok-verdict.verdict c.in_ok-verdict.ensures c.in_ok-line.ensures
