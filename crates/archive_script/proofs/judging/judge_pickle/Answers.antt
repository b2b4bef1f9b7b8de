use Rattle.pickle_script.proofs.GateTexts.{tells}
use Rattle.archive_script.proofs.judging.judge_pickle.Goals as goal

pub returns : goal.returns
returns c = tells c.args.list.now c.args.bytes.now _ c.in_ok-verdict.verdict c.in_ok-verdict.ensures c.in_ok-line.ensures
