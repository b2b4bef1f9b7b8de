use Rattle.std.proofs.lemmas.Result.{IfOk-weaker}
use Rattle.library_answers.proofs.Left.{all_left}
use Rattle.library_answers.proofs.texts.write_whole.Goals as goal

pub returns : goal.returns
returns g c = IfOk-weaker c.write_text.result _ _ (λ status. all_left c.args.detail c.args.pickles c.args.bytes.now _ _ status) c.write_text.ensures.whole
