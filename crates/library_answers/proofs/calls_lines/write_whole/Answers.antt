use Rattle.library_answers.proofs.Left.{all_lines_left}
use Rattle.library_answers.proofs.calls_lines.write_whole.Goals as goal

pub returns : goal.returns
returns g c = all_lines_left c.args.detail c.args.holes.now c.args.pickles c.args.bytes.now _ _ _ c.requires.none c.in_ok-calls_lines.ensures.ok
