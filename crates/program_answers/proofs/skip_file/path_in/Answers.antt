use Rattle.std.proofs.Common.{arith}
use Rattle.std.proofs.lemmas.Str.Pattern.{strip_prefix_char}
use Rattle.program_answers.proofs.Added.{no_path}
use Rattle.program_answers.proofs.skip_file.path_in.Goals as goal

pub returns-then-eq-clause-none : goal.returns-then-eq-clause-none
returns-then-eq-clause-none c = λ is w. no_path _ _ (strip_prefix_char 64 c.args.next.now c.strip_prefix.result c.strip_prefix.ensures.cases (omega arith)) is
