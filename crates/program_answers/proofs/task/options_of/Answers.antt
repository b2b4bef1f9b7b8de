use Rattle.std.proofs.Common.{sym, ◌∙◌, codes}
use Rattle.clap.proofs.WalkLemmas.{first_value-rows}
use Rattle.clap.specs.Words.{found_of}
use Rattle.program_answers.proofs.task.options_of.Goals as goal

pub returns-in-Some-clause-some : goal.returns-in-Some-clause-some
returns-in-Some-clause-some c = record {
  save_is = sym (first_value-rows (found_of c.args.found.now) (codes "save")) ∙ sym c.get_str.ensures ∙ sym c.in_ok-save.ensures;
  window_is = c.in-Some.ensures.some;
  format_is = c.format_of-format.ensures;
}
