use Rattle.std.proofs.Common.{sym, ◌∙◌, ap, Some, codes}
use Rattle.clap.proofs.WalkLemmas.{first_value-rows}
use Rattle.clap.specs.Words.{found_of}
use Rattle.program_answers.proofs.task.given_input.Goals as goal

pub returns-in_default-clause-none : goal.returns-in_default-clause-none
returns-in_default-clause-none c = λ is. c.in_default.ensures ∙ first_value-rows (found_of c.args.found.now) (codes "FILE")

pub returns-clause-some : goal.returns-clause-some
returns-clause-some c = record {
  file_is = sym (first_value-rows (found_of c.args.found.now) (codes "FILE")) ∙ sym c.in-Some.ensures ∙ ap Some (sym c.in_ok-file.ensures.ok);
  many_is = c.is_given-many.ensures.yes;
  one_is = c.is_given-many.ensures.no;
  unframed_is = c.is_given-unframed.ensures.yes;
  framed_is = c.is_given-unframed.ensures.no;
}
