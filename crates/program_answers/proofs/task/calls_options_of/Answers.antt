use Rattle.program_answers.proofs.task.calls_options_of.Goals as goal

pub returns-in_default-clause-none : goal.returns-in_default-clause-none
returns-in_default-clause-none c = λ is options h. c.pickles_of.ensures.none c.in_default.is options.pickles h.pickles_is
