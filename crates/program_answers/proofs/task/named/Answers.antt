use Rattle.clap.specs.Words.{found_of, rows_of}
use Rattle.program_answers.specs.CommandLine.{name_of}
use Rattle.program_answers.proofs.Named.{used_is, named_some, named_none}
use Rattle.program_answers.proofs.task.named.Goals as goal

pub returns-in-Some-word_of-clause-some : goal.returns-in-Some-word_of-clause-some
returns-in-Some-word_of-clause-some c =
    named_some _ _ (name_of c.in-Some-word_of.word) (rows_of (found_of c.in-Some.found.now)) _ (used_is _ _ _ _ _ c.in-Some.ensures.name c.in-Some.ensures.rows)
    c.in-Some-word_of.ensures.some c.used_task.ensures.some

pub returns-in-Some-word_of-clause-none : goal.returns-in-Some-word_of-clause-none
returns-in-Some-word_of-clause-none c =
    λ is. named_none _ _ (name_of c.in-Some-word_of.word) (rows_of (found_of c.in-Some.found.now)) (used_is _ _ _ _ _ c.in-Some.ensures.name c.in-Some.ensures.rows)
    c.in-Some-word_of.ensures.some (c.used_task.ensures.none is)
