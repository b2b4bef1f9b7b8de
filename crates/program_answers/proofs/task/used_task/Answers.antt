use Rattle.std.proofs.Common.{Ok, ap, sym}
use Rattle.clap.specs.Words.{found_of, rows_of}
use Rattle.program_answers.proofs.Named.{no_file}
use Rattle.program_answers.proofs.task.used_task.Goals as goal

pub returns-in-None-clause-none : goal.returns-in-None-clause-none
returns-in-None-clause-none c =
    λ is. no_file c.args.word (rows_of (found_of c.args.found.now)) (c.fileless_task.ensures.none cc) (sym (c.in_ok-input.ensures.none (ap Ok c.in-None.is)))
