use Rattle.std.proofs.Common.{rules, Ok, ap, codes}
use Rattle.clap.specs.Words.{found_of, rows_of}
use Rattle.program_answers.proofs.Named.{used_on, no_gate_task}
use Rattle.program_answers.proofs.task.gate_task.Goals as goal

pub returns-in-Some-clause-some : goal.returns-in-Some-clause-some
returns-in-Some-clause-some c = (used_on (codes "gate") (rows_of (found_of c.args.found.now)) c.args.input c.requires, search rules)

pub returns-in-None-clause-none : goal.returns-in-None-clause-none
returns-in-None-clause-none c = λ is. no_gate_task (rows_of (found_of c.args.found.now)) (c.in_ok-options.ensures.none (ap Ok c.in-None.is))
