use Rattle.std.proofs.Common.{ap}
use Rattle.clap.specs.Words.{found_of, rows_of}
use Rattle.program_answers.specs.CommandLine.{name_of}
use Rattle.program_answers.proofs.Named.{asked_as}
use Rattle.program_answers.proofs.task.fileless_task.Goals as goal

pub returns-in-Opcodes-clause-some : goal.returns-in-Opcodes-clause-some
returns-in-Opcodes-clause-some c = asked_as _ (rows_of (found_of c.args.found.now)) _ (ap name_of c.in-Opcodes.is) c.format_of.ensures
