use Rattle.std.proofs.Common.{◌∙◌}
use Rattle.std.specs.String.{string_bytes}
use Rattle.clap.proofs.WalkLemmas.{first_value-rows}
use Rattle.clap.specs.Words.{found_of, rows_of}
use Rattle.program_answers.proofs.Named.{text_some, text_none}
use Rattle.program_answers.proofs.task.text_of.Goals as goal

pub returns-clause-some : goal.returns-clause-some
returns-clause-some c =
    text_some string_bytes c.args.name.now _ (rows_of (found_of c.args.found.now)) _ (c.get_str.ensures ∙ first_value-rows (found_of c.args.found.now) c.args.name.now) c.owned.ensures

pub returns-clause-none : goal.returns-clause-none
returns-clause-none c =
    λ is. text_none string_bytes c.args.name.now _ (rows_of (found_of c.args.found.now)) _ (c.get_str.ensures ∙ first_value-rows (found_of c.args.found.now) c.args.name.now)
    c.owned.ensures is
