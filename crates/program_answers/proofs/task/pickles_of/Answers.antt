use Rattle.std.proofs.Common.{◌∙◌, codes}
use Rattle.clap.proofs.WalkLemmas.{first_value-rows}
use Rattle.clap.specs.Words.{found_of, rows_of}
use Rattle.program_answers.proofs.Named.{reads, reads_none}
use Rattle.program_answers.proofs.task.pickles_of.Goals as goal

pub returns-clause-some : goal.returns-clause-some
returns-clause-some c =
    let found = found_of c.args.found.now in
    reads _ _ (rows_of found) c.reading_of.result c.is_given-first.ensures.yes c.is_given-first.ensures.no
    (c.get_str.ensures ∙ first_value-rows found (codes "memo")) c.reading_of.ensures.some

pub returns-clause-none : goal.returns-clause-none
returns-clause-none c =
    let found = found_of c.args.found.now in
    λ none p. reads_none _ _ (rows_of found) p c.is_given-first.ensures.yes c.is_given-first.ensures.no
    (c.get_str.ensures ∙ first_value-rows found (codes "memo")) (c.reading_of.ensures.none none)
