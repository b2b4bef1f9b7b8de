use Rattle.std.proofs.Common.{rules, sym, ◌∙◌, codes}
use Rattle.std.specs.contracts.prelude.UsizeFromStr.TheImpl as number
use Rattle.clap.proofs.WalkLemmas.{one_text-rows}
use Rattle.clap.specs.Words.{found_of}
use Rattle.program_answers.proofs.Named.{no_text, some_text, bad_text, is_window, no_count, no_number}
use Rattle.program_answers.proofs.task.window_of.Goals as goal

pub returns-in-Ok-None-clause-some : goal.returns-in-Ok-None-clause-some
returns-in-Ok-None-clause-some c =
    let rows = one_text-rows (found_of c.args.found.now) (codes "window") in
    let none = no_text number.ghosts.from_str_gives _ c.try_get_one.result c.try_get_one.ensures.value (search rules) in
    rw (sym rows ∙ none) tt

pub returns-in-Ok-Some-clause-some : goal.returns-in-Ok-Some-clause-some
returns-in-Ok-Some-clause-some c =
    let rows = one_text-rows (found_of c.args.found.now) (codes "window") in
    let r = some_text number.ghosts.from_str_gives _ c.try_get_one.result c.in-Ok-Some.count c.try_get_one.ensures.none c.try_get_one.ensures.value (search rules) in
    is_window _ r.text c.in-Ok-Some.count c.bounded.result (sym rows ∙ r.there) r.given.0.0.0 r.given.0.1 c.bounded.ensures.some

pub returns-in-Ok-Some-clause-none : goal.returns-in-Ok-Some-clause-none
returns-in-Ok-Some-clause-none c =
    let rows = one_text-rows (found_of c.args.found.now) (codes "window") in
    let r = some_text number.ghosts.from_str_gives _ c.try_get_one.result c.in-Ok-Some.count c.try_get_one.ensures.none c.try_get_one.ensures.value (search rules) in
    λ none window. no_count _ r.text c.in-Ok-Some.count window (sym rows ∙ r.there) r.given.0.1 (c.bounded.ensures.none none)

pub returns-in-Err-clause-none : goal.returns-in-Err-clause-none
returns-in-Err-clause-none c =
    let rows = one_text-rows (found_of c.args.found.now) (codes "window") in
    let r = bad_text number.ghosts.from_str_gives _ c.try_get_one.result c.in-Err.field-0 c.try_get_one.ensures.none c.try_get_one.ensures.value (search rules) in
    λ none window. no_number _ r.text window (sym rows ∙ r.there) r.given.0
