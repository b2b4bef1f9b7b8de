use Rattle.std.proofs.Common.{ℕ, List, map, Bor, ◌∙◌, codes}
use Rattle.clap.proofs.WalkLemmas.{raw_values-rows}
use Rattle.clap.specs.Words.{found_of, rows_of}
use Rattle.program_answers.proofs.Named.{more_are, no_more}
use Rattle.program_answers.proofs.task.more_of.Goals as goal

pub returns-in-Some : goal.returns-in-Some
returns-in-Some c =
    let e = rw c.in-Some.is at c.get_strs.ensures in
    more_are _ (map (λ (t : Bor (List ℕ)). t.now) c.in-Some.texts.now) (rows_of (found_of c.args.found.now)) _
    (e ∙ raw_values-rows (found_of c.args.found.now) (codes "FILE")) c.owned_behind.ensures

pub returns-in-None : goal.returns-in-None
returns-in-None c =
    let e = rw c.in-None.is at c.get_strs.ensures in
    rw c.new.ensures.items (no_more (rows_of (found_of c.args.found.now)) (e ∙ raw_values-rows (found_of c.args.found.now) (codes "FILE")))
