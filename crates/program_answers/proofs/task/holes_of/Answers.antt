use Rattle.std.proofs.Common.{◌≡◌, ℕ, List, Option, IfOk, sym, subst, ◌∙◌, codes}
use Rattle.clap.proofs.WalkLemmas.{raw_values-rows}
use Rattle.clap.specs.Words.{found_of, rows_of}
use Rattle.pickle_io.specs.declared.hole.Hole.{Hole}
use Rattle.pickle_script.specs.GivenHoles.{holes_of}
use Rattle.program_answers.proofs.Named.{skips_are, no_skips}
use Rattle.program_answers.proofs.task.holes_of.Goals as goal

pub returns-in-Some : goal.returns-in-Some
returns-in-Some c =
    let e = rw c.in-Some.is at c.get_strs.ensures in
    let same = skips_are _ (rows_of (found_of c.args.found.now)) (e ∙ raw_values-rows (found_of c.args.found.now) (codes "skip")) in
    subst (λ (texts : List (List ℕ)). IfOk c.holes_of.result (λ (holes : Option (List Hole)). holes ≡ holes_of texts)) (sym same) c.holes_of.ensures

pub returns-in-None : goal.returns-in-None
returns-in-None c =
    let e = rw c.in-None.is at c.get_strs.ensures in
    let same = no_skips (rows_of (found_of c.args.found.now)) (e ∙ raw_values-rows (found_of c.args.found.now) (codes "skip")) in
    subst (λ (texts : List (List ℕ)). IfOk c.holes_of-in-None.result (λ (holes : Option (List Hole)). holes ≡ holes_of texts)) (sym same) c.holes_of-in-None.ensures
