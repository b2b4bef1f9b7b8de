use Rattle.std.proofs.Common.{rules, ◌≡◌, sym, subst, ◌∙◌, ap, Some, None, Option, List, ℕ, true, false, codes, nat_eq}
use lib.Pointwise.{pointwise}
use Rattle.clap.proofs.WalkLemmas.{first_value-rows}
use Rattle.clap.specs.Words.{found_of}
use Rattle.program_answers.proofs.task.is_given.Goals as goal

pub returns-in_default-clause-no : goal.returns-in_default-clause-no
returns-in_default-clause-no c =
    λ e. let bad : ◌≡◌ {A = Option (List ℕ)} None (Some (codes "true")) = c.in_default.ensures ∙ (first_value-rows (found_of c.args.found.now) c.args.name.now ∙ e) in absurd cc

pub returns-then-eq-clause-yes : goal.returns-then-eq-clause-yes
returns-then-eq-clause-yes c =
    λ is. let text : c.in-Some.text.now ≡ codes "true" = search rules in
    sym (first_value-rows (found_of c.args.found.now) c.args.name.now) ∙ (sym c.in-Some.ensures ∙ ap Some text)

pub returns-else-eq-clause-no : goal.returns-else-eq-clause-no
returns-else-eq-clause-no c =
    λ e. let same : Some c.in-Some.text.now ≡ Some (codes "true") = c.in-Some.ensures ∙ (first_value-rows (found_of c.args.found.now) c.args.name.now ∙ e) in
    let text : c.in-Some.text.now ≡ codes "true" = cc in
    let bad : false ≡ true = subst (λ t. false ≡ pointwise nat_eq t (codes "true")) text c.if-eq.ensures in
    absurd cc
