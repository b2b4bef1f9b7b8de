use Rattle.std.proofs.Common.{ap, sym, ◌∙◌}
use Rattle.pickle_allow.specs.Grammar.{right_trimmed}
use Rattle.pickle_allow.proofs.Cuts.{blank_last, other_last}
use Rattle.pickle_allow.proofs.cut.trimmed.Goals as goal

pub returns-then-not-is_blank : goal.returns-then-not-is_blank
returns-then-not-is_blank c =
    let e = c.in-Some.ensures.cases.0 in
    e ∙ sym (other_last c.in-Some.front.now c.in-Some.last.now (sym c.is_blank.ensures ∙ c.if-not-is_blank.true)) ∙ ap right_trimmed (sym e) ∙ c.loop-last.invariant

pub loop-last-preserved : goal.loop-last-preserved
loop-last-preserved c =
    let e = c.in-Some.ensures.cases.0 in
    sym (blank_last c.in-Some.front.now c.in-Some.last.now (sym c.is_blank.ensures ∙ c.if-not-is_blank.false)) ∙ ap right_trimmed (sym e) ∙ c.loop-last.invariant
