use Rattle.std.proofs.Common.{sym, ◌∙◌}
use Rattle.pickle_allow.specs.Grammar.{is_bar}
use Rattle.pickle_allow.specs.Arguments.{word_takes}
use Rattle.pickle_allow.specs.Given.{given_view}
use Rattle.pickle_allow.proofs.Cuts.{rest_smaller}
use Rattle.pickle_allow.proofs.Reading.{any_read, any_found}
use Rattle.pickle_allow.proofs.takes.item_takes.Goals as goal

pub returns-then-branch : goal.returns-then-branch
returns-then-branch c =
    any_found is_bar (word_takes c.args.list.now (given_view c.args.given)) c.loop-rest.rest c.in-Some.left _ _ c.in-Some.is c.cut-piece.ensures.front
    (sym c.in_ok-word_takes.ensures ∙ c.if-branch.true) c.loop-rest.invariant

pub loop-rest-smaller : goal.loop-rest-smaller
loop-rest-smaller c = rest_smaller is_bar c.loop-rest.rest c.cut-piece.result.rest c.in-Some.left c.in-Some.is c.cut-piece.ensures.rest

pub loop-rest-preserved : goal.loop-rest-preserved
loop-rest-preserved c =
    any_read is_bar (word_takes c.args.list.now (given_view c.args.given)) c.loop-rest.rest c.cut-piece.result.rest c.in-Some.left _ _ c.in-Some.is c.cut-piece.ensures.front c.cut-piece.ensures.rest
    (sym c.in_ok-word_takes.ensures ∙ c.if-branch.false) c.loop-rest.invariant
