use Rattle.std.proofs.Common.{sym, ◌∙◌}
use Rattle.pickle_allow.specs.Grammar.{is_close}
use Rattle.pickle_allow.specs.Arguments.{chunk_takes}
use Rattle.pickle_allow.proofs.Cuts.{rest_smaller}
use Rattle.pickle_allow.proofs.Reading.{any_read, any_found}
use Rattle.pickle_allow.proofs.arguments.words_take.Goals as goal

pub returns-then-branch : goal.returns-then-branch
returns-then-branch g c =
    any_found is_close (chunk_takes c.args.list.now c.args.protocol (g.M.Inspect.state c.args.machine.now).heap c.args.limit c.args.ids.now) c.loop-rest.rest c.in-Some.left _ _ c.in-Some.is c.cut-piece.ensures.front
    (sym c.in_ok-chunk_takes.ensures ∙ c.if-branch.true) c.loop-rest.invariant

pub loop-rest-smaller : goal.loop-rest-smaller
loop-rest-smaller g c = rest_smaller is_close c.loop-rest.rest c.cut-piece.result.rest c.in-Some.left c.in-Some.is c.cut-piece.ensures.rest

pub loop-rest-preserved : goal.loop-rest-preserved
loop-rest-preserved g c =
    any_read is_close (chunk_takes c.args.list.now c.args.protocol (g.M.Inspect.state c.args.machine.now).heap c.args.limit c.args.ids.now) c.loop-rest.rest c.cut-piece.result.rest c.in-Some.left _ _ c.in-Some.is c.cut-piece.ensures.front c.cut-piece.ensures.rest
    (sym c.in_ok-chunk_takes.ensures ∙ c.if-branch.false) c.loop-rest.invariant
