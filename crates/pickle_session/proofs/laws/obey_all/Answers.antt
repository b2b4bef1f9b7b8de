use Rattle.std.proofs.Common.{◌≡◌, ◌+◌, ◌∙◌, [], ◌∷◌, ◌++◌, List, take, sym, ap, subst, arith}
use Rattle.std.proofs.lemmas.List.{take_more, take_all}
use Rattle.pickle_session.specs.declared.command.Command.{Command}
use Rattle.pickle_session.specs.Reaching.{Reaches}
use Rattle.pickle_session.proofs.Reached.{reaches_more}
use Rattle.pickle_session.proofs.laws.obey_all.Goals as goal

pub loop-command-preserved : goal.loop-command-preserved
loop-command-preserved g c =
    let cs = c.args.commands.now in
    let i = c.loop-command.command-index in
    let item = c.command-item.result in
    let before = c.loop-command.invariant in
    let more : take (i + 1) cs ≡ take i cs ++ item ∷ [] = take_more cs i item c.loop-command-test.true ∙ ap (λ (x : Command). take i cs ++ x ∷ []) (sym c.command-item.is) in
    record {
      reaches = subst (λ (xs : List Command). Reaches xs c.args.session.now c.obey-reply.new.self) (sym more) (reaches_more _ _ _ _ _ _ before.reaches c.obey-reply.ensures.answers);
      limit = c.obey-reply.ensures.goes.limit ∙ before.limit;
      total = λ e. omega (arith, before.total e, c.obey-reply.ensures.goes.total (before.limit ∙ e));
    }

pub returns-clause-reaches : goal.returns-clause-reaches
returns-clause-reaches g c = subst (λ (xs : List Command). Reaches xs c.args.session.now c.loop-command.session) (take_all _ _ c.loop-command-test.false) c.loop-command.invariant.reaches
