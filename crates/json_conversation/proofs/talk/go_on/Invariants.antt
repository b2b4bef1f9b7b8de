use Rattle.std.proofs.Common.{◌≡◌}
use Rattle.json_conversation.proofs.Endings.{Moment}
use Rattle.json_conversation.proofs.talk.go_on.Given as goal

abbrev pub invariant-turns : goal.invariant-turns
invariant-turns g l = record {
  moment : Moment l.fn.session (g.S.Asker.remaining l.fn.source) (g.S.Asker.remaining l.source) (g.K.Sink.told l.fn.page) l.session (g.K.Sink.told l.page) l.pending;
  calm : g.S.Asker.failures l.source ≡ g.S.Asker.failures l.fn.source;
  handed : (g.K.Sink.told l.page).held ≡ 0;
}

abbrev pub decreases-turns : goal.decreases-turns
decreases-turns g l = g.S.Asker.turns l.source
