use Rattle.std.proofs.Common.{sym, ◌∙◌}
use Rattle.pickle_machine.specs.Reading.{reading}
use Rattle.pickle_machine.proofs.Slims.{refusal_here, refusal_begun}
use Rattle.pickle_machine.proofs.slim.Slim.refusal.Goals as goal

pub returns-then-has_stopped-clause-first : goal.returns-then-has_stopped-clause-first
returns-then-has_stopped-clause-first c =
    rw (← c.self.view_is) (c.first_refusal.ensures.first (reading c.self.inside.many c.self.inside.bytes c.self.inside.place).state ∙ refusal_begun c.args.row c.self.inside.lean (reading c.self.inside.many c.self.inside.bytes c.self.inside.place).state c.self.invariant.outline (sym c.has_stopped.ensures ∙ c.if-has_stopped.true))

pub returns-else-has_stopped-clause-first : goal.returns-else-has_stopped-clause-first
returns-else-has_stopped-clause-first c =
    rw (← c.self.view_is) (c.refusal.ensures.first ∙ refusal_here c.args.row c.self.inside.lean (reading c.self.inside.many c.self.inside.bytes c.self.inside.place).state c.self.invariant.outline (sym c.has_stopped.ensures ∙ c.if-has_stopped.false))
