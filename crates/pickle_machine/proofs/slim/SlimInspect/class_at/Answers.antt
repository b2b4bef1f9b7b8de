use Rattle.std.proofs.Common.{ap, ◌∙◌}
use Rattle.pickle_machine.specs.State.{State}
use Rattle.pickle_machine.specs.Seen.{class_at}
use Rattle.pickle_machine.specs.Reading.{reading}
use Rattle.pickle_machine.proofs.Slims.{class_bared}
use Rattle.pickle_machine.proofs.slim.SlimInspect.class_at.Goals as goal

pub returns : goal.returns
returns c =
    rw (← c.self.view_is) (c.class_at.ensures ∙ ap (λ (s : State). class_at s.heap c.args.id) c.self.invariant.outline ∙ class_bared (reading c.self.inside.many c.self.inside.bytes c.self.inside.place).state.heap c.args.id)
