use Rattle.std.proofs.Common.{List, false, sym, ap, ◌∙◌}
use Rattle.std.specs.Prelude.{slice_get}
use Rattle.std.specs.Option.{option_map_or}
use Rattle.pickle_ops.specs.declared.class.Class.{Class}
use Rattle.pickle_ops.specs.Class.{class_meets}
use Rattle.pickle_machine.proofs.Leans.{meets_by_class}
use Rattle.pickle_machine.proofs.lean.LeanOperands.meets.Goals as goal

pub returns : goal.returns
returns c =
    rw (← c.self.view_is) (c.meets_at.ensures ∙ ap (λ (cs : List Class). option_map_or (class_meets c.args.demand) (slice_get cs c.args.id) false) c.as_slice.ensures.value ∙ sym (meets_by_class c.args.demand c.self.inside.classes.items c.args.id))
