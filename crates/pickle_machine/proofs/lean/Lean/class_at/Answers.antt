use Rattle.std.proofs.Common.{sym, ap, ◌∙◌, List}
use Rattle.std.specs.Prelude.{slice_get}
use Rattle.pickle_ops.specs.declared.class.Class.{Class}
use Rattle.pickle_machine.proofs.Leans.{class_by_number}
use Rattle.pickle_machine.proofs.lean.Lean.class_at.Goals as goal

pub returns : goal.returns
returns c = rw (← c.self.view_is) (c.class_of.ensures ∙ ap (λ (cs : List Class). slice_get cs c.args.id) c.as_slice.ensures.value ∙ sym (class_by_number c.self.inside.classes.items c.args.id))
