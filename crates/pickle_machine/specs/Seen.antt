-- What is looked at of the objects of a state.
use Rattle.std.specs.Prelude.{ℕ, List, slice_get, Option}
use Rattle.std.specs.Option.{option_map}
use Rattle.pickle_ops.specs.declared.class.Class.{Class}
use Rattle.pickle_ops.specs.Object.{Object}
use Rattle.pickle_ops.specs.Kind.{class_of}

-- the class of the object of this number, if there is one
abbrev pub class_at : List Object → ℕ → Option Class
class_at heap id = option_map (λ (o : Object). class_of o.kind) (slice_get heap id)
