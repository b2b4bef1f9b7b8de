-- The class of what an opcode makes.
use Rattle.std.proofs.Common.{◌≡◌, ℕ, Bool, true, false, List, refl, sym}
use Rattle.std.specs.Prelude.{◌==◌, ◌&&◌, length, slice_index, if◌then◌else◌}
use Rattle.pickle_ops.specs.declared.kind.Kind.TheVariants as kind
use Rattle.pickle_ops.specs.declared.class.Class.TheVariants as class
use Rattle.pickle_ops.specs.Kind.{class_of}
use Rattle.pickle_ops.specs.Table.{int_kind}

by_two : (b c : Bool) (text : List ℕ) → class_of (if b then kind.False else if c then kind.True else kind.IntLine text) ≡ class.Plain
by_two true c text = refl
by_two false true text = refl
by_two false false text = refl

pub class_of_int : (text : List ℕ) → class.Plain ≡ class_of (int_kind text)
class_of_int text = sym (by_two (length text == 2 && slice_index text 0 == 48 && slice_index text 1 == 48) (length text == 2 && slice_index text 0 == 48 && slice_index text 1 == 49) text)

pub ruleset class_rules = (class_of_int)
