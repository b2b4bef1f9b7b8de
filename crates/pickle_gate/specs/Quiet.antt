-- Objects of which no event tells. These are no definitions of the gate.
use Rattle.std.specs.Prelude.{◌≡◌, ℕ, Bool, true, false, List, Option, Some, None}
use Rattle.pickle_ops.specs.declared.row.Row.{Row}
use Rattle.pickle_ops.specs.declared.row.Row.TheVariants as row
use Rattle.pickle_ops.specs.declared.row.Filling.{Filling}
use Rattle.pickle_ops.specs.declared.row.Filling.TheVariants as filling
use Rattle.pickle_ops.specs.Object.{Object}
use Rattle.pickle_ops.specs.Kind.{is_opaque}
use Rattle.pickle_machine.specs.Loader.{loose_at}
use Rattle.pickle_calls.specs.Event.{object_is, made_event}

-- no event tells of the making of the object of this number, if it is there, and none of items that go into it
pub record IsUnseen (heap : List Object) (id : ℕ) : Type 0 where
  pub made : None ≡ made_event heap id
  pub plain : object_is is_opaque heap id ≡ false
  pub fast : loose_at heap id ≡ false

-- items go into an object so, and no state
abbrev pub puts_items : Filling → Bool
puts_items filling.Build = false
puts_items _ = true

-- how a row puts objects into another, if it does
abbrev pub filling_of : Row → Option Filling
filling_of (row.Change f) = Some f
filling_of (row.CutChange f) = Some f
filling_of _ = None
