-- A machine whose memo has keys of any size.
-- Source: own.
use Rattle.std.specs.Prelude.{◌≡◌, ℕ, ◌^◌, Bool, true, false, List, ◌++◌, length, Option, Some, None, Ok, Err}
use Rattle.std.specs.Map.{values_of}
use Rattle.pickle_ops.specs.declared.fault.FrontFault.TheVariants as front
use Rattle.pickle_ops.specs.declared.row.Row.{Row}
use Rattle.pickle_ops.specs.declared.row.Row.TheVariants as row
use Rattle.pickle_ops.specs.Spelling.{Operation}
use Rattle.pickle_doc.specs.DocUnit.{frame_op}
use Rattle.pickle_doc.specs.declared.fault.TailFault.TheVariants as tail
use Rattle.pickle_machine.specs.declared.refusal.Refusal.{Refusal}
use Rattle.pickle_machine.specs.State.{State}
use Rattle.pickle_machine.specs.Names.{AreNames}
use Rattle.pickle_machine.specs.Kept.{AreBelow}
use Rattle.pickle_machine.specs.Inside.Slots.{IsAbove}
use Rattle.pickle_machine.specs.Loader.{move_as}
use Rattle.pickle_lenient.specs.declared.taken.Taken.{Taken}
use Rattle.pickle_text.specs.declared.closing.Closing.TheVariants as closing
use Rattle.pickle_further.specs.declared.going.Gone.{Gone}
use Rattle.pickle_further.specs.declared.going.NearItem.{NearItem}
use Rattle.pickle_further.specs.Going.{nothing}

-- entries whose keys have more than 64 bits stand behind those of the machine
abbrev pub with_far : List (ℕ × ℕ) → State → State
with_far far s = record s { memo = s.memo ++ far }

-- no key of the machine has more than 64 bits, and those entries have; they name objects
pub record IsApart (far : List (ℕ × ℕ)) (s : State) : Type 0 where
  pub near : AreBelow (2 ^ 64) s.memo
  pub above : IsAbove (2 ^ 64) far
  pub names : AreNames (length s.heap) (values_of far)

-- MEMOIZE is PUT of how many entries there are
abbrev pub counted : Row → List (ℕ × ℕ) → Row
counted row.Memoize memo = row.Put (length memo)
counted r memo = r

-- GET or PUT of such a key was done, or is refused
abbrev pub ComesTo : Row → State → State → Bool → Type 0
ComesTo r s t true = (place : ℕ) → move_as r (frame_op 0) place s ≡ Ok t
ComesTo r s t false = (place : ℕ) → (x : Refusal) × (move_as r (frame_op 0) place s ≡ Err x)

-- an item of a row of the machine
abbrev pub near_item : NearItem → Taken
near_item i = record { op = i.op; row = i.row; size = i.size; left = i.left; lost = i.lost }

-- what such a GET or PUT comes to
abbrev pub far_gone : Bool → ℕ → ℕ → Bool → ℕ → Gone
far_gone true size left lost offset = record { event = None; row = row.Nothing; size = size; left = left; lost = lost; closing = None }
far_gone false size left lost offset = nothing (closing.Fault (tail.Front front.BadArgument) offset)
