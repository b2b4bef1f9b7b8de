-- What a step does: the object that it makes, the one that it puts on the stack, those that it takes, the marks, the object that it changes,
-- and the entry of the memo. It is told by the state before the step, and again by its record with the state after it.
-- Source: as of the moves (`Move`).
use Rattle.std.specs.Prelude.{ℕ, ◌-◌, Bool, true, false, ◌||◌, List, [], length, is_some, if◌then◌else◌, Option, Some, None}
use Rattle.pickle_ops.specs.declared.class.Demand.TheVariants as demand
use Rattle.pickle_ops.specs.declared.row.Row.{Row}
use Rattle.pickle_ops.specs.declared.row.Row.TheVariants as row
use Rattle.pickle_ops.specs.Row.{count_of, values_of}
use Rattle.pickle_machine.specs.declared.record.HeapStep.{HeapStep}
use Rattle.pickle_machine.specs.declared.record.HeapStep.TheVariants as heap
use Rattle.pickle_machine.specs.declared.record.MemoStep.{MemoStep}
use Rattle.pickle_machine.specs.declared.record.MemoStep.TheVariants as memo
use Rattle.pickle_machine.specs.declared.told.Stored.{Stored}
use Rattle.pickle_machine.specs.State.{State, top_mark_place}
use Rattle.pickle_machine.specs.Move.{deep, last_of, under, object_meets, changes_of, memo_at, takes_mark, fresh}
use Rattle.pickle_machine.specs.Back.{Record, last_parts}

-- whether a further pickle begins with it; the object that it makes, and the one that it puts on the stack; the objects that it takes off the
-- stack, the lowest first, without the target of a change; the place of the mark that it takes, and whether it sets one; the object that it
-- changes, with how many changes; and the entry that it puts into the memo
pub record Doing : Type 0 where
  pub begins : Bool
  pub made : Option ℕ
  pub pushed : Option ℕ
  pub took : List ℕ
  pub cut : Option ℕ
  pub marked : Bool
  pub changed : Option (ℕ × ℕ)
  pub stored : Option Stored

-- ---- by the state before it

-- a new object has the next number
abbrev pub makes : Row → State → Option ℕ
makes (row.Extension n) s = Some (length s.heap)
makes row.Push s = Some (length s.heap)
makes row.Buffer s = Some (length s.heap)
makes row.ReadOnly s = if object_meets demand.ReadOnly s (deep 0 s.top) then None else Some (length s.heap)
makes (row.Take t) s = Some (length s.heap)
makes (row.Cut c) s = Some (length s.heap)
makes _ s = None

-- an object that is there already, or a new one
abbrev pub pushes : Row → State → Option ℕ
pushes row.Dup s = Some (deep 0 s.top)
pushes (row.Get key) s = memo_at key s
pushes r s = makes r s

abbrev pub takes : Row → State → List ℕ
takes row.ReadOnly s = if object_meets demand.ReadOnly s (deep 0 s.top) then [] else last_of 1 s
takes (row.Take t) s = last_of (count_of t) s
takes (row.Cut c) s = s.top
takes (row.Change f) s = last_of (values_of f) s
takes (row.CutChange f) s = s.top
takes row.Pop s = last_of 1 s
takes row.PopMark s = s.top
takes row.Stop s = last_of 1 s
takes _ s = []

abbrev pub cuts : Row → State → Option ℕ
cuts r s = if takes_mark r s then Some (top_mark_place s.marked) else None

abbrev pub sets_mark : Row → Bool
sets_mark row.Mark = true
sets_mark _ = false

abbrev pub fills : Row → State → Option (ℕ × ℕ)
fills (row.Change f) s = Some (deep (values_of f) s.top, length (changes_of f (last_of (values_of f) s)))
fills (row.CutChange f) s = Some (deep 0 (under s.marked), length (changes_of f s.top))
fills _ s = None

-- an entry under a key, with the object that the memo had there
abbrev pub entry_at : ℕ → State → Stored
entry_at key s = record { key = key; object = deep 0 s.top; before = memo_at key s }

abbrev pub stores : Row → State → Option Stored
stores (row.Put key) s = Some (entry_at key s)
stores row.Memoize s = Some (entry_at (length s.memo) s)
stores _ s = None

-- within a pickle
abbrev pub does_within : Row → State → Doing
does_within r s =
    record {
      begins = false;
      made = makes r s;
      pushed = pushes r s;
      took = takes r s;
      cut = cuts r s;
      marked = sets_mark r;
      changed = fills r s;
      stored = stores r s;
    }

-- also as the first of a further pickle, which begins with an empty stack and an empty memo
abbrev pub does : Row → State → Doing
does r s = record (does_within r (fresh s)) { begins = s.stopped }

-- ---- by its record, and the state after it

abbrev pub is_made : HeapStep → Bool
is_made heap.Made = true
is_made heap.Same = false
is_made (heap.Changed id n) = false

abbrev pub told_made : Record → State → Option ℕ
told_made r t = if is_made r.heap then Some (length t.heap - 1) else None

-- an object that is made is put on the stack
abbrev pub told_pushed : Record → State → Option ℕ
told_pushed r t = if r.pushed || is_made r.heap then Some (deep 0 t.top) else None

-- what is made has what was taken as its parts
abbrev pub told_took : Record → State → List ℕ
told_took r t = if is_made r.heap then last_parts t.heap else r.taken

abbrev pub told_changed : HeapStep → Option (ℕ × ℕ)
told_changed heap.Made = None
told_changed heap.Same = None
told_changed (heap.Changed id n) = Some (id, n)

abbrev pub told_stored : MemoStep → State → Option Stored
told_stored memo.Same t = None
told_stored (memo.Fresh key) t = Some (record { key = key; object = deep 0 t.top; before = None })
told_stored (memo.Replaced key old) t = Some (record { key = key; object = deep 0 t.top; before = Some old })

abbrev pub told_by : Row → Record → State → Doing
told_by row r t =
    record {
      begins = is_some r.first;
      made = told_made r t;
      pushed = told_pushed r t;
      took = told_took r t;
      cut = r.cut;
      marked = sets_mark row;
      changed = told_changed r.heap;
      stored = told_stored r.memo t;
    }
