-- The line of what the step over the item before the cursor did.
-- Source: own. What a step does is what the machine's definitions say, by the state before it.
use Rattle.std.specs.Prelude.{ℕ, ◌-◌, Bool, true, nat_lt, if◌then◌else◌, List, [], codes, Option, Some, None}
use Rattle.json.specs.Json.{boolean}
use Rattle.json_lines.specs.Line.{Field, field, ◌⊕◌, whole, numbers_json, line}
use Rattle.pickle_ops.specs.Spelling.{Operation}
use Rattle.pickle_ops.specs.Row.{row_of}
use Rattle.pickle_doc.specs.Place.{item_at, offset_of}
use Rattle.pickle_machine.specs.declared.told.Stored.{Stored}
use Rattle.pickle_machine.specs.State.{State}
use Rattle.pickle_machine.specs.Doing.{Doing, does}
use Rattle.pickle_session.specs.Session.{Session, state_at}
use Rattle.pickle_json.specs.EndFields.{coded_fields}
use Rattle.pickle_json.specs.ItemFields.{head_fields, arg_fields}
use Rattle.debug_json.specs.Array.{object_json}
use Rattle.debug_json.specs.RefusedFields.{place_field}
use Rattle.debug_json.specs.WhereFields.{reached_fields}

-- ---- fields that may be left out

-- a number, where there is one
unfoldable pub optional_field : List ℕ → Option ℕ → List Field
optional_field name None = []
optional_field name (Some n) = field name (whole n)

-- what is so; what is not is left out
unfoldable pub flag_field : List ℕ → Bool → List Field
flag_field name is_so = if is_so then field name (boolean true) else []

-- ---- what a step does

-- whether a further pickle begins with it, and the objects: the one that it makes, the one that it puts on the stack, those that it takes
unfoldable pub object_fields : Doing → List Field
object_fields x =
    flag_field (codes "begins") x.begins ⊕ optional_field (codes "made") x.made ⊕ optional_field (codes "pushed") x.pushed ⊕ field (codes "took") (numbers_json x.took)

-- the item that set the mark that it takes, and whether it sets one
unfoldable pub marking_fields : Doing → List Field
marking_fields x = optional_field (codes "cut_mark") x.cut ⊕ flag_field (codes "set_mark") x.marked

unfoldable pub change_fields : (ℕ × ℕ) → List Field
change_fields c = field (codes "object") (whole c.0) ⊕ field (codes "changes") (whole c.1)

unfoldable pub one_change : (ℕ × ℕ) → List Field
one_change c = field (codes "changed") (object_json (codes "change") (change_fields c))

-- the object that it changes, where it gets a change
unfoldable pub changed_field : Option (ℕ × ℕ) → List Field
changed_field None = []
changed_field (Some c) = if nat_lt 0 c.1 then one_change c else []

-- an entry of the memo, and the object that the memo had under its key
unfoldable pub stored_fields : Stored → List Field
stored_fields e = field (codes "memo") (whole e.key) ⊕ field (codes "object") (whole e.object) ⊕ optional_field (codes "before") e.before

unfoldable pub one_entry : Stored → List Field
one_entry e = field (codes "memo") (object_json (codes "entry") (stored_fields e))

unfoldable pub stored_field : Option Stored → List Field
stored_field None = []
stored_field (Some e) = one_entry e

abbrev pub doing_fields : Doing → List Field
doing_fields x = object_fields x ⊕ marking_fields x ⊕ changed_field x.changed ⊕ stored_field x.stored

-- ---- the line

-- the item at a place, as a listing has it; what its step does; and the count of buffers and the results after it
abbrev pub stepped_fields : Session → State → ℕ → Operation → Doing → List Field
stepped_fields s t k o x = place_field k ⊕ head_fields o (offset_of s.document k) ⊕ arg_fields o ⊕ doing_fields x ⊕ reached_fields t

-- by the item before the cursor, and the state that the items before it reach
abbrev pub step_over : Session → State → Option Operation → Option State → List Field
step_over s t (Some o) (Some before) = stepped_fields s t (s.cursor - 1) o (does (row_of o) before)
step_over s t (Some o) None = []
step_over s t None before = []

unfoldable pub step_fields : Session → State → List Field
step_fields s t = step_over s t (item_at s.document (s.cursor - 1)) (state_at s.document (s.cursor - 1))

unfoldable pub step_line : Session → State → List ℕ
step_line s t = line (codes "step") (step_fields s t)

-- ---- no step, or its record was dropped

unfoldable pub no_step_words : List ℕ
no_step_words = codes "no record of the step"

unfoldable pub no_step_fields : List Field
no_step_fields = coded_fields (codes "V3") no_step_words

unfoldable pub no_step_line : List ℕ
no_step_line = line (codes "refused") no_step_fields
