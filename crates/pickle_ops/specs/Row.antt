-- Rows: how many objects they take, and what becomes of these; and the row and the kind of an operation, by the table.
-- Source: the comments of `pickletools`' opcode table.
use Rattle.std.specs.Prelude.{ℕ, List}
use Rattle.pickle_ops.specs.declared.opcode.Opcode.{Opcode}
use Rattle.pickle_ops.specs.Table.{entry_of, form_of}
use Rattle.pickle_ops.specs.Spelling.{Operation}
use Rattle.pickle_ops.specs.declared.kind.Kind.{Kind}
use Rattle.pickle_ops.specs.declared.row.Row.{Row}
use Rattle.pickle_ops.specs.declared.row.Taking.{Taking}
use Rattle.pickle_ops.specs.declared.row.Taking.TheVariants as taking
use Rattle.pickle_ops.specs.declared.row.Filling.{Filling}
use Rattle.pickle_ops.specs.declared.row.Filling.TheVariants as filling
use Rattle.pickle_ops.specs.declared.object.Change.{Change}
use Rattle.pickle_ops.specs.declared.object.Change.TheVariants as change

-- ---- rows

-- how many objects are taken for a new one
abbrev pub count_of : Taking → ℕ
count_of taking.One = 1
count_of taking.Two = 2
count_of taking.Three = 3
count_of taking.Names = 2
count_of taking.Call = 2
count_of taking.CallWith = 3

-- how many objects go into the one below them
abbrev pub values_of : Filling → ℕ
values_of filling.SetItem = 2
values_of _ = 1

-- one object as a change of the one that it goes into
abbrev pub change_of : Filling → ℕ → Change
change_of filling.Append id = change.Append id
change_of filling.Add id = change.Add id
change_of _ id = change.Build id

-- ---- the columns of the table

-- what an opcode with its argument does
abbrev pub row_of_opcode : Opcode → List ℕ → Row
row_of_opcode o arg = (entry_of o).row (form_of o) arg

abbrev pub row_of : Operation → Row
row_of o = row_of_opcode o.opcode o.arg

-- the kind of the object that an opcode makes
abbrev pub kind_of_opcode : Opcode → List ℕ → Kind
kind_of_opcode o arg = (entry_of o).kind (form_of o) arg

abbrev pub kind_of : Operation → Kind
kind_of o = kind_of_opcode o.opcode o.arg
