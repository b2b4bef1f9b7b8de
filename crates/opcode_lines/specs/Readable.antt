-- Each line of the table is read back as its object, by the grammar of JSON, and is one line.
-- Source: own.
use Rattle.std.specs.Prelude.{codes}
use Rattle.pickle_ops.specs.declared.opcode.Opcode.{Opcode}
use Rattle.json_lines.specs.Readable.{ReadsBackAs}
use Rattle.opcode_lines.specs.EntryFields.{entry_fields, entry_line}

abbrev pub EntryLinesReadBack : Type 0
EntryLinesReadBack = (o : Opcode) → ReadsBackAs (entry_line o) (codes "entry") (entry_fields o)
