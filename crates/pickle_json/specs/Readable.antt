-- Each line of a listing is read back as its object, by the grammar of JSON, and is one line, whatever the names, texts and numbers of a pickle are.
-- Source: own.
use Rattle.std.specs.Prelude.{ℕ, Option, codes}
use Rattle.pickle_ops.specs.Spelling.{Operation}
use Rattle.pickle_doc.specs.declared.fault.TailFault.{TailFault}
use Rattle.pickle_machine.specs.declared.refusal.Refusal.{Refusal}
use Rattle.json_lines.specs.Readable.{ReadsBackAs}
use Rattle.pickle_json.specs.declared.note.Note.{Note}
use Rattle.pickle_json.specs.ItemFields.{item_fields, item_line}
use Rattle.pickle_json.specs.EndFields.{left_fields, left_text, stopped_fields, stopped_end, refused_fields, refused_end, tail_fields, fault_end}

abbrev pub ItemLinesReadBack : Type 0
ItemLinesReadBack = (o : Operation) (offset marks : ℕ) (n : Option Note) → ReadsBackAs (item_line o offset marks n) (codes "opcode") (item_fields o offset marks n)

-- what STOP left, and the last line after a STOP, a refusal or a fault
pub record EndLinesReadBack : Type 0 where
  pub left : (objects marks : ℕ) → ReadsBackAs (left_text objects marks) (codes "left") (left_fields objects marks)
  pub stopped : (kept : ℕ) (highest : Option ℕ) → ReadsBackAs (stopped_end kept highest) (codes "end") (stopped_fields kept highest)
  pub refused : (r : Refusal) (highest : Option ℕ) → ReadsBackAs (refused_end r highest) (codes "end") (refused_fields r highest)
  pub fault : (f : TailFault) (offset : ℕ) (highest : Option ℕ) → ReadsBackAs (fault_end f offset highest) (codes "end") (tail_fields f offset highest)
