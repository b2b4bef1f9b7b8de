-- Each line is read back as its object, by the grammar of JSON, and is one line, whatever the names, texts and numbers of a pickle are.
-- Source: own.
use Rattle.std.specs.Prelude.{ℕ, None, codes}
use Rattle.pickle_doc.specs.declared.fault.TailFault.{TailFault}
use Rattle.pickle_machine.specs.declared.refusal.Refusal.{Refusal}
use Rattle.pickle_ops.specs.Object.{Object}
use Rattle.pickle_json.specs.EndFields.{tail_fields}
use Rattle.json_lines.specs.Readable.{ReadsBackAs}
use Rattle.objects_json.specs.ObjectFields.{object_fields, object_line}
use Rattle.objects_json.specs.Objects.{result_fields, result_line, stopped_fields, stopped_line, item_refused_fields, refused_line, fault_line}

-- the line of an object, of a result, and the last one after a STOP, a refusal or a fault
pub record ObjectLinesReadBack : Type 0 where
  pub object : (id : ℕ) (o : Object) → ReadsBackAs (object_line id o) (codes "object") (object_fields id o)
  pub result : (id : ℕ) → ReadsBackAs (result_line id) (codes "result") (result_fields id)
  pub stopped : ReadsBackAs stopped_line (codes "end") stopped_fields
  pub refused : (place : ℕ) (r : Refusal) → ReadsBackAs (refused_line place r) (codes "end") (item_refused_fields place r)
  pub fault : (f : TailFault) (offset : ℕ) → ReadsBackAs (fault_line f offset) (codes "end") (tail_fields f offset None)
