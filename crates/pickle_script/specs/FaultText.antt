-- Why a document ends, and why bytes are no opcode, in words. The words of the faults of a tail are `pickle_text`'s.
-- Source: own.
use Rattle.std.specs.Prelude.{ℕ, List, codes}
use Rattle.pickle_ops.specs.declared.fault.OpFault.{OpFault}
use Rattle.pickle_ops.specs.declared.fault.OpFault.TheVariants as fault
use Rattle.pickle_doc.specs.declared.fault.TailFault.TheVariants as tail
use Rattle.pickle_doc.specs.declared.fault.End.{End}
use Rattle.pickle_doc.specs.declared.fault.End.TheVariants as end
use Rattle.pickle_text.specs.ReportLine.{fault_text, fault_at}

-- why a document ends, and the offset of a tail with a fault
unfoldable pub end_text : End → List ℕ
end_text end.Stopped = codes "stopped"
end_text (end.Fault f offset) = fault_at f offset

-- faults of an opcode: those that a tail has too are printed likewise
unfoldable pub op_fault_text : OpFault → List ℕ
op_fault_text (fault.Front f) = fault_text (tail.Front f)
op_fault_text fault.TooLong = codes "F9 too long"
op_fault_text fault.Memory = codes "M out of memory"
