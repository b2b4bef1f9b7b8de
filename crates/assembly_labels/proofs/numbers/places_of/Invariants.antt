-- The labels of the lines so far are noted.
use Rattle.std.proofs.Common.{take}
use Rattle.assembly_labels.specs.Labels.{labels_of}
use Rattle.assembly_labels.specs.Numbering.{IsNumbering}
use Rattle.assembly_labels.proofs.Lines.{seen}
use Rattle.assembly_labels.proofs.numbers.places_of.Given as goal

abbrev pub invariant-loop-line : goal.invariant-loop-line
invariant-loop-line l = IsNumbering (labels_of (seen (take l.line-index l.lines))) l.places
