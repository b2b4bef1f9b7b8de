-- The lines so far are in the text.
use Rattle.std.proofs.Common.{◌≡◌, ℕ, List, map, take}
use Rattle.std.specs.List.{concat}
use Rattle.assembly_labels.specs.Labelled.{in_digits, ended}
use Rattle.assembly_labels.proofs.Lines.{seen}
use Rattle.assembly_labels.proofs.digits.digits_text.Given as goal

abbrev pub invariant-loop-line : goal.invariant-loop-line
invariant-loop-line l = l.text.items ≡ concat (map (λ (line : List ℕ). ended (in_digits (seen l.lines) line)) (seen (take l.line-index l.lines)))
