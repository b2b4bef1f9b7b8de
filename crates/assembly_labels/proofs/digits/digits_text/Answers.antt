use Rattle.std.proofs.Common.{ℕ, List}
use Rattle.assembly_labels.specs.Labelled.{in_digits, ended}
use Rattle.assembly_labels.proofs.Lines.{seen, text_more}
use Rattle.assembly_labels.proofs.digits.digits_text.Goals as goal

pub loop-line-preserved : goal.loop-line-preserved
loop-line-preserved c =
    text_more (λ (line : List ℕ). ended (in_digits (seen c.args.lines.now) line)) c.args.lines.now c.loop-line.line-index _ _ _ c.loop-line-test.true c.loop-line.invariant
    (c.in_ok-put_line.ensures (seen c.args.lines.now) c.requires)
