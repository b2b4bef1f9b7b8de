use Rattle.std.proofs.Common.{ℕ, suc, Option, sym, ap, ◌∙◌, arith, ◌+◌, Some, ◌≡◌}
use Rattle.std.specs.Option.{option_map}
use Rattle.assembly_labels.specs.Labels.{is_counting}
use Rattle.assembly_labels.proofs.Lines.{first_at, none_at, none_more}
use Rattle.assembly_labels.proofs.labelled.counting_line.Goals as goal

pub returns-then-is_counting : goal.returns-then-is_counting
returns-then-is_counting c =
    let next : c.loop-place.place + 1 ≡ suc c.loop-place.place = omega arith in
    ap Some next
    ∙ sym (ap (λ (o : Option ℕ). option_map (λ (n : ℕ). suc n) o) (first_at is_counting c.args.lines.now c.loop-place.place _ c.loop-place-test.true c.loop-place.invariant (sym c.is_counting.ensures ∙ c.if-is_counting.true)))

pub loop-place-preserved : goal.loop-place-preserved
loop-place-preserved c = none_more is_counting c.args.lines.now c.loop-place.place _ c.loop-place-test.true c.loop-place.invariant (sym c.is_counting.ensures ∙ c.if-is_counting.false)

pub returns : goal.returns
returns c = sym (ap (λ (o : Option ℕ). option_map (λ (n : ℕ). suc n) o) (none_at is_counting c.args.lines.now c.loop-place.place c.loop-place-test.false c.loop-place.invariant))
