use Rattle.std.proofs.Common.{◌∙◌, length-set, ap, arith}
use Rattle.zip_archive.specs.Checksum.{byte_behind}
use Rattle.zip_archive.proofs.Steps.{first_row, next_row, filled_more}
use Rattle.zip_archive.proofs.checksum.table.Goals as goal

pub loop-place-preserved : goal.loop-place-preserved
loop-place-preserved c = (
  length-set c.loop-place.entries c.loop-place.place c.byte_behind.result ∙ c.loop-place.invariant.0,
  filled_more c.loop-place.entries c.loop-place.place c.byte_behind.result (omega arith) c.loop-place.invariant.1 (c.byte_behind.ensures ∙ first_row c.loop-place.place (omega arith)),
)

pub loop-place-2-preserved : goal.loop-place-2-preserved
loop-place-2-preserved c = (
  length-set c.loop-place-2.entries c.loop-place-2.place c.byte_behind-in-loop-place-2.result ∙ c.loop-place-2.invariant.0,
  filled_more c.loop-place-2.entries c.loop-place-2.place c.byte_behind-in-loop-place-2.result (omega arith) c.loop-place-2.invariant.1
      (c.byte_behind-in-loop-place-2.ensures ∙ ap (λ n. byte_behind n 0) (c.loop-place-2.invariant.1 _ (omega arith)) ∙ next_row c.loop-place-2.place (omega arith)),
)

pub returns : goal.returns
returns c = record { wide = c.loop-place-2.invariant.0; each = λ k below. c.loop-place-2.invariant.1 k (omega arith) }
