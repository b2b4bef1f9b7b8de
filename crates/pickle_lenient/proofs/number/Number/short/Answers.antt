-- Where a digit more is too many, so is the whole.
use Rattle.std.proofs.Common.{◌≡◌, ap, ◌∙◌}
use Rattle.pickle_lenient.specs.Number.{value_of}
use Rattle.pickle_lenient.proofs.Numbers.{too_many}
use Rattle.pickle_lenient.proofs.number.Number.short.Goals as goal

pub returns-in-None-clause-none : goal.returns-in-None-clause-none
returns-in-None-clause-none c =
    let all : value_of c.as_slice-d-items.result.now ≡ c.args.self.now = ap value_of c.as_slice-d-items.ensures.value ∙ c.self.view_is in
    λ e. too_many c.loop-d.number c.loop-d.d-index c.as_slice-d-items.result.now c.args.self.now c.loop-d-test.true (c.loop-d.invariant.1 ∙ all) (c.with_digit.ensures.none c.in-None.is)
