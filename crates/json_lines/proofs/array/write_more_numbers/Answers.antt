-- One number more, or an end.
use Rattle.pickle_io.proofs.Devices.{each-none, each-next, each-stopped, each-all, Writes-stop}
use Rattle.json_lines.specs.Line.{next_number}
use Rattle.json_lines.proofs.array.write_more_numbers.Goals as goal

pub loop-number-init : goal.loop-number-init
loop-number-init g c = each-none next_number _

pub returns-in_err-write_next_number : goal.returns-in_err-write_next_number
returns-in_err-write_next_number g c =
    Writes-stop _ _ c.from_residual.result c.from_residual.result _ c.from_residual.ensures.0
    (each-stopped next_number _ _ _ _ c.loop-number.number-index 0 c.loop-number-test.true c.in_err-write_next_number.ensures c.loop-number.invariant)

pub loop-number-preserved : goal.loop-number-preserved
loop-number-preserved g c = each-next next_number _ _ _ _ c.loop-number.number-index 0 c.loop-number-test.true c.in_ok-write_next_number.ensures c.loop-number.invariant

pub returns : goal.returns
returns g c = each-all next_number _ _ _ c.loop-number.number-index c.loop-number-test.false c.loop-number.invariant
