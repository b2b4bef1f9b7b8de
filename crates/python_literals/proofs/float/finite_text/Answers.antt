use Rattle.python_literals.proofs.Floating.{plain_read}
use Rattle.python_literals.proofs.float.finite_text.Goals as goal

pub spelled-requires-clause-read : goal.spelled-requires-clause-read
spelled-requires-clause-read c =
    rw c.as_bytes-shown.ensures.value
    (rw c.f64_from_bits_with_nan.ensures at (plain_read c.format_finite.result.now c.f64_from_bits_with_nan.result c.format_finite.ensures.plain c.format_finite.ensures.parses))

pub returns-then-is_own : goal.returns-then-is_own
returns-then-is_own c =
    rw (c.kept.ensures, c.as_bytes-shown.ensures.value)
    (rw c.f64_from_bits_with_nan.ensures at (plain_read c.format_finite.result.now c.f64_from_bits_with_nan.result c.format_finite.ensures.plain c.format_finite.ensures.parses))
