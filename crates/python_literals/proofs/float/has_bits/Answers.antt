use Rattle.std.proofs.Common.{sym, ap, ◌∙◌}
use Rattle.std.specs.Bool.{passes}
use Rattle.std.proofs.lemmas.Bool.{eqb-true}
use lib.Ieee.{binary64, of_bits}
use lib.Ieee.Bits.{of_bits-to_bits}
use Rattle.python_literals.proofs.float.has_bits.Goals as goal

pub returns : goal.returns
returns c = λ e.
    sym (of_bits-to_bits binary64 c.args.number (passes _ c.well_formed.0.1)) ∙ ap (of_bits binary64) (sym c.f64_to_bits_with_nan.ensures ∙ eqb-true _ _ e)
