use Rattle.std.proofs.Common.{sym}
use mir.Facts.{to_z-of_z}
use Rattle.python_literals.proofs.Numerals.{int_is, int_fits}
use Rattle.python_literals.proofs.int.write_int.Goals as goal

pub returns-clause-text : goal.returns-clause-text
returns-clause-text g c =
    rw (sym (int_is c.args.number (int_fits c.args.number c.ranges.number))) (simp (to_z-of_z c.ranges.number) at c.write_signed.ensures.text)
