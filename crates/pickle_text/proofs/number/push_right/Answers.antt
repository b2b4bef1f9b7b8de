use Rattle.std.proofs.Common.{arith}
use Rattle.pickle_io.proofs.Devices.{Wrote-then}
use Rattle.pickle_io.proofs.Numbers.{digits_sliced}
use Rattle.pickle_text.proofs.Spaces.{right_there}
use Rattle.pickle_text.proofs.number.push_right.Goals as goal

pub returns-clause-text : goal.returns-clause-text
returns-clause-text g c =
    let w = c.write_digits-start.ensures in
    rw (← right_there c.args.number c.write_digits-start.result c.saturating_sub.result w.start c.saturating_sub.ensures)
    (Wrote-then _ _ _ _ _ (digits_sliced _ _ c.args.number c.write_digits-start.result _ _ _ w.start w.written c.push_front.ensures.text (omega arith)) c.push_blanks.ensures.text)
