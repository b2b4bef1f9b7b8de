use Rattle.std.proofs.Common.{refl}
use Rattle.pickle_io.proofs.Devices.{Wrote-none}
use Rattle.program_answers.proofs.AtDevice.{answers_lines, last_lines_unwritten}
use Rattle.program_answers.proofs.answers.answer_lines.Goals as goal

pub returns-clause-answers : goal.returns-clause-answers
returns-clause-answers g c =
    let h = c.write_out.ensures in
    answers_lines _ _ _ _ _ _ _ _ _ _ _ _ _ _ _ _ _ c.in_ok-bytes.ensures.whole (c.in_ok-bytes.ensures.calm (λ e. absurd cc)) c.as_slice.ensures.value c.write_lines-written.ensures
    h.passed h.calm h.untouched h.failed refl refl c.requires.handed h.handed

pub returns-in_err-bytes-clause-last : goal.returns-in_err-bytes-clause-last
returns-in_err-bytes-clause-last g c = λ last memory. Wrote-none _

pub returns-clause-last : goal.returns-clause-last
returns-clause-last g c =
    let h = c.write_out.ensures in
    last_lines_unwritten _ _ _ _ _ _ _ c.write_out.new.sink _ _ _ _ _ _ c.write_lines-written.ensures h.passed h.calm refl refl c.requires.handed h.handed
