use Rattle.std.proofs.Common.{refl}
use Rattle.program_answers.proofs.AtDevice.{answers_calls_text}
use Rattle.program_answers.proofs.answers.answer_calls_text.Goals as goal

pub returns-clause-answers : goal.returns-clause-answers
returns-clause-answers g c =
    let h = c.write_out.ensures in
    answers_calls_text _ c.args.options.now _ _ _ _ _ _ _ _ _ _ _ _ _ c.in_ok-bytes.ensures.whole (c.in_ok-bytes.ensures.calm (λ e. absurd cc)) c.as_mut_slice-file.ensures.value c.calls_of_file-written.ensures
    h.passed h.calm h.untouched h.failed refl refl c.requires.handed h.handed
