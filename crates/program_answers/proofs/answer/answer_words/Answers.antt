use Rattle.std.proofs.Common.{inl, inr, refl}
use Rattle.program_answers.proofs.answer.answer_words.Goals as goal

pub returns-in-Ok : goal.returns-in-Ok
returns-in-Ok g c = inl (record {
  task = c.in-Ok.task;
  taken = c.in-Ok.ensures.taken;
  named = c.in-Ok.ensures.named;
  result = c.carry_out-answer.result;
  does = c.carry_out-answer.ensures.does;
  closes = c.close.ensures;
})

pub returns-in-Err : goal.returns-in-Err
returns-in-Err g c = inr (
  record {
    status_is = c.report_usage.ensures.status;
    usage = c.in-Err.usage;
    why = c.in-Err.ensures.refuses;
    memory = c.report_usage.ensures.memory;
  },
  record { unsaved = refl; unread = refl; unwritten = refl },
)
