use Rattle.program_answers.proofs.members.write_answer.Goals as goal

pub returns-in-Text : goal.returns-in-Text
returns-in-Text g c = rw c.in-Text.is (record { whole = c.write_members.ensures.whole; stopped = c.write_members.ensures.stopped; fits = c.write_members.ensures.fits })
