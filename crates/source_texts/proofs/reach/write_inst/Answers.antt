use Rattle.source_texts.specs.Reach.{inst_words}
use Rattle.std.proofs.Common.{arith}
use Rattle.pickle_io.proofs.Devices.{text_steps}
use Rattle.source_texts.proofs.reach.write_inst.Goals as goal

pub returns-in_err-write_import : goal.returns-in_err-write_import
unfolding inst_words
returns-in_err-write_import g c = grind (arith, text_steps)

pub returns-in_err-write_all : goal.returns-in_err-write_all
unfolding inst_words
returns-in_err-write_all g c = grind (arith, text_steps)

pub returns-in_err-write_assignment : goal.returns-in_err-write_assignment
unfolding inst_words
returns-in_err-write_assignment g c = grind (arith, text_steps)

pub returns : goal.returns
unfolding inst_words
returns g c = grind (arith, text_steps)
