use Rattle.pickle_allow.proofs.NoImports.{no_word}
use Rattle.pickle_allow.proofs.laws.no_word_is_an_import.Goals as goal

pub returns : goal.returns
returns c = no_word
