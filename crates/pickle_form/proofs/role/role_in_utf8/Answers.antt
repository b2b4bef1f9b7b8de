use Rattle.std.proofs.Common.{sym, ◌∙◌}
use Rattle.pickle_form.proofs.Words.{word_role}
use Rattle.pickle_form.proofs.role.role_in_utf8.Goals as goal

pub returns-then-is_word : goal.returns-then-is_word
returns-then-is_word c = word_role c.args.text.now (sym c.is_word.ensures ∙ c.if-is_word.true)
