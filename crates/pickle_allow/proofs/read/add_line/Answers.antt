use Rattle.std.proofs.Common.{[], ◌∷◌, map, sym, ap, ◌∙◌}
use Rattle.std.proofs.lemmas.List.{map_push}
use Rattle.pickle_allow.specs.Grammar.{entry_row}
use Rattle.pickle_allow.proofs.read.add_line.Goals as goal

pub returns-in_ok-push-in-Entry : goal.returns-in_ok-push-in-Entry
returns-in_ok-push-in-Entry c =
    (entry_row c.in-Entry.entry ∷ [], sym c.in-Entry.ensures, ap (map entry_row) c.in_ok-push-in-Entry.ensures.items ∙ map_push entry_row c.args.entries.now.items c.in-Entry.entry)
