use Rattle.std.proofs.Common.{rules, tests}
use Rattle.std.proofs.lemmas.Iterator.Search.{all_from_yields_List}
use Rattle.std.proofs.lemmas.Iterator.Splits.{YieldsList-from_slice_split}
use Rattle.python_literals.specs.Names.{is_identifier as is_word}
use Rattle.source_literals.specs.Naming.{is_point}
use Rattle.source_literals.proofs.name.are_names.Goals as goal

pub returns : goal.returns
returns c =
    all_from_yields_List is_word _ _ _ c.all.ensures.ran
    (YieldsList-from_slice_split _ is_point c.args.bytes.now c.split.ensures.rest c.split.ensures.done c.split.ensures.closure (λ x r q k. search (rules, tests)))
    (λ x b q k. search (rules, tests))
