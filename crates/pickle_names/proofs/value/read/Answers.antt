-- What stands for itself is what it is read as.
use Rattle.std.proofs.Common.{◌∙◌, sym, ap}
use Rattle.std.specs.List.{list_all}
use Rattle.pickle_names.specs.Coding.{is_plain}
use Rattle.pickle_names.proofs.Plain.{plain_reading}
use Rattle.pickle_names.proofs.value.read.Goals as goal

pub returns-then-are_plain : goal.returns-then-are_plain
returns-then-are_plain c =
    rw c.saturating_sub.ensures
    (plain_reading c.args.coding c.args.most c.args.bytes.now (ap (list_all is_plain) (sym c.front.ensures) ∙ sym c.are_plain.ensures ∙ c.if-are_plain.true))
