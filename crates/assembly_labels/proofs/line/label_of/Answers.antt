use Rattle.std.proofs.Common.{sym, ◌∙◌}
use Rattle.assembly_labels.proofs.Lookups.{quick_none}
use Rattle.assembly_labels.proofs.line.label_of.Goals as goal

pub returns-then-not-may_have_label : goal.returns-then-not-may_have_label
returns-then-not-may_have_label c = sym (quick_none c.args.line.now (sym c.may_have_label.ensures ∙ c.if-not-may_have_label.true))
