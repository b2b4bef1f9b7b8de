use Rattle.std.proofs.Common.{sym, ap, ◌∙◌, arith}
use Rattle.std.proofs.lemmas.List.{at_drop_all}
use Rattle.std.specs.List.{fold}
use Rattle.pickle_form.specs.declared.escape.RawText.{RawText}
use Rattle.pickle_form.specs.Escape.{raw_after, ends_plain}
use Rattle.pickle_form.proofs.Words.{no_slash_is_raw}
use Rattle.pickle_form.proofs.escape.is_raw_text.Goals as goal

pub returns : goal.returns
returns c =
    c.ends_plain.ensures
    ∙ ap (λ (s : RawText). ends_plain s.part) (sym (sym c.loop-byte.invariant ∙ at_drop_all (fold raw_after c.loop-byte.state) c.args.text.now c.loop-byte.byte-index (omega arith)))

pub returns-then-has_no_slash : goal.returns-then-has_no_slash
returns-then-has_no_slash c = no_slash_is_raw c.args.text.now (sym c.has_no_slash.ensures ∙ c.if-has_no_slash.true)
