use Rattle.std.proofs.Common.{ℕ, Ok, subst, sym}
use Rattle.archive_script.specs.SingleText.{Says}
use Rattle.archive_script.specs.GateText.{IsNamedText, judged_output, named_output}
use Rattle.archive_script.proofs.GateTexts.{named_is, says_wrote, says_broke}
use Rattle.archive_script.proofs.gate.write_named_file.Goals as goal

pub returns-in_err-write_named : goal.returns-in_err-write_named
returns-in_err-write_named g c =
    says_broke (IsNamedText c.args.name.now c.args.list.now c.args.bytes.now) (named_output c.args.name.now (judged_output c.in_ok-judged.judged)) _ _ _
    c.from_residual-in_err-write_named.ensures.1
    (named_is c.args.name.now c.args.list.now c.args.bytes.now (judged_output c.in_ok-judged.judged) c.in_ok-judged.ensures) c.in_err-write_named.ensures

pub returns : goal.returns
returns g c =
    subst
    (λ (n : ℕ). Says (IsNamedText c.args.name.now c.args.list.now c.args.bytes.now) (g.S.Sink.told c.args.page.now) (g.S.Sink.told c.write_named.new.page) (Ok n))
    (sym c.judged_status.ensures)
    (says_wrote (IsNamedText c.args.name.now c.args.list.now c.args.bytes.now) (named_output c.args.name.now (judged_output c.in_ok-judged.judged)) _ _
    (named_is c.args.name.now c.args.list.now c.args.bytes.now (judged_output c.in_ok-judged.judged) c.in_ok-judged.ensures) c.in_ok-write_named.ensures)
