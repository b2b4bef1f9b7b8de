use Rattle.std.proofs.Common.{ℕ, Ok, refl, subst, sym}
use Rattle.archive_script.specs.SingleText.{Says}
use Rattle.archive_script.proofs.GateTexts.{says_wrote, says_broke}
use Rattle.gate_json.specs.GateLine.{IsFileLine, verdict_output}
use Rattle.gate_json.proofs.answer.write_file_line.Goals as goal

pub returns-in_err-write_verdict_line : goal.returns-in_err-write_verdict_line
returns-in_err-write_verdict_line g c =
    says_broke (IsFileLine c.args.list.now c.args.bytes.now) (verdict_output c.in_ok-judged.judged) _ _ _
    c.from_residual-in_err-write_verdict_line.ensures.1 (c.in_ok-judged.judged, c.in_ok-judged.ensures, refl) c.in_err-write_verdict_line.ensures

pub returns : goal.returns
returns g c =
    subst
    (λ (n : ℕ). Says (IsFileLine c.args.list.now c.args.bytes.now) (g.S.Sink.told c.args.page.now) (g.S.Sink.told c.write_verdict_line.new.page) (Ok n))
    (sym c.judged_status.ensures)
    (says_wrote (IsFileLine c.args.list.now c.args.bytes.now) (verdict_output c.in_ok-judged.judged) _ _
    (c.in_ok-judged.judged, c.in_ok-judged.ensures, refl) c.in_ok-write_verdict_line.ensures)
