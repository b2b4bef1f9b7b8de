use Rattle.std.proofs.Common.{ℕ, Ok, refl, subst, sym}
use Rattle.archive_script.specs.SingleText.{Says}
use Rattle.archive_script.proofs.GateTexts.{says_wrote, says_broke}
use Rattle.same_script.specs.SameFields.{compared_output, IsSameLine}
use Rattle.same_script.proofs.line.write_comparison_line.Goals as goal

pub returns-in_err-write_compared_line : goal.returns-in_err-write_compared_line
returns-in_err-write_compared_line g c =
    says_broke (IsSameLine c.args.many c.args.one.now c.args.other.now) (compared_output c.in_ok-compared.compared) _ _ _ c.from_residual-in_err-write_compared_line.ensures.1
    (record { compared = c.in_ok-compared.compared; compares = c.in_ok-compared.ensures; line_is = refl }) c.in_err-write_compared_line.ensures

pub returns : goal.returns
returns g c =
    subst (λ (n : ℕ). Says (IsSameLine c.args.many c.args.one.now c.args.other.now) (g.S.Sink.told c.args.page.now) (g.S.Sink.told c.write_compared_line.new.page) (Ok n))
    (sym c.status_of.ensures)
    (says_wrote (IsSameLine c.args.many c.args.one.now c.args.other.now) (compared_output c.in_ok-compared.compared) _ _
    (record { compared = c.in_ok-compared.compared; compares = c.in_ok-compared.ensures; line_is = refl }) c.in_ok-write_compared_line.ensures)
