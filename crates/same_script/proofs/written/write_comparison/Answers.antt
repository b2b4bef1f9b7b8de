use Rattle.std.proofs.Common.{ℕ, Ok, refl, subst, sym}
use Rattle.archive_script.specs.SingleText.{Says}
use Rattle.archive_script.proofs.GateTexts.{says_wrote, says_broke}
use Rattle.same_script.specs.SameText.{comparison_output, IsSameText}
use Rattle.same_script.proofs.written.write_comparison.Goals as goal

pub returns-in_err-write_compared : goal.returns-in_err-write_compared
returns-in_err-write_compared g c =
    says_broke (IsSameText c.args.many c.args.one.now c.args.other.now) (comparison_output c.in_ok-compared.compared) _ _ _ c.from_residual-in_err-write_compared.ensures.1
    (record { compared = c.in_ok-compared.compared; compares = c.in_ok-compared.ensures; text_is = refl }) c.in_err-write_compared.ensures

pub returns : goal.returns
returns g c =
    subst (λ (n : ℕ). Says (IsSameText c.args.many c.args.one.now c.args.other.now) (g.S.Sink.told c.args.page.now) (g.S.Sink.told c.write_compared.new.page) (Ok n))
    (sym c.status_of.ensures)
    (says_wrote (IsSameText c.args.many c.args.one.now c.args.other.now) (comparison_output c.in_ok-compared.compared) _ _
    (record { compared = c.in_ok-compared.compared; compares = c.in_ok-compared.ensures; text_is = refl }) c.in_ok-write_compared.ensures)
