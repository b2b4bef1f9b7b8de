use Rattle.std.proofs.Common.{◌∙◌, sym}
use Rattle.pickle_lenient.proofs.Behind.{begin_ok, begin_err}
use Rattle.pickle_lenient.proofs.buffer.read_joined.Goals as goal

pub returns-then-ends_in-clause-ok : goal.returns-then-ends_in-clause-ok
returns-then-ends_in-clause-ok c =
    begin_ok c.args.first.now c.args.behind.now c.as_slice-begin.result.now c.args.enough c.read_lenient.result (c.as_slice-begin.ensures.value ∙ c.in_ok-some.ensures) (sym c.ends_in.ensures ∙ c.if-ends_in.true) c.read_lenient.ensures.ok

pub returns-then-ends_in-clause-err : goal.returns-then-ends_in-clause-err
returns-then-ends_in-clause-err c =
    begin_err c.args.first.now c.args.behind.now c.as_slice-begin.result.now c.args.enough c.read_lenient.result (c.as_slice-begin.ensures.value ∙ c.in_ok-some.ensures) (sym c.ends_in.ensures ∙ c.if-ends_in.true) c.read_lenient.ensures.err
