use Rattle.std.proofs.Common.{◌-◌, arith, ap, ◌∙◌}
use Rattle.pickle_doc.specs.DocUnit.{is_stop}
use Rattle.pickle_doc.proofs.Ends.{last_at}
use Rattle.pickle_doc.proofs.next.ends_with_stop.Goals as goal

pub returns : goal.returns
returns c =
    c.is_stop.ensures ∙ ap is_stop c.opcode.ensures
    ∙ last_at c.args.items.now.items c.at.result.now (c.len-len.result - 1) (omega (arith, c.len-len.ensures, c.if-len-eq0.false)) c.at.ensures
