use Rattle.std.proofs.Common.{arith}
use Rattle.pickle_doc.proofs.Deletions.{sound}
use Rattle.session_laws.proofs.Shown.{made_shows}
use Rattle.session_laws.proofs.laws.edit_and_lines.Goals as goal

pub returns : goal.returns
returns c =
    let old = c.args.document.now.contents in
    made_shows c.apply.result c.args.edit old c.apply.new.self.contents c.requires (sound old c.total-total.ensures.document (omega (arith, c.total-total.ensures.value, c.total-total.ensures.within)))
    c.apply.ensures.ok c.apply.ensures.document c.apply.ensures.small c.apply.ensures.place c.apply.ensures.back
