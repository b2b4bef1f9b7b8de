use Rattle.std.proofs.Common.{◌≡◌, false, length}
use Rattle.pickle_doc.specs.Document.{Contents}
use Rattle.pickle_form.proofs.Going.{Going}
use Rattle.pickle_form.proofs.first.first_other.Given as goal

abbrev pub invariant-items : goal.invariant-items
invariant-items l = (l.reader.loose ≡ false) × ((d : Contents) × Going d l.fn.bytes l.reader.rest l.reader.left l.place l.offset l.form)

abbrev pub decreases-items : goal.decreases-items
decreases-items l = length l.reader.rest
