use Rattle.std.proofs.Common.{refl}
use Rattle.pickle_doc.proofs.Readers.{inside}
use Rattle.pickle_doc.proofs.Deletions.{known}
use Rattle.pickle_doc.proofs.document.Document.go_to.Goals as goal

pub returns-then-k-len-clause-document : goal.returns-then-k-len-clause-document
returns-then-k-len-clause-document c = (known _ _ _ _ _ _ (inside c.self.view_is) c.self.invariant.kept).document

pub returns-then-k-len-clause-small : goal.returns-then-k-len-clause-small
returns-then-k-len-clause-small c = (known _ _ _ _ _ _ (inside c.self.view_is) c.self.invariant.kept).small

pub returns-clause-document : goal.returns-clause-document
returns-clause-document c = (known _ _ _ _ _ _ refl c.self.invariant.kept).document

pub returns-clause-small : goal.returns-clause-small
returns-clause-small c = (known _ _ _ _ _ _ refl c.self.invariant.kept).small
