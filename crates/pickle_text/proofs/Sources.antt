-- Bytes give a document, and so do the items of one.
use Rattle.std.proofs.Common.{ℕ, ◌≤◌, Bool, List, length, refl}
use Rattle.pickle_doc.specs.Document.{Contents, document_bytes, AreBytes, IsReadAgain, size_limit}
use Rattle.pickle_doc.proofs.Existence.{some_document}
use Rattle.pickle_text.specs.Source.{GivesDocument}

pub bytes_give : (many loose : Bool) (bytes : List ℕ) → AreBytes bytes → length bytes ≤ size_limit → GivesDocument many (record { loose = loose; rest = bytes; left = 0 })
bytes_give many loose bytes are small = record { first = refl; small = small; document = some_document many loose bytes are }

pub items_give : (d : Contents) → IsReadAgain d → length (document_bytes d) ≤ size_limit → GivesDocument d.many (record { loose = d.loose; rest = document_bytes d; left = 0 })
items_give d again small = record { first = refl; small = small; document = (again.read, again.reads) }
