use Rattle.std.proofs.Common.{rules}
use Rattle.pickle_doc.proofs.Readers.{kept}
use Rattle.pickle_doc.proofs.Bookmarks.{first-bookmark}
use Rattle.pickle_doc.proofs.Existence.{reads}
use Rattle.pickle_doc.proofs.document.Document.read_in.Goals as goal

pub invariant_of-document : goal.invariant_of-document
invariant_of-document c = record {
  kept = rw c.in_ok-tail.ensures.items (kept c.args.bytes.now _ _ _ _ _ c.in_ok-items.ensures (search rules) (search rules) c.if-bytes-gt-LIMIT.false);
  bookmark = rw c.first.ensures (first-bookmark c.args.bytes.now _ _ _ c.in_ok-items.ensures c.if-bytes-gt-LIMIT.false);
}

pub returns-clause-read : goal.returns-clause-read
returns-clause-read c =
    rw (c.make_room.ensures.contents, c.in_ok-tail.ensures.items) (reads c.args.many c.args.loose c.args.bytes.now c.in_ok-items.field-0.items.items c.in_ok-items.field-0.tail.now c.in_ok-items.field-0.fault c.len-next.result c.in_ok-items.ensures (search rules))
