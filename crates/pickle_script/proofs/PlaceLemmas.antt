-- Names, and the offsets that are carried along from item to item.
use Rattle.std.proofs.Common.{◌≡◌, ℕ, zero, suc, ◌+◌, ◌≤◌, ◌<◌, ◌^◌, true, false, List, [], ◌∷◌, length, take, drop, slice_get, codes, Option, None, Some, refl, ap, arith}
use Rattle.std.specs.Prelude.{is_some, unwrap_or}
use Rattle.std.proofs.lemmas.List.{take-append-drop}
use Rattle.pickle_ops.specs.Spelling.{Operation, size_of}
use Rattle.pickle_io.specs.Text.{◌⧺◌}
use Rattle.pickle_doc.specs.declared.item.Item.{Item}
use Rattle.pickle_doc.specs.DocUnit.{sizes, operations}
use Rattle.pickle_doc.specs.Document.{Contents, items_of, document_bytes, size_limit}
use Rattle.pickle_doc.specs.Place.{item_at, offset_of}
use Rattle.pickle_doc.proofs.Units.{sizes-append, length_document}
use Rattle.pickle_script.specs.PlaceText.{behind_name}

-- ---- names

pub named_some : (name : List ℕ) (arg : Option (List ℕ)) → is_some arg ≡ true → behind_name name arg ≡ name ⧺ codes " " ⧺ unwrap_or arg []
named_some name (Some text) h = refl
named_some name None h = cc

pub named_none : (name : List ℕ) (arg : Option (List ℕ)) → is_some arg ≡ false → behind_name name arg ≡ name
named_none name None h = refl
named_none name (Some text) h = cc

pub ruleset name_steps = (named_some, named_none)

-- ---- offsets

sizes-next : (items : List Item) (k : ℕ) (o : Operation) → slice_get (operations items) k ≡ Some o → sizes (take (suc k) items) ≡ sizes (take k items) + size_of o
sizes-next [] k o e = absurd cc
sizes-next (i ∷ items) zero o e = let same : i.op ≡ o = cc in omega (arith, ap size_of same)
sizes-next (i ∷ items) (suc k) o e = omega (arith, sizes-next items k o e)

sizes-past : (items : List Item) (k : ℕ) → slice_get (operations items) k ≡ None → sizes (take (suc k) items) ≡ sizes (take k items)
sizes-past [] zero e = refl
sizes-past [] (suc k) e = refl
sizes-past (i ∷ items) zero e = absurd cc
sizes-past (i ∷ items) (suc k) e = omega (arith, sizes-past items k e)

one_more : (d : Contents) (k : ℕ) → offset_of d (k + 1) ≡ offset_of d (suc k)
one_more d k = let e : k + 1 ≡ suc k = omega arith in ap (offset_of d) e

-- the offset after an item
pub offset_behind : (d : Contents) (k offset : ℕ) (o : Operation) → item_at d k ≡ Some o → offset ≡ offset_of d k → offset + size_of o ≡ offset_of d (k + 1)
offset_behind d k offset o e is = omega (arith, one_more d k, sizes-next (items_of d) k o e, is)

-- where there is no item, no offset rises
pub offset_stays : (d : Contents) (k offset : ℕ) → item_at d k ≡ None → offset ≡ offset_of d k → offset ≡ offset_of d (k + 1)
offset_stays d k offset e is = omega (arith, one_more d k, sizes-past (items_of d) k e, is)

pub ruleset offset_steps = (offset_behind, offset_stays)

-- each offset is one of the document's bytes
pub offset_within : (d : Contents) (k : ℕ) → offset_of d k ≤ length (document_bytes d)
offset_within d k =
    omega (arith, sizes-append (take k (items_of d)) (drop k (items_of d)), ap sizes (take-append-drop k (items_of d)), length_document d)

-- it has 64 bits
pub offset_fits : (d : Contents) (k offset : ℕ) (o : Operation) → length (document_bytes d) ≤ size_limit → item_at d k ≡ Some o → offset ≡ offset_of d k → offset + size_of o < 2 ^ 64
offset_fits d k offset o small e is = omega (arith, offset_behind d k offset o e is, offset_within d (k + 1), small)
