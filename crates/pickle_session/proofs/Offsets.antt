-- How many bytes spell the items before a place.
use Rattle.std.proofs.Common.{Bool, ◌≡◌, ℕ, zero, suc, ◌+◌, ◌≤◌, List, [], ◌∷◌, ◌++◌, length, take, slice_get, Some, refl, sym, ap, ◌∙◌, arith, subst, inl, inr, le-leb}
use Rattle.std.specs.List.{AllByRecursion}
use Rattle.pickle_ops.specs.Spelling.{Operation, size_of}
use Rattle.pickle_ops.specs.declared.opcode.Opcode.TheVariants as op
use Rattle.pickle_doc.specs.declared.item.Item.{Item}
use Rattle.pickle_doc.specs.Alike.{AreAlike, AgreeBefore}
use Rattle.pickle_doc.specs.DocUnit.{DocUnit, Loose, Frame, is_frame, item_size, sizes, flat, operations}
use Rattle.pickle_doc.specs.Document.{Contents, items_of, document_bytes, IsPlain, IsUnit, IsDocument, size_limit}
use Rattle.pickle_doc.specs.Place.{offset_of, offset_at}
use Rattle.pickle_doc.proofs.Units.{length_document}
use Rattle.pickle_doc.proofs.Opcodes.{frame_length}
use Rattle.pickle_session.specs.Session.{len_of}

-- ---- one item more

size_next : (xs : List Item) (k : ℕ) (o : Operation) → slice_get (operations xs) k ≡ Some o → sizes (take (suc k) xs) ≡ sizes (take k xs) + size_of o
size_next [] k o e = cc
size_next (x ∷ xs) zero o e =
    let same : x.op ≡ o = cc in
    omega (arith, ap (λ (p : Operation). size_of p) same)
size_next (x ∷ xs) (suc k) o e = omega (arith, size_next xs k o e)

pub size_more : (d : Contents) (k : ℕ) (o : Operation) → slice_get (operations (items_of d)) k ≡ Some o → offset_of d (k + 1) ≡ offset_of d k + size_of o
size_more d k o e = let same : k + 1 ≡ suc k = omega arith in rw same (size_next (items_of d) k o e)

sizes-front : (xs : List Item) (k : ℕ) → sizes (take k xs) ≤ sizes xs
sizes-front xs zero = omega arith
sizes-front [] (suc k) = omega arith
sizes-front (x ∷ xs) (suc k) = omega (arith, sizes-front xs k)

pub size_small : (d : Contents) (k : ℕ) → length (document_bytes d) ≤ size_limit → offset_of d k ≤ size_limit
size_small d k h = omega (arith, h, length_document d, sizes-front (items_of d) k)

pub offset_is : (d : Contents) (k : ℕ) → k ≤ len_of d → offset_at d k ≡ Some (offset_of d k)
offset_is d k h = rw (le-leb k (len_of d) h) refl

-- ---- a FRAME takes nine bytes, whatever its number

abbrev HasFrameSize : Item → Type 0
HasFrameSize i = i.op.opcode ≡ op.Frame → item_size i ≡ 9

plain_size : (loose : Bool) (i : Item) → IsPlain loose i → HasFrameSize i
plain_size loose i p = λ e.
    let long = frame_length i.op.opcode i.op.arg (ap is_frame e) p.spelled.arg in omega (arith, long)

member_sizes : (loose : Bool) (members items : List Item) → AllByRecursion (IsPlain loose) members → AllByRecursion HasFrameSize items → AllByRecursion HasFrameSize (members ++ items)
member_sizes loose [] items h r = r
member_sizes loose (i ∷ members) items h r = (plain_size loose i h.0, member_sizes loose members items h.1 r)

frame_sizes : (loose : Bool) (units : List DocUnit) → AllByRecursion (IsUnit loose) units → AllByRecursion HasFrameSize (flat units)
frame_sizes loose [] h = tt
frame_sizes loose (Loose i ∷ units) h = (plain_size loose i h.0, frame_sizes loose units h.1)
frame_sizes loose (Frame id members extra ∷ units) h = (λ e. refl, member_sizes loose members (flat units) h.0.0 (frame_sizes loose units h.1))

alike_size : (x y : Item) → AreAlike x.op y.op → HasFrameSize x → HasFrameSize y → item_size y ≡ item_size x
alike_size x y (inl e) a b = ap (λ (o : Operation). size_of o) (sym e)
alike_size x y (inr e) a b = b e.1 ∙ sym (a e.0)

-- ---- items that are alike take as many bytes

sizes-alike : (k : ℕ) (xs ys : List Item) → k ≤ length xs → AllByRecursion HasFrameSize xs → AllByRecursion HasFrameSize ys → AgreeBefore k xs ys → sizes (take k ys) ≡ sizes (take k xs)
sizes-alike zero xs ys h a b g = refl
sizes-alike (suc k) [] ys h a b g = absurd (omega arith)
sizes-alike (suc k) (x ∷ xs) [] h a b g = let y = g 0 x (omega arith) refl in let none = y.1 in absurd cc
sizes-alike (suc k) (x ∷ xs) (y ∷ ys) h a b g =
    let z = g 0 x (omega arith) refl in
    let first = z.1 in
    let same : z.0 ≡ y = cc in
    let one = alike_size x y (subst (λ (i : Item). AreAlike x.op i.op) same z.2) a.0 b.0 in
    omega (arith, one, sizes-alike k xs ys (omega (arith, h)) a.1 b.1 (λ i w l e. g (suc i) w (omega (arith, l)) e))

-- where documents agree before a place, what stands before it takes as many bytes
pub size_alike : (d e : Contents) (k place n : ℕ) → IsDocument d → IsDocument e → k ≤ len_of d → k ≤ place → AgreeBefore place (items_of d) (items_of e) → offset_of d k ≡ n → offset_of e k ≡ n
size_alike d e k place n is js h near g is_n =
    sizes-alike k (items_of d) (items_of e) h (frame_sizes d.loose d.units is.formed.units) (frame_sizes e.loose e.units js.formed.units) (λ i x l s. g i x (omega (arith, l, near)) s) ∙ is_n
