-- What is known of the items of a document: they are spelled, of bytes, and stand within 2^64.
use Rattle.std.proofs.Common.{◌≡◌, ℕ, zero, suc, ◌+◌, ◌<◌, ◌≤◌, ◌^◌, Bool, List, [], ◌∷◌, ◌++◌, length, take, slice_get, Some, None, refl, sym, ap, subst, ◌∙◌, arith, append_assoc, append-nil, length-append}
use Rattle.std.specs.List.{AllByRecursion}
use Rattle.pickle_ops.specs.Spelling.{Operation, IsSpelled, spelling}
use Rattle.pickle_doc.specs.declared.item.Item.{Item}
use Rattle.pickle_doc.specs.DocUnit.{DocUnit, Loose, Frame, sizes, frame_op, flat, operations, bytes_of}
use Rattle.pickle_doc.specs.Document.{Contents, IsPlain, IsUnit, items_of, AreBytes, ReadsIn}
use Rattle.pickle_doc.specs.Place.{ops_of, item_at, offset_of}

-- ---- spelled

abbrev Spelled : Item → Type 0
Spelled i = IsSpelled i.op

then_all : (xs ys : List Item) → AllByRecursion Spelled xs → AllByRecursion Spelled ys → AllByRecursion Spelled (xs ++ ys)
then_all [] ys p q = q
then_all (x ∷ xs) ys p q = (p.0, then_all xs ys p.1 q)

members_spelled : (loose : Bool) (xs : List Item) → AllByRecursion (IsPlain loose) xs → AllByRecursion Spelled xs
members_spelled loose [] p = tt
members_spelled loose (x ∷ xs) p = (p.0.spelled, members_spelled loose xs p.1)

frame_spelled : (number : ℕ) → IsSpelled (frame_op number)
frame_spelled number = record { arg = refl; value = refl }

units_spelled : (loose : Bool) (units : List DocUnit) → AllByRecursion (IsUnit loose) units → AllByRecursion Spelled (flat units)
units_spelled loose [] p = tt
units_spelled loose (Loose item ∷ units) p = (p.0.spelled, units_spelled loose units p.1)
units_spelled loose (Frame id members extra ∷ units) p =
    (frame_spelled (sizes members + extra), then_all members (flat units) (members_spelled loose members p.0.0) (units_spelled loose units p.1))

spelled_at : (items : List Item) (k : ℕ) (o : Operation) → AllByRecursion Spelled items → slice_get (operations items) k ≡ Some o → IsSpelled o
spelled_at [] k o p e = absurd cc
spelled_at (i ∷ items) zero o p e = let same : i.op ≡ o = cc in subst IsSpelled same p.0
spelled_at (i ∷ items) (suc k) o p e = spelled_at items k o p.1 e

-- ---- bytes

first_bytes : (a b : List ℕ) → AreBytes (a ++ b) → AreBytes a
first_bytes [] b h i = omega arith
first_bytes (x ∷ a) b h zero = h 0
first_bytes (x ∷ a) b h (suc i) = first_bytes a b (λ k. h (suc k)) i

second_bytes : (a b : List ℕ) → AreBytes (a ++ b) → AreBytes b
second_bytes [] b h = h
second_bytes (x ∷ a) b h = second_bytes a b (λ k. h (suc k))

bytes_at : (ops : List Operation) (k : ℕ) (o : Operation) → AreBytes (bytes_of ops) → slice_get ops k ≡ Some o → AreBytes o.arg
bytes_at [] k o h e = absurd cc
bytes_at (p ∷ ops) zero o h e =
    let same : p ≡ o = cc in
    let spelled : AreBytes (spelling p) = first_bytes (spelling p) (bytes_of ops) h in
    subst (λ (q : Operation). AreBytes q.arg) same (λ i. spelled (suc i))
bytes_at (p ∷ ops) (suc k) o h e = bytes_at ops k o (second_bytes (spelling p) (bytes_of ops) h) e

-- ---- offsets

sizes_are : (items : List Item) → sizes items ≡ length (bytes_of (operations items))
sizes_are [] = refl
sizes_are (i ∷ items) =
    let rest = sizes_are items in
    omega (arith, rest, length-append (spelling i.op) (bytes_of (operations items)))

sizes_within : (k : ℕ) (items : List Item) → sizes (take k items) ≤ sizes items
sizes_within zero items = omega arith
sizes_within (suc k) [] = omega arith
sizes_within (suc k) (i ∷ items) = omega (arith, sizes_within k items)

-- ---- a document

pub record IsKnown (d : Contents) : Type 0 where
  pub spelled : (k : ℕ) (o : Operation) → item_at d k ≡ Some o → IsSpelled o
  pub bytes : (k : ℕ) (o : Operation) → item_at d k ≡ Some o → AreBytes o.arg
  pub offset : (k : ℕ) → offset_of d k < 2 ^ 64

pub known : (many loose : Bool) (bytes : List ℕ) (d : Contents) → AreBytes bytes → length bytes < 2 ^ 64 → ReadsIn many loose bytes d → IsKnown d
known many loose bytes d h l r =
    let whole : AreBytes (bytes_of (ops_of d) ++ d.tail) = subst AreBytes (sym r.whole) h in
    let size : length (bytes_of (ops_of d) ++ d.tail) ≡ length bytes = ap length r.whole in
    record {
      spelled = λ k o e. spelled_at (items_of d) k o (units_spelled d.loose d.units r.document.formed.units) e;
      bytes = λ k o e. bytes_at (ops_of d) k o (first_bytes (bytes_of (ops_of d)) d.tail whole) e;
      offset = λ k. omega (arith, l, size, sizes_within k (items_of d), sizes_are (items_of d), length-append (bytes_of (ops_of d)) d.tail);
    }

-- ---- the first items

pub bytes_next : (ops : List Operation) (k : ℕ) (o : Operation) → slice_get ops k ≡ Some o → bytes_of (take (suc k) ops) ≡ bytes_of (take k ops) ++ spelling o
bytes_next [] k o e = absurd cc
bytes_next (p ∷ ops) zero o e = let same : p ≡ o = cc in append-nil (spelling p) ∙ ap spelling same
bytes_next (p ∷ ops) (suc k) o e = ap (λ (x : List ℕ). spelling p ++ x) (bytes_next ops k o e) ∙ sym (append_assoc (spelling p) (bytes_of (take k ops)) (spelling o))

pub all_taken : (ops : List Operation) (k : ℕ) → slice_get ops k ≡ None → take k ops ≡ ops
all_taken [] zero e = refl
all_taken [] (suc k) e = refl
all_taken (p ∷ ops) zero e = absurd cc
all_taken (p ∷ ops) (suc k) e = ap (λ (x : List Operation). p ∷ x) (all_taken ops k e)
