-- Offsets, and the sizes between them.
use Rattle.std.proofs.Common.{◌≡◌, ◌∙◌, ℕ, ◌+◌, ◌<◌, ◌≤◌, ◌^◌, length, None, Some, refl, ap, arith}
use Rattle.std.specs.Prelude.{min}
use Rattle.std.proofs.lemmas.List.{take_min, length-map}
use Rattle.std.proofs.lemmas.Option.{slice_get_past}
use Rattle.pickle_doc.specs.declared.item.Item.{Item}
use Rattle.pickle_ops.specs.Spelling.{Operation, size_of}
use Rattle.pickle_doc.specs.DocUnit.{sizes}
use Rattle.pickle_doc.specs.Document.{Contents, items_of, document_bytes, size_limit}
use Rattle.pickle_doc.specs.Place.{ops_of, item_at, offset_of}
use Rattle.pickle_script.proofs.PlaceLemmas.{offset_behind, offset_stays, offset_within}

-- ---- one item

pub size_some : (d : Contents) (k size : ℕ) (o : Operation) → item_at d k ≡ Some o → size ≡ size_of o → offset_of d k + size ≡ offset_of d (k + 1)
size_some d k size o e is = omega (arith, is, offset_behind d k (offset_of d k) o e refl)

pub size_none : (d : Contents) (k : ℕ) → item_at d k ≡ None → offset_of d k + 0 ≡ offset_of d (k + 1)
size_none d k e = omega (arith, offset_stays d k (offset_of d k) e refl)

pub ruleset size_steps = (size_some, size_none)

-- behind the last item none begins
pub offset_past : (d : Contents) (k offset : ℕ) → length (items_of d) ≤ k → offset ≡ offset_of d k → offset ≡ offset_of d (k + 1)
offset_past d k offset h e =
    let none : item_at d k ≡ None = slice_get_past (ops_of d) k (omega (arith, h, length-map (items_of d) (λ (i : Item). i.op))) in
    omega (arith, e, size_none d k none)

-- ---- many

-- each offset has 64 bits
pub offset_small : (d : Contents) (k : ℕ) → length (document_bytes d) ≤ size_limit → offset_of d k < 2 ^ 64
offset_small d k small = omega (arith, offset_within d k, small)

-- behind the last item no offset rises
offset-min : (d : Contents) (k : ℕ) → offset_of d (min k (length (items_of d))) ≡ offset_of d k
offset-min d k = ap sizes (take_min k (items_of d))

pub offset_cut : (d : Contents) (k n offset : ℕ) → n ≡ min k (length (items_of d)) → offset ≡ offset_of d n → offset ≡ offset_of d k
offset_cut d k n offset e is = is ∙ ap (offset_of d) e ∙ offset-min d k

-- the offset of the next place of a range
pub next_in : (d : Contents) (a i next : ℕ) → next ≡ offset_of d ((a + i) + 1) → next ≡ offset_of d (a + (i + 1))
next_in d a i next e = let same : (a + i) + 1 ≡ a + (i + 1) = omega arith in e ∙ ap (offset_of d) same

pub first_in : (d : Contents) (a offset : ℕ) → offset ≡ offset_of d a → offset ≡ offset_of d (a + 0)
first_in d a offset e = let same : a ≡ a + 0 = omega arith in e ∙ ap (offset_of d) same

pub ruleset range_steps = (next_in, first_in)

-- each item has one operation
ops_count : (d : Contents) → length (ops_of d) ≡ length (items_of d)
ops_count d = length-map (items_of d) (λ (i : Item). i.op)

pub all_ops : (d : Contents) (n : ℕ) → n ≡ length (items_of d) → n ≡ length (ops_of d)
all_ops d n e = omega (arith, e, ops_count d)

pub cut_ops : (d : Contents) (b n : ℕ) → n ≡ min b (length (items_of d)) → n ≡ min b (length (ops_of d))
cut_ops d b n e = omega (arith, e, ops_count d)

pub within_ops : (d : Contents) (n : ℕ) → n ≤ length (items_of d) → n ≤ length (ops_of d)
within_ops d n h = omega (arith, h, ops_count d)

pub ruleset ops_steps = (all_ops, cut_ops, within_ops)
