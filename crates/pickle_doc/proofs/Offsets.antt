-- Offsets rise from place to place, and so a place is found by its offset.
use Rattle.std.proofs.Common.{◌≡◌, ◌+◌, ◌<◌, ◌≤◌, ℕ, zero, suc, List, [], ◌∷◌, length, take, Option, Some, None, ap, ◌∙◌, inl, inr, arith}
use Rattle.std.proofs.lemmas.Bool.{cases_lt, le-leb, lt-leb}
use Rattle.pickle_doc.specs.declared.item.Item.{Item}
use Rattle.pickle_doc.specs.DocUnit.{sizes}
use Rattle.pickle_doc.specs.Document.{Contents, items_of}
use Rattle.pickle_doc.specs.Place.{offset_at, IsPlaceAt}
use Rattle.pickle_doc.specs.Inside.ByOffset.{IsAtOffset}
use Rattle.pickle_doc.proofs.Readers.{sizes-less}

pub sizes-rise : (items : List Item) (j k : ℕ) → j < k → k ≤ length items → sizes (take j items) < sizes (take k items)
sizes-rise items j zero h l = absurd (omega arith)
sizes-rise [] j (suc k) h l = absurd (omega arith)
sizes-rise (i ∷ items) zero (suc k) h l = omega arith
sizes-rise (i ∷ items) (suc j) (suc k) h l = omega (arith, sizes-rise items j k (omega arith) (omega arith))

-- ---- forward

-- the places before this one have lower offsets
abbrev pub AreLower : ℕ → ℕ → List Item → Type 0
AreLower place offset items = (j : ℕ) → j < place → sizes (take j items) < offset

pub lower-first : (items : List Item) (from offset : ℕ) → from ≤ length items → sizes (take from items) ≤ offset → AreLower from offset items
lower-first items from offset l o = λ j h. omega (arith, sizes-rise items j from h l, o)

pub lower-more : (items : List Item) (place offset : ℕ) → AreLower place offset items → sizes (take place items) < offset → AreLower (place + 1) offset items
lower-more items place offset a o = λ j h. elim (cases_lt j place) [
  | inl less ↦ a j less
  | inr here ↦ let e : j ≡ place = omega (arith, h, here) in omega (arith, ap (λ (m : ℕ). sizes (take m items)) e, o)
]

pub none-forward : (items : List Item) (place offset : ℕ) → AreLower place offset items → offset < sizes (take place items) → IsAtOffset None offset items
none-forward items place offset a o = λ k l e. elim (cases_lt k place) [
  | inl less ↦ let low = a k less in absurd (omega (arith, low, e))
  | inr here ↦ let high = sizes-less items place k here in absurd (omega (arith, high, e, o))
]

pub none-left : (items : List Item) (offset : ℕ) → AreLower (length items) offset items → (sizes (take (length items) items) ≡ offset → ⊥) → IsAtOffset None offset items
none-left items offset a o = λ k l e. elim (cases_lt k (length items)) [
  | inl less ↦ let low = a k less in absurd (omega (arith, low, e))
  | inr here ↦ let last : length items ≡ k = omega (arith, l, here) in o (ap (λ (m : ℕ). sizes (take m items)) last ∙ e)
]

-- ---- back

-- the places after this one have higher offsets
abbrev pub AreHigher : ℕ → ℕ → List Item → Type 0
AreHigher place offset items = (j : ℕ) → place < j → j ≤ length items → offset < sizes (take j items)

pub higher-first : (items : List Item) (from offset : ℕ) → offset ≤ sizes (take from items) → AreHigher from offset items
higher-first items from offset o = λ j h l. omega (arith, sizes-rise items from j h l, o)

pub higher-more : (items : List Item) (place next offset : ℕ) → place ≤ next + 1 → AreHigher place offset items → offset < sizes (take place items) → AreHigher next offset items
higher-more items place next offset n a o = λ j h l. elim (cases_lt place j) [
  | inl more ↦ a j more l
  | inr here ↦ let e : j ≡ place = omega (arith, h, here, n) in omega (arith, ap (λ (m : ℕ). sizes (take m items)) e, o)
]

pub none-back : (items : List Item) (place offset : ℕ) → AreHigher place offset items → sizes (take place items) < offset → IsAtOffset None offset items
none-back items place offset a o = λ k l e. elim (cases_lt place k) [
  | inl more ↦ let high = a k more l in absurd (omega (arith, high, e))
  | inr here ↦ let low = sizes-less items k place here in absurd (omega (arith, low, e, o))
]

pub some-before : (items : List Item) (place offset : ℕ) → offset < sizes (take place items) → 0 < place
some-before items zero offset h = absurd (omega arith)
some-before items (suc place) offset h = omega arith

-- ---- places of a document

pub place_is : (d : Contents) (items : List Item) (offset : ℕ) (r : Option ℕ) → items_of d ≡ items → IsAtOffset r offset items → IsPlaceAt d offset r
place_is d items offset (Some k) own (l, e) = rw (own, le-leb k (length items) l) (ap Some e)
place_is d items offset None own h = λ k e. elim (cases_lt (length items) k) [
  | inl past ↦ let none : None ≡ Some offset = rw (own, lt-leb k (length items) past) at e in cc
  | inr within ↦
      let some : Some (sizes (take k items)) ≡ Some offset = rw (own, le-leb k (length items) within) at e in
      let same : sizes (take k items) ≡ offset = cc in h k within same
]

pub only_place : (d : Contents) (items : List Item) (offset : ℕ) (r : Option ℕ) → items_of d ≡ items → IsAtOffset r offset items → (k : ℕ) → offset_at d k ≡ Some offset → r ≡ Some k
only_place d items offset None own h k e = absurd (place_is d items offset None own h k e)
only_place d items offset (Some j) own (l, is) k e = elim (cases_lt (length items) k) [
  | inl past ↦ let none : None ≡ Some offset = rw (own, lt-leb k (length items) past) at e in cc
  | inr within ↦
      let some : Some (sizes (take k items)) ≡ Some offset = rw (own, le-leb k (length items) within) at e in
      let same : sizes (take k items) ≡ offset = cc in
      elim (cases_lt j k) [
        | inl less ↦ let rise = sizes-rise items j k less within in absurd (omega (arith, rise, is, same))
        | inr no_less ↦ elim (cases_lt k j) [
          | inl more ↦ let rise = sizes-rise items k j more l in absurd (omega (arith, rise, is, same))
          | inr no_more ↦ ap Some (omega (arith, no_less, no_more))
        ]
      ]
]

-- there is a place k, and so many bytes spell the items before it
pub record Begins (k bytes : ℕ) (items : List Item) : Type 0 where
  pub within : k ≤ length items
  pub start : bytes ≡ sizes (take k items)

pub begins : (d : Contents) (items : List Item) (k bytes : ℕ) → items_of d ≡ items → offset_at d k ≡ Some bytes → Begins k bytes items
begins d items k bytes own e = elim (cases_lt (length items) k) [
  | inl past ↦ let none : None ≡ Some bytes = rw (own, lt-leb k (length items) past) at e in cc
  | inr within ↦
      let some : Some (sizes (take k items)) ≡ Some bytes = rw (own, le-leb k (length items) within) at e in
      record { within = within; start = cc }
]
