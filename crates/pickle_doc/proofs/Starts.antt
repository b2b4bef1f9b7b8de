-- Where the tail begins on the other side of a record.
use Rattle.std.proofs.Common.{◌≡◌, ◌+◌, ◌<◌, ◌≤◌, ℕ, zero, suc, List, [], ◌∷◌, length, get_or, slice_get, slice_set, Bool, Option, Some, None, refl, ap, sym, ◌∙◌, arith, length-set}
use Rattle.pickle_doc.specs.declared.item.Item.{Item}
use Rattle.pickle_doc.specs.declared.fault.TailFault.{TailFault}
use Rattle.pickle_doc.specs.declared.record.ItemChange.{ItemChange}
use Rattle.pickle_doc.specs.declared.record.ItemChange.TheVariants.{Put, Take, Set}
use Rattle.pickle_doc.specs.declared.record.Numbered.{Numbered}
use Rattle.pickle_doc.specs.declared.record.EditRecord.{EditRecord}
use Rattle.pickle_doc.specs.DocUnit.{item_size, sizes}
use Rattle.pickle_doc.specs.Document.{Contents, items_of, size_limit}
use Rattle.pickle_doc.specs.Inside.Grouping.{contents_of}
use Rattle.pickle_doc.specs.Inside.Kept.{IsKept}
use Rattle.pickle_doc.specs.Alike.{AgreeBefore}
use Rattle.pickle_doc.specs.Swap.{with_change, IsPlaceOf, renumbered, IsNumberPlace, swapped_items, CanSwap, EditLeads}
use Rattle.pickle_doc.proofs.Units.{length_document}
use Rattle.pickle_doc.proofs.Readers.{items_are, document}
use Rattle.pickle_doc.proofs.SwappedItems.{some-at, place_within}
use Rattle.pickle_doc.proofs.Alikes.{changed-before, place_also}
use Rattle.pickle_doc.proofs.Lists.{sizes-insert, sizes-remove}
use Rattle.pickle_doc.proofs.Replaces.{sizes-set, sizes_least}
use Rattle.pickle_doc.proofs.Replacements.{at_some}
use Rattle.pickle_doc.proofs.Bookmarks.{FramesAreNine, frames-nine, alike-size}

get-set : (xs : List Item) (k : ℕ) (y : Item) → k < length xs → slice_get (slice_set xs k y) k ≡ Some y
get-set [] k y h = absurd (omega arith)
get-set (x ∷ xs) zero y h = refl
get-set (x ∷ xs) (suc k) y h = get-set xs k y (omega arith)

-- a FRAME in the place of another takes as many bytes
pub same_sizes : (c : ItemChange) (k : ℕ) (f : Option Numbered) (xs ys : List Item) → IsPlaceOf c k xs → IsNumberPlace f k → ys ≡ with_change c k (renumbered f xs)
    → AgreeBefore k xs ys → FramesAreNine xs → FramesAreNine ys → sizes (renumbered f xs) ≡ sizes xs
same_sizes c k None xs ys place near e a p q = refl
same_sizes c k (Some f) xs ys place near e a p q =
    let zs = slice_set xs f.place f.item in
    let within = place_within c k xs place in
    let x = some-at xs f.place (omega (arith, near, within)) in
    let there : slice_get ys f.place ≡ Some f.item =
    ap (λ (ws : List Item). slice_get ws f.place) e
    ∙ changed-before c zs k f.place near (place_also c k xs zs (sym (length-set xs f.place f.item)) place)
    ∙ get-set xs f.place f.item (omega (arith, near, within)) in
    let h = a f.place x.0 near x.1 in
    let one : Some h.0 ≡ Some f.item = sym h.1 ∙ there in
    let same : h.0 ≡ f.item = cc in
    let size = alike-size x.0 f.item (rw same at h.2) (p f.place x.0 x.1) (q f.place f.item there) in
    omega (arith, size, sizes-set xs f.place x.0 f.item x.1)

-- how the sizes change
pub start_put : (c : ItemChange) (k : ℕ) (i : Item) (xs : List Item) → c ≡ Put i → IsPlaceOf c k xs → sizes (with_change c k xs) ≡ sizes xs + item_size i
start_put c k i xs e can = ap (λ (x : ItemChange). sizes (with_change x k xs)) e ∙ sizes-insert xs k i (rw e at can)

pub start_taken : (c : ItemChange) (k : ℕ) (i : Item) (xs : List Item) → c ≡ Take → IsPlaceOf c k xs → i ≡ get_or xs k i → sizes (with_change c k xs) + item_size i ≡ sizes xs
start_taken c k i xs e can at = ap (λ (x : ItemChange). sizes (with_change x k xs) + item_size i) e ∙ sizes-remove xs k i (at_some xs k i (rw e at can) at)

-- an item goes and another comes in its place
pub record Moved (c : ItemChange) (k : ℕ) (i j : Item) (xs : List Item) : Type 0 where
  pub sum : sizes (with_change c k xs) + item_size i ≡ sizes xs + item_size j
  pub least : item_size i ≤ sizes xs

pub start_set : (c : ItemChange) (k : ℕ) (i j : Item) (xs : List Item) → c ≡ Set j → IsPlaceOf c k xs → i ≡ get_or xs k i → Moved c k i j xs
start_set c k i j xs e can at =
    let there = at_some xs k i (rw e at can) at in
    record { sum = ap (λ (x : ItemChange). sizes (with_change x k xs) + item_size i) e ∙ sizes-set xs k i j there; least = sizes_least xs k i there }

-- a swap may be made: the FRAME keeps its size, and the tail begins within the limit
pub record CanStart (r : EditRecord) (items : List Item) : Type 0 where
  pub frame : sizes (renumbered r.frame items) ≡ sizes items
  pub small : sizes (swapped_items r items) ≤ size_limit

pub can_start : {many loose : Bool} (r : EditRecord) (items : List Item) (tail : List ℕ) (f : Option TailFault) (next start : ℕ) (d e : Contents) → contents_of many loose items tail next ≡ d
    → IsKept many loose items tail f next start → EditLeads r d e → CanStart r items
can_start r items tail f next start d e is h l =
    let own = items_are items tail f next start d is h in
    let doc = document items tail f next start d is h in
    let to : items_of e ≡ swapped_items r items = sym l.items ∙ ap (swapped_items r) own in
    let before : AgreeBefore r.place items (items_of e) = rw own at l.before in
    let can : CanSwap r items = rw own at l.can in
    let nine : FramesAreNine items = rw own at (frames-nine d.loose d.units doc.formed.units) in
    record {
      frame = same_sizes r.change r.place r.frame items (items_of e) can.place can.frame to before nine (frames-nine e.loose e.units l.document.formed.units);
      small = omega (arith, ap sizes to, length_document e, l.within);
    }
