-- Why reading ended, and how a document ends: what is derived of a document is what a reader of its bytes finds.
use Rattle.std.proofs.Common.{◌≡◌, ℕ, Bool, true, false, List, Option, Some, None, IsSome, refl, ap, ◌∙◌}
use Rattle.pickle_ops.proofs.Fronts.{is_front, found_front}
use Rattle.pickle_doc.specs.declared.fault.TailFault.{TailFault}
use Rattle.pickle_ops.specs.Front.{front_of}
use Rattle.pickle_doc.specs.Tail.{tail_fault, fault_in_tail, HasTailFault}
use Rattle.pickle_doc.specs.Document.{Contents, items_of, open_of, stops, IsTail, IsFormed, fault_unless, ended_by}
use Rattle.pickle_doc.specs.Fitting.{IsEnd}

-- the fault of a tail is the one that it has
pub fault_is : (loose : Bool) (left : ℕ) (tail : List ℕ) (f : TailFault) → HasTailFault loose left tail f → fault_in_tail loose left tail ≡ Some f
fault_is loose left tail f (front, is, e) = ap (tail_fault loose left) (found_front tail front is) ∙ e

-- an end that fits is the derived one, and the tail is one of a document
pub ended_is : (loose b : Bool) (left : ℕ) (tail : List ℕ) (e : Option TailFault) → IsEnd loose b left tail e → fault_unless b (fault_in_tail loose left tail) ≡ e
ended_is loose true left tail None h = refl
ended_is loose true left tail (Some f) h = absurd h
ended_is loose false left tail None h = absurd h
ended_is loose false left tail (Some f) h = fault_is loose left tail f h

pub tail_is : (loose b : Bool) (left : ℕ) (tail : List ℕ) (e : Option TailFault) → IsEnd loose b left tail e → IsTail loose b left tail
tail_is loose true left tail e h = tt
tail_is loose false left tail None h = absurd h
tail_is loose false left tail (Some f) h = rw (fault_is loose left tail f h) refl

fits_by : (loose b : Bool) (left : ℕ) (tail : List ℕ) → IsTail loose b left tail → IsEnd loose b left tail (fault_unless b (fault_in_tail loose left tail))
fits_by loose true left tail h = tt
fits_by loose false left tail h = go (fault_in_tail loose left tail) refl h
  where
    go : (o : Option TailFault) → fault_in_tail loose left tail ≡ o → IsSome o → IsEnd loose false left tail o
    go None e h = let never : false ≡ true = h in cc
    go (Some f) e h = (front_of tail, is_front tail, e)

-- the derived end fits
pub ended : (d : Contents) → IsFormed d → IsEnd d.loose (stops d.many (items_of d)) (open_of d.units) d.tail (ended_by d)
ended d h = fits_by d.loose (stops d.many (items_of d)) (open_of d.units) d.tail h.tail

-- documents of which reading ended alike
pub same_end : (d e : Contents) → e.loose ≡ d.loose → stops e.many (items_of e) ≡ stops d.many (items_of d) → open_of e.units ≡ open_of d.units → e.tail ≡ d.tail → ended_by d ≡ ended_by e
same_end d e m s o t = rw (m, s, o, t) refl
