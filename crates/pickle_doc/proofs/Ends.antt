-- How a document ends: it follows from why its reading ended.
use Rattle.std.proofs.Common.{◌≡◌, ℕ, zero, suc, Bool, true, false, List, [], ◌∷◌, length, get_or, Option, Some, None, refl, ap, sym, ◌∙◌, arith}
use Rattle.std.specs.Prelude.{◌&&◌, ◌||◌, ◌==◌, not}
use Rattle.pickle_ops.specs.Spelling.{Operation}
use Rattle.pickle_doc.specs.declared.fault.TailFault.{TailFault}
use Rattle.pickle_doc.specs.declared.fault.Finish.TheVariants as finish
use Rattle.pickle_doc.specs.declared.item.Item.{Item}
use Rattle.pickle_doc.specs.DocUnit.{is_stop, operations}
use Rattle.pickle_doc.specs.Tail.{fault_in_tail}
use Rattle.pickle_doc.specs.Document.{Contents, items_of, open_of, stops, ends_with_stop, is_stopped, fault_unless, ended_by, finish_by, finish_of, IsFormed}
use Rattle.pickle_doc.specs.Fitting.{IsEnd}
use Rattle.pickle_doc.proofs.Finishes.{ended}

-- the last item ends the reading where it is STOP and one pickle is read
pub stops_are : (many : Bool) (items : List Item) → stops many items ≡ (ends_with_stop items && not many)
stops_are many [] = refl
stops_are many (i ∷ []) = refl
stops_are many (i ∷ j ∷ items) = stops_are many (j ∷ items)

-- where it is not STOP, it did not
pub goes_last : (many : Bool) (items : List Item) → ends_with_stop items ≡ false → stops many items ≡ false
goes_last many items h = rw (stops_are many items, h) refl

-- the last item by its place
pub last_at : (items : List Item) (i : Item) (k : ℕ) → suc k ≡ length items → i ≡ get_or items k i → is_stop i.op.opcode ≡ ends_with_stop items
last_at [] i k n e = absurd (omega arith)
last_at (x ∷ []) i zero n e = ap (λ (j : Item). is_stop j.op.opcode) e
last_at (x ∷ []) i (suc k) n e = absurd (omega arith)
last_at (x ∷ y ∷ items) i zero n e = absurd (omega arith)
last_at (x ∷ y ∷ items) i (suc k) n e = last_at (y ∷ items) i k (omega arith) e

finish_cases : (last many none : Bool) (f : Option TailFault)
    → finish_by (last && (not many || none)) (fault_unless (last && not many) f) ≡ finish_by (last && (not many || none)) f
finish_cases true true true f = refl
finish_cases true true false f = refl
finish_cases true false none f = refl
finish_cases false many none f = refl

pub finish_from : (d : Contents) → finish_by (is_stopped d) (ended_by d) ≡ finish_of d
finish_from d = rw (stops_are d.many (items_of d)) (finish_cases (ends_with_stop (items_of d)) d.many (length d.tail == 0) (fault_in_tail d.loose (open_of d.units) d.tail))

-- where an item ended the reading
stopped_by : (b : Bool) → finish_by b None ≡ finish.Stopped
stopped_by true = refl
stopped_by false = refl

pub finish_stopped : (d : Contents) → ended_by d ≡ None → finish.Stopped ≡ finish_of d
finish_stopped d e = sym (stopped_by (is_stopped d)) ∙ ap (finish_by (is_stopped d)) (sym e) ∙ finish_from d

-- where the tail's fault did
fault_cases : (last many none : Bool) (x : Option TailFault) (f : TailFault) → fault_unless (last && not many) x ≡ Some f → (last && (not many || none)) ≡ (none && last)
fault_cases true true true x f e = refl
fault_cases true true false x f e = refl
fault_cases true false none x f e = cc
fault_cases false many true x f e = refl
fault_cases false many false x f e = refl

pub stopped_at : (d : Contents) (f : TailFault) → ended_by d ≡ Some f → is_stopped d ≡ (length d.tail == 0 && ends_with_stop (items_of d))
stopped_at d f e =
    fault_cases (ends_with_stop (items_of d)) d.many (length d.tail == 0) (fault_in_tail d.loose (open_of d.units) d.tail) f
    (ap (λ (b : Bool). fault_unless b (fault_in_tail d.loose (open_of d.units) d.tail)) (sym (stops_are d.many (items_of d))) ∙ e)

pub finish_at : (d : Contents) (f : TailFault) (b : Bool) → ended_by d ≡ Some f → (length d.tail == 0 && ends_with_stop (items_of d)) ≡ b → finish_by b (Some f) ≡ finish_of d
finish_at d f b e is =
    ap (λ (x : Bool). finish_by x (Some f)) (sym is ∙ sym (stopped_at d f e)) ∙ ap (finish_by (is_stopped d)) (sym e) ∙ finish_from d

-- of one pickle a tail with a fault is the end
pub finish_one : (d : Contents) (f : TailFault) → d.many ≡ false → ended_by d ≡ Some f → finish_of d ≡ finish.Fault f
finish_one d f m e = sym (finish_at d f false e (go (ends_with_stop (items_of d)) (length d.tail == 0) goes))
  where
    stop : stops d.many (items_of d) ≡ (ends_with_stop (items_of d) && not false)
    stop = stops_are d.many (items_of d) ∙ ap (λ (b : Bool). ends_with_stop (items_of d) && not b) m

    by : (b : Bool) (x : Option TailFault) → fault_unless b x ≡ Some f → b ≡ false
    by true x h = cc
    by false x h = refl

    goes : (ends_with_stop (items_of d) && not false) ≡ false
    goes = sym stop ∙ by (stops d.many (items_of d)) (fault_in_tail d.loose (open_of d.units) d.tail) e

    go : (last none : Bool) → (last && not false) ≡ false → (none && last) ≡ false
    go true none h = cc
    go false true h = refl
    go false false h = refl

-- ---- the last item

first : (a b : Bool) → (a && b) ≡ true → a ≡ true
first true b e = refl
first false b e = cc

-- a document that ends in STOP has it as its last item
pub stopped_last : (d : Contents) → IsFormed d → finish_of d ≡ finish.Stopped → ends_with_stop (items_of d) ≡ true
stopped_last d h e = go (ended_by d) (stops d.many (items_of d)) (is_stopped d) (ended d h) (finish_from d ∙ e) (stops_are d.many (items_of d)) refl
  where
    go : (x : Option TailFault) (b s : Bool) → IsEnd d.loose b (open_of d.units) d.tail x → finish_by s x ≡ finish.Stopped → b ≡ (ends_with_stop (items_of d) && not d.many)
        → s ≡ is_stopped d → ends_with_stop (items_of d) ≡ true
    go None true s i f p q = first (ends_with_stop (items_of d)) (not d.many) (sym p)
    go None false s i f p q = absurd i
    go (Some x) b true i f p q = first (ends_with_stop (items_of d)) (not d.many || length d.tail == 0) (sym q)
    go (Some x) b false i f p q = cc

-- ---- the same end

-- items with the same operations
last_same : (xs ys : List Item) → operations xs ≡ operations ys → ends_with_stop xs ≡ ends_with_stop ys
last_same [] [] h = refl
last_same [] (y ∷ ys) h = cc
last_same (x ∷ xs) [] h = cc
last_same (x ∷ []) (y ∷ []) h = let same : x.op ≡ y.op = cc in ap (λ (o : Operation). is_stop o.opcode) same
last_same (x ∷ []) (y ∷ z ∷ ys) h = cc
last_same (x ∷ w ∷ xs) (y ∷ []) h = cc
last_same (x ∷ w ∷ xs) (y ∷ z ∷ ys) h = let rest : operations (w ∷ xs) ≡ operations (z ∷ ys) = cc in last_same (w ∷ xs) (z ∷ ys) rest

pub same_finish : (d e : Contents) → d.many ≡ e.many → operations (items_of d) ≡ operations (items_of e) → d.tail ≡ e.tail → ended_by d ≡ ended_by e → finish_of d ≡ finish_of e
same_finish d e m o t x =
    let last = last_same (items_of d) (items_of e) o in
    let stopped : is_stopped d ≡ is_stopped e = rw (last, m, t) refl in
    sym (finish_from d) ∙ ap (λ (b : Bool). finish_by b (ended_by d)) stopped ∙ ap (finish_by (is_stopped e)) x ∙ finish_from e
