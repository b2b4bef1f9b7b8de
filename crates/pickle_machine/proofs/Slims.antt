-- What the machine keeps that reads its objects again from the bytes.
use Rattle.std.proofs.Common.{◌≡◌, ℕ, zero, suc, ◌+◌, ◌<◌, ◌≤◌, ◌^◌, Bool, true, false, not, List, [], ◌∷◌, ◌++◌, length, drop, Option, Some, None, Ok, refl, sym, ap, subst, ◌∙◌, arith, set, length-append, add-one}
use Rattle.std.proofs.lemmas.Option.{slice_get-map}
use Rattle.std.proofs.lemmas.List.{map-append, take-append-le, drop-drop, length-drop}
use Rattle.std.proofs.lemmas.Slice.{between_is, between_to_end}
use Rattle.std.proofs.Math.Seq.{drop-append_seam}
use Rattle.std.specs.Prelude.{map, slice_get, if◌then◌else◌}
use Rattle.std.specs.List.{between}
use Rattle.std.specs.Option.{option_map, option_map_or}
use Rattle.pickle_ops.specs.Spelling.{Operation, IsSpelled, spelling, size_of, Front, Whole, Reads, HasFault}
use Rattle.pickle_ops.proofs.Fronts.{found_front, spellings_are_read_again}
use Rattle.pickle_ops.specs.declared.fault.FrontFault.{FrontFault}
use Rattle.pickle_ops.specs.declared.kind.Kind.{Kind}
use Rattle.pickle_ops.specs.declared.kind.Kind.TheVariants as kind
use Rattle.pickle_ops.specs.declared.row.Row.{Row}
use Rattle.pickle_ops.specs.declared.row.Row.TheVariants as row
use Rattle.pickle_ops.specs.declared.object.Change.{Change}
use Rattle.pickle_ops.specs.declared.class.Class.{Class}
use Rattle.pickle_ops.specs.declared.class.Demand.TheVariants as demand
use Rattle.pickle_ops.specs.Object.{Object}
use Rattle.pickle_ops.specs.Kind.{class_of}
use Rattle.pickle_ops.specs.KindRef.{shown, parts_shown}
use Rattle.pickle_ops.specs.Row.{row_of, kind_of, count_of}
use Rattle.pickle_machine.specs.declared.slim.Origin.{Origin}
use Rattle.pickle_machine.specs.State.{State, start}
use Rattle.pickle_machine.specs.declared.refusal.Refusal.{Refusal}
use Rattle.pickle_machine.specs.Loader.{move_as}
use Rattle.pickle_machine.specs.Move.{outcome, refusal_of, next_of, next, fresh, begun, push, without, last_of, cut, changed, deep, object_meets}
use Rattle.pickle_machine.specs.Reading.{Reading, reading, read_front}
use Rattle.pickle_machine.specs.Inside.Origins.{kept_kind, kept_object, IsKept, AreKept, start_of, last_end, if_parted, kept_of, makes, more_parts, more_origins, more_buffers, fresh_buffers, Keeps}
use Rattle.pickle_machine.specs.Outline.{outline, sample, bared}
use Rattle.pickle_machine.specs.Seen.{class_at}
use Rattle.pickle_machine.proofs.Outlines.{class_of_sample, same_object, moves_read_outlines, fresh_reads_outlines, refusals_read_outlines}

-- ---- rows of numbers, one behind the other

between_more : (from end : ℕ) (parts more : List ℕ) → end ≤ length parts → between from end (parts ++ more) ≡ between from end parts
between_more from end parts more h =
    between_is (parts ++ more) from end ∙ ap (λ (l : List ℕ). drop from l) (take-append-le end parts more h) ∙ sym (between_is parts from end)

-- more numbers behind the last change nothing
pub kept_more : (bytes parts more : List ℕ) (from : ℕ) (ds : List Origin) (os : List Object) → AreKept bytes parts from ds os → AreKept bytes (parts ++ more) from ds os
kept_more bytes parts more from [] [] h = h
kept_more bytes parts more from [] (o ∷ os) h = absurd h
kept_more bytes parts more from (d ∷ ds) [] h = absurd h
kept_more bytes parts more from (d ∷ ds) (o ∷ os) h =
    let P : List ℕ → Type 0 = λ l. IsKept bytes l d.offset o in
    (h.0, omega (arith, h.1, length-append parts more), subst P (sym (between_more from d.end parts more h.1)) h.2, kept_more bytes parts more d.end ds os h.3)

-- one object more
pub kept_snoc : (bytes parts : List ℕ) (from : ℕ) (ds : List Origin) (os : List Object) (d : Origin) (o : Object)
    → AreKept bytes parts from ds os → last_end from ds ≤ d.end → d.end ≤ length parts → IsKept bytes (between (last_end from ds) d.end parts) d.offset o
    → AreKept bytes parts from (ds ++ d ∷ []) (os ++ o ∷ [])
kept_snoc bytes parts from [] [] d o h a b k = (a, b, k, h)
kept_snoc bytes parts from [] (p ∷ os) d o h a b k = absurd h
kept_snoc bytes parts from (e ∷ ds) [] d o h a b k = absurd h
kept_snoc bytes parts from (e ∷ ds) (p ∷ os) d o h a b k = (h.0, h.1, h.2, kept_snoc bytes parts e.end ds os d o h.3 a b k)

pub end_snoc : (from : ℕ) (ds : List Origin) (d : Origin) → last_end from (ds ++ d ∷ []) ≡ d.end
end_snoc from [] d = refl
end_snoc from (e ∷ ds) d = end_snoc e.end ds d

-- the object of a number
pub kept_at : (bytes parts : List ℕ) (from : ℕ) (ds : List Origin) (os : List Object) (i : ℕ) (d : Origin) → AreKept bytes parts from ds os → slice_get ds i ≡ Some d
    → (o : Object) × (slice_get os i ≡ Some o) × (start_of from ds i ≤ d.end) × (d.end ≤ length parts) × IsKept bytes (between (start_of from ds i) d.end parts) d.offset o
kept_at bytes parts from [] os i d h e = absurd cc
kept_at bytes parts from (x ∷ ds) [] i d h e = absurd h
kept_at bytes parts from (x ∷ ds) (o ∷ os) zero d h e =
    let same : x ≡ d = cc in
    let P : Origin → Type 0 = λ y. (from ≤ y.end) × (y.end ≤ length parts) × IsKept bytes (between from y.end parts) y.offset o in
    let k = subst P same (h.0, h.1, h.2) in
    (o, refl, k.0, k.1, k.2)
kept_at bytes parts from (x ∷ ds) (o ∷ os) (suc i) d h e = kept_at bytes parts x.end ds os i d h.3 e

pub kept_none : (bytes parts : List ℕ) (from : ℕ) (ds : List Origin) (os : List Object) (i : ℕ) → AreKept bytes parts from ds os → slice_get ds i ≡ None → slice_get os i ≡ None
kept_none bytes parts from [] [] i h e = refl
kept_none bytes parts from [] (o ∷ os) i h e = absurd h
kept_none bytes parts from (x ∷ ds) [] i h e = absurd h
kept_none bytes parts from (x ∷ ds) (o ∷ os) zero h e = absurd cc
kept_none bytes parts from (x ∷ ds) (o ∷ os) (suc i) h e = kept_none bytes parts x.end ds os i h.3 e

-- the numbers of an object begin where those of the one before it end
pub start_behind : (from : ℕ) (ds : List Origin) (i : ℕ) (d : Origin) → slice_get ds i ≡ Some d → start_of from ds (suc i) ≡ d.end
start_behind from [] i d e = absurd cc
start_behind from (x ∷ []) zero d e = let same : x ≡ d = cc in ap (λ (y : Origin). y.end) same
start_behind from (x ∷ y ∷ ds) zero d e = let same : x ≡ d = cc in ap (λ (y : Origin). y.end) same
start_behind from (x ∷ []) (suc i) d e = absurd cc
start_behind from (x ∷ y ∷ ds) (suc i) d e = start_behind x.end (y ∷ ds) i d e

-- ---- what a move changes of what is shown

shown_set : (heap : List Object) (id : ℕ) (o x : Object) → slice_get heap id ≡ Some o → shown x ≡ shown o → map shown (set heap id x) ≡ map shown heap
shown_set [] id o x e same = absurd cc
shown_set (y ∷ ys) zero o x e same =
    let is : y ≡ o = cc in
    ap (λ (b : Object). b ∷ map shown ys) (same ∙ ap shown (sym is))
shown_set (y ∷ ys) (suc id) o x e same = ap (λ (l : List Object). shown y ∷ l) (shown_set ys id o x e same)

shown_changed_by : (heap : List Object) (id : ℕ) (more : List Change) (g : Option Object) → slice_get heap id ≡ g → map shown (changed heap id more) ≡ map shown heap
shown_changed_by heap id more None e =
    ap (λ (g : Option Object). map shown (option_map_or (λ (o : Object). set heap id (record o { changes = o.changes ++ more })) g heap)) e
shown_changed_by heap id more (Some o) e =
    ap (λ (g : Option Object). map shown (option_map_or (λ (o : Object). set heap id (record o { changes = o.changes ++ more })) g heap)) e
    ∙ shown_set heap id o (record o { changes = o.changes ++ more }) e refl

-- changes are not shown
shown_changed : (heap : List Object) (id : ℕ) (more : List Change) → map shown (changed heap id more) ≡ map shown heap
shown_changed heap id more = shown_changed_by heap id more (slice_get heap id) refl

parted : (k : Kind) (parts : List ℕ) → parts_shown k (if_parted (class_of k) parts) ≡ parts_shown k parts
parted kind.Tuple parts = refl
parted _ parts = refl

shown_push : (k : Kind) (parts : List ℕ) (s : State) → map shown (push k parts s).heap ≡ map shown s.heap ++ shown (record { kind = k; parts = parts; changes = [] }) ∷ []
shown_push k parts s = map-append shown s.heap (record { kind = k; parts = parts; changes = [] } ∷ [])

shown_object : (k : Kind) (parts more : List ℕ) (s : State) → parts_shown k more ≡ parts_shown k parts
    → map shown (push k parts s).heap ≡ map shown s.heap ++ shown (record { kind = k; parts = more; changes = [] }) ∷ []
shown_object k parts more s e =
    shown_push k parts s ∙ ap (λ (l : List ℕ). map shown s.heap ++ record { kind = k; parts = l; changes = [] } ∷ []) (sym e)

view_made : (b : Bool) (k : Kind) (s : State) → not b ≡ true
    → map shown (if b then s else push kind.ReadOnly (last_of 1 s) (without 1 s)).heap ≡ map shown s.heap ++ shown (record { kind = kind.ReadOnly; parts = last_of 1 s; changes = [] }) ∷ []
view_made true k s e = absurd cc
view_made false k s e = shown_push kind.ReadOnly (last_of 1 s) (without 1 s)

-- what is shown of the object that a row makes is what its opcode makes of the numbers that are kept
pub shown_made : (r : Row) (k : Kind) (place : ℕ) (s : State) → makes r s ≡ true
    → map shown (next_of r k place s).heap ≡ map shown s.heap ++ shown (record { kind = kept_kind r k (kept_of r (class_of k) s.buffers s); parts = kept_of r (class_of k) s.buffers s; changes = [] }) ∷ []
shown_made row.Push k place s e = shown_push k [] s
shown_made (row.Extension n) k place s e = shown_push k [] s
shown_made row.Buffer k place s e = shown_object (kind.Buffer s.buffers) [] (s.buffers ∷ []) s refl
shown_made row.ReadOnly k place s e = view_made (object_meets demand.ReadOnly s (deep 0 s.top)) k s e
shown_made (row.Take t) k place s e = shown_push k (last_of (count_of t) s) (without (count_of t) s)
shown_made (row.Cut c) k place s e = shown_object k s.top (if_parted (class_of k) s.top) (cut s) (parted k s.top)
shown_made row.Nothing k place s e = absurd cc
shown_made (row.Protocol n) k place s e = absurd cc
shown_made (row.Change f) k place s e = absurd cc
shown_made (row.CutChange f) k place s e = absurd cc
shown_made row.Pop k place s e = absurd cc
shown_made row.PopMark k place s e = absurd cc
shown_made row.Dup k place s e = absurd cc
shown_made row.Mark k place s e = absurd cc
shown_made (row.Get key) k place s e = absurd cc
shown_made (row.Put key) k place s e = absurd cc
shown_made row.Memoize k place s e = absurd cc
shown_made row.Stop k place s e = absurd cc

view_left : (b : Bool) (s : State) → not b ≡ false → map shown (if b then s else push kind.ReadOnly (last_of 1 s) (without 1 s)).heap ≡ map shown s.heap
view_left true s e = refl
view_left false s e = absurd cc

pop_left : (b : Bool) (s : State) → map shown (if b then without 1 s else cut s).heap ≡ map shown s.heap
pop_left true s = refl
pop_left false s = refl

-- a row that makes nothing changes nothing that is shown
pub shown_left : (r : Row) (k : Kind) (place : ℕ) (s : State) → makes r s ≡ false → map shown (next_of r k place s).heap ≡ map shown s.heap
shown_left row.Push k place s e = absurd cc
shown_left (row.Extension n) k place s e = absurd cc
shown_left row.Buffer k place s e = absurd cc
shown_left row.ReadOnly k place s e = view_left (object_meets demand.ReadOnly s (deep 0 s.top)) s e
shown_left (row.Take t) k place s e = absurd cc
shown_left (row.Cut c) k place s e = absurd cc
shown_left row.Nothing k place s e = refl
shown_left (row.Protocol n) k place s e = refl
shown_left (row.Change f) k place s e = shown_changed s.heap _ _
shown_left (row.CutChange f) k place s e = shown_changed s.heap _ _
shown_left row.Pop k place s e = pop_left _ s
shown_left row.PopMark k place s e = refl
shown_left row.Dup k place s e = refl
shown_left row.Mark k place s e = refl
shown_left (row.Get key) k place s e = refl
shown_left (row.Put key) k place s e = refl
shown_left row.Memoize k place s e = refl
shown_left row.Stop k place s e = refl

-- ---- a step

fresh_heap : (b : Bool) (s : State) → (if b then begun s else s).heap ≡ s.heap
fresh_heap true s = refl
fresh_heap false s = refl

fresh_count : (b : Bool) (s : State) → fresh_buffers b s.buffers ≡ (if b then begun s else s).buffers
fresh_count true s = refl
fresh_count false s = refl

view_count : (b : Bool) (s : State) → (if b then s else push kind.ReadOnly (last_of 1 s) (without 1 s)).buffers ≡ s.buffers
view_count true s = refl
view_count false s = refl

pop_count : (b : Bool) (s : State) → (if b then without 1 s else cut s).buffers ≡ s.buffers
pop_count true s = refl
pop_count false s = refl

counted : (r : Row) (k : Kind) (place : ℕ) (s : State) → more_buffers r s.buffers ≡ (next_of r k place s).buffers
counted row.Buffer k place s = refl
counted row.ReadOnly k place s = sym (view_count (object_meets demand.ReadOnly s (deep 0 s.top)) s)
counted row.Pop k place s = sym (pop_count _ s)
counted _ k place s = refl

makes_same : (r : Row) (s : State) → makes r (outline s) ≡ makes r s
makes_same row.ReadOnly s = ap not (same_object demand.ReadOnly s (deep 0 s.top))
makes_same _ s = refl

kept_same : (r : Row) (c : Class) (n : ℕ) (s : State) → kept_of r c n (outline s) ≡ kept_of r c n s
kept_same row.Buffer c n s = refl
kept_same _ c n s = refl

kept_tail : (parts kept : List ℕ) → between (length parts) (length (parts ++ kept)) (parts ++ kept) ≡ kept
kept_tail parts kept = between_to_end (parts ++ kept) (length parts) (length (parts ++ kept)) (omega arith) ∙ drop-append_seam parts kept

-- what is kept after a row
pub record Grown (bytes : List ℕ) (origins : List Origin) (parts : List ℕ) (s : State) : Type 0 where
  pub ends : last_end 0 origins ≡ length parts
  pub heap : AreKept bytes parts 0 origins (map shown s.heap)

grown_by : (b : Bool) (bytes : List ℕ) (offset place : ℕ) (origins : List Origin) (parts rest : List ℕ) (op : Operation) (s : State)
    → makes (row_of op) s ≡ b → IsSpelled op → drop offset bytes ≡ spelling op ++ rest → Grown bytes origins parts s
    → Grown bytes
    (if b then origins ++ record { offset = offset; end = length (if b then parts ++ kept_of (row_of op) (class_of (kind_of op)) s.buffers s else parts) } ∷ [] else origins)
    (if b then parts ++ kept_of (row_of op) (class_of (kind_of op)) s.buffers s else parts)
    (next_of (row_of op) (kind_of op) place s)
grown_by true bytes offset place origins parts rest op s e spelled stands g =
    let kept : List ℕ = kept_of (row_of op) (class_of (kind_of op)) s.buffers s in
    let d : Origin = record { offset = offset; end = length (parts ++ kept) } in
    let o : Object = shown (kept_object op kept) in
    let P : List ℕ → Type 0 = λ l. IsKept bytes l offset o in
    let Q : ℕ → Type 0 = λ n. IsKept bytes (between n (length (parts ++ kept)) (parts ++ kept)) offset o in
    let is : IsKept bytes kept offset o = record { op = op; rest = rest; spelled = spelled; stands = stands; same = refl } in
    let here : IsKept bytes (between (last_end 0 origins) (length (parts ++ kept)) (parts ++ kept)) offset o = subst Q (sym g.ends) (subst P (sym (kept_tail parts kept)) is) in
    let below : last_end 0 origins ≤ length (parts ++ kept) = omega (arith, g.ends, length-append parts kept) in
    let all = kept_snoc bytes (parts ++ kept) 0 origins (map shown s.heap) d o (kept_more bytes parts kept 0 origins (map shown s.heap) g.heap) below (omega arith) here in
    let R : List Object → Type 0 = λ l. AreKept bytes (parts ++ kept) 0 (origins ++ d ∷ []) l in
    record { ends = end_snoc 0 origins d; heap = subst R (sym (shown_made (row_of op) (kind_of op) place s e)) all }
grown_by false bytes offset place origins parts rest op s e spelled stands g =
    let R : List Object → Type 0 = λ l. AreKept bytes parts 0 origins l in
    record { ends = g.ends; heap = subst R (sym (shown_left (row_of op) (kind_of op) place s e)) g.heap }

-- the opcode that is next is read
pub next_reading : (many : Bool) (bytes : List ℕ) (n : ℕ) (op : Operation) (rest : List ℕ) → IsSpelled op → (reading many bytes n).rest ≡ spelling op ++ rest
    → reading many bytes (suc n) ≡ record { state = next op (reading many bytes n).place (reading many bytes n).state; rest = rest; place = (reading many bytes n).place + 1 }
unfolding reading
next_reading many bytes n op rest spelled e =
    ap (λ (f : Front). read_front f (reading many bytes n)) (found_front (reading many bytes n).rest (Whole op.opcode op.arg rest) (e, spelled.arg))

pub behind : (op : Operation) (bytes rest : List ℕ) → bytes ≡ spelling op ++ rest → drop (size_of op) bytes ≡ rest
behind op bytes rest e =
    let n : size_of op ≡ length (spelling op) = omega arith in
    ap (λ (l : List ℕ). drop (size_of op) l) e ∙ ap (λ (m : ℕ). drop m (spelling op ++ rest)) n ∙ drop-append_seam (spelling op) rest

pub fits_bytes : (op : Operation) (offset : ℕ) (bytes rest : List ℕ) → drop offset bytes ≡ spelling op ++ rest → offset ≤ length bytes → offset + size_of op ≤ length bytes
fits_bytes op offset bytes rest e h =
    let n : length (drop offset bytes) ≡ length (spelling op ++ rest) = ap (λ (l : List ℕ). length l) e in
    omega (arith, h, n, length-drop offset bytes, length-append (spelling op) rest)

-- the machine goes on
pub keeps_on : (many : Bool) (bytes : List ℕ) (offset place buffers b1 b2 : ℕ) (lean l1 l2 : State) (origins more : List Origin) (parts kept rest : List ℕ) (op : Operation) (c : Class)
    → Keeps bytes offset place lean buffers origins parts (reading many bytes place)
    → IsSpelled op → (reading many bytes place).rest ≡ spelling op ++ rest → c ≡ class_of (kind_of op)
    → l1 ≡ outline (fresh lean) → b1 ≡ fresh_buffers lean.stopped buffers
    → l2 ≡ outline (next_of (row_of op) (sample c) place l1)
    → kept ≡ more_parts (row_of op) c b1 l1 parts
    → more ≡ more_origins (row_of op) l1 offset (length kept) origins
    → b2 ≡ more_buffers (row_of op) b1
    → Keeps bytes (offset + size_of op) (place + 1) l2 b2 more kept (reading many bytes (place + 1))
keeps_on many bytes offset place buffers b1 b2 lean l1 l2 origins more parts kept rest op c k spelled stands class one count two keep from sum =
    let s : State = (reading many bytes place).state in
    let r : Row = row_of op in
    let k0 : Kind = kind_of op in
    let is : reading many bytes (place + 1) ≡ record { state = next op (reading many bytes place).place s; rest = rest; place = (reading many bytes place).place + 1 } = rw (add-one place) (next_reading many bytes place op rest spelled stands) in
    let t : State = fresh s in
    let lean1 : l1 ≡ outline t = one ∙ ap (λ (u : State). outline (fresh u)) k.outline ∙ fresh_reads_outlines s in
    let count1 : b1 ≡ t.buffers = count ∙ ap (λ (u : State). fresh_buffers u.stopped buffers) k.outline ∙ ap (λ (n : ℕ). fresh_buffers s.stopped n) k.numbered ∙ fresh_count s.stopped s in
    let lean2 : l2 ≡ outline (next_of r k0 place t) =
    two ∙ ap (λ (u : State). outline (next_of r (sample c) place u)) lean1 ∙ ap (λ (x : Class). outline (next_of r (sample x) place (outline t))) class ∙ moves_read_outlines r k0 place t in
    let same : makes r l1 ≡ makes r t = ap (λ (u : State). makes r u) lean1 ∙ makes_same r t in
    let numbers : kept_of r c b1 l1 ≡ kept_of r (class_of k0) t.buffers t =
    ap (λ (u : State). kept_of r c b1 u) lean1 ∙ kept_same r c b1 t ∙ ap (λ (x : Class). kept_of r x b1 t) class ∙ ap (λ (n : ℕ). kept_of r (class_of k0) n t) count1 in
    let unread : drop offset bytes ≡ spelling op ++ rest = sym k.unread ∙ stands in
    let G : List Object → Type 0 = λ h. AreKept bytes parts 0 origins (map shown h) in
    let g : Grown bytes origins parts t = record { ends = k.ends; heap = subst G (sym (fresh_heap s.stopped s)) k.heap } in
    let grown = grown_by (makes r t) bytes offset place origins parts rest op t refl spelled unread g in
    let kept' : kept ≡ (if makes r t then parts ++ kept_of r (class_of k0) t.buffers t else parts) =
    keep ∙ ap (λ (b : Bool). if b then parts ++ kept_of r c b1 l1 else parts) same ∙ ap (λ (l : List ℕ). if makes r t then parts ++ l else parts) numbers in
    let more' : more ≡ (if makes r t then origins ++ record { offset = offset; end = length (if makes r t then parts ++ kept_of r (class_of k0) t.buffers t else parts) } ∷ [] else origins) =
    from ∙ ap (λ (b : Bool). if b then origins ++ record { offset = offset; end = length kept } ∷ [] else origins) same
    ∙ ap (λ (l : List ℕ). if makes r t then origins ++ record { offset = offset; end = length l } ∷ [] else origins) kept' in
    let moved : (reading many bytes place).place ≡ place = k.moved in
    let state : next op (reading many bytes place).place s ≡ next_of r k0 place t = ap (λ (n : ℕ). next_of r k0 n t) moved in
    let fits = fits_bytes op offset bytes rest unread k.within in
    rw (is, state, moved, more', kept')
    (record {
      outline = lean2;
      numbered = sum ∙ ap (λ (n : ℕ). more_buffers r n) count1 ∙ counted r k0 place t;
      unread = sym (ap (λ (l : List ℕ). drop (size_of op) l) refl ∙ behind op (drop offset bytes) rest unread) ∙ drop-drop (size_of op) offset bytes;
      moved = refl;
      counted = omega (arith, k.counted);
      within = fits;
      small = k.small;
      ends = grown.ends;
      heap = grown.heap;
    })

-- nothing is read yet
pub reading_start : (many : Bool) (bytes : List ℕ) → reading many bytes 0 ≡ record { state = start many; rest = bytes; place = 0 }
unfolding reading
reading_start many bytes = refl

pub keeps_start : (many : Bool) (bytes : List ℕ) (lean : State) (origins : List Origin) (parts : List ℕ) → lean ≡ start many → origins ≡ [] → parts ≡ [] → length bytes < 2 ^ 32
    → Keeps bytes 0 0 lean 0 origins parts (reading many bytes 0)
keeps_start many bytes lean origins parts l o p h =
    rw (reading_start many bytes, l, o, p)
    (record {
      outline = refl;
      numbered = refl;
      unread = refl;
      moved = refl;
      counted = omega arith;
      within = omega arith;
      small = h;
      ends = refl;
      heap = tt;
    })

-- the lean machine refuses what the machine refuses
pub good_lean : (r : Row) (lean l1 s : State) → lean ≡ outline s → l1 ≡ outline (fresh lean) → refusal_of r (fresh s) ≡ None → refusal_of r l1 ≡ None
good_lean r lean l1 s e f good =
    ap (λ (u : State). refusal_of r u) (f ∙ ap (λ (u : State). outline (fresh u)) e ∙ fresh_reads_outlines s) ∙ refusals_read_outlines r (fresh s) ∙ good

-- where the machine stands after an opcode
pub read_on : (many : Bool) (bytes : List ℕ) (n : ℕ) (op : Operation) (rest : List ℕ) → IsSpelled op → (reading many bytes n).rest ≡ spelling op ++ rest
    → reading many bytes (n + 1) ≡ record { state = next op (reading many bytes n).place (reading many bytes n).state; rest = drop (size_of op) (reading many bytes n).rest; place = (reading many bytes n).place + 1 }
read_on many bytes n op rest spelled e =
    ap (λ (m : ℕ). reading many bytes m) (add-one n) ∙ next_reading many bytes n op rest spelled e
    ∙ ap (λ (l : List ℕ). record { state = next op (reading many bytes n).place (reading many bytes n).state; rest = l; place = (reading many bytes n).place + 1 }) (sym (behind op (reading many bytes n).rest rest e))

-- where no pickle has stopped, the lean machine is asked as it stands
pub refusal_here : (r : Row) (lean s : State) → lean ≡ outline s → lean.stopped ≡ false → refusal_of r lean ≡ refusal_of r (fresh s)
refusal_here r lean s e f =
    let goes : s.stopped ≡ false = sym (ap (λ (u : State). u.stopped) e) ∙ f in
    ap (λ (u : State). refusal_of r u) e ∙ refusals_read_outlines r s ∙ sym (ap (λ (b : Bool). refusal_of r (if b then begun s else s)) goes)

taken_by : (x : Option Refusal) (u t : State) → outcome x u ≡ Ok t → u ≡ t
taken_by None u t e = cc
taken_by (Some r) u t e = absurd cc

-- the whole machine goes over the same opcode
pub whole_on : (many : Bool) (bytes : List ℕ) (n : ℕ) (op : Operation) (rest now : List ℕ) (r : Row) (s t : State) → IsSpelled op → now ≡ spelling op ++ rest
    → s ≡ (reading many bytes n).state → now ≡ (reading many bytes n).rest → (reading many bytes n).place ≡ n → r ≡ row_of op → move_as r op n s ≡ Ok t
    → (t ≡ (reading many bytes (n + 1)).state) × (drop (size_of op) now ≡ (reading many bytes (n + 1)).rest) × ((reading many bytes (n + 1)).place ≡ n + 1)
whole_on many bytes n op rest now r s t spelled front state here place row moved =
    let is = read_on many bytes n op rest spelled (sym here ∙ front) in
    let went : next_of r (kind_of op) n (fresh s) ≡ t = taken_by _ _ t moved in
    let same : next op (reading many bytes n).place (reading many bytes n).state ≡ t =
    ap (λ (m : ℕ). next op m (reading many bytes n).state) place ∙ ap (λ (u : State). next op n u) (sym state) ∙ ap (λ (x : Row). next_of x (kind_of op) n (fresh s)) (sym row) ∙ went in
    (sym (ap (λ (x : Reading). x.state) is ∙ same), ap (λ (l : List ℕ). drop (size_of op) l) here ∙ sym (ap (λ (x : Reading). x.rest) is), ap (λ (x : Reading). x.place) is ∙ ap (λ (m : ℕ). m + 1) place)

pub refusal_begun : (r : Row) (lean s : State) → lean ≡ outline s → lean.stopped ≡ true → refusal_of r (begun s) ≡ refusal_of r (fresh s)
refusal_begun r lean s e f =
    let goes : s.stopped ≡ true = sym (ap (λ (u : State). u.stopped) e) ∙ f in
    sym (ap (λ (b : Bool). refusal_of r (if b then begun s else s)) goes)

-- ---- an object is read again

class_bared_in : (g : Option Object) → option_map (λ (o : Object). class_of o.kind) (option_map bared g) ≡ option_map (λ (o : Object). class_of o.kind) g
class_bared_in None = refl
class_bared_in (Some o) = ap Some (class_of_sample (class_of o.kind))

pub class_bared : (heap : List Object) (id : ℕ) → class_at (map bared heap) id ≡ class_at heap id
class_bared heap id = ap (λ (g : Option Object). option_map (λ (o : Object). class_of o.kind) g) (slice_get-map bared heap id) ∙ class_bared_in (slice_get heap id)

pub look_same : (bytes kept : List ℕ) (offset : ℕ) (o : Object) (op : Operation) (n : ℕ) (k : Kind) → IsKept bytes kept offset o → Reads (drop offset bytes) op n → k ≡ kept_kind (row_of op) (kind_of op) kept
    → record { kind = k; parts = parts_shown k kept; changes = [] } ≡ o
look_same bytes kept offset o op n k is read e =
    let P : List ℕ → Type 0 = λ l. Reads l op n in
    let same : op ≡ is.op = ((spellings_are_read_again is.op is.rest is.spelled).1 op n (subst P is.stands read)).0 in
    ap (λ (x : Kind). record { kind = x; parts = parts_shown x kept; changes = [] }) (e ∙ ap (λ (p : Operation). kept_kind (row_of p) (kind_of p) kept) same) ∙ sym is.same

pub look_none : (bytes kept : List ℕ) (offset : ℕ) (o : Object) (f : FrontFault) → IsKept bytes kept offset o → HasFault (drop offset bytes) f → ⊥
look_none bytes kept offset o f is fault =
    let P : List ℕ → Type 0 = λ l. HasFault l f in
    (spellings_are_read_again is.op is.rest is.spelled).2 f (subst P is.stands fault)

-- what is looked at of an object that is there, and of none
pub look_there : (bytes parts : List ℕ) (ds : List Origin) (heap : List Object) (i : ℕ) (d : Origin) → AreKept bytes parts 0 ds (map shown heap) → slice_get ds i ≡ Some d
    → (o : Object) × (option_map shown (slice_get heap i) ≡ Some o) × (start_of 0 ds i ≤ d.end) × (d.end ≤ length parts) × IsKept bytes (between (start_of 0 ds i) d.end parts) d.offset o
look_there bytes parts ds heap i d h e =
    let k = kept_at bytes parts 0 ds (map shown heap) i d h e in
    (k.0, sym (slice_get-map shown heap i) ∙ k.1, k.2, k.3, k.4)

pub look_nowhere : (bytes parts : List ℕ) (ds : List Origin) (heap : List Object) (i : ℕ) → AreKept bytes parts 0 ds (map shown heap) → slice_get ds i ≡ None → option_map shown (slice_get heap i) ≡ None
look_nowhere bytes parts ds heap i h e = sym (slice_get-map shown heap i) ∙ kept_none bytes parts 0 ds (map shown heap) i h e
