-- Where the lines end with status 0, a reading that keeps frames in a buffer loses nothing.
use Rattle.std.proofs.Common.{◌≡◌, ℕ, zero, suc, ◌+◌, ◌-◌, ◌^◌, ◌<◌, ◌≤◌, Bool, true, false, List, [], ◌∷◌, ◌++◌, length, take, drop, Option, Some, None, Ok, refl, sym, ap, subst, ◌∙◌, arith, length-append, append_assoc}
use Rattle.std.specs.Prelude.{◌&&◌, ◌||◌, MatchBool, nat_lt, nat_le, slice_get, if◌then◌else◌}
use Rattle.std.proofs.lemmas.Bool.{le-leb, leb-true, ltb-false}
use Rattle.std.proofs.lemmas.List.{take-append-drop}
use Rattle.std.proofs.lemmas.Option.{slice_get_within}
use Rattle.pickle_ops.specs.Row.{row_of}
use Rattle.pickle_ops.specs.Spelling.{Operation, spelling, size_of}
use Rattle.pickle_ops.specs.Front.{front_of}
use Rattle.pickle_doc.specs.declared.fault.TailFault.{TailFault}
use Rattle.pickle_doc.specs.DocUnit.{is_frame, is_stop, ends_reading, frame_number, bytes_of}
use Rattle.pickle_doc.specs.Document.{Contents, IsFormed, document_bytes, items_of, ended_by}
use Rattle.pickle_doc.specs.Fitting.{FitsFrom, FitsFrame, IsLast, left_behind}
use Rattle.pickle_doc.specs.Place.{ops_of, item_at, offset_of}
use Rattle.pickle_doc.proofs.Fits.{reaches}
use Rattle.pickle_doc.proofs.Opcodes.{frame_goes}
use Rattle.pickle_doc.proofs.Units.{small_document, document_fits}
use Rattle.pickle_lenient.specs.declared.taken.Frames.TheVariants as frames
use Rattle.pickle_lenient.specs.declared.taken.Taken.{Taken}
use Rattle.pickle_lenient.specs.Lenient.{lenient}
use Rattle.pickle_lenient.specs.Stream.{first_read, joined, ends_in, refilled, framed, settled, within, across, buffered, taken}
use Rattle.pickle_lenient.proofs.Behind.{lenient_more, op_ends}
use Rattle.pickle_calls.specs.Calls.{is_inside, first_inside, left_on, left_at}
use Rattle.pickle_loader.proofs.Cuts.{drop_zero}
use Rattle.pickle_loader.proofs.Readings.{rest_is}
use Rattle.pickle_loader.proofs.Stops.{none_before}

-- ---- bytes

take_zero : (xs : List ℕ) → take 0 xs ≡ []
take_zero [] = refl
take_zero (x ∷ xs) = refl

take_past : (n : ℕ) (xs ys : List ℕ) → length xs ≤ n → take n (xs ++ ys) ≡ xs ++ take (n - length xs) ys
take_past n [] ys h = let same : n ≡ n - 0 = omega arith in ap (λ (m : ℕ). take m ys) same
take_past zero (x ∷ xs) ys h = absurd (omega (arith, h))
take_past (suc n) (x ∷ xs) ys h =
    let less : n - length xs ≡ suc n - suc (length xs) = omega arith in
    ap (λ (l : List ℕ). x ∷ l) (take_past n xs ys (omega (arith, h))) ∙ ap (λ (m : ℕ). x ∷ (xs ++ take m ys)) less

take_length : (n : ℕ) (xs : List ℕ) → n ≤ length xs → length (take n xs) ≡ n
take_length zero [] h = refl
take_length zero (x ∷ xs) h = refl
take_length (suc n) [] h = absurd (omega (arith, h))
take_length (suc n) (x ∷ xs) h = ap suc (take_length n xs (omega (arith, h)))

-- ---- the buffer after an operation

-- what is taken loses nothing, and leaves so much of the buffer
pub record Kept (t : Taken) (n : ℕ) : Type 0 where
  pub lost : t.lost ≡ false
  pub left : t.left ≡ n

no_gap : (n : ℕ) → n ≡ 0 → nat_lt 0 n ≡ false
no_gap n e = ap (nat_lt 0) e

kept_filled : (n : ℕ) (t : Taken) → t.lost ≡ false → t.left ≡ 0 → Kept (refilled n t) n
kept_filled n t lost none = record { lost = ap (λ (b : Bool). b || nat_lt 0 t.left) lost ∙ no_gap t.left none; left = refl }

kept_framed : (b c : Bool) (n m : ℕ) (t : Taken) → t.lost ≡ false → t.left ≡ 0 → nat_le n t.left ≡ b → c ≡ true → Kept (if b then t else (if c then refilled n t else refilled m t)) n
kept_framed true c n m t lost none e fits = let less : n ≤ t.left = leb-true n t.left e in record { lost = lost; left = omega (arith, less, none) }
kept_framed false true n m t lost none e fits = kept_filled n t lost none
kept_framed false false n m t lost none e fits = absurd cc

-- by whether it is STOP, or FRAME
left_after : Bool → Bool → ℕ → ℕ → ℕ
left_after true c number left = 0
left_after false true number left = number
left_after false false number left = left

kept_settled : (b c : Bool) (bytes : List ℕ) (t : Taken) → t.lost ≡ false → (b ≡ true → t.left ≡ 0) → (c ≡ true → t.left ≡ 0) → (c ≡ true → frame_number t.op ≤ length bytes - (t.size + t.left))
    → Kept (if b then refilled 0 t else (if c then framed bytes t (frame_number t.op) else t)) (left_after b c (frame_number t.op) t.left)
unfolding left_after
kept_settled true c bytes t lost stop frame fits = kept_filled 0 t lost (stop refl)
kept_settled false true bytes t lost stop frame fits =
    let n : ℕ = frame_number t.op in
    kept_framed (nat_le n t.left) (nat_le n (length bytes - (t.size + t.left))) n (length bytes - (t.size + t.left)) t lost (frame refl) refl (le-leb n (length bytes - (t.size + t.left)) (fits refl))
kept_settled false false bytes t lost stop frame fits = record { lost = lost; left = refl }

behind_is : (b c : Bool) (o : Operation) (left : ℕ) → is_stop o.opcode ≡ b → is_frame o.opcode ≡ c → (b ≡ true → left_behind false left o ≡ 0) → left_after b c (frame_number o) (left - size_of o) ≡ left_behind false left o
unfolding left_after
behind_is true c o left e f stop = sym (stop refl)
behind_is false true o left e f stop = sym (ap (λ (d : Bool). if d then frame_number o else left - size_of o) f)
behind_is false false o left e f stop = sym (ap (λ (d : Bool). if d then frame_number o else left - size_of o) f)

-- ---- the operation is the same

abbrev pub SameOp : Taken → Taken → Type 0
SameOp a b = (a.op ≡ b.op) × (a.row ≡ b.row)

framed_op : (b c : Bool) (n m : ℕ) (t : Taken) → SameOp (if b then t else (if c then refilled n t else refilled m t)) t
framed_op true c n m t = (refl, refl)
framed_op false true n m t = (refl, refl)
framed_op false false n m t = (refl, refl)

pub settled_op : (b c : Bool) (bytes : List ℕ) (t : Taken) → SameOp (if b then refilled 0 t else (if c then framed bytes t (frame_number t.op) else t)) t
settled_op true c bytes t = (refl, refl)
settled_op false true bytes t = framed_op (nat_le (frame_number t.op) t.left) (nat_le (frame_number t.op) (length bytes - (t.size + t.left))) (frame_number t.op) (length bytes - (t.size + t.left)) t
settled_op false false bytes t = (refl, refl)

-- ---- what is taken of bytes that begin with an operation

pub record Stands (left : ℕ) (o : Operation) (bytes : List ℕ) : Type 0 where
  pub fits : FitsFrame false left o
  pub front : (rest : List ℕ) × (bytes ≡ spelling o ++ rest)
  pub reach : left ≤ length bytes
  pub frame : is_frame o.opcode ≡ true → frame_number o ≤ length bytes - size_of o
  pub reads : lenient bytes ≡ Ok (record { op = o; row = row_of o; size = size_of o })

pub record Takes (left : ℕ) (o : Operation) (bytes : List ℕ) : Type 0 where
  pub item : Taken
  pub is : taken frames.Buffered left bytes ≡ Ok item
  pub same : (item.op ≡ o) × (item.row ≡ row_of o)
  pub kept : (is_stop o.opcode ≡ true → left_behind false left o ≡ 0) → Kept item (left_behind false left o)

abbrev front_taken : Operation → ℕ → Taken
front_taken o left = record { op = o; row = row_of o; size = size_of o + 0; left = left; lost = nat_lt 0 0 }

settled_kept : (left : ℕ) (o : Operation) (bytes : List ℕ) → Stands left o bytes → (is_stop o.opcode ≡ true → left_behind false left o ≡ 0) → Kept (settled true bytes (front_taken o (left - size_of o))) (left_behind false left o)
settled_kept left o bytes s quiet =
    let stop : is_stop o.opcode ≡ true → left - size_of o ≡ 0 = λ e. no_rest e (is_frame o.opcode) refl in
    let frame : is_frame o.opcode ≡ true → left - size_of o ≡ 0 = λ e. omega (arith, s.fits.frame e) in
    let number : is_frame o.opcode ≡ true → frame_number o ≤ length bytes - ((size_of o + 0) + (left - size_of o)) = λ e. omega (arith, s.frame e, frame e) in
    subst (λ (n : ℕ). Kept (settled true bytes (front_taken o (left - size_of o))) n) (behind_is (is_stop o.opcode) (is_frame o.opcode) o left refl refl quiet)
    (kept_settled (is_stop o.opcode) (is_frame o.opcode) bytes (front_taken o (left - size_of o)) refl stop frame number)
  where
    no_rest : is_stop o.opcode ≡ true → (c : Bool) → is_frame o.opcode ≡ c → left - size_of o ≡ 0
    no_rest e true f = omega (arith, s.fits.frame f)
    no_rest e false f = let less : left_behind false left o ≡ left - size_of o = ap (λ (d : Bool). if d then frame_number o else left - size_of o) f in sym less ∙ quiet e

at_once : (bytes : List ℕ) → buffered true 0 bytes ≡ across true bytes 0 (lenient bytes)
at_once bytes =
    ap (λ (l : List ℕ). if ends_in (front_of l) then within true bytes (length l) (lenient l) else across true bytes (length l - first_read l) (lenient (take (first_read l) l ++ drop 0 bytes))) (take_zero bytes)
    ∙ ap (λ (l : List ℕ). across true bytes 0 (lenient l)) (drop_zero bytes)

takes_none : (o : Operation) (bytes : List ℕ) → Stands 0 o bytes → Takes 0 o bytes
unfolding taken
takes_none o bytes s =
    let none : 0 - size_of o ≡ 0 = omega arith in
    record {
      item = settled true bytes (front_taken o (0 - size_of o));
      is = at_once bytes ∙ ap (across true bytes 0) s.reads ∙ ap (λ (n : ℕ). Ok (settled true bytes (front_taken o n))) (sym none);
      same = settled_op (is_stop o.opcode) (is_frame o.opcode) bytes (front_taken o (0 - size_of o));
      kept = settled_kept 0 o bytes s;
    }

takes_some : (left : ℕ) (o : Operation) (bytes : List ℕ) → 0 < left → Stands left o bytes → Takes left o bytes
unfolding taken
takes_some left o bytes some s =
    let front : List ℕ = take left bytes in
    let size : length (spelling o) ≡ size_of o = omega arith in
    let inside : size_of o ≤ left = s.fits.inside some in
    let begins : front ≡ spelling o ++ take (left - length (spelling o)) s.front.0 = ap (take left) s.front.1 ∙ take_past left (spelling o) s.front.0 (omega (arith, size, inside)) in
    let ends : ends_in (front_of front) ≡ true = sym (op_ends front o (size_of o) (record { size = refl; spelled = s.fits.spelled; front = (take (left - length (spelling o)) s.front.0, begins) })) in
    let reads : lenient front ≡ Ok (record { op = o; row = row_of o; size = size_of o }) = sym (lenient_more front (drop left bytes) ends) ∙ ap lenient (take-append-drop left bytes) ∙ s.reads in
    record {
      item = settled true bytes (front_taken o (left - size_of o));
      is =
          ap (λ (b : Bool). if b then within true bytes (length front) (lenient front) else across true bytes (length front - first_read front) (lenient (joined left bytes))) ends
          ∙ ap (within true bytes (length front)) reads
          ∙ ap (λ (n : ℕ). Ok (settled true bytes (front_taken o (n - size_of o)))) (take_length left bytes s.reach);
      same = settled_op (is_stop o.opcode) (is_frame o.opcode) bytes (front_taken o (left - size_of o));
      kept = settled_kept left o bytes s;
    }

pub takes : (left : ℕ) (o : Operation) (bytes : List ℕ) → Stands left o bytes → Takes left o bytes
takes zero o bytes s = takes_none o bytes s
takes (suc n) o bytes s = takes_some (suc n) o bytes (omega arith) s

-- ---- along a document

pub next_drop : (ops : List Operation) (k : ℕ) (o : Operation) → slice_get ops k ≡ Some o → drop k ops ≡ o ∷ drop (suc k) ops
next_drop [] k o e = absurd cc
next_drop (x ∷ ops) zero o e = let same : x ≡ o = cc in ap (λ (y : Operation). y ∷ drop 1 (x ∷ ops)) same
next_drop (x ∷ ops) (suc k) o e = next_drop ops k o e

abbrev pub FitsAt : Contents → ℕ → Type 0
FitsAt d k = (o : Operation) → item_at d k ≡ Some o → FitsFrom d.many false (left_at d k) (o ∷ drop (suc k) (ops_of d)) d.tail (ended_by d)

no_last : (b many : Bool) (left : ℕ) (p : Operation) (ops : List Operation) (tail : List ℕ) (e : Option TailFault) → MatchBool b (IsLast left (p ∷ ops) tail e) (FitsFrom many false left (p ∷ ops) tail e) → FitsFrom many false left (p ∷ ops) tail e
no_last true many left p ops tail e last = let none : p ∷ ops ≡ [] = last.none in absurd cc
no_last false many left p ops tail e fits = fits

fits_next : (d : Contents) (k : ℕ) (o p : Operation) → item_at d k ≡ Some o → item_at d (suc k) ≡ Some p → FitsAt d k → FitsFrom d.many false (left_at d (suc k)) (p ∷ drop (suc (suc k)) (ops_of d)) d.tail (ended_by d)
fits_next d k o p here there fits =
    let left : left_behind false (left_at d k) o ≡ left_at d (suc k) = ap (λ (x : Option Operation). left_on x (left_at d k)) (sym here) in
    let all = fits o here in
    let behind : MatchBool (ends_reading d.many o.opcode) (IsLast (left_behind false (left_at d k) o) (p ∷ drop (suc (suc k)) (ops_of d)) d.tail (ended_by d)) (FitsFrom d.many false (left_behind false (left_at d k) o) (p ∷ drop (suc (suc k)) (ops_of d)) d.tail (ended_by d)) =
    subst (λ (l : List Operation). MatchBool (ends_reading d.many o.opcode) (IsLast (left_behind false (left_at d k) o) l d.tail (ended_by d)) (FitsFrom d.many false (left_behind false (left_at d k) o) l d.tail (ended_by d))) (next_drop (ops_of d) (suc k) p there) all.1 in
    subst (λ (n : ℕ). FitsFrom d.many false n (p ∷ drop (suc (suc k)) (ops_of d)) d.tail (ended_by d)) left (no_last (ends_reading d.many o.opcode) d.many (left_behind false (left_at d k) o) p (drop (suc (suc k)) (ops_of d)) d.tail (ended_by d) behind)

item_before : (ops : List Operation) (k : ℕ) (p : Operation) → slice_get ops (suc k) ≡ Some p → (o : Operation) × (slice_get ops k ≡ Some o)
item_before [] k p e = absurd cc
item_before (x ∷ ops) zero p e = (x, refl)
item_before (x ∷ ops) (suc k) p e = item_before ops k p e

drop_first : (ops : List Operation) → drop 0 ops ≡ ops
drop_first [] = refl
drop_first (x ∷ ops) = refl

pub fits_at : (d : Contents) → IsFormed d → d.loose ≡ false → length (document_bytes d) < 2 ^ 64 → (k : ℕ) → FitsAt d k
fits_at d formed framed small zero o e =
    subst (λ (l : List Operation). FitsFrom d.many false 0 l d.tail (ended_by d)) (sym (drop_first (ops_of d)) ∙ next_drop (ops_of d) 0 o e)
    (subst (λ (w : Bool). FitsFrom d.many w 0 (ops_of d) d.tail (ended_by d)) framed (document_fits d formed (small_document (document_bytes d) d small refl formed.reach)))
fits_at d formed framed small (suc k) p e =
    let before = item_before (ops_of d) k p e in
    fits_next d k before.0 p before.1 e (fits_at d formed framed small k)

-- a STOP leaves nothing of a frame
stop_leaves : (many : Bool) (left : ℕ) (o : Operation) (ops : List Operation) (tail : List ℕ) (e : Option TailFault) → is_stop o.opcode ≡ true → tail ≡ [] → (many ≡ true → nat_lt 0 (left_behind false left o) ≡ false)
    → FitsFrom many false left (o ∷ ops) tail e → left_behind false left o ≡ 0
stop_leaves true left o ops tail e stop none quiet fits = let most : left_behind false left o ≤ 0 = ltb-false 0 (left_behind false left o) (quiet refl) in omega (arith, most)
stop_leaves false left o ops tail e stop none quiet fits =
    let last : IsLast (left_behind false left o) ops tail e = subst (λ (b : Bool). MatchBool (b && true) (IsLast (left_behind false left o) ops tail e) (FitsFrom false false (left_behind false left o) ops tail e)) stop fits.1 in
    omega (arith, last.reach, ap length none)

pub frame_within : (many : Bool) (left : ℕ) (o : Operation) (ops : List Operation) (tail : List ℕ) (e : Option TailFault) → FitsFrom many false left (o ∷ ops) tail e → is_frame o.opcode ≡ true → frame_number o ≤ length (bytes_of ops ++ tail)
frame_within many left o ops tail e fits frame =
    let next : FitsFrom many false (left_behind false left o) ops tail e = subst (λ (b : Bool). MatchBool b (IsLast (left_behind false left o) ops tail e) (FitsFrom many false (left_behind false left o) ops tail e)) (frame_goes many o.opcode frame) fits.1 in
    let number : left_behind false left o ≡ frame_number o = ap (λ (b : Bool). if b then frame_number o else left - size_of o) frame in
    omega (arith, reaches many false ops (left_behind false left o) tail e next, number)

quiet_at : (d : Contents) (k : ℕ) (o : Operation) → first_inside d (length (ops_of d)) ≡ None → k < length (ops_of d) → item_at d k ≡ Some o → is_stop o.opcode ≡ true → d.many ≡ true → nat_lt 0 (left_behind false (left_at d k) o) ≡ false
quiet_at d k o none less here stop many =
    let at : is_inside d.many (Some o) (left_at d k) ≡ false = subst (λ (x : Option Operation). is_inside d.many x (left_at d k) ≡ false) here (none_before d (length (ops_of d)) k none less) in
    ap (λ (b : Bool). b && nat_lt 0 (left_behind false (left_at d k) o)) (sym stop) ∙ ap (λ (b : Bool). b && (is_stop o.opcode && nat_lt 0 (left_behind false (left_at d k) o))) (sym many) ∙ at

-- what is taken of the bytes from an item on
pub takes_item : (d : Contents) → IsFormed d → d.loose ≡ false → length (document_bytes d) < 2 ^ 64 → (k : ℕ) (o : Operation) → item_at d k ≡ Some o
    → lenient (drop (offset_of d k) (document_bytes d)) ≡ Ok (record { op = o; row = row_of o; size = size_of o }) → Takes (left_at d k) o (drop (offset_of d k) (document_bytes d))
takes_item d formed framed small k o here reads =
    let rest : List ℕ = drop (offset_of d k) (document_bytes d) in
    let more : List ℕ = bytes_of (drop (suc k) (ops_of d)) ++ d.tail in
    let fits = fits_at d formed framed small k o here in
    let is : rest ≡ spelling o ++ more =
    rest_is (items_of d) d.tail k ∙ ap (λ (l : List Operation). bytes_of l ++ d.tail) (next_drop (ops_of d) k o here) ∙ append_assoc (spelling o) (bytes_of (drop (suc k) (ops_of d))) d.tail in
    let size : length rest ≡ length (spelling o) + length more = ap length is ∙ length-append (spelling o) more in
    let long : length (spelling o) ≡ size_of o = omega arith in
    let all : left_at d k ≤ length (bytes_of (o ∷ drop (suc k) (ops_of d)) ++ d.tail) = reaches d.many false (o ∷ drop (suc k) (ops_of d)) (left_at d k) d.tail (ended_by d) fits in
    let same : bytes_of (o ∷ drop (suc k) (ops_of d)) ++ d.tail ≡ rest = append_assoc (spelling o) (bytes_of (drop (suc k) (ops_of d))) d.tail ∙ sym is in
    takes (left_at d k) o rest (record {
      fits = fits.0;
      front = (more, is);
      reach = omega (arith, all, ap length same);
      frame = λ frame. omega (arith, frame_within d.many (left_at d k) o (drop (suc k) (ops_of d)) d.tail (ended_by d) fits frame, size, long);
      reads = reads;
    })

-- where no STOP leaves a frame unfinished, and nothing is behind the last, a STOP leaves nothing
pub quiet_item : (d : Contents) → IsFormed d → d.loose ≡ false → length (document_bytes d) < 2 ^ 64 → first_inside d (length (ops_of d)) ≡ None → d.tail ≡ [] → (k : ℕ) (o : Operation) → item_at d k ≡ Some o
    → is_stop o.opcode ≡ true → left_behind false (left_at d k) o ≡ 0
quiet_item d formed framed small none empty k o here stop =
    stop_leaves d.many (left_at d k) o (drop (suc k) (ops_of d)) d.tail (ended_by d) stop empty (λ many. quiet_at d k o none (slice_get_within (ops_of d) k o here) here stop many) (fits_at d formed framed small k o here)
