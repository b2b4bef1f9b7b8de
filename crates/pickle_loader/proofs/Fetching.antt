-- The opcodes of a document are read from its bytes.
use Rattle.std.proofs.Common.{◌≡◌, ℕ, zero, suc, ◌+◌, ◌^◌, ◌<◌, ◌≤◌, Bool, true, false, List, [], ◌∷◌, ◌++◌, length, take, drop, Option, Some, None, refl, sym, ap, subst, ◌∙◌, inl, inr, arith, length-append}
use Rattle.std.specs.Prelude.{nat_le, ◌||◌, ◌&&◌, if◌then◌else◌}
use Rattle.std.specs.List.{AllByRecursion, list_any}
use Rattle.std.proofs.Math.Seq.{take-append_seam, drop-append_seam, take-append-add, drop-append-add}
use Rattle.std.proofs.lemmas.Bool.{le-leb}
use Rattle.std.proofs.lemmas.List.{append_assoc, take-append-drop, length-take-le, length-drop}
use Rattle.byteorder.specs.Endian.{little_number}
use Rattle.byteorder.specs.Numbers.{little_from-take}
use Rattle.pickle_ops.specs.declared.fault.FrontFault.{FrontFault}
use Rattle.pickle_ops.specs.declared.opcode.Opcode.{Opcode}
use Rattle.pickle_ops.specs.declared.opcode.Opcode.TheVariants as op
use Rattle.pickle_ops.specs.declared.form.Form.{Form}
use Rattle.pickle_ops.specs.declared.form.Form.TheVariants as form
use Rattle.pickle_ops.specs.Table.{code_of, form_of}
use Rattle.pickle_ops.specs.Shape.{is_newline, is_negative, IsLine, IsArg, value_fault}
use Rattle.pickle_ops.specs.Spelling.{Operation, spelling, IsSpelled}
use Rattle.pickle_ops.proofs.TableLemmas.{opcode_of-code}
use Rattle.pickle_doc.specs.declared.item.Item.{Item}
use Rattle.pickle_doc.specs.DocUnit.{DocUnit, Loose, Frame, is_frame, is_stop, frame_item, flat, operations, bytes_of, sizes}
use Rattle.pickle_doc.specs.Document.{IsPlain, IsUnit, open_of, OnlyLastOpen, OnlyLastStops, items_of, document_bytes}
use Rattle.pickle_doc.specs.Place.{ops_of}
use Rattle.pickle_doc.proofs.Opcodes.{number-frame}
use Rattle.pickle_doc.proofs.Units.{length_bytes, sizes-append}
use Rattle.pickle_loader.specs.Reader.{Reader, Piece, from_file, from_frame, read_in, read, one_more, line_at, line_in_file, line_in_frame, read_line_in, read_line, joined, and_then, read_counted, read_signed, read_arg, load_frame_in, behind, fetched, with_arg, with_code, with_key, fetch, Fetches, StopsEndFrames, OpsAreFetched}

-- ---- a reader before bytes

-- in the frame or in the file: the reader before bytes, and the one behind them
pub data Side : Type 0 where
  InFrame : (file : List ℕ) → Side
  InFile : Side

abbrev pub at_side : Side → List ℕ → Reader
at_side (InFrame file) bytes = record { frame = Some bytes; file = file }
at_side InFile bytes = record { frame = None; file = bytes }

abbrev pub piece : Side → List ℕ → List ℕ → Piece
piece s bytes rest = record { bytes = bytes; after = at_side s rest }

fits : (n : ℕ) (xs rest : List ℕ) → length xs ≡ n → nat_le n (length (xs ++ rest)) ≡ true
fits n xs rest e = le-leb n (length (xs ++ rest)) (omega (arith, e, length-append xs rest))

taken : (n : ℕ) (xs rest : List ℕ) → length xs ≡ n → take n (xs ++ rest) ≡ xs
taken n xs rest e = ap (λ (m : ℕ). take m (xs ++ rest)) (sym e) ∙ take-append_seam xs rest

dropped : (n : ℕ) (xs rest : List ℕ) → length xs ≡ n → drop n (xs ++ rest) ≡ rest
dropped n xs rest e = ap (λ (m : ℕ). drop m (xs ++ rest)) (sym e) ∙ drop-append_seam xs rest

pub file_gives : (n : ℕ) (xs rest : List ℕ) → length xs ≡ n → from_file n (xs ++ rest) ≡ Some (piece InFile xs rest)
file_gives n xs rest e =
    ap (λ (b : Bool). if b then Some (record { bytes = take n (xs ++ rest); after = record { frame = None; file = drop n (xs ++ rest) } }) else None) (fits n xs rest e)
    ∙ ap (λ (l : List ℕ). Some (record { bytes = l; after = record { frame = None; file = drop n (xs ++ rest) } })) (taken n xs rest e)
    ∙ ap (λ (l : List ℕ). Some (record { bytes = xs; after = record { frame = None; file = l } })) (dropped n xs rest e)

frame_gives : (file : List ℕ) (n : ℕ) (xs rest : List ℕ) → length xs ≡ n → from_frame n (xs ++ rest) file ≡ Some (piece (InFrame file) xs rest)
frame_gives file n xs rest e =
    ap (λ (b : Bool). if b then Some (record { bytes = take n (xs ++ rest); after = record { frame = Some (drop n (xs ++ rest)); file = file } }) else None) (fits n xs rest e)
    ∙ ap (λ (l : List ℕ). Some (record { bytes = l; after = record { frame = Some (drop n (xs ++ rest)); file = file } })) (taken n xs rest e)
    ∙ ap (λ (l : List ℕ). Some (record { bytes = xs; after = record { frame = Some l; file = file } })) (dropped n xs rest e)

in_frame : (file : List ℕ) (n : ℕ) (xs rest : List ℕ) → length xs ≡ n → read_in n (Some (xs ++ rest)) file ≡ from_frame n (xs ++ rest) file
in_frame file zero xs rest e = refl
in_frame file (suc n) [] rest e = absurd (omega (arith, e))
in_frame file (suc n) (x ∷ xs) rest e = refl

pub reads : (s : Side) (n : ℕ) (xs rest : List ℕ) → length xs ≡ n → read n (at_side s (xs ++ rest)) ≡ Some (piece s xs rest)
reads (InFrame file) n xs rest e = in_frame file n xs rest e ∙ frame_gives file n xs rest e
reads InFile n xs rest e = file_gives n xs rest e

-- ---- lines

neither : (a b : Bool) → (a || b) ≡ false → (a ≡ false) × (b ≡ false)
neither true b e = absurd cc
neither false b e = (refl, e)

pub line_found : (text rest : List ℕ) → list_any is_newline text ≡ false → line_at (text ++ 10 ∷ rest) ≡ Some (record { text = text; rest = rest })
line_found [] rest e = refl
line_found (b ∷ text) rest e =
    let no_one = neither (is_newline b) (list_any is_newline text) e in
    ap (λ (c : Bool). if c then Some (record { text = []; rest = text ++ 10 ∷ rest }) else one_more b (line_at (text ++ 10 ∷ rest))) no_one.0
    ∙ ap (one_more b) (line_found text rest no_one.1)

some_frame : (file text rest : List ℕ) → read_line_in (Some (text ++ 10 ∷ rest)) file ≡ line_in_frame file (line_at (text ++ 10 ∷ rest))
some_frame file [] rest = refl
some_frame file (b ∷ text) rest = refl

reads_text : (s : Side) (text rest : List ℕ) → list_any is_newline text ≡ false → read_line (at_side s (text ++ 10 ∷ rest)) ≡ Some (piece s (text ++ 10 ∷ []) rest)
reads_text (InFrame file) text rest e = some_frame file text rest ∙ ap (line_in_frame file) (line_found text rest e)
reads_text InFile text rest e = ap (line_in_file (text ++ 10 ∷ rest)) (line_found text rest e)

pub reads_line : (s : Side) (arg rest : List ℕ) → IsLine arg → read_line (at_side s (arg ++ rest)) ≡ Some (piece s arg rest)
reads_line s arg rest (text, clean, is) =
    ap (λ (l : List ℕ). read_line (at_side s (l ++ rest))) is
    ∙ ap (λ (l : List ℕ). read_line (at_side s l)) (append_assoc text (10 ∷ []) rest)
    ∙ reads_text s text rest clean
    ∙ ap (λ (l : List ℕ). Some (piece s l rest)) (sym is)

-- ---- arguments

-- a piece and another
reads_both : (s : Side) (first second rest : List ℕ) (r : Option Piece) (more : List ℕ → Reader → Option Piece) → r ≡ Some (piece s first (second ++ rest)) → more first (at_side s (second ++ rest)) ≡ Some (piece s second rest)
    → and_then r more ≡ Some (piece s (first ++ second) rest)
reads_both s first second rest r more e f = ap (λ (x : Option Piece). and_then x more) e ∙ ap (joined first) f

-- a length, and what it counts
counted_by : (s : Side) (width : ℕ) (size arg rest : List ℕ) (more : List ℕ → Reader → Option Piece) → length size ≡ width → more size (at_side s (arg ++ rest)) ≡ Some (piece s arg rest)
    → and_then (read width (at_side s ((size ++ arg) ++ rest))) more ≡ Some (piece s (size ++ arg) rest)
counted_by s width size arg rest more e f =
    ap (λ (l : List ℕ). and_then (read width (at_side s l)) more) (append_assoc size arg rest) ∙ reads_both s size arg rest (read width (at_side s (size ++ (arg ++ rest)))) more (reads s width size (arg ++ rest) e) f

reads_counted : (s : Side) (width : ℕ) (arg rest : List ℕ) → ((l : List ℕ) → little_number width (take width l) ≡ little_number width l) → width ≤ length arg → length arg ≡ width + little_number width arg
    → read_counted width (at_side s (arg ++ rest)) ≡ Some (piece s arg rest)
reads_counted s width arg rest front h e =
    let whole : take width arg ++ drop width arg ≡ arg = take-append-drop width arg in
    let size : length (drop width arg) ≡ little_number width (take width arg) = omega (arith, length-drop width arg, h, e, front arg) in
    ap (λ (l : List ℕ). read_counted width (at_side s (l ++ rest))) (sym whole)
    ∙ counted_by s width (take width arg) (drop width arg) rest (λ bytes q. read (little_number width bytes) q) (length-take-le width arg h) (reads s (little_number width (take width arg)) (drop width arg) rest size)
    ∙ ap (λ (l : List ℕ). Some (piece s l rest)) whole

-- a length that is not below 0
pub fault_none : (b : Bool) (f : FrontFault) → (if b then Some f else None) ≡ None → b ≡ false
fault_none true f e = absurd cc
fault_none false f e = refl

signed_by : (s : Side) (b : Bool) (width : ℕ) (n : ℕ) (arg rest : List ℕ) → b ≡ false → length arg ≡ n → (if b then None else read n (at_side s (arg ++ rest))) ≡ Some (piece s arg rest)
signed_by s true width n arg rest e f = absurd cc
signed_by s false width n arg rest e f = reads s n arg rest f

reads_signed : (s : Side) (arg rest : List ℕ) → 4 ≤ length arg → length arg ≡ 4 + (if is_negative arg then 0 else little_number 4 arg) → is_negative arg ≡ false
    → read_signed (at_side s (arg ++ rest)) ≡ Some (piece s arg rest)
reads_signed s arg rest h e positive =
    let whole : take 4 arg ++ drop 4 arg ≡ arg = take-append-drop 4 arg in
    let front : little_number 4 (take 4 arg) ≡ little_number 4 arg = little_from-take 0 4 4 arg (omega arith) in
    let all : length arg ≡ 4 + little_number 4 arg = e ∙ ap (λ (b : Bool). 4 + (if b then 0 else little_number 4 arg)) positive in
    let size : length (drop 4 arg) ≡ little_number 4 (take 4 arg) = omega (arith, length-drop 4 arg, h, all, front) in
    let no_sign : is_negative (take 4 arg) ≡ false = ap (λ (n : ℕ). nat_le (2 ^ 31) n) front ∙ positive in
    ap (λ (l : List ℕ). read_signed (at_side s (l ++ rest))) (sym whole)
    ∙ counted_by s 4 (take 4 arg) (drop 4 arg) rest (λ bytes q. if is_negative bytes then None else read (little_number 4 bytes) q) (length-take-le 4 arg h)
    (signed_by s (is_negative (take 4 arg)) 4 (little_number 4 (take 4 arg)) (drop 4 arg) rest no_sign size)
    ∙ ap (λ (l : List ℕ). Some (piece s l rest)) whole

reads_none : (s : Side) (arg rest : List ℕ) → length arg ≡ 0 → read_arg form.Empty (at_side s (arg ++ rest)) ≡ Some (piece s arg rest)
reads_none s [] rest e = refl
reads_none s (b ∷ arg) rest e = absurd (omega (arith, e))

pub front_number : (w : ℕ) (l : List ℕ) → little_number w (take w l) ≡ little_number w l
front_number w l = little_from-take 0 w w l (omega arith)

reads_two : (s : Side) (first second rest : List ℕ) → IsLine first → IsLine second → read_arg form.Two (at_side s ((first ++ second) ++ rest)) ≡ Some (piece s (first ++ second) rest)
reads_two s first second rest a b =
    ap (λ (l : List ℕ). read_arg form.Two (at_side s l)) (append_assoc first second rest)
    ∙ reads_both s first second rest (read_line (at_side s (first ++ (second ++ rest)))) (λ bytes q. read_line q) (reads_line s first (second ++ rest) a) (reads_line s second rest b)

-- an argument is read whole, whatever follows
pub reads_arg : (s : Side) (f : Form) (arg rest : List ℕ) → IsArg f arg → value_fault f arg ≡ None → read_arg f (at_side s (arg ++ rest)) ≡ Some (piece s arg rest)
reads_arg s form.Empty arg rest h v = reads_none s arg rest h
reads_arg s form.Uint1 arg rest h v = reads s 1 arg rest h
reads_arg s form.Uint2 arg rest h v = reads s 2 arg rest h
reads_arg s form.Uint4 arg rest h v = reads s 4 arg rest h
reads_arg s form.Uint8 arg rest h v = reads s 8 arg rest h
reads_arg s form.Int4 arg rest h v = reads s 4 arg rest h
reads_arg s form.Float8 arg rest h v = reads s 8 arg rest h
reads_arg s form.Line arg rest h v = reads_line s arg rest h
reads_arg s form.Quoted arg rest h v = reads_line s arg rest h
reads_arg s form.Decimal arg rest h v = reads_line s arg rest h
reads_arg s form.Two arg rest (first, second, a, b, is) v =
    ap (λ (l : List ℕ). read_arg form.Two (at_side s (l ++ rest))) is ∙ reads_two s first second rest a b ∙ ap (λ (l : List ℕ). Some (piece s l rest)) (sym is)
reads_arg s form.Bytes1 arg rest (h, e) v = reads_counted s 1 arg rest (front_number 1) h e
reads_arg s form.Bytes4 arg rest (h, e) v = reads_counted s 4 arg rest (front_number 4) h e
reads_arg s form.Bytes8 arg rest (h, e) v = reads_counted s 8 arg rest (front_number 8) h e
reads_arg s form.String4 arg rest (h, e) v = reads_signed s arg rest h e (fault_none (is_negative arg) _ v)

-- ---- opcodes

pub fetches_op : (s : Side) (o : Operation) (rest : List ℕ) → IsSpelled o → fetch (at_side s (spelling o ++ rest)) ≡ fetched o (behind o.opcode o.arg (at_side s rest))
fetches_op s o rest spelled =
    ap with_key (reads s 1 (code_of o.opcode ∷ []) (o.arg ++ rest) refl)
    ∙ ap (λ (x : Option Opcode). with_code x (at_side s (o.arg ++ rest))) (opcode_of-code o.opcode)
    ∙ ap (with_arg o.opcode) (reads_arg s (form_of o.opcode) o.arg rest spelled.arg spelled.value)

-- in the file no opcode but FRAME does anything
pub stays_in_file : (o : Opcode) (arg rest : List ℕ) → is_frame o ≡ false → behind o arg (at_side InFile rest) ≡ Some (at_side InFile rest)
stays_in_file op.Frame arg rest e = absurd cc
stays_in_file op.Stop arg rest e = refl
stays_in_file _ arg rest e = refl

-- in a frame STOP leaves it besides
pub stays_in_frame : (o : Opcode) (arg rest file : List ℕ) → is_frame o ≡ false → is_stop o ≡ false → behind o arg (at_side (InFrame file) rest) ≡ Some (at_side (InFrame file) rest)
stays_in_frame op.Frame arg rest file e f = absurd cc
stays_in_frame op.Stop arg rest file e f = absurd cc
stays_in_frame _ arg rest file e f = refl

pub leaves_frame : (o : Opcode) (arg rest file : List ℕ) → is_stop o ≡ true → behind o arg (at_side (InFrame file) rest) ≡ Some (at_side InFile file)
leaves_frame op.Stop arg rest file e = refl
leaves_frame _ arg rest file e = absurd cc

goes_on : (b : Bool) → (b && true) ≡ false → b ≡ false
goes_on true e = e
goes_on false e = refl

-- ---- members

-- a frame at its end is left
frame_ends : (most : ℕ) (ops : List Operation) (file : List ℕ) → Fetches most (at_side InFile file) ops → Fetches most (at_side (InFrame file) []) ops
frame_ends most [] file h = h
frame_ends most (o ∷ ops) file (after, is, more) = (after, is, more)

last_member : (most : ℕ) (b : Bool) (i : Item) (rest file : List ℕ) (ops : List Operation) → IsPlain false i → is_stop i.op.opcode ≡ b → Fetches most (at_side (InFrame file) rest) ops → Fetches most (at_side InFile file) ops
    → Fetches most (at_side (InFrame file) (spelling i.op ++ rest)) (i.op ∷ ops)
last_member most true i rest file ops plain is here left = (at_side InFile file, fetches_op (InFrame file) i.op rest plain.spelled ∙ ap (fetched i.op) (leaves_frame i.op.opcode i.op.arg rest file is), left)
last_member most false i rest file ops plain is here left = (at_side (InFrame file) rest, fetches_op (InFrame file) i.op rest plain.spelled ∙ ap (fetched i.op) (stays_in_frame i.op.opcode i.op.arg rest file plain.no_frame is), here)

members_fetched : (most : ℕ) (members : List Item) (rest file : List ℕ) (ops : List Operation) → AllByRecursion (IsPlain false) members → OnlyLastStops false members → Fetches most (at_side (InFrame file) rest) ops → Fetches most (at_side InFile file) ops
    → Fetches most (at_side (InFrame file) (bytes_of (operations members) ++ rest)) (operations members ++ ops)
members_fetched most [] rest file ops plain only here left = here
members_fetched most (i ∷ []) rest file ops plain only here left =
    subst (λ (l : List ℕ). Fetches most (at_side (InFrame file) l) (i.op ∷ ops)) (sym (append_assoc (spelling i.op) [] rest)) (last_member most (is_stop i.op.opcode) i rest file ops plain.0 refl here left)
members_fetched most (i ∷ j ∷ members) rest file ops plain only here left =
    let more = members_fetched most (j ∷ members) rest file ops plain.1 only.1 here left in
    let behind_it : List ℕ = bytes_of (operations (j ∷ members)) ++ rest in
    subst (λ (l : List ℕ). Fetches most (at_side (InFrame file) l) (i.op ∷ (operations (j ∷ members) ++ ops))) (sym (append_assoc (spelling i.op) (bytes_of (operations (j ∷ members))) rest)) (
      at_side (InFrame file) behind_it,
      fetches_op (InFrame file) i.op behind_it plain.0.spelled ∙ ap (fetched i.op) (stays_in_frame i.op.opcode i.op.arg behind_it file plain.0.no_frame (goes_on (is_stop i.op.opcode) only.0)),
      more,
    )

-- ---- units

bytes_joined : (xs ys : List Item) → bytes_of (operations (xs ++ ys)) ≡ bytes_of (operations xs) ++ bytes_of (operations ys)
bytes_joined [] ys = refl
bytes_joined (i ∷ xs) ys = ap (λ (l : List ℕ). spelling i.op ++ l) (bytes_joined xs ys) ∙ sym (append_assoc (spelling i.op) (bytes_of (operations xs)) (bytes_of (operations ys)))

ops_joined : (xs ys : List Item) → operations (xs ++ ys) ≡ operations xs ++ operations ys
ops_joined [] ys = refl
ops_joined (i ∷ xs) ys = ap (λ (l : List Operation). i.op ∷ l) (ops_joined xs ys)

pub open_rest : (u : DocUnit) (units : List DocUnit) → OnlyLastOpen (u ∷ units) → OnlyLastOpen units
open_rest u [] h = tt
open_rest u (v ∷ units) h = h.1

pub open_more : (u : DocUnit) (units : List DocUnit) (n : ℕ) → open_of (u ∷ units) ≤ n → open_of units ≤ n
open_more u [] n h = omega arith
open_more u (v ∷ units) n h = h

-- no frame claims more than the last
pub extra_within : (id : ℕ) (members : List Item) (extra : ℕ) (units : List DocUnit) (n : ℕ) → OnlyLastOpen (Frame id members extra ∷ units) → open_of (Frame id members extra ∷ units) ≤ n → extra ≤ n
extra_within id members extra [] n only reach = reach
extra_within id members extra (v ∷ units) n only reach = let none : extra ≡ 0 = only.0 in omega (arith, none)

spelled_frame : (id n : ℕ) → IsSpelled (frame_item id n).op
spelled_frame id n = record { arg = refl; value = refl }

-- what is behind a frame: nothing, or units, where it ends with its members
behind_frame : (most : ℕ) (extra : ℕ) (units : List DocUnit) (tail : List ℕ) (id : ℕ) (members : List Item) → OnlyLastOpen (Frame id members extra ∷ units) → Fetches most (at_side InFile (bytes_of (operations (flat units)) ++ tail)) (operations (flat units))
    → Fetches most (at_side (InFrame (drop extra (bytes_of (operations (flat units)) ++ tail))) (take extra (bytes_of (operations (flat units)) ++ tail))) (operations (flat units))
    × Fetches most (at_side InFile (drop extra (bytes_of (operations (flat units)) ++ tail))) (operations (flat units))
behind_frame most extra [] tail id members only more =
    let all : length (take extra tail) + length (drop extra tail) ≡ length tail = omega (arith, ap length (take-append-drop extra tail), length-append (take extra tail) (drop extra tail)) in
    (omega (arith, more, all), omega (arith, more, all))
behind_frame most extra (v ∷ units) tail id members only more =
    let rest : List ℕ = bytes_of (operations (flat (v ∷ units))) ++ tail in
    let none : 0 ≡ extra = sym only.0 in
    subst (λ (n : ℕ). Fetches most (at_side (InFrame (drop n rest)) (take n rest)) (operations (flat (v ∷ units))) × Fetches most (at_side InFile (drop n rest)) (operations (flat (v ∷ units)))) none
    (frame_ends most (operations (flat (v ∷ units))) rest more, more)

frame_fetched : (most : ℕ) (id : ℕ) (members : List Item) (extra : ℕ) (items : List Item) (tail : List ℕ) → AllByRecursion (IsPlain false) members → OnlyLastStops false members → sizes members + extra < 2 ^ 64
    → Fetches most (at_side (InFrame (drop extra (bytes_of (operations items) ++ tail))) (take extra (bytes_of (operations items) ++ tail))) (operations items)
    → Fetches most (at_side InFile (drop extra (bytes_of (operations items) ++ tail))) (operations items)
    → Fetches most (at_side InFile (bytes_of (operations (frame_item id (sizes members + extra) ∷ (members ++ items))) ++ tail)) (operations (frame_item id (sizes members + extra) ∷ (members ++ items)))
frame_fetched most id members extra items tail plain only small here left =
    let number : ℕ = sizes members + extra in
    let o : Operation = (frame_item id number).op in
    let inside : List ℕ = bytes_of (operations members) in
    let outside : List ℕ = bytes_of (operations items) ++ tail in
    let rest : List ℕ = bytes_of (operations (members ++ items)) ++ tail in
    let parts : rest ≡ inside ++ outside = ap (λ (l : List ℕ). l ++ tail) (bytes_joined members items) ∙ append_assoc inside (bytes_of (operations items)) tail in
    let size : number ≡ length inside + extra = omega (arith, length_bytes members) in
    let front : take number rest ≡ inside ++ take extra outside = ap (take number) parts ∙ ap (λ (n : ℕ). take n (inside ++ outside)) size ∙ take-append-add inside outside extra in
    let back : drop number rest ≡ drop extra outside = ap (drop number) parts ∙ ap (λ (n : ℕ). drop n (inside ++ outside)) size ∙ drop-append-add inside outside extra in
    let after : Reader = at_side (InFrame (drop extra outside)) (inside ++ take extra outside) in
    let frame : behind o.opcode o.arg (at_side InFile rest) ≡ Some after =
    ap (λ (n : ℕ). load_frame_in None n rest) (number-frame id number small)
    ∙ ap (λ (l : List ℕ). Some (record { frame = Some l; file = drop number rest })) front
    ∙ ap (λ (l : List ℕ). Some (record { frame = Some (inside ++ take extra outside); file = l })) back in
    let more : Fetches most after (operations (members ++ items)) = subst (λ (ops : List Operation). Fetches most after ops) (sym (ops_joined members items)) (members_fetched most members (take extra outside) (drop extra outside) (operations items) plain only here left) in
    subst (λ (l : List ℕ). Fetches most (at_side InFile l) (o ∷ operations (members ++ items))) (sym (append_assoc (spelling o) (bytes_of (operations (members ++ items))) tail))
    (after, fetches_op InFile o rest (spelled_frame id number) ∙ ap (fetched o) frame, more)

units_fetched : (most : ℕ) (units : List DocUnit) (tail : List ℕ) → length tail ≤ most → AllByRecursion (IsUnit false) units → OnlyLastOpen units → StopsEndFrames units → open_of units ≤ length tail → sizes (flat units) + length tail < 2 ^ 64
    → Fetches most (at_side InFile (bytes_of (operations (flat units)) ++ tail)) (operations (flat units))
units_fetched most [] tail few plain only ends reach small = omega (arith, few)
units_fetched most (Loose i ∷ units) tail few plain only ends reach small =
    let more = units_fetched most units tail few plain.1 (open_rest (Loose i) units only) ends.1 (open_more (Loose i) units (length tail) reach) (omega (arith, small)) in
    let rest : List ℕ = bytes_of (operations (flat units)) ++ tail in
    subst (λ (l : List ℕ). Fetches most (at_side InFile l) (i.op ∷ operations (flat units))) (sym (append_assoc (spelling i.op) (bytes_of (operations (flat units))) tail))
    (at_side InFile rest, fetches_op InFile i.op rest plain.0.spelled ∙ ap (fetched i.op) (stays_in_file i.op.opcode i.op.arg rest plain.0.no_frame), more)
units_fetched most (Frame id members extra ∷ units) tail few plain only ends reach small =
    let sum : sizes (flat (Frame id members extra ∷ units)) ≡ 9 + sizes (members ++ flat units) = refl in
    let fewer : sizes (flat units) + length tail < 2 ^ 64 = omega (arith, small, sum, sizes-append members (flat units)) in
    let more = units_fetched most units tail few plain.1 (open_rest (Frame id members extra) units only) ends.1 (open_more (Frame id members extra) units (length tail) reach) fewer in
    let both = behind_frame most extra units tail id members only more in
    let extra_small : extra ≤ length tail = extra_within id members extra units (length tail) only reach in
    frame_fetched most id members extra (flat units) tail plain.0.0 ends.0 (omega (arith, small, sum, sizes-append members (flat units), extra_small)) both.0 both.1

-- ---- one pickle

only_tail : (i : Item) (items : List Item) → OnlyLastStops false (i ∷ items) → OnlyLastStops false items
only_tail i [] h = tt
only_tail i (j ∷ items) h = h.1

only_left : (xs ys : List Item) → OnlyLastStops false (xs ++ ys) → OnlyLastStops false xs
only_left [] ys h = tt
only_left (i ∷ []) ys h = tt
only_left (i ∷ j ∷ xs) ys h = (h.0, only_left (j ∷ xs) ys h.1)

only_right : (xs ys : List Item) → OnlyLastStops false (xs ++ ys) → OnlyLastStops false ys
only_right [] ys h = h
only_right (i ∷ xs) ys h = only_right xs ys (only_tail i (xs ++ ys) h)

one_ends : (units : List DocUnit) → OnlyLastStops false (flat units) → StopsEndFrames units
one_ends [] h = tt
one_ends (Loose i ∷ units) h = (tt, one_ends units (only_tail i (flat units) h))
one_ends (Frame id members extra ∷ units) h =
    let inner = only_tail (frame_item id (sizes members + extra)) (members ++ flat units) h in
    (only_left members (flat units) inner, one_ends units (only_right members (flat units) inner))

pub ops_are_fetched : OpsAreFetched
ops_are_fetched d formed framed small which =
    let size : length (document_bytes d) ≡ length (bytes_of (ops_of d)) + length d.tail = length-append (bytes_of (ops_of d)) d.tail in
    units_fetched (length d.tail) d.units d.tail (omega arith) (subst (λ (w : Bool). AllByRecursion (IsUnit w) d.units) framed formed.units) formed.last_open
    (elim which [
      | inl one ↦ one_ends d.units (subst (λ (b : Bool). OnlyLastStops b (items_of d)) one formed.last_stops)
      | inr ends ↦ ends
    ])
    formed.reach (omega (arith, small, size, length_bytes (items_of d)))
