-- Frames only end a reading: what is read in them is what is read without them.
use Rattle.std.proofs.Common.{◌≡◌, ℕ, zero, suc, ◌-◌, ◌≤◌, Bool, true, false, List, [], ◌∷◌, ◌++◌, length, take, drop, Option, Some, None, refl, sym, ap, subst, ◌∙◌, arith, length-append}
use Rattle.std.specs.Prelude.{nat_le, if◌then◌else◌}
use Rattle.std.proofs.lemmas.Bool.{leb-true, le-leb}
use Rattle.std.proofs.lemmas.List.{take-append-drop}
use Rattle.byteorder.specs.Endian.{little_number}
use Rattle.pickle_ops.specs.declared.opcode.Opcode.{Opcode}
use Rattle.pickle_ops.specs.declared.opcode.Opcode.TheVariants as op
use Rattle.pickle_ops.specs.declared.form.Form.{Form}
use Rattle.pickle_ops.specs.declared.form.Form.TheVariants as form
use Rattle.pickle_ops.specs.Table.{form_of, opcode_of}
use Rattle.pickle_ops.specs.Shape.{is_newline, is_negative}
use Rattle.pickle_ops.specs.Spelling.{Operation}
use Rattle.pickle_doc.specs.DocUnit.{is_stop}
use Rattle.pickle_loader.specs.Reader.{Reader, Piece, Line, from_file, read_in, read, one_more, line_at, line_in_file, line_in_frame, read_line_in, read_line, joined, and_then, read_arg, Fetch, load_frame_in, behind, fetched, with_arg, with_code, first_byte, with_key, opened, frame_bytes, all_left, FramesOnlyEnd}
use Rattle.pickle_loader.proofs.Cuts.{drop_zero}

-- a piece as it is read without frames
abbrev flat : Piece → Piece
flat p = record { bytes = p.bytes; after = opened (all_left p.after) }

-- ---- bytes

take_front : (n : ℕ) (xs ys : List ℕ) → n ≤ length xs → take n (xs ++ ys) ≡ take n xs
take_front zero [] ys h = none ys
  where
    none : (ys : List ℕ) → take 0 ys ≡ []
    none [] = refl
    none (y ∷ ys) = refl
take_front zero (x ∷ xs) ys h = refl
take_front (suc n) [] ys h = absurd (omega (arith, h))
take_front (suc n) (x ∷ xs) ys h = ap (λ (l : List ℕ). x ∷ l) (take_front n xs ys (omega (arith, h)))

drop_front : (n : ℕ) (xs ys : List ℕ) → n ≤ length xs → drop n (xs ++ ys) ≡ drop n xs ++ ys
drop_front zero [] ys h = drop_zero ys
drop_front zero (x ∷ xs) ys h = refl
drop_front (suc n) [] ys h = absurd (omega (arith, h))
drop_front (suc n) (x ∷ xs) ys h = drop_front n xs ys (omega (arith, h))

some_piece : (a b : Piece) (x : Option Piece) → x ≡ Some a → x ≡ Some b → a ≡ b
some_piece a b (Some x) e f = let one : x ≡ a = cc in let two : x ≡ b = cc in sym one ∙ two
some_piece a b None e f = absurd cc

in_frame : (b : Bool) (n : ℕ) (frame file : List ℕ) (p : Piece) → nat_le n (length frame) ≡ b → (if b then Some (record { bytes = take n frame; after = record { frame = Some (drop n frame); file = file } }) else None) ≡ Some p
    → from_file n (frame ++ file) ≡ Some (flat p)
in_frame true n frame file p is e =
    let within : n ≤ length frame = leb-true n (length frame) is in
    let there : Piece = record { bytes = take n frame; after = record { frame = Some (drop n frame); file = file } } in
    let same : there ≡ p = some_piece there p (Some there) refl e in
    ap (λ (c : Bool). if c then Some (record { bytes = take n (frame ++ file); after = record { frame = None; file = drop n (frame ++ file) } }) else None) (le-leb n (length (frame ++ file)) (omega (arith, within, length-append frame file)))
    ∙ ap (λ (l : List ℕ). Some (record { bytes = l; after = record { frame = None; file = drop n (frame ++ file) } })) (take_front n frame file within)
    ∙ ap (λ (l : List ℕ). Some (record { bytes = take n frame; after = record { frame = None; file = l } })) (drop_front n frame file within)
    ∙ ap (λ (x : Piece). Some (flat x)) same
in_frame false n frame file p is e = absurd cc

in_file : (b : Bool) (n : ℕ) (file : List ℕ) (p : Piece) → (if b then Some (record { bytes = take n file; after = record { frame = None; file = drop n file } }) else None) ≡ Some p → flat p ≡ p
in_file true n file p e =
    let there : Piece = record { bytes = take n file; after = record { frame = None; file = drop n file } } in
    let same : there ≡ p = some_piece there p (Some there) refl e in
    subst (λ (x : Piece). flat x ≡ x) same refl
in_file false n file p e = absurd cc

from_file_flat : (n : ℕ) (file : List ℕ) (p : Piece) → from_file n file ≡ Some p → from_file n file ≡ Some (flat p)
from_file_flat n file p e = e ∙ ap Some (sym (in_file (nat_le n (length file)) n file p e))

read_flat : (n : ℕ) (frame : Option (List ℕ)) (file : List ℕ) (p : Piece) → read_in n frame file ≡ Some p → from_file n (frame_bytes frame ++ file) ≡ Some (flat p)
read_flat n None file p e = from_file_flat n file p e
read_flat zero (Some frame) file p e = in_frame (nat_le 0 (length frame)) 0 frame file p refl e
read_flat (suc n) (Some []) file p e = from_file_flat (suc n) file p e
read_flat (suc n) (Some (b ∷ frame)) file p e = in_frame (nat_le (suc n) (length (b ∷ frame))) (suc n) (b ∷ frame) file p refl e

-- ---- lines

some_line : (a b : Line) (x : Option Line) → x ≡ Some a → x ≡ Some b → a ≡ b
some_line a b (Some x) e f = let one : x ≡ a = cc in let two : x ≡ b = cc in sym one ∙ two
some_line a b None e f = absurd cc

longer : Line → List ℕ → Line
longer l ys = record { text = l.text; rest = l.rest ++ ys }

one_longer : (b : ℕ) (x y : Option Line) (ys : List ℕ) (l : Line) → one_more b x ≡ Some l → ((m : Line) → x ≡ Some m → y ≡ Some (longer m ys)) → one_more b y ≡ Some (longer l ys)
unfolding longer
one_longer b None y ys l e more = absurd cc
one_longer b (Some m) y ys l e more =
    let there : Line = record { text = b ∷ m.text; rest = m.rest } in
    let same : there ≡ l = some_line there l (Some there) refl e in
    ap (one_more b) (more m refl) ∙ ap (λ (x : Line). Some (longer x ys)) same

line_by : (c : Bool) (b : ℕ) (xs ys : List ℕ) (x y : Option Line) (l : Line) → (if c then Some (record { text = []; rest = xs }) else one_more b x) ≡ Some l → ((m : Line) → x ≡ Some m → y ≡ Some (longer m ys))
    → (if c then Some (record { text = []; rest = xs ++ ys }) else one_more b y) ≡ Some (longer l ys)
unfolding longer
line_by true b xs ys x y l e more =
    let there : Line = record { text = []; rest = xs } in
    ap (λ (z : Line). Some (longer z ys)) (some_line there l (Some there) refl e)
line_by false b xs ys x y l e more = one_longer b x y ys l e more

line_longer : (xs ys : List ℕ) (l : Line) → line_at xs ≡ Some l → line_at (xs ++ ys) ≡ Some (longer l ys)
line_longer [] ys l e = absurd cc
line_longer (b ∷ xs) ys l e = line_by (is_newline b) b xs ys (line_at xs) (line_at (xs ++ ys)) l e (λ m f. line_longer xs ys m f)

file_line : (file : List ℕ) (x : Option Line) (p : Piece) → line_in_file file x ≡ Some p → flat p ≡ p
file_line file (Some l) p e =
    let there : Piece = record { bytes = l.text ++ 10 ∷ []; after = record { frame = None; file = l.rest } } in
    subst (λ (x : Piece). flat x ≡ x) (some_piece there p (Some there) refl e) refl
file_line file None p e =
    let there : Piece = record { bytes = take (length file - 1) file ++ 10 ∷ []; after = record { frame = None; file = [] } } in
    subst (λ (x : Piece). flat x ≡ x) (some_piece there p (Some there) refl e) refl

frame_line : (frame file : List ℕ) (x : Option Line) (p : Piece) → line_at frame ≡ x → line_in_frame file x ≡ Some p → line_in_file (frame ++ file) (line_at (frame ++ file)) ≡ Some (flat p)
unfolding longer
frame_line frame file None p is e = absurd cc
frame_line frame file (Some l) p is e =
    let there : Piece = record { bytes = l.text ++ 10 ∷ []; after = record { frame = Some l.rest; file = file } } in
    ap (line_in_file (frame ++ file)) (line_longer frame file l is) ∙ ap (λ (x : Piece). Some (flat x)) (some_piece there p (Some there) refl e)

line_flat : (frame : Option (List ℕ)) (file : List ℕ) (p : Piece) → read_line_in frame file ≡ Some p → line_in_file (frame_bytes frame ++ file) (line_at (frame_bytes frame ++ file)) ≡ Some (flat p)
line_flat None file p e = e ∙ ap Some (sym (file_line file (line_at file) p e))
line_flat (Some []) file p e = e ∙ ap Some (sym (file_line file (line_at file) p e))
line_flat (Some (b ∷ frame)) file p e = frame_line (b ∷ frame) file (line_at (b ∷ frame)) p refl e

-- ---- arguments

-- a reading is the same without frames
abbrev IsFlat : (Reader → Option Piece) → Type 0
IsFlat f = (r : Reader) (p : Piece) → f r ≡ Some p → f (opened (all_left r)) ≡ Some (flat p)

flat_read : (n : ℕ) → IsFlat (read n)
flat_read n r p e = read_flat n r.frame r.file p e

flat_line : IsFlat read_line
flat_line r p e = line_flat r.frame r.file p e

both_by : (x : Option Piece) (more : List ℕ → Reader → Option Piece) (p : Piece) → and_then x more ≡ Some p → (first : Piece) × (x ≡ Some first) × (joined first.bytes (more first.bytes first.after) ≡ Some p)
both_by None more p e = absurd cc
both_by (Some first) more p e = (first, refl, e)

join_by : (front : List ℕ) (x y : Option Piece) (p : Piece) → joined front x ≡ Some p → ((second : Piece) → x ≡ Some second → y ≡ Some (flat second)) → joined front y ≡ Some (flat p)
join_by front None y p e more = absurd cc
join_by front (Some second) y p e more =
    let there : Piece = record { bytes = front ++ second.bytes; after = second.after } in
    ap (joined front) (more second refl) ∙ ap (λ (x : Piece). Some (flat x)) (some_piece there p (Some there) refl e)

flat_both : (f : Reader → Option Piece) (more : List ℕ → Reader → Option Piece) → IsFlat f → ((bytes : List ℕ) → IsFlat (more bytes)) → IsFlat (λ r. and_then (f r) more)
flat_both f more one two r p e =
    let first = both_by (f r) more p e in
    ap (λ (x : Option Piece). and_then x more) (one r first.0 first.1)
    ∙ join_by first.0.bytes (more first.0.bytes first.0.after) (more first.0.bytes (opened (all_left first.0.after))) p first.2 (λ second g. two first.0.bytes first.0.after second g)

flat_if : (b : Bool) (f : Reader → Option Piece) → IsFlat f → IsFlat (λ r. if b then None else f r)
flat_if true f one r p e = absurd cc
flat_if false f one r p e = one r p e

flat_arg : (f : Form) → IsFlat (read_arg f)
flat_arg form.Empty r p e =
    let there : Piece = record { bytes = []; after = r } in
    ap (λ (x : Piece). Some (flat x)) (some_piece there p (Some there) refl e)
flat_arg form.Uint1 r p e = flat_read 1 r p e
flat_arg form.Uint2 r p e = flat_read 2 r p e
flat_arg form.Uint4 r p e = flat_read 4 r p e
flat_arg form.Uint8 r p e = flat_read 8 r p e
flat_arg form.Int4 r p e = flat_read 4 r p e
flat_arg form.Float8 r p e = flat_read 8 r p e
flat_arg form.Line r p e = flat_line r p e
flat_arg form.Quoted r p e = flat_line r p e
flat_arg form.Decimal r p e = flat_line r p e
flat_arg form.Two r p e = flat_both read_line (λ bytes q. read_line q) flat_line (λ bytes. flat_line) r p e
flat_arg form.Bytes1 r p e = flat_both (read 1) (λ size q. read (little_number 1 size) q) (flat_read 1) (λ size. flat_read (little_number 1 size)) r p e
flat_arg form.Bytes4 r p e = flat_both (read 4) (λ size q. read (little_number 4 size) q) (flat_read 4) (λ size. flat_read (little_number 4 size)) r p e
flat_arg form.Bytes8 r p e = flat_both (read 8) (λ size q. read (little_number 8 size) q) (flat_read 8) (λ size. flat_read (little_number 8 size)) r p e
flat_arg form.String4 r p e =
    flat_both (read 4) (λ size q. if is_negative size then None else read (little_number 4 size) q) (flat_read 4) (λ size. flat_if (is_negative size) (read (little_number 4 size)) (flat_read (little_number 4 size))) r p e

-- ---- opcodes

-- behind an opcode nothing is lost but at STOP
Behind : Opcode → List ℕ → Reader → Reader → Type 0
Behind o arg r after = (more : Reader) × (behind o arg (opened (all_left r)) ≡ Some more) × (is_stop o ≡ false → all_left more ≡ all_left after)

some_reader : (a b : Reader) (x : Option Reader) → x ≡ Some a → x ≡ Some b → a ≡ b
some_reader a b (Some x) e f = let one : x ≡ a = cc in let two : x ≡ b = cc in sym one ∙ two
some_reader a b None e f = absurd cc

begun_frame : (n : ℕ) (frame : Option (List ℕ)) (file : List ℕ) (after : Reader) → load_frame_in frame n file ≡ Some after → frame_bytes frame ++ file ≡ all_left after
begun_frame n None file after e =
    let there : Reader = record { frame = Some (take n file); file = drop n file } in
    sym (take-append-drop n file) ∙ ap all_left (some_reader there after (Some there) refl e)
begun_frame n (Some []) file after e =
    let there : Reader = record { frame = Some (take n file); file = drop n file } in
    sym (take-append-drop n file) ∙ ap all_left (some_reader there after (Some there) refl e)
begun_frame n (Some (b ∷ frame)) file after e = absurd cc

behind_flat : (o : Opcode) (arg : List ℕ) (r after : Reader) → behind o arg r ≡ Some after → Behind o arg r after
unfolding Behind
behind_flat op.Frame arg r after e =
    let n : ℕ = little_number 8 arg in
    (record { frame = Some (take n (all_left r)); file = drop n (all_left r) }, refl, λ runs. take-append-drop n (all_left r) ∙ begun_frame n r.frame r.file after e)
behind_flat op.Stop arg r after e = (opened (all_left r), refl, λ runs. absurd cc)
behind_flat _ arg r after e = (opened (all_left r), refl, λ runs. ap all_left (some_reader r after (Some r) refl e))

-- an opcode was read of these parts
record Parts (r after : Reader) (o : Operation) : Type 0 where
  key : Piece
  code : Opcode
  arg : Piece
  keyed : read 1 r ≡ Some key
  coded : opcode_of (first_byte key.bytes) ≡ Some code
  argued : read_arg (form_of code) key.after ≡ Some arg
  moved : behind code arg.bytes arg.after ≡ Some after
  is : record { opcode = code; arg = arg.bytes } ≡ o

fetch_same : (a b : Operation) (r q : Reader) → Fetch a r ≡ Fetch b q → (a ≡ b) × (r ≡ q)
fetch_same a b r q e = let one : a ≡ b = cc in let two : r ≡ q = cc in (one, two)

parts_by : (r after : Reader) (o : Operation) (x : Option Piece) → read 1 r ≡ x → with_key x ≡ Fetch o after → Parts r after o
parts_by r after o None is e = absurd cc
parts_by r after o (Some key) is e = by_code (opcode_of (first_byte key.bytes)) refl e
  where
    by_behind : (c : Opcode) (arg : Piece) (x : Option Reader) → opcode_of (first_byte key.bytes) ≡ Some c → read_arg (form_of c) key.after ≡ Some arg → behind c arg.bytes arg.after ≡ x → fetched (record { opcode = c; arg = arg.bytes }) x ≡ Fetch o after → Parts r after o
    by_behind c arg None f g h e = absurd cc
    by_behind c arg (Some q) f g h e =
        let both = fetch_same (record { opcode = c; arg = arg.bytes }) o q after e in
        record { key = key; code = c; arg = arg; keyed = is; coded = f; argued = g; moved = h ∙ ap Some both.1; is = both.0 }

    by_arg : (c : Opcode) (x : Option Piece) → opcode_of (first_byte key.bytes) ≡ Some c → read_arg (form_of c) key.after ≡ x → with_arg c x ≡ Fetch o after → Parts r after o
    by_arg c None f g e = absurd cc
    by_arg c (Some arg) f g e = by_behind c arg (behind c arg.bytes arg.after) f g refl e

    by_code : (x : Option Opcode) → opcode_of (first_byte key.bytes) ≡ x → with_code x key.after ≡ Fetch o after → Parts r after o
    by_code None f e = absurd cc
    by_code (Some c) f e = by_arg c (read_arg (form_of c) key.after) f refl e

pub frames_only_end : FramesOnlyEnd
unfolding Behind
frames_only_end r after o e =
    let x = parts_by r after o (read 1 r) refl e in
    let next = behind_flat x.code x.arg.bytes x.arg.after after x.moved in
    let stop : is_stop x.code ≡ is_stop o.opcode = ap (λ (y : Operation). is_stop y.opcode) x.is in (
      next.0,
      ap with_key (flat_read 1 r x.key x.keyed)
          ∙ ap (λ (c : Option Opcode). with_code c (opened (all_left x.key.after))) x.coded
          ∙ ap (with_arg x.code) (flat_arg (form_of x.code) x.key.after x.arg x.argued)
          ∙ ap (fetched (record { opcode = x.code; arg = x.arg.bytes })) next.1
          ∙ ap (λ (y : Operation). Fetch y next.0) x.is,
      λ runs. next.2 (stop ∙ runs),
    )
