-- Where an opcode does not end in its frame, what is read of it is read to the frame's end, and the rest behind it.
use Rattle.std.proofs.Common.{◌≡◌, ℕ, zero, suc, ◌+◌, ◌≤◌, Bool, true, false, List, [], ◌∷◌, ◌++◌, length, take, drop, Option, Some, None, refl, sym, ap, subst, ◌∙◌, arith, length-append}
use Rattle.std.specs.Prelude.{◌^◌, nat_le, if◌then◌else◌}
use Rattle.std.specs.List.{position}
use Rattle.std.proofs.lemmas.Bool.{leb-true, le-leb}
use Rattle.std.proofs.lemmas.List.{length-drop}
use Rattle.byteorder.specs.Endian.{little_number}
use Rattle.pickle_ops.specs.declared.form.Form.{Form}
use Rattle.pickle_ops.specs.declared.form.Form.TheVariants as form
use Rattle.pickle_ops.specs.Shape.{is_newline, is_negative}
use Rattle.pickle_ops.specs.Inside.Sizes.{fixed_size, line_size, add_to, size_after, signed_count, arg_size}
use Rattle.pickle_lenient.specs.Stream.{line_read, width_read, form_read}
use Rattle.pickle_loader.specs.Reader.{Reader, Piece, Line, from_file, from_frame, read_in, read, line_at, line_in_file, line_in_frame, read_line_in, read_line, joined, and_then, read_arg}
use Rattle.pickle_loader.proofs.CutLines.{no_line, has_line, fewer, not_within, not_counted, some_size}
use Rattle.pickle_loader.proofs.Fetching.{front_number}
use Rattle.pickle_loader.proofs.Plain.{line_found}

-- ---- what is read of the file

-- the frame was left
abbrev IsLeft : Piece → Type 0
IsLeft p = p.after.frame ≡ None

some_piece : (a b : Piece) → Some a ≡ Some b → a ≡ b
some_piece a b e = cc

file_left : (n : ℕ) (file : List ℕ) (p : Piece) → from_file n file ≡ Some p → IsLeft p
file_left n file p e = go (nat_le n (length file)) e
  where
    go : (b : Bool) → (if b then Some (record { bytes = take n file; after = record { frame = None; file = drop n file } }) else None) ≡ Some p → IsLeft p
    go true f = subst (λ (q : Piece). IsLeft q) (some_piece (record { bytes = take n file; after = record { frame = None; file = drop n file } }) p f) refl
    go false f = absurd cc

line_left : (file : List ℕ) (x : Option Line) (p : Piece) → line_in_file file x ≡ Some p → IsLeft p
line_left file (Some l) p e = subst (λ (q : Piece). IsLeft q) (some_piece _ p e) refl
line_left file None p e = subst (λ (q : Piece). IsLeft q) (some_piece _ p e) refl

-- ---- an argument of fixed length, and a line

-- nothing of it is in the frame
Crosses : List ℕ → Piece → Type 0
Crosses rest p = (rest ≡ []) × IsLeft p

fixed_cross : (k : ℕ) (rest file : List ℕ) (p : Piece) → fixed_size (suc k) rest ≡ None → read_in (suc k) (Some rest) file ≡ Some p → Crosses rest p
unfolding Crosses
fixed_cross k [] file p none e = (refl, file_left (suc k) file p e)
fixed_cross k (b ∷ rest) file p none e =
    let nothing : from_frame (suc k) (b ∷ rest) file ≡ None = ap (λ (c : Bool). if c then Some (record { bytes = take (suc k) (b ∷ rest); after = record { frame = Some (drop (suc k) (b ∷ rest)); file = file } }) else None) (not_within (nat_le (suc k) (length (b ∷ rest))) (suc k) none) in
    let two : None ≡ Some p = sym nothing ∙ e in
    absurd cc

line_cross : (rest file : List ℕ) (p : Piece) → line_size rest ≡ None → read_line_in (Some rest) file ≡ Some p → Crosses rest p
unfolding Crosses
line_cross [] file p none e = (refl, line_left file (line_at file) p e)
line_cross (b ∷ rest) file p none e =
    let two : None ≡ Some p = sym (ap (line_in_frame file) (no_line (b ∷ rest) none).0) ∙ e in
    absurd cc

-- ---- a piece and another

record Both (x : Option Piece) (more : List ℕ → Reader → Option Piece) (p : Piece) : Type 0 where
  first : Piece
  second : Piece
  is : x ≡ Some first
  next : more first.bytes first.after ≡ Some second
  after : p.after ≡ second.after

both : (x : Option Piece) (more : List ℕ → Reader → Option Piece) (p : Piece) → and_then x more ≡ Some p → Both x more p
both None more p e = absurd cc
both (Some first) more p e = go (more first.bytes first.after) refl e
  where
    go : (y : Option Piece) → more first.bytes first.after ≡ y → joined first.bytes y ≡ Some p → Both (Some first) more p
    go None f g = absurd cc
    go (Some second) f g = record { first = first; second = second; is = refl; next = f; after = ap (λ (q : Piece). q.after) (sym (some_piece (record second { bytes = first.bytes ++ second.bytes }) p g)) }

-- ---- two lines

line_of : (frame : Option (List ℕ)) (file : List ℕ) (p : Piece) → frame ≡ None → read_line_in frame file ≡ Some p → IsLeft p
line_of None file p is e = line_left file (line_at file) p e
line_of (Some bytes) file p is e = absurd cc

-- how much is read of the frame
abbrev Reads : Form → List ℕ → Piece → Type 0
Reads f rest p = (form_read f rest ≡ length rest) × IsLeft p

two_first : (rest file : List ℕ) (p : Piece) → line_size rest ≡ None → read_arg form.Two (record { frame = Some rest; file = file }) ≡ Some p → Reads form.Two rest p
unfolding Crosses
two_first rest file p none e =
    let b = both (read_line_in (Some rest) file) (λ first q. read_line q) p e in
    let first = line_cross rest file b.first none b.is in
    (subst (λ (l : List ℕ). form_read form.Two l ≡ length l) (sym first.0) refl, ap (λ (r : Reader). r.frame) b.after ∙ line_of b.first.after.frame b.first.after.file b.second first.1 b.next)

in_frame : (rest file text more : List ℕ) → rest ≡ text ++ 10 ∷ more → read_line_in (Some rest) file ≡ line_in_frame file (line_at rest)
in_frame [] file [] more e = absurd cc
in_frame [] file (t ∷ text) more e = absurd cc
in_frame (b ∷ rest) file text more e = refl

two_second : (rest file : List ℕ) (p : Piece) (n : ℕ) → line_size rest ≡ Some n → line_size (drop n rest) ≡ None → read_arg form.Two (record { frame = Some rest; file = file }) ≡ Some p → Reads form.Two rest p
unfolding Crosses
two_second rest file p n some none e =
    let l = has_line rest n some in
    let b = both (read_line_in (Some rest) file) (λ first q. read_line q) p e in
    let there : Piece = record { bytes = l.text ++ 10 ∷ []; after = record { frame = Some l.rest; file = file } } in
    let is : read_line_in (Some rest) file ≡ Some there = in_frame rest file l.text l.rest l.whole ∙ ap (line_in_frame file) l.is in
    let first : there ≡ b.first = some_piece there b.first (sym is ∙ b.is) in
    let next : read_line_in (Some l.rest) file ≡ Some b.second = ap (λ (q : Piece). read_line q.after) first ∙ b.next in
    let second = line_cross l.rest file b.second (ap line_size (sym l.behind) ∙ none) next in
    let whole : rest ≡ l.text ++ 10 ∷ [] = l.whole ∙ ap (λ (m : List ℕ). l.text ++ 10 ∷ m) second.0 in
    let place : position is_newline rest ≡ Some (length l.text) = ap (position is_newline) whole ∙ line_found l.text [] l.clean in
    (ap line_read place ∙ omega (arith, ap length whole, length-append l.text (10 ∷ [])), ap (λ (r : Reader). r.frame) b.after ∙ second.1)

two_by : (rest file : List ℕ) (p : Piece) (x : Option ℕ) → line_size rest ≡ x → size_after line_size rest x ≡ None → read_arg form.Two (record { frame = Some rest; file = file }) ≡ Some p → Reads form.Two rest p
two_by rest file p None is none e = two_first rest file p is e
two_by rest file p (Some n) is none e = two_second rest file p n is (no_size (line_size (drop n rest)) none) e
  where
    no_size : (x : Option ℕ) → add_to n x ≡ None → x ≡ None
    no_size None f = refl
    no_size (Some m) f = absurd cc

-- ---- a length, and what it counts

record Counts (w count : ℕ) (rest file : List ℕ) (more : List ℕ → Reader → Option Piece) : Type 0 where
  outside : (bytes : List ℕ) (q : Reader) (p : Piece) → q.frame ≡ None → more bytes q ≡ Some p → IsLeft p
  counts : (p : Piece) → more (take w rest) (record { frame = Some (drop w rest); file = file }) ≡ Some p → read_in count (Some (drop w rest)) file ≡ Some p

read_of : (n : ℕ) (frame : Option (List ℕ)) (file : List ℕ) (p : Piece) → frame ≡ None → read_in n frame file ≡ Some p → IsLeft p
read_of n None file p is e = file_left n file p e
read_of n (Some bytes) file p is e = absurd cc

-- a piece that is there
never_none : (b : Bool) (p : Piece) → b ≡ true → (if b then Some p else None) ≡ None → ⊥
never_none true p e f = absurd cc
never_none false p e f = absurd cc

none_size : (b : Bool) (p : Piece) (n : ℕ) → (if b then Some p else None) ≡ None → (if b then Some n else None) ≡ None
none_size true p n e = absurd cc
none_size false p n e = refl

no_count : (count : ℕ) (rest file : List ℕ) (p : Piece) → from_file count rest ≡ None → read_in count (Some rest) file ≡ Some p → Crosses rest p
no_count zero rest file p none e =
    absurd (never_none (nat_le 0 (length rest)) (record { bytes = take 0 rest; after = record { frame = None; file = drop 0 rest } }) (le-leb 0 (length rest) (omega arith)) none)
no_count (suc k) rest file p none e =
    fixed_cross k rest file p (none_size (nat_le (suc k) (length rest)) (record { bytes = take (suc k) rest; after = record { frame = None; file = drop (suc k) rest } }) (suc k) none) e

inside_frame : (v : ℕ) (rest file : List ℕ) → nat_le (suc v) (length rest) ≡ true → read_in (suc v) (Some rest) file ≡ Some (record { bytes = take (suc v) rest; after = record { frame = Some (drop (suc v) rest); file = file } })
inside_frame v [] file e = absurd (omega (arith, leb-true (suc v) 0 e))
inside_frame v (x ∷ xs) file e = ap (λ (b : Bool). if b then Some (record { bytes = take (suc v) (x ∷ xs); after = record { frame = Some (drop (suc v) (x ∷ xs)); file = file } }) else None) e

counted_cross : (v count : ℕ) (rest file : List ℕ) (more : List ℕ → Reader → Option Piece) (p : Piece) → Counts (suc v) count rest file more → (if nat_le (suc v) (length rest) then fixed_size (suc v + count) rest else None) ≡ None
    → and_then (read_in (suc v) (Some rest) file) more ≡ Some p → (width_read (suc v) (length rest) ≡ length rest) × IsLeft p
unfolding Crosses
counted_cross v count rest file more p c none e = go (nat_le (suc v) (length rest)) refl
  where
    go : (b : Bool) → nat_le (suc v) (length rest) ≡ b → (width_read (suc v) (length rest) ≡ length rest) × IsLeft p
    go false f =
        let b = both (read_in (suc v) (Some rest) file) more p e in
        let first = fixed_cross v rest file b.first (ap (λ (x : Bool). if x then Some (suc v) else None) f) b.is in
        (ap (λ (x : Bool). if x then suc v else 0) f ∙ sym (ap length first.0), ap (λ (r : Reader). r.frame) b.after ∙ c.outside b.first.bytes b.first.after b.second first.1 b.next)
    go true f =
        let h : suc v ≤ length rest = leb-true (suc v) (length rest) f in
        let b = both (read_in (suc v) (Some rest) file) more p e in
        let there : Piece = record { bytes = take (suc v) rest; after = record { frame = Some (drop (suc v) rest); file = file } } in
        let first : there ≡ b.first = some_piece there b.first (sym (inside_frame v rest file f) ∙ b.is) in
        let next : read_in count (Some (drop (suc v) rest)) file ≡ Some b.second = c.counts b.second (ap (λ (q : Piece). more q.bytes q.after) first ∙ b.next) in
        let second = no_count count (drop (suc v) rest) file b.second (fewer (suc v) count rest h (not_counted (nat_le (suc v) (length rest)) (suc v + count) (length rest) none f)) next in
        let size : suc v ≡ length rest = omega (arith, h, length-drop (suc v) rest, ap length second.0) in
        (ap (λ (x : Bool). if x then suc v else 0) f ∙ size, ap (λ (r : Reader). r.frame) b.after ∙ second.1)

plain_counts : (w : ℕ) (rest file : List ℕ) → Counts w (little_number w rest) rest file (λ size q. read (little_number w size) q)
plain_counts w rest file = record {
  outside = λ bytes q p is e. read_of (little_number w bytes) q.frame q.file p is e;
  counts = λ p e. ap (λ (n : ℕ). read_in n (Some (drop w rest)) file) (sym (front_number w rest)) ∙ e;
}

signed_outside : (b : Bool) (n : ℕ) (q : Reader) (p : Piece) → q.frame ≡ None → (if b then None else read n q) ≡ Some p → IsLeft p
signed_outside true n q p is e = absurd cc
signed_outside false n q p is e = read_of n q.frame q.file p is e

signed_counts : (rest file : List ℕ) → Counts 4 (signed_count rest) rest file (λ size q. if is_negative size then None else read (little_number 4 size) q)
signed_counts rest file = record {
  outside = λ bytes q p is e. signed_outside (is_negative bytes) (little_number 4 bytes) q p is e;
  counts = λ p e. by_sign (is_negative rest) (ap (λ (n : ℕ). nat_le (2 ^ 31) n) (front_number 4 rest)) p e;
}
  where
    by_sign : (b : Bool) → is_negative (take 4 rest) ≡ b → (p : Piece) → (if is_negative (take 4 rest) then None else read (little_number 4 (take 4 rest)) (record { frame = Some (drop 4 rest); file = file })) ≡ Some p
        → read_in (if b then 0 else little_number 4 rest) (Some (drop 4 rest)) file ≡ Some p
    by_sign true is p e = let nothing : None ≡ Some p = rw is at e in absurd cc
    by_sign false is p e =
        let f : read_in (little_number 4 (take 4 rest)) (Some (drop 4 rest)) file ≡ Some p = rw is at e in
        ap (λ (n : ℕ). read_in n (Some (drop 4 rest)) file) (sym (front_number 4 rest)) ∙ f

-- ---- by the form

fixed_reads : (f : Form) (rest : List ℕ) (p : Piece) → form_read f [] ≡ 0 → Crosses rest p → Reads f rest p
unfolding Crosses
fixed_reads f rest p empty c = (subst (λ (l : List ℕ). form_read f l ≡ length l) (sym c.0) empty, c.1)

pub crosses : (f : Form) (rest file : List ℕ) (p : Piece) → arg_size f rest ≡ None → read_arg f (record { frame = Some rest; file = file }) ≡ Some p → (form_read f rest ≡ length rest) × (p.after.frame ≡ None)
crosses form.Empty rest file p none e = absurd (some_size (nat_le 0 (length rest)) 0 (le-leb 0 (length rest) (omega arith)) none)
crosses form.Uint1 rest file p none e = fixed_reads form.Uint1 rest p refl (fixed_cross 0 rest file p none e)
crosses form.Uint2 rest file p none e = fixed_reads form.Uint2 rest p refl (fixed_cross 1 rest file p none e)
crosses form.Uint4 rest file p none e = fixed_reads form.Uint4 rest p refl (fixed_cross 3 rest file p none e)
crosses form.Uint8 rest file p none e = fixed_reads form.Uint8 rest p refl (fixed_cross 7 rest file p none e)
crosses form.Int4 rest file p none e = fixed_reads form.Int4 rest p refl (fixed_cross 3 rest file p none e)
crosses form.Float8 rest file p none e = fixed_reads form.Float8 rest p refl (fixed_cross 7 rest file p none e)
crosses form.Line rest file p none e = fixed_reads form.Line rest p refl (line_cross rest file p none e)
crosses form.Quoted rest file p none e = fixed_reads form.Quoted rest p refl (line_cross rest file p none e)
crosses form.Decimal rest file p none e = fixed_reads form.Decimal rest p refl (line_cross rest file p none e)
crosses form.Two rest file p none e = two_by rest file p (line_size rest) refl none e
crosses form.Bytes1 rest file p none e = counted_cross 0 (little_number 1 rest) rest file _ p (plain_counts 1 rest file) none e
crosses form.Bytes4 rest file p none e = counted_cross 3 (little_number 4 rest) rest file _ p (plain_counts 4 rest file) none e
crosses form.Bytes8 rest file p none e = counted_cross 7 (little_number 8 rest) rest file _ p (plain_counts 8 rest file) none e
crosses form.String4 rest file p none e = counted_cross 3 (signed_count rest) rest file _ p (signed_counts rest file) none e
