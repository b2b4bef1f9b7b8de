-- What is read of an argument that the end of the file cuts: a line without its last byte.
use Rattle.std.proofs.Common.{◌≡◌, ℕ, zero, suc, ◌+◌, ◌-◌, ◌≤◌, Bool, true, false, List, [], ◌∷◌, ◌++◌, length, take, drop, Option, Some, None, refl, sym, ap, subst, ◌∙◌, inl, inr, arith, append_assoc, length-append}
use Rattle.std.specs.Prelude.{◌^◌, nat_le, if◌then◌else◌}
use Rattle.std.specs.List.{list_any}
use Rattle.std.proofs.lemmas.Bool.{cases_Bool, eqb-true, leb-true, le-leb}
use Rattle.std.proofs.lemmas.List.{length-drop}
use Rattle.byteorder.specs.Endian.{little_number}
use Rattle.pickle_ops.specs.declared.form.Form.{Form}
use Rattle.pickle_ops.specs.declared.form.Form.TheVariants as form
use Rattle.pickle_ops.specs.Shape.{is_newline, is_negative, IsLine, IsArg}
use Rattle.pickle_ops.specs.Inside.Sizes.{fixed_size, one_more, line_size, add_to, size_after, counted_size, signed_count, arg_size}
use Rattle.pickle_loader.specs.Reader.{Reader, Piece, Line, from_file, read, line_at, line_in_file, read_line, joined, and_then, read_counted, read_signed, read_arg, opened}
use Rattle.pickle_loader.proofs.Fetching.{front_number}

-- ---- lines

-- the line that a file's end cuts, and the same where two newlines are behind it
pub record CutLine (f : Form) (rest : List ℕ) (p : Piece) : Type 0 where
  pub arg : IsArg f p.bytes
  pub more : List ℕ
  pub mended : take (length rest - 1) rest ++ 10 ∷ 10 ∷ [] ≡ p.bytes ++ more

abbrev pub IsCut : Form → List ℕ → Piece → Type 0
IsCut form.Line rest p = CutLine form.Line rest p
IsCut form.Quoted rest p = CutLine form.Quoted rest p
IsCut form.Decimal rest p = CutLine form.Decimal rest p
IsCut form.Two rest p = CutLine form.Two rest p
IsCut _ rest p = ⊥

no_more : (x : Option ℕ) → one_more x ≡ None → x ≡ None
no_more None e = refl
no_more (Some n) e = absurd cc

-- no newline is there
pub no_line : (xs : List ℕ) → line_size xs ≡ None → (line_at xs ≡ None) × (list_any is_newline xs ≡ false)
no_line [] e = (refl, refl)
no_line (b ∷ xs) e = elim (cases_Bool (is_newline b)) [
  | inl hit ↦ let one : Some 1 ≡ None = rw hit at e in absurd cc
  | inr miss ↦
      let rest : one_more (line_size xs) ≡ None = rw miss at e in
      let both = no_line xs (no_more (line_size xs) rest) in
      (rw (miss, both.0) refl, rw (miss, both.1) refl)
]

clean_take : (n : ℕ) (xs : List ℕ) → list_any is_newline xs ≡ false → list_any is_newline (take n xs) ≡ false
clean_take zero [] e = refl
clean_take zero (b ∷ xs) e = refl
clean_take (suc n) [] e = refl
clean_take (suc n) (b ∷ xs) e = elim (cases_Bool (is_newline b)) [
  | inl hit ↦ let bad : true ≡ false = rw hit at e in absurd cc
  | inr miss ↦ let rest : list_any is_newline xs ≡ false = rw miss at e in rw (miss, clean_take n xs rest) refl
]

-- where there is one
pub record HasLine (xs : List ℕ) (n : ℕ) : Type 0 where
  pub text : List ℕ
  pub rest : List ℕ
  pub is : line_at xs ≡ Some (record { text = text; rest = rest })
  pub clean : list_any is_newline text ≡ false
  pub whole : xs ≡ text ++ 10 ∷ rest
  pub size : n ≡ length text + 1
  pub behind : drop n xs ≡ rest

pub has_line : (xs : List ℕ) (n : ℕ) → line_size xs ≡ Some n → HasLine xs n
has_line [] n e = absurd cc
has_line (b ∷ xs) n e = elim (cases_Bool (is_newline b)) [
  | inl hit ↦
      let one : Some 1 ≡ Some n = rw hit at e in
      let same : 1 ≡ n = cc in
      let ten : b ≡ 10 = eqb-true b 10 hit in
      record { text = []; rest = xs; is = rw hit refl; clean = refl; whole = ap (λ (c : ℕ). c ∷ xs) ten; size = sym same; behind = ap (λ (m : ℕ). drop m (b ∷ xs)) (sym same) ∙ drop_none xs }
  | inr miss ↦
      let more : one_more (line_size xs) ≡ Some n = rw miss at e in
      longer miss (line_size xs) refl more (λ m f. has_line xs m f)
]
  where
    drop_none : (xs : List ℕ) → drop 0 xs ≡ xs
    drop_none [] = refl
    drop_none (x ∷ xs) = refl

    longer : is_newline b ≡ false → (x : Option ℕ) → line_size xs ≡ x → one_more x ≡ Some n → ((m : ℕ) → line_size xs ≡ Some m → HasLine xs m) → HasLine (b ∷ xs) n
    longer miss None f g behind = absurd cc
    longer miss (Some m) f g behind =
        let same : suc m ≡ n = cc in
        let l = behind m f in
        record {
          text = b ∷ l.text;
          rest = l.rest;
          is = rw (miss, l.is) refl;
          clean = rw (miss, l.clean) refl;
          whole = ap (λ (ys : List ℕ). b ∷ ys) l.whole;
          size = omega (arith, l.size, same);
          behind = ap (λ (k : ℕ). drop k (b ∷ xs)) (sym same) ∙ l.behind;
        }

-- ---- a line in a file

piece_is : (a b : Piece) (x : Option Piece) → x ≡ Some a → x ≡ Some b → a ≡ b
piece_is a b x e f = let two : Some a ≡ Some b = sym e ∙ f in cc

last_line : List ℕ → Piece
last_line rest = record { bytes = take (length rest - 1) rest ++ 10 ∷ []; after = opened [] }

reads_last : (rest : List ℕ) → line_size rest ≡ None → read_line (opened rest) ≡ Some (last_line rest)
unfolding last_line
reads_last rest none = ap (line_in_file rest) (no_line rest none).0

is_line : (rest : List ℕ) → line_size rest ≡ None → IsLine (last_line rest).bytes
unfolding last_line
is_line rest none = (take (length rest - 1) rest, clean_take (length rest - 1) rest (no_line rest none).1, refl)

mended_last : (rest : List ℕ) → take (length rest - 1) rest ++ 10 ∷ 10 ∷ [] ≡ (last_line rest).bytes ++ 10 ∷ []
unfolding last_line
mended_last rest = sym (append_assoc (take (length rest - 1) rest) (10 ∷ []) (10 ∷ []))

-- what is said of a piece is said of the same piece
Cuts : Form → List ℕ → Piece → Type 0
Cuts f rest p = (p.after ≡ opened []) × IsCut f rest p

line_cut : (f : Form) (rest : List ℕ) (p : Piece) → (CutLine f rest (last_line rest) → IsCut f rest (last_line rest)) → (IsLine (last_line rest).bytes → IsArg f (last_line rest).bytes) → line_size rest ≡ None → read_line (opened rest) ≡ Some p → Cuts f rest p
unfolding Cuts last_line
line_cut f rest p cut arg none e =
    subst (λ (q : Piece). (q.after ≡ opened []) × IsCut f rest q) (piece_is (last_line rest) p (read_line (opened rest)) (reads_last rest none) e)
    (refl, cut (record { arg = arg (is_line rest none); more = 10 ∷ []; mended = mended_last rest }))

-- ---- two lines

-- none of both
both_cut : (rest : List ℕ) (p : Piece) → line_size rest ≡ None → read_arg form.Two (opened rest) ≡ Some p → Cuts form.Two rest p
unfolding Cuts last_line
both_cut rest p none e =
    let all : Piece = record { bytes = (last_line rest).bytes ++ 10 ∷ []; after = opened [] } in
    let is : read_arg form.Two (opened rest) ≡ Some all = ap (λ (x : Option Piece). and_then x (λ first q. read_line q)) (reads_last rest none) in
    subst (λ (q : Piece). (q.after ≡ opened []) × CutLine form.Two rest q) (piece_is all p (read_arg form.Two (opened rest)) is e) (
      refl,
      record {
        arg = ((last_line rest).bytes, 10 ∷ [], is_line rest none, ([], refl, refl), refl);
        more = [];
        mended = mended_last rest ∙ sym (nil ((last_line rest).bytes ++ 10 ∷ []));
      },
    )
  where
    nil : (xs : List ℕ) → xs ++ [] ≡ xs
    nil [] = refl
    nil (x ∷ xs) = ap (λ (l : List ℕ). x ∷ l) (nil xs)

-- the second
tail_of : List ℕ → List ℕ
tail_of [] = []
tail_of (b ∷ rest) = 10 ∷ []

second_text : (text rest : List ℕ) → take (length (text ++ 10 ∷ rest) - 1) (text ++ 10 ∷ rest) ++ 10 ∷ 10 ∷ [] ≡ (text ++ 10 ∷ []) ++ ((take (length rest - 1) rest ++ 10 ∷ []) ++ tail_of rest)
unfolding tail_of
second_text [] [] = refl
second_text [] (b ∷ rest) =
    let size : length (10 ∷ b ∷ rest) - 1 ≡ suc (length (b ∷ rest) - 1) = omega arith in
    ap (λ (n : ℕ). take n (10 ∷ b ∷ rest) ++ 10 ∷ 10 ∷ []) size ∙ ap (λ (l : List ℕ). 10 ∷ l) (sym (append_assoc (take (length (b ∷ rest) - 1) (b ∷ rest)) (10 ∷ []) (10 ∷ [])))
second_text (c ∷ text) rest =
    let size : length (c ∷ (text ++ 10 ∷ rest)) - 1 ≡ suc (length (text ++ 10 ∷ rest) - 1) = omega (arith, length-append text (10 ∷ rest)) in
    ap (λ (n : ℕ). take n (c ∷ (text ++ 10 ∷ rest)) ++ 10 ∷ 10 ∷ []) size ∙ ap (λ (l : List ℕ). c ∷ l) (second_text text rest)

second_cut : (rest : List ℕ) (p : Piece) (n : ℕ) → line_size rest ≡ Some n → line_size (drop n rest) ≡ None → read_arg form.Two (opened rest) ≡ Some p → Cuts form.Two rest p
unfolding Cuts last_line
second_cut rest p n some none e =
    let l = has_line rest n some in
    let last : Piece = last_line l.rest in
    let nothing : line_size l.rest ≡ None = ap line_size (sym l.behind) ∙ none in
    let all : Piece = record { bytes = (l.text ++ 10 ∷ []) ++ last.bytes; after = opened [] } in
    let is : read_arg form.Two (opened rest) ≡ Some all =
    ap (λ (x : Option Line). and_then (line_in_file rest x) (λ first q. read_line q)) l.is ∙ ap (joined (l.text ++ 10 ∷ [])) (reads_last l.rest nothing) in
    subst (λ (q : Piece). (q.after ≡ opened []) × CutLine form.Two rest q) (piece_is all p (read_arg form.Two (opened rest)) is e) (
      refl,
      record {
        arg = (l.text ++ 10 ∷ [], last.bytes, (l.text, l.clean, refl), is_line l.rest nothing, refl);
        more = tail_of l.rest;
        mended = ap (λ (xs : List ℕ). take (length xs - 1) xs ++ 10 ∷ 10 ∷ []) l.whole ∙ second_text l.text l.rest ∙ sym (append_assoc (l.text ++ 10 ∷ []) last.bytes (tail_of l.rest));
      },
    )

two_by : (rest : List ℕ) (p : Piece) (x : Option ℕ) → line_size rest ≡ x → size_after line_size rest x ≡ None → read_arg form.Two (opened rest) ≡ Some p → Cuts form.Two rest p
two_by rest p None is none e = both_cut rest p is e
two_by rest p (Some n) is none e = second_cut rest p n is (no_size (line_size (drop n rest)) none) e
  where
    no_size : (x : Option ℕ) → add_to n x ≡ None → x ≡ None
    no_size None f = refl
    no_size (Some m) f = absurd cc

-- ---- what is no line is not read

pub not_within : (b : Bool) (n : ℕ) → (if b then Some n else None) ≡ None → b ≡ false
not_within true n e = absurd cc
not_within false n e = refl

-- a size that is there
pub some_size : (b : Bool) (n : ℕ) → b ≡ true → (if b then Some n else None) ≡ None → ⊥
some_size true n e f = absurd cc
some_size false n e f = absurd cc

-- so many bytes are not there
pub no_bytes : (n : ℕ) (file : List ℕ) → fixed_size n file ≡ None → from_file n file ≡ None
no_bytes n file e = rw (not_within (nat_le n (length file)) n e) refl

no_fixed : (n : ℕ) (rest : List ℕ) (p : Piece) (A : Type 0) → fixed_size n rest ≡ None → from_file n rest ≡ Some p → A
no_fixed n rest p A none e = let two : None ≡ Some p = sym (no_bytes n rest none) ∙ e in absurd cc

-- nor are those that a length counts
pub not_counted : (a : Bool) (n m : ℕ) → (if a then (if nat_le n m then Some n else None) else None) ≡ None → a ≡ true → nat_le n m ≡ false
not_counted true n m none e = not_within (nat_le n m) n none
not_counted false n m none e = absurd cc

pub fewer : (w count : ℕ) (rest : List ℕ) → w ≤ length rest → nat_le (w + count) (length rest) ≡ false → from_file count (drop w rest) ≡ None
fewer w count rest h e = go (nat_le count (length (drop w rest))) refl
  where
    go : (b : Bool) → nat_le count (length (drop w rest)) ≡ b → from_file count (drop w rest) ≡ None
    go false f = rw f refl
    go true f =
        let there : count ≤ length (drop w rest) = leb-true count (length (drop w rest)) f in
        let all : nat_le (w + count) (length rest) ≡ true = le-leb (w + count) (length rest) (omega (arith, there, h, length-drop w rest)) in
        let two : true ≡ false = sym all ∙ e in
        absurd cc

-- a length of this width, and what it counts, by any reading of it
counted_none : (w : ℕ) (rest : List ℕ) (count : ℕ) (more : List ℕ → Reader → Option Piece) → (if nat_le w (length rest) then fixed_size (w + count) rest else None) ≡ None
    → (w ≤ length rest → from_file count (drop w rest) ≡ None → more (take w rest) (opened (drop w rest)) ≡ None) → and_then (from_file w rest) more ≡ None
counted_none w rest count more none next = go (nat_le w (length rest)) refl
  where
    go : (b : Bool) → nat_le w (length rest) ≡ b → and_then (from_file w rest) more ≡ None
    go false e = rw e refl
    go true e =
        let h : w ≤ length rest = leb-true w (length rest) e in
        let last : more (take w rest) (opened (drop w rest)) ≡ None = next h (fewer w count rest h (not_counted (nat_le w (length rest)) (w + count) (length rest) none e)) in
        ap (λ (c : Bool). and_then (if c then Some (record { bytes = take w rest; after = opened (drop w rest) }) else None) more) e ∙ ap (joined (take w rest)) last

no_counted : (w : ℕ) (rest : List ℕ) → counted_size w (little_number w) rest ≡ None → read_counted w (opened rest) ≡ None
no_counted w rest none =
    counted_none w rest (little_number w rest) (λ size q. read (little_number w size) q) none (λ h last. ap (λ (n : ℕ). from_file n (drop w rest)) (front_number w rest) ∙ last)

no_signed : (rest : List ℕ) → counted_size 4 signed_count rest ≡ None → read_signed (opened rest) ≡ None
no_signed rest none =
    counted_none 4 rest (signed_count rest) (λ size q. if is_negative size then None else read (little_number 4 size) q) none (λ h last.
    by_sign (is_negative rest) (ap (λ (n : ℕ). nat_le (2 ^ 31) n) (front_number 4 rest)) last)
  where
    by_sign : (b : Bool) → is_negative (take 4 rest) ≡ b → from_file (if b then 0 else little_number 4 rest) (drop 4 rest) ≡ None → (if is_negative (take 4 rest) then None else read (little_number 4 (take 4 rest)) (opened (drop 4 rest))) ≡ None
    by_sign true e last = rw e refl
    by_sign false e last = rw e (ap (λ (n : ℕ). from_file n (drop 4 rest)) (front_number 4 rest) ∙ last)

no_such : (x : Option Piece) (p : Piece) (A : Type 0) → x ≡ None → x ≡ Some p → A
no_such x p A none e = let two : None ≡ Some p = sym none ∙ e in absurd cc

-- ---- by the form

pub cut_reads : (f : Form) (rest : List ℕ) (p : Piece) → arg_size f rest ≡ None → read_arg f (opened rest) ≡ Some p → (p.after ≡ opened []) × IsCut f rest p
unfolding Cuts
cut_reads form.Empty rest p none e = absurd (some_size (nat_le 0 (length rest)) 0 (le-leb 0 (length rest) (omega arith)) none)
cut_reads form.Uint1 rest p none e = no_fixed 1 rest p _ none e
cut_reads form.Uint2 rest p none e = no_fixed 2 rest p _ none e
cut_reads form.Uint4 rest p none e = no_fixed 4 rest p _ none e
cut_reads form.Uint8 rest p none e = no_fixed 8 rest p _ none e
cut_reads form.Int4 rest p none e = no_fixed 4 rest p _ none e
cut_reads form.Float8 rest p none e = no_fixed 8 rest p _ none e
cut_reads form.Line rest p none e = line_cut form.Line rest p (λ x. x) (λ x. x) none e
cut_reads form.Quoted rest p none e = line_cut form.Quoted rest p (λ x. x) (λ x. x) none e
cut_reads form.Decimal rest p none e = line_cut form.Decimal rest p (λ x. x) (λ x. x) none e
cut_reads form.Two rest p none e = two_by rest p (line_size rest) refl none e
cut_reads form.Bytes1 rest p none e = no_such (read_counted 1 (opened rest)) p _ (no_counted 1 rest none) e
cut_reads form.Bytes4 rest p none e = no_such (read_counted 4 (opened rest)) p _ (no_counted 4 rest none) e
cut_reads form.Bytes8 rest p none e = no_such (read_counted 8 (opened rest)) p _ (no_counted 8 rest none) e
cut_reads form.String4 rest p none e = no_such (read_signed (opened rest)) p _ (no_signed rest none) e
