-- What is read of an opcode's argument from split bytes: the argument that is whole in the buffer; else that of the bytes that are read of the buffer
-- and those behind it.
use Rattle.std.proofs.Common.{◌≡◌, ℕ, ◌+◌, ◌-◌, ◌^◌, ◌<◌, ◌≤◌, Bool, true, false, List, [], ◌∷◌, ◌++◌, length, take, drop, Option, Some, None, refl, sym, ap, ◌∙◌, arith, append_assoc}
use Rattle.std.specs.Prelude.{nat_le, if◌then◌else◌}
use Rattle.std.specs.List.{list_any}
use Rattle.std.proofs.lemmas.Bool.{leb-true, leb-false, le-leb, lt-leb}
use Rattle.std.proofs.lemmas.List.{take-append-drop, length-append, length-take-le, length-drop, take_at, drop_at}
use Rattle.byteorder.specs.Endian.{little_number}
use Rattle.pickle_ops.specs.declared.opcode.Opcode.{Opcode}
use Rattle.pickle_ops.specs.declared.opcode.Opcode.TheVariants as op
use Rattle.pickle_ops.specs.declared.form.Form.{Form}
use Rattle.pickle_ops.specs.declared.form.Form.TheVariants as form
use Rattle.pickle_ops.specs.Table.{form_of}
use Rattle.pickle_ops.specs.Shape.{is_newline, is_negative, IsLine, IsArg}
use Rattle.pickle_ops.specs.Inside.Sizes.{fixed_size, line_size, add_to, size_after, signed_count, arg_size}
use Rattle.pickle_lenient.specs.Stream.{is_filled}
use Rattle.pickle_loader.specs.Reader.{Line}
use Rattle.pickle_loader.specs.ShownFile.{is_below}
use Rattle.pickle_loader.proofs.CutLines.{no_line, has_line, not_within, some_size}
use Rattle.pickle_loader.proofs.Fetching.{line_found, front_number}
use Rattle.reach_laws.proofs.Split.{Split, Got, got_inside, from_outside, reads, rest_outside, reads_into, line_outside, line_by, reads_line, joined, and_then, reads_payload, counts, reads_counted, reads_arg}
use Rattle.reach_laws.proofs.Standing.{empty_reads, empty_into}

-- ---- on one side

-- bytes that are in the buffer, before others; or all behind it
pub data Side : Type 0 where
  Inside : (outside : List ℕ) → Side
  Outside : Side

abbrev pub at_side : Side → List ℕ → Split
at_side (Inside outside) bytes = record { inside = bytes; outside = outside }
at_side Outside bytes = record { inside = []; outside = bytes }

abbrev pub piece : Side → List ℕ → List ℕ → Got
piece s bytes rest = record { bytes = bytes; after = at_side s rest }

fits : (n : ℕ) (xs rest : List ℕ) → length xs ≡ n → nat_le n (length (xs ++ rest)) ≡ true
fits n xs rest e = le-leb n (length (xs ++ rest)) (omega (arith, e, length-append xs rest))

inside_gives : (n : ℕ) (outside xs rest : List ℕ) → length xs ≡ n → got_inside n (record { inside = xs ++ rest; outside = outside }) ≡ piece (Inside outside) xs rest
inside_gives n outside xs rest e =
    ap (λ (l : List ℕ). record { bytes = l; after = record { inside = drop n (xs ++ rest); outside = outside } }) (take_at xs rest n e)
    ∙ ap (λ (l : List ℕ). record { bytes = xs; after = record { inside = l; outside = outside } }) (drop_at xs rest n e)

outside_gives : (n : ℕ) (xs rest : List ℕ) → length xs ≡ n → from_outside n (xs ++ rest) ≡ Some (piece Outside xs rest)
outside_gives n xs rest e =
    ap (λ (b : Bool). if b then Some (record { bytes = take n (xs ++ rest); after = record { inside = []; outside = drop n (xs ++ rest) } }) else None) (fits n xs rest e)
    ∙ ap (λ (l : List ℕ). Some (record { bytes = l; after = record { inside = []; outside = drop n (xs ++ rest) } })) (take_at xs rest n e)
    ∙ ap (λ (l : List ℕ). Some (record { bytes = xs; after = record { inside = []; outside = l } })) (drop_at xs rest n e)

pub gives : (s : Side) (n : ℕ) (xs rest : List ℕ) → length xs ≡ n → reads n (at_side s (xs ++ rest)) ≡ Some (piece s xs rest)
gives (Inside outside) n xs rest e =
    ap (λ (b : Bool). if b then Some (got_inside n (record { inside = xs ++ rest; outside = outside })) else from_outside n outside) (fits n xs rest e) ∙ ap Some (inside_gives n outside xs rest e)
gives Outside n xs rest e = empty_reads n (xs ++ rest) ∙ outside_gives n xs rest e

gives_into : (s : Side) (n : ℕ) (xs rest : List ℕ) → length xs ≡ n → reads_into n (at_side s (xs ++ rest)) ≡ Some (piece s xs rest)
gives_into (Inside outside) n xs rest e =
    ap (λ (b : Bool). if b then Some (got_inside n (record { inside = xs ++ rest; outside = outside })) else rest_outside (xs ++ rest) (n - length (xs ++ rest)) outside) (fits n xs rest e) ∙ ap Some (inside_gives n outside xs rest e)
gives_into Outside n xs rest e = empty_into n (xs ++ rest) ∙ outside_gives n xs rest e

gives_text : (s : Side) (text rest : List ℕ) → list_any is_newline text ≡ false → reads_line (at_side s (text ++ 10 ∷ rest)) ≡ Some (piece s (text ++ 10 ∷ []) rest)
gives_text (Inside outside) text rest e = ap (λ (x : Option Line). line_by x outside) (line_found text rest e)
gives_text Outside text rest e = ap line_outside (line_found text rest e)

gives_line : (s : Side) (arg rest : List ℕ) → IsLine arg → reads_line (at_side s (arg ++ rest)) ≡ Some (piece s arg rest)
gives_line s arg rest (text, clean, is) =
    ap (λ (l : List ℕ). reads_line (at_side s (l ++ rest))) is ∙ ap (λ (l : List ℕ). reads_line (at_side s l)) (append_assoc text (10 ∷ []) rest)
    ∙ gives_text s text rest clean ∙ ap (λ (l : List ℕ). Some (piece s l rest)) (sym is)

-- a piece and another
gives_both : (s : Side) (first second rest : List ℕ) (x : Option Got) (more : List ℕ → Split → Option Got) → x ≡ Some (piece s first (second ++ rest)) → more first (at_side s (second ++ rest)) ≡ Some (piece s second rest)
    → and_then x more ≡ Some (piece s (first ++ second) rest)
gives_both s first second rest x more e f = ap (λ (y : Option Got). and_then y more) e ∙ ap (joined first) f

gives_payload : (s : Side) (n : ℕ) (xs rest : List ℕ) (b : Bool) → length xs ≡ n → (if b then reads_into n (at_side s (xs ++ rest)) else reads n (at_side s (xs ++ rest))) ≡ Some (piece s xs rest)
gives_payload s n xs rest true e = gives_into s n xs rest e
gives_payload s n xs rest false e = gives s n xs rest e

gives_counted : (s : Side) (o : Opcode) (width : ℕ) (arg rest : List ℕ) → width ≤ length arg → length arg ≡ width + little_number width arg → is_below o (take width arg) ≡ false → reads_counted o width (at_side s (arg ++ rest)) ≡ Some (piece s arg rest)
gives_counted s o width arg rest h e below =
    let size : List ℕ = take width arg in
    let pay : List ℕ = drop width arg in
    let whole : size ++ pay ≡ arg = take-append-drop width arg in
    let long : length pay ≡ little_number width size = omega (arith, length-drop width arg, h, e, front_number width arg) in
    ap (λ (l : List ℕ). reads_counted o width (at_side s (l ++ rest))) (sym whole)
    ∙ ap (λ (l : List ℕ). reads_counted o width (at_side s l)) (append_assoc size pay rest)
    ∙ gives_both s size pay rest (reads width (at_side s (size ++ (pay ++ rest)))) (counts o width) (gives s width size (pay ++ rest) (length-take-le width arg h))
    (ap (λ (b : Bool). if b then None else reads_payload o (little_number width size) (at_side s (pay ++ rest))) below ∙ gives_payload s (little_number width size) pay rest (is_filled o) long)
    ∙ ap (λ (l : List ℕ). Some (piece s l rest)) whole

-- only LONG4 looks at a sign
below_by : (o : Opcode) (size : List ℕ) → (form_of o ≡ form.String4 → is_negative size ≡ false) → is_below o size ≡ false
below_by op.Long4 size h = h refl
below_by _ size h = refl

unsigned : (o : Opcode) (f : Form) (size : List ℕ) → form_of o ≡ f → (f ≡ form.String4 → ⊥) → is_below o size ≡ false
unsigned o f size is other = below_by o size (λ e. absurd (other (sym is ∙ e)))

gives_none : (s : Side) (o : Opcode) (arg rest : List ℕ) → length arg ≡ 0 → reads_arg o form.Empty (at_side s (arg ++ rest)) ≡ Some (piece s arg rest)
gives_none s o [] rest e = refl
gives_none s o (b ∷ arg) rest e = absurd (omega (arith, e))

gives_signed : (s : Side) (o : Opcode) (arg rest : List ℕ) → 4 ≤ length arg → length arg ≡ 4 + (if is_negative arg then 0 else little_number 4 arg) → is_negative arg ≡ false → reads_counted o 4 (at_side s (arg ++ rest)) ≡ Some (piece s arg rest)
gives_signed s o arg rest h e positive =
    let size : length arg ≡ 4 + little_number 4 arg = e ∙ ap (λ (b : Bool). 4 + (if b then 0 else little_number 4 arg)) positive in
    gives_counted s o 4 arg rest h size (below_by o (take 4 arg) (λ is. ap (λ (n : ℕ). nat_le (2 ^ 31) n) (front_number 4 arg) ∙ positive))

gives_two : (s : Side) (first second rest : List ℕ) → IsLine first → IsLine second → and_then (reads_line (at_side s ((first ++ second) ++ rest))) (λ bytes q. reads_line q) ≡ Some (piece s (first ++ second) rest)
gives_two s first second rest a b =
    ap (λ (l : List ℕ). and_then (reads_line (at_side s l)) (λ bytes q. reads_line q)) (append_assoc first second rest)
    ∙ gives_both s first second rest (reads_line (at_side s (first ++ (second ++ rest)))) (λ bytes q. reads_line q) (gives_line s first (second ++ rest) a) (gives_line s second rest b)

-- a whole argument, whatever follows
pub gives_arg : (s : Side) (o : Opcode) (f : Form) (arg rest : List ℕ) → form_of o ≡ f → IsArg f arg → (f ≡ form.String4 → is_negative arg ≡ false) → reads_arg o f (at_side s (arg ++ rest)) ≡ Some (piece s arg rest)
gives_arg s o form.Empty arg rest is h v = gives_none s o arg rest h
gives_arg s o form.Uint1 arg rest is h v = gives s 1 arg rest h
gives_arg s o form.Uint2 arg rest is h v = gives s 2 arg rest h
gives_arg s o form.Uint4 arg rest is h v = gives s 4 arg rest h
gives_arg s o form.Uint8 arg rest is h v = gives s 8 arg rest h
gives_arg s o form.Int4 arg rest is h v = gives s 4 arg rest h
gives_arg s o form.Float8 arg rest is h v = gives s 8 arg rest h
gives_arg s o form.Line arg rest is h v = gives_line s arg rest h
gives_arg s o form.Quoted arg rest is h v = gives_line s arg rest h
gives_arg s o form.Decimal arg rest is h v = gives_line s arg rest h
gives_arg s o form.Two arg rest is (first, second, a, b, parts) v =
    ap (λ (l : List ℕ). reads_arg o form.Two (at_side s (l ++ rest))) parts ∙ gives_two s first second rest a b ∙ ap (λ (l : List ℕ). Some (piece s l rest)) (sym parts)
gives_arg s o form.Bytes1 arg rest is (h, e) v = gives_counted s o 1 arg rest h e (unsigned o form.Bytes1 (take 1 arg) is (λ w. absurd cc))
gives_arg s o form.Bytes4 arg rest is (h, e) v = gives_counted s o 4 arg rest h e (unsigned o form.Bytes4 (take 4 arg) is (λ w. absurd cc))
gives_arg s o form.Bytes8 arg rest is (h, e) v = gives_counted s o 8 arg rest h e (unsigned o form.Bytes8 (take 8 arg) is (λ w. absurd cc))
gives_arg s o form.String4 arg rest is (h, e) v = gives_signed s o arg rest h e (v refl)

-- ---- a length below 0

pub no_reads : (n : ℕ) (s : Split) → length s.inside < n → length s.outside < n → reads n s ≡ None
no_reads n s far few =
    ap (λ (b : Bool). if b then Some (got_inside n s) else from_outside n s.outside) (lt-leb n (length s.inside) far)
    ∙ ap (λ (b : Bool). if b then Some (record { bytes = take n s.outside; after = record { inside = []; outside = drop n s.outside } }) else None) (lt-leb n (length s.outside) few)

no_into : (n : ℕ) (s : Split) → length s.inside + length s.outside < n → reads_into n s ≡ None
no_into n s few =
    let m : ℕ = n - length s.inside in
    ap (λ (b : Bool). if b then Some (got_inside n s) else rest_outside s.inside m s.outside) (lt-leb n (length s.inside) (omega (arith, few)))
    ∙ ap (λ (b : Bool). if b then Some (record { bytes = s.inside ++ take m s.outside; after = record { inside = []; outside = drop m s.outside } }) else None) (lt-leb m (length s.outside) (omega (arith, few)))

no_payload : (n : ℕ) (s : Split) (b : Bool) → length s.inside + length s.outside < n → (if b then reads_into n s else reads n s) ≡ None
no_payload n s true few = no_into n s few
no_payload n s false few = no_reads n s (omega (arith, few)) (omega (arith, few))

no_counts : (o : Opcode) (width : ℕ) (size : List ℕ) (s : Split) → length s.inside + length s.outside < little_number width size → counts o width size s ≡ None
no_counts o width size s few = by (is_below o size)
  where
    by : (b : Bool) → (if b then None else reads_payload o (little_number width size) s) ≡ None
    by true = refl
    by false = no_payload (little_number width size) s (is_filled o) few

side_size : (s : Side) (xs rest : List ℕ) → length (at_side s rest).inside + length (at_side s rest).outside ≤ length (at_side s (xs ++ rest)).inside + length (at_side s (xs ++ rest)).outside
side_size (Inside outside) xs rest = omega (arith, length-append xs rest)
side_size Outside xs rest = omega (arith, length-append xs rest)

-- is not read: so many bytes are not there
pub gives_below : (s : Side) (o : Opcode) (arg rest : List ℕ) → IsArg form.String4 arg → is_negative arg ≡ true → length (at_side s (arg ++ rest)).inside + length (at_side s (arg ++ rest)).outside < 2 ^ 31 → reads_counted o 4 (at_side s (arg ++ rest)) ≡ None
gives_below s o arg rest (h, e) negative small =
    let four : length arg ≡ 4 = e ∙ ap (λ (b : Bool). 4 + (if b then 0 else little_number 4 arg)) negative in
    let many : 2 ^ 31 ≤ little_number 4 arg = leb-true (2 ^ 31) (little_number 4 arg) negative in
    ap (λ (x : Option Got). and_then x (counts o 4)) (gives s 4 arg rest four)
    ∙ ap (joined arg) (no_counts o 4 arg (at_side s rest) (omega (arith, many, small, side_size s arg rest)))

-- ---- what is not whole is not read behind the buffer

abbrev pub outside_only : List ℕ → Split
outside_only flat = record { inside = []; outside = flat }

pub none_fixed : (n : ℕ) (flat : List ℕ) → fixed_size n flat ≡ None → reads n (outside_only flat) ≡ None
none_fixed n flat none =
    empty_reads n flat ∙ ap (λ (b : Bool). if b then Some (record { bytes = take n flat; after = record { inside = []; outside = drop n flat } }) else None) (not_within (nat_le n (length flat)) n none)

none_line : (flat : List ℕ) → line_size flat ≡ None → reads_line (outside_only flat) ≡ None
none_line flat none = ap line_outside (no_line flat none).0

pub no_size : (n : ℕ) (x : Option ℕ) → add_to n x ≡ None → x ≡ None
no_size n None e = refl
no_size n (Some m) e = absurd cc

none_two : (flat : List ℕ) (x : Option ℕ) → line_size flat ≡ x → size_after line_size flat x ≡ None → and_then (reads_line (outside_only flat)) (λ bytes q. reads_line q) ≡ None
none_two flat None is none = ap (λ (x : Option Got). and_then x (λ bytes q. reads_line q)) (none_line flat is)
none_two flat (Some n) is none =
    let l = has_line flat n is in
    let nothing : line_size l.rest ≡ None = ap line_size (sym l.behind) ∙ no_size n (line_size (drop n flat)) none in
    ap (λ (x : Option Line). and_then (line_outside x) (λ bytes q. reads_line q)) l.is ∙ ap (joined (l.text ++ 10 ∷ [])) (none_line l.rest nothing)

none_counted : (o : Opcode) (width : ℕ) (count : List ℕ → ℕ) (flat : List ℕ) (b : Bool) → nat_le width (length flat) ≡ b → (if b then fixed_size (width + count flat) flat else None) ≡ None → (width ≤ length flat → length flat < width + count flat → count flat ≡ little_number width flat)
    → reads_counted o width (outside_only flat) ≡ None
none_counted o width count flat false g none counted = ap (λ (x : Option Got). and_then x (counts o width)) (none_fixed width flat (ap (λ (b : Bool). if b then Some width else None) g))
none_counted o width count flat true g none counted =
    let h : width ≤ length flat = leb-true width (length flat) g in
    let far : length flat < width + count flat = leb-false (width + count flat) (length flat) (not_within (nat_le (width + count flat) (length flat)) (width + count flat) none) in
    let size : List ℕ = take width flat in
    let rest : List ℕ = drop width flat in
    let number : count flat ≡ little_number width size = counted h far ∙ sym (front_number width flat) in
    ap (λ (l : List ℕ). reads_counted o width (outside_only l)) (sym (take-append-drop width flat))
    ∙ ap (λ (x : Option Got). and_then x (counts o width)) (gives Outside width size rest (length-take-le width flat h))
    ∙ ap (joined size) (no_counts o width size (outside_only rest) (omega (arith, number, far, h, length-drop width flat)))

-- of a length below 0 no byte follows
pub signed_number : (flat : List ℕ) (b : Bool) → is_negative flat ≡ b → 4 ≤ length flat → length flat < 4 + (if b then 0 else little_number 4 flat) → (if b then 0 else little_number 4 flat) ≡ little_number 4 flat
signed_number flat true g h far = absurd (omega (arith, h, far))
signed_number flat false g h far = refl

pub none_arg : (o : Opcode) (f : Form) (flat : List ℕ) → arg_size f flat ≡ None → reads_arg o f (outside_only flat) ≡ None
none_arg o form.Empty flat none = absurd (some_size (nat_le 0 (length flat)) 0 (le-leb 0 (length flat) (omega arith)) none)
none_arg o form.Uint1 flat none = none_fixed 1 flat none
none_arg o form.Uint2 flat none = none_fixed 2 flat none
none_arg o form.Uint4 flat none = none_fixed 4 flat none
none_arg o form.Uint8 flat none = none_fixed 8 flat none
none_arg o form.Int4 flat none = none_fixed 4 flat none
none_arg o form.Float8 flat none = none_fixed 8 flat none
none_arg o form.Line flat none = none_line flat none
none_arg o form.Quoted flat none = none_line flat none
none_arg o form.Decimal flat none = none_line flat none
none_arg o form.Two flat none = none_two flat (line_size flat) refl none
none_arg o form.Bytes1 flat none = none_counted o 1 (little_number 1) flat (nat_le 1 (length flat)) refl none (λ h far. refl)
none_arg o form.Bytes4 flat none = none_counted o 4 (little_number 4) flat (nat_le 4 (length flat)) refl none (λ h far. refl)
none_arg o form.Bytes8 flat none = none_counted o 8 (little_number 8) flat (nat_le 8 (length flat)) refl none (λ h far. refl)
none_arg o form.String4 flat none = none_counted o 4 signed_count flat (nat_le 4 (length flat)) refl none (λ h far. signed_number flat (is_negative flat) refl h far)
