-- Where an argument is not whole in the buffer: what is read of the buffer, and how much of it.
use Rattle.std.proofs.Common.{◌≡◌, ℕ, ◌+◌, ◌-◌, ◌^◌, ◌<◌, ◌≤◌, Bool, true, false, List, [], ◌∷◌, ◌++◌, length, take, drop, Option, Some, None, refl, sym, ap, subst, ◌∙◌, inl, inr, arith, append_assoc}
use Rattle.std.specs.Prelude.{nat_le, ◌&&◌, cond, if◌then◌else◌}
use Rattle.std.specs.List.{list_any, position, position_or_len}
use Rattle.std.proofs.lemmas.Bool.{cases_Bool, leb-true, leb-false, le-leb, lt-leb, le-ltb}
use Rattle.std.proofs.lemmas.List.{take-append-drop, length-append, length-take-le, length-drop, take_all, take_at}
use Rattle.byteorder.specs.Endian.{little_number}
use Rattle.byteorder.specs.Numbers.{little_from-append}
use Rattle.pickle_ops.specs.declared.opcode.Opcode.{Opcode}
use Rattle.pickle_ops.specs.declared.opcode.Opcode.TheVariants as op
use Rattle.pickle_ops.specs.declared.form.Form.{Form}
use Rattle.pickle_ops.specs.declared.form.Form.TheVariants as form
use Rattle.pickle_ops.specs.Table.{form_of}
use Rattle.pickle_ops.specs.Shape.{is_newline, is_negative}
use Rattle.pickle_ops.specs.Inside.Sizes.{fixed_size, line_size, add_to, size_after, counted_size, signed_count, arg_size, length_bytes}
use Rattle.pickle_ops.proofs.Measures.{measures}
use Rattle.pickle_lenient.specs.Stream.{is_filled, line_read, width_read, form_read}
use Rattle.pickle_loader.specs.Reader.{Line, line_at}
use Rattle.pickle_loader.specs.ShownFile.{is_below}
use Rattle.pickle_loader.proofs.CutLines.{no_line, has_line, not_within, some_size as never_none}
use Rattle.pickle_loader.proofs.Fetching.{front_number, line_found as line_there}
use Rattle.pickle_loader.proofs.Plain.{line_found}
use Rattle.reach_laws.proofs.Split.{Split, Got, got_inside, from_outside, reads, rest_outside, reads_into, line_outside, line_by, reads_line, joined, and_then, counts, reads_counted, reads_arg}
use Rattle.reach_laws.proofs.Standing.{empty_reads, empty_into, is_rest}
use Rattle.reach_laws.proofs.Wholes.{Inside, Outside, gives, outside_only, no_size, signed_number}

-- it is read as from the first bytes of the buffer and those behind it, and has at least these bytes of the buffer
pub record Crosses (read : Split → Option Got) (size : List ℕ → Option ℕ) (inside outside : List ℕ) (r : ℕ) : Type 0 where
  pub same : read (record { inside = inside; outside = outside }) ≡ read (outside_only (take r inside ++ outside))
  pub within : r ≤ length inside
  pub least : (m : ℕ) → size (take r inside ++ outside) ≡ Some m → r ≤ m

-- how many bytes of the buffer are read
abbrev pub read_as : Opcode → Form → List ℕ → ℕ
read_as o f rest = if is_filled o && nat_le (length_bytes f) (length rest) then length rest else form_read f rest

take_zero : (xs : List ℕ) → take 0 xs ≡ []
take_zero [] = refl
take_zero (x ∷ xs) = refl

-- none of it is
none_of_it : (read : Split → Option Got) (size : List ℕ → Option ℕ) (inside outside : List ℕ) → read (record { inside = inside; outside = outside }) ≡ read (outside_only outside) → Crosses read size inside outside 0
none_of_it read size inside outside e = record {
  same = e ∙ ap (λ (l : List ℕ). read (outside_only (l ++ outside))) (sym (take_zero inside));
  within = omega arith;
  least = λ m is. omega arith;
}

-- ---- arguments of a fixed length

by_far : (n : ℕ) (inside outside : List ℕ) → nat_le n (length inside) ≡ false → reads n (record { inside = inside; outside = outside }) ≡ reads n (outside_only outside)
by_far n inside outside g = ap (λ (b : Bool). if b then Some (got_inside n (record { inside = inside; outside = outside })) else from_outside n outside) g ∙ sym (empty_reads n outside)

fixed_across : (n : ℕ) (inside outside : List ℕ) → fixed_size n inside ≡ None → Crosses (reads n) (fixed_size n) inside outside 0
fixed_across n inside outside none = none_of_it (reads n) (fixed_size n) inside outside (by_far n inside outside (not_within (nat_le n (length inside)) n none))

-- ---- lines

line_same : (inside outside : List ℕ) → line_size inside ≡ None → reads_line (record { inside = inside; outside = outside }) ≡ reads_line (outside_only outside)
line_same inside outside none = ap (λ (x : Option Line). line_by x outside) (no_line inside none).0

line_across : (inside outside : List ℕ) → line_size inside ≡ None → Crosses reads_line line_size inside outside 0
line_across inside outside none = none_of_it reads_line line_size inside outside (line_same inside outside none)

abbrev two : Split → Option Got
two s = and_then (reads_line s) (λ bytes q. reads_line q)

abbrev two_size : List ℕ → Option ℕ
two_size bytes = size_after line_size bytes (line_size bytes)

clean_length : (xs : List ℕ) → list_any is_newline xs ≡ false → position_or_len is_newline xs ≡ length xs
clean_length [] e = refl
clean_length (b ∷ xs) e = elim (cases_Bool (is_newline b)) [
  | inl hit ↦ let bad : true ≡ false = rw hit at e in absurd cc
  | inr miss ↦ let rest : list_any is_newline xs ≡ false = rw miss at e in rw (miss, clean_length xs rest) (omega arith)
]

no_place : (xs : List ℕ) → list_any is_newline xs ≡ false → position is_newline xs ≡ None
no_place xs e =
    ap (λ (b : Bool). cond b (Some (position_or_len is_newline xs)) None) (le-ltb (position_or_len is_newline xs) (length xs) (omega (arith, clean_length xs e)))

least_sum : (n m : ℕ) (x : Option ℕ) → add_to n x ≡ Some m → n ≤ m
least_sum n m None e = absurd cc
least_sum n m (Some k) e = let same : n + k ≡ m = cc in omega (arith, same)

first_there : (inside outside : List ℕ) (n : ℕ) → line_size inside ≡ Some n → line_size (drop n inside) ≡ None → Crosses two two_size inside outside (line_read (position is_newline inside))
first_there inside outside n some none =
    let l = has_line inside n some in
    let line : List ℕ = l.text ++ 10 ∷ [] in
    let r : ℕ = length l.text + 1 in
    let long : length line ≡ r = length-append l.text (10 ∷ []) in
    let whole : inside ≡ line ++ l.rest = l.whole ∙ sym (append_assoc l.text (10 ∷ []) l.rest) in
    let front : take r inside ≡ line = ap (take r) whole ∙ take_at line l.rest r long in
    let nothing : line_size l.rest ≡ None = ap line_size (sym l.behind) ∙ none in
    let place : line_read (position is_newline inside) ≡ r = ap (λ (xs : List ℕ). line_read (position is_newline xs)) l.whole ∙ ap line_read (line_found l.text l.rest l.clean) in
    let here : two (record { inside = inside; outside = outside }) ≡ joined line (reads_line (record { inside = l.rest; outside = outside })) = ap (λ (x : Option Line). and_then (line_by x outside) (λ bytes q. reads_line q)) l.is in
    let flat : line_at (line ++ outside) ≡ Some (record { text = l.text; rest = outside }) = ap line_at (append_assoc l.text (10 ∷ []) outside) ∙ line_there l.text outside l.clean in
    let there : two (outside_only (line ++ outside)) ≡ joined line (reads_line (outside_only outside)) = ap (λ (x : Option Line). and_then (line_outside x) (λ bytes q. reads_line q)) flat in
    let size : line_size (line ++ outside) ≡ Some (length line) = (measures form.Line).again line outside (l.text, l.clean, refl) in
    subst (λ (k : ℕ). Crosses two two_size inside outside k) (sym place) (record {
      same = here ∙ ap (joined line) (line_same l.rest outside nothing) ∙ sym there ∙ ap (λ (xs : List ℕ). two (outside_only (xs ++ outside))) (sym front);
      within = omega (arith, ap length whole, length-append line l.rest, long);
      least = λ m is.
          let sum : add_to (length line) (line_size (drop (length line) (line ++ outside))) ≡ Some m =
          sym (ap (size_after line_size (line ++ outside)) size) ∙ sym (ap (λ (xs : List ℕ). two_size (xs ++ outside)) front) ∙ is in
          omega (arith, long, least_sum (length line) m (line_size (drop (length line) (line ++ outside))) sum);
    })

two_across : (inside outside : List ℕ) (x : Option ℕ) → line_size inside ≡ x → size_after line_size inside x ≡ None → Crosses two two_size inside outside (line_read (position is_newline inside))
two_across inside outside None is none =
    let zero_read : line_read (position is_newline inside) ≡ 0 = ap line_read (no_place inside (no_line inside is).1) in
    subst (λ (k : ℕ). Crosses two two_size inside outside k) (sym zero_read)
    (none_of_it two two_size inside outside (ap (λ (x : Option Got). and_then x (λ bytes q. reads_line q)) (line_same inside outside is)))
two_across inside outside (Some n) is none = first_there inside outside n is (no_size n (line_size (drop n inside)) none)

-- ---- a length, and what it counts

far_count : (n : ℕ) (u outside : List ℕ) (b : Bool) → length u < n → (if b then reads_into n (record { inside = u; outside = outside }) else reads n (record { inside = u; outside = outside })) ≡ (if b then reads_into n (outside_only (u ++ outside)) else reads n (outside_only outside))
far_count n u outside true far =
    ap (λ (b : Bool). if b then Some (got_inside n (record { inside = u; outside = outside })) else rest_outside u (n - length u) outside) (lt-leb n (length u) far)
    ∙ sym (is_rest u outside (u ++ outside) n (n - length u) (omega (arith, far)) refl (nat_le n (length (u ++ outside))) refl)
    ∙ sym (empty_into n (u ++ outside))
far_count n u outside false far = by_far n u outside (lt-leb n (length u) far)

abbrev or_below : Opcode → List ℕ → Option Got → Option Got
or_below o size x = if is_below o size then None else x

some_size : (b : Bool) (n m : ℕ) → (if b then Some n else None) ≡ Some m → n ≡ m
some_size true n m e = cc
some_size false n m e = absurd cc

counted_least : (w : ℕ) (count : List ℕ → ℕ) (flat : List ℕ) (m : ℕ) (b : Bool) → (if b then fixed_size (w + count flat) flat else None) ≡ Some m → m ≡ w + count flat
counted_least w count flat m true e = sym (some_size (nat_le (w + count flat) (length flat)) (w + count flat) m e)
counted_least w count flat m false e = absurd cc

-- the length is in the buffer, and what it counts is not all there
sized_across : (o : Opcode) (w : ℕ) (count : List ℕ → ℕ) (inside outside : List ℕ) (b : Bool) → is_filled o ≡ b → w ≤ length inside → length inside < w + count inside → count inside ≡ little_number w inside → count (inside ++ outside) ≡ count inside
    → Crosses (reads_counted o w) (counted_size w count) inside outside (if b then length inside else w)
sized_across o w count inside outside true is h far number front =
    let size : List ℕ = take w inside in
    let u : List ℕ = drop w inside in
    let n : ℕ = little_number w size in
    let long : length size ≡ w = length-take-le w inside h in
    let more : length u < n = omega (arith, length-drop w inside, h, far, number, front_number w inside) in
    let here : reads_counted o w (record { inside = inside; outside = outside }) ≡ joined size (counts o w size (record { inside = u; outside = outside })) =
    ap (λ (l : List ℕ). and_then (reads w (record { inside = l; outside = outside })) (counts o w)) (sym (take-append-drop w inside)) ∙ ap (λ (x : Option Got). and_then x (counts o w)) (gives (Inside outside) w size u long) in
    let there : reads_counted o w (outside_only (inside ++ outside)) ≡ joined size (counts o w size (outside_only (u ++ outside))) =
    ap (λ (l : List ℕ). and_then (reads w (outside_only l)) (counts o w)) (ap (λ (l : List ℕ). l ++ outside) (sym (take-append-drop w inside)) ∙ append_assoc size u outside) ∙ ap (λ (x : Option Got). and_then x (counts o w)) (gives Outside w size (u ++ outside) long) in
    let counted : counts o w size (record { inside = u; outside = outside }) ≡ counts o w size (outside_only (u ++ outside)) =
    ap (or_below o size) (ap (λ (b : Bool). if b then reads_into n (record { inside = u; outside = outside }) else reads n (record { inside = u; outside = outside })) is
    ∙ far_count n u outside true more
    ∙ ap (λ (b : Bool). if b then reads_into n (outside_only (u ++ outside)) else reads n (outside_only (u ++ outside))) (sym is)) in
    let all_read : take (length inside) inside ≡ inside = take_all (length inside) inside (omega arith) in
    record {
      same = here ∙ ap (joined size) counted ∙ sym there ∙ ap (λ (l : List ℕ). reads_counted o w (outside_only (l ++ outside))) (sym all_read);
      within = omega arith;
      least = λ m e.
          let sum : m ≡ w + count (inside ++ outside) = counted_least w count (inside ++ outside) m (nat_le w (length (inside ++ outside))) (sym (ap (λ (l : List ℕ). counted_size w count (l ++ outside)) all_read) ∙ e) in
          omega (arith, sum, front, far);
    }
sized_across o w count inside outside false is h far number front =
    let size : List ℕ = take w inside in
    let u : List ℕ = drop w inside in
    let n : ℕ = little_number w size in
    let long : length size ≡ w = length-take-le w inside h in
    let more : length u < n = omega (arith, length-drop w inside, h, far, number, front_number w inside) in
    let here : reads_counted o w (record { inside = inside; outside = outside }) ≡ joined size (counts o w size (record { inside = u; outside = outside })) =
    ap (λ (l : List ℕ). and_then (reads w (record { inside = l; outside = outside })) (counts o w)) (sym (take-append-drop w inside)) ∙ ap (λ (x : Option Got). and_then x (counts o w)) (gives (Inside outside) w size u long) in
    let there : reads_counted o w (outside_only (size ++ outside)) ≡ joined size (counts o w size (outside_only outside)) = ap (λ (x : Option Got). and_then x (counts o w)) (gives Outside w size outside long) in
    let counted : counts o w size (record { inside = u; outside = outside }) ≡ counts o w size (outside_only outside) =
    ap (or_below o size) (ap (λ (b : Bool). if b then reads_into n (record { inside = u; outside = outside }) else reads n (record { inside = u; outside = outside })) is
    ∙ far_count n u outside false more
    ∙ ap (λ (b : Bool). if b then reads_into n (outside_only outside) else reads n (outside_only outside)) (sym is)) in
    record {
      same = here ∙ ap (joined size) counted ∙ sym there;
      within = h;
      least = λ m e.
          let sum : m ≡ w + count (size ++ outside) = counted_least w count (size ++ outside) m (nat_le w (length (size ++ outside))) e in
          omega (arith, sum);
    }

counted_by : (o : Opcode) (w : ℕ) (count : List ℕ → ℕ) (inside outside : List ℕ) (b c : Bool) → is_filled o ≡ b → nat_le w (length inside) ≡ c → (if c then fixed_size (w + count inside) inside else None) ≡ None
    → (w ≤ length inside → length inside < w + count inside → count inside ≡ little_number w inside) → (w ≤ length inside → count (inside ++ outside) ≡ count inside)
    → Crosses (reads_counted o w) (counted_size w count) inside outside (if b && c then length inside else (if c then w else 0))
counted_by o w count inside outside true true is g none number front =
    let h : w ≤ length inside = leb-true w (length inside) g in
    let far : length inside < w + count inside = leb-false (w + count inside) (length inside) (not_within (nat_le (w + count inside) (length inside)) (w + count inside) none) in
    sized_across o w count inside outside true is h far (number h far) (front h)
counted_by o w count inside outside false true is g none number front =
    let h : w ≤ length inside = leb-true w (length inside) g in
    let far : length inside < w + count inside = leb-false (w + count inside) (length inside) (not_within (nat_le (w + count inside) (length inside)) (w + count inside) none) in
    sized_across o w count inside outside false is h far (number h far) (front h)
counted_by o w count inside outside true false is g none number front =
    none_of_it (reads_counted o w) (counted_size w count) inside outside (ap (λ (x : Option Got). and_then x (counts o w)) (by_far w inside outside g))
counted_by o w count inside outside false false is g none number front =
    none_of_it (reads_counted o w) (counted_size w count) inside outside (ap (λ (x : Option Got). and_then x (counts o w)) (by_far w inside outside g))

counted_across : (o : Opcode) (w : ℕ) (count : List ℕ → ℕ) (inside outside : List ℕ) → counted_size w count inside ≡ None → (w ≤ length inside → length inside < w + count inside → count inside ≡ little_number w inside) → (w ≤ length inside → count (inside ++ outside) ≡ count inside)
    → Crosses (reads_counted o w) (counted_size w count) inside outside (if is_filled o && nat_le w (length inside) then length inside else width_read w (length inside))
counted_across o w count inside outside none number front = counted_by o w count inside outside (is_filled o) (nat_le w (length inside)) refl refl none number front

-- ---- by the form

not_filled : (o : Opcode) (f : Form) → form_of o ≡ f → (f ≡ form.Bytes1 → ⊥) → (f ≡ form.Bytes4 → ⊥) → (f ≡ form.Bytes8 → ⊥) → is_filled o ≡ false
not_filled op.ShortBinBytes f e one four eight = absurd (one (sym e))
not_filled op.BinBytes f e one four eight = absurd (four (sym e))
not_filled op.BinBytes8 f e one four eight = absurd (eight (sym e))
not_filled op.ByteArray8 f e one four eight = absurd (eight (sym e))
not_filled _ f e one four eight = refl

unfilled : (read : Split → Option Got) (size : List ℕ → Option ℕ) (o : Opcode) (f : Form) (inside outside : List ℕ) → is_filled o ≡ false → Crosses read size inside outside (form_read f inside) → Crosses read size inside outside (read_as o f inside)
unfilled read size o f inside outside is c =
    subst (λ (k : ℕ). Crosses read size inside outside k) (sym (ap (λ (b : Bool). if b && nat_le (length_bytes f) (length inside) then length inside else form_read f inside) is)) c

-- no bytes of a length
no_width : (n : ℕ) → width_read 0 n ≡ 0
no_width n = by (nat_le 0 n) 0
  where
    by : (b : Bool) (m : ℕ) → (if b then m else m) ≡ m
    by true m = refl
    by false m = refl

zero_across : (read : Split → Option Got) (size : List ℕ → Option ℕ) (o : Opcode) (f : Form) (inside outside : List ℕ) → is_filled o ≡ false → form_read f inside ≡ 0 → Crosses read size inside outside 0 → Crosses read size inside outside (read_as o f inside)
zero_across read size o f inside outside is none c = unfilled read size o f inside outside is (subst (λ (k : ℕ). Crosses read size inside outside k) (sym none) c)

negative_same : (inside outside : List ℕ) → 4 ≤ length inside → signed_count (inside ++ outside) ≡ signed_count inside
negative_same inside outside h = ap (λ (n : ℕ). if nat_le (2 ^ 31) n then 0 else n) (little_from-append 4 inside outside h)

pub across : (o : Opcode) (f : Form) (inside outside : List ℕ) → form_of o ≡ f → arg_size f inside ≡ None → Crosses (reads_arg o f) (arg_size f) inside outside (read_as o f inside)
across o form.Empty inside outside is none = absurd (never_none (nat_le 0 (length inside)) 0 (le-leb 0 (length inside) (omega arith)) none)
across o form.Uint1 inside outside is none = zero_across (reads 1) (fixed_size 1) o form.Uint1 inside outside (not_filled o form.Uint1 is (λ w. absurd cc) (λ w. absurd cc) (λ w. absurd cc)) (no_width (length inside)) (fixed_across 1 inside outside none)
across o form.Uint2 inside outside is none = zero_across (reads 2) (fixed_size 2) o form.Uint2 inside outside (not_filled o form.Uint2 is (λ w. absurd cc) (λ w. absurd cc) (λ w. absurd cc)) (no_width (length inside)) (fixed_across 2 inside outside none)
across o form.Uint4 inside outside is none = zero_across (reads 4) (fixed_size 4) o form.Uint4 inside outside (not_filled o form.Uint4 is (λ w. absurd cc) (λ w. absurd cc) (λ w. absurd cc)) (no_width (length inside)) (fixed_across 4 inside outside none)
across o form.Uint8 inside outside is none = zero_across (reads 8) (fixed_size 8) o form.Uint8 inside outside (not_filled o form.Uint8 is (λ w. absurd cc) (λ w. absurd cc) (λ w. absurd cc)) (no_width (length inside)) (fixed_across 8 inside outside none)
across o form.Int4 inside outside is none = zero_across (reads 4) (fixed_size 4) o form.Int4 inside outside (not_filled o form.Int4 is (λ w. absurd cc) (λ w. absurd cc) (λ w. absurd cc)) (no_width (length inside)) (fixed_across 4 inside outside none)
across o form.Float8 inside outside is none = zero_across (reads 8) (fixed_size 8) o form.Float8 inside outside (not_filled o form.Float8 is (λ w. absurd cc) (λ w. absurd cc) (λ w. absurd cc)) (no_width (length inside)) (fixed_across 8 inside outside none)
across o form.Line inside outside is none = zero_across reads_line line_size o form.Line inside outside (not_filled o form.Line is (λ w. absurd cc) (λ w. absurd cc) (λ w. absurd cc)) (no_width (length inside)) (line_across inside outside none)
across o form.Quoted inside outside is none = zero_across reads_line line_size o form.Quoted inside outside (not_filled o form.Quoted is (λ w. absurd cc) (λ w. absurd cc) (λ w. absurd cc)) (no_width (length inside)) (line_across inside outside none)
across o form.Decimal inside outside is none = zero_across reads_line line_size o form.Decimal inside outside (not_filled o form.Decimal is (λ w. absurd cc) (λ w. absurd cc) (λ w. absurd cc)) (no_width (length inside)) (line_across inside outside none)
across o form.Two inside outside is none = unfilled two two_size o form.Two inside outside (not_filled o form.Two is (λ w. absurd cc) (λ w. absurd cc) (λ w. absurd cc)) (two_across inside outside (line_size inside) refl none)
across o form.Bytes1 inside outside is none = counted_across o 1 (little_number 1) inside outside none (λ h far. refl) (λ h. little_from-append 1 inside outside h)
across o form.Bytes4 inside outside is none = counted_across o 4 (little_number 4) inside outside none (λ h far. refl) (λ h. little_from-append 4 inside outside h)
across o form.Bytes8 inside outside is none = counted_across o 8 (little_number 8) inside outside none (λ h far. refl) (λ h. little_from-append 8 inside outside h)
across o form.String4 inside outside is none = counted_across o 4 signed_count inside outside none (λ h far. signed_number inside (is_negative inside) refl h far) (λ h. negative_same inside outside h)
