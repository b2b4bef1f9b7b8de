-- What the unpickler in C reads from a file that shows some bytes, where nothing is lost.
use Rattle.std.proofs.Common.{◌≡◌, ℕ, zero, suc, ◌+◌, ◌-◌, ◌^◌, ◌<◌, ◌≤◌, Bool, true, false, List, [], ◌∷◌, ◌++◌, length, take, drop, Option, Some, None, refl, sym, ap, subst, ◌∙◌, arith}
use Rattle.std.specs.Prelude.{nat_le, ◌||◌, if◌then◌else◌}
use Rattle.std.specs.List.{list_any}
use Rattle.std.proofs.lemmas.Bool.{leb-true, leb-false, le-leb}
use Rattle.std.proofs.lemmas.List.{append_assoc, take-append-drop, length-append, length-take-le, length-drop, take_all, drop-drop, take-append-le, drop-append-le, take_at, drop_at}
use Rattle.byteorder.specs.Endian.{little_number}
use Rattle.pickle_ops.specs.declared.opcode.Opcode.{Opcode}
use Rattle.pickle_ops.specs.declared.opcode.Opcode.TheVariants as op
use Rattle.pickle_ops.specs.declared.form.Form.{Form}
use Rattle.pickle_ops.specs.declared.form.Form.TheVariants as form
use Rattle.pickle_ops.specs.Table.{code_of, form_of}
use Rattle.pickle_ops.specs.Shape.{is_newline, is_negative, IsLine, IsArg, value_fault}
use Rattle.pickle_ops.specs.Spelling.{Operation, spelling, size_of, IsSpelled}
use Rattle.pickle_ops.proofs.TableLemmas.{opcode_of-code}
use Rattle.pickle_lenient.specs.Stream.{is_filled}
use Rattle.pickle_further.specs.declared.way.Pickles.{Pickles}
use Rattle.pickle_loader.specs.Reader.{Line, one_more, line_at}
use Rattle.pickle_loader.specs.ShownFile.{Input, skip_consumed, shown, given, filled, read_from_file, Chunk, next_bytes, read_in, read, rest_into, read_into, line_given, line_from_file, line_in, read_line, joined, and_then, is_below, read_payload, read_counted, read_arg, rewound, behind, fetched, with_arg, with_code, with_key, fetch}
use Rattle.pickle_loader.proofs.Cuts.{drop_zero, take_none}
use Rattle.pickle_loader.proofs.Fetching.{line_found, front_number, fault_none}

-- ---- where the input stands

-- before these bytes, and what is read of the next so many of them is in the buffer: the buffer shows a beginning of them, and they are in the
-- file, from which what was consumed is not read yet; or the buffer has just so many of them, and the file has the others
pub data Stands (left : ℕ) (rest buffer : List ℕ) (next prefetched : ℕ) (file : List ℕ) : Type 0 where
  Shown : (more : List ℕ) → drop next buffer ++ more ≡ rest → drop (next - prefetched) file ≡ rest → left ≤ length buffer - next → prefetched ≤ next → next ≤ length buffer → Stands left rest buffer next prefetched file
  Given : drop next buffer ++ file ≡ rest → length buffer - next ≡ left → next ≤ length buffer → prefetched ≡ length buffer → Stands left rest buffer next prefetched file

abbrev pub Before : ℕ → List ℕ → Input → Type 0
Before left rest i = Stands left rest i.buffer i.next i.prefetched i.file

has_left : (left : ℕ) (rest : List ℕ) (i : Input) → Before left rest i → left ≤ length i.buffer - i.next
has_left left rest i (Shown more e f l p q) = l
has_left left rest i (Given e h q p) = omega (arith, h)

nothing : (xs : List ℕ) → length xs ≡ 0 → xs ≡ []
nothing [] e = refl
nothing (x ∷ xs) e = absurd (omega (arith, e))

drop_whole : (xs : List ℕ) → drop (length xs) xs ≡ []
drop_whole [] = refl
drop_whole (x ∷ xs) = drop_whole xs

-- ---- what was consumed

by_skip : (i : Input) (rest : List ℕ) (b : Bool) → nat_le i.next i.prefetched ≡ b → drop (i.next - i.prefetched) i.file ≡ rest
    → (if b then i else record i { prefetched = i.next; file = drop (i.next - i.prefetched) i.file }).file ≡ rest
by_skip i rest true e f = let none : 0 ≡ i.next - i.prefetched = omega (arith, leb-true i.next i.prefetched e) in sym (drop_zero i.file) ∙ ap (λ (n : ℕ). drop n i.file) none ∙ f
by_skip i rest false e f = f

-- the file stands before them, once this is skipped
pub skipped : (rest : List ℕ) (i : Input) → Before 0 rest i → (skip_consumed i).file ≡ rest
skipped rest i (Shown more e f l p q) = by_skip i rest (nat_le i.next i.prefetched) refl f
skipped rest i (Given e h q p) =
    let empty : drop i.next i.buffer ≡ [] = nothing (drop i.next i.buffer) (omega (arith, length-drop i.next i.buffer, h)) in
    let zero : i.next - i.prefetched ≡ 0 = omega (arith, q, p) in
    by_skip i rest (nat_le i.next i.prefetched) refl (ap (λ (n : ℕ). drop n i.file) zero ∙ drop_zero i.file ∙ ap (λ (l : List ℕ). l ++ i.file) (sym empty) ∙ e)

by_kept : (left : ℕ) (rest : List ℕ) (i : Input) (b : Bool) → nat_le i.next i.prefetched ≡ b → Before left rest i → Before left rest (if b then i else record i { prefetched = i.next; file = drop (i.next - i.prefetched) i.file })
by_kept left rest i true g before = before
by_kept left rest i false g (Shown more e f l p q) =
    let none : i.next - i.next ≡ 0 = omega arith in
    Shown more e (ap (λ (n : ℕ). drop n (drop (i.next - i.prefetched) i.file)) none ∙ drop_zero (drop (i.next - i.prefetched) i.file) ∙ f) l (omega arith) q
by_kept left rest i false g (Given e h q p) = absurd (omega (arith, leb-false i.next i.prefetched g, q, p))

-- the input stands where it did
pub kept : (left : ℕ) (rest : List ℕ) (i : Input) → Before left rest i → Before left rest (skip_consumed i)
kept left rest i before = by_kept left rest i (nat_le i.next i.prefetched) refl before

-- ---- reads in the buffer

next_taken : (n : ℕ) (xs rest u more : List ℕ) → length xs ≡ n → n ≤ length u → u ++ more ≡ xs ++ rest → (take n u ≡ xs) × (drop n u ++ more ≡ rest)
next_taken n xs rest u more size enough e =
    (sym (take-append-le n u more enough) ∙ ap (take n) e ∙ take_at xs rest n size, sym (drop-append-le n u more enough) ∙ ap (drop n) e ∙ drop_at xs rest n size)

next_before : (n left : ℕ) (xs rest : List ℕ) (i : Input) → length xs ≡ n → n ≤ length i.buffer - i.next → Before left (xs ++ rest) i
    → (take n (drop i.next i.buffer) ≡ xs) × Before (left - n) rest (record i { next = i.next + n })
next_before n left xs rest i size enough (Shown more e f l p q) =
    let next = next_taken n xs rest (drop i.next i.buffer) more size (omega (arith, enough, length-drop i.next i.buffer)) e in
    let sum : (i.next + n) - i.prefetched ≡ (i.next - i.prefetched) + n = omega (arith, p) in (
      next.0,
      Shown more (ap (λ (u : List ℕ). u ++ more) (sym (drop-drop n i.next i.buffer)) ∙ next.1) (ap (λ (m : ℕ). drop m i.file) sum ∙ sym (drop-drop n (i.next - i.prefetched) i.file) ∙ ap (drop n) f ∙ drop_at xs rest n size)
          (omega (arith, l, enough)) (omega (arith, p)) (omega (arith, enough, q)),
    )
next_before n left xs rest i size enough (Given e h q p) =
    let next = next_taken n xs rest (drop i.next i.buffer) i.file size (omega (arith, enough, length-drop i.next i.buffer)) e in (
      next.0,
      Given (ap (λ (u : List ℕ). u ++ i.file) (sym (drop-drop n i.next i.buffer)) ∙ next.1) (omega (arith, h, enough)) (omega (arith, enough, q)) p,
    )

-- ---- a new fill

record Fills (n : ℕ) (rest : List ℕ) (i : Input) : Type 0 where
  there : Before n rest i
  enough : n ≤ length i.buffer - i.next

by_fill : (count n : ℕ) (rest : List ℕ) (i : Input) (b : Bool) → nat_le n (length (take count i.file)) ≡ b → i.file ≡ rest → n ≤ length rest → Fills n rest (if b then shown count i else given n i)
by_fill count n rest i true e is enough =
    let has : n ≤ length (take count i.file) = leb-true n (length (take count i.file)) e in
    record {
      there = Shown (drop count i.file) (ap (λ (l : List ℕ). l ++ drop count i.file) (drop_zero (take count i.file)) ∙ take-append-drop count i.file ∙ is) (drop_zero i.file ∙ is) (omega (arith, has)) (omega arith) (omega arith);
      enough = omega (arith, has);
    }
by_fill count n rest i false e is enough =
    let size : length (take n i.file) ≡ n = length-take-le n i.file (omega (arith, ap length is, enough)) in
    record {
      there = Given (ap (λ (l : List ℕ). l ++ drop n i.file) (drop_zero (take n i.file)) ∙ take-append-drop n i.file ∙ is) (omega (arith, size)) (omega arith) refl;
      enough = omega (arith, size);
    }

fills : (shows : ℕ → ℕ) (n : ℕ) (rest : List ℕ) (i : Input) → Before 0 rest i → n ≤ length rest → Fills n rest (read_from_file shows n i)
fills shows n rest i before enough =
    let j : Input = skip_consumed i in
    let f = by_fill (shows i.turn) n rest j (nat_le n (length (take (shows i.turn) j.file))) refl (skipped rest i before) enough in
    record { there = f.there; enough = f.enough }

-- ---- a read

-- these bytes are read, and the input stands before others
pub record Reads (left : ℕ) (xs rest : List ℕ) (c : Option Chunk) : Type 0 where
  pub after : Input
  pub is : c ≡ Some (record { bytes = xs; after = after })
  pub there : Before left rest after

from_buffer : (n left : ℕ) (xs rest : List ℕ) (i : Input) → length xs ≡ n → n ≤ length i.buffer - i.next → Before left (xs ++ rest) i → Reads (left - n) xs rest (Some (next_bytes n i))
from_buffer n left xs rest i size enough before =
    let next = next_before n left xs rest i size enough before in
    record { after = record i { next = i.next + n }; is = ap (λ (l : List ℕ). Some (record { bytes = l; after = record i { next = i.next + n } })) next.0; there = next.1 }

read_filled : (n : ℕ) (xs rest : List ℕ) (i : Input) → length xs ≡ n → Fills n (xs ++ rest) i → Reads 0 xs rest (read_in n i)
read_filled n xs rest i size f =
    let none : n - n ≡ 0 = omega arith in
    subst (λ (c : Option Chunk). Reads 0 xs rest c) (sym (ap (λ (b : Bool). if b then Some (next_bytes n i) else None) (le-leb n (length i.buffer - i.next) f.enough)))
    (subst (λ (m : ℕ). Reads m xs rest (Some (next_bytes n i))) none (from_buffer n n xs rest i size f.enough f.there))

reads_by : (shows : ℕ → ℕ) (n left : ℕ) (xs rest : List ℕ) (i : Input) (b : Bool) → nat_le n (length i.buffer - i.next) ≡ b → length xs ≡ n → (0 < left → n ≤ left) → Before left (xs ++ rest) i
    → Reads (left - n) xs rest (if b then Some (next_bytes n i) else read_in n (read_from_file shows n i))
reads_by shows n left xs rest i true e size all before = from_buffer n left xs rest i size (leb-true n (length i.buffer - i.next) e) before
reads_by shows n zero xs rest i false e size all before =
    let none : 0 ≡ zero - n = omega arith in
    subst (λ (m : ℕ). Reads m xs rest (read_in n (read_from_file shows n i))) none
    (read_filled n xs rest (read_from_file shows n i) size (fills shows n (xs ++ rest) i before (omega (arith, size, length-append xs rest))))
reads_by shows n (suc left) xs rest i false e size all before =
    absurd (omega (arith, leb-false n (length i.buffer - i.next) e, all (omega arith), has_left (suc left) (xs ++ rest) i before))

pub reads : (shows : ℕ → ℕ) (n left : ℕ) (xs rest : List ℕ) (i : Input) → length xs ≡ n → (0 < left → n ≤ left) → Before left (xs ++ rest) i → Reads (left - n) xs rest (read shows n i)
reads shows n left xs rest i size all before = reads_by shows n left xs rest i (nat_le n (length i.buffer - i.next)) refl size all before

-- nothing is read where nothing is left
pub reads_nothing : (shows : ℕ → ℕ) (left : ℕ) (i : Input) → Before left [] i → read shows 1 i ≡ None
reads_nothing shows left i before =
    let none : drop i.next i.buffer ≡ [] = empty before in
    let size : length i.buffer - i.next ≡ 0 = omega (arith, length-drop i.next i.buffer, ap length none) in
    let over : left ≡ 0 = omega (arith, has_left left [] i before, size) in
    let file : (skip_consumed i).file ≡ [] = skipped [] i (subst (λ (m : ℕ). Before m [] i) over before) in
    ap (λ (m : ℕ). if nat_le 1 m then Some (next_bytes 1 i) else read_in 1 (read_from_file shows 1 i)) size
    ∙ ap (λ (l : List ℕ). read_in 1 (record (filled (shows i.turn) 1 (record (skip_consumed i) { file = l })) { turn = i.turn + 1 })) file
    ∙ ap (λ (l : List ℕ). read_in 1 (record (if nat_le 1 (length l) then shown (shows i.turn) (record (skip_consumed i) { file = [] }) else given 1 (record (skip_consumed i) { file = [] })) { turn = i.turn + 1 })) (take_none (shows i.turn))
  where
    no_more : (a b : List ℕ) → a ++ b ≡ [] → a ≡ []
    no_more [] b e = refl
    no_more (x ∷ a) b e = absurd cc

    empty : Before left [] i → drop i.next i.buffer ≡ []
    empty (Shown more e f l p q) = no_more (drop i.next i.buffer) more e
    empty (Given e h q p) = no_more (drop i.next i.buffer) i.file e

-- ---- bytes that are read into a string

-- behind what the buffer has
into_end : (i : Input) (rest : List ℕ) (b : Bool) → nat_le (length i.buffer) i.prefetched ≡ b → i.prefetched ≤ length i.buffer
    → Before 0 rest (record (if b then record i { next = length i.buffer } else record i { next = length i.buffer; prefetched = length i.buffer; file = drop (length i.buffer - i.prefetched) i.file }) { file = rest })
into_end i rest true e most =
    Given (ap (λ (l : List ℕ). l ++ rest) (drop_whole i.buffer)) (omega arith) (omega arith) (omega (arith, leb-true (length i.buffer) i.prefetched e, most))
into_end i rest false e most = Given (ap (λ (l : List ℕ). l ++ rest) (drop_whole i.buffer)) (omega arith) (omega arith) refl

few_prefetched : (left : ℕ) (rest : List ℕ) (i : Input) → Before left rest i → (i.prefetched ≤ length i.buffer) × (i.next ≤ length i.buffer)
few_prefetched left rest i (Shown more e f l p q) = (omega (arith, p, q), q)
few_prefetched left rest i (Given e h q p) = (omega (arith, p), q)

rest_read : (n : ℕ) (front xs rest : List ℕ) (j : Input) → length xs ≡ n → j.file ≡ xs ++ rest → Before 0 rest (record j { file = rest }) → Reads 0 (front ++ xs) rest (rest_into front n j)
rest_read n front xs rest j size is there =
    let enough : nat_le n (length j.file) ≡ true = le-leb n (length j.file) (omega (arith, size, length-append xs rest, ap length is)) in
    record {
      after = record j { file = rest };
      is =
          ap (λ (b : Bool). if b then Some (record { bytes = front ++ take n j.file; after = record j { file = drop n j.file } }) else None) enough
          ∙ ap (λ (l : List ℕ). Some (record { bytes = front ++ take n l; after = record j { file = drop n l } })) is
          ∙ ap (λ (l : List ℕ). Some (record { bytes = front ++ l; after = record j { file = drop n (xs ++ rest) } })) (take_at xs rest n size)
          ∙ ap (λ (l : List ℕ). Some (record { bytes = front ++ xs; after = record j { file = l } })) (drop_at xs rest n size);
      there = there;
    }

into_file : (n : ℕ) (xs rest : List ℕ) (i : Input) → length xs ≡ n → length i.buffer - i.next < n → Before 0 (xs ++ rest) i
    → Reads 0 xs rest (rest_into (drop i.next i.buffer) (n - (length i.buffer - i.next)) (skip_consumed (record i { next = length i.buffer })))
into_file n xs rest i size less before =
    let h : ℕ = length i.buffer - i.next in
    let j : Input = record i { next = length i.buffer } in
    let few = few_prefetched 0 (xs ++ rest) i before in
    let first : length (take h xs) ≡ h = length-take-le h xs (omega (arith, size, less)) in
    let whole : take h xs ++ drop h xs ≡ xs = take-append-drop h xs in
    let parts : xs ++ rest ≡ take h xs ++ (drop h xs ++ rest) = ap (λ (l : List ℕ). l ++ rest) (sym whole) ∙ append_assoc (take h xs) (drop h xs) rest in
    let next = next_before h 0 (take h xs) (drop h xs ++ rest) i first (omega arith) (subst (λ (l : List ℕ). Before 0 l i) parts before) in
    let none : 0 - h ≡ 0 = omega arith in
    let end : i.next + h ≡ length i.buffer = omega (arith, few.1) in
    let there : Before 0 (drop h xs ++ rest) j = subst (λ (m : ℕ). Stands 0 (drop h xs ++ rest) i.buffer m i.prefetched i.file) end (subst (λ (m : ℕ). Before m (drop h xs ++ rest) (record i { next = i.next + h })) none next.1) in
    let front : drop i.next i.buffer ≡ take h xs = sym (take_all h (drop i.next i.buffer) (omega (arith, length-drop i.next i.buffer))) ∙ next.0 in
    subst (λ (l : List ℕ). Reads 0 l rest (rest_into (drop i.next i.buffer) (n - h) (skip_consumed j))) (ap (λ (l : List ℕ). l ++ drop h xs) front ∙ whole)
    (rest_read (n - h) (drop i.next i.buffer) (drop h xs) rest (skip_consumed j) (omega (arith, length-drop h xs, size)) (skipped (drop h xs ++ rest) j there)
    (into_end i rest (nat_le (length i.buffer) i.prefetched) refl few.0))

into_by : (n left : ℕ) (xs rest : List ℕ) (i : Input) (b : Bool) → nat_le n (length i.buffer - i.next) ≡ b → length xs ≡ n → (0 < left → n ≤ left) → Before left (xs ++ rest) i
    → Reads (left - n) xs rest (if b then Some (next_bytes n i) else rest_into (drop i.next i.buffer) (n - (length i.buffer - i.next)) (skip_consumed (record i { next = length i.buffer })))
into_by n left xs rest i true e size all before = from_buffer n left xs rest i size (leb-true n (length i.buffer - i.next) e) before
into_by n zero xs rest i false e size all before =
    let none : 0 ≡ zero - n = omega arith in
    subst (λ (m : ℕ). Reads m xs rest (rest_into (drop i.next i.buffer) (n - (length i.buffer - i.next)) (skip_consumed (record i { next = length i.buffer })))) none
    (into_file n xs rest i size (leb-false n (length i.buffer - i.next) e) before)
into_by n (suc left) xs rest i false e size all before =
    absurd (omega (arith, leb-false n (length i.buffer - i.next) e, all (omega arith), has_left (suc left) (xs ++ rest) i before))

reads_into : (n left : ℕ) (xs rest : List ℕ) (i : Input) → length xs ≡ n → (0 < left → n ≤ left) → Before left (xs ++ rest) i → Reads (left - n) xs rest (read_into n i)
reads_into n left xs rest i size all before = into_by n left xs rest i (nat_le n (length i.buffer - i.next)) refl size all before

-- ---- lines

abbrev a_line : List ℕ → List ℕ
a_line text = text ++ 10 ∷ []

line_long : (text : List ℕ) → length (a_line text) ≡ length text + 1
line_long text = length-append text (10 ∷ [])

neither : (a b : Bool) → (a || b) ≡ false → (a ≡ false) × (b ≡ false)
neither true b e = absurd cc
neither false b e = (refl, e)

first_same : (b c : ℕ) (u v : List ℕ) → b ∷ u ≡ c ∷ v → (b ≡ c) × (u ≡ v)
first_same b c u v e = (cc, cc)

-- a beginning of a line has no newline
no_line : (u more text rest : List ℕ) → u ++ more ≡ a_line text ++ rest → length u ≤ length text → list_any is_newline text ≡ false → line_at u ≡ None
no_line [] more text rest e less clean = refl
no_line (b ∷ u) more [] rest e less clean = absurd (omega (arith, less))
no_line (b ∷ u) more (c ∷ text) rest e less clean =
    let same = first_same b c (u ++ more) (a_line text ++ rest) e in
    let none = neither (is_newline c) (list_any is_newline text) clean in
    ap (λ (d : Bool). if d then Some (record { text = []; rest = u }) else one_more b (line_at u)) (ap is_newline same.0 ∙ none.0)
    ∙ ap (one_more b) (no_line u more text rest same.1 (omega (arith, less)) none.1)

-- a line that the buffer has
line_there : (left : ℕ) (text rest : List ℕ) (i : Input) → list_any is_newline text ≡ false → length (a_line text) ≤ length i.buffer - i.next → Before left (a_line text ++ rest) i
    → Reads (left - length (a_line text)) (a_line text) rest (read_line i)
line_there left text rest i clean enough before =
    let n : ℕ = length (a_line text) in
    let u : List ℕ = drop i.next i.buffer in
    let next = next_before n left (a_line text) rest i refl enough before in
    let is : u ≡ text ++ 10 ∷ drop n u = sym (take-append-drop n u) ∙ ap (λ (l : List ℕ). l ++ drop n u) next.0 ∙ append_assoc text (10 ∷ []) (drop n u) in
    record {
      after = record i { next = i.next + n };
      is = ap (λ (l : List ℕ). line_in (line_at l) i) is ∙ ap (λ (x : Option Line). line_in x i) (line_found text (drop n u) clean);
      there = next.1;
    }

-- a line that the file gives
line_behind : (text rest : List ℕ) (i : Input) → list_any is_newline text ≡ false → i.file ≡ a_line text ++ rest → Reads 0 (a_line text) rest (line_from_file i)
line_behind text rest i clean is =
    let line : List ℕ = a_line text in
    record {
      after = record i { buffer = line; next = length line; prefetched = length line; file = rest };
      is = ap (λ (l : List ℕ). line_given (line_at l) i) (is ∙ append_assoc text (10 ∷ []) rest) ∙ ap (λ (x : Option Line). line_given x i) (line_found text rest clean);
      there = Given (ap (λ (l : List ℕ). l ++ rest) (drop_whole line)) (omega arith) (omega arith) refl;
    }

line_far : (text rest : List ℕ) (i : Input) → list_any is_newline text ≡ false → length i.buffer - i.next < length (a_line text) → Before 0 (a_line text ++ rest) i → Reads 0 (a_line text) rest (read_line i)
line_far text rest i clean less before =
    let u : List ℕ = drop i.next i.buffer in
    let few : length u ≤ length text = omega (arith, length-drop i.next i.buffer, less, line_long text) in
    subst (λ (x : Option Line). Reads 0 (a_line text) rest (line_in x i)) (sym (no_newline few before)) (line_behind text rest (skip_consumed i) clean (skipped (a_line text ++ rest) i before))
  where
    no_newline : length (drop i.next i.buffer) ≤ length text → Before 0 (a_line text ++ rest) i → line_at (drop i.next i.buffer) ≡ None
    no_newline few (Shown more e f l p q) = no_line (drop i.next i.buffer) more text rest e few clean
    no_newline few (Given e h q p) = no_line (drop i.next i.buffer) i.file text rest e few clean

line_by : (left : ℕ) (text rest : List ℕ) (i : Input) (b : Bool) → nat_le (length (a_line text)) (length i.buffer - i.next) ≡ b → list_any is_newline text ≡ false → (0 < left → length (a_line text) ≤ left) → Before left (a_line text ++ rest) i
    → Reads (left - length (a_line text)) (a_line text) rest (read_line i)
line_by left text rest i true e clean all before = line_there left text rest i clean (leb-true (length (a_line text)) (length i.buffer - i.next) e) before
line_by zero text rest i false e clean all before =
    let none : 0 ≡ zero - length (a_line text) = omega arith in
    subst (λ (m : ℕ). Reads m (a_line text) rest (read_line i)) none (line_far text rest i clean (leb-false (length (a_line text)) (length i.buffer - i.next) e) before)
line_by (suc left) text rest i false e clean all before =
    absurd (omega (arith, leb-false (length (a_line text)) (length i.buffer - i.next) e, all (omega arith), has_left (suc left) (a_line text ++ rest) i before))

reads_line : (left : ℕ) (arg rest : List ℕ) (i : Input) → IsLine arg → (0 < left → length arg ≤ left) → Before left (arg ++ rest) i → Reads (left - length arg) arg rest (read_line i)
reads_line left arg rest i (text, clean, is) =
    subst (λ (l : List ℕ). (0 < left → length l ≤ left) → Before left (l ++ rest) i → Reads (left - length l) l rest (read_line i)) (sym is)
    (line_by left text rest i (nat_le (length (a_line text)) (length i.buffer - i.next)) refl clean)

-- ---- arguments

-- a read and another
reads_both : (one two : ℕ) (first second rest : List ℕ) (c : Option Chunk) (more : List ℕ → Input → Option Chunk) → (r : Reads one first (second ++ rest) c) → Reads two second rest (more first r.after) → Reads two (first ++ second) rest (and_then c more)
reads_both one two first second rest c more r s = record { after = s.after; is = ap (λ (x : Option Chunk). and_then x more) r.is ∙ ap (joined first) s.is; there = s.there }

less_is : (left n m : ℕ) (xs rest : List ℕ) (c : Option Chunk) → n ≡ m → Reads (left - n) xs rest c → Reads (left - m) xs rest c
less_is left n m xs rest c e r = subst (λ (k : ℕ). Reads (left - k) xs rest c) e r

fixed : (shows : ℕ → ℕ) (n left : ℕ) (arg rest : List ℕ) (i : Input) → length arg ≡ n → (0 < left → length arg ≤ left) → Before left (arg ++ rest) i → Reads (left - length arg) arg rest (read shows n i)
fixed shows n left arg rest i size all before = less_is left n (length arg) arg rest (read shows n i) (sym size) (reads shows n left arg rest i size (λ some. omega (arith, size, all some)) before)

no_arg : (left : ℕ) (arg rest : List ℕ) (i : Input) → length arg ≡ 0 → Before left (arg ++ rest) i → Reads (left - length arg) arg rest (Some (record { bytes = []; after = i }))
no_arg left [] rest i e before = let same : left ≡ left - 0 = omega arith in record { after = i; is = refl; there = subst (λ (m : ℕ). Before m rest i) same before }
no_arg left (b ∷ arg) rest i e before = absurd (omega (arith, e))

payload_by : (shows : ℕ → ℕ) (n left : ℕ) (xs rest : List ℕ) (i : Input) (b : Bool) → length xs ≡ n → (0 < left → n ≤ left) → Before left (xs ++ rest) i → Reads (left - n) xs rest (if b then read_into n i else read shows n i)
payload_by shows n left xs rest i true size all before = reads_into n left xs rest i size all before
payload_by shows n left xs rest i false size all before = reads shows n left xs rest i size all before

counted : (shows : ℕ → ℕ) (o : Opcode) (width left : ℕ) (arg rest : List ℕ) (i : Input) → width ≤ length arg → length arg ≡ width + little_number width arg → is_below o (take width arg) ≡ false
    → (0 < left → length arg ≤ left) → Before left (arg ++ rest) i → Reads (left - length arg) arg rest (read_counted shows o width i)
counted shows o width left arg rest i h e below all before =
    let size : List ℕ = take width arg in
    let pay : List ℕ = drop width arg in
    let n : ℕ = little_number width size in
    let whole : size ++ pay ≡ arg = take-append-drop width arg in
    let long : length pay ≡ n = omega (arith, length-drop width arg, h, e, front_number width arg) in
    let parts : arg ++ rest ≡ size ++ (pay ++ rest) = ap (λ (l : List ℕ). l ++ rest) (sym whole) ∙ append_assoc size pay rest in
    let total : (left - width) - n ≡ left - length arg = omega (arith, e, front_number width arg) in
    let first = reads shows width left size (pay ++ rest) i (length-take-le width arg h) (λ some. omega (arith, h, all some)) (subst (λ (l : List ℕ). Before left l i) parts before) in
    let second = payload_by shows n (left - width) pay rest first.after (is_filled o) long (λ some. omega (arith, long, length-drop width arg, h, all (omega (arith, some)))) first.there in
    let behind_it : Reads ((left - width) - n) pay rest (if is_below o size then None else read_payload shows o n first.after) =
    record { after = second.after; is = ap (λ (b : Bool). if b then None else read_payload shows o n first.after) below ∙ second.is; there = second.there } in
    subst (λ (l : List ℕ). Reads (left - length arg) l rest (read_counted shows o width i)) whole
    (subst (λ (m : ℕ). Reads m (size ++ pay) rest (read_counted shows o width i)) total
    (reads_both (left - width) ((left - width) - n) size pay rest (read shows width i) (λ bytes j. if is_below o bytes then None else read_payload shows o (little_number width bytes) j) first behind_it))

-- only LONG4 looks at a sign
below_by : (o : Opcode) (size : List ℕ) → (form_of o ≡ form.String4 → is_negative size ≡ false) → is_below o size ≡ false
below_by op.Long4 size h = h refl
below_by _ size h = refl

unsigned : (o : Opcode) (f : Form) (size : List ℕ) → form_of o ≡ f → (f ≡ form.String4 → ⊥) → is_below o size ≡ false
unsigned o f size is other = below_by o size (λ e. absurd (other (sym is ∙ e)))

signed : (shows : ℕ → ℕ) (o : Opcode) (left : ℕ) (arg rest : List ℕ) (i : Input) → 4 ≤ length arg → length arg ≡ 4 + (if is_negative arg then 0 else little_number 4 arg) → is_negative arg ≡ false
    → (0 < left → length arg ≤ left) → Before left (arg ++ rest) i → Reads (left - length arg) arg rest (read_counted shows o 4 i)
signed shows o left arg rest i h e positive all before =
    let size : length arg ≡ 4 + little_number 4 arg = e ∙ ap (λ (b : Bool). 4 + (if b then 0 else little_number 4 arg)) positive in
    counted shows o 4 left arg rest i h size (below_by o (take 4 arg) (λ is. ap (λ (n : ℕ). nat_le (2 ^ 31) n) (front_number 4 arg) ∙ positive)) all before

two_lines : (left : ℕ) (first second rest : List ℕ) (i : Input) → IsLine first → IsLine second → (0 < left → length (first ++ second) ≤ left) → Before left ((first ++ second) ++ rest) i
    → Reads (left - length (first ++ second)) (first ++ second) rest (and_then (read_line i) (λ bytes j. read_line j))
two_lines left first second rest i a b all before =
    let size : length (first ++ second) ≡ length first + length second = length-append first second in
    let total : (left - length first) - length second ≡ left - length (first ++ second) = omega (arith, size) in
    let one = reads_line left first (second ++ rest) i a (λ some. omega (arith, size, all some)) (subst (λ (l : List ℕ). Before left l i) (append_assoc first second rest) before) in
    let two = reads_line (left - length first) second rest one.after b (λ some. omega (arith, size, all (omega (arith, some)))) one.there in
    subst (λ (m : ℕ). Reads m (first ++ second) rest (and_then (read_line i) (λ bytes j. read_line j))) total
    (reads_both (left - length first) ((left - length first) - length second) first second rest (read_line i) (λ bytes j. read_line j) one two)

reads_arg : (shows : ℕ → ℕ) (o : Opcode) (f : Form) (left : ℕ) (arg rest : List ℕ) (i : Input) → form_of o ≡ f → IsArg f arg → value_fault f arg ≡ None → (0 < left → length arg ≤ left) → Before left (arg ++ rest) i
    → Reads (left - length arg) arg rest (read_arg shows o f i)
reads_arg shows o form.Empty left arg rest i is h v all before = no_arg left arg rest i h before
reads_arg shows o form.Uint1 left arg rest i is h v all before = fixed shows 1 left arg rest i h all before
reads_arg shows o form.Uint2 left arg rest i is h v all before = fixed shows 2 left arg rest i h all before
reads_arg shows o form.Uint4 left arg rest i is h v all before = fixed shows 4 left arg rest i h all before
reads_arg shows o form.Uint8 left arg rest i is h v all before = fixed shows 8 left arg rest i h all before
reads_arg shows o form.Int4 left arg rest i is h v all before = fixed shows 4 left arg rest i h all before
reads_arg shows o form.Float8 left arg rest i is h v all before = fixed shows 8 left arg rest i h all before
reads_arg shows o form.Line left arg rest i is h v all before = reads_line left arg rest i h all before
reads_arg shows o form.Quoted left arg rest i is h v all before = reads_line left arg rest i h all before
reads_arg shows o form.Decimal left arg rest i is h v all before = reads_line left arg rest i h all before
reads_arg shows o form.Two left arg rest i is (first, second, a, b, parts) v all before =
    subst (λ (l : List ℕ). (0 < left → length l ≤ left) → Before left (l ++ rest) i → Reads (left - length l) l rest (read_arg shows o form.Two i)) (sym parts) (two_lines left first second rest i a b) all before
reads_arg shows o form.Bytes1 left arg rest i is (h, e) v all before = counted shows o 1 left arg rest i h e (unsigned o form.Bytes1 (take 1 arg) is (λ w. absurd cc)) all before
reads_arg shows o form.Bytes4 left arg rest i is (h, e) v all before = counted shows o 4 left arg rest i h e (unsigned o form.Bytes4 (take 4 arg) is (λ w. absurd cc)) all before
reads_arg shows o form.Bytes8 left arg rest i is (h, e) v all before = counted shows o 8 left arg rest i h e (unsigned o form.Bytes8 (take 8 arg) is (λ w. absurd cc)) all before
reads_arg shows o form.String4 left arg rest i is (h, e) v all before = signed shows o left arg rest i h e (fault_none (is_negative arg) _ v) all before

-- ---- an opcode

pub record Fetches (shows : ℕ → ℕ) (p : Pickles) (o : Operation) (left : ℕ) (rest : List ℕ) (i : Input) : Type 0 where
  pub after : Input
  pub is : fetch shows p i ≡ fetched o (behind shows p o.opcode o.arg after)
  pub there : Before (left - size_of o) rest after

pub fetches : (shows : ℕ → ℕ) (p : Pickles) (o : Operation) (left : ℕ) (rest : List ℕ) (i : Input) → IsSpelled o → (0 < left → size_of o ≤ left) → Before left (spelling o ++ rest) i → Fetches shows p o left rest i
fetches shows p o left rest i spelled all before =
    let code = reads shows 1 left (code_of o.opcode ∷ []) (o.arg ++ rest) i refl (λ some. omega (arith, all some)) before in
    let arg = reads_arg shows o.opcode (form_of o.opcode) (left - 1) o.arg rest code.after refl spelled.arg spelled.value (λ some. omega (arith, all (omega (arith, some)))) code.there in
    let total : (left - 1) - length o.arg ≡ left - size_of o = omega arith in
    record {
      after = arg.after;
      is =
          ap (with_key shows p) code.is ∙ ap (λ (x : Option Opcode). with_code shows p x code.after) (opcode_of-code o.opcode)
          ∙ ap (with_arg shows p o.opcode) arg.is;
      there = subst (λ (m : ℕ). Before m rest arg.after) total arg.there;
    }

-- ---- behind it

-- the bytes of a frame are read, and are the next again
back : (n : ℕ) (rest : List ℕ) (i : Input) → Before n rest i → Before n rest (record i { next = (i.next + n) - n })
back n rest i before = let same : i.next ≡ (i.next + n) - n = omega arith in subst (λ (k : ℕ). Stands n rest i.buffer k i.prefetched i.file) same before

in_reach : (n : ℕ) (rest : List ℕ) (i : Input) → n ≤ length i.buffer - i.next → Before 0 rest i → Before n rest i
in_reach n rest i enough (Shown more e f l p q) = Shown more e f enough p q
in_reach n rest i enough (Given e h q p) = Given e (omega (arith, h, enough)) q p

rewinds_by : (shows : ℕ → ℕ) (n : ℕ) (rest : List ℕ) (i : Input) (b : Bool) → nat_le n (length i.buffer - i.next) ≡ b → n ≤ length rest → Before 0 rest i
    → (j : Input) × (rewound n (if b then Some (next_bytes n i) else read_in n (read_from_file shows n i)) ≡ Some j) × Before n rest j
rewinds_by shows n rest i true e enough before = (record i { next = (i.next + n) - n }, refl, back n rest i (in_reach n rest i (leb-true n (length i.buffer - i.next) e) before))
rewinds_by shows n rest i false e enough before =
    let j : Input = read_from_file shows n i in
    let f = fills shows n rest i before enough in
    (record j { next = (j.next + n) - n }, ap (λ (b : Bool). rewound n (if b then Some (next_bytes n j) else None)) (le-leb n (length j.buffer - j.next) f.enough), back n rest j f.there)

pub rewinds : (shows : ℕ → ℕ) (n : ℕ) (rest : List ℕ) (i : Input) → n ≤ length rest → Before 0 rest i → (j : Input) × (rewound n (read shows n i) ≡ Some j) × Before n rest j
rewinds shows n rest i enough before = rewinds_by shows n rest i (nat_le n (length i.buffer - i.next)) refl enough before
