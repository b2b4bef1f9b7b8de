-- What the unpickler in C reads from a file that shows some bytes is what is read from split bytes: those that the file only showed can not be lost,
-- and count as behind the buffer.
use Rattle.std.proofs.Common.{◌≡◌, ℕ, zero, suc, ◌+◌, ◌-◌, ◌<◌, ◌≤◌, Bool, true, false, List, [], ◌∷◌, ◌++◌, length, take, drop, Option, Some, None, refl, sym, ap, subst, ◌∙◌, arith}
use Rattle.std.specs.Prelude.{nat_le, if◌then◌else◌, ⊤}
use Rattle.std.proofs.Math.Seq.{take-append-add, drop-append-add}
use Rattle.std.proofs.lemmas.Bool.{eqb-true, leb-true, leb-false, le-leb, lt-leb}
use Rattle.std.proofs.lemmas.List.{take-append-drop, length-append, length-take-le, length-drop, take_all, drop-drop, take-append-le, drop-append-le, drop_at}
use Rattle.byteorder.specs.Endian.{little_number}
use Rattle.pickle_ops.specs.declared.opcode.Opcode.{Opcode}
use Rattle.pickle_ops.specs.declared.form.Form.{Form}
use Rattle.pickle_ops.specs.declared.form.Form.TheVariants as form
use Rattle.pickle_ops.specs.Shape.{is_newline}
use Rattle.pickle_lenient.specs.Stream.{is_filled}
use Rattle.pickle_loader.specs.Reader.{Line, one_more, line_at}
use Rattle.pickle_loader.specs.ShownFile as input
use Rattle.pickle_loader.specs.ShownFile.{Input, in_buffer, skip_consumed, shown, given, filled, read_from_file, Chunk, next_bytes, read_in, read, rest_into, read_into, line_given, line_from_file, line_in, read_line, is_below}
use Rattle.pickle_loader.proofs.Cuts.{drop_zero}
use Rattle.reach_laws.proofs.Split.{Split, Got, got_inside, from_outside, reads, rest_outside, reads_into, line_outside, line_by, reads_line, joined, and_then, reads_payload, counts, reads_counted, reads_arg}

-- ---- where the input stands

-- the buffer has bytes that the file only showed; or bytes that it gave, and what is left of these can be lost
pub data Stands (buffer : List ℕ) (next prefetched : ℕ) (file : List ℕ) (s : Split) : Type 0 where
  Shown : (more : List ℕ) → s.inside ≡ [] → drop next buffer ++ more ≡ s.outside → drop (next - prefetched) file ≡ s.outside → prefetched ≤ next → next ≤ length buffer → Stands buffer next prefetched file s
  Given : drop next buffer ≡ s.inside → file ≡ s.outside → next ≤ length buffer → prefetched ≡ length buffer → Stands buffer next prefetched file s

abbrev pub IsAt : Split → Input → Type 0
IsAt s i = Stands i.buffer i.next i.prefetched i.file s

-- the same is read, and the input stands before the same
abbrev pub Sees : Option Got → Option Chunk → Type 0
Sees None None = ⊤
Sees None (Some c) = ⊥
Sees (Some g) None = ⊥
Sees (Some g) (Some c) = (g.bytes ≡ c.bytes) × IsAt g.after c.after

drop_whole : (xs : List ℕ) → drop (length xs) xs ≡ []
drop_whole [] = refl
drop_whole (x ∷ xs) = drop_whole xs

-- ---- a new fill

-- the file stands behind what was consumed
by_skip : (i : Input) (outside : List ℕ) (b : Bool) → nat_le i.next i.prefetched ≡ b → drop (i.next - i.prefetched) i.file ≡ outside
    → (if b then i else record i { prefetched = i.next; file = drop (i.next - i.prefetched) i.file }).file ≡ outside
by_skip i outside true e f =
    let none : 0 ≡ i.next - i.prefetched = omega (arith, leb-true i.next i.prefetched e) in
    sym (drop_zero i.file) ∙ ap (λ (n : ℕ). drop n i.file) none ∙ f
by_skip i outside false e f = f

pub skipped : (s : Split) (i : Input) → IsAt s i → (skip_consumed i).file ≡ s.outside
skipped s i (Shown more none e f p q) = by_skip i s.outside (nat_le i.next i.prefetched) refl f
skipped s i (Given e f q p) =
    let zero : i.next - i.prefetched ≡ 0 = omega (arith, q, p) in
    by_skip i s.outside (nat_le i.next i.prefetched) refl (ap (λ (n : ℕ). drop n i.file) zero ∙ drop_zero i.file ∙ f)

by_kept : (s : Split) (i : Input) (b : Bool) → nat_le i.next i.prefetched ≡ b → IsAt s i → IsAt s (if b then i else record i { prefetched = i.next; file = drop (i.next - i.prefetched) i.file })
by_kept s i true e at = at
by_kept s i false e (Shown more none f g p q) =
    let zero : i.next - i.next ≡ 0 = omega arith in
    Shown more none f (ap (λ (n : ℕ). drop n (drop (i.next - i.prefetched) i.file)) zero ∙ drop_zero (drop (i.next - i.prefetched) i.file) ∙ g) (omega arith) q
by_kept s i false e (Given f g q p) = absurd (omega (arith, leb-false i.next i.prefetched e, q, p))

-- the input stands where it did
pub kept : (s : Split) (i : Input) → IsAt s i → IsAt s (skip_consumed i)
kept s i at = by_kept s i (nat_le i.next i.prefetched) refl at

take_less : (count : ℕ) (xs : List ℕ) → length (take count xs) ≤ length xs
take_less count xs = omega (arith, ap length (take-append-drop count xs), length-append (take count xs) (drop count xs))

-- so many bytes of what is shown
pub shown_at : (count : ℕ) (outside : List ℕ) (j : Input) → j.file ≡ outside → IsAt (record { inside = []; outside = outside }) (shown count j)
shown_at count outside j is =
    Shown (drop count j.file) refl (ap (λ (l : List ℕ). l ++ drop count j.file) (drop_zero (take count j.file)) ∙ take-append-drop count j.file ∙ is) (drop_zero j.file ∙ is) (omega arith) (omega arith)

-- or of what is given
pub given_at : (n : ℕ) (outside : List ℕ) (j : Input) → j.file ≡ outside → IsAt (record { inside = take n outside; outside = drop n outside }) (given n j)
given_at n outside j is = Given (drop_zero (take n j.file) ∙ ap (take n) is) (ap (drop n) is) (omega arith) refl

-- the next bytes of the buffer
next_shown : (n : ℕ) (outside : List ℕ) (i : Input) → n ≤ in_buffer i → IsAt (record { inside = []; outside = outside }) i → ((more : List ℕ) → drop i.next i.buffer ++ more ≡ outside → i.prefetched ≤ i.next → drop (i.next - i.prefetched) i.file ≡ outside → i.next ≤ length i.buffer
    → (take n outside ≡ take n (drop i.next i.buffer)) × IsAt (record { inside = []; outside = drop n outside }) (record i { next = i.next + n }))
next_shown n outside i enough at more e p f q =
    let u : List ℕ = drop i.next i.buffer in
    let long : n ≤ length u = omega (arith, enough, length-drop i.next i.buffer) in
    let sum : (i.next + n) - i.prefetched ≡ (i.next - i.prefetched) + n = omega (arith, p) in (
      ap (take n) (sym e) ∙ take-append-le n u more long,
      Shown more refl (ap (λ (v : List ℕ). v ++ more) (sym (drop-drop n i.next i.buffer)) ∙ sym (drop-append-le n u more long) ∙ ap (drop n) e)
          (ap (λ (m : ℕ). drop m i.file) sum ∙ sym (drop-drop n (i.next - i.prefetched) i.file) ∙ ap (drop n) f) (omega (arith, p)) (omega (arith, enough, q)),
    )

in_shown : (n : ℕ) (outside : List ℕ) (i : Input) (more : List ℕ) → drop i.next i.buffer ++ more ≡ outside → n ≤ in_buffer i → n ≤ length outside
in_shown n outside i more e enough = omega (arith, enough, length-drop i.next i.buffer, ap length e, length-append (drop i.next i.buffer) more)

sees_shown : (n : ℕ) (outside : List ℕ) (i : Input) (more : List ℕ) → drop i.next i.buffer ++ more ≡ outside → drop (i.next - i.prefetched) i.file ≡ outside → i.prefetched ≤ i.next → i.next ≤ length i.buffer → n ≤ in_buffer i
    → Sees (from_outside n outside) (Some (next_bytes n i))
sees_shown n outside i more e f p q enough =
    subst (λ (b : Bool). Sees (if b then Some (record { bytes = take n outside; after = record { inside = []; outside = drop n outside } }) else None) (Some (next_bytes n i))) (sym (le-leb n (length outside) (in_shown n outside i more e enough)))
    (next_shown n outside i enough (Shown more refl e f p q) more e p f q)

by_given : (n : ℕ) (outside : List ℕ) (j : Input) (turn : ℕ) (b : Bool) → nat_le n (length outside) ≡ b → j.file ≡ outside
    → Sees (if b then Some (record { bytes = take n outside; after = record { inside = []; outside = drop n outside } }) else None) (read_in n (record (given n j) { turn = turn }))
by_given n outside j turn true g is =
    let k : Input = record (given n j) { turn = turn } in
    let there : n ≤ length j.file = omega (arith, leb-true n (length outside) g, ap length is) in
    let size : length (take n j.file) ≡ n = length-take-le n j.file there in
    let end : 0 + n ≡ length (take n j.file) = omega (arith, size) in
    subst (λ (b : Bool). Sees (Some (record { bytes = take n outside; after = record { inside = []; outside = drop n outside } })) (if b then Some (next_bytes n k) else None)) (sym (le-leb n (in_buffer k) (omega (arith, size)))) (
      ap (take n) (sym is) ∙ sym (ap (take n) (drop_zero (take n j.file)) ∙ take_all n (take n j.file) (omega (arith, size))),
      Given (ap (λ (m : ℕ). drop m (take n j.file)) end ∙ drop_whole (take n j.file)) (ap (drop n) is) (omega (arith, end)) refl,
    )
by_given n outside j turn false g is =
    let k : Input = record (given n j) { turn = turn } in
    let few : length outside < n = leb-false n (length outside) g in
    let size : in_buffer k < n = omega (arith, take_less n j.file, ap length is, few) in
    subst (λ (b : Bool). Sees None (if b then Some (next_bytes n k) else None)) (sym (lt-leb n (in_buffer k) size)) tt

by_shown : (shows : ℕ) (n : ℕ) (outside : List ℕ) (j : Input) (b : Bool) → nat_le n (length (take shows j.file)) ≡ b → j.file ≡ outside → (turn : ℕ)
    → Sees (from_outside n outside) (read_in n (record (if b then shown shows j else given n j) { turn = turn }))
by_shown shows n outside j true e is turn =
    let k : Input = record (shown shows j) { turn = turn } in
    let enough : n ≤ in_buffer k = omega (arith, leb-true n (length (take shows j.file)) e) in
    subst (λ (b : Bool). Sees (from_outside n outside) (if b then Some (next_bytes n k) else None)) (sym (le-leb n (in_buffer k) enough))
    (sees_shown n outside k (drop shows j.file) (ap (λ (l : List ℕ). l ++ drop shows j.file) (drop_zero (take shows j.file)) ∙ take-append-drop shows j.file ∙ is) (drop_zero j.file ∙ is) (omega arith) (omega arith) enough)
by_shown shows n outside j false e is turn = by_given n outside j turn (nat_le n (length outside)) refl is

-- the buffer is filled anew
sees_fill : (shows : ℕ → ℕ) (n : ℕ) (outside : List ℕ) (i : Input) → (skip_consumed i).file ≡ outside → Sees (from_outside n outside) (read_in n (read_from_file shows n i))
sees_fill shows n outside i is = by_shown (shows i.turn) n outside (skip_consumed i) (nat_le n (length (take (shows i.turn) (skip_consumed i).file))) refl is (i.turn + 1)

-- ---- a read

-- where nothing is in the buffer
pub empty_reads : (n : ℕ) (outside : List ℕ) → reads n (record { inside = []; outside = outside }) ≡ from_outside n outside
empty_reads zero outside = ap (λ (b : Bool). if b then Some (record { bytes = []; after = record { inside = []; outside = outside } }) else None) (sym (le-leb 0 (length outside) (omega arith)))
empty_reads (suc n) outside = ap (λ (b : Bool). if b then Some (got_inside (suc n) (record { inside = []; outside = outside })) else from_outside (suc n) outside) (lt-leb (suc n) 0 (omega arith))

pub empty_into : (n : ℕ) (outside : List ℕ) → reads_into n (record { inside = []; outside = outside }) ≡ from_outside n outside
empty_into zero outside = ap (λ (b : Bool). if b then Some (record { bytes = []; after = record { inside = []; outside = outside } }) else None) (sym (le-leb 0 (length outside) (omega arith)))
empty_into (suc n) outside =
    let none : suc n - 0 ≡ suc n = omega arith in
    ap (λ (b : Bool). if b then Some (got_inside (suc n) (record { inside = []; outside = outside })) else rest_outside [] (suc n - 0) outside) (lt-leb (suc n) 0 (omega arith))
    ∙ ap (λ (m : ℕ). rest_outside [] m outside) none

-- bytes that were given
next_given : (n : ℕ) (s : Split) (i : Input) → drop i.next i.buffer ≡ s.inside → i.file ≡ s.outside → n ≤ in_buffer i → i.next ≤ length i.buffer → i.prefetched ≡ length i.buffer → Sees (Some (got_inside n s)) (Some (next_bytes n i))
next_given n s i e f enough q p = (ap (take n) (sym e), Given (sym (drop-drop n i.next i.buffer) ∙ ap (drop n) e) f (omega (arith, enough, q)) p)

given_by : (shows : ℕ → ℕ) (n : ℕ) (s : Split) (i : Input) (b : Bool) → nat_le n (in_buffer i) ≡ b → drop i.next i.buffer ≡ s.inside → i.file ≡ s.outside → i.next ≤ length i.buffer → i.prefetched ≡ length i.buffer
    → Sees (if b then Some (got_inside n s) else from_outside n s.outside) (if b then Some (next_bytes n i) else read_in n (read_from_file shows n i))
given_by shows n s i true g e f q p = next_given n s i e f (leb-true n (in_buffer i) g) q p
given_by shows n s i false g e f q p = sees_fill shows n s.outside i (skipped s i (Given e f q p))

shown_by : (shows : ℕ → ℕ) (n : ℕ) (outside : List ℕ) (i : Input) (b : Bool) → nat_le n (in_buffer i) ≡ b → (more : List ℕ) → drop i.next i.buffer ++ more ≡ outside → drop (i.next - i.prefetched) i.file ≡ outside → i.prefetched ≤ i.next → i.next ≤ length i.buffer
    → Sees (from_outside n outside) (if b then Some (next_bytes n i) else read_in n (read_from_file shows n i))
shown_by shows n outside i true g more e f p q = sees_shown n outside i more e f p q (leb-true n (in_buffer i) g)
shown_by shows n outside i false g more e f p q = sees_fill shows n outside i (skipped (record { inside = []; outside = outside }) i (Shown more refl e f p q))

same_size : (inside : List ℕ) (i : Input) → drop i.next i.buffer ≡ inside → length inside ≡ in_buffer i
same_size inside i e = ap length (sym e) ∙ length-drop i.next i.buffer

as_empty : (s : Split) → s.inside ≡ [] → record { inside = []; outside = s.outside } ≡ s
as_empty s e = ap (λ (l : List ℕ). record { inside = l; outside = s.outside }) (sym e)

pub sees_read : (shows : ℕ → ℕ) (n : ℕ) (s : Split) (i : Input) → IsAt s i → Sees (reads n s) (read shows n i)
sees_read shows n s i (Shown more none e f p q) =
    subst (λ (x : Option Got). Sees x (read shows n i)) (sym (empty_reads n s.outside) ∙ ap (reads n) (as_empty s none)) (shown_by shows n s.outside i (nat_le n (in_buffer i)) refl more e f p q)
sees_read shows n s i (Given e f q p) =
    subst (λ (m : ℕ). Sees (if nat_le n m then Some (got_inside n s) else from_outside n s.outside) (read shows n i)) (sym (same_size s.inside i e)) (given_by shows n s i (nat_le n (in_buffer i)) refl e f q p)

-- ---- bytes that are read into a string

sees_rest : (front front_is : List ℕ) (n : ℕ) (outside : List ℕ) (j : Input) (b : Bool) → nat_le n (length outside) ≡ b → front ≡ front_is → j.file ≡ outside
    → ((rest : List ℕ) → IsAt (record { inside = []; outside = rest }) (record j { file = rest })) → Sees (rest_outside front n outside) (rest_into front_is n j)
sees_rest front front_is n outside j true g same is there =
    let enough : nat_le n (length j.file) ≡ true = ap (λ (l : List ℕ). nat_le n (length l)) is ∙ g in
    subst (λ (b : Bool). Sees (if b then Some (record { bytes = front ++ take n outside; after = record { inside = []; outside = drop n outside } }) else None) (rest_into front_is n j)) (sym g)
    (subst (λ (b : Bool). Sees (Some (record { bytes = front ++ take n outside; after = record { inside = []; outside = drop n outside } })) (if b then Some (record { bytes = front_is ++ take n j.file; after = record j { file = drop n j.file } }) else None)) (sym enough) (
      ap (λ (l : List ℕ). l ++ take n outside) same ∙ ap (λ (l : List ℕ). front_is ++ take n l) (sym is),
      subst (λ (l : List ℕ). IsAt (record { inside = []; outside = drop n outside }) (record j { file = drop n l })) (sym is) (there (drop n outside)),
    ))
sees_rest front front_is n outside j false g same is there =
    let few : nat_le n (length j.file) ≡ false = ap (λ (l : List ℕ). nat_le n (length l)) is ∙ g in
    subst (λ (b : Bool). Sees (if b then Some (record { bytes = front ++ take n outside; after = record { inside = []; outside = drop n outside } }) else None) (rest_into front_is n j)) (sym g)
    (subst (λ (b : Bool). Sees None (if b then Some (record { bytes = front_is ++ take n j.file; after = record j { file = drop n j.file } }) else None)) (sym few) tt)

-- behind all that the buffer has
into_end : (i : Input) (b : Bool) → nat_le (length i.buffer) i.prefetched ≡ b → i.prefetched ≤ length i.buffer → (rest : List ℕ)
    → IsAt (record { inside = []; outside = rest }) (record (if b then record i { next = length i.buffer } else record i { next = length i.buffer; prefetched = length i.buffer; file = drop (length i.buffer - i.prefetched) i.file }) { file = rest })
into_end i true e most rest = Given (drop_whole i.buffer) refl (omega arith) (omega (arith, leb-true (length i.buffer) i.prefetched e, most))
into_end i false e most rest = Given (drop_whole i.buffer) refl (omega arith) refl

-- all that is shown is consumed
at_end : (i : Input) (more outside : List ℕ) → drop i.next i.buffer ++ more ≡ outside → drop (i.next - i.prefetched) i.file ≡ outside → i.prefetched ≤ i.next → i.next ≤ length i.buffer → (skip_consumed (record i { next = length i.buffer })).file ≡ more
at_end i more outside e f p q =
    let u : List ℕ = drop i.next i.buffer in
    let size : length u ≡ in_buffer i = length-drop i.next i.buffer in
    let sum : length i.buffer - i.prefetched ≡ (i.next - i.prefetched) + in_buffer i = omega (arith, p, q) in
    by_skip (record i { next = length i.buffer }) more (nat_le (length i.buffer) i.prefetched) refl
    (ap (λ (m : ℕ). drop m i.file) sum ∙ sym (drop-drop (in_buffer i) (i.next - i.prefetched) i.file) ∙ ap (drop (in_buffer i)) (f ∙ sym e) ∙ drop_at u more (in_buffer i) size)

-- what the buffer has and the rest behind it are the first bytes of both
pub is_rest : (u more outside : List ℕ) (n m : ℕ) → n ≡ length u + m → u ++ more ≡ outside → (b : Bool) → nat_le n (length outside) ≡ b → from_outside n outside ≡ rest_outside u m more
is_rest u more outside n m sum e true g =
    let there : m ≤ length more = omega (arith, leb-true n (length outside) g, sum, ap length e, length-append u more) in
    let first : take n outside ≡ u ++ take m more = ap (take n) (sym e) ∙ ap (λ (k : ℕ). take k (u ++ more)) sum ∙ take-append-add u more m in
    let behind : drop n outside ≡ drop m more = ap (drop n) (sym e) ∙ ap (λ (k : ℕ). drop k (u ++ more)) sum ∙ drop-append-add u more m in
    ap (λ (b : Bool). if b then Some (record { bytes = take n outside; after = record { inside = []; outside = drop n outside } }) else None) g
    ∙ ap (λ (l : List ℕ). Some (record { bytes = l; after = record { inside = []; outside = drop n outside } })) first
    ∙ ap (λ (l : List ℕ). Some (record { bytes = u ++ take m more; after = record { inside = []; outside = l } })) behind
    ∙ ap (λ (b : Bool). if b then Some (record { bytes = u ++ take m more; after = record { inside = []; outside = drop m more } }) else None) (sym (le-leb m (length more) there))
is_rest u more outside n m sum e false g =
    let few : length more < m = omega (arith, leb-false n (length outside) g, sum, ap length e, length-append u more) in
    ap (λ (b : Bool). if b then Some (record { bytes = take n outside; after = record { inside = []; outside = drop n outside } }) else None) g
    ∙ ap (λ (b : Bool). if b then Some (record { bytes = u ++ take m more; after = record { inside = []; outside = drop m more } }) else None) (sym (lt-leb m (length more) few))

into_shown : (n : ℕ) (outside : List ℕ) (i : Input) (b : Bool) → nat_le n (in_buffer i) ≡ b → (more : List ℕ) → drop i.next i.buffer ++ more ≡ outside → drop (i.next - i.prefetched) i.file ≡ outside → i.prefetched ≤ i.next → i.next ≤ length i.buffer
    → Sees (from_outside n outside) (if b then Some (next_bytes n i) else rest_into (drop i.next i.buffer) (n - in_buffer i) (skip_consumed (record i { next = length i.buffer })))
into_shown n outside i true g more e f p q = sees_shown n outside i more e f p q (leb-true n (in_buffer i) g)
into_shown n outside i false g more e f p q =
    let u : List ℕ = drop i.next i.buffer in
    let h : ℕ = in_buffer i in
    let j : Input = skip_consumed (record i { next = length i.buffer }) in
    let size : length u ≡ h = length-drop i.next i.buffer in
    let far : h < n = leb-false n h g in
    let sum : n ≡ length u + (n - h) = omega (arith, size, far) in
    subst (λ (x : Option Got). Sees x (rest_into u (n - h) j)) (sym (is_rest u more outside n (n - h) sum e (nat_le n (length outside)) refl))
    (sees_rest u u (n - h) more j (nat_le (n - h) (length more)) refl refl (at_end i more outside e f p q) (λ rest. into_end i (nat_le (length i.buffer) i.prefetched) refl (omega (arith, p, q)) rest))

into_given : (n : ℕ) (s : Split) (i : Input) (b : Bool) → nat_le n (in_buffer i) ≡ b → drop i.next i.buffer ≡ s.inside → i.file ≡ s.outside → i.next ≤ length i.buffer → i.prefetched ≡ length i.buffer
    → Sees (if b then Some (got_inside n s) else rest_outside s.inside (n - in_buffer i) s.outside) (if b then Some (next_bytes n i) else rest_into (drop i.next i.buffer) (n - in_buffer i) (skip_consumed (record i { next = length i.buffer })))
into_given n s i true g e f q p = next_given n s i e f (leb-true n (in_buffer i) g) q p
into_given n s i false g e f q p =
    let j : Input = record i { next = length i.buffer } in
    let there : IsAt (record { inside = []; outside = s.outside }) j = Given (drop_whole i.buffer) f (omega arith) p in
    sees_rest s.inside (drop i.next i.buffer) (n - in_buffer i) s.outside (skip_consumed j) (nat_le (n - in_buffer i) (length s.outside)) refl (sym e) (skipped (record { inside = []; outside = s.outside }) j there)
    (λ rest. into_end i (nat_le (length i.buffer) i.prefetched) refl (omega (arith, p)) rest)

pub sees_into : (n : ℕ) (s : Split) (i : Input) → IsAt s i → Sees (reads_into n s) (read_into n i)
sees_into n s i (Shown more none e f p q) =
    subst (λ (x : Option Got). Sees x (read_into n i)) (sym (empty_into n s.outside) ∙ ap (reads_into n) (as_empty s none)) (into_shown n s.outside i (nat_le n (in_buffer i)) refl more e f p q)
sees_into n s i (Given e f q p) =
    subst (λ (m : ℕ). Sees (if nat_le n m then Some (got_inside n s) else rest_outside s.inside (n - m) s.outside) (read_into n i)) (sym (same_size s.inside i e)) (into_given n s i (nat_le n (in_buffer i)) refl e f q p)

-- ---- lines

abbrev a_line : List ℕ → List ℕ
a_line text = text ++ 10 ∷ []

-- a line with its newline, and what is behind it
record IsLineOf (xs : List ℕ) (l : Line) : Type 0 where
  whole : xs ≡ a_line l.text ++ l.rest
  more : (ys : List ℕ) → line_at (xs ++ ys) ≡ Some (record { text = l.text; rest = l.rest ++ ys })

line_is : (xs : List ℕ) (l : Line) → line_at xs ≡ Some l → IsLineOf xs l
line_is [] l e = absurd cc
line_is (b ∷ xs) l e = by (is_newline b) refl e (λ m f. line_is xs m f)
  where
    longer : (x : Option Line) → line_at xs ≡ x → is_newline b ≡ false → one_more b x ≡ Some l → ((m : Line) → line_at xs ≡ Some m → IsLineOf xs m) → IsLineOf (b ∷ xs) l
    longer None f none g back = absurd cc
    longer (Some m) f none g back =
        let same : record m { text = b ∷ m.text } ≡ l = cc in
        let rest = back m f in
        subst (λ (k : Line). IsLineOf (b ∷ xs) k) same (record {
          whole = ap (λ (ys : List ℕ). b ∷ ys) rest.whole;
          more = λ ys. ap (λ (c : Bool). if c then Some (record { text = []; rest = xs ++ ys }) else one_more b (line_at (xs ++ ys))) none ∙ ap (one_more b) (rest.more ys);
        })

    by : (c : Bool) → is_newline b ≡ c → (if c then Some (record { text = []; rest = xs }) else one_more b (line_at xs)) ≡ Some l → ((m : Line) → line_at xs ≡ Some m → IsLineOf xs m) → IsLineOf (b ∷ xs) l
    by true hit f back =
        let same : record { text = []; rest = xs } ≡ l = cc in
        let ten : b ≡ 10 = eqb-true b 10 hit in
        subst (λ (k : Line). IsLineOf (b ∷ xs) k) same (record {
          whole = ap (λ (c : ℕ). c ∷ xs) ten;
          more = λ ys. ap (λ (c : Bool). if c then Some (record { text = []; rest = xs ++ ys }) else one_more b (line_at (xs ++ ys))) hit;
        })
    by false miss f back = longer (line_at xs) refl miss f back

behind_line : (xs : List ℕ) (l : Line) → IsLineOf xs l → (drop (length (a_line l.text)) xs ≡ l.rest) × (length (a_line l.text) ≤ length xs)
behind_line xs l is =
    (ap (drop (length (a_line l.text))) is.whole ∙ drop_at (a_line l.text) l.rest (length (a_line l.text)) refl, omega (arith, ap length is.whole, length-append (a_line l.text) l.rest))

-- one that the file gives
sees_given : (x : Option Line) (j : Input) → Sees (line_outside x) (line_given x j)
sees_given None j = tt
sees_given (Some l) j = (refl, Given (drop_whole (a_line l.text)) refl (omega arith) refl)

sees_behind : (outside : List ℕ) (j : Input) → j.file ≡ outside → Sees (line_outside (line_at outside)) (line_from_file j)
sees_behind outside j is = subst (λ (l : List ℕ). Sees (line_outside (line_at l)) (line_from_file j)) is (sees_given (line_at j.file) j)

line_in_given : (s : Split) (i : Input) (x : Option Line) → line_at (drop i.next i.buffer) ≡ x → drop i.next i.buffer ≡ s.inside → i.file ≡ s.outside → i.next ≤ length i.buffer → i.prefetched ≡ length i.buffer
    → Sees (line_by x s.outside) (line_in x i)
line_in_given s i None g e f q p = sees_behind s.outside (skip_consumed i) (skipped s i (Given e f q p))
line_in_given s i (Some l) g e f q p =
    let n : ℕ = length (a_line l.text) in
    let b = behind_line (drop i.next i.buffer) l (line_is (drop i.next i.buffer) l g) in
    (refl, Given (sym (drop-drop n i.next i.buffer) ∙ b.0) f (omega (arith, q, b.1, length-drop i.next i.buffer)) p)

line_in_shown : (outside : List ℕ) (i : Input) (x : Option Line) → line_at (drop i.next i.buffer) ≡ x → (more : List ℕ) → drop i.next i.buffer ++ more ≡ outside → drop (i.next - i.prefetched) i.file ≡ outside → i.prefetched ≤ i.next → i.next ≤ length i.buffer
    → Sees (line_outside (line_at outside)) (line_in x i)
line_in_shown outside i None g more e f p q = sees_behind outside (skip_consumed i) (skipped (record { inside = []; outside = outside }) i (Shown more refl e f p q))
line_in_shown outside i (Some l) g more e f p q =
    let u : List ℕ = drop i.next i.buffer in
    let n : ℕ = length (a_line l.text) in
    let is = line_is u l g in
    let b = behind_line u l is in
    let sum : (i.next + n) - i.prefetched ≡ (i.next - i.prefetched) + n = omega (arith, p) in
    let there : drop n outside ≡ l.rest ++ more = ap (drop n) (sym e) ∙ drop-append-le n u more b.1 ∙ ap (λ (v : List ℕ). v ++ more) b.0 in
    subst (λ (y : Option Line). Sees (line_outside y) (line_in (Some l) i)) (sym (ap line_at (sym e) ∙ is.more more)) (
      refl,
      Shown more refl (ap (λ (v : List ℕ). v ++ more) (sym (drop-drop n i.next i.buffer) ∙ b.0))
          (ap (λ (m : ℕ). drop m i.file) sum ∙ sym (drop-drop n (i.next - i.prefetched) i.file) ∙ ap (drop n) f ∙ there) (omega (arith, p)) (omega (arith, q, b.1, length-drop i.next i.buffer)),
    )

pub sees_line : (s : Split) (i : Input) → IsAt s i → Sees (reads_line s) (read_line i)
sees_line s i (Shown more none e f p q) =
    subst (λ (l : List ℕ). Sees (line_by (line_at l) s.outside) (read_line i)) (sym none) (line_in_shown s.outside i (line_at (drop i.next i.buffer)) refl more e f p q)
sees_line s i (Given e f q p) =
    subst (λ (l : List ℕ). Sees (line_by (line_at l) s.outside) (read_line i)) e (line_in_given s i (line_at (drop i.next i.buffer)) refl e f q p)

-- ---- arguments

sees_joined : (front front_is : List ℕ) (x : Option Got) (y : Option Chunk) → front ≡ front_is → Sees x y → Sees (joined front x) (input.joined front_is y)
sees_joined front front_is None None same sees = tt
sees_joined front front_is None (Some c) same sees = absurd sees
sees_joined front front_is (Some g) None same sees = absurd sees
sees_joined front front_is (Some g) (Some c) same (e, at) = (ap (λ (l : List ℕ). l ++ g.bytes) same ∙ ap (λ (l : List ℕ). front_is ++ l) e, at)

sees_then : (x : Option Got) (y : Option Chunk) (more : List ℕ → Split → Option Got) (next : List ℕ → Input → Option Chunk) → Sees x y → ((bytes : List ℕ) (s : Split) (i : Input) → IsAt s i → Sees (more bytes s) (next bytes i)) → Sees (and_then x more) (input.and_then y next)
sees_then None None more next sees go = tt
sees_then None (Some c) more next sees go = absurd sees
sees_then (Some g) None more next sees go = absurd sees
sees_then (Some g) (Some c) more next (e, at) go =
    sees_joined g.bytes c.bytes (more g.bytes g.after) (next c.bytes c.after) e (subst (λ (l : List ℕ). Sees (more g.bytes g.after) (next l c.after)) e (go g.bytes g.after c.after at))

sees_payload : (shows : ℕ → ℕ) (n : ℕ) (s : Split) (i : Input) (b : Bool) → IsAt s i → Sees (if b then reads_into n s else reads n s) (if b then read_into n i else read shows n i)
sees_payload shows n s i true at = sees_into n s i at
sees_payload shows n s i false at = sees_read shows n s i at

sees_above : (x : Option Got) (y : Option Chunk) (b : Bool) → Sees x y → Sees (if b then None else x) (if b then None else y)
sees_above x y true sees = tt
sees_above x y false sees = sees

sees_counted : (shows : ℕ → ℕ) (o : Opcode) (width : ℕ) (s : Split) (i : Input) → IsAt s i → Sees (reads_counted o width s) (input.read_counted shows o width i)
sees_counted shows o width s i at =
    sees_then (reads width s) (read shows width i) (counts o width) (λ size j. if is_below o size then None else input.read_payload shows o (little_number width size) j) (sees_read shows width s i at)
    (λ size q j there. sees_above (reads_payload o (little_number width size) q) (input.read_payload shows o (little_number width size) j) (is_below o size) (sees_payload shows (little_number width size) q j (is_filled o) there))

pub sees_arg : (shows : ℕ → ℕ) (o : Opcode) (f : Form) (s : Split) (i : Input) → IsAt s i → Sees (reads_arg o f s) (input.read_arg shows o f i)
sees_arg shows o form.Empty s i at = (refl, at)
sees_arg shows o form.Uint1 s i at = sees_read shows 1 s i at
sees_arg shows o form.Uint2 s i at = sees_read shows 2 s i at
sees_arg shows o form.Uint4 s i at = sees_read shows 4 s i at
sees_arg shows o form.Uint8 s i at = sees_read shows 8 s i at
sees_arg shows o form.Int4 s i at = sees_read shows 4 s i at
sees_arg shows o form.Float8 s i at = sees_read shows 8 s i at
sees_arg shows o form.Line s i at = sees_line s i at
sees_arg shows o form.Quoted s i at = sees_line s i at
sees_arg shows o form.Decimal s i at = sees_line s i at
sees_arg shows o form.Two s i at = sees_then (reads_line s) (read_line i) (λ first q. reads_line q) (λ first j. read_line j) (sees_line s i at) (λ first q j there. sees_line q j there)
sees_arg shows o form.Bytes1 s i at = sees_counted shows o 1 s i at
sees_arg shows o form.Bytes4 s i at = sees_counted shows o 4 s i at
sees_arg shows o form.Bytes8 s i at = sees_counted shows o 8 s i at
sees_arg shows o form.String4 s i at = sees_counted shows o 4 s i at
