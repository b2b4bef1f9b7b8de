-- Opcodes that loaders take alike, whether they have bytes of a frame in a buffer or not.
use Rattle.std.proofs.Common.{◌≡◌, ℕ, zero, suc, ◌+◌, ◌-◌, ◌≤◌, ◌<◌, Bool, true, false, List, [], ◌∷◌, ◌++◌, length, take, drop, Ok, refl, subst, sym, ap, ◌∙◌, inl, inr, arith, length-append}
use Rattle.std.specs.Prelude.{◌==◌, nat_le}
use Rattle.std.proofs.lemmas.Bool.{cases_Bool, leb-true, leb-false}
use Rattle.std.proofs.lemmas.List.{length-take-le}
use Rattle.std.proofs.Math.Seq.{take-append-add}
use Rattle.pickle_ops.specs.declared.opcode.Opcode.{Opcode}
use Rattle.pickle_ops.specs.declared.opcode.Opcode.TheVariants as op
use Rattle.pickle_ops.specs.Row.{row_of}
use Rattle.pickle_ops.specs.Spelling.{Operation, spelling, size_of, Reads}
use Rattle.pickle_ops.specs.Front.{front_of}
use Rattle.pickle_doc.specs.DocUnit.{is_frame, is_stop, frame_number}
use Rattle.pickle_lenient.specs.declared.taken.Taken.{Taken}
use Rattle.pickle_lenient.specs.Lenient.{Lenient, lenient}
use Rattle.pickle_lenient.specs.Stream.{ends_in, refilled, framed, settled, taken_as, within, across, buffered}
use Rattle.pickle_lenient.specs.Passing.{IsPassed, Passes, PassesAll, PassesSome, at_most}
use Rattle.pickle_lenient.proofs.Lenients.{read_so, reads_within}
use Rattle.pickle_lenient.proofs.Behind.{op_ends}

abbrev read_op : Operation → Lenient
read_op o = record { op = o; row = row_of o; size = size_of o }

-- ---- FRAME and STOP

frame_no_stop : (o : Opcode) → is_frame o ≡ true → is_stop o ≡ false
frame_no_stop o e = elim (cases_Bool (is_stop o)) [
  | inl hit ↦ absurd (two o hit e)
  | inr miss ↦ miss
]
  where
    two : (o : Opcode) → is_stop o ≡ true → is_frame o ≡ true → ⊥
    two op.Stop s e = let f : false ≡ true = e in cc
    two _ s e = let f : false ≡ true = s in cc

-- ---- what is taken

-- with nothing in the buffer
none_there : (ends : Bool) (bytes : List ℕ) (o : Operation) (n : ℕ) → Reads bytes o n → buffered ends 0 bytes ≡ Ok (settled ends bytes (taken_as 0 0 (read_op o)))
none_there ends bytes o n r = ap (λ (x : _). across ends bytes 0 x) (read_so bytes o n r)

-- with the whole opcode there
some_there : (left : ℕ) (bytes : List ℕ) (o : Operation) (n : ℕ) → Reads bytes o n → size_of o ≤ left → left ≤ length bytes → Reads (take left bytes) o (size_of o)
some_there left bytes o n r fits few =
    let rest : List ℕ = r.front.0 in
    let long : left ≡ length (spelling o) + (left - size_of o) = omega (arith, fits) in
    let is : take left bytes ≡ spelling o ++ take (left - size_of o) rest =
    ap (λ (b : List ℕ). take left b) r.front.1 ∙ ap (λ (k : ℕ). take k (spelling o ++ rest)) long ∙ take-append-add (spelling o) rest (left - size_of o) in
    record { size = refl; spelled = r.spelled; front = (take (left - size_of o) rest, is) }

in_buffer : (ends : Bool) (left : ℕ) (bytes : List ℕ) (o : Operation) (n : ℕ) → Reads bytes o n → size_of o ≤ left → left ≤ length bytes
    → buffered ends left bytes ≡ Ok (settled ends bytes (taken_as 0 (left - size_of o) (read_op o)))
in_buffer ends left bytes o n r fits few =
    let there : Reads (take left bytes) o (size_of o) = some_there left bytes o n r fits few in
    rw (sym (op_ends (take left bytes) o (size_of o) there), read_so (take left bytes) o (size_of o) there, length-take-le left bytes few) refl

-- ---- what is in the buffer behind it

plainly : (ends : Bool) (bytes : List ℕ) (gap left : ℕ) (o : Operation) → is_frame o.opcode ≡ false → is_stop o.opcode ≡ false
    → settled ends bytes (taken_as gap left (read_op o)) ≡ taken_as gap left (read_op o)
plainly true bytes gap left o frame stop = rw (frame, stop) refl
plainly false bytes gap left o frame stop = rw frame refl

-- nothing is lost, it takes this many bytes, and so many are in the buffer behind it
record Leaves (t : Taken) (n more : ℕ) : Type 0 where
  whole : t.lost ≡ false
  size : t.size ≡ n
  left : t.left ≡ more

-- where nothing was left, nothing is after STOP
emptied : (ends : Bool) (bytes : List ℕ) (o : Operation) → is_frame o.opcode ≡ false → Leaves (settled ends bytes (taken_as 0 0 (read_op o))) (size_of o) 0
emptied false bytes o frame = rw frame (record { whole = refl; size = omega arith; left = refl })
emptied true bytes o frame = elim (cases_Bool (is_stop o.opcode)) [
  | inl hit ↦ rw hit (record { whole = refl; size = omega arith; left = refl })
  | inr miss ↦ rw (miss, frame) (record { whole = refl; size = omega arith; left = refl })
]

-- ---- one opcode

alone : (ends : Bool) (bytes : List ℕ) (o : Operation) → Reads bytes o (size_of o) → is_frame o.opcode ≡ false → (t : Taken) × (buffered ends 0 bytes ≡ Ok t) × (t.left ≡ 0)
alone ends bytes o r frame = (settled ends bytes (taken_as 0 0 (read_op o)), none_there ends bytes o (size_of o) r, (emptied ends bytes o frame).left)

pub plain_passes : (left : ℕ) (bytes : List ℕ) (o : Operation) → Reads bytes o (size_of o) → is_frame o.opcode ≡ false → is_stop o.opcode ≡ false → size_of o ≤ left → left ≤ length bytes
    → Passes left bytes (size_of o) (left - size_of o)
plain_passes left bytes o r frame stop fits few ends = record {
  taken = taken_as 0 (left - size_of o) (read_op o);
  is = in_buffer ends left bytes o (size_of o) r fits few ∙ ap Ok (plainly ends bytes 0 (left - size_of o) o frame stop);
  whole = refl;
  size = omega arith;
  leaves = refl;
  other = λ _. alone ends bytes o r frame;
}

pub last_passes : (left : ℕ) (bytes : List ℕ) (o : Operation) → Reads bytes o (size_of o) → is_frame o.opcode ≡ false → left ≡ size_of o → left ≤ length bytes
    → Passes left bytes (size_of o) 0
last_passes left bytes o r frame same few ends =
    let none : left - size_of o ≡ 0 = omega (arith, same) in
    let f = emptied ends bytes o frame in
    record {
      taken = settled ends bytes (taken_as 0 0 (read_op o));
      is = in_buffer ends left bytes o (size_of o) r (omega (arith, same)) few ∙ ap (λ (k : ℕ). Ok (settled ends bytes (taken_as 0 k (read_op o)))) none;
      whole = f.whole;
      size = f.size;
      leaves = f.left;
      other = λ _. alone ends bytes o r frame;
    }

not_none : (X : Type 0) → (0 == 0) ≡ false → X
not_none X e = let two : true ≡ false = e in cc

pub first_passes : (left : ℕ) (bytes : List ℕ) (o : Operation) → Reads bytes o (size_of o) → is_frame o.opcode ≡ false → left ≡ 0 → Passes left bytes (size_of o) 0
first_passes left bytes o r frame none ends =
    let f = emptied ends bytes o frame in
    rw none (record {
      taken = settled ends bytes (taken_as 0 0 (read_op o));
      is = none_there ends bytes o (size_of o) r;
      whole = f.whole;
      size = f.size;
      leaves = f.left;
      other = not_none _;
    })

-- FRAME, with nothing in the buffer
least : (number there : ℕ) → number ≡ 0 → at_most number there ≡ 0
least number there none = elim (cases_Bool (nat_le number there)) [
  | inl hit ↦ rw hit none
  | inr miss ↦ absurd (omega (arith, none, leb-false number there miss))
]

fills : (bytes : List ℕ) (o : Operation) (number : ℕ) → Leaves (framed bytes (taken_as 0 0 (read_op o)) number) (size_of o) (at_most number (length bytes - size_of o))
fills bytes o number = elim (cases_Bool (nat_le number 0)) [
  | inl hit ↦ rw hit (record { whole = refl; size = omega arith; left = sym (least number (length bytes - size_of o) (omega (arith, leb-true number 0 hit))) })
  | inr miss ↦
      let there : length bytes - (size_of o + 0 + 0) ≡ length bytes - size_of o = omega arith in
      elim (cases_Bool (nat_le number (length bytes - (size_of o + 0 + 0)))) [
        | inl hit ↦
            let fits : nat_le number (length bytes - size_of o) ≡ true = ap (nat_le number) (sym there) ∙ hit in
            rw (miss, hit) (record { whole = refl; size = omega arith; left = rw fits refl })
        | inr other ↦
            let long : nat_le number (length bytes - size_of o) ≡ false = ap (nat_le number) (sym there) ∙ other in
            rw (miss, other) (record { whole = refl; size = omega arith; left = rw long there })
      ]
]

settles : (ends : Bool) (bytes : List ℕ) (o : Operation) → is_frame o.opcode ≡ true → settled ends bytes (taken_as 0 0 (read_op o)) ≡ framed bytes (taken_as 0 0 (read_op o)) (frame_number o)
settles true bytes o frame = rw (frame_no_stop o.opcode frame, frame) refl
settles false bytes o frame = rw frame refl

pub frame_passes : (left : ℕ) (bytes : List ℕ) (o : Operation) → Reads bytes o (size_of o) → is_frame o.opcode ≡ true → left ≡ 0
    → Passes left bytes (size_of o) (at_most (frame_number o) (length bytes - size_of o))
frame_passes left bytes o r frame none ends =
    let f = fills bytes o (frame_number o) in
    rw none (record {
      taken = framed bytes (taken_as 0 0 (read_op o)) (frame_number o);
      is = none_there ends bytes o (size_of o) r ∙ ap Ok (settles ends bytes o frame);
      whole = f.whole;
      size = f.size;
      leaves = f.left;
      other = not_none _;
    })

-- ---- opcodes one after another

pub none_passes : (left : ℕ) (bytes : List ℕ) → PassesSome left bytes 0 left
none_passes left bytes = (0, (refl, refl))

pub one_more : (left : ℕ) (bytes rest : List ℕ) (n now m more : ℕ) → PassesSome left bytes n now → rest ≡ drop n bytes → Passes now rest m more → PassesSome left bytes (n + m) more
one_more left bytes rest n now m more some is last = (suc some.0, (n, now, m, some.1, subst (λ (b : List ℕ). Passes now b m more) is last, refl))
