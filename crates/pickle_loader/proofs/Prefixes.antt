-- The first opcodes of a document are read from its bytes as far as no STOP before the last of them leaves a frame unfinished.
use Rattle.std.proofs.Common.{◌≡◌, ℕ, zero, suc, ◌+◌, ◌-◌, ◌^◌, ◌<◌, ◌≤◌, Bool, true, false, cond, List, [], ◌∷◌, ◌++◌, length, take, drop, Option, Some, None, refl, sym, ap, subst, ◌∙◌, inl, inr, arith, length-append}
use Rattle.std.specs.Prelude.{◌&&◌, nat_lt, not, slice_get, ⊤}
use Rattle.std.proofs.Math.Seq.{take-append-add, drop-append-add}
use Rattle.std.proofs.lemmas.Bool.{lt-ltb, cases_lt}
use Rattle.std.proofs.lemmas.List.{append_assoc}
use Rattle.byteorder.specs.Endian.{little_number}
use Rattle.pickle_ops.specs.Spelling.{Operation, spelling, size_of}
use Rattle.pickle_ops.specs.declared.opcode.Opcode.{Opcode}
use Rattle.pickle_ops.specs.declared.opcode.Opcode.TheVariants as op
use Rattle.pickle_doc.specs.declared.fault.TailFault.{TailFault}
use Rattle.pickle_doc.specs.DocUnit.{is_frame, is_stop, ends_reading, bytes_of}
use Rattle.pickle_doc.specs.Document.{Contents, IsFormed, document_bytes, items_of, ended_by}
use Rattle.pickle_doc.specs.Fitting.{left_behind, FitsFrame, FitsFrom}
use Rattle.pickle_doc.specs.Place.{ops_of, item_at}
use Rattle.pickle_doc.proofs.Units.{document_fits, length_bytes}
use Rattle.pickle_machine.specs.State.{State, start}
use Rattle.pickle_machine.specs.Run.{run}
use Rattle.pickle_text.specs.Reached.{reached}
use Rattle.pickle_calls.specs.Calls.{is_inside, or_here, left_on, left_at, first_inside, end_to, end_from, calls_end}
use Rattle.pickle_loader.specs.Reader.{Reader, fetch, fetched, Fetch, behind, opened}
use Rattle.pickle_loader.proofs.Fetching.{InFrame, InFile, at_side, fetches_op, stays_in_file, stays_in_frame, leaves_frame}
use Rattle.pickle_loader.proofs.Cuts.{drop_zero, by_last}
use Rattle.pickle_loader.proofs.Stops.{none_before}

-- ---- the first opcodes

-- the first n of these opcodes are read one after another
abbrev pub FetchesFor : ℕ → Reader → List Operation → Type 0
FetchesFor zero r ops = ⊤
FetchesFor (suc n) r [] = ⊤
FetchesFor (suc n) r (o ∷ ops) = (after : Reader) × (fetch r ≡ Fetch o after) × FetchesFor n after ops

-- of the first n no STOP leaves bytes of a frame, of which so many are left before them
abbrev IsQuietFor : ℕ → ℕ → List Operation → Type 0
IsQuietFor zero left ops = ⊤
IsQuietFor (suc n) left [] = ⊤
IsQuietFor (suc n) left (o ∷ ops) = ((is_stop o.opcode && nat_lt 0 (left_behind false left o)) ≡ false) × IsQuietFor n (left_behind false left o) ops

-- a reader before bytes, the first of which are those of a frame
data IsAt (left : ℕ) (bytes : List ℕ) (r : Reader) : Type 0 where
  Outside : left ≡ 0 → r ≡ at_side InFile bytes → IsAt left bytes r
  Inside : r ≡ at_side (InFrame (drop left bytes)) (take left bytes) → IsAt left bytes r

-- ---- one opcode

frame_only : (o : Opcode) → is_frame o ≡ true → o ≡ op.Frame
frame_only op.Frame e = refl
frame_only _ e = absurd cc

begins_frame : (o : Opcode) (arg rest : List ℕ) → is_frame o ≡ true → behind o arg (at_side InFile rest) ≡ Some (at_side (InFrame (drop (little_number 8 arg) rest)) (take (little_number 8 arg) rest))
begins_frame op.Frame arg rest e = refl
begins_frame _ arg rest e = absurd cc

-- where the reader is behind an opcode
record Next (o : Operation) (left : ℕ) (rest : List ℕ) (r : Reader) : Type 0 where
  after : Reader
  is : fetch r ≡ Fetch o after
  at : (is_stop o.opcode && nat_lt 0 (left_behind false left o)) ≡ false → IsAt (left_behind false left o) rest after

behind_plain : (left : ℕ) (o : Operation) → is_frame o.opcode ≡ false → left_behind false left o ≡ left - size_of o
behind_plain left o plain = ap (λ (b : Bool). cond b (little_number 8 o.arg) (left - size_of o)) plain

behind_frame : (left : ℕ) (o : Operation) → is_frame o.opcode ≡ true → left_behind false left o ≡ little_number 8 o.arg
behind_frame left o is = ap (λ (b : Bool). cond b (little_number 8 o.arg) (left - size_of o)) is

in_file : (o : Operation) (left : ℕ) (rest : List ℕ) (b : Bool) → is_frame o.opcode ≡ b → left ≡ 0 → FitsFrame false left o → Next o left rest (at_side InFile (spelling o ++ rest))
in_file o left rest true is none fits =
    let size : left_behind false left o ≡ little_number 8 o.arg = behind_frame left o is in
    record {
      after = at_side (InFrame (drop (little_number 8 o.arg) rest)) (take (little_number 8 o.arg) rest);
      is = fetches_op InFile o rest fits.spelled ∙ ap (fetched o) (begins_frame o.opcode o.arg rest is);
      at = λ quiet. Inside (ap (λ (n : ℕ). at_side (InFrame (drop n rest)) (take n rest)) (sym size));
    }
in_file o left rest false is none fits =
    let size : left_behind false left o ≡ left - size_of o = behind_plain left o is in
    record {
      after = at_side InFile rest;
      is = fetches_op InFile o rest fits.spelled ∙ ap (fetched o) (stays_in_file o.opcode o.arg rest is);
      at = λ quiet. Outside (omega (arith, size, none)) refl;
    }

-- nothing is left of the frame where STOP is quiet
stop_left : (n : ℕ) (b : Bool) → b ≡ true → (b && nat_lt 0 n) ≡ false → n ≡ 0
stop_left zero b s e = refl
stop_left (suc n) true s e = let some : nat_lt 0 (suc n) ≡ true = lt-ltb 0 (suc n) (omega arith) in let two : true ≡ false = sym some ∙ e in absurd cc
stop_left (suc n) false s e = absurd cc

in_frame : (o : Operation) (left : ℕ) (rest : List ℕ) (b : Bool) → is_stop o.opcode ≡ b → is_frame o.opcode ≡ false → size_of o ≤ left → FitsFrame false left o
    → Next o left rest (at_side (InFrame (drop (left - size_of o) rest)) (spelling o ++ take (left - size_of o) rest))
in_frame o left rest true stop plain within fits =
    let size : left_behind false left o ≡ left - size_of o = behind_plain left o plain in
    let file : List ℕ = drop (left - size_of o) rest in
    record {
      after = at_side InFile file;
      is = fetches_op (InFrame file) o (take (left - size_of o) rest) fits.spelled ∙ ap (fetched o) (leaves_frame o.opcode o.arg (take (left - size_of o) rest) file stop);
      at = λ quiet.
          let none : left_behind false left o ≡ 0 = stop_left (left_behind false left o) (is_stop o.opcode) stop quiet in
          Outside none (ap (λ (l : List ℕ). at_side InFile l) (ap (λ (n : ℕ). drop n rest) (sym size ∙ none) ∙ drop_zero rest));
    }
in_frame o left rest false stop plain within fits =
    let size : left_behind false left o ≡ left - size_of o = behind_plain left o plain in
    let file : List ℕ = drop (left - size_of o) rest in
    record {
      after = at_side (InFrame file) (take (left - size_of o) rest);
      is = fetches_op (InFrame file) o (take (left - size_of o) rest) fits.spelled ∙ ap (fetched o) (stays_in_frame o.opcode o.arg (take (left - size_of o) rest) file plain stop);
      at = λ quiet. Inside (ap (λ (n : ℕ). at_side (InFrame (drop n rest)) (take n rest)) (sym size));
    }

-- a frame at its end is left
empty_frame : (file : List ℕ) → fetch (at_side (InFrame file) []) ≡ fetch (at_side InFile file)
empty_frame file = refl

no_frame : (b : Bool) (left : ℕ) → (b ≡ true → left ≡ 0) → 0 < left → b ≡ false
no_frame true left f some = absurd (omega (arith, f refl, some))
no_frame false left f some = refl

length_spelled : (o : Operation) → length (spelling o) ≡ size_of o
length_spelled o = omega arith

-- the bytes of an opcode in a frame
split_frame : (o : Operation) (left : ℕ) (rest : List ℕ) → size_of o ≤ left
    → at_side (InFrame (drop left (spelling o ++ rest))) (take left (spelling o ++ rest)) ≡ at_side (InFrame (drop (left - size_of o) rest)) (spelling o ++ take (left - size_of o) rest)
split_frame o left rest within =
    let size : length (spelling o) ≡ size_of o = length_spelled o in
    let sum : left ≡ length (spelling o) + (left - size_of o) = omega (arith, size, within) in
    ap (λ (n : ℕ). at_side (InFrame (drop n (spelling o ++ rest))) (take n (spelling o ++ rest))) sum
    ∙ ap (λ (l : List ℕ). at_side (InFrame l) (take (length (spelling o) + (left - size_of o)) (spelling o ++ rest))) (drop-append-add (spelling o) rest (left - size_of o))
    ∙ ap (λ (l : List ℕ). at_side (InFrame (drop (left - size_of o) rest)) l) (take-append-add (spelling o) rest (left - size_of o))

next_as : (o : Operation) (left : ℕ) (rest : List ℕ) (r x : Reader) → fetch r ≡ fetch x → Next o left rest x → Next o left rest r
next_as o left rest r x e n = record { after = n.after; is = e ∙ n.is; at = n.at }

next_inside : (o : Operation) (left : ℕ) (rest : List ℕ) → FitsFrame false left o → Next o left rest (at_side (InFrame (drop left (spelling o ++ rest))) (take left (spelling o ++ rest)))
next_inside o zero rest fits =
    let one : drop 0 (spelling o ++ rest) ≡ spelling o ++ rest = drop_zero (spelling o ++ rest) in
    subst (λ (l : List ℕ). Next o 0 rest (at_side (InFrame l) [])) (sym one)
    (next_as o 0 rest (at_side (InFrame (spelling o ++ rest)) []) (at_side InFile (spelling o ++ rest)) (empty_frame (spelling o ++ rest)) (in_file o 0 rest (is_frame o.opcode) refl refl fits))
next_inside o (suc n) rest fits =
    let within : size_of o ≤ suc n = fits.inside (omega arith) in
    let plain : is_frame o.opcode ≡ false = no_frame (is_frame o.opcode) (suc n) fits.frame (omega arith) in
    subst (λ (r : Reader). Next o (suc n) rest r) (sym (split_frame o (suc n) rest within)) (in_frame o (suc n) rest (is_stop o.opcode) refl plain within fits)

next_at : (o : Operation) (left : ℕ) (rest : List ℕ) (r : Reader) → FitsFrame false left o → IsAt left (spelling o ++ rest) r → Next o left rest r
next_at o left rest r fits (Outside none is) = subst (λ (x : Reader). Next o left rest x) (sym is) (in_file o left rest (is_frame o.opcode) refl none fits)
next_at o left rest r fits (Inside is) = subst (λ (x : Reader). Next o left rest x) (sym is) (next_inside o left rest fits)

-- ---- opcodes that fit one after another

none_more : (n : ℕ) (r : Reader) (ops : List Operation) → ops ≡ [] → FetchesFor n r ops
none_more zero r ops e = tt
none_more (suc n) r [] e = tt
none_more (suc n) r (o ∷ ops) e = absurd cc

fits_fetched : (many : Bool) (ops : List Operation) (n left : ℕ) (tail : List ℕ) (e : Option TailFault) (r : Reader) → FitsFrom many false left ops tail e → IsQuietFor n left ops → IsAt left (bytes_of ops ++ tail) r → FetchesFor (suc n) r ops
fits_fetched many [] n left tail e r fits quiet at = tt
fits_fetched many (o ∷ ops) zero left tail e r fits quiet at =
    let next = next_at o left (bytes_of ops ++ tail) r fits.0 (subst (λ (l : List ℕ). IsAt left l r) (append_assoc (spelling o) (bytes_of ops) tail) at) in
    (next.after, next.is, tt)
fits_fetched many (o ∷ ops) (suc n) left tail e r fits quiet at =
    let next = next_at o left (bytes_of ops ++ tail) r fits.0 (subst (λ (l : List ℕ). IsAt left l r) (append_assoc (spelling o) (bytes_of ops) tail) at) in (
      next.after,
      next.is,
      by_last (ends_reading many o.opcode) fits.1 (λ is last. none_more (suc n) next.after ops last.none) (λ is more. fits_fetched many ops n (left_behind false left o) tail e next.after more quiet.1 (next.at quiet.0)),
    )

-- ---- along a document

quiet_for : (d : Contents) (k m : ℕ) (ops : List Operation) → d.many ≡ true → ((i : ℕ) (o : Operation) → slice_get ops i ≡ Some o → item_at d (i + k) ≡ Some o)
    → ((i : ℕ) → i < m → is_inside d.many (item_at d (i + k)) (left_at d (i + k)) ≡ false) → IsQuietFor m (left_at d k) ops
quiet_for d k zero ops many there out = tt
quiet_for d k (suc m) [] many there out = tt
quiet_for d k (suc m) (o ∷ ops) many there out =
    let first : 0 + k ≡ k = omega arith in
    let here : item_at d k ≡ Some o = subst (λ (m : ℕ). item_at d m ≡ Some o) first (there 0 o refl) in
    let next : left_at d (suc k) ≡ left_behind false (left_at d k) o = ap (λ (x : Option Operation). left_on x (left_at d k)) here in
    let at : is_inside true (Some o) (left_at d k) ≡ false =
    subst (λ (b : Bool). is_inside b (Some o) (left_at d k) ≡ false) many (subst (λ (x : Option Operation). is_inside d.many x (left_at d k) ≡ false) here (subst (λ (m : ℕ). is_inside d.many (item_at d m) (left_at d m) ≡ false) first (out 0 (omega arith)))) in
    let step : (i : ℕ) → suc i + k ≡ i + suc k = λ i. omega arith in (
      at,
      subst (λ (left : ℕ). IsQuietFor m left ops) next (quiet_for d (suc k) m ops many
          (λ i p e. subst (λ (m : ℕ). item_at d m ≡ Some p) (step i) (there (suc i) p e))
          (λ i less. subst (λ (m : ℕ). is_inside d.many (item_at d m) (left_at d m) ≡ false) (step i) (out (suc i) (omega (arith, less))))),
    )

-- with one pickle STOP is the last item
no_stop : (a b : Bool) → (a && not false) ≡ false → (a && b) ≡ false
no_stop true b e = absurd cc
no_stop false b e = refl

one_fetched : (ops : List Operation) (n left : ℕ) (tail : List ℕ) (e : Option TailFault) (r : Reader) → FitsFrom false false left ops tail e → IsAt left (bytes_of ops ++ tail) r → FetchesFor n r ops
one_fetched ops zero left tail e r fits at = tt
one_fetched [] (suc n) left tail e r fits at = tt
one_fetched (o ∷ ops) (suc n) left tail e r fits at =
    let next = next_at o left (bytes_of ops ++ tail) r fits.0 (subst (λ (l : List ℕ). IsAt left l r) (append_assoc (spelling o) (bytes_of ops) tail) at) in (
      next.after,
      next.is,
      by_last (ends_reading false o.opcode) fits.1 (λ is last. none_more n next.after ops last.none)
          (λ is more. one_fetched ops n (left_behind false left o) tail e next.after more (next.at (no_stop (is_stop o.opcode) (nat_lt 0 (left_behind false left o)) is))),
    )

-- the bytes of a document are those of its opcodes
pub fetched_for : (d : Contents) (n : ℕ) → IsFormed d → d.loose ≡ false → length (document_bytes d) < 2 ^ 64 → first_inside d n ≡ None → FetchesFor (suc n) (opened (document_bytes d)) (ops_of d)
fetched_for d n formed framed small none = go d.many refl
  where
    size : length (document_bytes d) ≡ length (bytes_of (ops_of d)) + length d.tail
    size = length-append (bytes_of (ops_of d)) d.tail

    fits : FitsFrom d.many false 0 (ops_of d) d.tail (ended_by d)
    fits = subst (λ (w : Bool). FitsFrom d.many w 0 (ops_of d) d.tail (ended_by d)) framed (document_fits d formed (omega (arith, small, size, length_bytes (items_of d), formed.reach)))

    go : (b : Bool) → d.many ≡ b → FetchesFor (suc n) (opened (document_bytes d)) (ops_of d)
    go true many =
        let same : (i : ℕ) → i + 0 ≡ i = λ i. omega arith in
        fits_fetched d.many (ops_of d) n 0 d.tail (ended_by d) (opened (document_bytes d)) fits
        (quiet_for d 0 n (ops_of d) many
        (λ i o e. subst (λ (m : ℕ). item_at d m ≡ Some o) (sym (same i)) e)
        (λ i less. subst (λ (m : ℕ). is_inside d.many (item_at d m) (left_at d m) ≡ false) (sym (same i)) (none_before d n i none less)))
        (Outside refl refl)
    go false one =
        one_fetched (ops_of d) (suc n) 0 d.tail (ended_by d) (opened (document_bytes d)) (subst (λ (b : Bool). FitsFrom b false 0 (ops_of d) d.tail (ended_by d)) one fits) (Outside refl refl)

-- ---- as far as the lines go

pub none_earlier : (d : Contents) (n m : ℕ) → first_inside d n ≡ None → m ≤ n → first_inside d m ≡ None
unfolding first_inside
none_earlier d zero m e h = let same : 0 ≡ m = omega (arith, h) in subst (λ (k : ℕ). first_inside d k ≡ None) same e
none_earlier d (suc n) m e h = elim (cases_lt m (suc n)) [
  | inl less ↦ none_earlier d n m (no_here (first_inside d n) (is_inside d.many (item_at d n) (left_at d n)) n e) (omega (arith, less))
  | inr far ↦ let same : suc n ≡ m = omega (arith, h, far) in subst (λ (k : ℕ). first_inside d k ≡ None) same e
]
  where
    no_here : (x : Option ℕ) (b : Bool) (k : ℕ) → or_here x b k ≡ None → x ≡ None
    no_here None b k e = refl
    no_here (Some j) b k e = absurd cc

-- before the first there is none
none_until : (d : Contents) (n j m : ℕ) → first_inside d n ≡ Some j → m ≤ j → first_inside d m ≡ None
unfolding first_inside
none_until d zero j m e h = absurd cc
none_until d (suc n) j m e h = go (first_inside d n) (is_inside d.many (item_at d n) (left_at d n)) refl e (λ is. none_until d n j m is h)
  where
    go : (x : Option ℕ) (b : Bool) → first_inside d n ≡ x → or_here x b n ≡ Some j → (first_inside d n ≡ Some j → first_inside d m ≡ None) → first_inside d m ≡ None
    go (Some i) b is f next = let same : i ≡ j = cc in next (is ∙ ap Some same)
    go None true is f next = let same : n ≡ j = cc in none_earlier d n m is (omega (arith, h, same))
    go None false is f next = absurd cc

end_place : (d : Contents) (k : ℕ) (x : Option State) → (end_to d k x).place ≡ k
end_place d k None = refl
end_place d k (Some s) = refl

none_to : (d : Contents) (k m : ℕ) (x : Option ℕ) → first_inside d k ≡ x → suc m ≤ (end_from d k x).place → first_inside d m ≡ None
none_to d k m (Some j) is h = none_until d k j m is (omega (arith, h))
none_to d k m None is h = none_earlier d k m is (omega (arith, h, end_place d k (run (start d.many) (ops_of d) k)))

-- no STOP before the end of the lines leaves a frame unfinished
pub none_listed : (d : Contents) (m : ℕ) → suc m ≤ (calls_end d).place → first_inside d m ≡ None
unfolding calls_end
none_listed d m h = let k : ℕ = reached (start d.many) (ops_of d) (length (ops_of d)) in none_to d k m (first_inside d k) refl h
