-- Bytes that begin with an opcode at which each loader ends, or with none, give nothing to a loader.
use Rattle.std.proofs.Common.{◌≡◌, ℕ, suc, ◌<◌, get_or, arith, Bool, true, false, List, [], ◌∷◌, ◌++◌, take, Option, Some, None, Ok, Err, refl, sym, ap, subst, ◌∙◌}
use Rattle.std.specs.Prelude.{◌&&◌, ◌||◌, eqb, ◌+◌, ◌-◌, nat_le, length, if◌then◌else◌, Result, ⊤}
use Rattle.std.proofs.lemmas.Bool.{eqb-true}
use Rattle.pickle_ops.specs.declared.opcode.Opcode.{Opcode}
use Rattle.pickle_ops.specs.declared.opcode.Opcode.TheVariants as op
use Rattle.pickle_ops.specs.declared.form.Form.TheVariants as form
use Rattle.pickle_ops.specs.declared.fault.FrontFault.{FrontFault}
use Rattle.pickle_ops.specs.Spelling.{Operation, Front, front_fault}
use Rattle.pickle_ops.specs.Front.{front_behind, front_at, front_of}
use Rattle.pickle_ops.specs.Table.{form_of}
use Rattle.pickle_ops.specs.Inside.Sizes.{arg_size}
use Rattle.pickle_ops.proofs.TableLemmas.{opcode_of-code}
use Rattle.pickle_doc.specs.DocUnit.{is_frame, is_stop, frame_number}
use Rattle.pickle_lenient.specs.declared.taken.Frames.{Frames}
use Rattle.pickle_lenient.specs.declared.taken.Frames.TheVariants as frames
use Rattle.pickle_lenient.specs.declared.taken.Taken.{Taken}
use Rattle.pickle_lenient.specs.Lenient.{Lenient, lenient, lenient_at, mended_so, cut}
use Rattle.pickle_lenient.specs.Stream.{taken, taken_as, plain, across, settled, framed, refilled}
use Rattle.pickle_reach.specs.declared.spot.Step.{Step}
use Rattle.pickle_reach.specs.declared.spot.Step.TheVariants as step
use Rattle.pickle_reach.specs.Item.{opcode_reaches, opcode_ends, reaches, ends}
use Rattle.pickle_reach.specs.Reach.{Turn, as_shown, first_spot, step_by, step_at, reaches_on, reaches_from, NothingFrom}
use Rattle.pickle_reach.specs.declared.granted.Granted.{Granted}
use Rattle.packed_stream.specs.declared.reason.Packing.TheVariants as packing
use Rattle.packed_stream.specs.Header.{begins_as_gzip, begins_as_zlib}
use Rattle.packed_stream.proofs.Contents.{gzip_first, zlib_first}
use Rattle.npy_form.specs.Npy.{begins_as_array}
use Rattle.archive_gate.specs.Members.{alone}
use Rattle.archive_gate.specs.File.{ReachesNothing, NothingInArchives, NothingInPacked, NothingInArrays}

-- ---- what is at the front

-- it is this opcode, or nothing is
abbrev IsFirst : Opcode → Result Lenient FrontFault → Type 0
IsFirst o (Ok l) = l.op.opcode ≡ o
IsFirst o (Err f) = ⊤

mended_persistent : (size : ℕ) (rest : List ℕ) (n : Option ℕ) → IsFirst op.PersId (mended_so size (front_behind op.PersId rest n) (front_fault (front_behind op.PersId rest n)))
mended_persistent size rest None = tt
mended_persistent size rest (Some n) = refl

-- what is at the front
front_is : (rest : List ℕ) → front_of (80 ∷ rest) ≡ front_behind op.PersId rest (arg_size form.Line rest)
front_is rest = ap (front_at 80 rest) (opcode_of-code op.PersId)

cut_persistent : (rest : List ℕ) → IsFirst op.PersId (cut (80 ∷ rest))
cut_persistent rest =
    let line : List ℕ = take (length rest - 1) rest ++ (10 ∷ 10 ∷ []) in
    subst (λ (f : Front). IsFirst op.PersId (mended_so (length (80 ∷ rest)) f (front_fault f))) (sym (front_is line)) (mended_persistent (length (80 ∷ rest)) line (arg_size form.Line line))

front_persistent : (rest : List ℕ) (n : Option ℕ) → IsFirst op.PersId (lenient_at (80 ∷ rest) (front_behind op.PersId rest n) (front_fault (front_behind op.PersId rest n)))
front_persistent rest None = cut_persistent rest
front_persistent rest (Some n) = refl

lenient_persistent : (rest : List ℕ) → IsFirst op.PersId (lenient (80 ∷ rest))
unfolding lenient
lenient_persistent rest =
    subst (λ (f : Front). IsFirst op.PersId (lenient_at (80 ∷ rest) f (front_fault f))) (sym (front_is rest)) (front_persistent rest (arg_size form.Line rest))

-- the first byte of a packed file is no opcode, and that of an array is STACK_GLOBAL
first_of_gzip : (rest : List ℕ) → IsFirst op.StackGlobal (lenient (31 ∷ rest))
unfolding lenient
first_of_gzip rest = tt

first_of_zlib : (rest : List ℕ) → IsFirst op.StackGlobal (lenient (120 ∷ rest))
unfolding lenient
first_of_zlib rest = tt

front_of_array : (rest : List ℕ) (n : Option ℕ) → IsFirst op.StackGlobal (lenient_at (147 ∷ rest) (front_behind op.StackGlobal rest n) (front_fault (front_behind op.StackGlobal rest n)))
front_of_array rest None = tt
front_of_array rest (Some n) = refl

first_of_array : (rest : List ℕ) → IsFirst op.StackGlobal (lenient (147 ∷ rest))
unfolding lenient
first_of_array rest =
    subst (λ (f : Front). IsFirst op.StackGlobal (lenient_at (147 ∷ rest) f (front_fault f))) (sym (ap (front_at 147 rest) (opcode_of-code op.StackGlobal)))
    (front_of_array rest (arg_size (form_of op.StackGlobal) rest))

-- ---- what is taken

abbrev IsTakenSo : Opcode → Result Taken FrontFault → Type 0
IsTakenSo o (Ok t) = t.op.opcode ≡ o
IsTakenSo o (Err f) = ⊤

framed_op : (bytes : List ℕ) (t : Taken) (number : ℕ) → (framed bytes t number).op ≡ t.op
framed_op bytes t number = go (nat_le number t.left) (nat_le number (length bytes - (t.size + t.left)))
  where
    go : (b c : Bool) → (if b then t else if c then refilled number t else refilled (length bytes - (t.size + t.left)) t).op ≡ t.op
    go true c = refl
    go false true = refl
    go false false = refl

settled_op : (last : Bool) (bytes : List ℕ) (t : Taken) → (settled last bytes t).op ≡ t.op
settled_op last bytes t = go (last && is_stop t.op.opcode) (is_frame t.op.opcode)
  where
    go : (b c : Bool) → (if b then refilled 0 t else if c then framed bytes t (frame_number t.op) else t).op ≡ t.op
    go true c = refl
    go false true = framed_op bytes t (frame_number t.op)
    go false false = refl

plain_so : (o : Opcode) (r : Result Lenient FrontFault) → IsFirst o r → IsTakenSo o (plain r)
plain_so o (Ok l) is = is
plain_so o (Err f) is = tt

across_so : (o : Opcode) (last : Bool) (bytes : List ℕ) (gap : ℕ) (r : Result Lenient FrontFault) → IsFirst o r → IsTakenSo o (across last bytes gap r)
across_so o last bytes gap (Ok l) is = ap (λ (x : Operation). x.opcode) (settled_op last bytes (taken_as gap 0 l)) ∙ is
across_so o last bytes gap (Err f) is = tt

taken_so : (o : Opcode) (f : Frames) (byte : ℕ) (rest : List ℕ) → IsFirst o (lenient (byte ∷ rest)) → IsTakenSo o (taken f 0 (byte ∷ rest))
unfolding taken
taken_so o frames.Ignored byte rest is = plain_so o (lenient (byte ∷ rest)) is
taken_so o frames.Buffered byte rest is = across_so o true (byte ∷ rest) 0 (lenient (byte ∷ rest)) is
taken_so o frames.Held byte rest is = across_so o false (byte ∷ rest) 0 (lenient (byte ∷ rest)) is

-- ---- the loader ends

-- this opcode reaches nothing, and each loader ends at it
record IsLast (g : Granted) (o : Opcode) : Type 0 where
  none : (arg : List ℕ) → opcode_reaches g false o arg ≡ false
  ends : (arg : List ℕ) → opcode_ends o arg ≡ true

reaches_no : (g : Granted) (o : Opcode) (x : Operation) → IsLast g o → x.opcode ≡ o → reaches g false x ≡ false
unfolding reaches
reaches_no g o x last is = ap (λ (c : Opcode). opcode_reaches g false c x.arg) is ∙ last.none x.arg

ends_here : (g : Granted) (o : Opcode) (x : Operation) → IsLast g o → x.opcode ≡ o → ends x ≡ true
unfolding ends
ends_here g o x last is = ap (λ (c : Opcode). opcode_ends c x.arg) is ∙ last.ends x.arg

step_ends : (g : Granted) (o : Opcode) (r : Result Taken FrontFault) → IsLast g o → IsTakenSo o r → step_by g first_spot r ≡ step.Ends
step_ends g o (Ok t) last is = rw (reaches_no g o t.op last is, ends_here g o t.op last is) refl
step_ends g o (Err f) last is = refl

step_is : (g : Granted) (o : Opcode) (f : Frames) (byte : ℕ) (rest : List ℕ) → IsLast g o → IsFirst o (lenient (byte ∷ rest)) → step_at g (byte ∷ rest) f first_spot ≡ step.Ends
unfolding step_at
step_is g o f byte rest last is = step_ends g o (taken f 0 (byte ∷ rest)) last (taken_so o f byte rest is)

nothing_so : (g : Granted) (o : Opcode) (byte : ℕ) (rest : List ℕ) → IsLast g o → IsFirst o (lenient (byte ∷ rest)) → (mix : List Turn)
    → reaches_from g (byte ∷ rest) mix first_spot ≡ false
unfolding reaches_from
nothing_so g o byte rest last is [] = refl
nothing_so g o byte rest last is (turn ∷ mix) =
    ap (λ (x : Step). reaches_on x (λ t. reaches_from g (byte ∷ rest) mix (as_shown turn.shown t))) (step_is g o turn.frames byte rest last is)

-- ---- packed files and arrays

of_texts : (g : Granted) → IsLast g op.StackGlobal
of_texts g = record { none = λ arg. refl; ends = λ arg. refl }

begins_so : (byte : ℕ) (bytes : List ℕ) → ((rest : List ℕ) → IsFirst op.StackGlobal (lenient (byte ∷ rest))) → (0 < length bytes) → get_or bytes 0 0 ≡ byte → ReachesNothing bytes
begins_so byte [] first long is = absurd (omega (arith, long))
begins_so byte (x ∷ rest) first long is = subst (λ (y : ℕ). ReachesNothing (y ∷ rest)) (sym is) (λ g. nothing_so g op.StackGlobal byte rest (of_texts g) (first rest))

longer : (bytes : List ℕ) (n : ℕ) → get_or bytes 0 0 ≡ suc n → 0 < length bytes
longer [] n is = absurd (omega (arith, is))
longer (x ∷ rest) n is = omega arith

pub nothing_in_packed : NothingInPacked
nothing_in_packed bytes p is = go (begins_as_gzip bytes) refl (begins_as_zlib bytes) refl is
  where
    go : (a : Bool) → begins_as_gzip bytes ≡ a → (b : Bool) → begins_as_zlib bytes ≡ b → (if a then Some packing.Gzip else (if b then Some packing.Zlib else None)) ≡ Some p → ReachesNothing bytes
    go true gzip b zlib h = let first = gzip_first bytes gzip in begins_so 31 bytes first_of_gzip (longer bytes 30 first) first
    go false gzip true zlib h = let first = zlib_first bytes zlib in begins_so 120 bytes first_of_zlib (longer bytes 119 first) first
    go false gzip false zlib h = absurd cc

first_in_array : (bytes : List ℕ) → begins_as_array bytes ≡ true → get_or bytes 0 0 ≡ 147
first_in_array [] h = absurd cc
first_in_array (x ∷ rest) h = sym (eqb-true 147 x (front (eqb 147 x) _ h))
  where
    front : (a b : Bool) → (a && b) ≡ true → a ≡ true
    front true b h = refl
    front false b h = absurd cc

pub nothing_in_arrays : NothingInArrays
nothing_in_arrays bytes is = let first = first_in_array bytes is in begins_so 147 bytes first_of_array (longer bytes 146 first) first

-- ---- how an archive begins

first_is : (x : ℕ) (b c : Bool) → ((eqb 80 x && b) || (eqb 80 x && c)) ≡ true → eqb 80 x ≡ true
first_is x b c begins = go (eqb 80 x) refl begins
  where
    go : (e : Bool) → eqb 80 x ≡ e → ((e && b) || (e && c)) ≡ true → eqb 80 x ≡ true
    go true is h = is
    go false is h = absurd cc

pub nothing_in_archives : NothingInArchives
nothing_in_archives [] begins = absurd cc
nothing_in_archives (x ∷ rest) begins =
    let same : 80 ≡ x = eqb-true 80 x (first_is x _ _ begins) in
    let last : IsLast alone op.PersId = record { none = λ arg. refl; ends = λ arg. refl } in
    subst (λ (y : ℕ). NothingFrom alone (y ∷ rest) first_spot) same (nothing_so alone op.PersId 80 rest last (lenient_persistent rest))
