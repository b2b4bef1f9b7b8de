-- Where no byte is FRAME, nothing comes into an empty buffer.
use Rattle.std.proofs.Common.{◌≡◌, ℕ, zero, suc, Bool, true, false, List, [], ◌∷◌, ◌++◌, length, drop, Option, Some, None, Ok, refl, sym, ap, subst, ◌∙◌}
use Rattle.std.specs.Prelude.{◌&&◌, if◌then◌else◌, Result, Err}
use Rattle.std.specs.List.{list_any}
use Rattle.pickle_ops.specs.declared.opcode.Opcode.{Opcode}
use Rattle.pickle_ops.specs.declared.opcode.Opcode.TheVariants as op
use Rattle.pickle_ops.specs.declared.row.Row.{Row}
use Rattle.pickle_ops.specs.declared.fault.FrontFault.{FrontFault}
use Rattle.pickle_ops.specs.declared.fault.FrontFault.TheVariants as fault
use Rattle.pickle_ops.specs.Table.{code_of}
use Rattle.pickle_ops.specs.Spelling.{Front, Ended, Unknown, Cut, Whole, IsFront, front_fault}
use Rattle.pickle_ops.specs.Front.{front_of}
use Rattle.pickle_ops.specs.Row.{row_of}
use Rattle.pickle_ops.proofs.Fronts.{is_front}
use Rattle.pickle_doc.specs.DocUnit.{is_frame, is_stop, frame_op, frame_number}
use Rattle.pickle_lenient.specs.declared.taken.Taken.{Taken}
use Rattle.pickle_lenient.specs.Lenient.{Lenient, mended, tells_line, odd_line, odd_so, taken_so, mended_so, cut_line, lenient_at, lenient}
use Rattle.pickle_lenient.specs.Stream.{joined, refilled, framed, settled, taken_as, across, taken}
use Rattle.pickle_further.specs.declared.way.Pickles.{Pickles}
use Rattle.pickle_further.specs.Parts.{is_frame_code, file_frames}
use Rattle.pickle_loader.proofs.Buffering.{nothing_framed}
use Rattle.pickle_loader.proofs.Buffers.{none_of}
use Rattle.pickle_loader.proofs.Items.{none_taken}
use Rattle.reach_laws.proofs.Fetched.{ends_loads, taken_by}

abbrev pub NoFrame : List ℕ → Type 0
NoFrame bytes = list_any is_frame_code bytes ≡ false

pub none_dropped : (n : ℕ) (bytes : List ℕ) → NoFrame bytes → NoFrame (drop n bytes)
none_dropped zero [] none = none
none_dropped zero (b ∷ bytes) none = none
none_dropped (suc n) [] none = none
none_dropped (suc n) (b ∷ bytes) none = none_dropped n bytes (none_of (is_frame_code b) (list_any is_frame_code bytes) none).1

-- ---- what is read is no FRAME

-- or one of no bytes
abbrev Frameless : Lenient → Type 0
Frameless l = is_frame l.op.opcode ≡ true → frame_number l.op ≡ 0

frame_is : (o : Opcode) → is_frame o ≡ true → o ≡ op.Frame
frame_is op.Frame e = refl
frame_is _ e = absurd cc

heads : (a b : ℕ) (xs ys : List ℕ) → a ∷ xs ≡ b ∷ ys → a ≡ b
heads a b xs ys e = cc

abbrev read_as : Lenient → Result Lenient FrontFault
read_as l = Ok l

ok_is : (a b : Lenient) → read_as a ≡ read_as b → a ≡ b
ok_is a b e = cc

-- its code is the first byte
not_whole : (code : ℕ) (bytes arg rest : List ℕ) (o : Opcode) → is_frame_code code ≡ false → front_of (code ∷ bytes) ≡ Whole o arg rest → is_frame o ≡ true → ⊥
not_whole code bytes arg rest o none e frame =
    let is : IsFront (code ∷ bytes) (Whole o arg rest) = subst (IsFront (code ∷ bytes)) e (is_front (code ∷ bytes)) in
    let first : code ≡ code_of o = heads code (code_of o) bytes (arg ++ rest) is.0 in
    let hit : is_frame_code code ≡ true = ap is_frame_code (first ∙ ap code_of (frame_is o frame)) in
    let two : true ≡ false = sym hit ∙ none in absurd cc

so_frameless : (size code : ℕ) (bytes : List ℕ) (x : Front) (l : Lenient) → is_frame_code code ≡ false → front_of (code ∷ bytes) ≡ x → taken_so size x ≡ Ok l → Frameless l
so_frameless size code bytes (Whole o arg rest) l none is e =
    let made : Lenient = record { op = record { opcode = o; arg = arg }; row = row_of (record { opcode = o; arg = arg }); size = size } in
    let same : made ≡ l = ok_is made l e in
    λ frame. absurd (not_whole code bytes arg rest o none is (ap (λ (m : Lenient). is_frame m.op.opcode) same ∙ frame))
so_frameless size code bytes Ended l none is e = absurd cc
so_frameless size code bytes (Unknown byte) l none is e = absurd cc
so_frameless size code bytes (Cut o) l none is e = absurd cc

odd_frameless : (x : Option (Row × ℕ)) (l : Lenient) → odd_so x ≡ Ok l → Frameless l
odd_frameless (Some r) l e =
    let made : Lenient = record { op = frame_op 0; row = r.0; size = r.1 } in
    let number : frame_number (frame_op 0) ≡ 0 = refl in
    λ frame. ap (λ (m : Lenient). frame_number m.op) (sym (ok_is made l e)) ∙ number
odd_frameless None l e = absurd cc

mended_frameless : (size code : ℕ) (bytes : List ℕ) (x : Front) (f : Option FrontFault) (l : Lenient) → is_frame_code code ≡ false → front_of (code ∷ bytes) ≡ x → mended_so size x f ≡ Ok l → Frameless l
mended_frameless size code bytes x None l none is e = so_frameless size code bytes x l none is e
mended_frameless size code bytes x (Some f) l none is e = absurd cc

cut_frameless : (code : ℕ) (bytes : List ℕ) (b : Bool) (l : Lenient) → is_frame_code code ≡ false → (if b then cut_line (code ∷ bytes) else Err fault.Truncated) ≡ Ok l → Frameless l
cut_frameless code bytes true l none e =
    mended_frameless (length (code ∷ bytes)) code _ (front_of (mended (code ∷ bytes))) (front_fault (front_of (mended (code ∷ bytes)))) l none refl e
cut_frameless code bytes false l none e = absurd cc

front_frameless : (code : ℕ) (bytes : List ℕ) (x : Front) (f : Option FrontFault) (l : Lenient) → is_frame_code code ≡ false → front_of (code ∷ bytes) ≡ x → lenient_at (code ∷ bytes) x f ≡ Ok l → Frameless l
front_frameless code bytes x None l none is e = so_frameless _ code bytes x l none is e
front_frameless code bytes x (Some fault.BadArgument) l none is e = odd_frameless (odd_line code bytes) l e
front_frameless code bytes x (Some fault.Truncated) l none is e = cut_frameless code bytes (tells_line code) l none e
front_frameless code bytes x (Some fault.Ended) l none is e = absurd cc
front_frameless code bytes x (Some (fault.UnknownOpcode byte)) l none is e = absurd cc
front_frameless code bytes x (Some fault.NegativeLength) l none is e = absurd cc

lenient_frameless : (code : ℕ) (bytes : List ℕ) (l : Lenient) → is_frame_code code ≡ false → lenient (code ∷ bytes) ≡ Ok l → Frameless l
unfolding lenient
lenient_frameless code bytes l none e = front_frameless code bytes (front_of (code ∷ bytes)) (front_fault (front_of (code ∷ bytes))) l none refl e

-- ---- the buffer behind it

settled_left : (b c : Bool) (bytes : List ℕ) (t : Taken) → t.left ≡ 0 → (c ≡ true → frame_number t.op ≡ 0) → (if b then refilled 0 t else (if c then framed bytes t (frame_number t.op) else t)).left ≡ 0
settled_left true c bytes t empty number = refl
settled_left false true bytes t empty number = ap (λ (u : Taken). u.left) (nothing_framed bytes t (frame_number t.op) (number refl)) ∙ empty
settled_left false false bytes t empty number = empty

across_left : (ends : Bool) (bytes : List ℕ) (x : Result Lenient FrontFault) (item : Taken) → ((l : Lenient) → x ≡ Ok l → Frameless l) → across ends bytes 0 x ≡ Ok item → item.left ≡ 0
across_left ends bytes (Err f) item none e = absurd cc
across_left ends bytes (Ok l) item none e =
    let t : Taken = taken_as 0 0 l in
    let same : settled ends bytes t ≡ item = cc in
    subst (λ (i : Taken). i.left ≡ 0) same (settled_left (ends && is_stop t.op.opcode) (is_frame t.op.opcode) bytes t refl (none l refl))

pub stays_empty : (p : Pickles) (bytes : List ℕ) (item : Taken) → NoFrame bytes → taken (file_frames p) 0 bytes ≡ Ok item → item.left ≡ 0
stays_empty p [] item none e = let two : Err fault.Ended ≡ Ok item = sym (none_taken (file_frames p) 0) ∙ e in absurd cc
stays_empty p (code ∷ bytes) item none e =
    let first = (none_of (is_frame_code code) (list_any is_frame_code bytes) none).0 in
    across_left (ends_loads p) (code ∷ bytes) (lenient (joined 0 (code ∷ bytes))) item (λ l is. lenient_frameless code bytes l first is) (sym (taken_by p 0 (code ∷ bytes) false refl) ∙ e)
