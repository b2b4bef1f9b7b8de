-- What FRAME and STOP do to the input of the unpickler in C is what they do to a buffer, of which nothing is lost where it is only shown.
use Rattle.std.proofs.Common.{◌≡◌, ℕ, ◌+◌, ◌-◌, ◌<◌, ◌≤◌, Bool, true, false, List, [], length, take, drop, Option, Some, None, refl, sym, ap, subst, ◌∙◌, arith, length-append}
use Rattle.std.specs.Prelude.{◌&&◌, nat_le, if◌then◌else◌}
use Rattle.std.proofs.Math.Seq.{drop-append_seam}
use Rattle.std.proofs.lemmas.Bool.{leb-true, leb-false, le-leb}
use Rattle.std.proofs.lemmas.List.{take-append-drop, length-take-le, length-drop, drop-drop, take_all}
use Rattle.byteorder.specs.Endian.{little_number}
use Rattle.pickle_ops.specs.declared.opcode.Opcode.{Opcode}
use Rattle.pickle_ops.specs.declared.opcode.Opcode.TheVariants as op
use Rattle.pickle_ops.specs.Spelling.{Operation}
use Rattle.pickle_doc.specs.DocUnit.{frame_op, is_frame, is_stop, frame_number}
use Rattle.pickle_lenient.specs.declared.taken.Taken.{Taken}
use Rattle.pickle_lenient.specs.Lenient.{Lenient}
use Rattle.pickle_lenient.specs.Stream.{refilled, framed, settled, taken_as}
use Rattle.pickle_further.specs.declared.way.Pickles.{Pickles}
use Rattle.pickle_further.specs.declared.way.Pickles.TheVariants as pickles
use Rattle.pickle_loader.specs.ShownFile.{Input, in_buffer, skip_consumed, shown, given, read_from_file, next_bytes, read_in, read, rewound, behind}
use Rattle.pickle_loader.proofs.Cuts.{drop_zero}
use Rattle.reach_laws.proofs.Split.{Split, all, reads}
use Rattle.reach_laws.proofs.Standing.{Stands, Shown, Given, IsAt, skipped, kept, shown_at, given_at, sees_read}
use Rattle.reach_laws.proofs.Wholes.{no_reads, outside_only}
use Rattle.reach_laws.proofs.Covered.{IsOf, Itself, Keyed}
use Rattle.reach_laws.proofs.Fetched.{ends_loads, sees_none}

-- the input stands behind an item, in a buffer of which so much is left, or that is only shown
pub record Went (shows : ℕ → ℕ) (q : Split) (bytes : List ℕ) (t : Taken) (k : Input) : Type 0 where
  pub shown : Bool
  pub split : Split
  pub at : IsAt split k
  pub rest : drop t.size bytes ≡ all split
  pub left : (if shown then 0 else t.left) ≡ length split.inside
  -- where the file shows all, nothing is in the buffer that can be lost
  pub whole : ((turn : ℕ) → length bytes ≤ shows turn) → q.inside ≡ [] → split.inside ≡ []

-- or the unpickler raises: the bytes of a frame are not there
pub data IsBehind (shows : ℕ → ℕ) (q : Split) (bytes : List ℕ) (x : Option Input) (t : Taken) : Type 0 where
  NoMore : x ≡ None → IsBehind shows q bytes x t
  More : (k : Input) → x ≡ Some k → Went shows q bytes t k → IsBehind shows q bytes x t

-- ---- what is left

-- behind what is lost of the buffer
behind_buffer : (bytes : List ℕ) (size left : ℕ) (q : Split) → left ≡ length q.inside → drop size bytes ≡ all q → drop (size + left) bytes ≡ q.outside
behind_buffer bytes size left q inside rest =
    sym (drop-drop left size bytes) ∙ ap (drop left) rest ∙ ap (λ (n : ℕ). drop n (all q)) inside ∙ drop-append_seam q.inside q.outside

-- the bytes of a frame are the next ones again
back : (n : ℕ) (q : Split) (j : Input) → IsAt q j → IsAt q (record j { next = (j.next + n) - n })
back n q j at = let same : j.next ≡ (j.next + n) - n = omega arith in subst (λ (m : ℕ). Stands j.buffer m j.prefetched j.file q) same at

size_in : (q : Split) (j : Input) → IsAt q j → length q.inside ≤ in_buffer j
size_in q j (Shown more none e f p g) = let empty : length q.inside ≡ 0 = ap length none in omega (arith, empty)
size_in q j (Given e f g p) = omega (arith, ap length e, length-drop j.next j.buffer)

-- ---- FRAME

-- its bytes are in the buffer
rewound_in : (shows : ℕ → ℕ) (n : ℕ) (j : Input) → n ≤ in_buffer j → rewound n (read shows n j) ≡ Some (record j { next = (j.next + n) - n })
rewound_in shows n j enough = ap (λ (b : Bool). rewound n (if b then Some (next_bytes n j) else read_in n (read_from_file shows n j))) (le-leb n (in_buffer j) enough)

-- they are in what is only shown
frame_shown : (shows : ℕ → ℕ) (bytes : List ℕ) (t : Taken) (n : ℕ) (q : Split) (j : Input) → IsAt q j → t.left < n → n ≤ in_buffer j → t.left ≡ length q.inside → drop t.size bytes ≡ all q → Went shows q bytes (refilled n t) (record j { next = (j.next + n) - n })
frame_shown shows bytes t n q j (Shown more none e f p g) far enough left rest =
    let empty : t.left ≡ 0 = left ∙ ap length none in
    let sum : t.size + t.left ≡ t.size = omega (arith, empty) in
    record {
      shown = true;
      split = q;
      at = back n q j (Shown more none e f p g);
      rest = ap (λ (m : ℕ). drop m bytes) sum ∙ rest;
      left = sym (ap length none);
      whole = λ big empty. empty;
    }
frame_shown shows bytes t n q j (Given e f g p) far enough left rest = absurd (omega (arith, far, enough, left, ap length e, length-drop j.next j.buffer))

-- the buffer is filled anew
filled_by : (shows : ℕ → ℕ) (at : ℕ) (n : ℕ) (bytes : List ℕ) (t : Taken) (q : Split) (m : Input) (turn : ℕ) (b : Bool) → nat_le n (length (take (shows at) m.file)) ≡ b → m.file ≡ q.outside → n ≤ length q.outside → t.left ≡ length q.inside → drop t.size bytes ≡ all q
    → (k : Input) × (rewound n (read_in n (record (if b then shown (shows at) m else given n m) { turn = turn })) ≡ Some k) × Went shows q bytes (refilled n t) k
filled_by shows at n bytes t q m turn true e is enough left rest =
    let i : Input = record (shown (shows at) m) { turn = turn } in
    let has : n ≤ in_buffer i = omega (arith, leb-true n (length (take (shows at) m.file)) e) in (
      record i { next = (i.next + n) - n },
      ap (λ (c : Bool). rewound n (if c then Some (next_bytes n i) else None)) (le-leb n (in_buffer i) has),
      record {
        shown = true;
        split = outside_only q.outside;
        at = back n (outside_only q.outside) i (shown_at (shows at) q.outside m is);
        rest = behind_buffer bytes t.size t.left q left rest;
        left = refl;
        whole = λ big empty. refl;
      },
    )
filled_by shows at n bytes t q m turn false e is enough left rest =
    let i : Input = record (given n m) { turn = turn } in
    let s : Split = record { inside = take n q.outside; outside = drop n q.outside } in
    let size : length (take n m.file) ≡ n = length-take-le n m.file (omega (arith, enough, ap length is)) in (
      record i { next = (i.next + n) - n },
      ap (λ (c : Bool). rewound n (if c then Some (next_bytes n i) else None)) (le-leb n (in_buffer i) (omega (arith, size))),
      record {
        shown = false;
        split = s;
        at = back n s i (given_at n q.outside m is);
        rest = behind_buffer bytes t.size t.left q left rest ∙ sym (take-append-drop n q.outside);
        left = sym (length-take-le n q.outside enough);
        whole = λ big empty.
            let few : length m.file ≤ length bytes = omega (arith, ap length is, ap length rest, length-drop t.size bytes, length-append q.inside q.outside) in
            let all_of_it : take (shows at) m.file ≡ m.file = take_all (shows at) m.file (omega (arith, few, big at)) in
            absurd (omega (arith, leb-false n (length (take (shows at) m.file)) e, ap length all_of_it, ap length is, enough));
      },
    )

frame_far : (shows : ℕ → ℕ) (n : ℕ) (bytes : List ℕ) (t : Taken) (q : Split) (j : Input) (b : Bool) → nat_le n (in_buffer j) ≡ b → IsAt q j → t.left < n → n ≤ length q.outside → t.left ≡ length q.inside → drop t.size bytes ≡ all q
    → IsBehind shows q bytes (rewound n (if b then Some (next_bytes n j) else read_in n (read_from_file shows n j))) (refilled n t)
frame_far shows n bytes t q j true e at far enough left rest =
    More (record j { next = (j.next + n) - n }) refl (frame_shown shows bytes t n q j at far (leb-true n (in_buffer j) e) left rest)
frame_far shows n bytes t q j false e at far enough left rest =
    let m : Input = skip_consumed j in
    let f = filled_by shows j.turn n bytes t q m (j.turn + 1) (nat_le n (length (take (shows j.turn) m.file))) refl (skipped q j at) enough left rest in
    More f.0 f.1 f.2

frame_by : (shows : ℕ → ℕ) (n : ℕ) (bytes : List ℕ) (t : Taken) (q : Split) (j : Input) (b c : Bool) → nat_le n t.left ≡ b → nat_le n (length bytes - (t.size + t.left)) ≡ c → IsAt q j → t.left ≡ length q.inside → drop t.size bytes ≡ all q
    → IsBehind shows q bytes (rewound n (read shows n j)) (if b then t else (if c then refilled n t else refilled (length bytes - (t.size + t.left)) t))
frame_by shows n bytes t q j true c e f at left rest =
    let enough : n ≤ in_buffer j = omega (arith, leb-true n t.left e, left, size_in q j at) in
    More (record j { next = (j.next + n) - n }) (rewound_in shows n j enough) (record { shown = false; split = q; at = back n q j at; rest = rest; left = left; whole = λ big empty. empty })
frame_by shows n bytes t q j false true e f at left rest =
    let outside : length bytes - (t.size + t.left) ≡ length q.outside = omega (arith, left, ap length rest, length-drop t.size bytes, length-append q.inside q.outside) in
    frame_far shows n bytes t q j (nat_le n (in_buffer j)) refl at (leb-false n t.left e) (omega (arith, leb-true n (length bytes - (t.size + t.left)) f, outside)) left rest
frame_by shows n bytes t q j false false e f at left rest =
    let outside : length bytes - (t.size + t.left) ≡ length q.outside = omega (arith, left, ap length rest, length-drop t.size bytes, length-append q.inside q.outside) in
    NoMore (ap (rewound n) (sees_none (reads n q) (read shows n j) (sees_read shows n q j at)
    (no_reads n q (omega (arith, leb-false n t.left e, left)) (omega (arith, leb-false n (length bytes - (t.size + t.left)) f, outside)))))

frame_behind : (shows : ℕ → ℕ) (n : ℕ) (bytes : List ℕ) (t : Taken) (q : Split) (j : Input) → IsAt q j → t.left ≡ length q.inside → drop t.size bytes ≡ all q → IsBehind shows q bytes (rewound n (read shows n j)) (framed bytes t n)
frame_behind shows n bytes t q j at left rest = frame_by shows n bytes t q j (nat_le n t.left) (nat_le n (length bytes - (t.size + t.left))) refl refl at left rest

-- ---- STOP, and all others

-- a new unpickler, whose buffer is empty
stop_behind : (shows : ℕ → ℕ) (bytes : List ℕ) (t : Taken) (q : Split) (j : Input) → IsAt q j → t.left ≡ length q.inside → drop t.size bytes ≡ all q → Went shows q bytes (refilled 0 t) (record (skip_consumed j) { buffer = []; next = 0; prefetched = 0 })
stop_behind shows bytes t q j at left rest = record {
  shown = false;
  split = outside_only q.outside;
  at = Given (drop_zero []) (skipped q j at) (omega arith) refl;
  rest = behind_buffer bytes t.size t.left q left rest;
  left = refl;
  whole = λ big empty. refl;
}

stays : (shows : ℕ → ℕ) (bytes : List ℕ) (t : Taken) (q : Split) (j : Input) → IsAt q j → t.left ≡ length q.inside → drop t.size bytes ≡ all q → Went shows q bytes t j
stays shows bytes t q j at left rest = record { shown = false; split = q; at = at; rest = rest; left = left; whole = λ big empty. empty }

own_behind : (shows : ℕ → ℕ) (p : Pickles) (o : Opcode) (arg bytes : List ℕ) (t : Taken) (q : Split) (j : Input) → IsAt q j → t.left ≡ length q.inside → drop t.size bytes ≡ all q
    → IsBehind shows q bytes (behind shows p o arg j) (if ends_loads p && is_stop o then refilled 0 t else (if is_frame o then framed bytes t (little_number 8 arg) else t))
own_behind shows pickles.First op.Stop arg bytes t q j at left rest = More (record (skip_consumed j) { buffer = []; next = 0; prefetched = 0 }) refl (stop_behind shows bytes t q j at left rest)
own_behind shows pickles.All op.Stop arg bytes t q j at left rest = More (record (skip_consumed j) { buffer = []; next = 0; prefetched = 0 }) refl (stop_behind shows bytes t q j at left rest)
own_behind shows pickles.OneMemo op.Stop arg bytes t q j at left rest = More (skip_consumed j) refl (stays shows bytes t q (skip_consumed j) (kept q j at) left rest)
own_behind shows pickles.First op.Frame arg bytes t q j at left rest = frame_behind shows (little_number 8 arg) bytes t q j at left rest
own_behind shows pickles.All op.Frame arg bytes t q j at left rest = frame_behind shows (little_number 8 arg) bytes t q j at left rest
own_behind shows pickles.OneMemo op.Frame arg bytes t q j at left rest = frame_behind shows (little_number 8 arg) bytes t q j at left rest
own_behind shows pickles.First _ arg bytes t q j at left rest = More j refl (stays shows bytes t q j at left rest)
own_behind shows pickles.All _ arg bytes t q j at left rest = More j refl (stays shows bytes t q j at left rest)
own_behind shows pickles.OneMemo _ arg bytes t q j at left rest = More j refl (stays shows bytes t q j at left rest)

behind_plain : (shows : ℕ → ℕ) (p : Pickles) (o : Opcode) (arg : List ℕ) (j : Input) → is_stop o ≡ false → is_frame o ≡ false → behind shows p o arg j ≡ Some j
behind_plain shows p op.Frame arg j e f = absurd cc
behind_plain shows p op.Stop arg j e f = absurd cc
behind_plain shows p _ arg j e f = refl

pub and_no : (b : Bool) → (b && false) ≡ false
and_no true = refl
and_no false = refl

-- a number of 0 begins nothing
nothing_framed : (bytes : List ℕ) (t : Taken) (n : ℕ) → n ≡ 0 → framed bytes t n ≡ t
nothing_framed bytes t n e =
    ap (λ (b : Bool). if b then t else (if nat_le n (length bytes - (t.size + t.left)) then refilled n t else refilled (length bytes - (t.size + t.left)) t)) (le-leb n t.left (omega (arith, e)))

-- behind an item that is this operation
pub is_behind : (shows : ℕ → ℕ) (p : Pickles) (o : Operation) (l : Lenient) (gap : ℕ) (bytes : List ℕ) (q : Split) (j : Input) → IsOf o l.op l.row → IsAt q j → drop (l.size + gap) bytes ≡ all q
    → IsBehind shows q bytes (behind shows p o.opcode o.arg j) (settled (ends_loads p) bytes (taken_as gap (length q.inside) l))
is_behind shows p o l gap bytes q j (Itself is own) at rest =
    let t : Taken = taken_as gap (length q.inside) l in
    subst (λ (x : Operation). IsBehind shows q bytes (behind shows p o.opcode o.arg j) (if ends_loads p && is_stop x.opcode then refilled 0 t else (if is_frame x.opcode then framed bytes t (frame_number x) else t))) (sym is)
    (own_behind shows p o.opcode o.arg bytes t q j at refl rest)
is_behind shows p o l gap bytes q j (Keyed is stop frame loads) at rest =
    let t : Taken = taken_as gap (length q.inside) l in
    let number : frame_number (frame_op 0) ≡ 0 = refl in
    subst (λ (y : Taken). IsBehind shows q bytes (behind shows p o.opcode o.arg j) y)
    (sym (ap (λ (x : Operation). if ends_loads p && is_stop x.opcode then refilled 0 t else (if is_frame x.opcode then framed bytes t (frame_number x) else t)) is
    ∙ ap (λ (b : Bool). if b then refilled 0 t else framed bytes t (frame_number (frame_op 0))) (and_no (ends_loads p))
    ∙ nothing_framed bytes t (frame_number (frame_op 0)) number))
    (More j (behind_plain shows p o.opcode o.arg j stop frame) (stays shows bytes t q j at refl rest))
