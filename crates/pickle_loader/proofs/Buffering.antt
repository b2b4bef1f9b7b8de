-- What the unpickler in Python reads with its frames is what is taken where frames are kept in a buffer, or ignored.
use Rattle.std.proofs.Common.{◌≡◌, ℕ, zero, suc, ◌+◌, ◌-◌, ◌≤◌, Bool, true, false, List, [], ◌∷◌, ◌++◌, length, take, drop, Option, Some, None, Ok, refl, sym, ap, subst, ◌∙◌, arith, length-append, take_all}
use Rattle.std.specs.Prelude.{◌&&◌, nat_le, if◌then◌else◌}
use Rattle.std.proofs.Math.Seq.{take-append_seam, drop-append_seam}
use Rattle.std.proofs.lemmas.Bool.{leb-true, leb-false, le-leb}
use Rattle.std.proofs.lemmas.List.{take-append-drop, length-take-le, length-drop, drop-append-le}
use Rattle.byteorder.specs.Endian.{little_number}
use Rattle.pickle_ops.specs.declared.opcode.Opcode.{Opcode}
use Rattle.pickle_ops.specs.declared.opcode.Opcode.TheVariants as op
use Rattle.pickle_ops.specs.declared.row.Row.{Row}
use Rattle.pickle_ops.specs.Table.{code_of, form_of, opcode_of}
use Rattle.pickle_ops.specs.Spelling.{Operation}
use Rattle.pickle_ops.specs.Front.{front_of}
use Rattle.pickle_ops.specs.Inside.Sizes.{arg_size, length_bytes}
use Rattle.pickle_ops.proofs.TableLemmas.{opcode_of-code, code-opcode_of}
use Rattle.pickle_doc.specs.DocUnit.{frame_op, is_frame, is_stop, frame_number}
use Rattle.pickle_lenient.specs.declared.taken.Frames.{Frames}
use Rattle.pickle_lenient.specs.declared.taken.Frames.TheVariants as frames
use Rattle.pickle_lenient.specs.declared.taken.Taken.{Taken}
use Rattle.pickle_lenient.specs.Lenient.{Lenient, lenient}
use Rattle.pickle_lenient.specs.Stream.{is_filled, form_read, code_read, first_read, joined, ends_in, refilled, framed, settled, taken_as, plain, within, across, taken}
use Rattle.pickle_loader.specs.Environment.{Unpickler, World}
use Rattle.pickle_loader.specs.Unpickler.{Raised}
use Rattle.pickle_loader.specs.Dispatch.{dispatch}
use Rattle.pickle_loader.specs.Onward.{dispatch_as}
use Rattle.pickle_loader.specs.Reader.{Reader, read_arg, load_frame_in, behind, Fetch, with_code, with_key, fetch, opened, frame_left, frame_bytes, all_left}
use Rattle.pickle_loader.proofs.Crossing.{crosses}
use Rattle.pickle_loader.proofs.CutLines.{some_size}
use Rattle.pickle_loader.proofs.Cuts.{drop_zero}
use Rattle.pickle_loader.proofs.Fetching.{InFrame, reads}
use Rattle.pickle_loader.proofs.Items.{own_dispatch}
use Rattle.pickle_loader.proofs.Plain.{IsOf, Itself, Keyed, IsSilent, IsCovered, Takes, Ends, Fails, IsRead, is_read, at_whole, plainly, file_behind, cut_ends, whole_front}
use Rattle.pickle_loader.proofs.Unframing.{frames_only_end}

-- ---- what is taken

-- where the unpickler is behind the opcode: that is what is left of the bytes, and of the buffer. Where frames are ignored STOP loses nothing
abbrev pub IsNext : Frames → Operation → Reader → Reader → Taken → Type 0
IsNext frames.Ignored o r after item = is_stop o.opcode ≡ false → drop item.size (all_left r) ≡ all_left after
IsNext frames.Buffered o r after item = (drop item.size (all_left r) ≡ all_left after) × (item.left ≡ frame_left after.frame)
IsNext frames.Held o r after item = ⊥

pub data IsTaken (f : Frames) (r : Reader) (o : Operation) (after : Reader) : Type 0 where
  Reads : (item : Taken) → taken f (frame_left r.frame) (all_left r) ≡ Ok item → IsOf o item.op item.row → IsNext f o r after item → IsTaken f r o after
  Last : all_left after ≡ [] → IsSilent o → IsTaken f r o after
  Never : ((w : World) (u : Unpickler) → dispatch w o.opcode o.arg u ≡ Raised u.acts) → IsTaken f r o after

-- the item loads as the operation
pub loads_as : (o p : Operation) (r : Row) → IsOf o p r → (w : World) (u : Unpickler) → dispatch_as w r p.opcode p.arg u ≡ dispatch w o.opcode o.arg u
loads_as o p r (Itself is own) w u =
    subst (λ (x : Operation). dispatch_as w r x.opcode x.arg u ≡ dispatch w o.opcode o.arg u) (sym is) (own_dispatch w o.opcode o.arg r u own)
loads_as o p r (Keyed is stop frame loads) w u = subst (λ (x : Operation). dispatch_as w r x.opcode x.arg u ≡ dispatch w o.opcode o.arg u) (sym is) (loads w u)

-- ---- behind it

same_reader : (a b : Reader) → Some a ≡ Some b → a ≡ b
same_reader a b e = cc

stays : (o : Opcode) (arg : List ℕ) (r after : Reader) → is_stop o ≡ false → is_frame o ≡ false → behind o arg r ≡ Some after → r ≡ after
stays op.Frame arg r after e f is = absurd cc
stays op.Stop arg r after e f is = absurd cc
stays _ arg r after e f is = same_reader r after is

-- a reader before the rest of bytes
record Before (r : Reader) (bytes : List ℕ) (left : ℕ) (l : Lenient) : Type 0 where
  kept : frame_left r.frame ≡ left
  rest : all_left r ≡ drop l.size bytes
  within : l.size ≤ length bytes

-- what is left behind an item, where this many bytes of a buffer are left behind its own
record Settled (bytes : List ℕ) (after : Reader) (item : Taken) : Type 0 where
  rest : drop item.size bytes ≡ all_left after
  left : item.left ≡ frame_left after.frame

none_more : (l : Lenient) (bytes : List ℕ) → drop (l.size + 0) bytes ≡ drop l.size bytes
none_more l bytes = ap (λ (n : ℕ). drop n bytes) (omega arith)

plain_settled : (bytes : List ℕ) (r after : Reader) (left : ℕ) (l : Lenient) → Before r bytes left l → r ≡ after → Settled bytes after (taken_as 0 left l)
plain_settled bytes r after left l b is = record { rest = none_more l bytes ∙ sym b.rest ∙ ap all_left is; left = sym b.kept ∙ ap (λ (x : Reader). frame_left x.frame) is }

drop_more : (n m : ℕ) (xs : List ℕ) → drop (n + m) xs ≡ drop m (drop n xs)
drop_more zero m xs = let sum : 0 + m ≡ m = omega arith in ap (λ (k : ℕ). drop k xs) sum ∙ ap (drop m) (sym (drop_zero xs))
drop_more (suc n) m [] = none (suc n + m) ∙ sym (none m)
  where
    none : (k : ℕ) → drop {A = ℕ} k [] ≡ []
    none zero = refl
    none (suc k) = refl
drop_more (suc n) m (x ∷ xs) = let sum : suc n + m ≡ suc (n + m) = omega arith in ap (λ (k : ℕ). drop k (x ∷ xs)) sum ∙ drop_more n m xs

frame_over : (frame : Option (List ℕ)) (file : List ℕ) → drop (frame_left frame) (frame_bytes frame ++ file) ≡ file
frame_over None file = drop_zero file
frame_over (Some bytes) file = drop-append_seam bytes file

stop_settled : (bytes : List ℕ) (r after : Reader) (left : ℕ) (l : Lenient) → Before r bytes left l → record { frame = None; file = r.file } ≡ after → Settled bytes after (refilled 0 (taken_as 0 left l))
stop_settled bytes r after left l b is =
    let size : l.size + 0 + left ≡ l.size + frame_left r.frame = omega (arith, b.kept) in
    record {
      rest =
          ap (λ (n : ℕ). drop n bytes) size ∙ drop_more l.size (frame_left r.frame) bytes ∙ ap (drop (frame_left r.frame)) (sym b.rest)
          ∙ frame_over r.frame r.file ∙ ap all_left is;
      left = ap (λ (x : Reader). frame_left x.frame) is;
    }

-- FRAME begins where no bytes of another are left
begins : (frame : Option (List ℕ)) (n : ℕ) (file : List ℕ) (after : Reader) → load_frame_in frame n file ≡ Some after → (frame_left frame ≡ 0) × (frame_bytes frame ++ file ≡ file) × (record { frame = Some (take n file); file = drop n file } ≡ after)
begins None n file after e = (refl, refl, same_reader (record { frame = Some (take n file); file = drop n file }) after e)
begins (Some []) n file after e = (refl, refl, same_reader (record { frame = Some (take n file); file = drop n file }) after e)
begins (Some (b ∷ frame)) n file after e = absurd cc

record Begun (bytes : List ℕ) (r after : Reader) (left n : ℕ) (l : Lenient) : Type 0 where
  none : left ≡ 0
  whole : (k : ℕ) → k ≡ l.size → drop k bytes ≡ all_left after
  in_frame : (k : ℕ) → length (take n r.file) ≡ k → k ≡ frame_left after.frame
  long : length r.file ≡ length bytes - l.size

begun : (bytes : List ℕ) (r after : Reader) (left n : ℕ) (l : Lenient) → Before r bytes left l → load_frame_in r.frame n r.file ≡ Some after → Begun bytes r after left n l
begun bytes r after left n l b e =
    let there = begins r.frame n r.file after e in
    let file : r.file ≡ drop l.size bytes = sym there.1 ∙ b.rest in
    let all : all_left after ≡ r.file = ap all_left (sym there.2) ∙ take-append-drop n r.file in
    record {
      none = sym b.kept ∙ there.0;
      whole = λ k is. ap (λ (m : ℕ). drop m bytes) is ∙ sym file ∙ sym all;
      in_frame = λ k is. sym is ∙ ap (λ (x : Reader). frame_left x.frame) there.2;
      long = ap length file ∙ length-drop l.size bytes;
    }

none_taken : (xs : List ℕ) → length (take 0 xs) ≡ 0
none_taken [] = refl
none_taken (x ∷ xs) = refl

framed_by : (bytes : List ℕ) (r after : Reader) (left n : ℕ) (l : Lenient) (c d : Bool) → Begun bytes r after left n l → nat_le n left ≡ c → nat_le n (length bytes - (l.size + 0 + left)) ≡ d
    → Settled bytes after (if c then taken_as 0 left l else (if d then refilled n (taken_as 0 left l) else refilled (length bytes - (l.size + 0 + left)) (taken_as 0 left l)))
framed_by bytes r after left n l true d b f g =
    let no : n ≡ 0 = omega (arith, leb-true n left f, b.none) in
    record { rest = b.whole (l.size + 0) (omega arith); left = b.in_frame left (ap (λ (m : ℕ). length (take m r.file)) no ∙ none_taken r.file ∙ sym b.none) }
framed_by bytes r after left n l false true b f g =
    let enough : n ≤ length r.file = omega (arith, leb-true n (length bytes - (l.size + 0 + left)) g, b.long, b.none) in
    record { rest = b.whole (l.size + 0 + left) (omega (arith, b.none)); left = b.in_frame n (length-take-le n r.file enough) }
framed_by bytes r after left n l false false b f g =
    let short : length r.file ≤ n = omega (arith, leb-false n (length bytes - (l.size + 0 + left)) g, b.long, b.none) in
    record {
      rest = b.whole (l.size + 0 + left) (omega (arith, b.none));
      left = b.in_frame (length bytes - (l.size + 0 + left)) (ap length (take_all n r.file short) ∙ omega (arith, b.long, b.none));
    }

framed_settled : (bytes : List ℕ) (r after : Reader) (left n : ℕ) (l : Lenient) → Before r bytes left l → load_frame_in r.frame n r.file ≡ Some after → Settled bytes after (framed bytes (taken_as 0 left l) n)
framed_settled bytes r after left n l b e = framed_by bytes r after left n l (nat_le n left) (nat_le n (length bytes - (l.size + 0 + left))) (begun bytes r after left n l b e) refl refl

-- a number of 0 begins nothing
pub nothing_framed : (bytes : List ℕ) (t : Taken) (n : ℕ) → n ≡ 0 → framed bytes t n ≡ t
nothing_framed bytes t n e =
    ap (λ (b : Bool). if b then t else (if nat_le n (length bytes - (t.size + t.left)) then refilled n t else refilled (length bytes - (t.size + t.left)) t)) (le-leb n t.left (omega (arith, e)))

-- by the opcode
own_settled : (bytes : List ℕ) (r after : Reader) (left : ℕ) (l : Lenient) (o : Opcode) (arg : List ℕ) → Before r bytes left l → behind o arg r ≡ Some after
    → Settled bytes after (if is_stop o then refilled 0 (taken_as 0 left l) else (if is_frame o then framed bytes (taken_as 0 left l) (little_number 8 arg) else taken_as 0 left l))
own_settled bytes r after left l op.Stop arg b e = stop_settled bytes r after left l b (same_reader (record { frame = None; file = r.file }) after e)
own_settled bytes r after left l op.Frame arg b e = framed_settled bytes r after left (little_number 8 arg) l b e
own_settled bytes r after left l _ arg b e = plain_settled bytes r after left l b (same_reader r after e)

keyed_settled : (bytes : List ℕ) (r after : Reader) (left : ℕ) (l : Lenient) → l.op ≡ frame_op 0 → Before r bytes left l → r ≡ after → Settled bytes after (settled true bytes (taken_as 0 left l))
keyed_settled bytes r after left l is b e =
    let number : frame_number (frame_op 0) ≡ 0 = refl in
    subst (λ (t : Taken). Settled bytes after t)
    (sym (ap (λ (x : Operation). if is_stop x.opcode then refilled 0 (taken_as 0 left l) else (if is_frame x.opcode then framed bytes (taken_as 0 left l) (frame_number x) else taken_as 0 left l)) is
    ∙ nothing_framed bytes (taken_as 0 left l) (frame_number (frame_op 0)) number))
    (plain_settled bytes r after left l b e)

settles : (bytes : List ℕ) (r after : Reader) (left : ℕ) (l : Lenient) (o : Operation) → IsOf o l.op l.row → Before r bytes left l → behind o.opcode o.arg r ≡ Some after → Settled bytes after (settled true bytes (taken_as 0 left l))
settles bytes r after left l o (Itself is own) b e =
    subst (λ (x : Operation). Settled bytes after (if is_stop x.opcode then refilled 0 (taken_as 0 left l) else (if is_frame x.opcode then framed bytes (taken_as 0 left l) (frame_number x) else taken_as 0 left l))) (sym is)
    (own_settled bytes r after left l o.opcode o.arg b e)
settles bytes r after left l o (Keyed is stop frame loads) b e = keyed_settled bytes r after left l is b (stays o.opcode o.arg r after stop frame e)

-- what an opcode does to the buffer leaves its row
same_framed : (b c : Bool) (t : Taken) (n m : ℕ) → ((if b then t else (if c then refilled n t else refilled m t)).op ≡ t.op) × ((if b then t else (if c then refilled n t else refilled m t)).row ≡ t.row)
same_framed true c t n m = (refl, refl)
same_framed false true t n m = (refl, refl)
same_framed false false t n m = (refl, refl)

pub same_settled : (b c : Bool) (bytes : List ℕ) (t : Taken) → ((if b then refilled 0 t else (if c then framed bytes t (frame_number t.op) else t)).op ≡ t.op) × ((if b then refilled 0 t else (if c then framed bytes t (frame_number t.op) else t)).row ≡ t.row)
same_settled true c bytes t = (refl, refl)
same_settled false true bytes t = same_framed (nat_le (frame_number t.op) t.left) (nat_le (frame_number t.op) (length bytes - (t.size + t.left))) t (frame_number t.op) (length bytes - (t.size + t.left))
same_settled false false bytes t = (refl, refl)

of_item : (o : Operation) (t item : Taken) → item.op ≡ t.op → item.row ≡ t.row → IsOf o t.op t.row → IsOf o item.op item.row
of_item o t item e f of = subst (λ (r : Row). IsOf o item.op r) (sym f) (subst (λ (x : Operation). IsOf o x t.row) (sym e) of)

-- ---- with a buffer

-- it is taken, from this much of a buffer
buffer_reads : (r mid after : Reader) (o : Operation) (left : ℕ) (l : Lenient) → taken frames.Buffered (frame_left r.frame) (all_left r) ≡ Ok (settled true (all_left r) (taken_as 0 left l))
    → IsOf o l.op l.row → Before mid (all_left r) left l → behind o.opcode o.arg mid ≡ Some after → IsTaken frames.Buffered r o after
buffer_reads r mid after o left l is of b e =
    let t : Taken = taken_as 0 left l in
    let s = settles (all_left r) mid after left l o of b e in
    let same = same_settled (is_stop t.op.opcode) (is_frame t.op.opcode) (all_left r) t in
    Reads (settled true (all_left r) t) is (of_item o t (settled true (all_left r) t) same.0 same.1 of) (s.rest, s.left)

buffered_by : (left : ℕ) (bytes : List ℕ) (b : Bool) → ends_in (front_of (take left bytes)) ≡ b
    → taken frames.Buffered left bytes ≡ (if b then within true bytes (length (take left bytes)) (lenient (take left bytes)) else across true bytes (length (take left bytes) - first_read (take left bytes)) (lenient (joined left bytes)))
unfolding taken
buffered_by left bytes b e = ap (λ (c : Bool). if c then within true bytes (length (take left bytes)) (lenient (take left bytes)) else across true bytes (length (take left bytes) - first_read (take left bytes)) (lenient (joined left bytes))) e

-- all of what is in the buffer was read, and it goes on behind it
across_by : (left : ℕ) (bytes some : List ℕ) → take left bytes ≡ some → ends_in (front_of some) ≡ false → first_read some ≡ length some → taken frames.Buffered left bytes ≡ across true bytes 0 (lenient bytes)
across_by left bytes some is ends all =
    let no_gap : length some - first_read some ≡ 0 = omega (arith, all) in
    let whole : take (first_read some) some ≡ some = take_all (first_read some) some (omega (arith, all)) in
    buffered_by left bytes false (ap (λ (l : List ℕ). ends_in (front_of l)) is ∙ ends)
    ∙ ap (λ (l : List ℕ). across true bytes (length l - first_read l) (lenient (take (first_read l) l ++ drop left bytes))) is
    ∙ ap (λ (n : ℕ). across true bytes n (lenient (take (first_read some) some ++ drop left bytes))) no_gap
    ∙ ap (λ (l : List ℕ). across true bytes 0 (lenient (l ++ drop left bytes))) (whole ∙ sym is)
    ∙ ap (λ (l : List ℕ). across true bytes 0 (lenient l)) (take-append-drop left bytes)

-- of a file, or behind what was read of a frame
across_covered : (r mid after : Reader) (o : Operation) (rest : List ℕ) → taken frames.Buffered (frame_left r.frame) (all_left r) ≡ across true (all_left r) 0 (lenient (all_left r)) → IsCovered (all_left r) o rest
    → frame_left mid.frame ≡ 0 → all_left mid ≡ rest → all_left after ≡ rest → behind o.opcode o.arg mid ≡ Some after → IsTaken frames.Buffered r o after
across_covered r mid after o rest is (Takes l takes of size more) none left all e =
    buffer_reads r mid after o 0 l (is ∙ ap (across true (all_left r) 0) takes) of (record { kept = none; rest = left ∙ sym more; within = size }) e
across_covered r mid after o rest is (Ends ends more runs silent) none left all e = Last (all ∙ more) silent
across_covered r mid after o rest is (Fails fails) none left all e = Never fails

-- no frame, or one at its end
file_taken : (r after : Reader) (o : Operation) → frame_bytes r.frame ≡ [] → fetch (opened r.file) ≡ Fetch o after → IsTaken frames.Buffered r o after
file_taken r after o none e =
    let left : frame_left r.frame ≡ 0 = no_bytes r.frame none in
    let all : all_left r ≡ r.file = ap (λ (l : List ℕ). l ++ r.file) none in
    let p = plainly r.file o after e in
    across_covered r (opened p.rest) after o p.rest
    (across_by (frame_left r.frame) (all_left r) [] (ap (λ (n : ℕ). take n (all_left r)) left ∙ take_zero (all_left r)) refl refl)
    (subst (λ (l : List ℕ). IsCovered l o p.rest) (sym all) p.covered) refl refl (file_behind o.opcode o.arg p.rest after p.moved) p.moved
  where
    no_bytes : (frame : Option (List ℕ)) → frame_bytes frame ≡ [] → frame_left frame ≡ 0
    no_bytes None f = refl
    no_bytes (Some bytes) f = ap length f

    take_zero : (xs : List ℕ) → take 0 xs ≡ []
    take_zero [] = refl
    take_zero (x ∷ xs) = refl

-- a frame in which it ends
within_covered : (c : Opcode) (rest file : List ℕ) (n : ℕ) (o : Operation) (after : Reader) → arg_size (form_of c) rest ≡ Some n → IsCovered (code_of c ∷ rest) o (drop n rest)
    → behind o.opcode o.arg (record { frame = Some (drop n rest); file = file }) ≡ Some after → IsTaken frames.Buffered (record { frame = Some (code_of c ∷ rest); file = file }) o after
within_covered c rest file n o after size (Takes l takes of within_size more) e =
    let some : List ℕ = code_of c ∷ rest in
    let front : take (length some) (some ++ file) ≡ some = take-append_seam some file in
    let left : length some - l.size ≡ length (drop n rest) = sym (length-drop l.size some) ∙ ap length more in
    buffer_reads (record { frame = Some some; file = file }) (record { frame = Some (drop n rest); file = file }) after o (length some - l.size) l
    (buffered_by (length some) (some ++ file) true (ap (λ (x : List ℕ). ends_in (front_of x)) front ∙ ap ends_in (whole_front c rest n size))
    ∙ ap (λ (x : List ℕ). within true (some ++ file) (length x) (lenient x)) front
    ∙ ap (within true (some ++ file) (length some)) takes)
    of (record {
      kept = sym left;
      rest = ap (λ (x : List ℕ). x ++ file) (sym more) ∙ sym (drop-append-le l.size some file within_size);
      within = omega (arith, within_size, length-append some file);
    }) e
within_covered c rest file n o after size (Ends ends more runs silent) e =
    let two : false ≡ true = sym ends ∙ ap ends_in (whole_front c rest n size) in absurd cc
within_covered c rest file n o after size (Fails fails) e = Never fails

-- a frame that it leaves
first_all : (c : Opcode) (rest : List ℕ) → form_read (form_of c) rest ≡ length rest → first_read (code_of c ∷ rest) ≡ length (code_of c ∷ rest)
first_all c rest e =
    let sum : 1 + length rest ≡ suc (length rest) = omega arith in
    ap (code_read rest) (opcode_of-code c) ∙ ap (λ (n : ℕ). 1 + n) (by_test (is_filled c && nat_le (length_bytes (form_of c)) (length rest))) ∙ sum
  where
    by_test : (b : Bool) → (if b then length rest else form_read (form_of c) rest) ≡ length rest
    by_test true = refl
    by_test false = e

not_stop : (c : Opcode) (rest : List ℕ) → arg_size (form_of c) rest ≡ None → is_stop c ≡ false
not_stop op.Stop rest none = absurd (some_size (nat_le 0 (length rest)) 0 (le-leb 0 (length rest) (omega arith)) none)
not_stop _ rest none = refl

outside : (mid : Reader) → mid.frame ≡ None → mid ≡ opened mid.file
outside mid e = ap (λ (x : Option (List ℕ)). record { frame = x; file = mid.file }) e

across_taken : (c : Opcode) (rest file : List ℕ) (o : Operation) (after : Reader) → fetch (record { frame = Some (code_of c ∷ rest); file = file }) ≡ Fetch o after → arg_size (form_of c) rest ≡ None
    → IsRead c (read_arg (form_of c) (record { frame = Some rest; file = file })) o after → IsTaken frames.Buffered (record { frame = Some (code_of c ∷ rest); file = file }) o after
across_taken c rest file o after fetches none it =
    let some : List ℕ = code_of c ∷ rest in
    let r : Reader = record { frame = Some some; file = file } in
    let crossed = crosses (form_of c) rest file it.piece none it.is in
    let mid : Reader = it.piece.after in
    let moved : behind o.opcode o.arg mid ≡ Some after = subst (λ (x : Operation). behind x.opcode x.arg mid ≡ Some after) it.same it.moved in
    let run : is_stop o.opcode ≡ false = ap (λ (x : Operation). is_stop x.opcode) (sym it.same) ∙ not_stop c rest none in
    let flat = frames_only_end r after o fetches in
    let p = plainly (some ++ file) o flat.0 flat.1 in
    let left : all_left after ≡ p.rest = sym (flat.2 run) ∙ file_behind o.opcode o.arg p.rest flat.0 p.moved in
    let here : all_left mid ≡ mid.file = ap all_left (outside mid crossed.1) in
    let there : all_left after ≡ mid.file = file_behind o.opcode o.arg mid.file after (ap (behind o.opcode o.arg) (sym (outside mid crossed.1)) ∙ moved) in
    across_covered r mid after o p.rest
    (across_by (length some) (some ++ file) some (take-append_seam some file) (cut_ends c rest none) (first_all c rest crossed.0))
    p.covered (ap frame_left crossed.1) (here ∙ sym there ∙ left) left moved

frame_taken : (code : ℕ) (rest file : List ℕ) (o : Operation) (after : Reader) → fetch (record { frame = Some (code ∷ rest); file = file }) ≡ Fetch o after → IsTaken frames.Buffered (record { frame = Some (code ∷ rest); file = file }) o after
frame_taken code rest file o after e = by_code (opcode_of code) refl
  where
    fetched_code : fetch (record { frame = Some (code ∷ rest); file = file }) ≡ with_code (opcode_of code) (record { frame = Some rest; file = file })
    fetched_code = ap with_key (reads (InFrame file) 1 (code ∷ []) rest refl)

    by_size : (c : Opcode) (x : Option ℕ) → code_of c ≡ code → opcode_of code ≡ Some c → arg_size (form_of c) rest ≡ x → IsTaken frames.Buffered (record { frame = Some (code ∷ rest); file = file }) o after
    by_size c (Some n) coded is size =
        let w = at_whole (InFrame file) c rest n o after size (ap (λ (y : Option Opcode). with_code y (record { frame = Some rest; file = file })) (sym is) ∙ sym fetched_code ∙ e) in
        subst (λ (b : ℕ). IsTaken frames.Buffered (record { frame = Some (b ∷ rest); file = file }) o after) coded (within_covered c rest file n o after size w.covered w.moved)
    by_size c None coded is size =
        let it = is_read c (read_arg (form_of c) (record { frame = Some rest; file = file })) o after (ap (λ (y : Option Opcode). with_code y (record { frame = Some rest; file = file })) (sym is) ∙ sym fetched_code ∙ e) in
        subst (λ (b : ℕ). IsTaken frames.Buffered (record { frame = Some (b ∷ rest); file = file }) o after) coded
        (across_taken c rest file o after (ap (λ (b : ℕ). fetch (record { frame = Some (b ∷ rest); file = file })) coded ∙ e) size it)

    by_code : (x : Option Opcode) → opcode_of code ≡ x → IsTaken frames.Buffered (record { frame = Some (code ∷ rest); file = file }) o after
    by_code None is = let no : with_code None (record { frame = Some rest; file = file }) ≡ Fetch o after = ap (λ (y : Option Opcode). with_code y (record { frame = Some rest; file = file })) (sym is) ∙ sym fetched_code ∙ e in absurd cc
    by_code (Some c) is = by_size c (arg_size (form_of c) rest) (code-opcode_of code c is) is refl

buffer_taken : (frame : Option (List ℕ)) (file : List ℕ) (o : Operation) (after : Reader) → fetch (record { frame = frame; file = file }) ≡ Fetch o after → IsTaken frames.Buffered (record { frame = frame; file = file }) o after
buffer_taken None file o after e = file_taken (opened file) after o refl e
buffer_taken (Some []) file o after e = file_taken (record { frame = Some []; file = file }) after o refl e
buffer_taken (Some (code ∷ rest)) file o after e = frame_taken code rest file o after e

-- ---- with frames ignored

plain_taken : (r after more : Reader) (o : Operation) (rest : List ℕ) → IsCovered (all_left r) o rest → all_left more ≡ rest → (is_stop o.opcode ≡ false → all_left more ≡ all_left after) → IsTaken frames.Ignored r o after
unfolding taken
plain_taken r after more o rest (Takes l takes of size next) left stop =
    Reads (taken_as 0 0 l) (ap plain takes) of (λ runs. none_more l (all_left r) ∙ next ∙ sym left ∙ stop runs)
plain_taken r after more o rest (Ends ends next runs silent) left stop = Last (sym (stop runs) ∙ left ∙ next) silent
plain_taken r after more o rest (Fails fails) left stop = Never fails

ignored_taken : (r after : Reader) (o : Operation) → fetch r ≡ Fetch o after → IsTaken frames.Ignored r o after
ignored_taken r after o e =
    let flat = frames_only_end r after o e in
    let p = plainly (all_left r) o flat.0 flat.1 in
    plain_taken r after flat.0 o p.rest p.covered (file_behind o.opcode o.arg p.rest flat.0 p.moved) flat.2

pub are_taken : (f : Frames) (r : Reader) (o : Operation) (after : Reader) → (f ≡ frames.Held → ⊥) → fetch r ≡ Fetch o after → IsTaken f r o after
are_taken frames.Ignored r o after not_held e = ignored_taken r after o e
are_taken frames.Buffered r o after not_held e = buffer_taken r.frame r.file o after e
are_taken frames.Held r o after not_held e = absurd (not_held refl)
