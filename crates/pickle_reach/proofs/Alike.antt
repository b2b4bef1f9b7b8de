-- Operations that are read alike whatever is done with frames.
use Rattle.std.proofs.Common.{◌≡◌, ℕ, zero, suc, ◌+◌, ◌-◌, ◌≤◌, Bool, true, false, List, [], ◌∷◌, ◌++◌, length, take, drop, Option, Some, None, Ok, Err, refl, sym, ap, subst, ◌∙◌, inl, inr, arith, append_assoc, length-append}
use Rattle.std.specs.Prelude.{◌⊎◌, ◌==◌, ◌&&◌, ◌||◌, ◌≢◌, if◌then◌else◌, nat_le, MatchOption}
use Rattle.std.specs.Option.{is_none}
use Rattle.std.proofs.lemmas.Bool.{leb-true, eqb-true, or_cases}
use Rattle.std.proofs.lemmas.List.{length-take-le, length-drop}
use Rattle.pickle_ops.specs.Row.{row_of}
use Rattle.pickle_ops.specs.Spelling.{Operation, spelling, size_of, Front, Unknown, Whole, front_fault, Reads}
use Rattle.pickle_ops.specs.Front.{front_at, front_of}
use Rattle.pickle_ops.specs.Table.{code_of, opcode_of}
use Rattle.pickle_ops.specs.declared.opcode.Opcode.{Opcode}
use Rattle.pickle_ops.specs.declared.fault.FrontFault.{FrontFault}
use Rattle.pickle_ops.specs.declared.fault.FrontFault.TheVariants as fault
use Rattle.pickle_ops.proofs.Fronts.{one_front, spellings_are_read_again}
use Rattle.pickle_ops.proofs.TableLemmas.{opcode_of-code, code-opcode_of}
use Rattle.pickle_doc.specs.DocUnit.{is_frame, is_stop, frame_number}
use Rattle.pickle_lenient.specs.declared.taken.Frames.{Frames}
use Rattle.pickle_lenient.specs.declared.taken.Frames.TheVariants as frames
use Rattle.pickle_lenient.specs.declared.taken.Taken.{Taken}
use Rattle.pickle_lenient.specs.Lenient.{Lenient, lenient_at, lenient}
use Rattle.pickle_lenient.specs.Stream.{ends_in, first_read, refilled, framed, settled, taken_as, plain, within, across, joined, buffered, taken}
use Rattle.pickle_reach.specs.declared.granted.Granted.{Granted}
use Rattle.pickle_reach.specs.declared.spot.Spot.{Spot}
use Rattle.pickle_reach.specs.declared.spot.Step.{Step}
use Rattle.pickle_reach.specs.declared.spot.Step.TheVariants as step
use Rattle.pickle_reach.specs.Item.{reaches, ends, names}
use Rattle.pickle_reach.specs.Reach.{step_by, step_of, step_at}
use Rattle.pickle_reach.specs.Inside.{IsWithin, GoesOn, is_whole, is_plain, is_unknown}
use Rattle.pickle_reach.proofs.Steps.{step_shown, PlainStep}

-- ---- opcodes by their codes

pub code_is : (code : ℕ) (r : Option Opcode) → MatchOption r ((o : Opcode) → code_of o ≢ code) (λ o. code_of o ≡ code) → r ≡ opcode_of code
code_is code None none = go (opcode_of code) refl
  where
    go : (r : Option Opcode) → opcode_of code ≡ r → None ≡ r
    go None e = refl
    go (Some o) e = absurd (none o (code-opcode_of code o e))
code_is code (Some o) e = rw (← e) (sym (opcode_of-code o))

-- ---- an operation at the front

front_is : (bytes : List ℕ) (o : Operation) (n : ℕ) (r : Reads bytes o n) → front_of bytes ≡ Whole o.opcode o.arg r.front.0
front_is bytes o n r = (one_front bytes).1 (Whole o.opcode o.arg r.front.0) (r.front.1, r.spelled.arg)

no_fault : (bytes : List ℕ) (o : Operation) (n : ℕ) → Reads bytes o n → front_fault (front_of bytes) ≡ None
no_fault bytes o n r = ap front_fault (front_is bytes o n r) ∙ r.spelled.value

read_so : (bytes : List ℕ) (o : Operation) (n : ℕ) → Reads bytes o n → lenient bytes ≡ Ok (record { op = o; row = row_of o; size = size_of o })
unfolding lenient
read_so bytes o n r = rw (no_fault bytes o n r, front_is bytes o n r) refl

op_ends : (bytes : List ℕ) (o : Operation) (n : ℕ) → Reads bytes o n → true ≡ ends_in (front_of bytes)
op_ends bytes o n r = rw (front_is bytes o n r) refl

-- ---- what is taken

-- an operation without a gap in front of it
abbrev item : Operation → ℕ → Taken
item o left = record { op = o; row = row_of o; size = size_of o; left = left; lost = false }

abbrev front : Operation → Lenient
front o = record { op = o; row = row_of o; size = size_of o }

plus_none : (o : Operation) (left : ℕ) → taken_as 0 left (front o) ≡ item o left
plus_none o left =
    let same : size_of o + 0 ≡ size_of o = omega arith in
    ap (λ (n : ℕ). record { op = o; row = row_of o; size = n; left = left; lost = false }) same

lost_none : (o : Operation) (left : ℕ) → left ≡ 0 → refilled 0 (item o left) ≡ item o left
lost_none o left e =
    let same : size_of o + 0 ≡ size_of o = omega arith in
    rw e (ap (λ (n : ℕ). record { op = o; row = row_of o; size = n; left = 0; lost = false }) same)

settled_same : (b : Bool) (bytes : List ℕ) (o : Operation) (left : ℕ) → (b ≡ true → left ≡ 0) → is_frame o.opcode ≡ false
    → (if b then refilled 0 (item o left) else if is_frame o.opcode then framed bytes (item o left) (frame_number o) else item o left) ≡ item o left
settled_same true bytes o left stop frame = lost_none o left (stop refl)
settled_same false bytes o left stop frame = ap (λ (x : Bool). if x then framed bytes (item o left) (frame_number o) else item o left) frame

stop_both : (ends : Bool) (o : Operation) (left : ℕ) → (is_stop o.opcode ≡ true → left ≡ 0) → (ends && is_stop o.opcode) ≡ true → left ≡ 0
stop_both true o left stop e = stop e
stop_both false o left stop e = absurd cc

settled_plain : (ends : Bool) (bytes : List ℕ) (o : Operation) (left : ℕ) → is_frame o.opcode ≡ false → (is_stop o.opcode ≡ true → left ≡ 0) → settled ends bytes (item o left) ≡ item o left
settled_plain ends bytes o left frame stop = settled_same (ends && is_stop o.opcode) bytes o left (stop_both ends o left stop) frame

-- ---- of a buffer

take_long : (a b : List ℕ) (n : ℕ) → length a ≤ n → take n (a ++ b) ≡ a ++ take (n - length a) b
take_long [] b n less = let same : n ≡ n - 0 = omega arith in ap (λ (m : ℕ). take m b) same
take_long (x ∷ a) b zero less = absurd (omega (arith, less))
take_long (x ∷ a) b (suc n) less =
    let same : n - length a ≡ suc n - suc (length a) = omega arith in
    ap (λ (l : List ℕ). x ∷ l) (take_long a b n (omega (arith, less))) ∙ ap (λ (m : ℕ). x ∷ (a ++ take m b)) same

drop_none : (xs : List ℕ) → drop 0 xs ≡ xs
drop_none [] = refl
drop_none (x ∷ xs) = refl

-- an operation at the front of bytes is at the front of as many of them as spell it, or more
reads_first : (bytes : List ℕ) (o : Operation) (left : ℕ) → Reads bytes o (size_of o) → size_of o ≤ left → Reads (take left bytes) o (size_of o)
reads_first bytes o left r less =
    let cut : take left bytes ≡ spelling o ++ take (left - length (spelling o)) r.front.0 = ap (take left) r.front.1 ∙ take_long (spelling o) r.front.0 left (omega (arith, less)) in
    subst (λ (b : List ℕ). Reads b o (size_of o)) (sym cut) (spellings_are_read_again o (take (left - length (spelling o)) r.front.0) r.spelled).0

-- nothing is in the buffer
none_buffered : (ends : Bool) (bytes : List ℕ) → buffered ends 0 bytes ≡ across ends bytes 0 (lenient bytes)
none_buffered ends bytes = ap (λ (b : List ℕ). across ends bytes 0 (lenient b)) (drop_none bytes)

plain_none : (ends : Bool) (bytes : List ℕ) (o : Operation) → Reads bytes o (size_of o) → is_frame o.opcode ≡ false → buffered ends 0 bytes ≡ Ok (item o 0)
plain_none ends bytes o r frame =
    none_buffered ends bytes ∙ ap (across ends bytes 0) (read_so bytes o (size_of o) r)
    ∙ ap (λ (t : Taken). Ok (settled ends bytes t)) (plus_none o 0) ∙ ap (λ (t : Taken). Ok t) (settled_plain ends bytes o 0 frame (λ e. refl))

-- all of it is
plain_within : (ends : Bool) (bytes : List ℕ) (o : Operation) (left : ℕ) → Reads bytes o (size_of o) → left ≤ length bytes → size_of o ≤ left → is_frame o.opcode ≡ false
    → (is_stop o.opcode ≡ true → left - size_of o ≡ 0) → buffered ends left bytes ≡ Ok (item o (left - size_of o))
plain_within ends bytes o left r few less frame stop =
    let x = reads_first bytes o left r less in
    let size : length (take left bytes) ≡ left = length-take-le left bytes few in
    ap (λ (b : Bool). if b then within ends bytes (length (take left bytes)) (lenient (take left bytes))
    else across ends bytes (length (take left bytes) - first_read (take left bytes)) (lenient (joined left bytes))) (sym (op_ends (take left bytes) o (size_of o) x))
    ∙ ap (within ends bytes (length (take left bytes))) (read_so (take left bytes) o (size_of o) x)
    ∙ ap (λ (n : ℕ). Ok (settled ends bytes (taken_as 0 (n - size_of o) (front o)))) size
    ∙ ap (λ (t : Taken). Ok (settled ends bytes t)) (plus_none o (left - size_of o)) ∙ ap (λ (t : Taken). Ok t) (settled_plain ends bytes o (left - size_of o) frame stop)

-- ---- by the test

plain_parts : (a b w l : Bool) → (if a then false else if b then w && l else w) ≡ true → (a ≡ false) × (w ≡ true) × (b ≡ true → l ≡ true)
plain_parts true b w l e = let two : false ≡ true = e in absurd cc
plain_parts false true true true e = (refl, refl, λ h. refl)
plain_parts false true true false e = let two : false ≡ true = e in absurd cc
plain_parts false true false l e = let two : false ≡ true = e in absurd cc
plain_parts false false true l e = (refl, refl, λ h. absurd cc)
plain_parts false false false l e = let two : false ≡ true = e in absurd cc

record Is (left : ℕ) (o : Operation) : Type 0 where
  pub frame : is_frame o.opcode ≡ false
  pub whole : (left ≡ 0) ⊎ (size_of o ≤ left)
  pub stop : is_stop o.opcode ≡ true → left - size_of o ≡ 0

is_by : (left : ℕ) (o : Operation) → is_plain left o ≡ true → Is left o
is_by left o e =
    let p = plain_parts (is_frame o.opcode) (is_stop o.opcode) (is_whole left (size_of o)) (nat_le left (size_of o)) e in
    record {
      frame = p.0;
      whole = either (or_cases _ _ p.1);
      stop = λ s. let few : left ≤ size_of o = leb-true left (size_of o) (p.2 s) in omega (arith, few);
    }
  where
    either : ((left == 0) ≡ true) ⊎ (nat_le (size_of o) left ≡ true) → (left ≡ 0) ⊎ (size_of o ≤ left)
    either (inl z) = inl (eqb-true left 0 z)
    either (inr l) = inr (leb-true (size_of o) left l)

plain_buffered : (ends : Bool) (bytes : List ℕ) (o : Operation) (left : ℕ) → Reads bytes o (size_of o) → left ≤ length bytes → Is left o → buffered ends left bytes ≡ Ok (item o (left - size_of o))
plain_buffered ends bytes o left r few is = go is.whole
  where
    go : (left ≡ 0) ⊎ (size_of o ≤ left) → buffered ends left bytes ≡ Ok (item o (left - size_of o))
    go (inl none) =
        let nothing : 0 ≡ left - size_of o = omega (arith, none) in
        ap (λ (n : ℕ). buffered ends n bytes) none ∙ plain_none ends bytes o r is.frame ∙ ap (λ (n : ℕ). Ok (item o n)) nothing
    go (inr less) = plain_within ends bytes o left r few less is.frame is.stop

-- ---- a step

by_item : (g : Granted) (bytes : List ℕ) (f : Frames) (s : Spot) (o : Operation) (left : ℕ) → taken f s.left (drop s.offset bytes) ≡ Ok (item o left) → step_at g bytes f s ≡ step_of g s o (size_of o) left
unfolding step_at
by_item g bytes f s o left e = ap (step_by g s) e

held : (left : ℕ) (bytes : List ℕ) → taken frames.Held left bytes ≡ buffered false left bytes
unfolding taken
held left bytes = refl

lossy : (left : ℕ) (bytes : List ℕ) → taken frames.Buffered left bytes ≡ buffered true left bytes
unfolding taken
lossy left bytes = refl

ignored : (left : ℕ) (bytes : List ℕ) → taken frames.Ignored left bytes ≡ plain (lenient bytes)
unfolding taken
ignored left bytes = refl

shown_of : (g : Granted) (s : Spot) (o : Operation) (size left : ℕ) → step_of g s o size 0 ≡ step_shown (step_of g s o size left)
shown_of g s o size left = by (reaches g s.named o) (ends o)
  where
    by : (a b : Bool) → (if a then step.Reaches else if b then step.Ends else step.Goes (record { offset = s.offset + size; left = 0; named = s.named || names o }))
        ≡ step_shown (if a then step.Reaches else if b then step.Ends else step.Goes (record { offset = s.offset + size; left = left; named = s.named || names o }))
    by true b = refl
    by false true = refl
    by false false = refl

left_behind : (bytes : List ℕ) (offset left : ℕ) → offset + left ≤ length bytes → left ≤ length (drop offset bytes)
left_behind bytes offset left within = let size = length-drop offset bytes in omega (arith, size, within)

-- by each way
record Ways (g : Granted) (bytes : List ℕ) (s : Spot) (x : Step) : Type 0 where
  pub held : step_at g bytes frames.Held s ≡ x
  pub buffered : step_at g bytes frames.Buffered s ≡ x
  pub ignored : step_at g bytes frames.Ignored s ≡ step_shown x

plain_ways : (g : Granted) (bytes : List ℕ) (s : Spot) (o : Operation) → IsWithin bytes s → Reads (drop s.offset bytes) o (size_of o) → is_plain s.left o ≡ true → Ways g bytes s (step_of g s o (size_of o) (s.left - size_of o))
plain_ways g bytes s o w r e =
    let rest = drop s.offset bytes in
    let is = is_by s.left o e in
    let few = left_behind bytes s.offset s.left w in
    record {
      held = by_item g bytes frames.Held s o (s.left - size_of o) (held s.left rest ∙ plain_buffered false rest o s.left r few is);
      buffered = by_item g bytes frames.Buffered s o (s.left - size_of o) (lossy s.left rest ∙ plain_buffered true rest o s.left r few is);
      ignored = by_item g bytes frames.Ignored s o 0 (ignored s.left rest ∙ ap plain (read_so rest o (size_of o) r) ∙ ap (λ (t : Taken). Ok t) (plus_none o 0))
          ∙ shown_of g s o (size_of o) (s.left - size_of o);
    }

-- ---- whatever follows

drop_more : (n : ℕ) (bytes more : List ℕ) → n ≤ length bytes → drop n (bytes ++ more) ≡ drop n bytes ++ more
drop_more zero bytes more less = drop_none (bytes ++ more) ∙ ap (λ (b : List ℕ). b ++ more) (sym (drop_none bytes))
drop_more (suc n) [] more less = absurd (omega (arith, less))
drop_more (suc n) (x ∷ bytes) more less = drop_more n bytes more (omega (arith, less))

reads_more : (bytes more : List ℕ) (o : Operation) (n : ℕ) → Reads bytes o n → Reads (bytes ++ more) o n
reads_more bytes more o n r = record {
  size = r.size;
  spelled = r.spelled;
  front = (r.front.0 ++ more, ap (λ (b : List ℕ). b ++ more) r.front.1 ∙ append_assoc (spelling o) r.front.0 more);
}

within_more : (bytes more : List ℕ) (s : Spot) → IsWithin bytes s → IsWithin (bytes ++ more) s
within_more bytes more s w = omega (arith, w, length-append bytes more)

same_ways : (g : Granted) (bytes more : List ℕ) (s : Spot) (x : Step) → Ways g bytes s x → Ways g more s x → (f : Frames) → step_at g more f s ≡ step_at g bytes f s
same_ways g bytes more s x a b frames.Held = b.held ∙ sym a.held
same_ways g bytes more s x a b frames.Buffered = b.buffered ∙ sym a.buffered
same_ways g bytes more s x a b frames.Ignored = b.ignored ∙ sym a.ignored

pub plain_step : (g : Granted) (bytes : List ℕ) (s : Spot) (o : Operation) → IsWithin bytes s → Reads (drop s.offset bytes) o (size_of o) → is_plain s.left o ≡ true
    → PlainStep g bytes s (step_of g s o (size_of o) (s.left - size_of o))
plain_step g bytes s o w r e =
    let ways = plain_ways g bytes s o w r e in
    record { held = ways.held; buffered = ways.buffered; ignored = ways.ignored; settled = λ more f. same_ways g bytes (bytes ++ more) s _ ways (later more) f }
  where
    front : (more : List ℕ) → Reads (drop s.offset (bytes ++ more)) o (size_of o)
    front more = subst (λ (b : List ℕ). Reads b o (size_of o)) (sym (drop_more s.offset bytes more (omega (arith, w)))) (reads_more (drop s.offset bytes) more o (size_of o) r)

    later : (more : List ℕ) → Ways g (bytes ++ more) s (step_of g s o (size_of o) (s.left - size_of o))
    later more = plain_ways g (bytes ++ more) s o (within_more bytes more s w) (front more) e

-- ---- a byte that is no code

unknown_front : (code : ℕ) (rest : List ℕ) → opcode_of code ≡ None → front_of (code ∷ rest) ≡ Unknown code
unknown_front code rest none = ap (front_at code rest) none

unknown_lenient : (code : ℕ) (rest : List ℕ) → opcode_of code ≡ None → lenient (code ∷ rest) ≡ Err (fault.UnknownOpcode code)
unfolding lenient
unknown_lenient code rest none = ap (λ (front : Front). lenient_at (code ∷ rest) front (front_fault front)) (unknown_front code rest none)

unknown_buffered : (ends : Bool) (left code : ℕ) (rest : List ℕ) → opcode_of code ≡ None → buffered ends left (code ∷ rest) ≡ Err (fault.UnknownOpcode code)
unknown_buffered ends zero code rest none = none_buffered ends (code ∷ rest) ∙ ap (across ends (code ∷ rest) 0) (unknown_lenient code rest none)
unknown_buffered ends (suc left) code rest none =
    ap (λ (front : Front). if ends_in front then within ends (code ∷ rest) (length (code ∷ take left rest)) (lenient (code ∷ take left rest))
    else across ends (code ∷ rest) (length (code ∷ take left rest) - first_read (code ∷ take left rest)) (lenient (joined (suc left) (code ∷ rest)))) (unknown_front code (take left rest) none)
    ∙ ap (within ends (code ∷ rest) (length (code ∷ take left rest))) (unknown_lenient code (take left rest) none)

by_fault : (g : Granted) (bytes : List ℕ) (f : Frames) (s : Spot) (e : FrontFault) → taken f s.left (drop s.offset bytes) ≡ Err e → step_at g bytes f s ≡ step.Ends
unfolding step_at
by_fault g bytes f s e is = ap (step_by g s) is

ended_ways : (g : Granted) (bytes : List ℕ) (s : Spot) (code : ℕ) (rest : List ℕ) → drop s.offset bytes ≡ code ∷ rest → opcode_of code ≡ None → Ways g bytes s step.Ends
ended_ways g bytes s code rest is none = record {
  held = by_fault g bytes frames.Held s (fault.UnknownOpcode code) (ap (taken frames.Held s.left) is ∙ held s.left (code ∷ rest) ∙ unknown_buffered false s.left code rest none);
  buffered = by_fault g bytes frames.Buffered s (fault.UnknownOpcode code) (ap (taken frames.Buffered s.left) is ∙ lossy s.left (code ∷ rest) ∙ unknown_buffered true s.left code rest none);
  ignored = by_fault g bytes frames.Ignored s (fault.UnknownOpcode code) (ap (taken frames.Ignored s.left) is ∙ ignored s.left (code ∷ rest) ∙ ap plain (unknown_lenient code rest none));
}

ended_at : (g : Granted) (bytes : List ℕ) (s : Spot) (code : ℕ) (rest : List ℕ) → IsWithin bytes s → drop s.offset bytes ≡ code ∷ rest → opcode_of code ≡ None → PlainStep g bytes s step.Ends
ended_at g bytes s code rest w is none =
    let ways = ended_ways g bytes s code rest is none in
    record { held = ways.held; buffered = ways.buffered; ignored = ways.ignored; settled = λ more f. same_ways g bytes (bytes ++ more) s step.Ends ways (later more) f }
  where
    later : (more : List ℕ) → Ways g (bytes ++ more) s step.Ends
    later more = ended_ways g (bytes ++ more) s code (rest ++ more) (drop_more s.offset bytes more (omega (arith, w)) ∙ ap (λ (b : List ℕ). b ++ more) is) none

pub unknown_step : (g : Granted) (bytes : List ℕ) (s : Spot) → IsWithin bytes s → is_unknown (drop s.offset bytes) ≡ true → PlainStep g bytes s step.Ends
unknown_step g bytes s w e = go (drop s.offset bytes) refl e
  where
    none_is : (o : Option Opcode) → is_none o ≡ true → o ≡ None
    none_is None h = refl
    none_is (Some x) h = absurd cc

    go : (rest : List ℕ) → drop s.offset bytes ≡ rest → is_unknown rest ≡ true → PlainStep g bytes s step.Ends
    go [] is h = absurd cc
    go (code ∷ rest) is h = ended_at g bytes s code rest w is (none_is (opcode_of code) h)

-- ---- as the functions have them

take_whole : (n : ℕ) (xs : List ℕ) → length xs ≤ n → take n xs ≡ xs
take_whole zero [] less = refl
take_whole zero (x ∷ xs) less = absurd (omega (arith, less))
take_whole (suc n) [] less = refl
take_whole (suc n) (x ∷ xs) less = ap (λ (l : List ℕ). x ∷ l) (take_whole n xs (omega (arith, less)))

pub rest_whole : (n : ℕ) (xs : List ℕ) → take (length xs - n) (drop n xs) ≡ drop n xs
rest_whole n xs = let size = length-drop n xs in take_whole (length xs - n) (drop n xs) (omega (arith, size))

on_by : (bytes : List ℕ) (s u : Spot) (a b : Bool) → GoesOn bytes s (step.Goes u) → GoesOn bytes s (if a then step.Reaches else if b then step.Ends else step.Goes u)
on_by bytes s u true b on = tt
on_by bytes s u false true on = tt
on_by bytes s u false false on = on

-- what a plain operation comes to, and that the spot behind it is within the bytes
pub plain_at : (g : Granted) (bytes : List ℕ) (s : Spot) (o : Operation) (x : Step) (size left : ℕ) → IsWithin bytes s → Reads (drop s.offset bytes) o (size_of o) → is_plain s.left o ≡ true
    → s.offset + size_of o ≤ length bytes → size ≡ size_of o → left ≡ s.left - size_of o → x ≡ step_of g s o size left → PlainStep g bytes s x × GoesOn bytes s x
plain_at g bytes s o x size left w r e fits same less is =
    let x_is : x ≡ step_of g s o (size_of o) (s.left - size_of o) = is ∙ ap (λ (n : ℕ). step_of g s o n left) same ∙ ap (λ (n : ℕ). step_of g s o (size_of o) n) less in
    let next : GoesOn bytes s (step.Goes (record { offset = s.offset + size_of o; left = s.left - size_of o; named = s.named || names o })) = (omega (arith, w, fits), omega arith) in
    rw x_is (plain_step g bytes s o w r e, on_by bytes s (record { offset = s.offset + size_of o; left = s.left - size_of o; named = s.named || names o }) (reaches g s.named o) (ends o) next)
