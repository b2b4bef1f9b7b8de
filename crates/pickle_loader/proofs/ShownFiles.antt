-- Where the lines end with status 0, the unpickler in C reads the same opcodes from every file, however many bytes that shows.
use Rattle.std.proofs.Common.{◌≡◌, ◌⊎◌, ℕ, zero, suc, ◌+◌, ◌-◌, ◌^◌, ◌<◌, ◌≤◌, Bool, true, false, List, [], ◌∷◌, ◌++◌, length, drop, Option, Some, Ok, refl, sym, ap, subst, ◌∙◌, inl, inr, arith, append_assoc}
use Rattle.std.specs.Prelude.{if◌then◌else◌, slice_get, Result}
use Rattle.std.proofs.lemmas.Bool.{cases_lt}
use Rattle.std.proofs.lemmas.List.{drop-drop}
use Rattle.byteorder.specs.Endian.{little_number}
use Rattle.pickle_ops.specs.declared.opcode.Opcode.{Opcode}
use Rattle.pickle_ops.specs.declared.opcode.Opcode.TheVariants as op
use Rattle.pickle_ops.specs.declared.fault.FrontFault.{FrontFault}
use Rattle.pickle_ops.specs.Row.{row_of}
use Rattle.pickle_ops.specs.Spelling.{Operation, spelling, size_of}
use Rattle.pickle_doc.specs.DocUnit.{is_frame, is_stop, frame_number, bytes_of}
use Rattle.pickle_doc.specs.Document.{Contents, IsFormed, ReadsAs, document_bytes, items_of, ended_by}
use Rattle.pickle_doc.specs.Fitting.{left_behind}
use Rattle.pickle_doc.specs.Place.{ops_of, item_at, offset_of}
use Rattle.pickle_lenient.specs.declared.taken.Frames.TheVariants as frames
use Rattle.pickle_lenient.specs.declared.taken.Taken.{Taken}
use Rattle.pickle_lenient.specs.Stream.{plain, taken}
use Rattle.pickle_calls.specs.Manner.{Manner}
use Rattle.pickle_calls.specs.Calls.{left_on, left_at, calls}
use Rattle.pickle_further.specs.declared.way.Pickles.{Pickles}
use Rattle.pickle_further.specs.declared.way.Pickles.TheVariants as pickles
use Rattle.pickle_further.specs.Parts.{ignoring, are_many, standing_first}
use Rattle.pickle_loader.specs.Environment.{Act, World}
use Rattle.pickle_loader.specs.Dispatch.{acts_of}
use Rattle.pickle_loader.specs.Listed.{listed_of, listed}
use Rattle.pickle_loader.specs.Laws.{Holds}
use Rattle.pickle_loader.specs.Onward.{reads_on, acts_before, begins_anew}
use Rattle.pickle_loader.specs.CUnpickler.{CUnpickler, CStep, CRaised, dispatch, seen}
use Rattle.pickle_loader.specs.CLoad.{dispatch_as, c_load_taken, CLoaded, CGoing, CEnded, CFailed, c_loaded, seen_loaded, COnward, c_again, c_load_more, c_load_read, c_load_on, c_load_way}
use Rattle.pickle_loader.specs.ShownFile.{Input, skip_consumed, input_again, behind, CFetched, CFetch, CNoFetch, fetched, with_key, fetch, CLoading, c_load_op, c_load_once, c_load_found, c_load_next, c_load_file, NothingElseInAFile, NothingElseInAFileWithOneMemo}
use Rattle.pickle_loader.proofs.Items.{none_taken}
use Rattle.pickle_loader.proofs.Readings.{rest_is, next_offset, reads_item}
use Rattle.pickle_loader.proofs.Streams.{fits_at, frame_within, next_drop, quiet_item}
use Rattle.pickle_loader.proofs.Ends.{through, rest_end}
use Rattle.pickle_loader.proofs.CLoads.{nothing_else_in_c}
use Rattle.pickle_loader.proofs.OneMemo.{nothing_else_with_one_memo_in_c}
use Rattle.pickle_loader.proofs.Inputs.{Stands, Given, Before, skipped, kept, reads_nothing, fetches, rewinds}

-- ---- an opcode of a document

-- what it does to the input: STOP of an unpickler that begins anew loses what is left of a frame
record Moves (shows : ℕ → ℕ) (p : Pickles) (c : Opcode) (arg : List ℕ) (left : ℕ) (rest : List ℕ) (i : Input) : Type 0 where
  after : Input
  is : behind shows p c arg i ≡ Some after
  there : (is_stop c ≡ true → begins_anew p ≡ true → left ≡ 0) → Before left rest after

-- a new unpickler, where nothing is left of a frame; or the same
emptied : (left : ℕ) (rest : List ℕ) (i : Input) → left ≡ 0 → Before left rest i → Stands left rest [] 0 0 (skip_consumed i).file
emptied left rest i none before =
    subst (λ (n : ℕ). Stands n rest [] 0 0 (skip_consumed i).file) (sym none) (Given (skipped rest i (subst (λ (n : ℕ). Before n rest i) none before)) refl (omega arith) refl)

again : (p : Pickles) (left : ℕ) (rest : List ℕ) (i : Input) → (begins_anew p ≡ true → left ≡ 0) → Before left rest i → Before left rest (input_again p (skip_consumed i))
again pickles.First left rest i none before = emptied left rest i (none refl) before
again pickles.All left rest i none before = emptied left rest i (none refl) before
again pickles.OneMemo left rest i none before = kept left rest i before

moves : (shows : ℕ → ℕ) (p : Pickles) (c : Opcode) (arg : List ℕ) (left : ℕ) (rest : List ℕ) (i : Input) → Before left rest i → (is_frame c ≡ true → left ≡ 0) → (is_frame c ≡ true → little_number 8 arg ≤ length rest)
    → Moves shows p c arg (if is_frame c then little_number 8 arg else left) rest i
moves shows p op.Frame arg left rest i before none within =
    let r = rewinds shows (little_number 8 arg) rest i (within refl) (subst (λ (n : ℕ). Before n rest i) (none refl) before) in
    record { after = r.0; is = r.1; there = λ stop. r.2 }
moves shows p op.Stop arg left rest i before none within =
    record { after = input_again p (skip_consumed i); is = refl; there = λ stop. again p left rest i (stop refl) before }
moves shows p _ arg left rest i before none within = record { after = i; is = refl; there = λ stop. before }

-- where an unpickler begins anew behind STOP, that leaves nothing of a frame
abbrev pub QuietAt : Pickles → Contents → ℕ → Operation → Type 0
QuietAt p d n o = is_stop o.opcode ≡ true → begins_anew p ≡ true → left_behind false (left_at d n) o ≡ 0

record Item (shows : ℕ → ℕ) (p : Pickles) (d : Contents) (n : ℕ) (o : Operation) (i : Input) : Type 0 where
  after : Input
  is : fetch shows p i ≡ CFetch o after
  there : QuietAt p d n o → Before (left_at d (suc n)) (drop (offset_of d (suc n)) (document_bytes d)) after

-- before this place
abbrev pub Quiet : Pickles → Contents → ℕ → Type 0
Quiet p d most = (n : ℕ) (o : Operation) → suc n < most → item_at d n ≡ Some o → QuietAt p d n o

-- what is behind a place
abbrev behind_place : Contents → ℕ → List ℕ
behind_place d n = bytes_of (drop n (ops_of d)) ++ d.tail

item_read : (shows : ℕ → ℕ) (p : Pickles) (d : Contents) (n : ℕ) (o : Operation) (i : Input) → IsFormed d → d.loose ≡ false → length (document_bytes d) < 2 ^ 64 → item_at d n ≡ Some o
    → Before (left_at d n) (drop (offset_of d n) (document_bytes d)) i → Item shows p d n o i
item_read shows p d n o i formed framed small here before =
    let left : ℕ = left_at d n in
    let rest : List ℕ = behind_place d (suc n) in
    let fits = fits_at d formed framed small n o here in
    let is : drop (offset_of d n) (document_bytes d) ≡ spelling o ++ rest =
    rest_is (items_of d) d.tail n ∙ ap (λ (l : List Operation). bytes_of l ++ d.tail) (next_drop (ops_of d) n o here) ∙ append_assoc (spelling o) (bytes_of (drop (suc n) (ops_of d))) d.tail in
    let f = fetches shows p o left rest i fits.0.spelled fits.0.inside (subst (λ (l : List ℕ). Before left l i) is before) in
    let within : is_frame o.opcode ≡ true → frame_number o ≤ length rest = frame_within d.many left o (drop (suc n) (ops_of d)) d.tail (ended_by d) fits in
    let none : is_frame o.opcode ≡ true → left - size_of o ≡ 0 = λ e. omega (arith, fits.0.frame e) in
    let m = moves shows p o.opcode o.arg (left - size_of o) rest f.after f.there none within in
    let next : left_behind false left o ≡ left_at d (suc n) = ap (λ (x : Option Operation). left_on x left) (sym here) in
    let place : rest ≡ drop (offset_of d (suc n)) (document_bytes d) = sym (rest_is (items_of d) d.tail (suc n)) in
    record {
      after = m.after;
      is = f.is ∙ ap (fetched o) m.is;
      there = λ quiet.
          subst (λ (l : List ℕ). Before (left_at d (suc n)) l m.after) place
          (subst (λ (k : ℕ). Before k rest m.after) next (m.there quiet));
    }

-- ---- a load of it

-- GET, PUT and FRAME come as they are
own_row : (w : World) (o : Opcode) (arg : List ℕ) (c : CUnpickler) → dispatch_as w (row_of (record { opcode = o; arg = arg })) o arg c ≡ dispatch w o arg c
own_row w op.Frame arg c = refl
own_row w _ arg c = refl

abbrev item_of : Operation → Taken
item_of o = record { op = o; row = row_of o; size = size_of o + 0; left = 0; lost = false }

load_same : (w : World) (o : Operation) (c : CUnpickler) → c_load_taken w (item_of o) c ≡ c_load_op w o c
load_same w o c = ap (λ (x : CStep). if w.fails (seen c) o then CRaised c.acts else x) (own_row w o.opcode o.arg c)

once_same : (w : World) (p : Pickles) (o : Operation) (l : CLoaded) → c_load_more w p (item_of o) l ≡ c_load_once w p o l
once_same w p o (CGoing c) = ap c_loaded (load_same w o c)
once_same w p o (CEnded v c) = ap c_loaded (load_same w o (c_again p c))
once_same w p o (CFailed acts) = refl

-- the same is loaded as from bytes; and while more is read, the input stands before the same bytes, up to a place
pub record SameLoad (w : World) (p : Pickles) (d : Contents) (most : ℕ) (x : CLoading) (y : COnward) (n : ℕ) : Type 0 where
  pub now : x.now ≡ y.now
  pub within : reads_on p (seen_loaded x.now) ≡ true → n ≤ length (ops_of d)
  pub rest : reads_on p (seen_loaded x.now) ≡ true → y.rest ≡ drop (offset_of d n) (document_bytes d)
  pub there : n < most → reads_on p (seen_loaded x.now) ≡ true → Before (left_at d n) (drop (offset_of d n) (document_bytes d)) x.input

item_taken : (d : Contents) (n left : ℕ) (o : Operation) → IsFormed d → length (document_bytes d) < 2 ^ 64 → item_at d n ≡ Some o → taken frames.Ignored left (drop (offset_of d n) (document_bytes d)) ≡ Ok (item_of o)
unfolding taken
item_taken d n left o formed small here = ap plain (reads_item d n o formed small here)

next_place : (d : Contents) (n : ℕ) (o : Operation) → item_at d n ≡ Some o → drop (size_of o + 0) (drop (offset_of d n) (document_bytes d)) ≡ drop (offset_of d (suc n)) (document_bytes d)
next_place d n o here =
    let sum : offset_of d n + (size_of o + 0) ≡ offset_of d (suc n) = omega (arith, next_offset (items_of d) n o here) in
    drop-drop (size_of o + 0) (offset_of d n) (document_bytes d) ∙ ap (λ (k : ℕ). drop k (document_bytes d)) sum

more_read : (w : World) (shows : ℕ → ℕ) (p : Pickles) (d : Contents) (most : ℕ) (x : CLoading) (y : COnward) (n : ℕ) (o : Operation) → IsFormed d → length (document_bytes d) < 2 ^ 64 → Quiet p d most → item_at d n ≡ Some o → n < length (ops_of d)
    → x.now ≡ y.now → y.rest ≡ drop (offset_of d n) (document_bytes d) → (m : Item shows p d n o x.input) → SameLoad w p d most (c_load_found w p x (fetch shows p x.input)) (c_load_read w p y (taken frames.Ignored y.left y.rest)) (suc n)
more_read w shows p d most x y n o formed small quiet here less now rest m =
    let reads : taken frames.Ignored y.left y.rest ≡ Ok (item_of o) = ap (taken frames.Ignored y.left) rest ∙ item_taken d n y.left o formed small here in
    subst (λ (f : CFetched). SameLoad w p d most (c_load_found w p x f) (c_load_read w p y (taken frames.Ignored y.left y.rest)) (suc n)) (sym m.is)
    (subst (λ (r : Result Taken FrontFault). SameLoad w p d most (c_load_found w p x (CFetch o m.after)) (c_load_read w p y r) (suc n)) (sym reads)
    (record {
      now = ap (c_load_once w p o) now ∙ sym (once_same w p o y.now);
      within = λ on. omega (arith, less);
      rest = λ on. ap (drop (size_of o + 0)) rest ∙ next_place d n o here;
      there = λ before on. m.there (quiet n o before here);
    }))

none_read : (w : World) (shows : ℕ → ℕ) (p : Pickles) (d : Contents) (most : ℕ) (x : CLoading) (y : COnward) (n left : ℕ) → x.now ≡ y.now → y.rest ≡ [] → Before left [] x.input
    → SameLoad w p d most (c_load_found w p x (fetch shows p x.input)) (c_load_read w p y (taken frames.Ignored y.left y.rest)) (suc n)
none_read w shows p d most x y n left now rest before =
    subst (λ (f : CFetched). SameLoad w p d most (c_load_found w p x f) (c_load_read w p y (taken frames.Ignored y.left y.rest)) (suc n)) (sym (ap (with_key shows p) (reads_nothing shows left x.input before)))
    (subst (λ (r : Result Taken FrontFault). SameLoad w p d most (c_load_found w p x CNoFetch) (c_load_read w p y r) (suc n)) (sym (ap (taken frames.Ignored y.left) rest ∙ none_taken frames.Ignored y.left))
    (record { now = ap (λ (l : CLoaded). CFailed (acts_of (seen_loaded l))) now; within = λ on. absurd (over p on); rest = λ on. absurd (over p on); there = λ before on. absurd (over p on) }))
  where
    over : (p : Pickles) → reads_on p (seen_loaded (CFailed (acts_of (seen_loaded x.now)))) ≡ true → ⊥
    over pickles.First e = cc
    over pickles.All e = cc
    over pickles.OneMemo e = cc

item_there : (ops : List Operation) (k : ℕ) → k < length ops → (o : Operation) × (slice_get ops k ≡ Some o)
item_there [] k less = absurd (omega (arith, less))
item_there (o ∷ ops) zero less = (o, refl)
item_there (o ∷ ops) (suc k) less = item_there ops k (omega (arith, less))

by_more : (w : World) (shows : ℕ → ℕ) (p : Pickles) (d : Contents) (most : ℕ) (x : CLoading) (y : COnward) (n : ℕ) → IsFormed d → d.loose ≡ false → length (document_bytes d) < 2 ^ 64 → Quiet p d most → (most ≤ length (ops_of d)) ⊎ (d.tail ≡ []) → n < most → SameLoad w p d most x y n → reads_on p (seen_loaded x.now) ≡ true
    → SameLoad w p d most (c_load_found w p x (fetch shows p x.input)) (c_load_read w p y (taken frames.Ignored y.left y.rest)) (suc n)
by_more w shows p d most x y n formed framed small quiet which before same on = elim (cases_lt n (length (ops_of d))) [
  | inl less ↦
      let o = item_there (ops_of d) n less in
      more_read w shows p d most x y n o.0 formed small quiet o.1 less same.now (same.rest on) (item_read shows p d n o.0 x.input formed framed small o.1 (same.there before on))
  | inr far ↦
      let last : n ≡ length (ops_of d) = omega (arith, far, same.within on) in
      let none : drop (offset_of d n) (document_bytes d) ≡ [] = rest_end d n last (tail_empty which far) in
      none_read w shows p d most x y n (left_at d n) same.now (same.rest on ∙ none) (subst (λ (l : List ℕ). Before (left_at d n) l x.input) none (same.there before on))
]
  where
    tail_empty : (most ≤ length (ops_of d)) ⊎ (d.tail ≡ []) → length (ops_of d) ≤ n → d.tail ≡ []
    tail_empty (inl within) far = absurd (omega (arith, within, far, before))
    tail_empty (inr empty) far = empty

step_by : (w : World) (shows : ℕ → ℕ) (p : Pickles) (d : Contents) (most : ℕ) (x : CLoading) (y : COnward) (n : ℕ) (b : Bool) → reads_on p (seen_loaded x.now) ≡ b → IsFormed d → d.loose ≡ false → length (document_bytes d) < 2 ^ 64 → Quiet p d most → (most ≤ length (ops_of d)) ⊎ (d.tail ≡ []) → n < most → SameLoad w p d most x y n
    → SameLoad w p d most (if b then c_load_found w p x (fetch shows p x.input) else x) (if b then c_load_read w p y (taken frames.Ignored y.left y.rest) else y) (suc n)
step_by w shows p d most x y n true on formed framed small quiet which before same = by_more w shows p d most x y n formed framed small quiet which before same on
step_by w shows p d most x y n false off formed framed small quiet which before same =
    record { now = same.now; within = λ on. absurd (no_two on); rest = λ on. absurd (no_two on); there = λ less on. absurd (no_two on) }
  where
    no_two : reads_on p (seen_loaded x.now) ≡ true → ⊥
    no_two on = let wrong : true ≡ false = sym on ∙ off in absurd cc

step_same : (w : World) (shows : ℕ → ℕ) (p : Pickles) (d : Contents) (most : ℕ) (x : CLoading) (y : COnward) (n : ℕ) → IsFormed d → d.loose ≡ false → length (document_bytes d) < 2 ^ 64 → Quiet p d most → (most ≤ length (ops_of d)) ⊎ (d.tail ≡ []) → n < most → SameLoad w p d most x y n
    → SameLoad w p d most (c_load_next w shows p x) (c_load_on w (ignoring p) y) (suc n)
step_same w shows p d most x y n formed framed small quiet which before same =
    subst (λ (l : CLoaded). SameLoad w p d most (c_load_next w shows p x) (if reads_on p (seen_loaded l) then c_load_read w p y (taken frames.Ignored y.left y.rest) else y) (suc n)) same.now
    (step_by w shows p d most x y n (reads_on p (seen_loaded x.now)) refl formed framed small quiet which before same)

-- up to a place before which no STOP leaves a frame unfinished, be it among the items or behind all of them
pub file_same : (w : World) (shows : ℕ → ℕ) (p : Pickles) (d : Contents) (most : ℕ) → IsFormed d → d.loose ≡ false → length (document_bytes d) < 2 ^ 64 → Quiet p d most → (most ≤ length (ops_of d)) ⊎ (d.tail ≡ []) → (n : ℕ) → n ≤ most
    → SameLoad w p d most (c_load_file w shows p (document_bytes d) n) (c_load_way w (ignoring p) (document_bytes d) n) n
unfolding c_load_file c_load_way
file_same w shows p d most formed framed small quiet which zero within =
    let first : document_bytes d ≡ drop (offset_of d 0) (document_bytes d) = sym (rest_is (items_of d) d.tail 0 ∙ ap (λ (l : List Operation). bytes_of l ++ d.tail) (drop_first (ops_of d))) in
    record { now = refl; within = λ on. omega arith; rest = λ on. first; there = λ before on. Given first refl (omega arith) refl }
  where
    drop_first : (ops : List Operation) → drop 0 ops ≡ ops
    drop_first [] = refl
    drop_first (o ∷ ops) = refl
file_same w shows p d most formed framed small quiet which (suc n) within =
    step_same w shows p d most (c_load_file w shows p (document_bytes d) n) (c_load_way w (ignoring p) (document_bytes d) n) n formed framed small quiet which (omega (arith, within))
    (file_same w shows p d most formed framed small quiet which n (omega (arith, within)))

-- ---- the laws

-- what is loaded of such a file is what is loaded of its bytes
pub loads_as_bytes : (how : Manner) (w : World) (shows : ℕ → ℕ) (p : Pickles) (bytes : List ℕ) (d : Contents) → ReadsAs (are_many p) bytes d → length bytes < 2 ^ 64 → (calls how d).status ≡ 0 → (n : ℕ) → (c_load_file w shows p bytes n).now ≡ (c_load_way w (ignoring p) bytes n).now
loads_as_bytes how w shows p bytes d reads small status n =
    let less : length (document_bytes d) < 2 ^ 64 = subst (λ (l : List ℕ). length l < 2 ^ 64) (sym reads.whole) small in
    let t = through how d status in
    let quiet : Quiet p d n = λ k o before here stop anew. quiet_item d reads.document.formed reads.framing less t.quiet t.tail k o here stop in
    subst (λ (l : List ℕ). (c_load_file w shows p l n).now ≡ (c_load_way w (ignoring p) l n).now) reads.whole (file_same w shows p d n reads.document.formed reads.framing less quiet (inr t.tail) n (omega arith)).now

pub nothing_else_in_a_file : NothingElseInAFile
nothing_else_in_a_file how w shows p bytes d begins reads small status =
    let same : (n : ℕ) → (c_load_file w shows p bytes n).now ≡ (c_load_way w (ignoring p) bytes n).now = λ n. loads_as_bytes how w shows p bytes d reads small status n in
    let all = nothing_else_in_c how w p bytes d begins reads small status in (
      all.0,
      record {
        acts = λ n. subst (λ (l : CLoaded). (rest : List Act) × (listed_of (acts_of (seen_loaded l)) ++ rest ≡ listed all.0 d.many (ops_of d) (length (ops_of d)))) (sym (same n)) (all.1.acts n);
        values = λ n s e. subst (λ (l : CLoaded). Holds w all.0 s (seen_loaded l)) (sym (same n)) (all.1.values n s e);
      },
    )

-- one unpickler that loads again keeps its buffer
quiet_kept : (d : Contents) (most : ℕ) → Quiet pickles.OneMemo d most
quiet_kept d most n o before here stop anew = absurd cc

pub nothing_else_in_a_file_with_one_memo : NothingElseInAFileWithOneMemo
nothing_else_in_a_file_with_one_memo how w shows bytes d o reads empty small text status =
    let p : Pickles = pickles.OneMemo in
    let less : length (document_bytes d) < 2 ^ 64 = subst (λ (l : List ℕ). length l < 2 ^ 64) (sym reads.whole) small in
    let same : (n : ℕ) → (c_load_file w shows p bytes n).now ≡ (c_load_way w (ignoring p) bytes n).now =
    λ n. subst (λ (l : List ℕ). (c_load_file w shows p l n).now ≡ (c_load_way w (ignoring p) l n).now) reads.whole (file_same w shows p d n reads.document.formed reads.framing less (quiet_kept d n) (inr empty) n (omega arith)).now in
    let all = nothing_else_with_one_memo_in_c how w frames.Ignored bytes o text status in (
      all.0,
      record {
        acts = λ n. subst (λ (l : CLoaded). (rest : List Act) × (listed_of (acts_of (seen_loaded l)) ++ rest ≡ acts_before all.0 (ignoring p) (standing_first how.detail p bytes) n)) (sym (same n)) (all.1.acts n);
        values = λ n s e. subst (λ (l : CLoaded). Holds w all.0 s (seen_loaded l)) (sym (same n)) (all.1.values n s e);
      },
    )
