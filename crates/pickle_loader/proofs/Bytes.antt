-- What the unpickler does with bytes is what it does with the items of their document.
use Rattle.std.proofs.Common.{◌≡◌, ◌⊎◌, ℕ, zero, suc, ◌+◌, ◌-◌, ◌^◌, ◌<◌, ◌≤◌, Bool, true, false, List, [], ◌∷◌, ◌++◌, length, drop, Option, Some, None, refl, sym, ap, subst, ◌∙◌, inl, inr, arith}
use Rattle.std.specs.Prelude.{slice_get, ◌==◌, ◌||◌, ◌&&◌, not, if◌then◌else◌, IsSome}
use Rattle.std.proofs.lemmas.Bool.{cases_lt}
use Rattle.std.proofs.lemmas.Option.{slice_get_within}
use Rattle.std.proofs.lemmas.List.{append-nil, append_assoc}
use Rattle.pickle_ops.specs.declared.opcode.Opcode.{Opcode}
use Rattle.pickle_ops.specs.declared.opcode.Opcode.TheVariants as op
use Rattle.pickle_ops.specs.Spelling.{Operation}
use Rattle.pickle_doc.specs.declared.item.Item.{Item}
use Rattle.pickle_doc.specs.declared.fault.Finish.{Finish}
use Rattle.pickle_doc.specs.declared.fault.Finish.TheVariants as finish
use Rattle.pickle_doc.specs.declared.fault.TailFault.{TailFault}
use Rattle.pickle_doc.specs.DocUnit.{is_stop, operations}
use Rattle.pickle_doc.specs.Tail.{fault_in_tail}
use Rattle.pickle_doc.specs.Document.{Contents, ReadsAs, IsFormed, IsTail, items_of, document_bytes, open_of, stops, ends_with_stop, is_stopped, finish_by, finish_of}
use Rattle.pickle_doc.specs.Place.{ops_of, item_at}
use Rattle.pickle_doc.proofs.Ends.{stopped_last, stops_are}
use Rattle.pickle_machine.specs.declared.refusal.Refusal.{Refusal}
use Rattle.pickle_machine.specs.State.{State, start}
use Rattle.pickle_machine.specs.Run.{run}
use Rattle.pickle_text.specs.Reached.{reached}
use Rattle.pickle_text.specs.Closing.{refused_on, closing_status}
use Rattle.pickle_calls.specs.Calls.{first_inside, closing_of, closing_to, end_to, end_from, calls_end}
use Rattle.pickle_text.proofs.Places.{is_reached}
use Rattle.pickle_loader.specs.Environment.{Value, Act, Unpickler, World}
use Rattle.pickle_loader.specs.Unpickler.{Step, Ran, Stopped, Raised}
use Rattle.pickle_loader.specs.Dispatch.{Loaded, Going, Ended, Failed, loaded, acts_of, load_op, dispatch, load_item, load}
use Rattle.pickle_loader.specs.Reader.{Fetched, NoFetch, fetch, frame_left, Fetches, opened, StopsEndFrames}
use Rattle.pickle_loader.specs.Listed.{listed_of, listed_at, listed}
use Rattle.pickle_loader.specs.Laws.{Follows, Holds}
use Rattle.pickle_loader.specs.Bytes.{Loading, goes_on, load_fetched, load_next, load_bytes, BytesAreListed, NothingElse}
use Rattle.pickle_loader.proofs.Still.{move_to}
use Rattle.pickle_loader.proofs.Listing.{loads_are_listed, next_load, never_stop, ran_by}
use Rattle.pickle_loader.proofs.Lines.{zero_end, not_refused, all_reached}
use Rattle.pickle_loader.proofs.Stops.{stops_end_frames}
use Rattle.pickle_loader.proofs.Prefixes.{FetchesFor, fetched_for, none_earlier, none_listed}
use Rattle.pickle_loader.proofs.Fetching.{ops_are_fetched}

-- ---- along the bytes

-- what is loaded is that of the items, and where more is read, the rest of the items is
record Along (w : World) (many : Bool) (most : ℕ) (ops : List Operation) (n : ℕ) (x : Loading) : Type 0 where
  same : x.now ≡ load w many ops n
  ahead : goes_on many x.now ≡ true → Fetches most x.reader (drop n ops)

-- where nothing more is read an item changes nothing
still_by : (w : World) (many : Bool) (o : Operation) (l : Loaded) → goes_on many l ≡ false → load_item w many (Some o) l ≡ l
still_by w many o (Going u) e = absurd cc
still_by w true o (Ended v u) e = absurd cc
still_by w false o (Ended v u) e = refl
still_by w many o (Failed acts) e = refl

pub drop_next : (ops : List Operation) (n : ℕ) (o : Operation) → slice_get ops n ≡ Some o → drop n ops ≡ o ∷ drop (suc n) ops
drop_next [] n o e = absurd cc
drop_next (p ∷ ops) zero o e = let same : p ≡ o = cc in ap (λ (x : Operation). x ∷ ops) same
drop_next (p ∷ ops) (suc n) o e = drop_next ops n o e

get_at : (ops : List Operation) (n : ℕ) → n < length ops → (o : Operation) × (slice_get ops n ≡ Some o)
get_at [] n h = absurd (omega (arith, h))
get_at (p ∷ ops) zero h = (p, refl)
get_at (p ∷ ops) (suc n) h = get_at ops n (omega (arith, h))

along_next : (w : World) (many : Bool) (most : ℕ) (ops : List Operation) (n : ℕ) (o : Operation) (x : Loading) (b : Bool) → goes_on many x.now ≡ b → slice_get ops n ≡ Some o → Along w many most ops n x
    → Along w many most ops (suc n) (if b then load_fetched w many x (fetch x.reader) else x)
along_next w many most ops n o x true is there a =
    let more : Fetches most x.reader (o ∷ drop (suc n) ops) = subst (λ (l : List Operation). Fetches most x.reader l) (drop_next ops n o there) (a.ahead is) in
    subst (λ (f : Fetched). Along w many most ops (suc n) (load_fetched w many x f)) (sym more.1)
    (record { same = ap (load_item w many (Some o)) a.same ∙ sym (next_load w many ops n o there); ahead = λ _. more.2 })
along_next w many most ops n o x false is there a =
    let stays : load_item w many (Some o) x.now ≡ x.now = still_by w many o x.now is in
    record { same = sym stays ∙ ap (load_item w many (Some o)) a.same ∙ sym (next_load w many ops n o there); ahead = λ e. absurd cc }

along : (w : World) (many : Bool) (most : ℕ) (bytes : List ℕ) (ops : List Operation) → Fetches most (opened bytes) ops → (n : ℕ) → n ≤ length ops → Along w many most ops n (load_bytes w many bytes n)
unfolding load_bytes load
along w many most bytes ops f zero h = record { same = refl; ahead = λ _. f }
along w many most bytes ops f (suc n) h =
    let o = get_at ops n (omega (arith, h)) in
    let x : Loading = load_bytes w many bytes n in
    along_next w many most ops n o.0 x (goes_on many x.now) refl o.1 (along w many most bytes ops f n (omega (arith, h)))

-- the same of the first opcodes alone: k more of them are read
record AlongFor (w : World) (many : Bool) (ops : List Operation) (n k : ℕ) (x : Loading) : Type 0 where
  same : x.now ≡ load w many ops n
  ahead : goes_on many x.now ≡ true → FetchesFor k x.reader (drop n ops)

along_for_next : (w : World) (many : Bool) (ops : List Operation) (n k : ℕ) (o : Operation) (x : Loading) (b : Bool) → goes_on many x.now ≡ b → slice_get ops n ≡ Some o → AlongFor w many ops n (suc k) x
    → AlongFor w many ops (suc n) k (if b then load_fetched w many x (fetch x.reader) else x)
along_for_next w many ops n k o x true is there a =
    let more : FetchesFor (suc k) x.reader (o ∷ drop (suc n) ops) = subst (λ (l : List Operation). FetchesFor (suc k) x.reader l) (drop_next ops n o there) (a.ahead is) in
    subst (λ (f : Fetched). AlongFor w many ops (suc n) k (load_fetched w many x f)) (sym more.1)
    (record { same = ap (load_item w many (Some o)) a.same ∙ sym (next_load w many ops n o there); ahead = λ _. more.2 })
along_for_next w many ops n k o x false is there a =
    let stays : load_item w many (Some o) x.now ≡ x.now = still_by w many o x.now is in
    record { same = sym stays ∙ ap (load_item w many (Some o)) a.same ∙ sym (next_load w many ops n o there); ahead = λ e. absurd cc }

drop_first : (ops : List Operation) → ops ≡ drop 0 ops
drop_first [] = refl
drop_first (o ∷ ops) = refl

along_for : (w : World) (many : Bool) (bytes : List ℕ) (ops : List Operation) (n k : ℕ) → FetchesFor (n + k) (opened bytes) ops → n ≤ length ops → AlongFor w many ops n k (load_bytes w many bytes n)
unfolding load_bytes load
along_for w many bytes ops zero k f h =
    let none : 0 + k ≡ k = omega arith in
    record { same = refl; ahead = λ _. subst (λ (l : List Operation). FetchesFor k (opened bytes) l) (drop_first ops) (subst (λ (m : ℕ). FetchesFor m (opened bytes) ops) none f) }
along_for w many bytes ops (suc n) k f h =
    let o = get_at ops n (omega (arith, h)) in
    let x : Loading = load_bytes w many bytes n in
    let sum : suc n + k ≡ n + suc k = omega arith in
    along_for_next w many ops n k o.0 x (goes_on many x.now) refl o.1 (along_for w many bytes ops n (suc k) (subst (λ (m : ℕ). FetchesFor m (opened bytes) ops) sum f) (omega (arith, h)))

-- ---- bytes

-- bytes that read as a document, of which no STOP is inside an unfinished frame
record IsRead (many : Bool) (bytes : List ℕ) (d : Contents) : Type 0 where
  reads : ReadsAs many bytes d
  small : length bytes < 2 ^ 64
  stops : (many ≡ false) ⊎ StopsEndFrames d.units

pub run_within : (from : State) (ops : List Operation) (n : ℕ) (s : State) → run from ops n ≡ Some s → n ≤ length ops
run_within from ops zero s e = omega arith
run_within from ops (suc n) s e = let m = move_to from ops n s e in omega (arith, slice_get_within ops n m.item m.there)

-- the parts of what is read, in the document's mode
fetches_all : (many : Bool) (bytes : List ℕ) (d : Contents) → IsRead many bytes d → Fetches (length d.tail) (opened bytes) (ops_of d)
fetches_all many bytes d r =
    let small : length (document_bytes d) < 2 ^ 64 = subst (λ (l : List ℕ). length l < 2 ^ 64) (sym r.reads.whole) r.small in
    subst (λ (l : List ℕ). Fetches (length d.tail) (opened l) (ops_of d)) r.reads.whole
    (ops_are_fetched d r.reads.document.formed r.reads.framing small (elim r.stops [
      | inl one ↦ inl (r.reads.mode ∙ one)
      | inr ends ↦ inr ends
    ]))

same_load : (w : World) (many : Bool) (bytes : List ℕ) (d : Contents) (n : ℕ) → ReadsAs many bytes d → length bytes < 2 ^ 64 → n ≤ length (ops_of d) → n ≤ (calls_end d).place → (load_bytes w many bytes n).now ≡ load w many (ops_of d) n
unfolding load_bytes load
same_load w many bytes d zero reads small within reached = refl
same_load w many bytes d (suc m) reads small within reached =
    let less : length (document_bytes d) < 2 ^ 64 = subst (λ (l : List ℕ). length l < 2 ^ 64) (sym reads.whole) small in
    let all : suc m + 0 ≡ suc m = omega arith in
    let first : FetchesFor (suc m + 0) (opened bytes) (ops_of d) =
    subst (λ (k : ℕ). FetchesFor k (opened bytes) (ops_of d)) (sym all)
    (subst (λ (l : List ℕ). FetchesFor (suc m) (opened l) (ops_of d)) reads.whole (fetched_for d m reads.document.formed reads.framing less (none_listed d m reached))) in
    (along_for w many bytes (ops_of d) (suc m) 0 first within).same

pub bytes_are_listed : BytesAreListed
bytes_are_listed w many bytes d reads small =
    let law = loads_are_listed w d reads.document.formed in
    let follows : (n : ℕ) (s : State) → run (start many) (ops_of d) n ≡ Some s → Follows w law.0 (listed law.0 many (ops_of d) n) s (load w many (ops_of d) n) =
    subst (λ (b : Bool). (n : ℕ) (s : State) → run (start b) (ops_of d) n ≡ Some s → Follows w law.0 (listed law.0 b (ops_of d) n) s (load w b (ops_of d) n)) reads.mode law.1 in (
      law.0,
      λ n s e h. subst (λ (l : Loaded). Follows w law.0 (listed law.0 many (ops_of d) n) s l)
          (sym (same_load w many bytes d n reads small (run_within (start many) (ops_of d) n s e) h)) (follows n s e),
    )

-- ---- nothing else

-- what is listed is a beginning of what is listed later
pub listed_more : (V : ℕ → Value) (many : Bool) (ops : List Operation) (n m : ℕ) → m ≤ n → (rest : List Act) × (listed V many ops n ≡ listed V many ops m ++ rest)
unfolding listed
listed_more V many ops zero m h = let none : 0 ≡ m = omega (arith, h) in ([], ap (listed V many ops) none ∙ sym (append-nil (listed V many ops m)))
listed_more V many ops (suc n) m h = elim (cases_lt m (suc n)) [
  | inl less ↦
      let before = listed_more V many ops n m (omega (arith, less)) in
      (before.0 ++ listed_at V many ops n, ap (λ (l : List Act). l ++ listed_at V many ops n) before.1 ∙ append_assoc (listed V many ops m) before.0 (listed_at V many ops n))
  | inr far ↦ let same : suc n ≡ m = omega (arith, h, far) in ([], ap (listed V many ops) same ∙ sym (append-nil (listed V many ops m)))
]

front_of : (w : World) (V : ℕ → Value) (acts : List Act) (s : State) (l : Loaded) → Follows w V acts s l → (rest : List Act) × (listed_of (acts_of l) ++ rest ≡ acts)
front_of w V acts s (Going u) f = ([], append-nil (listed_of u.acts) ∙ f.1)
front_of w V acts s (Ended v u) f = ([], append-nil (listed_of u.acts) ∙ f.1)
front_of w V acts s (Failed done) f = f

holds_of : (w : World) (V : ℕ → Value) (acts : List Act) (s : State) (l : Loaded) → Follows w V acts s l → Holds w V s l
holds_of w V acts s (Going u) f = f.0
holds_of w V acts s (Ended v u) f = f.0
holds_of w V acts s (Failed done) f = tt

pub run_before : (from : State) (ops : List Operation) (n m : ℕ) (t : State) → run from ops n ≡ Some t → m ≤ n → (s : State) × (run from ops m ≡ Some s)
run_before from ops zero m t e h = let none : 0 ≡ m = omega (arith, h) in (t, ap (run from ops) (sym none) ∙ e)
run_before from ops (suc n) m t e h = elim (cases_lt m (suc n)) [
  | inl less ↦ let x = move_to from ops n t e in run_before from ops n m x.before x.reached (omega (arith, less))
  | inr far ↦ let same : suc n ≡ m = omega (arith, h, far) in (t, ap (run from ops) (sym same) ∙ e)
]

-- where no byte is left nothing is read
empty_fetch : (f : Option (List ℕ)) (file : List ℕ) → frame_left f + length file ≤ 0 → fetch (record { frame = f; file = file }) ≡ NoFetch
empty_fetch None [] h = refl
empty_fetch None (b ∷ file) h = absurd (omega (arith, h))
empty_fetch (Some []) [] h = refl
empty_fetch (Some []) (b ∷ file) h = absurd (omega (arith, h))
empty_fetch (Some (b ∷ frame)) file h = absurd (omega (arith, h))

-- nothing more is done
next_over : (w : World) (many : Bool) (x : Loading) → goes_on many x.now ≡ false → load_next w many x ≡ x
next_over w many x e = ap (λ (b : Bool). if b then load_fetched w many x (fetch x.reader) else x) e

next_last : (w : World) (many : Bool) (x : Loading) → goes_on many x.now ≡ true → fetch x.reader ≡ NoFetch → load_next w many x ≡ record x { now = Failed (acts_of x.now) }
next_last w many x e f = ap (λ (b : Bool). if b then load_fetched w many x (fetch x.reader) else x) e ∙ ap (load_fetched w many x) f

-- from an unpickler that reads nothing more, or cannot, no act follows
stays_over : (w : World) (many : Bool) (bytes : List ℕ) (n j : ℕ) → goes_on many (load_bytes w many bytes n).now ≡ false → load_bytes w many bytes (n + j) ≡ load_bytes w many bytes n
unfolding load_bytes
stays_over w many bytes n zero e = let same : n + 0 ≡ n = omega arith in ap (load_bytes w many bytes) same
stays_over w many bytes n (suc j) e =
    let before : load_bytes w many bytes (n + j) ≡ load_bytes w many bytes n = stays_over w many bytes n j e in
    let next : n + suc j ≡ suc (n + j) = omega arith in
    ap (load_bytes w many bytes) next ∙ ap (load_next w many) before ∙ next_over w many (load_bytes w many bytes n) e

Acts : World → Bool → List ℕ → ℕ → List Act
Acts w many bytes n = acts_of (load_bytes w many bytes n).now

over_by : (w : World) (many : Bool) (bytes : List ℕ) (n j : ℕ) (b : Bool) → goes_on many (load_bytes w many bytes n).now ≡ b → (b ≡ true → fetch (load_bytes w many bytes n).reader ≡ NoFetch)
    → Acts w many bytes (n + j) ≡ Acts w many bytes n
unfolding load_bytes Acts
over_by w many bytes n j false is h = ap (λ (x : Loading). acts_of x.now) (stays_over w many bytes n j is)
over_by w many bytes n zero true is h = let same : n + 0 ≡ n = omega arith in ap (λ (m : ℕ). acts_of (load_bytes w many bytes m).now) same
over_by w many bytes n (suc j) true is h =
    let last : load_bytes w many bytes (suc n) ≡ record (load_bytes w many bytes n) { now = Failed (acts_of (load_bytes w many bytes n).now) } = next_last w many (load_bytes w many bytes n) is (h refl) in
    let ended : goes_on many (load_bytes w many bytes (suc n)).now ≡ false = ap (λ (x : Loading). goes_on many x.now) last in
    let next : n + suc j ≡ suc n + j = omega arith in
    ap (λ (m : ℕ). acts_of (load_bytes w many bytes m).now) next
    ∙ ap (λ (x : Loading). acts_of x.now) (stays_over w many bytes (suc n) j ended)
    ∙ ap (λ (x : Loading). acts_of x.now) last

-- ---- at the end of a document that stops

pub status_finish : (d : Contents) (f : Finish) → closing_status (closing_of d f) ≡ 0 → f ≡ finish.Stopped
status_finish d finish.Stopped e = refl
status_finish d (finish.Fault f) e = absurd cc

whole_tail : (d : Contents) (b c : Bool) (f : Option TailFault) → d.many ≡ true → finish_by b f ≡ finish.Stopped → IsSome f → b ≡ (c && (not d.many || length d.tail == 0)) → (length d.tail == 0) ≡ true
whole_tail d true true f one e some is = sym (is ∙ ap (λ (m : Bool). not m || length d.tail == 0) one)
whole_tail d true false f one e some is = absurd cc
whole_tail d false c None one e some is = let wrong : false ≡ true = some in cc
whole_tail d false c (Some f) one e some is = absurd cc

pub no_tail : (d : Contents) → IsFormed d → d.many ≡ true → finish_of d ≡ finish.Stopped → length d.tail ≡ 0
no_tail d formed one e =
    let ends : stops d.many (items_of d) ≡ false = stops_are d.many (items_of d) ∙ ap (λ (m : Bool). ends_with_stop (items_of d) && not m) one ∙ nothing (ends_with_stop (items_of d)) in
    let some : IsSome (fault_in_tail d.loose (open_of d.units) d.tail) = subst (λ (b : Bool). IsTail d.loose b (open_of d.units) d.tail) ends formed.tail in
    is_none (length d.tail) (whole_tail d (is_stopped d) (ends_with_stop (items_of d)) (fault_in_tail d.loose (open_of d.units) d.tail) one e some refl)
  where
    nothing : (b : Bool) → (b && not true) ≡ false
    nothing true = refl
    nothing false = refl

    is_none : (n : ℕ) → (n == 0) ≡ true → n ≡ 0
    is_none n e = grind arith

-- the last item of a document that stops is STOP
pub last_stop : (items : List Item) → ends_with_stop items ≡ true → (n : ℕ) × (o : Operation) × (length (operations items) ≡ suc n) × (slice_get (operations items) n ≡ Some o) × (is_stop o.opcode ≡ true)
last_stop [] e = absurd cc
last_stop (i ∷ []) e = (0, i.op, refl, refl, e)
last_stop (i ∷ j ∷ items) e = let more = last_stop (j ∷ items) e in (suc more.0, more.1, ap suc more.2, more.3, more.4)

is_stop_op : (o : Opcode) → is_stop o ≡ true → o ≡ op.Stop
is_stop_op op.Stop e = refl
is_stop_op _ e = absurd cc

-- after STOP one load is over
stop_over : (w : World) (o : Operation) (u : Unpickler) (x : Step) → is_stop o.opcode ≡ true → load_op w o u ≡ x → goes_on false (loaded x) ≡ false
stop_over w o u (Ran q) stop e = absurd (never_stop w o.opcode o.arg u q (is_stop_op o.opcode stop) (ran_by (w.fails u o) u.acts (dispatch w o.opcode o.arg u) q e))
stop_over w o u (Stopped v q) stop e = refl
stop_over w o u (Raised acts) stop e = refl

item_over : (w : World) (o : Operation) (l : Loaded) → is_stop o.opcode ≡ true → goes_on false (load_item w false (Some o) l) ≡ false
item_over w o (Going u) stop = stop_over w o u (load_op w o u) stop refl
item_over w o (Ended v u) stop = refl
item_over w o (Failed acts) stop = refl

one_over : (w : World) (d : Contents) → ends_with_stop (items_of d) ≡ true → goes_on false (load w false (ops_of d) (length (ops_of d))) ≡ false
one_over w d e =
    let last = last_stop (items_of d) e in
    ap (λ (n : ℕ). goes_on false (load w false (ops_of d) n)) last.2
    ∙ ap (goes_on false) (next_load w false (ops_of d) last.0 last.1 last.3)
    ∙ item_over w last.1 (load w false (ops_of d) last.0) last.4

pub drop_all : (ops : List Operation) → drop (length ops) ops ≡ []
drop_all [] = refl
drop_all (o ∷ ops) = drop_all ops

-- after all items nothing is done any more
all_over : (w : World) (many : Bool) (bytes : List ℕ) (d : Contents) (j : ℕ) → IsRead many bytes d → finish_of d ≡ finish.Stopped → Acts w many bytes (length (ops_of d) + j) ≡ Acts w many bytes (length (ops_of d))
all_over w true bytes d j r stopped =
    let a = along w true (length d.tail) bytes (ops_of d) (fetches_all true bytes d r) (length (ops_of d)) (omega arith) in
    let none : length d.tail ≡ 0 = no_tail d r.reads.document.formed r.reads.mode stopped in
    over_by w true bytes (length (ops_of d)) j (goes_on true (load_bytes w true bytes (length (ops_of d))).now) refl
    (λ e.
    let rest : Fetches (length d.tail) (load_bytes w true bytes (length (ops_of d))).reader [] = subst (λ (l : List Operation). Fetches (length d.tail) (load_bytes w true bytes (length (ops_of d))).reader l) (drop_all (ops_of d)) (a.ahead e) in
    empty_fetch (load_bytes w true bytes (length (ops_of d))).reader.frame (load_bytes w true bytes (length (ops_of d))).reader.file (omega (arith, rest, none)))
all_over w false bytes d j r stopped =
    let a = along w false (length d.tail) bytes (ops_of d) (fetches_all false bytes d r) (length (ops_of d)) (omega arith) in
    let over : goes_on false (load_bytes w false bytes (length (ops_of d))).now ≡ false = ap (goes_on false) a.same ∙ one_over w d (stopped_last d r.reads.document.formed stopped) in
    over_by w false bytes (length (ops_of d)) j false over (λ e. absurd cc)

-- status 0
pub closing_none : (d : Contents) (k : ℕ) (r : Option Refusal) → r ≡ None → closing_status (closing_to d k r) ≡ 0 → closing_status (closing_of d (finish_of d)) ≡ 0
closing_none d k r none e = ap (λ (x : Option Refusal). closing_status (closing_to d k x)) (sym none) ∙ e

pub joined : (done rest more acts all : List Act) → done ++ rest ≡ acts → all ≡ acts ++ more → done ++ (rest ++ more) ≡ all
joined done rest more acts all e f = sym (append_assoc done rest more) ∙ ap (λ (l : List Act). l ++ more) e ∙ sym f

-- bytes of which no STOP leaves a frame unfinished
read_through : (many : Bool) (bytes : List ℕ) (d : Contents) → ReadsAs many bytes d → length bytes < 2 ^ 64 → (b : Bool) → many ≡ b → first_inside d (length (ops_of d)) ≡ None → IsRead many bytes d
read_through many bytes d reads small false e whole = record { reads = reads; small = small; stops = inl e }
read_through many bytes d reads small true e whole =
    let less : length (document_bytes d) < 2 ^ 64 = subst (λ (l : List ℕ). length l < 2 ^ 64) (sym reads.whole) small in
    record { reads = reads; small = small; stops = inr (stops_end_frames d reads.document.formed reads.framing less (reads.mode ∙ e) whole) }

reached_within : (d : Contents) → reached (start d.many) (ops_of d) (length (ops_of d)) ≤ length (ops_of d)
reached_within d = let far = is_reached (start d.many) (ops_of d) (length (ops_of d)) in far.within

-- where no STOP leaves a frame unfinished the lines end where the items do
none_inside : (d : Contents) (k : ℕ) (s : State) → reached (start d.many) (ops_of d) (length (ops_of d)) ≡ k → run (start d.many) (ops_of d) k ≡ Some s → first_inside d (length (ops_of d)) ≡ None → (calls_end d).place ≡ k
unfolding calls_end
none_inside d k s e here none =
    let first : first_inside d k ≡ None = none_earlier d (length (ops_of d)) k none (subst (λ (n : ℕ). n ≤ length (ops_of d)) e (reached_within d)) in
    ap (λ (n : ℕ). (end_from d n (first_inside d n)).place) e
    ∙ ap (λ (x : Option ℕ). (end_from d k x).place) first
    ∙ ap (λ (x : Option State). (end_to d k x).place) here

pub nothing_else : NothingElse
unfolding Acts
nothing_else how w many bytes d reads small status =
    let formed = reads.document.formed in
    let far = is_reached (start d.many) (ops_of d) (length (ops_of d)) in
    let k : ℕ = reached (start d.many) (ops_of d) (length (ops_of d)) in
    let ended = zero_end how d k far.state refl far.is status in
    let zero_status : closing_status (closing_to d k (refused_on (item_at d k) far.state)) ≡ 0 = ended.1 in
    let none : refused_on (item_at d k) far.state ≡ None = not_refused d k (refused_on (item_at d k) far.state) zero_status in
    let all : k ≡ length (ops_of d) = all_reached d k far.state (item_at d k) refl far.is none far.most far.within in
    let whole : first_inside d (length (ops_of d)) ≡ None = ap (first_inside d) (sym all) ∙ ended.0 in
    let r : IsRead many bytes d = read_through many bytes d reads small many refl whole in
    let law = bytes_are_listed w many bytes d reads small in
    let place : (calls_end d).place ≡ length (ops_of d) = none_inside d k far.state refl far.is whole ∙ all in
    let stopped : finish_of d ≡ finish.Stopped = status_finish d (finish_of d) (closing_none d k (refused_on (item_at d k) far.state) none zero_status) in
    let last : run (start many) (ops_of d) (length (ops_of d)) ≡ Some far.state = subst (λ (b : Bool). run (start b) (ops_of d) (length (ops_of d)) ≡ Some far.state) r.reads.mode (ap (run (start d.many) (ops_of d)) (sym all) ∙ far.is) in (
      law.0,
      record {
        acts = λ n. elim (cases_lt n (length (ops_of d))) [
          | inl less ↦
              let before = run_before (start many) (ops_of d) (length (ops_of d)) n far.state last (omega (arith, less)) in
              let front = front_of w law.0 _ before.0 (load_bytes w many bytes n).now (law.1 n before.0 before.1 (omega (arith, less, place))) in
              let more = listed_more law.0 many (ops_of d) (length (ops_of d)) n (omega (arith, less)) in
              let done : List Act = listed_of (acts_of (load_bytes w many bytes n).now) in
              (front.0 ++ more.0, joined done front.0 more.0 (listed law.0 many (ops_of d) n) (listed law.0 many (ops_of d) (length (ops_of d))) front.1 more.1)
          | inr far_off ↦
              let front = front_of w law.0 _ far.state (load_bytes w many bytes (length (ops_of d))).now (law.1 (length (ops_of d)) far.state last (omega (arith, place))) in
              let place : n ≡ length (ops_of d) + (n - length (ops_of d)) = omega (arith, far_off) in
              let same : acts_of (load_bytes w many bytes n).now ≡ acts_of (load_bytes w many bytes (length (ops_of d))).now =
              ap (λ (m : ℕ). acts_of (load_bytes w many bytes m).now) place ∙ all_over w many bytes d (n - length (ops_of d)) r stopped in
              (front.0, ap (λ (l : List Act). listed_of l ++ front.0) same ∙ front.1)
        ];
        values = λ n s e.
            holds_of w law.0 (listed law.0 many (ops_of d) n) s (load_bytes w many bytes n).now (law.1 n s e (omega (arith, place, run_within (start many) (ops_of d) n s e)));
      },
    )
