-- The law of the unpickler in Python.
use Rattle.std.proofs.Common.{◌≡◌, ℕ, zero, suc, ◌+◌, ◌-◌, ◌≤◌, Bool, true, false, List, [], ◌∷◌, ◌++◌, length, map, take, Option, Some, None, refl, sym, ap, subst, ◌∙◌, inl, inr, arith, length-append}
use Rattle.std.specs.Prelude.{slice_get, nat_lt, if◌then◌else◌}
use Rattle.std.specs.Option.{option_map_or}
use Rattle.std.proofs.lemmas.Bool.{cases_lt}
use Rattle.std.proofs.lemmas.List.{append-nil, append_assoc}
use Rattle.std.proofs.lemmas.Option.{slice_get_within}
use Rattle.pickle_ops.specs.declared.kind.Kind.{Kind}
use Rattle.pickle_ops.specs.declared.kind.Kind.TheVariants as kind
use Rattle.pickle_ops.specs.Spelling.{Operation}
use Rattle.pickle_ops.specs.Object.{Object}
use Rattle.pickle_doc.specs.Document.{Contents}
use Rattle.pickle_doc.specs.Place.{ops_of}
use Rattle.pickle_machine.specs.State.{State, start}
use Rattle.pickle_machine.specs.Move.{fresh}
use Rattle.pickle_machine.specs.Run.{run}
use Rattle.pickle_ops.specs.Row.{row_of}
use Rattle.pickle_calls.specs.Event.{before_of, event_of}
use Rattle.pickle_calls.specs.declared.event.Event.{Event}
use Rattle.pickle_calls.specs.declared.event.Event.TheVariants as event
use Rattle.pickle_calls.specs.declared.naming.Detail.TheVariants as detail
use Rattle.pickle_calls.specs.Manner.{Manner}
use Rattle.pickle_calls.specs.Calls.{first_inside, end_to, end_from, calls_end, calls, calls_in}
use Rattle.pickle_calls.specs.CallsLine.{ending_status}
use Rattle.pickle_text.proofs.Places.{reached_here}
use Rattle.pickle_loader.specs.Environment.{Value, Act, Fill, World}
use Rattle.pickle_loader.specs.Dispatch.{Loaded, Going, Ended, Failed, acts_of}
use Rattle.pickle_loader.specs.Reader.{Fetched, Fetch, NoFetch, fetch}
use Rattle.pickle_loader.specs.Bytes.{Loading, goes_on, load_fetched, load_next, load_bytes}
use Rattle.pickle_loader.specs.Listed.{making, taken, objects_in, listed_of, acts_listed, listed_on, listed_at, listed, protocol_at}
use Rattle.pickle_loader.specs.Laws.{Follows, Holds}
use Rattle.pickle_loader.proofs.Images.{listed-append}
use Rattle.pickle_loader.proofs.Still.{move_to}
use Rattle.pickle_loader.proofs.Bytes.{bytes_are_listed, nothing_else, listed_more, run_before, joined}
use Rattle.pickle_loader.proofs.Ends.{IsThrough, through}
use Rattle.pickle_allow.specs.declared.list.Entry.{Entry}
use Rattle.pickle_gate.specs.Gate.{Passes}
use Rattle.gate_laws.specs.Laws.{OnlyWhatIsAllowed}
use Rattle.gate_laws.proofs.Grows.{IsMore, no_more, item_grows}
use Rattle.gate_laws.proofs.Loads.{Loads, all_permitted}

-- ---- the load of bytes

fetched_grows : (w : World) (x : Loading) (f : Fetched) → IsMore (acts_of x.now) (acts_of (load_fetched w false x f).now)
fetched_grows w x (Fetch o after) = item_grows w false o x.now
fetched_grows w x NoFetch = no_more (acts_of x.now)

next_grows : (w : World) (x : Loading) (b : Bool) → IsMore (acts_of x.now) (acts_of (if b then load_fetched w false x (fetch x.reader) else x).now)
next_grows w x true = fetched_grows w x (fetch x.reader)
next_grows w x false = no_more (acts_of x.now)

next_over : (w : World) (x : Loading) (acts : List Act) → x.now ≡ Failed acts → (load_next w false x).now ≡ Failed acts
next_over w x acts e =
    let no : goes_on false x.now ≡ false = ap (goes_on false) e in
    ap (λ (b : Bool). (if b then load_fetched w false x (fetch x.reader) else x).now) no ∙ e

Acts : World → List ℕ → ℕ → List Act
Acts w bytes n = acts_of (load_bytes w false bytes n).now

first_acts : (w : World) (bytes : List ℕ) → acts_of (load_bytes w false bytes 0).now ≡ []
unfolding load_bytes
first_acts w bytes = refl

bytes_grow : (w : World) (bytes : List ℕ) (n : ℕ) → IsMore (acts_of (load_bytes w false bytes n).now) (acts_of (load_bytes w false bytes (suc n)).now)
unfolding load_bytes
bytes_grow w bytes n = next_grows w (load_bytes w false bytes n) (goes_on false (load_bytes w false bytes n).now)

bytes_over : (w : World) (bytes : List ℕ) (n : ℕ) (acts : List Act) → (load_bytes w false bytes n).now ≡ Failed acts → (load_bytes w false bytes (suc n)).now ≡ Failed acts
unfolding load_bytes
bytes_over w bytes n acts e = next_over w (load_bytes w false bytes n) acts e

more_more : (a b c : List Act) → IsMore a b → IsMore b c → IsMore a c
more_more a b c m n = (m.0 ++ n.0, n.1 ∙ ap (λ (l : List Act). l ++ n.0) m.1 ∙ append_assoc a m.0 n.0)

bytes_grown : (w : World) (bytes : List ℕ) (n j : ℕ) → IsMore (acts_of (load_bytes w false bytes n).now) (acts_of (load_bytes w false bytes (n + j)).now)
bytes_grown w bytes n zero =
    let same : n ≡ n + 0 = omega arith in
    subst (λ (m : ℕ). IsMore (acts_of (load_bytes w false bytes n).now) (acts_of (load_bytes w false bytes m).now)) same (no_more (acts_of (load_bytes w false bytes n).now))
bytes_grown w bytes n (suc j) =
    let same : suc (n + j) ≡ n + suc j = omega arith in
    subst (λ (m : ℕ). IsMore (acts_of (load_bytes w false bytes n).now) (acts_of (load_bytes w false bytes m).now)) same
    (more_more (acts_of (load_bytes w false bytes n).now) (acts_of (load_bytes w false bytes (n + j)).now) (acts_of (load_bytes w false bytes (suc (n + j))).now) (bytes_grown w bytes n j) (bytes_grow w bytes (n + j)))

bytes_stay : (w : World) (bytes : List ℕ) (n j : ℕ) (acts : List Act) → (load_bytes w false bytes n).now ≡ Failed acts → (load_bytes w false bytes (n + j)).now ≡ Failed acts
bytes_stay w bytes n zero acts e = let same : n + 0 ≡ n = omega arith in ap (λ (m : ℕ). (load_bytes w false bytes m).now) same ∙ e
bytes_stay w bytes n (suc j) acts e =
    let same : n + suc j ≡ suc (n + j) = omega arith in
    ap (λ (m : ℕ). (load_bytes w false bytes m).now) same ∙ bytes_over w bytes (n + j) acts (bytes_stay w bytes n j acts e)

-- ---- how many acts are listed is the same under each map

making_length : (proto : ℕ) (k : Kind) (vs us : List Value) → length (making proto k vs) ≡ length (making proto k us)
making_length proto kind.StackGlobal vs us = refl
making_length proto (kind.Global names) vs us = refl
making_length proto (kind.Ext n) vs us = refl
making_length proto (kind.Inst names) vs us = refl
making_length proto kind.Call vs us = refl
making_length proto kind.New vs us = refl
making_length proto kind.NewEx vs us = refl
making_length proto kind.Obj vs us = refl
making_length proto (kind.PersistentLine line) vs us = refl
making_length proto kind.Persistent vs us = refl
making_length proto (kind.Buffer n) vs us = refl
making_length proto _ vs us = refl

event_length : (V U : ℕ → Value) (proto : ℕ) (s t : State) (x : Option Event) → length (acts_listed V proto s t x) ≡ length (acts_listed U proto s t x)
event_length V U proto s t None = refl
event_length V U proto s t (Some (event.Made id)) = go (slice_get t.heap id)
  where
    go : (y : Option Object) → length (option_map_or (λ (o : Object). making proto o.kind (map V o.parts)) y []) ≡ length (option_map_or (λ (o : Object). making proto o.kind (map U o.parts)) y [])
    go None = refl
    go (Some o) = making_length proto o.kind (map V o.parts) (map U o.parts)
event_length V U proto s t (Some (event.State value target)) = refl
event_length V U proto s t (Some (event.Filled how n target)) = go (nat_lt 0 n) (V target) (U target) (map V (take (objects_in how n) (taken s t))) (map U (take (objects_in how n) (taken s t)))
  where
    go : (b : Bool) (v u : Value) (vs us : List Value) → length (if b then Fill how v vs ∷ [] else []) ≡ length (if b then Fill how u us ∷ [] else [])
    go true v u vs us = refl
    go false v u vs us = refl

item_length : (V U : ℕ → Value) (proto : ℕ) (x : Option Operation) (y z : Option State) → length (listed_on V proto x y z) ≡ length (listed_on U proto x y z)
item_length V U proto (Some o) (Some s) (Some t) = event_length V U proto (fresh s) t (event_of (row_of o) (before_of (fresh s)) t)
item_length V U proto (Some o) (Some s) None = refl
item_length V U proto (Some o) None z = refl
item_length V U proto None y z = refl

listed_length : (V U : ℕ → Value) (many : Bool) (ops : List Operation) (n : ℕ) → length (listed V many ops n) ≡ length (listed U many ops n)
unfolding listed listed_at
listed_length V U many ops zero = refl
listed_length V U many ops (suc n) =
    let before : length (listed V many ops n) ≡ length (listed U many ops n) = listed_length V U many ops n in
    let here : length (listed_at V many ops n) ≡ length (listed_at U many ops n) = item_length V U (protocol_at ops n) (slice_get ops n) (run (start many) ops n) (run (start many) ops (suc n)) in
    omega (arith, before, here, length-append (listed V many ops n) (listed_at V many ops n), length-append (listed U many ops n) (listed_at U many ops n))

-- ---- where it ends

pub plain : Manner
plain = record { detail = detail.Cut; holes = [] }

pub status_zero : (d : Contents) → ending_status (calls_end d).ending ≡ 0 → (calls plain d).status ≡ 0
unfolding calls_in
status_zero d e = e

pub place_is : (d : Contents) (t : IsThrough d) → (calls_end d).place ≡ length (ops_of d)
unfolding calls_end
place_is d t =
    ap (λ (k : ℕ). (end_from d k (first_inside d k)).place) (reached_here (start d.many) (ops_of d) (length (ops_of d)) t.last t.runs)
    ∙ ap (λ (x : Option ℕ). (end_from d (length (ops_of d)) x).place) t.quiet
    ∙ ap (λ (y : Option State). (end_to d (length (ops_of d)) y).place) t.runs

run_within : (from : State) (ops : List Operation) (n : ℕ) (s : State) → run from ops n ≡ Some s → n ≤ length ops
run_within from ops zero s e = omega arith
run_within from ops (suc n) s e = let m = move_to from ops n s e in omega (arith, slice_get_within ops n m.item m.there)

-- ---- what is listed

front_of : (w : World) (V : ℕ → Value) (acts : List Act) (s : State) (l : Loaded) → Follows w V acts s l → (rest : List Act) × (listed_of (acts_of l) ++ rest ≡ acts)
front_of w V acts s (Going u) f = ([], append-nil (listed_of u.acts) ∙ f.1)
front_of w V acts s (Ended v u) f = ([], append-nil (listed_of u.acts) ∙ f.1)
front_of w V acts s (Failed done) f = f

holds_of : (w : World) (V : ℕ → Value) (acts : List Act) (s : State) (l : Loaded) → Follows w V acts s l → Holds w V s l
holds_of w V acts s (Going u) f = f.0
holds_of w V acts s (Ended v u) f = f.0
holds_of w V acts s (Failed done) f = tt

no_length : (xs : List Act) → length xs ≡ 0 → xs ≡ []
no_length [] e = refl
no_length (x ∷ xs) e = absurd (omega (arith, e))

-- behind all items nothing more is listed: either it failed, or all were
behind_all : (w : World) (V : ℕ → Value) (s : State) (lines : List Act) (l m : Loaded) → Follows w V lines s l → ((acts : List Act) → l ≡ Failed acts → m ≡ Failed acts) → IsMore (acts_of l) (acts_of m)
    → length (listed_of (acts_of m)) ≤ length lines → (rest : List Act) × (listed_of (acts_of m) ++ rest ≡ lines)
behind_all w V s lines (Failed done) m f over more size = (f.0, ap (λ (x : Loaded). listed_of (acts_of x) ++ f.0) (over done refl) ∙ f.1)
behind_all w V s lines (Going u) m f over more size = ([], append-nil (listed_of (acts_of m)) ∙ all_listed u.acts (acts_of m) lines f.1 more size)
  where
    all_listed : (a b lines : List Act) → listed_of a ≡ lines → IsMore a b → length (listed_of b) ≤ length lines → listed_of b ≡ lines
    all_listed a b lines e more size =
        let is : listed_of b ≡ lines ++ listed_of more.0 = ap listed_of more.1 ∙ listed-append a more.0 ∙ ap (λ (l : List Act). l ++ listed_of more.0) e in
        let none : length (listed_of more.0) ≡ 0 = omega (arith, ap length is, length-append lines (listed_of more.0), size) in
        is ∙ ap (λ (l : List Act). lines ++ l) (no_length (listed_of more.0) none) ∙ append-nil lines
behind_all w V s lines (Ended v u) m f over more size = ([], append-nil (listed_of (acts_of m)) ∙ all_listed u.acts (acts_of m) lines f.1 more size)
  where
    all_listed : (a b lines : List Act) → listed_of a ≡ lines → IsMore a b → length (listed_of b) ≤ length lines → listed_of b ≡ lines
    all_listed a b lines e more size =
        let is : listed_of b ≡ lines ++ listed_of more.0 = ap listed_of more.1 ∙ listed-append a more.0 ∙ ap (λ (l : List Act). l ++ listed_of more.0) e in
        let none : length (listed_of more.0) ≡ 0 = omega (arith, ap length is, length-append lines (listed_of more.0), size) in
        is ∙ ap (λ (l : List Act). lines ++ l) (no_length (listed_of more.0) none) ∙ append-nil lines

-- ---- the law

python_loads : (list : List Entry) (bytes : List ℕ) → (p : Passes list bytes) → (w : World) → (V : ℕ → Value) × Loads w V p.document (λ n. (load_bytes w false bytes n).now)
python_loads list bytes p w =
    let d : Contents = p.document in
    let status : (calls plain d).status ≡ 0 = status_zero d p.stops in
    let t : IsThrough d = through plain d status in
    let N : ℕ = length (ops_of d) in
    let law = bytes_are_listed w false bytes d p.reads p.small in
    let other = nothing_else plain w false bytes d p.reads p.small status in
    let V : ℕ → Value = law.0 in
    let follows : (n : ℕ) (s : State) → run (start d.many) (ops_of d) n ≡ Some s → Follows w V (listed V d.many (ops_of d) n) s (load_bytes w false bytes n).now =
    subst (λ (b : Bool). (n : ℕ) (s : State) → run (start b) (ops_of d) n ≡ Some s → Follows w V (listed V b (ops_of d) n) s (load_bytes w false bytes n).now) (sym p.reads.mode)
    (λ n s e. law.1 n s e (omega (arith, place_is d t, run_within (start false) (ops_of d) n s e))) in
    let most : (n : ℕ) → length (listed_of (acts_of (load_bytes w false bytes n).now)) ≤ length (listed V d.many (ops_of d) N) = λ n.
    let front = other.1.acts n in
    let size : length (listed other.0 false (ops_of d) N) ≡ length (listed V d.many (ops_of d) N) = listed_length other.0 V false (ops_of d) N ∙ ap (λ (b : Bool). length (listed V b (ops_of d) N)) (sym p.reads.mode) in
    omega (arith, size, ap length front.1, length-append (listed_of (acts_of (load_bytes w false bytes n).now)) front.0) in (
      V,
      record {
        begins = first_acts w bytes;
        grows = bytes_grow w bytes;
        over = bytes_over w bytes;
        lines = λ n. elim (cases_lt n N) [
          | inl less ↦
              let s = run_before (start d.many) (ops_of d) N n t.last t.runs (omega (arith, less)) in
              front_of w V (listed V d.many (ops_of d) n) s.0 (load_bytes w false bytes n).now (follows n s.0 s.1)
          | inr far ↦
              let j : ℕ = n - N in
              let same : N + j ≡ n = omega (arith, far) in
              let end = behind_all w V t.last (listed V d.many (ops_of d) N) (load_bytes w false bytes N).now (load_bytes w false bytes (N + j)).now (follows N t.last t.runs) (λ acts e. bytes_stay w bytes N j acts e) (bytes_grown w bytes N j) (most (N + j)) in
              let more = listed_more V d.many (ops_of d) n N (omega (arith, far)) in
              let here : listed_of (acts_of (load_bytes w false bytes n).now) ++ end.0 ≡ listed V d.many (ops_of d) N = ap (λ (m : ℕ). listed_of (acts_of (load_bytes w false bytes m).now) ++ end.0) (sym same) ∙ end.1 in
              (end.0 ++ more.0, joined (listed_of (acts_of (load_bytes w false bytes n).now)) end.0 more.0 (listed V d.many (ops_of d) N) (listed V d.many (ops_of d) n) here more.1)
        ];
        values = λ n s e. holds_of w V (listed V d.many (ops_of d) n) s (load_bytes w false bytes n).now (follows n s e);
      },
    )

pub only_what_is_allowed : OnlyWhatIsAllowed
only_what_is_allowed list bytes p w n =
    let x = python_loads list bytes p w in
    all_permitted list w x.0 p.document bytes (λ m. (load_bytes w false bytes m).now) (record { reads = p.reads; in_form = p.in_form; allowed = p.allowed }) x.1 n
