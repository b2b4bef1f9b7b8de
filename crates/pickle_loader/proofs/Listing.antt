-- The law, along a run.
use Rattle.std.proofs.Common.{◌≡◌, ℕ, zero, suc, ◌<◌, ◌≤◌, Bool, true, false, List, [], ◌∷◌, ◌++◌, length, map, drop, get_or, Option, Some, None, refl, sym, ap, subst, ◌∙◌, inl, inr, arith, length-append}
use Rattle.std.specs.Prelude.{slice_get, nat_le, if◌then◌else◌}
use Rattle.std.proofs.lemmas.List.{append-nil, append_assoc, length-map, length-drop}
use Rattle.std.proofs.lemmas.Bool.{cases_lt}
use Rattle.std.proofs.lemmas.Option.{slice_get_within}
use Rattle.pickle_ops.specs.declared.opcode.Opcode.{Opcode}
use Rattle.pickle_ops.specs.declared.opcode.Opcode.TheVariants as op
use Rattle.pickle_ops.specs.declared.kind.Kind.TheVariants as kind
use Rattle.pickle_ops.specs.Spelling.{Operation}
use Rattle.pickle_ops.specs.Object.{Object}
use Rattle.pickle_ops.specs.Row.{row_of, kind_of}
use Rattle.pickle_doc.specs.Document.{Contents, IsFormed, OnlyLastStops, items_of}
use Rattle.pickle_doc.specs.Place.{ops_of}
use Rattle.pickle_machine.specs.State.{State, start}
use Rattle.pickle_machine.specs.Move.{begun, fresh, next, next_of, refusal_of, refusal_at}
use Rattle.pickle_machine.specs.Run.{run}
use Rattle.pickle_machine.proofs.HeapGrowth.{fresh_heap}
use Rattle.pickle_calls.specs.Event.{before_of, event_of}
use Rattle.pickle_loader.specs.Environment.{Value, Plain, Act, Unpickler, World}
use Rattle.pickle_loader.specs.Unpickler.{Step, Ran, Stopped, Raised}
use Rattle.pickle_loader.specs.Dispatch.{dispatch, load_op, Loaded, Going, Ended, Failed, loaded, new_unpickler, load_item, load}
use Rattle.pickle_loader.specs.Listed.{listed_of, acts_listed, listed_on, listed_at, listed, protocol_after, protocol_next, protocol_at}
use Rattle.pickle_loader.specs.Beyond.{HasValue}
use Rattle.pickle_loader.specs.Laws.{IsResult, Follows, LoadsAreListed}
use Rattle.pickle_loader.proofs.Images.{image}
use Rattle.pickle_loader.specs.Values.{Knows}
use Rattle.pickle_loader.proofs.Pushes.{Good, top_value}
use Rattle.pickle_loader.proofs.Methods.{Here, unpickler, fresh_acts, raised_good}
use Rattle.pickle_loader.proofs.Keys.{has_value}
use Rattle.pickle_loader.proofs.Opcodes.{opcode_good}
use Rattle.pickle_loader.proofs.Still.{still, keeps_many, grows, fresh_running, fresh_many, fresh_same, fresh_begun, stop_only, move_to, none_before}

-- ---- how far both are

abbrev pub Standing : (ℕ → Value) → World → List Act → ℕ → State → Loaded → Type 0
Standing V w acts proto s (Going u) = (u ≡ image V (fresh s) proto u.acts) × Knows w V u.acts s.heap × (listed_of u.acts ≡ acts)
Standing V w acts proto s (Ended v u) = (listed_of u.acts ≡ acts) × Knows w V u.acts s.heap × (s.stopped ≡ s.many) × (proto ≡ 0) × (0 < length s.results) × IsResult V s v
Standing V w acts proto s (Failed done) = (rest : List Act) × (listed_of done ++ rest ≡ acts)

-- ---- one step

-- STOP runs on to nothing
stop_ends : (u q : Unpickler) (b : Bool) (v : Value) (p : Unpickler) (acts : List Act) → (if b then Stopped v p else Raised acts) ≡ Ran q → ⊥
stop_ends u q true v p acts e = absurd cc
stop_ends u q false v p acts e = absurd cc

pub never_stop : (w : World) (o : Opcode) (arg : List ℕ) (u q : Unpickler) → o ≡ op.Stop → dispatch w o arg u ≡ Ran q → ⊥
never_stop w o arg u q is e = stop_ends u q (nat_le 1 (length u.stack)) _ _ _ (ap (λ (x : Opcode). dispatch w x arg u) (sym is) ∙ e)

op_good : (h : Here) (o : Operation) (b : Bool) → HasValue o → refusal_of (row_of o) h.s ≡ None → Good h.V h.w h.s.heap h.acts (next_of (row_of o) (kind_of o) h.place h.s) (fresh_acts h (row_of o) (next_of (row_of o) (kind_of o) h.place h.s)) (protocol_after o.opcode o.arg h.proto)
    (if b then Raised h.acts else dispatch h.w o.opcode o.arg (unpickler h))
op_good h o true v e = raised_good h.V h.w h.s.heap h.acts (next_of (row_of o) (kind_of o) h.place h.s) _ (protocol_after o.opcode o.arg h.proto) h.acts refl
op_good h o false v e = opcode_good h o.opcode o.arg v e

pub ran_by : (b : Bool) (acts : List Act) (x : Step) (q : Unpickler) → (if b then Raised acts else x) ≡ Ran q → x ≡ Ran q
ran_by true acts x q e = absurd cc
ran_by false acts x q e = e

-- the state after the item
abbrev pub after_item : Here → Operation → State
after_item h o = next_of (row_of o) (kind_of o) h.place h.s

abbrev pub tells : Here → Operation → List Act
tells h o = fresh_acts h (row_of o) (after_item h o)

-- the result of a method leads on
leads_on : (h : Here) (before : List Act) (o : Operation) (x : Step) → load_op h.w o (unpickler h) ≡ x → h.s.stopped ≡ false → listed_of h.acts ≡ before
    → ((q : Unpickler) → x ≡ Ran q → length h.s.heap < length (after_item h o).heap → h.V (length h.s.heap) ≡ top_value q.stack)
    → Good h.V h.w h.s.heap h.acts (after_item h o) (tells h o) (protocol_after o.opcode o.arg h.proto) x
    → Standing h.V h.w (before ++ tells h o) (protocol_after o.opcode o.arg h.proto) (after_item h o) (loaded x)
leads_on h before o (Ran q) is running listed agrees good =
    let all = good (agrees q refl) in
    let more : listed_of q.acts ≡ before ++ tells h o = all.2 ∙ ap (λ (l : List Act). l ++ tells h o) listed in
    elim (still (row_of o) (kind_of o) h.place h.s) [
      | inl stop ↦ absurd (never_stop h.w o.opcode o.arg (unpickler h) q (stop_only o.opcode o.arg stop) (ran_by (h.w.fails (unpickler h) o) h.acts (dispatch h.w o.opcode o.arg (unpickler h)) q is))
      | inr same ↦
          let same_state : fresh (after_item h o) ≡ after_item h o = fresh_same (after_item h o) (same.stopped ∙ running) in
          (all.0 ∙ ap (λ (t : State). image h.V t (protocol_after o.opcode o.arg h.proto) q.acts) (sym same_state), all.1, more)
    ]
leads_on h before o (Stopped v q) is running listed agrees good = (good.0 ∙ ap (λ (l : List Act). l ++ tells h o) listed, good.1, good.2, good.3, good.4, good.5)
leads_on h before o (Raised done) is running listed agrees good = (good.0, good.1 ∙ ap (λ (l : List Act). l ++ tells h o) listed)

-- an item on an unpickler that holds what the state holds
item_on : (h : Here) (before : List Act) (o : Operation) → HasValue o → refusal_of (row_of o) h.s ≡ None → h.s.stopped ≡ false → listed_of h.acts ≡ before
    → ((q : Unpickler) → load_op h.w o (unpickler h) ≡ Ran q → length h.s.heap < length (after_item h o).heap → h.V (length h.s.heap) ≡ top_value q.stack)
    → Standing h.V h.w (before ++ tells h o) (protocol_after o.opcode o.arg h.proto) (after_item h o) (loaded (load_op h.w o (unpickler h)))
item_on h before o value accepted running listed agrees =
    leads_on h before o (load_op h.w o (unpickler h)) refl running listed agrees (op_good h o (h.w.fails (unpickler h) o) value accepted)

-- the same of the unpickler that the state tells of
item_by : (V : ℕ → Value) (w : World) (s f : State) (proto : ℕ) (acts before : List Act) (n : ℕ) (o : Operation) → HasValue o → fresh s ≡ f → Knows w V acts s.heap → refusal_at o s ≡ None → listed_of acts ≡ before
    → ((q : Unpickler) → loaded (load_op w o (image V f proto acts)) ≡ Going q → length s.heap < length (next o n s).heap → V (length s.heap) ≡ top_value q.stack)
    → Standing V w (before ++ acts_listed V proto (fresh s) (next o n s) (event_of (row_of o) (before_of (fresh s)) (next o n s))) (protocol_after o.opcode o.arg proto) (next o n s) (loaded (load_op w o (image V f proto acts)))
item_by V w s f proto acts before n o value is knows accepted listed agrees =
    let here : Here = record { V = V; w = w; s = fresh s; proto = proto; acts = acts; place = n; knows = subst (λ (l : List Object). Knows w V acts l) (sym (fresh_heap s)) knows } in
    let size : length (fresh s).heap ≡ length s.heap = ap length (fresh_heap s) in
    subst (λ (g : State). Standing V w (before ++ acts_listed V proto (fresh s) (next o n s) (event_of (row_of o) (before_of (fresh s)) (next o n s))) (protocol_after o.opcode o.arg proto) (next o n s) (loaded (load_op w o (image V g proto acts)))) is
    (item_on here before o value accepted (fresh_running s) listed
    (λ q e more. ap V size ∙ agrees q (ap (λ (g : State). loaded (load_op w o (image V g proto acts))) (sym is) ∙ ap loaded e) (omega (arith, size, more))))

step_by : (V : ℕ → Value) (w : World) (many : Bool) (s : State) (proto : ℕ) (before : List Act) (n : ℕ) (o : Operation) (l : Loaded) → HasValue o → s.many ≡ many → (many ≡ false → s.results ≡ []) → refusal_at o s ≡ None
    → Standing V w before proto s l
    → ((q : Unpickler) → load_item w many (Some o) l ≡ Going q → length s.heap < length (next o n s).heap → V (length s.heap) ≡ top_value q.stack)
    → Standing V w (before ++ acts_listed V proto (fresh s) (next o n s) (event_of (row_of o) (before_of (fresh s)) (next o n s))) (protocol_after o.opcode o.arg proto) (next o n s) (load_item w many (Some o) l)
step_by V w many s proto before n o (Going u) value mode few accepted st agrees =
    let Result : Unpickler → Type 0 = λ (x : Unpickler). Standing V w (before ++ acts_listed V proto (fresh s) (next o n s) (event_of (row_of o) (before_of (fresh s)) (next o n s))) (protocol_after o.opcode o.arg proto) (next o n s) (loaded (load_op w o x)) in
    subst Result (sym st.0) (item_by V w s (fresh s) proto u.acts before n o value refl st.1 accepted st.2 (λ q e more. agrees q (ap (λ (x : Unpickler). loaded (load_op w o x)) st.0 ∙ e) more))
step_by V w true s proto before n o (Ended v u) value mode few accepted st agrees =
    let none : proto ≡ 0 = st.3 in
    let Result : ℕ → Type 0 = λ (p : ℕ). Standing V w (before ++ acts_listed V p (fresh s) (next o n s) (event_of (row_of o) (before_of (fresh s)) (next o n s))) (protocol_after o.opcode o.arg p) (next o n s) (loaded (load_op w o (new_unpickler u.acts))) in
    subst Result (sym none) (item_by V w s (begun s) 0 u.acts before n o value (fresh_begun s (st.2 ∙ mode)) st.1 accepted st.0 agrees)
step_by V w false s proto before n o (Ended v u) value mode few accepted st agrees = let none : length s.results ≡ 0 = ap length (few refl) in absurd (omega (arith, none, st.4))
step_by V w many s proto before n o (Failed done) value mode few accepted st agrees =
    let more : List Act = acts_listed V proto (fresh s) (next o n s) (event_of (row_of o) (before_of (fresh s)) (next o n s)) in
    (st.0 ++ more, sym (append_assoc (listed_of done) st.0 more) ∙ ap (λ (l : List Act). l ++ more) st.1)

-- ---- along a run

-- the map has the value on top for each object that was made
abbrev pub Agrees : (ℕ → Value) → World → Bool → List Operation → Type 0
Agrees V w many ops = (n : ℕ) (s t : State) (q : Unpickler) → run (start many) ops n ≡ Some s → run (start many) ops (suc n) ≡ Some t → load w many ops (suc n) ≡ Going q → length s.heap < length t.heap → V (length s.heap) ≡ top_value q.stack

pub record Inv (V : ℕ → Value) (w : World) (many : Bool) (ops : List Operation) (n : ℕ) (s : State) : Type 0 where
  pub mode : s.many ≡ many
  pub stands : Standing V w (listed V many ops n) (protocol_at ops n) s (load w many ops n)

pub next_load : (w : World) (many : Bool) (ops : List Operation) (n : ℕ) (o : Operation) → slice_get ops n ≡ Some o → load w many ops (suc n) ≡ load_item w many (Some o) (load w many ops n)
unfolding load
next_load w many ops n o e = ap (λ (x : Option Operation). load_item w many x (load w many ops n)) e

pub next_protocol : (ops : List Operation) (n : ℕ) (o : Operation) → slice_get ops n ≡ Some o → protocol_at ops (suc n) ≡ protocol_after o.opcode o.arg (protocol_at ops n)
unfolding protocol_at
next_protocol ops n o e = ap (λ (x : Option Operation). protocol_next x (protocol_at ops n)) e

pub next_listed : (V : ℕ → Value) (many : Bool) (ops : List Operation) (n : ℕ) (o : Operation) (s t : State) → slice_get ops n ≡ Some o → run (start many) ops n ≡ Some s → run (start many) ops (suc n) ≡ Some t
    → listed V many ops (suc n) ≡ listed V many ops n ++ acts_listed V (protocol_at ops n) (fresh s) t (event_of (row_of o) (before_of (fresh s)) t)
unfolding listed listed_at
next_listed V many ops n o s t e f g =
    ap (λ (x : Option Operation). listed V many ops n ++ listed_on V (protocol_at ops n) x (run (start many) ops n) (run (start many) ops (suc n))) e
    ∙ ap (λ (x : Option State). listed V many ops n ++ listed_on V (protocol_at ops n) (Some o) x (run (start many) ops (suc n))) f
    ∙ ap (λ (x : Option State). listed V many ops n ++ listed_on V (protocol_at ops n) (Some o) (Some s) x) g

start_inv : (V : ℕ → Value) (w : World) (many : Bool) (ops : List Operation) → Inv V w many ops 0 (start many)
unfolding load listed protocol_at
start_inv V w many ops = record { mode = refl; stands = (refl, λ id o e. absurd cc, refl) }

run_zero : (many : Bool) (ops : List Operation) (s : State) → run (start many) ops 0 ≡ Some s → start many ≡ s
unfolding run
run_zero many ops s e = cc

pub along : (V : ℕ → Value) (w : World) (many : Bool) (ops : List Operation) → Agrees V w many ops → ((n : ℕ) (s : State) (o : Operation) → many ≡ false → run (start many) ops n ≡ Some s → slice_get ops n ≡ Some o → s.results ≡ [])
    → ((n : ℕ) (o : Operation) → slice_get ops n ≡ Some o → HasValue o) → (n : ℕ) (s : State) → run (start many) ops n ≡ Some s → Inv V w many ops n s
along V w many ops agrees few values zero s e = subst (λ (x : State). Inv V w many ops 0 x) (run_zero many ops s e) (start_inv V w many ops)
along V w many ops agrees few values (suc n) t e =
    let m = move_to (start many) ops n t e in
    let s : State = m.before in
    let o : Operation = m.item in
    let before : Inv V w many ops n s = along V w many ops agrees few values n s m.reached in
    let loads = next_load w many ops n o m.there in
    let stands : Standing V w (listed V many ops n ++ acts_listed V (protocol_at ops n) (fresh s) (next o n s) (event_of (row_of o) (before_of (fresh s)) (next o n s))) (protocol_after o.opcode o.arg (protocol_at ops n)) (next o n s) (load_item w many (Some o) (load w many ops n)) =
    step_by V w many s (protocol_at ops n) (listed V many ops n) n o (load w many ops n) (values n o m.there) before.mode (λ one. few n s o one m.reached m.there) m.accepted before.stands
    (λ q f more. agrees n s t q m.reached e (loads ∙ f) (subst (λ (x : State). length s.heap < length x.heap) m.leads more)) in
    let at : Standing V w (listed V many ops n ++ acts_listed V (protocol_at ops n) (fresh s) t (event_of (row_of o) (before_of (fresh s)) t)) (protocol_after o.opcode o.arg (protocol_at ops n)) t (load_item w many (Some o) (load w many ops n)) =
    subst (λ (x : State). Standing V w (listed V many ops n ++ acts_listed V (protocol_at ops n) (fresh s) x (event_of (row_of o) (before_of (fresh s)) x)) (protocol_after o.opcode o.arg (protocol_at ops n)) x (load_item w many (Some o) (load w many ops n))) m.leads stands in
    record {
      mode = ap (λ (x : State). x.many) (sym m.leads) ∙ keeps_many (row_of o) (kind_of o) n (fresh s) ∙ fresh_many s ∙ before.mode;
      stands =
          subst (λ (l : List Act). Standing V w l (protocol_at ops (suc n)) t (load w many ops (suc n))) (sym (next_listed V many ops n o s t m.there m.reached e))
          (subst (λ (p : ℕ). Standing V w (listed V many ops n ++ acts_listed V (protocol_at ops n) (fresh s) t (event_of (row_of o) (before_of (fresh s)) t)) p t (load w many ops (suc n))) (sym (next_protocol ops n o m.there))
          (subst (λ (l : Loaded). Standing V w (listed V many ops n ++ acts_listed V (protocol_at ops n) (fresh s) t (event_of (row_of o) (before_of (fresh s)) t)) (protocol_after o.opcode o.arg (protocol_at ops n)) t l) (sym loads) at));
    }

-- ---- the law

follows_by : (V : ℕ → Value) (w : World) (acts : List Act) (proto : ℕ) (s : State) (l : Loaded) → Standing V w acts proto s l → Follows w V acts s l
follows_by V w acts proto s (Going u) st = (
  record {
    stack = ap (λ (x : Unpickler). x.stack) st.0;
    metastack = ap (λ (x : Unpickler). x.metastack) st.0;
    memo = ap (λ (x : Unpickler). x.memo) st.0;
    buffers = ap (λ (x : Unpickler). x.buffers) st.0;
    objects = subst (λ (l : List Object). Knows w V u.acts l) (sym (fresh_heap s)) st.1;
  },
  st.2,
)
follows_by V w acts proto s (Ended v u) st = (st.1, st.0, st.5)
follows_by V w acts proto s (Failed done) st = st

-- the values of objects: what is on top after the item that makes one
top_of_loaded : Loaded → Value
top_of_loaded (Going u) = top_value u.stack
top_of_loaded (Ended v u) = v
top_of_loaded (Failed acts) = Plain kind.None

new_values : Option State → Option State → Loaded → List Value
new_values (Some s) (Some t) l = map (λ (o : Object). top_of_loaded l) (drop (length s.heap) t.heap)
new_values (Some s) None l = []
new_values None t l = []

values : World → Bool → List Operation → ℕ → List Value
values w many ops zero = []
values w many ops (suc n) = values w many ops n ++ new_values (run (start many) ops n) (run (start many) ops (suc n)) (load w many ops (suc n))

pub value_of : World → Bool → List Operation → ℕ → Value
value_of w many ops id = get_or (values w many ops (length ops)) id (Plain kind.None)

values_next : (w : World) (many : Bool) (ops : List Operation) (n : ℕ) (s t : State) → run (start many) ops n ≡ Some s → run (start many) ops (suc n) ≡ Some t
    → values w many ops (suc n) ≡ values w many ops n ++ map (λ (o : Object). top_of_loaded (load w many ops (suc n))) (drop (length s.heap) t.heap)
unfolding values new_values
values_next w many ops n s t e f =
    ap (λ (x : Option State). values w many ops n ++ new_values x (run (start many) ops (suc n)) (load w many ops (suc n))) e
    ∙ ap (λ (x : Option State). values w many ops n ++ new_values (Some s) x (load w many ops (suc n))) f

-- a value for each object
values_length : (w : World) (many : Bool) (ops : List Operation) (n : ℕ) (s : State) → run (start many) ops n ≡ Some s → length (values w many ops n) ≡ length s.heap
unfolding values
values_length w many ops zero s e = ap (λ (x : State). length x.heap) (run_zero many ops s e)
values_length w many ops (suc n) t e =
    let m = move_to (start many) ops n t e in
    let s : State = m.before in
    let old : length (values w many ops n) ≡ length s.heap = values_length w many ops n s m.reached in
    let grown : length (fresh s).heap ≤ length (next m.item n s).heap = grows (row_of m.item) (kind_of m.item) n (fresh s) in
    let size : length (fresh s).heap ≡ length s.heap = ap length (fresh_heap s) in
    let to : length (next m.item n s).heap ≡ length t.heap = ap (λ (x : State). length x.heap) m.leads in
    let new : List Value = map (λ (o : Object). top_of_loaded (load w many ops (suc n))) (drop (length s.heap) t.heap) in
    let all : length (values w many ops (suc n)) ≡ length (values w many ops n ++ new) = ap length (values_next w many ops n s t m.reached e) in
    let more : length new ≡ length (drop (length s.heap) t.heap) = length-map (drop (length s.heap) t.heap) (λ (o : Object). top_of_loaded (load w many ops (suc n))) in
    omega (arith, old, grown, size, to, all, more, length-append (values w many ops n) new, length-drop (length s.heap) t.heap)

-- values stay
values_stay : (w : World) (many : Bool) (ops : List Operation) (n m : ℕ) → m ≤ n → (rest : List Value) × (values w many ops n ≡ values w many ops m ++ rest)
unfolding values
values_stay w many ops zero m h = let none : 0 ≡ m = omega (arith, h) in ([], ap (values w many ops) none ∙ sym (append-nil (values w many ops m)))
values_stay w many ops (suc n) m h = elim (cases_lt m (suc n)) [
  | inl less ↦
      let before = values_stay w many ops n m (omega (arith, less)) in
      let new : List Value = new_values (run (start many) ops n) (run (start many) ops (suc n)) (load w many ops (suc n)) in
      (before.0 ++ new, ap (λ (l : List Value). l ++ new) before.1 ∙ append_assoc (values w many ops m) before.0 new)
  | inr far ↦ let same : suc n ≡ m = omega (arith, h, far) in ([], ap (values w many ops) same ∙ sym (append-nil (values w many ops m)))
]

get_between : (vs more rest : List Value) (v d : Value) → get_or ((vs ++ v ∷ more) ++ rest) (length vs) d ≡ v
get_between [] more rest v d = refl
get_between (x ∷ vs) more rest v d = get_between vs more rest v d

not_empty : (xs : List Object) (v : Value) → 0 < length xs → (more : List Value) × (map (λ (o : Object). v) xs ≡ v ∷ more)
not_empty [] v h = absurd (omega arith)
not_empty (x ∷ xs) v h = (map (λ (o : Object). v) xs, refl)

pub agrees_of : (w : World) (many : Bool) (ops : List Operation) → Agrees (value_of w many ops) w many ops
unfolding value_of top_of_loaded
agrees_of w many ops n s t q e f g more =
    let m = move_to (start many) ops n t f in
    let within : n < length ops = slice_get_within ops n m.item m.there in
    let later = values_stay w many ops (length ops) (suc n) (omega (arith, within)) in
    let size : length (values w many ops n) ≡ length s.heap = values_length w many ops n s e in
    let v : Value = top_of_loaded (load w many ops (suc n)) in
    let some = not_empty (drop (length s.heap) t.heap) v (omega (arith, length-drop (length s.heap) t.heap, more)) in
    let here : values w many ops (suc n) ≡ values w many ops n ++ v ∷ some.0 = values_next w many ops n s t e f ∙ ap (λ (l : List Value). values w many ops n ++ l) some.1 in
    let all : values w many ops (length ops) ≡ (values w many ops n ++ v ∷ some.0) ++ later.0 = later.1 ∙ ap (λ (l : List Value). l ++ later.0) here in
    ap (λ (l : List Value). get_or l (length s.heap) (Plain kind.None)) all
    ∙ ap (λ (i : ℕ). get_or ((values w many ops n ++ v ∷ some.0) ++ later.0) i (Plain kind.None)) (sym size)
    ∙ get_between (values w many ops n) some.0 later.0 v (Plain kind.None)
    ∙ ap top_of_loaded g

-- with one pickle no item before the last is STOP
pub few_results : (d : Contents) → IsFormed d → (n : ℕ) (s : State) (o : Operation) → d.many ≡ false → run (start d.many) (ops_of d) n ≡ Some s → slice_get (ops_of d) n ≡ Some o → s.results ≡ []
few_results d formed n s o one e f =
    none_before (items_of d) n s o (subst (λ (b : Bool). OnlyLastStops b (items_of d)) one formed.last_stops) (subst (λ (b : Bool). run (start b) (ops_of d) n ≡ Some s) one e) f

pub loads_are_listed : LoadsAreListed
loads_are_listed w d formed = (
  value_of w d.many (ops_of d),
  λ n s e. follows_by (value_of w d.many (ops_of d)) w _ _ s _ (along (value_of w d.many (ops_of d)) w d.many (ops_of d) (agrees_of w d.many (ops_of d)) (few_results d formed) (has_value d formed) n s e).stands,
)
