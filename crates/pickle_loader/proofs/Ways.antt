-- The law along a whole reading.
use Rattle.std.proofs.Common.{◌≡◌, ◌≢◌, ◌⊎◌, ℕ, zero, suc, ◌+◌, ◌-◌, ◌<◌, ◌≤◌, Bool, true, false, List, [], ◌∷◌, ◌++◌, length, map, drop, get_or, Option, Some, None, Ok, Err, refl, sym, ap, subst, ◌∙◌, inl, inr, arith, length-append}
use Rattle.std.specs.Prelude.{is_some, if◌then◌else◌, Result}
use Rattle.std.proofs.lemmas.Bool.{cases_lt}
use Rattle.std.proofs.lemmas.List.{append-nil, append_assoc, length-map, length-drop}
use Rattle.pickle_ops.specs.declared.fault.FrontFault.{FrontFault}
use Rattle.pickle_ops.specs.declared.fault.FrontFault.TheVariants as fault
use Rattle.pickle_ops.specs.declared.kind.Kind.TheVariants as kind
use Rattle.pickle_ops.specs.Object.{Object}
use Rattle.pickle_machine.specs.declared.refusal.Refusal.{Refusal}
use Rattle.pickle_machine.specs.declared.loader.LoaderMove.{LoaderMove}
use Rattle.pickle_machine.specs.State.{State, start}
use Rattle.pickle_machine.specs.Move.{fresh}
use Rattle.pickle_machine.specs.Loader.{loader_move}
use Rattle.pickle_machine.proofs.HeapGrowth.{fresh_heap}
use Rattle.pickle_lenient.specs.declared.taken.Taken.{Taken}
use Rattle.pickle_lenient.specs.Stream.{taken}
use Rattle.pickle_text.specs.declared.closing.Closing.{Closing}
use Rattle.pickle_text.specs.declared.closing.Closing.TheVariants as closing
use Rattle.pickle_calls.specs.declared.naming.Detail.TheVariants as detail
use Rattle.pickle_further.specs.declared.way.Pickles.{Pickles}
use Rattle.pickle_further.specs.declared.way.Pickles.TheVariants as pickles
use Rattle.pickle_further.specs.declared.way.Way.{Way}
use Rattle.pickle_further.specs.Going.{Standing, Going as Gone, used_op, moved_so, state_after, gone_to, gone_by, going, stands_after}
use Rattle.pickle_further.specs.Parts.{are_many, standing_first}
use Rattle.pickle_loader.specs.Environment.{Value, Plain, Act, Unpickler, World}
use Rattle.pickle_loader.specs.Dispatch.{Loaded, Going, Ended, Failed, loaded, acts_of, new_unpickler}
use Rattle.pickle_loader.specs.Listed.{listed_of}
use Rattle.pickle_loader.specs.Laws.{IsSame, Holds, AreListed}
use Rattle.pickle_loader.specs.Onward.{load_taken, Onward, again, reads_on, load_more, load_read, load_on, load_way, stands_behind, stands_on, stands, state_by, state_on, state_behind, protocol_read, protocol_on, protocol, acts_gone, acts_on, acts_before, NothingBeyond}
use Rattle.pickle_loader.proofs.Pushes.{top_value}
use Rattle.pickle_loader.proofs.Still.{fresh_running}
use Rattle.pickle_loader.proofs.Wholes.{whole_start}
use Rattle.pickle_loader.proofs.Items.{IsItem, are_items, take_some, none_taken}
use Rattle.pickle_loader.proofs.Leads.{moved_on_fresh, only_stop, moved_still, once_led}
use Rattle.pickle_loader.proofs.Onwards.{OnWay, Ready, Begins, Along, HoldsBehind, failed_ends, Turn, read_on, read_turn, once, state_heap}

-- ---- one item more

-- whatever comes, where it raised before nothing more is listed
failed_along : (w : World) (V : ℕ → Value) (p : Pickles) (acts : List Act) (proto : ℕ) (x : Option Standing) (done rest : List Act) (bytes : List ℕ) (left : ℕ) → listed_of done ++ rest ≡ acts
    → Along w V p acts proto x (record { now = Failed done; rest = bytes; left = left })
failed_along w V p acts proto None done rest bytes left e = ((rest, e), inl refl)
failed_along w V p acts proto (Some q) done rest bytes left e = ((rest, e), λ reads. absurd cc)

abbrev NextOn : World → (ℕ → Value) → Way → List Act → ℕ → Standing → Onward → Type 0
NextOn w V way acts proto q x =
    Along w V way.pickles (acts ++ acts_gone V proto q (going way q)) (protocol_read (taken way.frames q.at.left q.rest) proto) (stands_behind q (going way q)) (load_on w way x)
    × HoldsBehind w V (going way q) (load_on w way x).now

-- the map has the value on top of what is loaded next
abbrev RightOn : World → (ℕ → Value) → Way → Standing → Onward → Type 0
RightOn w V way q x = (u : Unpickler) → (load_on w way x).now ≡ Going u → length q.state.heap < length (going way q).state.heap → V (length q.state.heap) ≡ top_value u.stack

-- what is loaded reads on as this unpickler
record AsOne (p : Pickles) (w : World) (l : Loaded) (r : Unpickler) : Type 0 where
  reads : reads_on p l ≡ true
  more : (item : Taken) → load_more w p item l ≡ loaded (load_taken w item r)
  acts : acts_of l ≡ r.acts

read_same : (p : Pickles) (t : Turn p) (l : Loaded) (y : Result Taken FrontFault) → AsOne p t.w l t.r
    → read_on p t (record { now = l; rest = t.q.rest; left = t.q.at.left }) y ≡ load_read t.w p (record { now = l; rest = t.q.rest; left = t.q.at.left }) y
read_same p t l (Ok item) one = ap (λ (x : Loaded). record { now = x; rest = drop item.size t.q.rest; left = item.left }) (sym (one.more item))
read_same p t l (Err f) one = ap (λ (a : List Act). record { now = Failed a; rest = t.q.rest; left = t.q.at.left }) (sym one.acts)

as_one_next : (way : Way) (t : Turn way.pickles) (l : Loaded) → AsOne way.pickles t.w l t.r → RightOn t.w t.V way t.q (record { now = l; rest = t.q.rest; left = t.q.at.left })
    → NextOn t.w t.V way t.acts t.proto t.q (record { now = l; rest = t.q.rest; left = t.q.at.left })
unfolding going
as_one_next way t l one right =
    let x : Onward = record { now = l; rest = t.q.rest; left = t.q.at.left } in
    let y : Result Taken FrontFault = taken way.frames t.q.at.left t.q.rest in
    let step : read_on way.pickles t x y ≡ load_on t.w way x = read_same way.pickles t l y one ∙ ap (λ (b : Bool). if b then load_read t.w way.pickles x y else x) (sym one.reads) in
    subst (λ (z : Onward). Along t.w t.V way.pickles (t.acts ++ acts_gone t.V t.proto t.q (gone_by way t.q y)) (protocol_read y t.proto) (stands_behind t.q (gone_by way t.q y)) z × HoldsBehind t.w t.V (gone_by way t.q y) z.now) step
    (read_turn way t x y (are_items way.frames t.q.at.left t.q.rest) (λ u is more. right u (ap (λ (z : Onward). z.now) (sym step) ∙ is) more))

-- where the bytes are those that the lines stand before
in_step : (w : World) (V : ℕ → Value) (way : Way) (acts : List Act) (proto : ℕ) (q : Standing) (l : Loaded) (rest : List ℕ) (left : ℕ) → rest ≡ q.rest → left ≡ q.at.left
    → (RightOn w V way q (record { now = l; rest = q.rest; left = q.at.left }) → NextOn w V way acts proto q (record { now = l; rest = q.rest; left = q.at.left }))
    → RightOn w V way q (record { now = l; rest = rest; left = left }) → NextOn w V way acts proto q (record { now = l; rest = rest; left = left })
in_step w V way acts proto q l rest left e f next =
    subst (λ (n : ℕ). RightOn w V way q (record { now = l; rest = rest; left = n }) → NextOn w V way acts proto q (record { now = l; rest = rest; left = n })) (sym f)
    (subst (λ (b : List ℕ). RightOn w V way q (record { now = l; rest = b; left = q.at.left }) → NextOn w V way acts proto q (record { now = l; rest = b; left = q.at.left })) (sym e) next)

as_one_ended : (p : Pickles) (w : World) (v : Value) (u : Unpickler) → reads_on p (Ended v u) ≡ true → AsOne p w (Ended v u) (again p u)
as_one_ended pickles.First w v u e = absurd cc
as_one_ended pickles.All w v u e = record { reads = refl; more = λ item. refl; acts = refl }
as_one_ended pickles.OneMemo w v u e = record { reads = refl; more = λ item. refl; acts = refl }

next_on : (w : World) (V : ℕ → Value) (way : Way) (acts : List Act) (proto : ℕ) (q : Standing) (l : Loaded) (rest : List ℕ) (left : ℕ) → Along w V way.pickles acts proto (Some q) (record { now = l; rest = rest; left = left })
    → RightOn w V way q (record { now = l; rest = rest; left = left }) → NextOn w V way acts proto q (record { now = l; rest = rest; left = left })
next_on w V way acts proto q (Going u) rest left along =
    let ready = along.1 refl in
    in_step w V way acts proto q (Going u) rest left ready.rest ready.left
    (as_one_next way
    (record { V = V; w = w; q = q; acts = acts; proto = proto; r = u; same = along.0.0; at = along.0.1; done = along.0.2; whole = ready.whole; many = ready.many; few = ready.few })
    (Going u) (record { reads = refl; more = λ item. refl; acts = refl }))
next_on w V way acts proto q (Ended v u) rest left along =
    let ready = along.1 along.0.3 in
    in_step w V way acts proto q (Ended v u) rest left ready.rest ready.left
    (as_one_next way
    (record {
      V = V;
      w = w;
      q = q;
      acts = acts;
      proto = proto;
      r = again way.pickles u;
      same = along.0.0;
      at = along.0.1;
      done = along.0.2;
      whole = ready.whole;
      many = ready.many;
      few = ready.few;
    })
    (Ended v u) (as_one_ended way.pickles w v u along.0.3))
next_on w V way acts proto q (Failed done) rest left along =
    let more : List Act = acts_gone V proto q (going way q) in
    λ right. (
      failed_along w V way.pickles (acts ++ more) (protocol_read (taken way.frames q.at.left q.rest) proto) (stands_behind q (going way q)) done (along.0.0 ++ more) rest left
          (sym (append_assoc (listed_of done) along.0.0 more) ∙ ap (λ (a : List Act). a ++ more) along.0.1),
      record { holds = tt; ends = failed_ends (going way q).gone.closing done },
    )

-- ---- behind the end

over_on : (w : World) (way : Way) (acts : List Act) (x : Onward) (b : Bool) → reads_on way.pickles x.now ≡ b → Begins acts x.now → (reads_on way.pickles x.now ≡ false) ⊎ (x.rest ≡ [])
    → Begins (acts ++ []) (if b then load_read w way.pickles x (taken way.frames x.left x.rest) else x).now × ((reads_on way.pickles (if b then load_read w way.pickles x (taken way.frames x.left x.rest) else x).now ≡ false) ⊎ ((if b then load_read w way.pickles x (taken way.frames x.left x.rest) else x).rest ≡ []))
over_on w way acts x false is begins over = ((begins.0, begins.1 ∙ sym (append-nil acts)), inl is)
over_on w way acts x true is begins (inl stops) = let two : true ≡ false = sym is ∙ stops in absurd cc
over_on w way acts x true is begins (inr none) =
    let nothing : taken way.frames x.left x.rest ≡ Err _ = ap (taken way.frames x.left) none ∙ none_taken way.frames x.left in
    subst (λ (y : Result Taken FrontFault). Begins (acts ++ []) (load_read w way.pickles x y).now × ((reads_on way.pickles (load_read w way.pickles x y).now ≡ false) ⊎ ((load_read w way.pickles x y).rest ≡ []))) (sym nothing)
    ((begins.0, begins.1 ∙ sym (append-nil acts)), inl refl)

along_on : (w : World) (V : ℕ → Value) (way : Way) (acts : List Act) (proto : ℕ) (o : Option Standing) (x : Onward) → Along w V way.pickles acts proto o x
    → ((q : Standing) → o ≡ Some q → RightOn w V way q x) → Along w V way.pickles (acts ++ acts_on V way proto o) (protocol_on way o proto) (stands_on way o) (load_on w way x)
along_on w V way acts proto None x along right = over_on w way acts x (reads_on way.pickles x.now) refl along.0 along.1
along_on w V way acts proto (Some q) x along right = (next_on w V way acts proto q x.now x.rest x.left along (right q refl)).0

-- ---- objects

-- an item makes no object less
going_grows_to : (way : Way) (q : Standing) (item : Taken) (z : Result State Refusal) → IsItem item.op item.row
    → moved_so (loader_move item.op.opcode item.row (fresh q.state)) (used_op (loader_move item.op.opcode item.row (fresh q.state)) item.op) q.at.place (fresh q.state) ≡ z
    → length q.state.heap ≤ length (gone_to way q item (loader_move item.op.opcode item.row (fresh q.state)) z).state.heap
going_grows_to way q item (Err r) is moved = omega arith
going_grows_to way q item (Ok a) is moved =
    let m : LoaderMove = loader_move item.op.opcode item.row (fresh q.state) in
    let size : length (fresh q.state).heap ≡ length q.state.heap = ap length (fresh_heap q.state) in
    let kept : length (state_after way.pickles item.op.opcode a).heap ≡ length a.heap = ap length (state_heap way.pickles item.op.opcode a) in
    elim (moved_still m (used_op m item.op) q.at.place (fresh q.state) a (fresh_running q.state) moved) [
      | inl stop ↦
          let led = once_led m (used_op m item.op) q.at.place (fresh q.state) a (once item.op item.row (fresh q.state) is (only_stop item.op item.row (fresh q.state) is stop)) (fresh_running q.state) moved in
          omega (arith, size, kept, led.grown)
      | inr x ↦ omega (arith, size, kept, x.1.grown)
    ]

going_grows_by : (way : Way) (q : Standing) (y : Result Taken FrontFault) → ((item : Taken) → y ≡ Ok item → IsItem item.op item.row) → length q.state.heap ≤ length (gone_by way q y).state.heap
going_grows_by way q (Err f) items = omega arith
going_grows_by way q (Ok item) items =
    let m : LoaderMove = loader_move item.op.opcode item.row (fresh q.state) in
    going_grows_to way q item (moved_so m (used_op m item.op) q.at.place q.state) (items item refl) (sym (moved_on_fresh m (used_op m item.op) q.at.place q.state))

going_grows : (way : Way) (q : Standing) → length q.state.heap ≤ length (going way q).state.heap
unfolding going
going_grows way q = going_grows_by way q (taken way.frames q.at.left q.rest) (are_items way.frames q.at.left q.rest)

-- the values of objects: what is on top after the item that makes one
top_of_loaded : Loaded → Value
top_of_loaded (Going u) = top_value u.stack
top_of_loaded (Ended v u) = v
top_of_loaded (Failed acts) = Plain kind.None

new_values : Way → Option Standing → Loaded → List Value
new_values way None l = []
new_values way (Some q) l = map (λ (o : Object). top_of_loaded l) (drop (length q.state.heap) (going way q).state.heap)

values : World → Way → List ℕ → ℕ → List Value
values w way bytes zero = []
values w way bytes (suc n) = values w way bytes n ++ new_values way (stands way (standing_first detail.Cut way.pickles bytes) n) (load_way w way bytes (suc n)).now

abbrev pub stands_at : Way → List ℕ → ℕ → Option Standing
stands_at way bytes n = stands way (standing_first detail.Cut way.pickles bytes) n

pub behind_is : (q p : Standing) (g : Gone) (b : Bool) → (if b then None else Some (stands_after q g)) ≡ Some p → stands_after q g ≡ p
behind_is q p g true e = absurd cc
behind_is q p g false e = cc

-- where it stood before
pub record From (way : Way) (x : Option Standing) (p : Standing) : Type 0 where
  pub before : Standing
  pub stood : x ≡ Some before
  pub leads : stands_after before (going way before) ≡ p

from : (way : Way) (x : Option Standing) (p : Standing) → stands_on way x ≡ Some p → From way x p
from way None p e = absurd cc
from way (Some q) p e = record { before = q; stood = refl; leads = behind_is q p (going way q) (is_some (going way q).gone.closing) e }

stands_next : (way : Way) (bytes : List ℕ) (n : ℕ) → stands_at way bytes (suc n) ≡ stands_on way (stands_at way bytes n)
unfolding stands
stands_next way bytes n = refl

stands_zero : (way : Way) (bytes : List ℕ) (q : Standing) → stands_at way bytes 0 ≡ Some q → standing_first detail.Cut way.pickles bytes ≡ q
unfolding stands
stands_zero way bytes q e = cc

values_next : (w : World) (way : Way) (bytes : List ℕ) (n : ℕ) (q : Standing) → stands_at way bytes n ≡ Some q
    → values w way bytes (suc n) ≡ values w way bytes n ++ map (λ (o : Object). top_of_loaded (load_way w way bytes (suc n)).now) (drop (length q.state.heap) (going way q).state.heap)
unfolding values new_values
values_next w way bytes n q e = ap (λ (x : Option Standing). values w way bytes n ++ new_values way x (load_way w way bytes (suc n)).now) e

-- a value for each object
values_length : (w : World) (way : Way) (bytes : List ℕ) (n : ℕ) (q : Standing) → stands_at way bytes n ≡ Some q → length (values w way bytes n) ≡ length q.state.heap
unfolding values
values_length w way bytes zero q e = ap (λ (x : Standing). length x.state.heap) (stands_zero way bytes q e)
values_length w way bytes (suc n) p e =
    let f = from way (stands_at way bytes n) p (sym (stands_next way bytes n) ∙ e) in
    let q : Standing = f.before in
    let old : length (values w way bytes n) ≡ length q.state.heap = values_length w way bytes n q f.stood in
    let to : length (going way q).state.heap ≡ length p.state.heap = ap (λ (x : Standing). length x.state.heap) f.leads in
    let new : List Value = map (λ (o : Object). top_of_loaded (load_way w way bytes (suc n)).now) (drop (length q.state.heap) (going way q).state.heap) in
    let all : length (values w way bytes (suc n)) ≡ length (values w way bytes n ++ new) = ap length (values_next w way bytes n q f.stood) in
    let more : length new ≡ length (drop (length q.state.heap) (going way q).state.heap) = length-map (drop (length q.state.heap) (going way q).state.heap) (λ (o : Object). top_of_loaded (load_way w way bytes (suc n)).now) in
    omega (arith, old, going_grows way q, to, all, more, length-append (values w way bytes n) new, length-drop (length q.state.heap) (going way q).state.heap)

-- values stay
values_stay : (w : World) (way : Way) (bytes : List ℕ) (n m : ℕ) → m ≤ n → (rest : List Value) × (values w way bytes n ≡ values w way bytes m ++ rest)
unfolding values
values_stay w way bytes zero m h = let none : 0 ≡ m = omega (arith, h) in ([], ap (values w way bytes) none ∙ sym (append-nil (values w way bytes m)))
values_stay w way bytes (suc n) m h = elim (cases_lt m (suc n)) [
  | inl less ↦
      let before = values_stay w way bytes n m (omega (arith, less)) in
      let new : List Value = new_values way (stands_at way bytes n) (load_way w way bytes (suc n)).now in
      (before.0 ++ new, ap (λ (l : List Value). l ++ new) before.1 ∙ append_assoc (values w way bytes m) before.0 new)
  | inr far ↦ let same : suc n ≡ m = omega (arith, h, far) in ([], ap (values w way bytes) same ∙ sym (append-nil (values w way bytes m)))
]

get_between : (vs more rest : List Value) (v d : Value) → get_or ((vs ++ v ∷ more) ++ rest) (length vs) d ≡ v
get_between [] more rest v d = refl
get_between (x ∷ vs) more rest v d = get_between vs more rest v d

not_empty : (xs : List Object) (v : Value) → 0 < length xs → (more : List Value) × (map (λ (o : Object). v) xs ≡ v ∷ more)
not_empty [] v h = absurd (omega (arith, h))
not_empty (x ∷ xs) v h = (map (λ (o : Object). v) xs, refl)

pub value_of : World → Way → List ℕ → ℕ → ℕ → Value
value_of w way bytes n id = get_or (values w way bytes n) id (Plain kind.None)

load_next : (w : World) (way : Way) (bytes : List ℕ) (n : ℕ) → load_way w way bytes (suc n) ≡ load_on w way (load_way w way bytes n)
unfolding load_way
load_next w way bytes n = refl

right_on : (w : World) (way : Way) (bytes : List ℕ) (n m : ℕ) → m < n → (q : Standing) → stands_at way bytes m ≡ Some q → RightOn w (value_of w way bytes n) way q (load_way w way bytes m)
unfolding value_of top_of_loaded
right_on w way bytes n m less q e = λ u is more.
    let later = values_stay w way bytes n (suc m) (omega (arith, less)) in
    let size : length (values w way bytes m) ≡ length q.state.heap = values_length w way bytes m q e in
    let v : Value = top_of_loaded (load_way w way bytes (suc m)).now in
    let some = not_empty (drop (length q.state.heap) (going way q).state.heap) v (omega (arith, length-drop (length q.state.heap) (going way q).state.heap, more)) in
    let here : values w way bytes (suc m) ≡ values w way bytes m ++ v ∷ some.0 = values_next w way bytes m q e ∙ ap (λ (l : List Value). values w way bytes m ++ l) some.1 in
    let all : values w way bytes n ≡ (values w way bytes m ++ v ∷ some.0) ++ later.0 = later.1 ∙ ap (λ (l : List Value). l ++ later.0) here in
    ap (λ (l : List Value). get_or l (length q.state.heap) (Plain kind.None)) all
    ∙ ap (λ (i : ℕ). get_or ((values w way bytes m ++ v ∷ some.0) ++ later.0) i (Plain kind.None)) (sym size)
    ∙ get_between (values w way bytes m) some.0 later.0 v (Plain kind.None)
    ∙ ap top_of_loaded (ap (λ (x : Onward). x.now) (load_next w way bytes m) ∙ is)

-- ---- along the reading

abbrev AlongAt : World → Way → List ℕ → (ℕ → Value) → ℕ → Type 0
AlongAt w way bytes V m =
    Along w V way.pickles (acts_before V way (standing_first detail.Cut way.pickles bytes) m) (protocol way (standing_first detail.Cut way.pickles bytes) m) (stands_at way bytes m) (load_way w way bytes m)

along_first : (w : World) (way : Way) (bytes : List ℕ) (V : ℕ → Value) → AlongAt w way bytes V 0
unfolding acts_before protocol stands load_way
along_first w way bytes V = (
  (record { stack = refl; metastack = refl; memo = refl; buffers = refl; objects = λ id o e. absurd cc }, refl, refl),
  λ reads. record { rest = refl; left = refl; whole = whole_start (are_many way.pickles); many = refl; few = λ one. refl },
)

along_next : (w : World) (way : Way) (bytes : List ℕ) (V : ℕ → Value) (m : ℕ) → ((q : Standing) → stands_at way bytes m ≡ Some q → RightOn w V way q (load_way w way bytes m)) → AlongAt w way bytes V m → AlongAt w way bytes V (suc m)
unfolding acts_before protocol stands load_way
along_next w way bytes V m right along =
    along_on w V way (acts_before V way (standing_first detail.Cut way.pickles bytes) m) (protocol way (standing_first detail.Cut way.pickles bytes) m) (stands_at way bytes m) (load_way w way bytes m) along right

pub along_way : (w : World) (way : Way) (bytes : List ℕ) (n : ℕ) → (m : ℕ) → m ≤ n → AlongAt w way bytes (value_of w way bytes n) m
along_way w way bytes n zero h = along_first w way bytes (value_of w way bytes n)
along_way w way bytes n (suc m) h =
    along_next w way bytes (value_of w way bytes n) m (λ q e. right_on w way bytes n m (omega (arith, h)) q e) (along_way w way bytes n m (omega (arith, h)))

again_acts : (p : Pickles) (u : Unpickler) → (again p u).acts ≡ u.acts
again_acts pickles.First u = refl
again_acts pickles.All u = refl
again_acts pickles.OneMemo u = refl

on_begins : (w : World) (V : ℕ → Value) (p : Pickles) (acts : List Act) (proto : ℕ) (s : State) (l : Loaded) → OnWay w V p acts proto s l → Begins acts l
on_begins w V p acts proto s (Going u) on = ([], append-nil (listed_of u.acts) ∙ on.2)
on_begins w V p acts proto s (Ended v u) on = ([], append-nil (listed_of u.acts) ∙ ap listed_of (sym (again_acts p u)) ∙ on.2)
on_begins w V p acts proto s (Failed done) on = on

begins : (w : World) (V : ℕ → Value) (p : Pickles) (acts : List Act) (proto : ℕ) (o : Option Standing) (x : Onward) → Along w V p acts proto o x → Begins acts x.now
begins w V p acts proto None x along = along.0
begins w V p acts proto (Some q) x along = on_begins w V p acts proto q.state x.now along.0

-- ---- one map

-- an item after which it goes on takes a byte
shrinks_to : (way : Way) (q : Standing) (item : Taken) (m : LoaderMove) (z : Result State Refusal) → 0 < item.size → 0 < length q.rest → (gone_to way q item m z).gone.closing ≡ None
    → length (drop (gone_to way q item m z).gone.size q.rest) < length q.rest
shrinks_to way q item m (Ok t) some more none = omega (arith, some, more, length-drop item.size q.rest)
shrinks_to way q item m (Err r) some more none = absurd cc

some_bytes : (bytes : List ℕ) → bytes ≢ [] → 0 < length bytes
some_bytes [] h = absurd (h refl)
some_bytes (b ∷ bytes) h = omega arith

shrinks_by : (way : Way) (q : Standing) (y : Result Taken FrontFault) → ((item : Taken) → y ≡ Ok item → 0 < item.size) → (q.rest ≡ [] → y ≡ Err fault.Ended) → (gone_by way q y).gone.closing ≡ None
    → length (drop (gone_by way q y).gone.size q.rest) < length q.rest
shrinks_by way q (Err f) some ends none = absurd cc
shrinks_by way q (Ok item) some ends none =
    let m : LoaderMove = loader_move item.op.opcode item.row (fresh q.state) in
    shrinks_to way q item m (moved_so m (used_op m item.op) q.at.place q.state) (some item refl) (some_bytes q.rest (λ empty. no_ok item (ends empty))) none
  where
    no_ok : (item : Taken) → Ok item ≡ Err fault.Ended → ⊥
    no_ok item e = cc

pub shrinks : (way : Way) (q : Standing) → (going way q).gone.closing ≡ None → length (drop (going way q).gone.size q.rest) < length q.rest
unfolding going
shrinks way q none = shrinks_by way q (taken way.frames q.at.left q.rest) (take_some way.frames q.at.left q.rest) (λ empty. ap (taken way.frames q.at.left) empty ∙ none_taken way.frames q.at.left) none

pub open_closing : (c : Option Closing) → is_some c ≡ false → c ≡ None
open_closing None e = refl
open_closing (Some x) e = absurd cc

goes_on : (q p : Standing) (g : Gone) (b : Bool) → is_some g.gone.closing ≡ b → (if b then None else Some (stands_after q g)) ≡ Some p → is_some g.gone.closing ≡ false
goes_on q p g true is e = absurd cc
goes_on q p g false is e = is

-- so there are no more items than bytes
few_items : (way : Way) (bytes : List ℕ) (n : ℕ) (q : Standing) → stands_at way bytes n ≡ Some q → n + length q.rest ≤ length bytes
few_items way bytes zero q e = omega (arith, ap (λ (x : Standing). length x.rest) (stands_zero way bytes q e))
few_items way bytes (suc n) p e =
    let f = from way (stands_at way bytes n) p (sym (stands_next way bytes n) ∙ e) in
    let q : Standing = f.before in
    let g : Gone = going way q in
    let on : is_some g.gone.closing ≡ false = goes_on q p g (is_some g.gone.closing) refl (sym (ap (stands_on way) f.stood) ∙ sym (stands_next way bytes n) ∙ e) in
    omega (arith, few_items way bytes n q f.stood, shrinks way q (open_closing g.gone.closing on), ap (λ (x : Standing). length x.rest) f.leads)

over_at : (way : Way) (bytes : List ℕ) (n : ℕ) (x : Option Standing) → stands_at way bytes n ≡ x → length bytes < n → x ≡ None
over_at way bytes n None e more = refl
over_at way bytes n (Some q) e more = absurd (omega (arith, few_items way bytes n q e, more))

-- and then no values come
values_over : (w : World) (way : Way) (bytes : List ℕ) (n : ℕ) → stands_at way bytes n ≡ None → values w way bytes (suc n) ≡ values w way bytes n
unfolding values new_values
values_over w way bytes n none = ap (λ (x : Option Standing). values w way bytes n ++ new_values way x (load_way w way bytes (suc n)).now) none ∙ append-nil (values w way bytes n)

values_last : (w : World) (way : Way) (bytes : List ℕ) (k : ℕ) → values w way bytes (suc (length bytes) + k) ≡ values w way bytes (suc (length bytes))
values_last w way bytes zero = ap (values w way bytes) (omega arith)
values_last w way bytes (suc k) =
    let n : ℕ = suc (length bytes) + k in
    let place : suc (length bytes) + suc k ≡ suc n = omega arith in
    let none : stands_at way bytes n ≡ None = over_at way bytes n (stands_at way bytes n) refl (omega arith) in
    ap (values w way bytes) place ∙ values_over w way bytes n none ∙ values_last w way bytes k

along_last : (w : World) (way : Way) (bytes : List ℕ) (n : ℕ) → AlongAt w way bytes (value_of w way bytes (suc (length bytes))) n
unfolding value_of
along_last w way bytes n = elim (cases_lt n (suc (length bytes))) [
  | inl less ↦ along_way w way bytes (suc (length bytes)) n (omega (arith, less))
  | inr far ↦
      let k : ℕ = n - suc (length bytes) in
      let place : suc (length bytes) + k ≡ n = omega (arith, far) in
      subst (λ (vs : List Value). AlongAt w way bytes (λ (id : ℕ). get_or vs id (Plain kind.None)) n) (ap (values w way bytes) (sym place) ∙ values_last w way bytes k) (along_way w way bytes n n (omega arith))
]

-- as long as more is read, the bytes that are left are those of the lines
pub ready_at : (w : World) (way : Way) (bytes : List ℕ) (n : ℕ) (q : Standing) → stands_at way bytes n ≡ Some q → reads_on way.pickles (load_way w way bytes n).now ≡ true → Ready way.pickles q (load_way w way bytes n)
ready_at w way bytes n q e on =
    let V : ℕ → Value = value_of w way bytes (suc (length bytes)) in
    let p : Standing = standing_first detail.Cut way.pickles bytes in
    let along : Along w V way.pickles (acts_before V way p n) (protocol way p n) (Some q) (load_way w way bytes n) =
    subst (λ (o : Option Standing). Along w V way.pickles (acts_before V way p n) (protocol way p n) o (load_way w way bytes n)) e (along_last w way bytes n) in
    along.1 on

-- ---- values

all_values : World → Way → List ℕ → ℕ → Value
all_values w way bytes = value_of w way bytes (suc (length bytes))

-- behind item n it holds what the state says
holds_item : (w : World) (way : Way) (bytes : List ℕ) (n : ℕ) (q : Standing) → stands_at way bytes n ≡ Some q → HoldsBehind w (all_values w way bytes) (going way q) (load_way w way bytes (suc n)).now
unfolding load_way all_values
holds_item w way bytes n q e =
    let V : ℕ → Value = value_of w way bytes (suc (length bytes)) in
    let x : Onward = load_way w way bytes n in
    let p : Standing = standing_first detail.Cut way.pickles bytes in
    let along : Along w V way.pickles (acts_before V way p n) (protocol way p n) (Some q) x =
    subst (λ (o : Option Standing). Along w V way.pickles (acts_before V way p n) (protocol way p n) o x) e (along_last w way bytes n) in
    (next_on w V way (acts_before V way p n) (protocol way p n) q x.now x.rest x.left along (right_on w way bytes (suc (length bytes)) n (omega (arith, few_items way bytes n q e)) q e)).1

pub state_is : (c : Option Closing) (a s : State) → state_by c a ≡ Some s → a ≡ s
state_is None a s e = cc
state_is (Some closing.Stopped) a s e = cc
state_is (Some (closing.Refused place r)) a s e = absurd cc
state_is (Some (closing.Fault f offset)) a s e = absurd cc

holds_on : (w : World) (way : Way) (bytes : List ℕ) (n : ℕ) (x : Option Standing) (s : State) → stands_at way bytes n ≡ x → state_on way x ≡ Some s → Holds w (all_values w way bytes) s (load_way w way bytes (suc n)).now
holds_on w way bytes n None s e is = absurd cc
holds_on w way bytes n (Some q) s e is =
    let same : (going way q).state ≡ s = state_is (going way q).gone.closing (going way q).state s is in
    subst (λ (a : State). Holds w (all_values w way bytes) a (load_way w way bytes (suc n)).now) same (holds_item w way bytes n q e).holds

holds_at : (w : World) (way : Way) (bytes : List ℕ) (n : ℕ) (s : State) → state_behind way (standing_first detail.Cut way.pickles bytes) n ≡ Some s → Holds w (all_values w way bytes) s (load_way w way bytes n).now
unfolding state_behind load_way
holds_at w way bytes zero s e =
    let same : start (are_many way.pickles) ≡ s = cc in
    subst (λ (a : State). IsSame w (all_values w way bytes) (fresh a) (new_unpickler [])) same (record { stack = refl; metastack = refl; memo = refl; buffers = refl; objects = λ id o f. absurd cc })
holds_at w way bytes (suc n) s e = holds_on w way bytes n (stands_at way bytes n) s refl e

-- no more is read where the lines are over
over_at_none : (w : World) (V : ℕ → Value) (p : Pickles) (acts : List Act) (proto : ℕ) (o : Option Standing) (x : Onward) → o ≡ None → Along w V p acts proto o x → (reads_on p x.now ≡ false) ⊎ (x.rest ≡ [])
over_at_none w V p acts proto None x e along = along.1
over_at_none w V p acts proto (Some q) x e along = absurd cc

-- item by item
pub record ByItems (w : World) (way : Way) (bytes : List ℕ) : Type 0 where
  pub V : ℕ → Value
  pub listed : AreListed w V (acts_before V way (standing_first detail.Cut way.pickles bytes)) (state_behind way (standing_first detail.Cut way.pickles bytes)) (λ n. (load_way w way bytes n).now)
  pub holds : (n : ℕ) (q : Standing) → stands_at way bytes n ≡ Some q → HoldsBehind w V (going way q) (load_way w way bytes (suc n)).now
  pub over : (n : ℕ) → stands_at way bytes n ≡ None → (reads_on way.pickles (load_way w way bytes n).now ≡ false) ⊎ ((load_way w way bytes n).rest ≡ [])

pub by_items : (w : World) (way : Way) (bytes : List ℕ) → ByItems w way bytes
unfolding all_values
by_items w way bytes = record {
  V = all_values w way bytes;
  listed = record {
    acts = λ n. begins w (value_of w way bytes (suc (length bytes))) way.pickles _ _ (stands_at way bytes n) (load_way w way bytes n) (along_last w way bytes n);
    values = holds_at w way bytes;
  };
  holds = holds_item w way bytes;
  over = λ n none. over_at_none w (value_of w way bytes (suc (length bytes))) way.pickles _ _ (stands_at way bytes n) (load_way w way bytes n) none (along_last w way bytes n);
}

pub nothing_beyond : NothingBeyond
nothing_beyond w way bytes = let all = by_items w way bytes in (all.V, all.listed)
