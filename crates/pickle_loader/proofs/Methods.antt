-- What the methods come to that put objects into nothing.
use Rattle.std.proofs.Common.{◌≡◌, ℕ, ◌+◌, ◌-◌, Bool, true, false, cond, List, [], ◌∷◌, ◌++◌, length, map, take, Option, Some, None, refl, sym, ap, subst, ◌∙◌, arith, length-append}
use Rattle.std.specs.Prelude.{slice_get, ℤ, is_some, nat_le, nat_lt, ◌%◌, ◌==◌, if◌then◌else◌}
use Rattle.std.specs.Option.{unwrap_or, option_map}
use Rattle.std.specs.Ordering.{nat_cmp}
use Rattle.std.specs.BTreeMap.{insert_entry}
use Rattle.std.proofs.lemmas.List.{length-map, map-append, append-nil, append_assoc, take-map}
use Rattle.pickle_ops.specs.declared.kind.Kind.{Kind}
use Rattle.pickle_ops.specs.declared.kind.Kind.TheVariants as kind
use Rattle.pickle_ops.specs.declared.row.Row.{Row}
use Rattle.pickle_ops.specs.declared.row.Row.TheVariants as row
use Rattle.pickle_ops.specs.declared.row.Taking.{Taking}
use Rattle.pickle_ops.specs.declared.row.Taking.TheVariants as taking
use Rattle.pickle_ops.specs.declared.row.Cutting.{Cutting}
use Rattle.pickle_ops.specs.declared.row.Cutting.TheVariants as cutting
use Rattle.pickle_ops.specs.Object.{Object}
use Rattle.pickle_ops.specs.Row.{count_of}
use Rattle.pickle_machine.specs.declared.refusal.Refusal.{Refusal}
use Rattle.pickle_machine.specs.declared.refusal.Refusal.TheVariants as refusal
use Rattle.pickle_machine.specs.State.{State}
use Rattle.pickle_machine.specs.Move.{deep, last_of, without, cut, push, put_on, put, memo_at, unless, refusal_of, next_of, taking_refusal, cutting_refusal, if_deep}
use Rattle.pickle_calls.specs.Event.{made_event, event_of, before_of}
use Rattle.pickle_loader.specs.Environment.{PyType, PyTuple, PyList, PyDict, PyFrozenSet, Value, Plain, Own, is_elsewhere, Line, Given, Act, Make, Find, Extension, Call, New, NewEx, Instance, Persist, NextBuffer, Method, Reply, Raises, Answers, Unpickler, World}
use Rattle.pickle_loader.specs.Unpickler.{Step, Ran, Stopped, Raised, item, append, answered, ask, get, tell, acted, make, got, if_able, can_call, can_call_with, instantiated, is_str, load_proto, load_frame, load_binpersid, load_literal, load_next_buffer, load_tuple, load_tuple_of, load_frozenset, load_list, load_dict, load_inst, load_obj, load_newobj, load_newobj_ex, load_stack_global, load_ext, load_reduce, load_pop, load_pop_mark, load_dup, load_get, load_put, load_memoize, load_mark, load_stop, pop, pop_mark, on_top}
use Rattle.pickle_loader.specs.Listed.{listed_of, making, acts_listed}
use Rattle.pickle_loader.specs.Laws.{entries}
use Rattle.pickle_loader.proofs.Images.{image, listed-append, pop_image, on_top_image, mark_image, insert_image, lookup_image, last_image, within_le}
use Rattle.pickle_machine.proofs.Shown.{last_of_more}
use Rattle.pickle_loader.specs.Values.{Origin, AsLiteral, AsMade, AsAnswer, origin, IsFrom, Knows}
use Rattle.pickle_loader.proofs.Pushes.{knows_more, Good, pushed_good, asked_good, listed_pushed, listed_stays, listed_one}

-- ---- where a step is taken

-- a map, an environment, the state on which the move is taken, the protocol, the acts so far, and the place of the item
pub record Here : Type 0 where
  pub V : ℕ → Value
  pub w : World
  pub s : State
  pub proto : ℕ
  pub acts : List Act
  pub place : ℕ
  pub knows : Knows w V acts s.heap

abbrev pub unpickler : Here → Unpickler
unpickler h = image h.V h.s h.proto h.acts

-- what the step of a row tells
abbrev pub fresh_acts : Here → Row → State → List Act
fresh_acts h r t = acts_listed h.V h.proto h.s t (event_of r (before_of h.s) t)

-- a method is right for a row
abbrev pub RowGood : Here → Row → Kind → ℕ → Step → Type 0
RowGood h r k proto step = refusal_of r h.s ≡ None → Good h.V h.w h.s.heap h.acts (next_of r k h.place h.s) (fresh_acts h r (next_of r k h.place h.s)) proto step

-- ---- parts

pub passes : (b : Bool) (r : Refusal) (rest : Option Refusal) → unless b r rest ≡ None → (b ≡ true) × (rest ≡ None)
passes true r rest e = (refl, e)
passes false r rest e = absurd cc

pub nothing_new : (xs new : List Act) → new ≡ [] → xs ≡ xs ++ new
nothing_new xs new e = sym (append-nil xs) ∙ ap (λ (l : List Act). xs ++ l) (sym e)

-- acts that are not listed
pub quiet : (acts : List Act) (a : Act) → listed_of (a ∷ []) ≡ [] → listed_of (acts ++ a ∷ []) ≡ listed_of acts
quiet acts a e = listed_one acts a ∙ ap (λ (l : List Act). listed_of acts ++ l) e ∙ append-nil (listed_of acts)

pub raised_good : (V : ℕ → Value) (w : World) (heap : List Object) (acts : List Act) (t : State) (new : List Act) (proto : ℕ) (done : List Act) → listed_of done ≡ listed_of acts
    → Good V w heap acts t new proto (Raised done)
raised_good V w heap acts t new proto done e = (new, ap (λ (l : List Act). l ++ new) e)

-- the heap stays
pub stays_good : (h : Here) (t : State) (proto : ℕ) (q : Unpickler) (more : List Act) → t.heap ≡ h.s.heap → q ≡ image h.V t proto q.acts → q.acts ≡ h.acts ++ more → listed_of q.acts ≡ listed_of h.acts
    → Good h.V h.w h.s.heap h.acts t (acts_listed h.V h.proto h.s t (made_event t.heap (length h.s.heap))) proto (Ran q)
stays_good h t proto q more e is acts listed foretold =
    (is, subst (λ (l : List Act). Knows h.w h.V l t.heap) (sym acts) (knows_more h.w h.V h.acts more t.heap (subst (λ (l : List Object). Knows h.w h.V h.acts l) (sym e) h.knows)), listed ∙ nothing_new _ _ (listed_stays h.V h.proto h.s t h.s.heap e))

-- the same behind a method that runs unseen
quiet_good : (h : Here) (r : Reply) (t : State) (proto : ℕ) (u : Unpickler) → t.heap ≡ h.s.heap → u ≡ image h.V t proto u.acts → u.acts ≡ h.acts
    → Good h.V h.w h.s.heap h.acts t (acts_listed h.V h.proto h.s t (made_event t.heap (length h.s.heap))) proto (answered r Method u (λ v q. Ran q))
quiet_good h Raises t proto u e is same = raised_good h.V h.w h.s.heap h.acts t _ proto (u.acts ++ Method ∷ []) (quiet u.acts Method refl ∙ ap listed_of same)
quiet_good h (Answers x) t proto u e is same =
    stays_good h t proto (acted Method u) (Method ∷ []) e (ap (λ (q : Unpickler). acted Method q) is) (ap (λ (l : List Act). l ++ Method ∷ []) same) (quiet u.acts Method refl ∙ ap listed_of same)

-- ---- methods that push

pub frame_good : (h : Here) (k : Kind) → RowGood h row.Nothing k h.proto (load_frame (unpickler h))
frame_good h k e = stays_good h h.s h.proto (unpickler h) [] refl refl (sym (append-nil h.acts)) refl

pub proto_good : (h : Here) (k : Kind) (n : ℕ) → RowGood h (row.Protocol n) k n (load_proto n (unpickler h))
proto_good h k n e =
    let fine = passes (nat_le n 5) (refusal.BadProtocol n) None e in
    subst (λ (b : Bool). Good h.V h.w h.s.heap h.acts h.s (acts_listed h.V h.proto h.s h.s (made_event h.s.heap (length h.s.heap))) n (if b then Ran (record (unpickler h) { proto = n }) else Raised h.acts)) (sym fine.0)
    (stays_good h h.s n (record (unpickler h) { proto = n }) [] refl refl (sym (append-nil h.acts)) refl)

pub literal_good : (h : Here) (k : Kind) → origin k [] ≡ AsLiteral → ((vs : List Value) → making h.proto k vs ≡ []) → RowGood h row.Push k h.proto (load_literal k (unpickler h))
literal_good h k from none e =
    pushed_good h.V h.w h.s k [] h.proto h.acts h.acts _ (Plain k) (subst (λ (x : Origin). IsFrom h.w h.acts k (Plain k) x) (sym from) refl) h.knows (nothing_new _ _ (listed_pushed h.V h.proto h.s (push k [] h.s) h.s.heap _ refl ∙ none []))

-- a container is made of what was taken
made_good : (h : Here) (u : State) (k : Kind) (parts : List ℕ) (t : PyType) (items : List Value) (more : List Act) → u.heap ≡ h.s.heap → listed_of (h.acts ++ more) ≡ listed_of h.acts → origin k (map h.V parts) ≡ AsMade t items → ((vs : List Value) → making h.proto k vs ≡ [])
    → Good h.V h.w u.heap h.acts (push k parts u) (acts_listed h.V h.proto h.s (push k parts u) (made_event (push k parts u).heap (length u.heap))) h.proto (make t items (image h.V u h.proto (h.acts ++ more)))
made_good h u k parts t items more e same from none =
    let acts : List Act = h.acts ++ more in
    pushed_good h.V h.w u k parts h.proto h.acts (acts ++ Make t items ∷ []) _ (Own t (length acts))
    (subst (λ (x : Origin). IsFrom h.w (acts ++ Make t items ∷ []) k (Own t (length acts)) x) (sym from) (length acts, refl, last_of_more acts (Make t items)))
    (knows_more h.w h.V acts (Make t items ∷ []) u.heap (knows_more h.w h.V h.acts more u.heap (subst (λ (l : List Object). Knows h.w h.V h.acts l) (sym e) h.knows)))
    (quiet acts (Make t items) refl ∙ same ∙ nothing_new _ _ (listed_pushed h.V h.proto h.s (push k parts u) u.heap _ refl ∙ none _))

-- with no act before it
made_at_once : (h : Here) (u : State) (k : Kind) (parts : List ℕ) (t : PyType) (items : List Value) → u.heap ≡ h.s.heap → origin k (map h.V parts) ≡ AsMade t items → ((vs : List Value) → making h.proto k vs ≡ [])
    → Good h.V h.w u.heap h.acts (push k parts u) (acts_listed h.V h.proto h.s (push k parts u) (made_event (push k parts u).heap (length u.heap))) h.proto (make t items (image h.V u h.proto h.acts))
made_at_once h u k parts t items e from none =
    subst (λ (l : List Act). Good h.V h.w u.heap h.acts (push k parts u) (acts_listed h.V h.proto h.s (push k parts u) (made_event (push k parts u).heap (length u.heap))) h.proto (make t items (image h.V u h.proto l))) (append-nil h.acts)
    (made_good h u k parts t items [] e (ap listed_of (append-nil h.acts)) from none)

pub empty_good : (h : Here) (k : Kind) (t : PyType) (items : List Value) → origin k [] ≡ AsMade t items → ((vs : List Value) → making h.proto k vs ≡ []) → RowGood h row.Push k h.proto (make t items (unpickler h))
empty_good h k t items from none e = made_at_once h h.s k [] t items refl from none

-- the environment is asked for an object
listed_new : (h : Here) (u : State) (k : Kind) (parts : List ℕ) (a : Act) (acts : List Act) → listed_of acts ≡ listed_of h.acts → listed_of (a ∷ []) ≡ making h.proto k (map h.V parts)
    → listed_of (acts ++ a ∷ []) ≡ listed_of h.acts ++ acts_listed h.V h.proto h.s (push k parts u) (made_event (push k parts u).heap (length u.heap))
listed_new h u k parts a acts same is =
    listed_one acts a ∙ ap (λ (l : List Act). l ++ listed_of (a ∷ [])) same ∙ ap (λ (l : List Act). listed_of h.acts ++ l) (is ∙ sym (listed_pushed h.V h.proto h.s (push k parts u) u.heap _ refl))

pub got_good : (h : Here) (u : State) (k : Kind) (parts : List ℕ) (a : ℕ → Act) → u.heap ≡ h.s.heap → origin k (map h.V parts) ≡ AsAnswer a → listed_of (a h.proto ∷ []) ≡ making h.proto k (map h.V parts)
    → Good h.V h.w u.heap h.acts (push k parts u) (acts_listed h.V h.proto h.s (push k parts u) (made_event (push k parts u).heap (length u.heap))) h.proto (get h.w (a h.proto) (image h.V u h.proto h.acts))
got_good h u k parts a e from is =
    asked_good h.V h.w (h.w.reply h.acts (a h.proto)) u k parts h.proto h.acts h.acts _ a from (subst (λ (l : List Object). Knows h.w h.V h.acts l) (sym e) h.knows) (listed_new h u k parts (a h.proto) h.acts refl is)

-- where it is able to: else it raises, and what runs before is not listed
able_by : (h : Here) (heap : List Object) (t : State) (new : List Act) (u : State) (r : Reply) → Good h.V h.w heap h.acts t new h.proto (answered r Method (image h.V u h.proto h.acts) (λ v q. Raised q.acts))
able_by h heap t new u Raises = raised_good h.V h.w heap h.acts t new h.proto (h.acts ++ Method ∷ []) (quiet h.acts Method refl)
able_by h heap t new u (Answers x) = raised_good h.V h.w heap h.acts t new h.proto (h.acts ++ Method ∷ []) (quiet h.acts Method refl)

able_good : (h : Here) (heap : List Object) (t : State) (new : List Act) (u : State) (b : Bool) (step : Step) → Good h.V h.w heap h.acts t new h.proto step
    → Good h.V h.w heap h.acts t new h.proto (if_able h.w b (image h.V u h.proto h.acts) step)
able_good h heap t new u true step good = good
able_good h heap t new u false step good = able_by h heap t new u (h.w.reply h.acts Method)

pub able_got : (h : Here) (u : State) (k : Kind) (parts : List ℕ) (a : ℕ → Act) (b : Bool) → u.heap ≡ h.s.heap → origin k (map h.V parts) ≡ AsAnswer a → listed_of (a h.proto ∷ []) ≡ making h.proto k (map h.V parts)
    → Good h.V h.w u.heap h.acts (push k parts u) (acts_listed h.V h.proto h.s (push k parts u) (made_event (push k parts u).heap (length u.heap))) h.proto (if_able h.w b (image h.V u h.proto h.acts) (get h.w (a h.proto) (image h.V u h.proto h.acts)))
able_got h u k parts a b e from is =
    able_good h u.heap (push k parts u) (acts_listed h.V h.proto h.s (push k parts u) (made_event (push k parts u).heap (length u.heap))) u b (get h.w (a h.proto) (image h.V u h.proto h.acts)) (got_good h u k parts a e from is)

pub get_good : (h : Here) (k : Kind) (a : ℕ → Act) → origin k [] ≡ AsAnswer a → listed_of (a h.proto ∷ []) ≡ making h.proto k [] → RowGood h row.Push k h.proto (get h.w (a h.proto) (unpickler h))
get_good h k a from is e = got_good h h.s k [] a refl from is

pub ext_good : (h : Here) (n : ℤ) → RowGood h (row.Extension n) (kind.Ext n) h.proto (load_ext h.w n (unpickler h))
ext_good h n e = got_good h h.s (kind.Ext n) [] (λ proto. Extension n) refl refl refl

-- the buffers are counted besides
pub buffer_good : (h : Here) (k : Kind) → RowGood h row.Buffer k h.proto (load_next_buffer h.w (unpickler h))
buffer_good h k e =
    let u : State = record h.s { buffers = h.s.buffers + 1 } in
    got_good h u (kind.Buffer h.s.buffers) [] (λ proto. NextBuffer h.s.buffers) refl refl refl

-- ---- methods that take values

-- of a row that takes objects
pub taken_good : (h : Here) (t : Taking) (k : Kind) (go : List Value → Unpickler → Step)
    → (taking_refusal t h.s ≡ None → Good h.V h.w h.s.heap h.acts (push k (last_of (count_of t) h.s) (without (count_of t) h.s)) (fresh_acts h (row.Take t) (push k (last_of (count_of t) h.s) (without (count_of t) h.s))) h.proto (go (map h.V (last_of (count_of t) h.s)) (image h.V (without (count_of t) h.s) h.proto h.acts)))
    → RowGood h (row.Take t) k h.proto (pop (count_of t) (unpickler h) go)
taken_good h t k go good e =
    let fine = passes (nat_le (count_of t) (length h.s.top)) refusal.Underflow (taking_refusal t h.s) e in
    subst (λ (x : Step). Good h.V h.w h.s.heap h.acts (push k (last_of (count_of t) h.s) (without (count_of t) h.s)) (fresh_acts h (row.Take t) (push k (last_of (count_of t) h.s) (without (count_of t) h.s))) h.proto x)
    (sym (pop_image h.V h.s h.proto h.acts (count_of t) go fine.0)) (good fine.1)

pub tuple_of_good : (h : Here) (t : Taking) → RowGood h (row.Take t) kind.Tuple h.proto (load_tuple_of (count_of t) (unpickler h))
tuple_of_good h t =
    taken_good h t kind.Tuple (λ items q. make PyTuple items q) (λ e. made_at_once h (without (count_of t) h.s) kind.Tuple (last_of (count_of t) h.s) PyTuple (map h.V (last_of (count_of t) h.s)) refl refl (λ vs. refl))

pub binpersid_good : (h : Here) → RowGood h (row.Take taking.One) kind.Persistent h.proto (load_binpersid h.w (unpickler h))
binpersid_good h = taken_good h taking.One kind.Persistent (λ vs q. get h.w (Persist (Given (item 0 vs))) q) (λ e. got_good h (without 1 h.s) kind.Persistent (last_of 1 h.s) (λ proto. Persist (Given (item 0 (map h.V (last_of 1 h.s))))) refl refl refl)

pub reduce_good : (h : Here) → RowGood h (row.Take taking.Call) kind.Call h.proto (load_reduce h.w (unpickler h))
reduce_good h = taken_good h taking.Call kind.Call (λ vs q. if_able h.w (can_call (item 0 vs) (item 1 vs)) q (get h.w (Call (item 0 vs) (item 1 vs)) q)) (λ e. able_got h (without 2 h.s) kind.Call (last_of 2 h.s) (λ proto. Call (item 0 (map h.V (last_of 2 h.s))) (item 1 (map h.V (last_of 2 h.s)))) (can_call (item 0 (map h.V (last_of 2 h.s))) (item 1 (map h.V (last_of 2 h.s)))) refl refl refl)

pub newobj_good : (h : Here) → RowGood h (row.Take taking.Call) kind.New h.proto (load_newobj h.w (unpickler h))
newobj_good h = taken_good h taking.Call kind.New (λ vs q. if_able h.w (can_call (item 0 vs) (item 1 vs)) q (get h.w (New (item 0 vs) (item 1 vs)) q)) (λ e. able_got h (without 2 h.s) kind.New (last_of 2 h.s) (λ proto. New (item 0 (map h.V (last_of 2 h.s))) (item 1 (map h.V (last_of 2 h.s)))) (can_call (item 0 (map h.V (last_of 2 h.s))) (item 1 (map h.V (last_of 2 h.s)))) refl refl refl)

pub newobj_ex_good : (h : Here) → RowGood h (row.Take taking.CallWith) kind.NewEx h.proto (load_newobj_ex h.w (unpickler h))
newobj_ex_good h =
    taken_good h taking.CallWith kind.NewEx (λ vs q. if_able h.w (can_call_with h.w h.acts (item 0 vs) (item 1 vs) (item 2 vs)) q (get h.w (NewEx (item 0 vs) (item 1 vs) (item 2 vs)) q)) (λ e. able_got h (without 3 h.s) kind.NewEx (last_of 3 h.s) (λ proto. NewEx (item 0 (map h.V (last_of 3 h.s))) (item 1 (map h.V (last_of 3 h.s))) (item 2 (map h.V (last_of 3 h.s)))) (can_call_with h.w h.acts (item 0 (map h.V (last_of 3 h.s))) (item 1 (map h.V (last_of 3 h.s))) (item 2 (map h.V (last_of 3 h.s)))) refl refl refl)

by_strings : (V : ℕ → Value) (w : World) (heap : List Object) (acts : List Act) (t : State) (new : List Act) (proto : ℕ) (b c : Bool) (x : Step) (done : List Act) → listed_of done ≡ listed_of acts
    → Good V w heap acts t new proto x → Good V w heap acts t new proto (if b then (if c then x else Raised done) else Raised done)
by_strings V w heap acts t new proto true true x done e g = g
by_strings V w heap acts t new proto true false x done e g = raised_good V w heap acts t new proto done e
by_strings V w heap acts t new proto false c x done e g = raised_good V w heap acts t new proto done e

pub stack_global_good : (h : Here) → RowGood h (row.Take taking.Names) kind.StackGlobal h.proto (load_stack_global h.w (unpickler h))
stack_global_good h =
    taken_good h taking.Names kind.StackGlobal
    (λ vs q. if is_str h.w (item 1 vs) then (if is_str h.w (item 0 vs) then get h.w (Find q.proto (Given (item 0 vs)) (Given (item 1 vs))) q else Raised q.acts) else Raised q.acts)
    (λ e. by_strings h.V h.w h.s.heap h.acts (push kind.StackGlobal (last_of 2 h.s) (without 2 h.s)) _ h.proto (is_str h.w (item 1 (map h.V (last_of 2 h.s)))) (is_str h.w (item 0 (map h.V (last_of 2 h.s)))) _ h.acts refl
    (got_good h (without 2 h.s) kind.StackGlobal (last_of 2 h.s) (λ proto. Find proto (Given (item 0 (map h.V (last_of 2 h.s)))) (Given (item 1 (map h.V (last_of 2 h.s))))) refl refl refl))

-- ---- methods that take what is above the mark

pub cut_good : (h : Here) (c : Cutting) (k : Kind) (go : List Value → Unpickler → Step)
    → (cutting_refusal c h.s ≡ None → Good h.V h.w h.s.heap h.acts (push k h.s.top (cut h.s)) (fresh_acts h (row.Cut c) (push k h.s.top (cut h.s))) h.proto (go (map h.V h.s.top) (image h.V (cut h.s) h.proto h.acts)))
    → RowGood h (row.Cut c) k h.proto (pop_mark (unpickler h) go)
cut_good h c k go good e =
    let fine = passes (nat_lt 0 (length h.s.marked)) refusal.NoMark (cutting_refusal c h.s) e in
    subst (λ (x : Step). Good h.V h.w h.s.heap h.acts (push k h.s.top (cut h.s)) (fresh_acts h (row.Cut c) (push k h.s.top (cut h.s))) h.proto x)
    (sym (mark_image h.V h.s h.proto h.acts go fine.0)) (good fine.1)

pub tuple_good : (h : Here) → RowGood h (row.Cut cutting.Any) kind.Tuple h.proto (load_tuple (unpickler h))
tuple_good h = cut_good h cutting.Any kind.Tuple (λ items q. make PyTuple items q) (λ e. made_at_once h (cut h.s) kind.Tuple h.s.top PyTuple (map h.V h.s.top) refl refl (λ vs. refl))

pub list_good : (h : Here) → RowGood h (row.Cut cutting.Any) kind.List h.proto (load_list (unpickler h))
list_good h = cut_good h cutting.Any kind.List (λ items q. make PyList items q) (λ e. made_at_once h (cut h.s) kind.List h.s.top PyList (map h.V h.s.top) refl refl (λ vs. refl))

-- behind a method that runs unseen
frozen : (h : Here) (r : Reply) → Good h.V h.w h.s.heap h.acts (push kind.FrozenSet h.s.top (cut h.s)) (fresh_acts h (row.Cut cutting.Any) (push kind.FrozenSet h.s.top (cut h.s))) h.proto
    (answered r Method (image h.V (cut h.s) h.proto h.acts) (λ v q. make PyFrozenSet (map h.V h.s.top) q))
frozen h Raises = raised_good h.V h.w h.s.heap h.acts (push kind.FrozenSet h.s.top (cut h.s)) _ h.proto (h.acts ++ Method ∷ []) (quiet h.acts Method refl)
frozen h (Answers x) = made_good h (cut h.s) kind.FrozenSet h.s.top PyFrozenSet (map h.V h.s.top) (Method ∷ []) refl (quiet h.acts Method refl) refl (λ vs. refl)

pub frozenset_good : (h : Here) → RowGood h (row.Cut cutting.Any) kind.FrozenSet h.proto (load_frozenset h.w (unpickler h))
frozenset_good h = cut_good h cutting.Any kind.FrozenSet (λ items q. ask h.w Method q (λ v r. make PyFrozenSet items r)) (λ e. frozen h (h.w.reply h.acts Method))

dict_by : (h : Here) (r : Reply) (b : Bool) → Good h.V h.w h.s.heap h.acts (push kind.Dict h.s.top (cut h.s)) (fresh_acts h (row.Cut cutting.Pairs) (push kind.Dict h.s.top (cut h.s))) h.proto
    (answered r Method (image h.V (cut h.s) h.proto h.acts) (λ v q. if b then make PyDict (map h.V h.s.top) q else Raised q.acts))
dict_by h Raises b = raised_good h.V h.w h.s.heap h.acts (push kind.Dict h.s.top (cut h.s)) _ h.proto (h.acts ++ Method ∷ []) (quiet h.acts Method refl)
dict_by h (Answers x) false = raised_good h.V h.w h.s.heap h.acts (push kind.Dict h.s.top (cut h.s)) _ h.proto (h.acts ++ Method ∷ []) (quiet h.acts Method refl)
dict_by h (Answers x) true = made_good h (cut h.s) kind.Dict h.s.top PyDict (map h.V h.s.top) (Method ∷ []) refl (quiet h.acts Method refl) refl (λ vs. refl)

pub dict_good : (h : Here) → RowGood h (row.Cut cutting.Pairs) kind.Dict h.proto (load_dict h.w (unpickler h))
dict_good h =
    cut_good h cutting.Pairs kind.Dict (λ items q. ask h.w Method q (λ v r. if length items % 2 == 0 then make PyDict items r else Raised r.acts))
    (λ e. dict_by h (h.w.reply h.acts Method) (length (map h.V h.s.top) % 2 == 0))

-- INST asks twice
two_listed : (h : Here) (a b : Act) (k : Kind) (u : State) (parts : List ℕ) → listed_of (a ∷ b ∷ []) ≡ making h.proto k (map h.V parts)
    → listed_of ((h.acts ++ a ∷ []) ++ b ∷ []) ≡ listed_of h.acts ++ acts_listed h.V h.proto h.s (push k parts u) (made_event (push k parts u).heap (length u.heap))
two_listed h a b k u parts is =
    ap listed_of (append_assoc h.acts (a ∷ []) (b ∷ [])) ∙ listed-append h.acts (a ∷ b ∷ []) ∙ ap (λ (l : List Act). listed_of h.acts ++ l) (is ∙ sym (listed_pushed h.V h.proto h.s (push k parts u) u.heap _ refl))

inst_by : (h : Here) (first second : List ℕ) (r : Reply) → nat_lt 0 (length h.s.marked) ≡ true
    → Good h.V h.w h.s.heap h.acts (push (kind.Inst (record { first = first; second = second })) h.s.top (cut h.s)) (fresh_acts h (row.Cut cutting.Any) (push (kind.Inst (record { first = first; second = second })) h.s.top (cut h.s))) h.proto
    (answered r (Find h.proto (Line first) (Line second)) (unpickler h) (λ found p. pop_mark p (λ items q. get h.w (Instance None items) q)))
inst_by h first second Raises marked =
    let a : Act = Find h.proto (Line first) (Line second) in
    let b : Act = Instance None (map h.V h.s.top) in (
      b ∷ [],
      ap (λ (l : List Act). l ++ b ∷ []) (listed_one h.acts a) ∙ append_assoc (listed_of h.acts) (a ∷ []) (b ∷ [])
          ∙ ap (λ (l : List Act). listed_of h.acts ++ l) (sym (listed_pushed h.V h.proto h.s (push (kind.Inst (record { first = first; second = second })) h.s.top (cut h.s)) h.s.heap _ refl)),
    )
inst_by h first second (Answers t) marked =
    let a : Act = Find h.proto (Line first) (Line second) in
    let k : Kind = kind.Inst (record { first = first; second = second }) in
    subst (λ (x : Step). Good h.V h.w h.s.heap h.acts (push k h.s.top (cut h.s)) (fresh_acts h (row.Cut cutting.Any) (push k h.s.top (cut h.s))) h.proto x)
    (sym (mark_image h.V h.s h.proto (h.acts ++ a ∷ []) (λ items q. get h.w (Instance None items) q) marked))
    (asked_good h.V h.w (h.w.reply (h.acts ++ a ∷ []) (Instance None (map h.V h.s.top))) (cut h.s) k h.s.top h.proto h.acts (h.acts ++ a ∷ []) _ (λ proto. Instance None (map h.V h.s.top)) refl (knows_more h.w h.V h.acts (a ∷ []) h.s.heap h.knows)
    (two_listed h a (Instance None (map h.V h.s.top)) k (cut h.s) h.s.top refl))

pub inst_good : (h : Here) (first second : List ℕ) → RowGood h (row.Cut cutting.Any) (kind.Inst (record { first = first; second = second })) h.proto (load_inst h.w first second (unpickler h))
inst_good h first second e =
    let fine = passes (nat_lt 0 (length h.s.marked)) refusal.NoMark None e in
    inst_by h first second (h.w.reply h.acts (Find h.proto (Line first) (Line second))) fine.0

-- OBJ has a class at least
pub obj_by : (h : Here) (xs : List ℕ) → h.s.top ≡ xs → nat_le 1 (length xs) ≡ true
    → Good h.V h.w h.s.heap h.acts (push kind.Obj h.s.top (cut h.s)) (fresh_acts h (row.Cut cutting.Callable) (push kind.Obj h.s.top (cut h.s))) h.proto (instantiated h.w (map h.V xs) (image h.V (cut h.s) h.proto h.acts))
obj_by h [] e m = absurd cc
obj_by h (x ∷ xs) e m =
    able_got h (cut h.s) kind.Obj h.s.top (λ proto. Instance (Some (h.V x)) (map h.V xs)) (is_elsewhere (h.V x)) refl (ap (λ (l : List ℕ). origin kind.Obj (map h.V l)) e)
    (ap (λ (l : List ℕ). making h.proto kind.Obj (map h.V l)) (sym e))

pub obj_good : (h : Here) → RowGood h (row.Cut cutting.Callable) kind.Obj h.proto (load_obj h.w (unpickler h))
obj_good h =
    cut_good h cutting.Callable kind.Obj (λ items q. instantiated h.w items q) (λ e. obj_by h h.s.top refl (passes (nat_le 1 (length h.s.top)) refusal.Underflow _ e).0)

-- ---- methods that move values

cut_quietly : (h : Here) → nat_lt 0 (length h.s.marked) ≡ true
    → Good h.V h.w h.s.heap h.acts (cut h.s) (acts_listed h.V h.proto h.s (cut h.s) (made_event h.s.heap (length h.s.heap))) h.proto (load_pop_mark h.w (unpickler h))
cut_quietly h marked =
    subst (λ (x : Step). Good h.V h.w h.s.heap h.acts (cut h.s) (acts_listed h.V h.proto h.s (cut h.s) (made_event h.s.heap (length h.s.heap))) h.proto x)
    (sym (mark_image h.V h.s h.proto h.acts (λ items q. tell h.w Method q) marked))
    (quiet_good h (h.w.reply h.acts Method) (cut h.s) h.proto (image h.V (cut h.s) h.proto h.acts) refl refl refl)

pub pop_mark_good : (h : Here) (k : Kind) → RowGood h row.PopMark k h.proto (load_pop_mark h.w (unpickler h))
pop_mark_good h k e = cut_quietly h (passes (nat_lt 0 (length h.s.marked)) refusal.NoMark None e).0

pub mark_good : (h : Here) (k : Kind) → RowGood h row.Mark k h.proto (load_mark (unpickler h))
mark_good h k e = stays_good h (next_of row.Mark k h.place h.s) h.proto (image h.V (next_of row.Mark k h.place h.s) h.proto h.acts) [] refl refl (sym (append-nil h.acts)) refl

top_good : (h : Here) (t : State) (new : List Act) (proto : ℕ) (go : Value → Step) (rest : Option Refusal) → if_deep 1 h.s.top rest ≡ None
    → Good h.V h.w h.s.heap h.acts t new proto (go (h.V (deep 0 h.s.top))) → Good h.V h.w h.s.heap h.acts t new proto (on_top (unpickler h) go)
top_good h t new proto go rest e good =
    let fine = passes (nat_le 1 (length h.s.top)) refusal.Underflow rest e in
    subst (λ (x : Step). Good h.V h.w h.s.heap h.acts t new proto x) (sym (on_top_image h.V h.s h.proto h.acts go fine.0)) good

-- a value that is there is put on
put_on_image : (h : Here) (id : ℕ) → append (h.V id) (unpickler h) ≡ image h.V (put_on id h.s) h.proto h.acts
put_on_image h id = ap (λ (l : List Value). record (unpickler h) { stack = l }) (sym (map-append h.V h.s.top (id ∷ [])))

pub dup_good : (h : Here) (k : Kind) → RowGood h row.Dup k h.proto (load_dup (unpickler h))
dup_good h k e =
    top_good h (put_on (deep 0 h.s.top) h.s) _ h.proto (λ v. Ran (append v (unpickler h))) None e
    (stays_good h (put_on (deep 0 h.s.top) h.s) h.proto (append (h.V (deep 0 h.s.top)) (unpickler h)) [] refl (put_on_image h (deep 0 h.s.top)) (sym (append-nil h.acts)) refl)

pub put_good : (h : Here) (k : Kind) (key : ℕ) → RowGood h (row.Put key) k h.proto (load_put h.w key (unpickler h))
put_good h k key e =
    let u : Unpickler = record (unpickler h) { memo = insert_entry nat_cmp (entries h.V h.s.memo) key (h.V (deep 0 h.s.top)) } in
    top_good h (put key h.s) _ h.proto (λ v. tell h.w Method (record (unpickler h) { memo = insert_entry nat_cmp (entries h.V h.s.memo) key v })) None e
    (quiet_good h (h.w.reply h.acts Method) (put key h.s) h.proto u refl (ap (λ (m : List (ℕ × Value)). record (unpickler h) { memo = m }) (insert_image h.V h.s.memo key (deep 0 h.s.top))) refl)

pub memoize_good : (h : Here) (k : Kind) → RowGood h row.Memoize k h.proto (load_memoize h.w (unpickler h))
memoize_good h k e =
    subst (λ (n : ℕ). Good h.V h.w h.s.heap h.acts (put (length h.s.memo) h.s) (fresh_acts h row.Memoize (put (length h.s.memo) h.s)) h.proto (load_put h.w n (unpickler h))) (sym (length-map h.s.memo (λ (x : ℕ × ℕ). (x.0, h.V x.1)))) (put_good h k (length h.s.memo) e)

get_by : (h : Here) (k : Kind) (key : ℕ) (x : Option ℕ) → memo_at key h.s ≡ x → RowGood h (row.Get key) k h.proto (got (option_map h.V x) (unpickler h))
get_by h k key None is e = let no : unless false (refusal.NoMemoEntry key) None ≡ None = ap (λ (y : Option ℕ). unless (is_some y) (refusal.NoMemoEntry key) None) (sym is) ∙ e in absurd cc
get_by h k key (Some id) is e =
    let same : put_on id h.s ≡ put_on (unwrap_or (memo_at key h.s) 0) h.s = ap (λ (y : Option ℕ). put_on (unwrap_or y 0) h.s) (sym is) in
    stays_good h (put_on (unwrap_or (memo_at key h.s) 0) h.s) h.proto (append (h.V id) (unpickler h)) [] refl (put_on_image h id ∙ ap (λ (t : State). image h.V t h.proto h.acts) same) (sym (append-nil h.acts)) refl

pub memo_get_good : (h : Here) (k : Kind) (key : ℕ) → RowGood h (row.Get key) k h.proto (load_get key (unpickler h))
memo_get_good h k key e =
    subst (λ (x : Option Value). Good h.V h.w h.s.heap h.acts (next_of (row.Get key) k h.place h.s) (fresh_acts h (row.Get key) (next_of (row.Get key) k h.place h.s)) h.proto (got x (unpickler h)))
    (sym (lookup_image h.V h.s.memo key)) (get_by h k key (memo_at key h.s) refl e)

pub stop_good : (h : Here) (k : Kind) → RowGood h row.Stop k 0 (load_stop (unpickler h))
stop_good h k e =
    let fine = passes (nat_le 1 (length h.s.top)) refusal.Underflow None e in
    let results : List ℕ = h.s.results ++ deep 0 h.s.top ∷ [] in
    let place : length results - 1 ≡ length h.s.results = omega (arith, length-append h.s.results (deep 0 h.s.top ∷ [])) in
    let last : slice_get results (length results - 1) ≡ Some (deep 0 h.s.top) = ap (slice_get results) place ∙ last_of_more h.s.results (deep 0 h.s.top) in
    let value : item 0 (map h.V (last_of 1 h.s)) ≡ h.V (deep 0 h.s.top) = last_image h.V h.s (omega (arith, within_le 1 (length h.s.top) fine.0)) in
    subst (λ (x : Step). Good h.V h.w h.s.heap h.acts (next_of row.Stop k h.place h.s) (fresh_acts h row.Stop (next_of row.Stop k h.place h.s)) 0 x)
    (sym (pop_image h.V h.s h.proto h.acts 1 (λ vs q. Stopped (item 0 vs) q) fine.0))
    (nothing_new _ _ (listed_stays h.V h.proto h.s (next_of row.Stop k h.place h.s) h.s.heap refl), h.knows, refl, refl, omega (arith, length-append h.s.results (deep 0 h.s.top ∷ [])), (deep 0 h.s.top, last, value), refl)

-- POP takes a value, or the mark
popped : Here → Unpickler
popped h = record (unpickler h) { stack = take (length (map h.V h.s.top) - 1) (map h.V h.s.top) }

PopGood : Here → Bool → Step → Type 0
PopGood h c x = Good h.V h.w h.s.heap h.acts (cond c (without 1 h.s) (cut h.s)) (acts_listed h.V h.proto h.s (cond c (without 1 h.s) (cut h.s)) (made_event (cond c (without 1 h.s) (cut h.s)).heap (length h.s.heap))) h.proto x

pop_by : (h : Here) (b : Bool) → (if b then None else unless (nat_lt 0 (length h.s.marked)) refusal.Underflow None) ≡ None → PopGood h b (if b then tell h.w Method (popped h) else load_pop_mark h.w (unpickler h))
unfolding popped PopGood
pop_by h true e =
    let stack : take (length (map h.V h.s.top) - 1) (map h.V h.s.top) ≡ map h.V (take (length h.s.top - 1) h.s.top) = ap (λ (m : ℕ). take (m - 1) (map h.V h.s.top)) (length-map h.s.top h.V) ∙ take-map h.V (length h.s.top - 1) h.s.top in
    quiet_good h (h.w.reply h.acts Method) (without 1 h.s) h.proto (popped h) refl (ap (λ (l : List Value). record (unpickler h) { stack = l }) stack) refl
pop_by h false e = cut_quietly h (passes (nat_lt 0 (length h.s.marked)) refusal.Underflow None e).0

pub pop_good : (h : Here) (k : Kind) → RowGood h row.Pop k h.proto (load_pop h.w (unpickler h))
unfolding popped PopGood
pop_good h k e =
    subst (λ (n : ℕ). PopGood h (nat_lt 0 (length h.s.top)) (if nat_lt 0 n then tell h.w Method (popped h) else load_pop_mark h.w (unpickler h)))
    (sym (length-map h.s.top h.V)) (pop_by h (nat_lt 0 (length h.s.top)) e)
