-- The unpickler raises where something is missing.
use Rattle.std.proofs.Common.{◌≡◌, ℕ, ◌+◌, ◌-◌, Bool, true, false, cond, List, [], ◌∷◌, length, map, take, drop, Option, Some, None, refl, sym, ap, subst, ◌∙◌, arith}
use Rattle.std.proofs.lemmas.Bool.{ltb-false, leb-false}
use Rattle.std.proofs.lemmas.List.{length-map, length-take-le}
use Rattle.std.specs.Prelude.{◌%◌, ◌==◌, ◌||◌, nat_le, nat_lt, is_some, if◌then◌else◌}
use Rattle.std.specs.Option.{option_map}
use Rattle.std.specs.Ordering.{nat_cmp}
use Rattle.std.specs.BTreeMap.{insert_entry}
use Rattle.pickle_ops.specs.declared.opcode.Opcode.{Opcode}
use Rattle.pickle_ops.specs.declared.opcode.Opcode.TheVariants as op
use Rattle.pickle_ops.specs.declared.form.Form.TheVariants as form
use Rattle.pickle_ops.specs.declared.class.Demand.TheVariants as demand
use Rattle.pickle_ops.specs.declared.row.Row.TheVariants as row
use Rattle.pickle_ops.specs.declared.row.Taking.{Taking}
use Rattle.pickle_ops.specs.declared.row.Taking.TheVariants as taking
use Rattle.pickle_ops.specs.declared.row.Cutting.{Cutting}
use Rattle.pickle_ops.specs.declared.row.Cutting.TheVariants as cutting
use Rattle.pickle_ops.specs.declared.row.Filling.{Filling}
use Rattle.pickle_ops.specs.declared.row.Filling.TheVariants as filling
use Rattle.pickle_ops.specs.Table.{form_of}
use Rattle.pickle_ops.specs.Shape.{value_fault}
use Rattle.pickle_ops.specs.Argument.{number_of}
use Rattle.pickle_ops.specs.Spelling.{Operation}
use Rattle.pickle_ops.specs.Row.{count_of, values_of, row_of_opcode}
use Rattle.pickle_machine.specs.declared.refusal.Refusal.{Refusal}
use Rattle.pickle_machine.specs.declared.refusal.Refusal.TheVariants as refusal
use Rattle.pickle_machine.specs.State.{Marked, State}
use Rattle.pickle_machine.specs.Move.{unless, if_deep, if_paired, if_target, if_viewable, object_meets, taking_refusal, cutting_refusal, deep, under, cut, last_of, without, memo_at, refusal_of}
use Rattle.pickle_machine.specs.Loader.{takes_call, takes_call_with, takes_obj, takes_string, asks_less, is_inst}
use Rattle.pickle_loader.specs.Environment.{Value, Act, Given, Persist, Find, Call, New, NewEx, SetState, Method, PyTuple, PyList, PyFrozenSet, PyDict, Unpickler}
use Rattle.pickle_loader.specs.Unpickler.{Step, Ran, Stopped, Raised, append, ask, make, get, if_able, can_call, can_call_with, is_str, viewed, fills, fill_pairs, pop, item, on_top, to_mark, pop_mark, instantiated, load_pop, load_pop_mark, load_get, load_put, got, tell}
use Rattle.pickle_loader.specs.Dispatch.{with_int, dispatch, load_op}
use Rattle.pickle_loader.specs.Laws.{sections, entries}
use Rattle.pickle_loader.specs.Beyond.{is_missing, WhatIsMissingRaises}
use Rattle.pickle_loader.proofs.Images.{image, pop_image, mark_image, lookup_image}
use Rattle.pickle_loader.proofs.Keys.{plain_int}
use Rattle.pickle_loader.proofs.Methods.{Here, unpickler}
use Rattle.pickle_loader.proofs.Beyond.{same_image}

-- ---- refusals for which nothing is missing

abbrev pub Never : Option Refusal → Type 0
Never x = (r : Refusal) → x ≡ Some r → is_missing r ≡ true → ⊥

pub never_none : Never None
never_none r e m = absurd cc

never_unless : (b : Bool) (x : Refusal) (rest : Option Refusal) → is_missing x ≡ false → Never rest → Never (unless b x rest)
never_unless true x rest f never r e m = never r e m
never_unless false x rest f never r e m =
    let same : x ≡ r = cc in
    let no : false ≡ true = sym f ∙ ap is_missing same ∙ m in
    absurd cc

taking_never : (t : Taking) (s : State) → Never (taking_refusal t s)
taking_never taking.One s = never_none
taking_never taking.Two s = never_none
taking_never taking.Three s = never_none
taking_never taking.Names s = never_unless _ _ _ refl (never_unless _ _ _ refl never_none)
taking_never taking.Call s = never_unless _ _ _ refl (never_unless _ _ _ refl never_none)
taking_never taking.CallWith s =
    never_unless (object_meets demand.Callable s (deep 2 s.top)) (refusal.NotCallable (deep 2 s.top)) _ refl
    (never_unless (object_meets demand.Arguments s (deep 1 s.top)) (refusal.NotArguments (deep 1 s.top)) _ refl
    (never_unless (object_meets demand.Keywords s (deep 0 s.top)) (refusal.NotKeywords (deep 0 s.top)) None refl never_none))

filled_never : (b : Bool) (f : Filling) (s : State) (id : ℕ) → Never (cond b (if_target f s id) None)
filled_never true f s id = never_unless _ _ _ refl never_none
filled_never false f s id = never_none

paired_never : (f : Filling) (items : List ℕ) (rest : Option Refusal) → Never rest → Never (if_paired f items rest)
paired_never filling.Append items rest never = never
paired_never filling.SetItem items rest never = never_unless _ _ _ refl never
paired_never filling.Add items rest never = never
paired_never filling.Build items rest never = never

-- ---- parts of methods

-- the step raises before it does anything, where a refusal says that something is missing
abbrev pub Misses : Here → Option Refusal → Step → Type 0
Misses h x step = (r : Refusal) → x ≡ Some r → is_missing r ≡ true → step ≡ Raised h.acts

misses_never : (h : Here) (x : Option Refusal) (step : Step) → Never x → Misses h x step
misses_never h x step never r e m = absurd (never r e m)

-- by the test of a refusal
by_test : (h : Here) (b : Bool) (x : Refusal) (rest : Option Refusal) (step : Step) → (b ≡ false → step ≡ Raised h.acts) → (b ≡ true → Misses h rest step) → Misses h (unless b x rest) step
by_test h true x rest step short long r e m = long refl r e m
by_test h false x rest step short long r e m = short refl

pop_short : (h : Here) (n : ℕ) (go : List Value → Unpickler → Step) → nat_le n (length h.s.top) ≡ false → pop n (unpickler h) go ≡ Raised h.acts
pop_short h n go e =
    ap (λ (m : ℕ). if nat_le n m then go (drop (m - n) (map h.V h.s.top)) (record (unpickler h) { stack = take (m - n) (map h.V h.s.top) }) else Raised h.acts) (length-map h.s.top h.V)
    ∙ ap (λ (b : Bool). if b then go (drop (length h.s.top - n) (map h.V h.s.top)) (record (unpickler h) { stack = take (length h.s.top - n) (map h.V h.s.top) }) else Raised h.acts) e

top_short : (V : ℕ → Value) (s : State) (proto : ℕ) (acts : List Act) (go : Value → Step) → length s.top ≡ 0 → on_top (image V s proto acts) go ≡ Raised acts
top_short V s proto acts go e =
    ap (λ (m : ℕ). if nat_le 1 m then go (top_of m) else Raised acts) (length-map s.top V ∙ e)
  where
    top_of : ℕ → Value
    top_of m = item (m - 1) (map V s.top)

mark_short : (V : ℕ → Value) (ms : List Marked) (u : Unpickler) (go : List Value → Unpickler → Step) → nat_lt 0 (length ms) ≡ false → to_mark (sections V ms) u go ≡ Raised u.acts
mark_short V [] u go e = refl
mark_short V (m ∷ ms) u go e = absurd (omega (arith, ltb-false 0 (length (m ∷ ms)) e))

no_length : (n : ℕ) → nat_le 1 n ≡ false → n ≡ 0
no_length n e = omega (arith, leb-false 1 n e)

-- ---- shapes

take_misses : (h : Here) (t : Taking) (go : List Value → Unpickler → Step) → Misses h (refusal_of (row.Take t) h.s) (pop (count_of t) (unpickler h) go)
take_misses h t go = by_test h (nat_le (count_of t) (length h.s.top)) refusal.Underflow (taking_refusal t h.s) _ (pop_short h (count_of t) go) (λ _. misses_never h _ _ (taking_never t h.s))

cut_misses : (h : Here) (c : Cutting) (go : List Value → Unpickler → Step) → (nat_lt 0 (length h.s.marked) ≡ true → Misses h (cutting_refusal c h.s) (pop_mark (unpickler h) go)) → Misses h (refusal_of (row.Cut c) h.s) (pop_mark (unpickler h) go)
cut_misses h c go more = by_test h (nat_lt 0 (length h.s.marked)) refusal.NoMark (cutting_refusal c h.s) _ (mark_short h.V h.s.marked (unpickler h) go) more

any_misses : (h : Here) (go : List Value → Unpickler → Step) → Misses h (refusal_of (row.Cut cutting.Any) h.s) (pop_mark (unpickler h) go)
any_misses h go = cut_misses h cutting.Any go (λ _. misses_never h _ _ never_none)

pairs_misses : (h : Here) (go : List Value → Unpickler → Step) → Misses h (refusal_of (row.Cut cutting.Pairs) h.s) (pop_mark (unpickler h) go)
pairs_misses h go = cut_misses h cutting.Pairs go (λ _. misses_never h _ _ (never_unless _ _ _ refl never_none))

-- OBJ without a class
no_class : (h : Here) (xs : List ℕ) → nat_le 1 (length xs) ≡ false → instantiated h.w (map h.V xs) (image h.V (cut h.s) h.proto h.acts) ≡ Raised h.acts
no_class h [] e = refl
no_class h (x ∷ xs) e = absurd (omega (arith, leb-false 1 (length (x ∷ xs)) e))

obj_misses : (h : Here) (b : Bool) → Misses h (refusal_of (cond b (row.Cut cutting.Any) (row.Cut cutting.Callable)) h.s) (pop_mark (unpickler h) (λ items q. instantiated h.w items q))
obj_misses h true = any_misses h (λ items q. instantiated h.w items q)
obj_misses h false =
    cut_misses h cutting.Callable (λ items q. instantiated h.w items q) (λ marked.
    by_test h (nat_le 1 (length h.s.top)) refusal.Underflow _ _
    (λ none. mark_image h.V h.s h.proto h.acts (λ items q. instantiated h.w items q) marked ∙ no_class h h.s.top none)
    (λ _. misses_never h _ _ (never_unless _ _ _ refl never_none)))

call_misses : (h : Here) (b : Bool) (go : List Value → Unpickler → Step) → Misses h (refusal_of (cond b (row.Take taking.Two) (row.Take taking.Call)) h.s) (pop 2 (unpickler h) go)
call_misses h true go = take_misses h taking.Two go
call_misses h false go = take_misses h taking.Call go

call_with_misses : (h : Here) (b : Bool) (go : List Value → Unpickler → Step) → Misses h (refusal_of (cond b (row.Take taking.Three) (row.Take taking.CallWith)) h.s) (pop 3 (unpickler h) go)
call_with_misses h true go = take_misses h taking.Three go
call_with_misses h false go = take_misses h taking.CallWith go

-- one object on top, and nothing more is asked for that could be missing
pub top_misses : (h : Here) (go : Value → Step) (rest : Option Refusal) → Never rest → Misses h (if_deep 1 h.s.top rest) (on_top (unpickler h) go)
top_misses h go rest never =
    by_test h (nat_le 1 (length h.s.top)) refusal.Underflow rest _ (λ none. top_short h.V h.s h.proto h.acts go (no_length (length h.s.top) none)) (λ _. misses_never h _ _ never)

-- the values, and under them the target
change_by : (h : Here) (n : ℕ) (go : List Value → Value → Unpickler → Step) (b : Bool) → nat_le n (length h.s.top) ≡ b → nat_le (n + 1) (length h.s.top) ≡ false → pop n (unpickler h) (λ vs q. on_top q (λ target. go vs target q)) ≡ Raised h.acts
change_by h n go false is short = pop_short h n (λ vs q. on_top q (λ target. go vs target q)) is
change_by h n go true is short =
    let size : length (take (length h.s.top - n) h.s.top) ≡ length h.s.top - n = length-take-le (length h.s.top - n) h.s.top (omega arith) in
    let none : length (take (length h.s.top - n) h.s.top) ≡ 0 = omega (arith, size, leb-false (n + 1) (length h.s.top) short) in
    pop_image h.V h.s h.proto h.acts n (λ vs q. on_top q (λ target. go vs target q)) is
    ∙ top_short h.V (without n h.s) h.proto h.acts (λ target. go (map h.V (last_of n h.s)) target (image h.V (without n h.s) h.proto h.acts)) none

change_misses : (h : Here) (f : Filling) (go : List Value → Value → Unpickler → Step) → Misses h (refusal_of (row.Change f) h.s) (pop (values_of f) (unpickler h) (λ vs q. on_top q (λ target. go vs target q)))
change_misses h f go =
    by_test h (nat_le (values_of f + 1) (length h.s.top)) refusal.Underflow _ _ (λ short. change_by h (values_of f) go (nat_le (values_of f) (length h.s.top)) refl short) (λ _. misses_never h _ _ (never_unless _ _ _ refl never_none))

cut_change_misses : (h : Here) (f : Filling) (go : List Value → Value → Unpickler → Step) → Misses h (refusal_of (row.CutChange f) h.s) (pop_mark (unpickler h) (λ vs q. on_top q (λ target. go vs target q)))
cut_change_misses h f go =
    by_test h (nat_lt 0 (length h.s.marked)) refusal.NoMark _ _ (mark_short h.V h.s.marked (unpickler h) (λ vs q. on_top q (λ target. go vs target q)))
    (λ marked. by_test h (nat_le 1 (length (under h.s.marked))) refusal.Underflow _ _
    (λ short. mark_image h.V h.s h.proto h.acts (λ vs q. on_top q (λ target. go vs target q)) marked ∙ top_short h.V (cut h.s) h.proto h.acts (λ target. go (map h.V h.s.top) target (image h.V (cut h.s) h.proto h.acts)) (no_length (length (under h.s.marked)) short))
    (λ _. misses_never h _ _ (paired_never f h.s.top _ (filled_never (nat_lt 0 (length h.s.top)) f h.s (deep 0 (under h.s.marked))))))

pop_misses : (h : Here) → Misses h (refusal_of row.Pop h.s) (load_pop h.w (unpickler h))
pop_misses h = by (nat_lt 0 (length h.s.top)) refl
  where
    by : (b : Bool) → nat_lt 0 (length h.s.top) ≡ b → Misses h (cond b None (unless (nat_lt 0 (length h.s.marked)) refusal.Underflow None)) (load_pop h.w (unpickler h))
    by true is = misses_never h None _ never_none
    by false is =
        let empty : length (map h.V h.s.top) ≡ 0 = length-map h.s.top h.V ∙ omega (arith, ltb-false 0 (length h.s.top) is) in
        let pops : load_pop h.w (unpickler h) ≡ load_pop_mark h.w (unpickler h) = ap (λ (m : ℕ). if nat_lt 0 m then tell h.w Method (record (unpickler h) { stack = take (m - 1) (map h.V h.s.top) }) else load_pop_mark h.w (unpickler h)) empty in
        by_test h (nat_lt 0 (length h.s.marked)) refusal.Underflow None _ (λ none. pops ∙ mark_short h.V h.s.marked (unpickler h) (λ items q. tell h.w Method q) none) (λ _. misses_never h None _ never_none)

pop_mark_misses : (h : Here) → Misses h (refusal_of row.PopMark h.s) (load_pop_mark h.w (unpickler h))
pop_mark_misses h = by_test h (nat_lt 0 (length h.s.marked)) refusal.NoMark None _ (mark_short h.V h.s.marked (unpickler h) (λ items q. tell h.w Method q)) (λ _. misses_never h None _ never_none)

pub get_misses : (h : Here) (key : ℕ) → Misses h (refusal_of (row.Get key) h.s) (load_get key (unpickler h))
get_misses h key = by (memo_at key h.s) refl
  where
    by : (x : Option ℕ) → memo_at key h.s ≡ x → Misses h (unless (is_some x) (refusal.NoMemoEntry key) None) (load_get key (unpickler h))
    by (Some id) is = misses_never h None _ never_none
    by None is = λ r e m. ap (λ (y : Option Value). got y (unpickler h)) (lookup_image h.V h.s.memo key ∙ ap (option_map h.V) is)

viewable_never : (s : State) (id : ℕ) → Never (if_viewable s id)
viewable_never s id = never_unless (object_meets demand.ReadOnly s id || object_meets demand.Writable s id) (refusal.WrongKind id) None refl never_none

view_misses : (h : Here) (b : Bool) → Misses h (refusal_of (cond b row.Nothing row.ReadOnly) h.s) (on_top (unpickler h) (λ v. viewed h.w v (unpickler h)))
view_misses h true = misses_never h None _ never_none
view_misses h false = top_misses h (λ v. viewed h.w v (unpickler h)) (if_viewable h.s (deep 0 h.s.top)) (viewable_never h.s (deep 0 h.s.top))

-- ---- opcodes

missing : (h : Here) (o : Opcode) (arg : List ℕ) → value_fault (form_of o) arg ≡ None → is_inst o ≡ false → Misses h (refusal_of (asks_less (row_of_opcode o arg) h.s) h.s) (dispatch h.w o arg (unpickler h))
missing h op.Inst arg v i = absurd cc
missing h op.BinPersId arg v i = take_misses h taking.One (λ vs q. get h.w (Persist (Given (item 0 vs))) q)
missing h op.Tuple1 arg v i = take_misses h taking.One (λ items q. make PyTuple items q)
missing h op.Tuple2 arg v i = take_misses h taking.Two (λ items q. make PyTuple items q)
missing h op.Tuple3 arg v i = take_misses h taking.Three (λ items q. make PyTuple items q)
missing h op.StackGlobal arg v i =
    take_misses h taking.Names (λ vs q. if is_str h.w (item 1 vs) then (if is_str h.w (item 0 vs) then get h.w (Find q.proto (Given (item 0 vs)) (Given (item 1 vs))) q else Raised q.acts) else Raised q.acts)
missing h op.Reduce arg v i = call_misses h (takes_call 0 h.s) (λ vs q. if_able h.w (can_call (item 0 vs) (item 1 vs)) q (get h.w (Call (item 0 vs) (item 1 vs)) q))
missing h op.NewObj arg v i = call_misses h (takes_call 0 h.s) (λ vs q. if_able h.w (can_call (item 0 vs) (item 1 vs)) q (get h.w (New (item 0 vs) (item 1 vs)) q))
missing h op.NewObjEx arg v i = call_with_misses h (takes_call_with h.s) (λ vs q. if_able h.w (can_call_with h.w h.acts (item 0 vs) (item 1 vs) (item 2 vs)) q (get h.w (NewEx (item 0 vs) (item 1 vs) (item 2 vs)) q))
missing h op.Tuple arg v i = any_misses h (λ items q. make PyTuple items q)
missing h op.List arg v i = any_misses h (λ items q. make PyList items q)
missing h op.FrozenSet arg v i = any_misses h (λ items q. ask h.w Method q (λ v r. make PyFrozenSet items r))
missing h op.Dict arg v i = pairs_misses h (λ items q. ask h.w Method q (λ v r. if length items % 2 == 0 then make PyDict items r else Raised r.acts))
missing h op.Obj arg v i = obj_misses h (takes_obj h.s)
missing h op.ReadOnlyBuffer arg v i = view_misses h (takes_string h.s)
missing h op.Append arg v i = change_misses h filling.Append (λ vs target q. fills h.w filling.Append target vs q)
missing h op.SetItem arg v i = change_misses h filling.SetItem (λ vs target q. fills h.w filling.SetItem target vs q)
missing h op.Build arg v i = change_misses h filling.Build (λ vs target q. tell h.w (SetState target (item 0 vs)) q)
missing h op.Appends arg v i = cut_change_misses h filling.Append (λ items target q. fills h.w filling.Append target items q)
missing h op.SetItems arg v i = cut_change_misses h filling.SetItem (λ items target q. fill_pairs h.w target items q)
missing h op.AddItems arg v i = cut_change_misses h filling.Add (λ items target q. fills h.w filling.Add target items q)
missing h op.Pop arg v i = pop_misses h
missing h op.PopMark arg v i = pop_mark_misses h
missing h op.Dup arg v i = top_misses h (λ v. Ran (append v (unpickler h))) None never_none
missing h op.Get arg v i =
    subst (λ (x : Option ℕ). Misses h (refusal_of (row.Get (number_of form.Decimal arg)) h.s) (with_int x (unpickler h) (λ key. load_get key (unpickler h)))) (sym (plain_int arg v)) (get_misses h (number_of form.Decimal arg))
missing h op.BinGet arg v i = get_misses h (number_of form.Uint1 arg)
missing h op.LongBinGet arg v i = get_misses h (number_of form.Uint4 arg)
missing h op.Put arg v i =
    subst (λ (x : Option ℕ). Misses h (refusal_of (row.Put (number_of form.Decimal arg)) h.s) (with_int x (unpickler h) (λ key. load_put h.w key (unpickler h)))) (sym (plain_int arg v))
    (top_misses h (λ v. tell h.w Method (record (unpickler h) { memo = insert_entry nat_cmp (entries h.V h.s.memo) (number_of form.Decimal arg) v })) None never_none)
missing h op.BinPut arg v i = top_misses h (λ v. tell h.w Method (record (unpickler h) { memo = insert_entry nat_cmp (entries h.V h.s.memo) (number_of form.Uint1 arg) v })) None never_none
missing h op.LongBinPut arg v i = top_misses h (λ v. tell h.w Method (record (unpickler h) { memo = insert_entry nat_cmp (entries h.V h.s.memo) (number_of form.Uint4 arg) v })) None never_none
missing h op.Memoize arg v i = top_misses h (λ v. tell h.w Method (record (unpickler h) { memo = insert_entry nat_cmp (entries h.V h.s.memo) (length (entries h.V h.s.memo)) v })) None never_none
missing h op.Stop arg v i = by_test h (nat_le 1 (length h.s.top)) refusal.Underflow None _ (pop_short h 1 (λ vs q. Stopped (item 0 vs) q)) (λ _. misses_never h None _ never_none)
missing h o arg v i = misses_never h None _ never_none

raised_by : (h : Here) (o : Operation) (b : Bool) → dispatch h.w o.opcode o.arg (unpickler h) ≡ Raised h.acts → (if b then Raised h.acts else dispatch h.w o.opcode o.arg (unpickler h)) ≡ Raised h.acts
raised_by h o true e = refl
raised_by h o false e = e

pub what_is_missing_raises : WhatIsMissingRaises
what_is_missing_raises w V s u o r value same inst refused lacks =
    let h : Here = record { V = V; w = w; s = s; proto = u.proto; acts = u.acts; place = 0; knows = same.objects } in
    ap (load_op w o) (same_image w V s u same) ∙ raised_by h o (w.fails (unpickler h) o) (missing h o.opcode o.arg value inst r refused lacks)
