-- Loaders take what the machine accepts.
use Rattle.std.proofs.Common.{◌≡◌, ℕ, ◌<◌, Bool, true, false, cond, List, length, Option, Some, None, Ok, refl, sym, ap, subst, ◌∙◌, arith}
use Rattle.std.proofs.lemmas.Bool.{ltb-true, ltb-false}
use Rattle.std.specs.Prelude.{◌&&◌, ◌||◌, ◌==◌, ◌%◌, nat_lt, not}
use Rattle.std.specs.Option.{option_map_or}
use Rattle.std.specs.List.{slice_get}
use Rattle.pickle_ops.specs.declared.opcode.Opcode.{Opcode}
use Rattle.pickle_ops.specs.declared.opcode.Opcode.TheVariants as op
use Rattle.pickle_ops.specs.declared.kind.Kind.{Kind}
use Rattle.pickle_ops.specs.declared.kind.Kind.TheVariants as kind
use Rattle.pickle_ops.specs.declared.class.Demand.TheVariants as demand
use Rattle.pickle_ops.specs.declared.row.Row.{Row}
use Rattle.pickle_ops.specs.declared.row.Row.TheVariants as row
use Rattle.pickle_ops.specs.declared.row.Taking.TheVariants as taking
use Rattle.pickle_ops.specs.declared.row.Cutting.TheVariants as cutting
use Rattle.pickle_ops.specs.declared.row.Filling.{Filling}
use Rattle.pickle_ops.specs.declared.row.Filling.TheVariants as filling
use Rattle.pickle_ops.specs.Object.{Object}
use Rattle.pickle_ops.specs.Kind.{meets}
use Rattle.pickle_ops.specs.Row.{values_of, row_of, kind_of}
use Rattle.pickle_machine.specs.declared.refusal.Refusal.{Refusal}
use Rattle.pickle_machine.specs.declared.refusal.Refusal.TheVariants as refusal
use Rattle.pickle_machine.specs.declared.loader.Fill.{Fill}
use Rattle.pickle_machine.specs.State.{State}
use Rattle.pickle_machine.specs.Move.{unless, if_target, if_filled, if_paired, object_meets, deep, under, refusal_of, next_of, fresh, outcome}
use Rattle.pickle_machine.specs.Loader.{views, view_at, opaque_at, takes_call, takes_call_with, takes_obj, is_string, takes_string, asks_less, parts_in, is_odd, fills, fill_when, fill_of, is_inst, import_move, fill_move}
use Rattle.pickle_machine.specs.LoaderLaws.{one_move, LoadersTakeWhatIsAccepted, LoadersTakeMoves}
use Rattle.pickle_machine.proofs.Leading.{good_of}

-- ---- what comes behind a test that was passed

rest_of : (b : Bool) (r : Refusal) (rest : Option Refusal) → unless b r rest ≡ None → rest ≡ None
rest_of true r rest e = e
rest_of false r rest e = absurd cc

-- ---- no view meets a demand of a fill

no_view : (f : Filling) (heap : List Object) (k : Kind) (parts : List ℕ) → fills f ≡ true → meets (demand.Target f) k ≡ true → views heap k parts ≡ false
no_view filling.Append heap kind.ReadOnly parts e m = absurd cc
no_view filling.SetItem heap kind.ReadOnly parts e m = absurd cc
no_view filling.Add heap kind.ReadOnly parts e m = absurd cc
no_view filling.Build heap kind.ReadOnly parts e m = absurd cc
no_view f heap _ parts e m = refl

no_view_in : (f : Filling) (heap : List Object) (g : Option Object) → fills f ≡ true → option_map_or (λ (o : Object). meets (demand.Target f) o.kind) g false ≡ true
    → option_map_or (λ (o : Object). views heap o.kind o.parts) g false ≡ false
no_view_in f heap None e m = refl
no_view_in f heap (Some o) e m = no_view f heap o.kind o.parts e m

no_view_at : (f : Filling) (s : State) (id : ℕ) → fills f ≡ true → object_meets (demand.Target f) s id ≡ true → view_at s.heap id ≡ false
no_view_at f s id e m = no_view_in f s.heap (slice_get s.heap id) e m

-- ---- nothing is put

target_of : (f : Filling) (s : State) (id : ℕ) → if_target f s id ≡ None → object_meets (demand.Target f) s id ≡ true
target_of f s id e = good_of _ (refusal.WrongKind id) None e

put_none : (c p : Bool) (x : Fill) → cond (c && (false || (false && p))) (Some x) None ≡ None
put_none true p x = refl
put_none false p x = refl

-- the target is no view, and no value is left over
not_put : (c v o p : Bool) (x : Fill) → v ≡ false → o ≡ false → cond (c && (v || (o && p))) (Some x) None ≡ None
not_put c v o p x h g =
    ap (λ (b : Bool). cond (c && (b || (o && p))) (Some x) None) h
    ∙ ap (λ (b : Bool). cond (c && (false || (b && p))) (Some x) None) g
    ∙ put_none c p x

fill_none : (f : Filling) (n id : ℕ) (s : State) → object_meets (demand.Target f) s id ≡ true → is_odd f n ≡ false → fill_when f n id s.heap ≡ None
fill_none filling.Build n id s m o = refl
fill_none filling.Append n id s m o = not_put (nat_lt 0 (parts_in filling.Append n)) (view_at s.heap id) (is_odd filling.Append n) (opaque_at s.heap id) _ (no_view_at filling.Append s id refl m) o
fill_none filling.SetItem n id s m o = not_put (nat_lt 0 (parts_in filling.SetItem n)) (view_at s.heap id) (is_odd filling.SetItem n) (opaque_at s.heap id) _ (no_view_at filling.SetItem s id refl m) o
fill_none filling.Add n id s m o = not_put (nat_lt 0 (parts_in filling.Add n)) (view_at s.heap id) (is_odd filling.Add n) (opaque_at s.heap id) _ (no_view_at filling.Add s id refl m) o

-- or there is nothing to put
empty_none : (f : Filling) (id : ℕ) (heap : List Object) → fill_when f 0 id heap ≡ None
empty_none filling.Build id heap = refl
empty_none filling.Append id heap = refl
empty_none filling.SetItem id heap = refl
empty_none filling.Add id heap = refl

either_none : (b : Bool) (x : Option Fill) → x ≡ None → cond b x None ≡ None
either_none true x e = e
either_none false x e = refl

even_values : (f : Filling) → is_odd f (values_of f) ≡ false
even_values filling.Append = refl
even_values filling.SetItem = refl
even_values filling.Add = refl
even_values filling.Build = refl

-- objects that go in are paired, and then the target is asked
paired_of : (f : Filling) (items : List ℕ) (rest : Option Refusal) → if_paired f items rest ≡ None → (is_odd f (length items) ≡ false) × (rest ≡ None)
paired_of filling.Append items rest e = (refl, e)
paired_of filling.SetItem items rest e = (ap not (good_of (length items % 2 == 0) refusal.OddItems rest e), rest_of (length items % 2 == 0) refusal.OddItems rest e)
paired_of filling.Add items rest e = (refl, e)
paired_of filling.Build items rest e = (refl, e)

filled_none : (b : Bool) (f : Filling) (n id : ℕ) (s : State) → nat_lt 0 n ≡ b → cond b (if_target f s id) None ≡ None → is_odd f n ≡ false → fill_when f n id s.heap ≡ None
filled_none true f n id s some e odd = fill_none f n id s (target_of f s id e) odd
filled_none false f n id s some e odd =
    let none : 0 ≡ n = omega (arith, ltb-false 0 n some) in
    subst (λ (m : ℕ). fill_when f m id s.heap ≡ None) none (empty_none f id s.heap)

change_none : (f : Filling) (s : State) → refusal_of (row.Change f) s ≡ None → fill_of (row.Change f) s ≡ None
change_none f s e =
    let id : ℕ = deep (values_of f) s.top in
    either_none (nat_lt (values_of f) (length s.top)) _ (fill_none f (values_of f) id s (target_of f s id (rest_of _ refusal.Underflow _ e)) (even_values f))

cut_change_none : (f : Filling) (s : State) → refusal_of (row.CutChange f) s ≡ None → fill_of (row.CutChange f) s ≡ None
cut_change_none f s e =
    let id : ℕ = deep 0 (under s.marked) in
    let both = paired_of f s.top (if_filled f s.top s id) (rest_of _ refusal.Underflow _ (rest_of _ refusal.NoMark _ e)) in
    either_none (nat_lt 0 (length s.marked) && nat_lt 0 (length (under s.marked))) _ (filled_none (nat_lt 0 (length s.top)) f (length s.top) id s refl both.1 both.0)

-- ---- rows

-- the first of several demands is met
first_only : (b : Bool) (r : Refusal) (rest : Option Refusal) → unless b r rest ≡ None → unless b r None ≡ None
first_only true r rest e = refl
first_only false r rest e = absurd cc

call_taken : (b : Bool) (k : Kind) (place : ℕ) (s : State) → refusal_of (row.Take taking.Call) s ≡ None
    → (refusal_of (cond b (row.Take taking.Two) (row.Take taking.Call)) s ≡ None) × (next_of (cond b (row.Take taking.Two) (row.Take taking.Call)) k place s ≡ next_of (row.Take taking.Call) k place s)
call_taken true k place s e = (first_only _ refusal.Underflow _ e, refl)
call_taken false k place s e = (e, refl)

call_with_taken : (b : Bool) (k : Kind) (place : ℕ) (s : State) → refusal_of (row.Take taking.CallWith) s ≡ None
    → (refusal_of (cond b (row.Take taking.Three) (row.Take taking.CallWith)) s ≡ None) × (next_of (cond b (row.Take taking.Three) (row.Take taking.CallWith)) k place s ≡ next_of (row.Take taking.CallWith) k place s)
call_with_taken true k place s e = (first_only _ refusal.Underflow _ e, refl)
call_with_taken false k place s e = (e, refl)

obj_taken : (b : Bool) (k : Kind) (place : ℕ) (s : State) → refusal_of (row.Cut cutting.Callable) s ≡ None
    → (refusal_of (cond b (row.Cut cutting.Any) (row.Cut cutting.Callable)) s ≡ None) × (next_of (cond b (row.Cut cutting.Any) (row.Cut cutting.Callable)) k place s ≡ next_of (row.Cut cutting.Callable) k place s)
obj_taken true k place s e = (first_only _ refusal.NoMark _ e, refl)
obj_taken false k place s e = (e, refl)

-- no string has a view that the machine takes
no_string : (k : Kind) → is_string k ≡ true → (meets demand.ReadOnly k || meets demand.Writable k) ≡ false
no_string (kind.LegacyString bytes) e = refl
no_string (kind.LegacyLine bytes) e = refl
no_string _ e = absurd cc

no_string_in : (g : Option Object) → option_map_or (λ (o : Object). is_string o.kind) g false ≡ true
    → (option_map_or (λ (o : Object). meets demand.ReadOnly o.kind) g false || option_map_or (λ (o : Object). meets demand.Writable o.kind) g false) ≡ false
no_string_in None e = absurd cc
no_string_in (Some o) e = no_string o.kind e

second_true : (b c : Bool) → (b && c) ≡ true → c ≡ true
second_true true c e = e
second_true false c e = absurd cc

view_taken : (b : Bool) (k : Kind) (place : ℕ) (s : State) → takes_string s ≡ b → refusal_of row.ReadOnly s ≡ None
    → (refusal_of (cond b row.Nothing row.ReadOnly) s ≡ None) × (next_of (cond b row.Nothing row.ReadOnly) k place s ≡ next_of row.ReadOnly k place s)
view_taken false k place s is e = (e, refl)
view_taken true k place s is e =
    let id : ℕ = deep 0 s.top in
    let none = no_string_in (slice_get s.heap id) (second_true _ _ is) in
    let some : (object_meets demand.ReadOnly s id || object_meets demand.Writable s id) ≡ true = good_of _ (refusal.WrongKind id) None (rest_of _ refusal.Underflow _ e) in
    let two : true ≡ false = sym some ∙ none in
    absurd cc

pub loaders_take_what_is_accepted : LoadersTakeWhatIsAccepted
loaders_take_what_is_accepted row.Nothing k place s e = record { accepted = e; next = refl; fill = refl }
loaders_take_what_is_accepted (row.Extension n) k place s e = record { accepted = refl; next = refl; fill = refl }
loaders_take_what_is_accepted row.Push k place s e = record { accepted = e; next = refl; fill = refl }
loaders_take_what_is_accepted row.Buffer k place s e = record { accepted = e; next = refl; fill = refl }
loaders_take_what_is_accepted row.ReadOnly k place s e = let both = view_taken (takes_string s) k place s refl e in record { accepted = both.0; next = both.1; fill = refl }
loaders_take_what_is_accepted (row.Take taking.One) k place s e = record { accepted = e; next = refl; fill = refl }
loaders_take_what_is_accepted (row.Take taking.Two) k place s e = record { accepted = e; next = refl; fill = refl }
loaders_take_what_is_accepted (row.Take taking.Three) k place s e = record { accepted = e; next = refl; fill = refl }
loaders_take_what_is_accepted (row.Take taking.Names) k place s e = record { accepted = e; next = refl; fill = refl }
loaders_take_what_is_accepted (row.Cut cutting.Any) k place s e = record { accepted = e; next = refl; fill = refl }
loaders_take_what_is_accepted (row.Cut cutting.Pairs) k place s e = record { accepted = e; next = refl; fill = refl }
loaders_take_what_is_accepted row.Pop k place s e = record { accepted = e; next = refl; fill = refl }
loaders_take_what_is_accepted row.PopMark k place s e = record { accepted = e; next = refl; fill = refl }
loaders_take_what_is_accepted row.Dup k place s e = record { accepted = e; next = refl; fill = refl }
loaders_take_what_is_accepted row.Mark k place s e = record { accepted = e; next = refl; fill = refl }
loaders_take_what_is_accepted (row.Get key) k place s e = record { accepted = e; next = refl; fill = refl }
loaders_take_what_is_accepted (row.Put key) k place s e = record { accepted = e; next = refl; fill = refl }
loaders_take_what_is_accepted row.Memoize k place s e = record { accepted = e; next = refl; fill = refl }
loaders_take_what_is_accepted row.Stop k place s e = record { accepted = e; next = refl; fill = refl }
loaders_take_what_is_accepted (row.Protocol n) k place s e = record { accepted = refl; next = refl; fill = refl }
loaders_take_what_is_accepted (row.Take taking.Call) k place s e = let both = call_taken (takes_call 0 s) k place s e in record { accepted = both.0; next = both.1; fill = refl }
loaders_take_what_is_accepted (row.Take taking.CallWith) k place s e = let both = call_with_taken (takes_call_with s) k place s e in record { accepted = both.0; next = both.1; fill = refl }
loaders_take_what_is_accepted (row.Cut cutting.Callable) k place s e = let both = obj_taken (takes_obj s) k place s e in record { accepted = both.0; next = both.1; fill = refl }
loaders_take_what_is_accepted (row.Change f) k place s e = record { accepted = e; next = refl; fill = change_none f s e }
loaders_take_what_is_accepted (row.CutChange f) k place s e = record { accepted = e; next = refl; fill = cut_change_none f s e }

-- ---- operations

has_moved : (x : Option Refusal) (u t : State) → outcome x u ≡ Ok t → (x ≡ None) × (u ≡ t)
has_moved None u t e = let same : u ≡ t = cc in (refl, same)
has_moved (Some r) u t e = absurd cc

-- INST that is accepted has a mark
marked_inst : (o : Opcode) (arg : List ℕ) (s : State) → refusal_of (row_of (record { opcode = o; arg = arg })) s ≡ None → (is_inst o && (length s.marked == 0)) ≡ false
marked_inst op.Inst arg s e =
    let some : 0 < length s.marked = ltb-true _ _ (good_of _ refusal.NoMark None e) in
    lt-eqb (length s.marked) some
  where
    lt-eqb : (n : ℕ) → 0 < n → (n == 0) ≡ false
    lt-eqb n h = grind arith
marked_inst _ arg s e = refl

one_by : (b : Bool) (x : Option Fill) (r : Row) (s : State) → b ≡ false → x ≡ None → cond b import_move (fill_move x r s) ≡ one_move (asks_less r s)
one_by b x r s h e = ap (λ (c : Bool). cond c import_move (fill_move x r s)) h ∙ ap (λ (y : Option Fill). fill_move y r s) e

pub loaders_take_moves : LoadersTakeMoves
loaders_take_moves o place s t e =
    let both = has_moved (refusal_of (row_of o) (fresh s)) (next_of (row_of o) (kind_of o) place (fresh s)) t e in
    let taken = loaders_take_what_is_accepted (row_of o) (kind_of o) place (fresh s) both.0 in
    record {
      one = one_by _ (fill_of (row_of o) (fresh s)) (row_of o) (fresh s) (marked_inst o.opcode o.arg (fresh s) both.0) taken.fill;
      next = ap (λ (x : Option Refusal). outcome x (next_of (asks_less (row_of o) (fresh s)) (kind_of o) place (fresh s))) taken.accepted ∙ ap Ok (taken.next ∙ both.1);
    }
