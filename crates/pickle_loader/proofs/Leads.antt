-- What the moves of a loader lead to.
use Rattle.std.proofs.Common.{◌≡◌, ◌⊎◌, ℕ, ◌≤◌, Bool, true, false, cond, List, length, Option, Some, None, Ok, Err, refl, sym, ap, subst, ◌∙◌, inl, inr, arith}
use Rattle.std.specs.Prelude.{◌&&◌, ◌==◌, slice_get, if◌then◌else◌, Result}
use Rattle.pickle_ops.specs.declared.opcode.Opcode.{Opcode}
use Rattle.pickle_ops.specs.declared.opcode.Opcode.TheVariants as op
use Rattle.pickle_ops.specs.declared.row.Row.{Row}
use Rattle.pickle_ops.specs.declared.row.Row.TheVariants as row
use Rattle.pickle_ops.specs.declared.row.Taking.TheVariants as taking
use Rattle.pickle_ops.specs.declared.row.Cutting.TheVariants as cutting
use Rattle.pickle_ops.specs.declared.row.Filling.{Filling}
use Rattle.pickle_ops.specs.declared.row.Filling.TheVariants as filling
use Rattle.pickle_ops.specs.Object.{Object}
use Rattle.pickle_ops.specs.Spelling.{Operation}
use Rattle.pickle_ops.specs.Row.{row_of, kind_of}
use Rattle.pickle_doc.specs.DocUnit.{is_stop}
use Rattle.pickle_machine.specs.declared.refusal.Refusal.{Refusal}
use Rattle.pickle_machine.specs.declared.loader.Fill.{Fill as Goes}
use Rattle.pickle_machine.specs.declared.loader.LoaderMove.{LoaderMove}
use Rattle.pickle_machine.specs.State.{State}
use Rattle.pickle_machine.specs.Move.{refusal_of, next_of, begun, fresh, outcome}
use Rattle.pickle_machine.specs.Loader.{takes_call, takes_call_with, takes_obj, takes_string, asks_less, fill_of, drop_row, is_inst, import_move, fill_move, loader_move, move_as, cleared}
use Rattle.pickle_calls.specs.declared.event.Event.TheVariants as event
use Rattle.pickle_calls.specs.Event.{made_as, is_shown, before_of, event_of}
use Rattle.pickle_further.specs.declared.way.Pickles.{Pickles}
use Rattle.pickle_further.specs.declared.way.Pickles.TheVariants as pickles
use Rattle.pickle_further.specs.Going.{then_as, moved_so, event_by, keeps, state_after}
use Rattle.pickle_loader.specs.Environment.{Value}
use Rattle.pickle_loader.specs.Listed.{acts_listed}
use Rattle.pickle_loader.proofs.Still.{Still, still, keeps_many, grows, fresh_running, fresh_same, stop_only}
use Rattle.pickle_loader.proofs.Beyond.{has_moved}
use Rattle.pickle_loader.proofs.Items.{IsItem, Itself, Gets, Puts}

-- ---- on the state on which a move is taken

moved_fresh : (m : LoaderMove) (o : Operation) (place : ℕ) (s : State) → moved_so m o place s ≡ moved_so m o place (fresh s)
moved_fresh m o place s = ap (λ (f : State). then_as m o place (outcome (refusal_of m.row f) (next_of m.row (kind_of o) place f))) (sym (fresh_same (fresh s) (fresh_running s)))

-- no step that puts something in begins a pickle
change_begun : (f : Filling) (place : ℕ) (o : Operation) (s t : State) → move_as (row.Change f) o place (begun s) ≡ Ok t → ⊥
change_begun filling.Append place o s t e = absurd cc
change_begun filling.SetItem place o s t e = absurd cc
change_begun filling.Add place o s t e = absurd cc
change_begun filling.Build place o s t e = absurd cc

event_row : (r : Row) (o : Operation) (place : ℕ) (s t a : State) → move_as r o place (begun s) ≡ Ok a → event_of r (before_of s) t ≡ event_of r (before_of (begun s)) t
event_row (row.Change f) o place s t a e = absurd (change_begun f place o s a e)
event_row (row.CutChange f) o place s t a e = absurd cc
event_row _ o place s t a e = refl

first_moved : (m : LoaderMove) (o : Operation) (place : ℕ) (x : Result State Refusal) (t : State) → then_as m o place x ≡ Ok t → (a : State) × (x ≡ Ok a)
first_moved m o place (Ok a) t e = (a, refl)
first_moved m o place (Err r) t e = absurd cc

event_move : (m : LoaderMove) (x : Option Goes) (o : Operation) (place : ℕ) (s t : State) → moved_so m o place (begun s) ≡ Ok t → event_by m s t x ≡ event_by m (begun s) t x
event_move m None o place s t e = let first = first_moved m o place (move_as m.row o place (begun s)) t e in event_row m.row o place s t first.0 first.1
event_move m (Some g) o place s t e = refl

event_by_state : (b : Bool) (m : LoaderMove) (o : Operation) (place : ℕ) (s t : State) → moved_so m o place (cond b (begun s) s) ≡ Ok t → event_by m s t m.fill ≡ event_by m (cond b (begun s) s) t m.fill
event_by_state true m o place s t e = event_move m m.fill o place s t e
event_by_state false m o place s t e = refl

pub event_fresh : (m : LoaderMove) (o : Operation) (place : ℕ) (s t : State) → moved_so m o place (fresh s) ≡ Ok t → event_by m s t m.fill ≡ event_by m (fresh s) t m.fill
event_fresh m o place s t e = event_by_state s.stopped m o place s t e

pub moved_on_fresh : (m : LoaderMove) (o : Operation) (place : ℕ) (s : State) → moved_so m o place s ≡ moved_so m o place (fresh s)
moved_on_fresh m o place s = moved_fresh m o place s

-- ---- STOP

less_stop : (b : Bool) (x y : Row) → cond b x y ≡ row.Stop → (x ≡ row.Stop) ⊎ (y ≡ row.Stop)
less_stop true x y e = inl e
less_stop false x y e = inr e

asks_stop : (r : Row) (s : State) → asks_less r s ≡ row.Stop → r ≡ row.Stop
asks_stop (row.Take taking.Call) s e = elim (less_stop (takes_call 0 s) (row.Take taking.Two) (row.Take taking.Call) e) [
  | inl x ↦ absurd cc
  | inr x ↦ absurd cc
]
asks_stop (row.Take taking.CallWith) s e = elim (less_stop (takes_call_with s) (row.Take taking.Three) (row.Take taking.CallWith) e) [
  | inl x ↦ absurd cc
  | inr x ↦ absurd cc
]
asks_stop (row.Cut cutting.Callable) s e = elim (less_stop (takes_obj s) (row.Cut cutting.Any) (row.Cut cutting.Callable) e) [
  | inl x ↦ absurd cc
  | inr x ↦ absurd cc
]
asks_stop (row.Take taking.One) s e = absurd cc
asks_stop (row.Take taking.Two) s e = absurd cc
asks_stop (row.Take taking.Three) s e = absurd cc
asks_stop (row.Take taking.Names) s e = absurd cc
asks_stop (row.Cut cutting.Any) s e = absurd cc
asks_stop (row.Cut cutting.Pairs) s e = absurd cc
asks_stop (row.Protocol n) s e = absurd cc
asks_stop (row.Extension n) s e = absurd cc
asks_stop row.ReadOnly s e = elim (less_stop (takes_string s) row.Nothing row.ReadOnly e) [
  | inl x ↦ absurd cc
  | inr x ↦ absurd cc
]
asks_stop r s e = e

drop_stop : (r : Row) → drop_row r ≡ row.Stop → r ≡ row.Stop
drop_stop (row.Change f) e = absurd cc
drop_stop r e = absurd cc

fill_stop : (x : Option Goes) (r : Row) (s : State) → (fill_move x r s).row ≡ row.Stop → r ≡ row.Stop
fill_stop None r s e = asks_stop r s e
fill_stop (Some g) r s e = drop_stop r e

move_stop : (b : Bool) (r : Row) (s : State) → (cond b import_move (fill_move (fill_of r s) r s)).row ≡ row.Stop → r ≡ row.Stop
move_stop true r s e = absurd cc
move_stop false r s e = fill_stop (fill_of r s) r s e

item_stop : (o : Operation) (r : Row) → IsItem o r → r ≡ row.Stop → o.opcode ≡ op.Stop
item_stop o r (Itself is value) e = stop_only o.opcode o.arg (sym is ∙ e)
item_stop o r (Gets key a b) e = let no_stop : row.Get key ≡ row.Stop = sym b ∙ e in absurd cc
item_stop o r (Puts key a b) e = let no_stop : row.Put key ≡ row.Stop = sym b ∙ e in absurd cc

-- the move of STOP is that of no other opcode
pub only_stop : (o : Operation) (r : Row) (s : State) → IsItem o r → (loader_move o.opcode r s).row ≡ row.Stop → o.opcode ≡ op.Stop
only_stop o r s is e = item_stop o r is (move_stop (is_inst o.opcode && (length s.marked == 0)) r s e)

pub stop_is : (o : Opcode) → is_stop o ≡ true → o ≡ op.Stop
stop_is op.Stop e = refl
stop_is _ e = absurd cc

-- the row of STOP is its own
pub stop_row : (o : Operation) (r : Row) → IsItem o r → o.opcode ≡ op.Stop → r ≡ row.Stop
stop_row o r (Itself is value) e = is ∙ go o.opcode o.arg e
  where
    go : (p : Opcode) (arg : List ℕ) → p ≡ op.Stop → row_of (record { opcode = p; arg = arg }) ≡ row.Stop
    go op.Stop arg e = refl
    go _ arg e = absurd cc
stop_row o r (Gets key a b) e = let other : op.Frame ≡ op.Stop = ap (λ (x : Operation). x.opcode) (sym a) ∙ e in absurd cc
stop_row o r (Puts key a b) e = let other : op.Frame ≡ op.Stop = ap (λ (x : Operation). x.opcode) (sym a) ∙ e in absurd cc

-- ---- what stays

as_still : (r : Row) (o : Operation) (place : ℕ) (s t : State) → s.stopped ≡ false → move_as r o place s ≡ Ok t → (r ≡ row.Stop) ⊎ Still s t
as_still r o place s t running e =
    let both = has_moved (refusal_of r (fresh s)) (next_of r (kind_of o) place (fresh s)) t e in
    let same : fresh s ≡ s = fresh_same s running in
    elim (still r (kind_of o) place (fresh s)) [
      | inl stop ↦ inl stop
      | inr x ↦ inr (subst (λ (f : State). Still f t) same (subst (λ (u : State). Still (fresh s) u) both.1 x))
    ]

as_grows : (r : Row) (o : Operation) (place : ℕ) (s t : State) → s.stopped ≡ false → move_as r o place s ≡ Ok t → length s.heap ≤ length t.heap
as_grows r o place s t running e =
    let both = has_moved (refusal_of r (fresh s)) (next_of r (kind_of o) place (fresh s)) t e in
    let same : fresh s ≡ s = fresh_same s running in
    subst (λ (f : State). length f.heap ≤ length t.heap) same (subst (λ (u : State). length (fresh s).heap ≤ length u.heap) both.1 (grows r (kind_of o) place (fresh s)))

as_many : (r : Row) (o : Operation) (place : ℕ) (s t : State) → s.stopped ≡ false → move_as r o place s ≡ Ok t → t.many ≡ s.many
as_many r o place s t running e =
    let both = has_moved (refusal_of r (fresh s)) (next_of r (kind_of o) place (fresh s)) t e in
    ap (λ (u : State). u.many) (sym both.1) ∙ keeps_many r (kind_of o) place (fresh s) ∙ ap (λ (f : State). f.many) (fresh_same s running)

-- one move, and perhaps another
twice_by : (m : LoaderMove) (o : Operation) (place : ℕ) (b : Bool) (a t : State) → (if b then move_as m.row o place a else Ok a) ≡ Ok t → (b ≡ false → a ≡ t) × (b ≡ true → move_as m.row o place a ≡ Ok t)
twice_by m o place true a t e = (λ f. absurd cc, λ f. e)
twice_by m o place false a t e = let same : a ≡ t = cc in (λ f. same, λ f. absurd cc)

pub record Led (s t : State) : Type 0 where
  pub grown : length s.heap ≤ length t.heap
  pub many : t.many ≡ s.many

then_led : (m : LoaderMove) (o : Operation) (place : ℕ) (b : Bool) (s a t : State) → s.stopped ≡ false → move_as m.row o place s ≡ Ok a → (if b then move_as m.row o place a else Ok a) ≡ Ok t → ((m.row ≡ row.Stop) ⊎ (Still s t × Led s t))
then_led m o place true s a t running e f = elim (as_still m.row o place s a running e) [
  | inl stop ↦ inl stop
  | inr one ↦
      let still_running : a.stopped ≡ false = one.stopped ∙ running in
      elim (as_still m.row o place a t still_running f) [
        | inl stop ↦ inl stop
        | inr two ↦ inr (
          record { many = two.many ∙ one.many; stopped = two.stopped ∙ one.stopped; results = two.results ∙ one.results },
          record { grown = omega (arith, as_grows m.row o place s a running e, as_grows m.row o place a t still_running f); many = two.many ∙ one.many },
        )
      ]
]
then_led m o place false s a t running e f =
    let same : a ≡ t = cc in
    subst (λ (u : State). (m.row ≡ row.Stop) ⊎ (Still s u × Led s u)) same
    (elim (as_still m.row o place s a running e) [
      | inl stop ↦ inl stop
      | inr one ↦ inr (one, record { grown = as_grows m.row o place s a running e; many = as_many m.row o place s a running e })
    ])

-- where the move is not that of STOP, nothing ends
pub moved_still : (m : LoaderMove) (o : Operation) (place : ℕ) (s t : State) → s.stopped ≡ false → moved_so m o place s ≡ Ok t → ((m.row ≡ row.Stop) ⊎ (Still s t × Led s t))
moved_still m o place s t running e =
    let first = first_moved m o place (move_as m.row o place s) t e in
    then_led m o place m.again s first.0 t running first.1 (ap (λ (x : Result State Refusal). then_as m o place x) (sym first.1) ∙ e)

-- a move that is made once, as that of STOP is
pub once_led : (m : LoaderMove) (o : Operation) (place : ℕ) (s t : State) → m.again ≡ false → s.stopped ≡ false → moved_so m o place s ≡ Ok t → Led s t
once_led m o place s t once running e =
    let first = first_moved m o place (move_as m.row o place s) t e in
    let last : (if m.again then move_as m.row o place first.0 else Ok first.0) ≡ Ok t = ap (λ (x : Result State Refusal). then_as m o place x) (sym first.1) ∙ e in
    let one = twice_by m o place m.again first.0 t last in
    subst (λ (u : State). Led s u) (one.0 once) (record { grown = as_grows m.row o place s first.0 running first.1; many = as_many m.row o place s first.0 running first.1 })

-- ---- the acts of an event

acts_made_by : (V : ℕ → Value) (proto : ℕ) (s t : State) (id : ℕ) (g : Option Object) → acts_listed V proto s (cleared t) (made_as t.heap id g) ≡ acts_listed V proto s t (made_as t.heap id g)
acts_made_by V proto s t id None = refl
acts_made_by V proto s t id (Some o) = go (is_shown t.heap o)
  where
    go : (b : Bool) → acts_listed V proto s (cleared t) (if b then Some (event.Made id) else None) ≡ acts_listed V proto s t (if b then Some (event.Made id) else None)
    go true = refl
    go false = refl

-- those of STOP are the same on a stack that begins anew
acts_kept : (V : ℕ → Value) (proto place : ℕ) (p : Pickles) (o : Operation) (r : Row) (q s t : State) (b : Bool) → keeps p o.opcode ≡ b → is_stop o.opcode ≡ true → r ≡ row.Stop
    → acts_listed V proto s (cond b (cleared t) t) (event_by (loader_move o.opcode r s) q t (loader_move o.opcode r s).fill) ≡ acts_listed V proto s t (event_by (loader_move o.opcode r s) q t (loader_move o.opcode r s).fill)
acts_kept V proto place p o r q s t false k stop is = refl
acts_kept V proto place p o r q s t true k stop is = go o.opcode (stop_is o.opcode stop) r is
  where
    go : (x : Opcode) → x ≡ op.Stop → (y : Row) → y ≡ row.Stop
        → acts_listed V proto s (cleared t) (event_by (loader_move x y s) q t (loader_move x y s).fill) ≡ acts_listed V proto s t (event_by (loader_move x y s) q t (loader_move x y s).fill)
    go op.Stop e row.Stop f = acts_made_by V proto s t (length q.heap) (slice_get t.heap (length q.heap))
    go op.Stop e _ f = absurd cc
    go _ e y f = absurd cc

keeps_stop : (p : Pickles) (o : Opcode) → keeps p o ≡ true → is_stop o ≡ true
keeps_stop pickles.OneMemo o e = e
keeps_stop pickles.First o e = absurd cc
keeps_stop pickles.All o e = absurd cc

acts_after_by : (V : ℕ → Value) (proto place : ℕ) (p : Pickles) (o : Operation) (r : Row) (q s t : State) (b : Bool) → keeps p o.opcode ≡ b → IsItem o r
    → acts_listed V proto s (cond b (cleared t) t) (event_by (loader_move o.opcode r s) q t (loader_move o.opcode r s).fill) ≡ acts_listed V proto s t (event_by (loader_move o.opcode r s) q t (loader_move o.opcode r s).fill)
acts_after_by V proto place p o r q s t false k is = refl
acts_after_by V proto place p o r q s t true k is =
    let stop : is_stop o.opcode ≡ true = keeps_stop p o.opcode k in
    acts_kept V proto place p o r q s t true k stop (stop_row o r is (stop_is o.opcode stop))

pub acts_after : (V : ℕ → Value) (proto place : ℕ) (p : Pickles) (o : Operation) (r : Row) (q s t : State) → IsItem o r
    → acts_listed V proto s (state_after p o.opcode t) (event_by (loader_move o.opcode r s) q t (loader_move o.opcode r s).fill) ≡ acts_listed V proto s t (event_by (loader_move o.opcode r s) q t (loader_move o.opcode r s).fill)
acts_after V proto place p o r q s t is = acts_after_by V proto place p o r q s t (keeps p o.opcode) refl is
