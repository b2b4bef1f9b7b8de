-- STOP: what it does to the machine, and whether it is the last item.
use Rattle.std.proofs.Common.{◌≡◌, ℕ, ◌==◌, ◌&&◌, ◌||◌, nat_lt, Bool, true, false, List, [], ◌∷◌, length, refl, sym, ap, ◌∙◌, arith}
use Rattle.std.specs.Prelude.{take, if◌then◌else◌}
use Rattle.std.proofs.lemmas.List.{take_all, length-map}
use Rattle.std.proofs.lemmas.Bool.{eqb-true}
use Rattle.pickle_ops.specs.declared.opcode.Opcode.{Opcode}
use Rattle.pickle_ops.specs.declared.opcode.Opcode.TheVariants as op
use Rattle.pickle_ops.specs.Spelling.{Operation}
use Rattle.pickle_doc.specs.declared.item.Item.{Item}
use Rattle.pickle_doc.specs.DocUnit.{is_stop}
use Rattle.pickle_doc.specs.Document.{Contents, items_of, ends_with_stop}
use Rattle.pickle_doc.specs.Place.{ops_of}
use Rattle.pickle_ops.specs.declared.kind.Kind.{Kind}
use Rattle.pickle_ops.specs.declared.kind.Kind.TheVariants as kind
use Rattle.pickle_ops.specs.declared.class.Demand.TheVariants as demand
use Rattle.pickle_ops.specs.declared.row.Row.{Row}
use Rattle.pickle_ops.specs.declared.row.Row.TheVariants as row
use Rattle.pickle_ops.specs.Row.{row_of, row_of_opcode}
use Rattle.pickle_machine.specs.State.{State}
use Rattle.pickle_machine.specs.Move.{deep, object_meets, push, last_of, without, cut, next_of, begun, fresh}

pub none_last : (b : Bool) → (b && false) ≡ false
none_last true = refl
none_last false = refl

pub neither : (x y : Bool) → (x || y) ≡ false → (x ≡ false) × (y ≡ false)
neither false y h = (refl, h)
neither true y h = cc

pub no_bytes : (bytes : List ℕ) → (length bytes == 0) ≡ true → bytes ≡ []
no_bytes [] h = refl
no_bytes (b ∷ bytes) h = absurd (omega (arith, eqb-true (length (b ∷ bytes)) 0 h))

-- ---- the machine

abbrev pub stops : Row → Bool
stops row.Stop = true
stops _ = false

pub row_stops : (o : Opcode) (arg : List ℕ) → stops (row_of_opcode o arg) ≡ is_stop o
row_stops op.Stop arg = refl
row_stops _ arg = refl

runs_either : (b : Bool) (s t : State) → s.stopped ≡ false → t.stopped ≡ false → (if b then s else t).stopped ≡ false
runs_either true s t h i = h
runs_either false s t h i = i

-- after any row but that of STOP the pickle goes on
runs_on : (r : Row) (k : Kind) (place : ℕ) (s : State) → stops r ≡ false → s.stopped ≡ false → (next_of r k place s).stopped ≡ false
runs_on row.ReadOnly k place s e h = runs_either (object_meets demand.ReadOnly s (deep 0 s.top)) s (push kind.ReadOnly (last_of 1 s) (without 1 s)) h h
runs_on row.Pop k place s e h = runs_either (nat_lt 0 (length s.top)) (without 1 s) (cut s) h h
runs_on row.Stop k place s e h = cc
runs_on _ k place s e h = h

fresh_runs : (b : Bool) (s : State) → s.stopped ≡ b → (if b then begun s else s).stopped ≡ false
fresh_runs true s e = refl
fresh_runs false s e = e

pub stays_fresh : (o : Operation) (k : Kind) (place : ℕ) (s : State) → is_stop o.opcode ≡ false → fresh (next_of (row_of o) k place (fresh s)) ≡ next_of (row_of o) k place (fresh s)
stays_fresh o k place s e =
    let t : State = next_of (row_of o) k place (fresh s) in
    ap (λ (b : Bool). if b then begun t else t) (runs_on (row_of o) k place (fresh s) (row_stops o.opcode o.arg ∙ e) (fresh_runs s.stopped s refl))

-- ---- the items

-- whether the last item is STOP, where there is none but the first k
pub last_of_all : (d : Contents) (k : ℕ) (rest : List ℕ) (x : Bool) → length (ops_of d) ≡ k → d.tail ≡ rest → (length rest == 0 && ends_with_stop (take k (items_of d))) ≡ x
    → (length d.tail == 0 && ends_with_stop (items_of d)) ≡ x
last_of_all d k rest x all tail is =
    let every : take k (items_of d) ≡ items_of d = take_all k (items_of d) (omega (arith, all, length-map (items_of d) (λ (i : Item). i.op))) in
    ap (λ (l : List ℕ). length l == 0 && ends_with_stop (items_of d)) tail ∙ ap (λ (l : List Item). length rest == 0 && ends_with_stop l) (sym every) ∙ is
