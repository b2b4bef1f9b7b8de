-- With one pickle no further one begins.
use Rattle.std.proofs.Common.{◌≡◌, ℕ, zero, suc, Bool, true, false, cond, nat_lt, length, List, Option, Some, None, refl, ap, subst, sym}
use Rattle.std.specs.List.{slice_get}
use Rattle.std.specs.Result.{result_ok}
use Rattle.pickle_ops.specs.Spelling.{Operation}
use Rattle.pickle_ops.specs.declared.kind.Kind.{Kind}
use Rattle.pickle_ops.specs.declared.kind.Kind.TheVariants as kind
use Rattle.pickle_ops.specs.declared.class.Demand.TheVariants as demand
use Rattle.pickle_ops.specs.declared.row.Row.{Row}
use Rattle.pickle_ops.specs.declared.row.Row.TheVariants as row
use Rattle.pickle_ops.specs.Row.{row_of, kind_of}
use Rattle.pickle_machine.specs.declared.refusal.Refusal.{Refusal}
use Rattle.pickle_machine.specs.State.{State, empty}
use Rattle.pickle_machine.specs.Move.{deep, object_meets, push, last_of, without, cut, next_of, next, begun, fresh, refusal_at, outcome}
use Rattle.pickle_machine.specs.Run.{after, run, OnePickle}

-- a state of one pickle
pub record IsSingle (s : State) : Type 0 where
  pub many : s.many ≡ false
  pub stopped : s.stopped ≡ false

either : (b : Bool) (s t : State) → IsSingle s → IsSingle t → IsSingle (cond b s t)
either true s t i j = i
either false s t i j = j

single_next : (r : Row) (k : Kind) (place : ℕ) (s : State) → IsSingle s → IsSingle (next_of r k place s)
single_next row.ReadOnly k place s i = either (object_meets demand.ReadOnly s (deep 0 s.top)) s (push kind.ReadOnly (last_of 1 s) (without 1 s)) i (record { many = i.many; stopped = i.stopped })
single_next row.Pop k place s i = either (nat_lt 0 (length s.top)) (without 1 s) (cut s) (record { many = i.many; stopped = i.stopped }) (record { many = i.many; stopped = i.stopped })
single_next row.Stop k place s i = record { many = i.many; stopped = i.many }
single_next _ k place s i = record { many = i.many; stopped = i.stopped }

pub single_fresh : (s : State) → IsSingle s → fresh s ≡ s
single_fresh s i = ap (λ (b : Bool). cond b (begun s) s) i.stopped

moved : (r : Option Refusal) (s t : State) → IsSingle s → result_ok (outcome r s) ≡ Some t → IsSingle t
moved None s t i e = let same : s ≡ t = cc in subst (λ (u : State). IsSingle u) same i
moved (Some r) s t i e = absurd cc

single_after : (x : Option Operation) (y : Option State) (n : ℕ) (t : State) → after x n y ≡ Some t → ((s : State) → y ≡ Some s → IsSingle s) → IsSingle t
single_after None y n t e h = absurd cc
single_after (Some o) None n t e h = absurd cc
single_after (Some o) (Some s) n t e h =
    let i : IsSingle s = h s refl in
    let next_single : IsSingle (next o n s) = subst (λ (u : State). IsSingle (next_of (row_of o) (kind_of o) n u)) (sym (single_fresh s i)) (single_next (row_of o) (kind_of o) n s i) in
    moved (refusal_at o s) (next o n s) t next_single e

pub run_single : (ops : List Operation) (n : ℕ) (t : State) → run empty ops n ≡ Some t → IsSingle t
unfolding run
run_single ops zero t e = let same : empty ≡ t = cc in subst (λ (s : State). IsSingle s) same (record { many = refl; stopped = refl })
run_single ops (suc n) t e = single_after (slice_get ops n) (run empty ops n) n t e (λ s f. run_single ops n s f)

pub one_pickle : OnePickle
one_pickle ops n s e = single_fresh s (run_single ops n s e)
