-- Why the first step of a further pickle is refused.
use Rattle.std.proofs.Common.{◌≡◌, refl}
use Rattle.pickle_ops.specs.declared.row.Row.{Row}
use Rattle.pickle_ops.specs.declared.row.Row.TheVariants as row
use Rattle.pickle_ops.specs.declared.row.Taking.TheVariants as taking
use Rattle.pickle_ops.specs.declared.row.Filling.TheVariants as filling
use Rattle.pickle_machine.specs.State.{State, empty}
use Rattle.pickle_machine.specs.Move.{refusal_of, begun}

-- it is that on an empty machine, whatever the pickle before left
pub first_refusals : (r : Row) (s : State) → refusal_of r empty ≡ refusal_of r (begun s)
first_refusals row.Nothing s = refl
first_refusals (row.Protocol n) s = refl
first_refusals (row.Extension n) s = refl
first_refusals row.Push s = refl
first_refusals row.Buffer s = refl
first_refusals row.ReadOnly s = refl
first_refusals (row.Take taking.One) s = refl
first_refusals (row.Take taking.Two) s = refl
first_refusals (row.Take taking.Three) s = refl
first_refusals (row.Take taking.Names) s = refl
first_refusals (row.Take taking.Call) s = refl
first_refusals (row.Take taking.CallWith) s = refl
first_refusals (row.Cut c) s = refl
first_refusals (row.Change filling.Append) s = refl
first_refusals (row.Change filling.SetItem) s = refl
first_refusals (row.Change filling.Add) s = refl
first_refusals (row.Change filling.Build) s = refl
first_refusals (row.CutChange f) s = refl
first_refusals row.Pop s = refl
first_refusals row.PopMark s = refl
first_refusals row.Dup s = refl
first_refusals row.Mark s = refl
first_refusals (row.Get key) s = refl
first_refusals (row.Put key) s = refl
first_refusals row.Memoize s = refl
first_refusals row.Stop s = refl
