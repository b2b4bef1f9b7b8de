use Rattle.std.proofs.Common.{◌≡◌, ◌≤◌, ◌^◌}
use Rattle.pickle_ops.specs.declared.row.Row.TheVariants as row
use Rattle.pickle_further.proofs.FarGoings.{get_goes, put_goes, near_goes}
use Rattle.pickle_further.proofs.going.go_over.Goals as goal

pub returns-in-Near-clause-ok : goal.returns-in-Near-clause-ok
returns-in-Near-clause-ok c =
    let is : c.in-Near.row ≡ c.args.item.row = rw c.in-Near.is at c.into_kind.ensures.is in
    near_goes c.args.way c.args.item c.in-Near.row _ _ c.args.at c.args.more _ is c.go_near.ensures.ok

pub returns-in_ok-done-in-FarGet-clause-ok : goal.returns-in_ok-done-in-FarGet-clause-ok
returns-in_ok-done-in-FarGet-clause-ok c =
    let is : row.Get c.in-FarGet.number ≡ c.args.item.row = rw c.in-FarGet.is at c.into_kind.ensures.is in
    let far : 2 ^ 64 ≤ c.in-FarGet.number = rw c.in-FarGet.is at c.into_kind.ensures.right in
    λ p state at more. get_goes c.args.way p c.args.item c.in-FarGet.number _ _ c.args.at c.in_ok-done-in-FarGet.done _ far is c.requires.far c.in_ok-done-in-FarGet.ensures.ok c.get_far.ensures.heap c.far_gone.ensures.is state at

pub returns-in_ok-done-in-FarPut-clause-ok : goal.returns-in_ok-done-in-FarPut-clause-ok
returns-in_ok-done-in-FarPut-clause-ok c =
    let is : row.Put c.in-FarPut.number ≡ c.args.item.row = rw c.in-FarPut.is at c.into_kind.ensures.is in
    let far : 2 ^ 64 ≤ c.in-FarPut.number = rw c.in-FarPut.is at c.into_kind.ensures.right in
    λ p state at more. put_goes c.args.way p c.args.item c.in-FarPut.number _ _ c.args.at c.in_ok-done-in-FarPut.done _ far is c.requires.far c.in_ok-done-in-FarPut.ensures.ok c.put_far.ensures.heap c.far_gone-in-FarPut.ensures.is state at
