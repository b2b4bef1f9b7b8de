use Rattle.std.proofs.Common.{◌≡◌, true, false, Some, None, sym, ◌∙◌}
use Rattle.std.specs.Map.{lookup}
use Rattle.std.specs.Ordering.{nat_cmp}
use Rattle.std.specs.BTreeMap.{is_at}
use Rattle.pickle_further.proofs.Fars.{get_done, get_misses, get_stopped}
use Rattle.pickle_further.proofs.machine.LoaderMachine.get_far.Goals as goal

pub returns-then-has_stopped-clause-ok : goal.returns-then-has_stopped-clause-ok
returns-then-has_stopped-clause-ok c =
    let stopped : c.self.inside.machine.state.stopped ≡ true = sym c.has_stopped.ensures ∙ c.if-has_stopped.true in
    rw (← c.self.view_is) (get_stopped c.args.number c.self.inside.far.entries c.self.inside.machine.state c.self.inside.machine.state stopped)

pub returns-in-None-clause-ok : goal.returns-in-None-clause-ok
returns-in-None-clause-ok c =
    let within : c.self.inside.machine.state.stopped ≡ false = sym c.has_stopped.ensures ∙ c.if-has_stopped.false in
    let none : lookup (is_at (nat_cmp c.args.number)) c.self.inside.far.entries ≡ None = sym (rw c.in-None.is at c.get.ensures.value) in
    rw (← c.self.view_is) (get_misses c.args.number c.self.inside.far.entries c.self.inside.machine.state c.self.inside.machine.state c.requires c.self.invariant.near within none)

pub returns-clause-ok : goal.returns-clause-ok
returns-clause-ok c =
    let within : c.self.inside.machine.state.stopped ≡ false = sym c.has_stopped.ensures ∙ c.if-has_stopped.false in
    let some : lookup (is_at (nat_cmp c.args.number)) c.self.inside.far.entries ≡ Some c.in-Some.id.now = sym (rw c.in-Some.is at c.get.ensures.value) in
    rw (← c.self.view_is) (get_done c.args.number c.in-Some.id.now c.self.inside.far.entries c.self.inside.machine.state _ c.requires c.self.invariant.near within some c.in_ok-put_on-in-Some.ensures.ok)
