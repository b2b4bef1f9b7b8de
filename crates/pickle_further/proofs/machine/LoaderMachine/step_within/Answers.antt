use Rattle.std.proofs.Common.{◌≡◌, ◌++◌, false, sym, ◌∙◌}
use Rattle.pickle_lenient.specs.Row.{is_far}
use Rattle.pickle_further.specs.Far.{with_far, counted}
use Rattle.pickle_further.proofs.Fars.{within_refused, still_refused, apart_within}
use Rattle.pickle_further.proofs.machine.LoaderMachine.step_within.Goals as goal

pub returns-in_err-step_as-clause-refused : goal.returns-in_err-step_as-clause-refused
returns-in_err-step_as-clause-refused c =
    let is : c.in-Some.own ≡ counted c.args.row (c.self.inside.machine.state.memo ++ c.self.inside.far.entries) = rw (← c.self.view_is) at c.in-Some.ensures in
    let near : is_far c.in-Some.own ≡ false = sym c.is_far.ensures.is ∙ c.is_far.ensures.never in
    let within : c.self.inside.machine.state.stopped ≡ false = rw (← c.self.view_is) at c.requires.within in
    rw (← c.self.view_is)
    (still_refused _ _ c.args.row (with_far c.self.inside.far.entries c.self.inside.machine.state) c.from_residual.ensures.1
    (λ n. within_refused c.args.row c.in-Some.own c.self.inside.far.entries c.self.inside.machine.state _ c.self.invariant.above is near within (c.in_err-step_as.ensures.refused n)))

pub invariant_of-self-2 : goal.invariant_of-self-2
invariant_of-self-2 c =
    let is : c.in-Some.own ≡ counted c.args.row (c.self.inside.machine.state.memo ++ c.self.inside.far.entries) = rw (← c.self.view_is) at c.in-Some.ensures in
    let near : is_far c.in-Some.own ≡ false = sym c.is_far.ensures.is ∙ c.is_far.ensures.never in
    let within : c.self.inside.machine.state.stopped ≡ false = rw (← c.self.view_is) at c.requires.within in
    apart_within c.args.row c.in-Some.own c.args.op.now c.args.place c.self.inside.far.entries c.self.inside.machine.state c.step_as.new.self.state c.self.invariant c.objects-objects.ensures.names is near within
    (rw c.by_ref.ensures at c.in_ok-step_as.ensures.ok) c.has_short_keys.ensures.below
