use Rattle.std.proofs.Common.{◌≡◌, true, false, sym, ◌∙◌}
use Rattle.pickle_further.proofs.Fars.{put_done, put_misses, put_stopped}
use Rattle.pickle_further.proofs.machine.LoaderMachine.put_far.Goals as goal

pub returns-then-has_stopped-clause-ok : goal.returns-then-has_stopped-clause-ok
returns-then-has_stopped-clause-ok c =
    let stopped : c.self.inside.machine.state.stopped ≡ true = sym c.has_stopped.ensures ∙ c.if-has_stopped.true in
    rw (← c.self.view_is) (put_stopped c.args.number c.self.inside.far.entries c.self.inside.machine.state c.self.inside.machine.state stopped)

pub returns-in-None-clause-ok : goal.returns-in-None-clause-ok
returns-in-None-clause-ok c =
    let within : c.self.inside.machine.state.stopped ≡ false = sym c.has_stopped.ensures ∙ c.if-has_stopped.false in
    rw (← c.self.view_is) (put_misses c.args.number c.self.inside.far.entries c.self.inside.machine.state c.self.inside.machine.state within (sym c.top.ensures ∙ c.in-None.is))

pub returns-in_ok-put_in-in-Some-clause-ok : goal.returns-in_ok-put_in-in-Some-clause-ok
returns-in_ok-put_in-in-Some-clause-ok c =
    let within : c.self.inside.machine.state.stopped ≡ false = sym c.has_stopped.ensures ∙ c.if-has_stopped.false in
    rw (← c.self.view_is)
    (put_done c.args.number c.in-Some.id c.self.inside.far.entries _ c.self.inside.machine.state c.requires c.self.invariant.near within (sym c.top.ensures ∙ c.in-Some.is) c.in_ok-put_in-in-Some.ensures.ok)
