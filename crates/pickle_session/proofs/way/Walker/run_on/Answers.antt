use Rattle.std.proofs.Common.{◌≡◌, ◌<◌, sym, ◌∙◌, arith, rules}
use Rattle.pickle_session.specs.Session.{len_of}
use Rattle.pickle_session.proofs.Answering.{stops, at_end, at_break, at_refused}
use Rattle.pickle_session.proofs.way.Walker.run_on.Goals as goal

pub returns-then-has_break-clause-stop : goal.returns-then-has_break-clause-stop
returns-then-has_break-clause-stop c =
    let i = c.loop-self.invariant in
    let d = c.args.document.now.contents in
    let within : c.loop-self.self.place < len_of d = omega (arith, c.loop-self-test.true, c.len.ensures.value) in
    let broken = sym c.has_break.ensures ∙ c.if-has_break.true in
    stops d c.args.breaks.now.keys _ _ _ _ i.ahead i.within i.walks.stands.trail.reached i.clear (at_break d c.args.breaks.now.keys _ within broken)

pub returns-in-Err-clause-stop : goal.returns-in-Err-clause-stop
returns-in-Err-clause-stop c =
    let i = c.loop-self.invariant in
    let d = c.args.document.now.contents in
    let within : c.loop-self.self.place < len_of d = omega (arith, c.loop-self-test.true, c.len.ensures.value) in
    let whole = sym c.has_break.ensures ∙ c.if-has_break.false in
    rw c.in-Err.ensures.err (stops d c.args.breaks.now.keys _ _ _ _ i.ahead i.within i.walks.stands.trail.reached i.clear (at_refused d c.args.breaks.now.keys _ _ within whole (c.in-Err.ensures.refused.why (search rules))))

pub returns-clause-stop : goal.returns-clause-stop
returns-clause-stop c =
    let i = c.loop-self.invariant in
    let d = c.args.document.now.contents in
    let done : c.loop-self.self.place ≡ len_of d = omega (arith, c.loop-self-test.false, c.len.ensures.value, i.within) in
    stops d c.args.breaks.now.keys _ _ _ _ i.ahead i.within i.walks.stands.trail.reached i.clear (at_end d c.args.breaks.now.keys _ done)
