use Rattle.std.proofs.Common.{◌≤◌, ◌<◌, refl, ap, sym, arith, rules}
use Rattle.pickle_session.specs.Session.{len_of}
use Rattle.pickle_session.specs.Allowed.{SessionState}
use Rattle.pickle_session.proofs.Living.{live_again, live_there}
use Rattle.pickle_session.proofs.Answering.{goto_arrives, goto_stumbles}
use Rattle.pickle_session.proofs.session.Session.go_ahead.Goals as goal

pub invariant_of-self-in-Err-keep_all : goal.invariant_of-self-in-Err-keep_all
invariant_of-self-in-Err-keep_all g c =
    (live_again _ _ _ _ _ _ _ _ c.self.invariant.0 c.go_on.ensures.walks.went c.give_up-self-inside.ensures.went c.give_up-self-inside.ensures.from c.give_up-self-inside.ensures.there c.in-Err-keep_all.ensures.err c.keep_all.ensures.past.limit, c.self.invariant.1)

pub invariant_of-self : goal.invariant_of-self
invariant_of-self g c =
    (live_there _ _ _ _ _ _ c.self.invariant.0 c.go_on.ensures.walks c.in-Ok-keep_all.ensures.records c.keep_all.ensures.past.limit, c.self.invariant.1)

pub invariant_of-self-then-eq : goal.invariant_of-self-then-eq
invariant_of-self-then-eq g c =
    (live_again _ _ _ _ _ _ _ _ c.self.invariant.0 c.go_on.ensures.walks.went c.give_up-self-inside-in-Err.ensures.went c.give_up-self-inside-in-Err.ensures.from c.give_up-self-inside-in-Err.ensures.there refl refl, c.self.invariant.1)

pub invariant_of-self-in-Err-go_on : goal.invariant_of-self-in-Err-go_on
invariant_of-self-in-Err-go_on g c =
    (live_again _ _ _ _ _ _ _ _ c.self.invariant.0 c.go_on.ensures.walks.went c.give_up-self-inside-in-Err.ensures.went c.give_up-self-inside-in-Err.ensures.from c.give_up-self-inside-in-Err.ensures.there refl refl, c.self.invariant.1)

pub returns-in-Ok-keep_all-clause-answers : goal.returns-in-Ok-keep_all-clause-answers
returns-in-Ok-keep_all-clause-answers g c =
    let within : c.args.place ≤ len_of c.self.inside.document.contents = rw (sym c.self.view_is) at c.requires.within in
    let ahead : c.self.inside.walker.place < c.args.place = rw (sym c.self.view_is) at c.requires.ahead in
    let there = rw c.in-Ok.ensures.all at c.go_on.ensures.walks.stands.trail.reached in
    rw c.in-Ok.ensures.all (goto_arrives _ _ _ _ (ap (λ (p : SessionState). p.session) c.self.view_is) within ahead there)

pub returns-else-eq-clause-answers : goal.returns-else-eq-clause-answers
returns-else-eq-clause-answers g c =
    let within : c.args.place ≤ len_of c.self.inside.document.contents = rw (sym c.self.view_is) at c.requires.within in
    let ahead : c.self.inside.walker.place < c.args.place = rw (sym c.self.view_is) at c.requires.ahead in
    rw c.give_up-self-inside-in-Err.ensures.from (goto_stumbles _ _ _ _ _ _ (ap (λ (p : SessionState). p.session) c.self.view_is) within ahead (omega (arith, c.go_on.ensures.walks.count)) c.in-Err.ensures.before c.go_on.ensures.walks.stands.trail.reached c.in-Err.ensures.refused (search rules))
