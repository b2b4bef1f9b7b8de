use Rattle.std.proofs.Common.{◌≡◌, None, length, ap, ◌∙◌, arith, rules}
use Rattle.pickle_machine.specs.State.{start}
use Rattle.pickle_doc.specs.Place.{ops_of}
use Rattle.pickle_session.specs.Past.{count_within}
use Rattle.pickle_session.specs.Session.{refused_at}
use Rattle.pickle_session.proofs.Living.{place_within, stands_within}
use Rattle.pickle_session.proofs.Trails.{nothing_within, within_length, run_moves}
use Rattle.pickle_session.proofs.way.Walker.build.Goals as goal

pub go_on-requires-clause-within : goal.go_on-requires-clause-within
go_on-requires-clause-within g c = omega (arith, c.requires.order, place_within c.args.document.now.contents _ _ c.requires.there.reached)

pub prove-unreachable-requires : goal.prove-unreachable-requires
prove-unreachable-requires g c =
    let d = c.args.document.now.contents in
    let none : refused_at d c.go_on.new.self.place ≡ None = run_moves (start d.many) (ops_of d) c.args.self.now.place _ _ c.requires.there.reached (omega (arith, c.in-Err.ensures.before, c.requires.order)) in
    search rules

pub keep_each-requires-clause-within : goal.keep_each-requires-clause-within
keep_each-requires-clause-within g c = nothing_within (g.P.Past.holds c.forget_all.new.past) c.forget_all.ensures.records

pub returns-in-Ok-clause-stands : goal.returns-in-Ok-clause-stands
returns-in-Ok-clause-stands g c =
    let kept = rw (c.forget_all.ensures.limit, c.forget_all.ensures.records) at c.keep_each.ensures.records in
    rw kept (stands_within _ _ (g.P.Past.holds c.args.past.now).limit _ c.go_on.ensures.walks.stands)

pub returns-in-Ok-clause-kept : goal.returns-in-Ok-clause-kept
returns-in-Ok-clause-kept g c =
    let kept = rw (c.forget_all.ensures.limit, c.forget_all.ensures.records) at c.keep_each.ensures.records in
    let limit = (g.P.Past.holds c.args.past.now).limit in
    let count : length c.go_on.new.trail.records.items ≡ c.args.place = omega (arith, c.in-Ok.ensures.all, c.go_on.ensures.walks.count, c.new-second.ensures.place) in
    rw kept (within_length limit c.go_on.new.trail.records.items ∙ ap (λ n. count_within limit n) count)
