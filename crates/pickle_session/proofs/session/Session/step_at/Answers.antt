use Rattle.std.proofs.Common.{◌≡◌, ◌-◌, ◌≤◌, length, ◌∙◌, arith}
use Rattle.pickle_session.proofs.Recorded.{is_kept}
use Rattle.pickle_session.proofs.session.Session.step_at.Goals as goal

pub returns-clause-step : goal.returns-clause-step
returns-clause-step g c =
    let s = c.self.inside in
    let first : c.saturating_sub-first.result ≡ s.walker.place - length (g.P.Past.holds s.past).records = omega (arith, c.saturating_sub-first.ensures, c.kept.ensures.value) in
    let within : c.saturating_sub-first.result ≤ c.args.place = omega (arith, c.if-place-first.false) in
    rw (← c.self.view_is) (c.get.ensures ∙ is_kept s.document.contents s.walker (g.P.Past.holds s.past).records c.args.place c.saturating_sub-first.result c.self.invariant.0.stands first within)

pub returns-clause-before : goal.returns-clause-before
returns-clause-before g c = rw (← c.self.view_is) c.self.invariant.0.stands.trail.within
