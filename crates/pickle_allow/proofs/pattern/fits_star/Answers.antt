use Rattle.std.proofs.Common.{sym, ◌∙◌}
use Rattle.std.specs.Prelude.{not}
use Rattle.std.proofs.Common.{ap}
use Rattle.pickle_allow.proofs.Matching.{one_star, two_stars}
use Rattle.pickle_allow.proofs.pattern.fits_star.Goals as goal

pub returns-then-is_one_star : goal.returns-then-is_one_star
returns-then-is_one_star c = ap not c.has_point.ensures ∙ one_star c.args.pattern.now c.args.text.now (sym c.is_one_star.ensures ∙ c.if-is_one_star.true)

pub returns-then-is_two_stars : goal.returns-then-is_two_stars
returns-then-is_two_stars c = two_stars c.args.pattern.now c.args.text.now (sym c.is_two_stars.ensures ∙ c.if-is_two_stars.true)
