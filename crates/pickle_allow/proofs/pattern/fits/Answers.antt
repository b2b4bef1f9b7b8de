use Rattle.std.proofs.Common.{◌≡◌, length, sym, ◌∙◌, add-one, arith}
use Rattle.pickle_allow.proofs.Matching.{front_is, all_front}
use Rattle.pickle_allow.proofs.pattern.fits.Goals as goal

pub loop-i-preserved : goal.loop-i-preserved
loop-i-preserved c =
    let f = front_is c.args.pattern.now c.args.text.now c.loop-i.i (omega arith) (sym c.is_star.ensures ∙ c.if-is_star.false) (sym c.is_at.ensures ∙ c.if-not-is_at.false) in
    rw (add-one c.loop-i.i) (record { within = f.within; same = sym f.same ∙ c.loop-i.invariant.same })

pub returns : goal.returns
returns c =
    let n : c.loop-i.i ≡ length c.args.pattern.now = omega arith in
    all_front _ _ _ n c.loop-i.invariant.within c.loop-i.invariant.same
