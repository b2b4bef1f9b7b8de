use Rattle.std.proofs.Common.{◌≡◌, ◌+◌, ◌-◌, ◌<◌, length, drop, refl, ap, ◌∙◌, arith}
use Rattle.pickle_allow.proofs.Matching.{length-rests, no_byte, byte_more, every_byte}
use Rattle.pickle_allow.proofs.pattern.fits_by_rests.Goals as goal

pub loop-i-init : goal.loop-i-init
loop-i-init c = no_byte c.args.pattern.now c.args.text.now _ _ _ refl c.in_ok-clear_rests.ensures c.next_rests.ensures

pub next_rests-requires-in-loop-i : goal.next_rests-requires-in-loop-i
next_rests-requires-in-loop-i c = ap length c.loop-i.invariant ∙ length-rests c.args.pattern.now (drop c.loop-i.i c.args.text.now)

pub loop-i-preserved : goal.loop-i-preserved
loop-i-preserved c =
    let n : c.loop-i.i ≡ (c.loop-i.i - 1) + 1 = omega arith in
    let l : c.loop-i.i - 1 < length c.args.text.now = omega arith in
    byte_more _ _ _ _ _ _ n l c.loop-i.invariant c.next_rests-in-loop-i.ensures

pub index-requires : goal.index-requires
index-requires c =
    let n = ap length c.loop-i.invariant ∙ length-rests c.args.pattern.now (drop c.loop-i.i c.args.text.now) in
    omega (arith, c.loop-i.rests.ok.0, n)

pub returns : goal.returns
returns c =
    let z : c.loop-i.i ≡ 0 = omega arith in
    every_byte c.args.pattern.now c.args.text.now _ _ _ z c.loop-i.invariant c.index.ensures
