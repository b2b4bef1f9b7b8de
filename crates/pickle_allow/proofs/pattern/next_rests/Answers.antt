use Rattle.std.proofs.Common.{◌≡◌, ◌+◌, ◌-◌, ◌<◌, suc, length, ◌∙◌, arith}
use Rattle.pickle_allow.proofs.Matching.{none_done, both_first, step_down}
use Rattle.pickle_allow.proofs.pattern.next_rests.Goals as goal

pub loop-i-init : goal.loop-i-init
loop-i-init c = record {
  done = none_done _ _ _ _ c.requires;
  both = c.index-both.ensures ∙ both_first _ _ _ c.requires;
}

pub loop-i-preserved : goal.loop-i-preserved
loop-i-preserved c =
    let n : c.loop-i.i ≡ suc (c.loop-i.i - 1) = omega arith in
    let j : (c.loop-i.i - 1) + 1 ≡ suc (c.loop-i.i - 1) = omega arith in
    let l : c.loop-i.i - 1 < length c.args.pattern.now = omega arith in
    let s = step_down _ _ _ _ _ _ _ _ _ _ _ _ n j l c.requires c.loop-i.invariant.done c.loop-i.invariant.both c.index-same.ensures c.index-star.ensures c.in_front.ensures in
    record { done = s.done; both = s.both }
