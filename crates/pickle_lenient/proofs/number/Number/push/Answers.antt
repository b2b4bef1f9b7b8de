-- A digit more, which is no 0 in front.
use Rattle.std.proofs.Common.{◌≡◌, ◌≢◌, []}
use Rattle.pickle_lenient.proofs.Numbers.{pushed}
use Rattle.pickle_lenient.proofs.number.Number.push.Goals as goal

pub invariant_of-self-2 : goal.invariant_of-self-2
invariant_of-self-2 c =
    let other : c.self.inside.digits.items ≡ [] → c.args.digit ≢ 48 = rw c.as_slice.ensures.value at c.is_leading.ensures.follows c.if-is_leading.false in
    pushed c.self.inside.digits.items c.push.new.self.items c.args.digit c.self.invariant c.requires other c.in_ok-push.ensures.items
