-- Numbers of as many digits differ as these do, and others as their counts do.
use Rattle.std.proofs.Common.{◌≡◌, length}
use Rattle.std.specs.Ordering.{nat_cmp}
use Rattle.pickle_lenient.proofs.Numbers.{same_length, other_length}
use Rattle.pickle_lenient.proofs.number.compare.Goals as goal

pub returns-in-Equal : goal.returns-in-Equal
returns-in-Equal c =
    let lengths : c.cmp.result ≡ nat_cmp (length c.args.digits.now) (length c.args.others.now) = c.cmp.ensures in
    same_length c.args.digits.now c.args.others.now c.cmp.result c.cmp-in-Equal.result c.requires.left c.requires.right lengths c.in-Equal.is c.cmp-in-Equal.ensures

pub returns-in_default : goal.returns-in_default
returns-in_default c =
    let lengths : c.cmp.result ≡ nat_cmp (length c.args.digits.now) (length c.args.others.now) = c.cmp.ensures in
    other_length c.args.digits.now c.args.others.now c.cmp.result c.requires.left c.requires.right lengths c.in_default.not-Equal
