-- What the source gave with the last read.
use Rattle.std.proofs.Common.{◌≡◌, ◌+◌, ◌++◌, length, take, length-append, arith}
use Rattle.std.proofs.lemmas.List.{length-take, length-take-le}
use Rattle.std.proofs.KnownBytes.{Consumes-trans}
use Rattle.pickle_io.proofs.whole.read_limited.Goals as goal

pub returns-then-count-room-clause-stopped : goal.returns-then-count-room-clause-stopped
returns-then-count-room-clause-stopped g c =
    let last = take c.in-Ok.count c.read.new.buffer in
    let some : length last ≡ c.in-Ok.count = length-take-le c.in-Ok.count c.read.new.buffer c.in-Ok.ensures.within in
    let asked = length-take (c.min-most.result + 1) c.reads.block in
    (c.reads.bytes.items ++ last, omega (arith, length-append c.reads.bytes.items last, some, asked, c.in-Ok.ensures.within), Consumes-trans _ _ _ _ _ c.reads.invariant.gave c.in-Ok.ensures.given)

pub returns-then-is_err-clause-stopped : goal.returns-then-is_err-clause-stopped
returns-then-is_err-clause-stopped g c =
    let last = take c.in-Ok.count c.read.new.buffer in
    let some : length last ≡ c.in-Ok.count = length-take-le c.in-Ok.count c.read.new.buffer c.in-Ok.ensures.within in
    let sum = length-append c.reads.bytes.items last in
    (c.reads.bytes.items ++ last, omega (arith, sum, some), omega (arith, sum, some), Consumes-trans _ _ _ _ _ c.reads.invariant.gave c.in-Ok.ensures.given)
