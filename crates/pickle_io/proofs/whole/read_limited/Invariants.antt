-- What the loop over reads keeps.
use Rattle.std.proofs.Common.{◌≡◌, ◌≤◌, length}
use Rattle.std.specs.Io.KnownBytes.{Consumes}
use Rattle.pickle_io.proofs.whole.read_limited.Given as goal

-- the bytes so far are what the source gave, and it did not fail
abbrev pub invariant-reads : goal.invariant-reads
invariant-reads g l = record {
  gave : Consumes (g.S.Source.remaining l.fn.source) (g.S.Source.remaining l.source) l.bytes.items;
  within : length l.bytes.items ≤ l.limit;
  calm : g.S.Source.failures l.source ≡ g.S.Source.failures l.fn.source;
}

abbrev pub decreases-reads : goal.decreases-reads
decreases-reads g l = g.S.Source.turns l.source
