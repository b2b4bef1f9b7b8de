-- What is left decides.
use Rattle.std.proofs.Common.{◌≡◌, drop}
use Rattle.std.specs.List.{list_all}
use Rattle.pickle_reach.specs.Names.{is_no_backslash}
use Rattle.pickle_reach.proofs.name.lack_backslash.Given as goal

abbrev pub invariant-loop-byte : goal.invariant-loop-byte
invariant-loop-byte l = list_all is_no_backslash (drop l.byte-index l.bytes) ≡ list_all is_no_backslash l.bytes
