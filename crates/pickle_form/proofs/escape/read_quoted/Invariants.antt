-- What the loop over the bytes keeps: what is left, from what was read, gives the whole.
use Rattle.std.proofs.Common.{◌≡◌, drop}
use Rattle.std.specs.List.{fold}
use Rattle.pickle_form.specs.Escape.{quoted_after, quoted_begin}
use Rattle.pickle_form.proofs.escape.read_quoted.Given as goal

abbrev pub invariant-loop-byte : goal.invariant-loop-byte
invariant-loop-byte l = fold quoted_after l.state (drop l.byte-index l.text) ≡ fold quoted_after (quoted_begin l.fn.quote) l.text
