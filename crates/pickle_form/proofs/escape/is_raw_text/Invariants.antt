-- What the loop over the bytes keeps: what is left, from what was read, gives the whole.
use Rattle.std.proofs.Common.{◌≡◌, drop}
use Rattle.std.specs.List.{fold}
use Rattle.pickle_form.specs.Escape.{raw_after, raw_begin}
use Rattle.pickle_form.proofs.escape.is_raw_text.Given as goal

abbrev pub invariant-loop-byte : goal.invariant-loop-byte
invariant-loop-byte l = fold raw_after l.state (drop l.byte-index l.text) ≡ fold raw_after raw_begin l.text
