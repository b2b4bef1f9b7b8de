-- What is left decides.
use Rattle.std.proofs.Common.{◌≡◌, drop}
use Rattle.std.specs.List.{list_any}
use Rattle.pickle_further.specs.Parts.{is_frame_code}
use Rattle.pickle_further.proofs.parts.has_frame.Given as goal

abbrev pub invariant-loop-byte : goal.invariant-loop-byte
invariant-loop-byte l = list_any is_frame_code (drop l.byte-index l.bytes) ≡ list_any is_frame_code l.bytes
