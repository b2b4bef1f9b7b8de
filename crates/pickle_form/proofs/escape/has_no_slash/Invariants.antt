-- What is left decides.
use Rattle.std.proofs.Common.{◌≡◌, drop}
use Rattle.std.specs.List.{list_all}
use Rattle.pickle_form.specs.Inside.{is_no_slash}
use Rattle.pickle_form.proofs.escape.has_no_slash.Given as goal

abbrev pub invariant-loop-byte : goal.invariant-loop-byte
invariant-loop-byte l = list_all is_no_slash (drop l.byte-index l.text) ≡ list_all is_no_slash l.text
