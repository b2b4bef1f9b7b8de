-- What the loop over the bytes keeps: what is left, from what was read, gives the whole.
use Rattle.std.proofs.Common.{◌≡◌, drop}
use Rattle.std.specs.List.{fold}
use Rattle.pickle_form.specs.declared.name.NamePart.TheVariants as part
use Rattle.pickle_form.specs.Name.{after_byte}
use Rattle.pickle_form.proofs.name.part_of.Given as goal

abbrev pub invariant-loop-byte : goal.invariant-loop-byte
invariant-loop-byte l = fold after_byte l.part (drop l.byte-index l.text) ≡ fold after_byte part.Begin l.text
