-- What came of a part of the items. This is no definition of a text.
use Rattle.pickle_text.specs.declared.part.Part.{Part}
use Rattle.pickle_text.specs.declared.part.Part.TheVariants as part

-- what holds of how far it went, and what of the end
abbrev pub IsPart : {A E : Type 0} → (A → Type 0) → (E → Type 0) → Part A E → Type 0
IsPart more end (part.More a) = more a
IsPart more end (part.End e) = end e
