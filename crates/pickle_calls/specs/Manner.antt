-- How the text of imports and calls shows a file: how much of an argument, and which holes of the file are left out, so that offsets are
-- those in the file.
-- Source: own.
use Rattle.std.specs.Prelude.{List, []}
use Rattle.pickle_io.specs.declared.hole.Hole.{Hole}
use Rattle.pickle_io.specs.Holes.{in_file}
use Rattle.pickle_calls.specs.declared.naming.Detail.{Detail}
use Rattle.pickle_text.specs.declared.closing.Closing.{Closing}
use Rattle.pickle_text.specs.declared.closing.Closing.TheVariants as closing
use Rattle.pickle_calls.specs.declared.end.Ending.{Ending}
use Rattle.pickle_calls.specs.declared.end.Ending.TheVariants as ending

pub record Manner : Type 0 where
  pub detail : Detail
  pub holes : List Hole

abbrev pub manner : Detail → List Hole → Manner
manner how holes = record { detail = how; holes = holes }

-- nothing is left out
abbrev pub whole : Detail → Manner
whole how = manner how []

-- how a reading ended, with its offset in the file
abbrev pub closing_in : List Hole → Closing → Closing
closing_in holes closing.Stopped = closing.Stopped
closing_in holes (closing.Refused place r) = closing.Refused place r
closing_in holes (closing.Fault f offset) = closing.Fault f (in_file holes offset)

abbrev pub ending_in : List Hole → Ending → Ending
ending_in holes (ending.Closed kept c) = ending.Closed kept (closing_in holes c)
ending_in holes (ending.Unsure offset) = ending.Unsure (in_file holes offset)
