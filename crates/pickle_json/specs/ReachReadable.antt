-- The line of what is reached is read back as its object, by the grammar of JSON, and is one line.
-- Source: own.
use Rattle.std.specs.Prelude.{ℕ, Bool, codes}
use Rattle.pickle_ops.specs.Spelling.{Operation}
use Rattle.pickle_lenient.specs.declared.taken.Frames.{Frames}
use Rattle.pickle_reach.specs.declared.spot.Spot.{Spot}
use Rattle.json_lines.specs.Readable.{ReadsBackAs}
use Rattle.pickle_json.specs.ReachFields.{reached_fields, reached_line, nothing_fields, nothing_line, ways_fields, ways_line}

-- what is reached, that nothing is, or that there are too many ways
pub record ReachLinesReadBack : Type 0 where
  pub reached : (s : Spot) (f : Frames) (o : Operation) → ReadsBackAs (reached_line s f o) (codes "end") (reached_fields s f o)
  pub nothing : (offset : ℕ) (settled : Bool) → ReadsBackAs (nothing_line offset settled) (codes "end") (nothing_fields offset settled)
  pub ways : ReadsBackAs ways_line (codes "end") ways_fields
