-- What is looked at of an argument. These are no definitions of what a list allows.
use Rattle.std.specs.Prelude.{List}
use Rattle.std.specs.Option.{option_map}
use Rattle.pickle_ops.specs.KindRef.{kind_view}
use Rattle.pickle_allow.specs.declared.takes.Given.{Given}
use Rattle.pickle_allow.specs.Arguments.{Argument}

abbrev pub given_view : Given → Argument
given_view g = record { kind = kind_view g.kind; name = option_map (λ t. t.now) g.name; endless = g.endless; made_bytes = g.made_bytes }
