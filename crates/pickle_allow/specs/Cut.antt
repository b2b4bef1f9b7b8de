-- What bytes are cut at. These are no definitions of what a list allows.
use Rattle.std.specs.Prelude.{ℕ, Bool}
use Rattle.pickle_allow.specs.declared.cut.Separator.{Separator}
use Rattle.pickle_allow.specs.declared.cut.Separator.TheVariants as cut
use Rattle.pickle_allow.specs.Allow.{is_point}
use Rattle.pickle_allow.specs.Grammar.{is_newline, is_blank, is_hash, is_colon, is_open, is_close, is_bar, is_quote, is_slash}

abbrev pub separates : Separator → ℕ → Bool
separates cut.Newline = is_newline
separates cut.Hash = is_hash
separates cut.Colon = is_colon
separates cut.Point = is_point
separates cut.Blank = is_blank
separates cut.Open = is_open
separates cut.Close = is_close
separates cut.Bar = is_bar
separates cut.Quote = is_quote
separates cut.Slash = is_slash
