-- The line that says whether two pickles make the same objects, or how they differ.
-- Source: own.
use Rattle.std.specs.Prelude.{◌≡◌, ℕ, Bool, List, codes}
use Rattle.pickle_io.specs.Text.{◌⧺◌}
use Rattle.pickle_text.specs.Words.{id_text}
use Rattle.pickle_text.specs.Column.{newline}
use Rattle.pickle_text.specs.Closing.{closing_line}
use Rattle.pickle_text.specs.Output.{Output}
use Rattle.pickle_text.specs.declared.closing.Closing.{Closing}
use Rattle.same_objects.specs.declared.compared.Compared.{Compared}
use Rattle.same_objects.specs.declared.compared.Compared.TheVariants as compared
use Rattle.same_objects.specs.Same.{Compares}

-- which of them is not read to its end, and how its run ends
unfoldable pub ends_line : List ℕ → Closing → List ℕ
ends_line which c = which ⧺ codes ": " ⧺ closing_line c

unfoldable pub follow_words : List ℕ
follow_words = codes ": bytes follow behind the pickle"

unfoldable pub goes_on_line : List ℕ → List ℕ
goes_on_line which = which ⧺ follow_words ⧺ newline

unfoldable pub object_words : List ℕ
object_words = codes "another object "

-- the first object that is another one
unfoldable pub object_line : ℕ → List ℕ
object_line number = object_words ⧺ id_text number ⧺ newline

unfoldable pub order_words : List ℕ
order_words = codes "other calls, or in another order\n"

unfoldable pub same_words : List ℕ
same_words = codes "the same objects\n"

unfoldable pub results_words : List ℕ
results_words = codes "another result\n"

unfoldable pub first_word : List ℕ
first_word = codes "first"

unfoldable pub second_word : List ℕ
second_word = codes "second"

abbrev pub comparison_line : Compared → List ℕ
comparison_line compared.Same = same_words
comparison_line (compared.FirstEnds c) = ends_line first_word c
comparison_line (compared.OtherEnds c) = ends_line second_word c
comparison_line (compared.Object number) = object_line number
comparison_line compared.Results = results_words
comparison_line (compared.FirstGoesOn e) = goes_on_line first_word
comparison_line (compared.OtherGoesOn e) = goes_on_line second_word
comparison_line compared.Order = order_words

-- 0 where they make the same
abbrev pub comparison_status : Compared → ℕ
comparison_status compared.Same = 0
comparison_status _ = 1

abbrev pub comparison_output : Compared → Output
comparison_output c = record { text = comparison_line c; status = comparison_status c }

-- the line of what two byte strings compare to
pub record IsSameText (many : Bool) (one other : List ℕ) (o : Output) : Type 0 where
  pub compared : Compared
  pub compares : Compares many one other compared
  pub text_is : o ≡ comparison_output compared
