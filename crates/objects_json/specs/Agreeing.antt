-- The word of a kind is that of the text for people, behind which a blank and more may stand there.
-- Source: own.
use Rattle.std.specs.Prelude.{◌≡◌, ◌⊎◌, ℕ, List, codes}
use Rattle.pickle_io.specs.Text.{◌⧺◌}
use Rattle.pickle_ops.specs.declared.kind.Kind.{Kind}
use Rattle.pickle_text.specs.Words.{kind_text}
use Rattle.objects_json.specs.ObjectFields.{kind_word}

abbrev pub WordsAgree : Type 0
WordsAgree = (k : Kind) → (kind_text k ≡ kind_word k) ⊎ ((rest : List ℕ) × (kind_text k ≡ kind_word k ⧺ codes " " ⧺ rest))
