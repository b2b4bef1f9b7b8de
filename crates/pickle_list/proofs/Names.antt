-- The name of an operation with its argument and its note.
use Rattle.std.proofs.Common.{◌≡◌, ◌∙◌, List, ℕ, Option, Some, None, refl, true, false}
use Rattle.std.specs.Prelude.{is_some, unwrap_or, [], codes}
use Rattle.pickle_io.specs.Text.{◌⧺◌}
use Rattle.pickle_list.specs.declared.note.Note.{Note}
use Rattle.pickle_ops.specs.Spelling.{Operation}
use Rattle.pickle_ops.specs.Text.{arg_text}
use Rattle.pickle_text.specs.Column.{left_aligned}
use Rattle.pickle_list.specs.ArgTexts.{ArgTexts}
use Rattle.pickle_list.specs.Line.{described, note_text}

described-some : (name : List ℕ) (arg : Option (List ℕ)) → is_some arg ≡ true → described name arg None ≡ left_aligned 10 name ⧺ codes " " ⧺ unwrap_or arg []
described-some name (Some text) h = refl
described-some name None h = cc

described-none : (name : List ℕ) (arg : Option (List ℕ)) → is_some arg ≡ false → described name arg None ≡ name
described-none name None h = refl
described-none name (Some text) h = cc

noted-some : (name : List ℕ) (arg : Option (List ℕ)) (n : Note) → is_some arg ≡ true → described name arg (Some n) ≡ left_aligned 10 name ⧺ codes " " ⧺ unwrap_or arg [] ⧺ codes " " ⧺ note_text n
noted-some name (Some text) n h = refl
noted-some name None n h = cc

noted-none : (name : List ℕ) (arg : Option (List ℕ)) (n : Note) → is_some arg ≡ false → described name arg (Some n) ≡ left_aligned 10 name ⧺ codes " " ⧺ note_text n
noted-none name None n h = refl
noted-none name (Some text) n h = cc

-- where the argument has a text, and where it has none
pub described_there : (args : ArgTexts) (name : List ℕ) (o : Operation) → is_some (arg_text o) ≡ true
    → described name (args.text o) None ≡ left_aligned 10 name ⧺ codes " " ⧺ unwrap_or (args.text o) []
described_there args name o h = described-some name (args.text o) (args.there o ∙ h)

pub described_alone : (args : ArgTexts) (name : List ℕ) (o : Operation) → is_some (arg_text o) ≡ false → described name (args.text o) None ≡ name
described_alone args name o h = described-none name (args.text o) (args.there o ∙ h)

pub noted_there : (args : ArgTexts) (name : List ℕ) (o : Operation) (n : Note) → is_some (arg_text o) ≡ true
    → described name (args.text o) (Some n) ≡ left_aligned 10 name ⧺ codes " " ⧺ unwrap_or (args.text o) [] ⧺ codes " " ⧺ note_text n
noted_there args name o n h = noted-some name (args.text o) n (args.there o ∙ h)

pub noted_alone : (args : ArgTexts) (name : List ℕ) (o : Operation) (n : Note) → is_some (arg_text o) ≡ false
    → described name (args.text o) (Some n) ≡ left_aligned 10 name ⧺ codes " " ⧺ note_text n
noted_alone args name o n h = noted-none name (args.text o) n (args.there o ∙ h)

pub ruleset name_steps = (described_there, described_alone, noted_there, noted_alone)
