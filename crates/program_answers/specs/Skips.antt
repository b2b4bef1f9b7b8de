-- The words of the command line, in which `--skip @HOLES` stands for `--skip` and a line of the file HOLES, once for each line that is not
-- blank.
-- Source: own; lines and white space are those of std.
use Rattle.std.specs.Prelude.{◌≡◌, ◌≢◌, ◌⊎◌, ◌==◌, ℕ, List, [], ◌∷◌, ◌++◌, length, codes, if◌then◌else◌}
use Rattle.std.specs.Str.{trim, IsUtf8}
use Rattle.std.specs.Str.Lines.{lines}
use Rattle.pickle_script.specs.declared.stop.Stop.{Stop}
use Rattle.pickle_script.specs.declared.stop.Stop.TheVariants as stop
use Rattle.program_answers.specs.Files.{Reports, IsRead, IsUnread}

abbrev pub skip_word : List ℕ
skip_word = codes "--skip"

-- the words for a line, which may be blank
abbrev pub skip_of : List ℕ → List (List ℕ)
skip_of hole = if length hole == 0 then [] else skip_word ∷ hole ∷ []

-- those for the lines of a file, each without the white space around it
abbrev pub skips : List (List ℕ) → List (List ℕ)
skips [] = []
skips (line ∷ more) = skip_of (trim line) ++ skips more

-- ---- the words

-- the words in whose place others stand
abbrev pub StandFor : (List ℕ → List ℕ → Type 0) → List (List ℕ) → List (List ℕ) → Type 0
StandFor Read [] out = out ≡ []
StandFor Read (word ∷ []) out = out ≡ word ∷ []
StandFor Read (word ∷ next ∷ more) out =
    ((word ≡ skip_word)
    × ((path : List ℕ) × (next ≡ 64 ∷ path)
    × ((bytes : List ℕ) × Read path bytes × ((rest : List (List ℕ)) × StandFor Read more rest × (out ≡ skips (lines bytes) ++ rest)))))
    ⊎ ((word ≡ skip_word → (path : List ℕ) → next ≢ 64 ∷ path) × ((rest : List (List ℕ)) × StandFor Read (next ∷ more) rest × (out ≡ word ∷ rest)))

-- these were added for the first of some words, and the rest is still to come
pub record AddsFor (Read : List ℕ → List ℕ → Type 0) (first rest : List (List ℕ)) (old new : List (List ℕ)) : Type 0 where
  pub added : List (List ℕ)
  pub new_is : new ≡ old ++ added
  pub stand : (out : List (List ℕ)) → StandFor Read rest out → StandFor Read first (added ++ out)

-- ---- no words

-- there are no words for the lines of a file: it was not read, it is no text, or there was no memory for them
abbrev pub LacksLines : {F O : Type 0} → Reports F O → F → List ℕ → Stop → Type 0
LacksLines r files path e =
    IsUnread r files path e ⊎ (((bytes : List ℕ) × IsRead (r.bytes_of files path) bytes × ¬ (IsUtf8 bytes) × (e ≡ stop.Read)) ⊎ (e ≡ stop.Memory))

-- this file is named behind `--skip`
abbrev pub IsGivenFile : List ℕ → List (List ℕ) → Type 0
IsGivenFile path words = (front : List (List ℕ)) × ((back : List (List ℕ)) × (words ≡ front ++ (skip_word ∷ (64 ∷ path) ∷ back)))

abbrev pub LacksWords : {F O : Type 0} → Reports F O → F → List (List ℕ) → Stop → Type 0
LacksWords r files words e = (e ≡ stop.Memory) ⊎ ((path : List ℕ) × IsGivenFile path words × LacksLines r files path e)
