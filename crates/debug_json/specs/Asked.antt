-- What a line asks for: what a line of the texts for people says, and the words that are answered in JSON alone.
-- Source: own. In the texts a line of these words is a fault: its first word is unknown, or has a word too many behind it.
use Rattle.std.specs.Prelude.{◌≡◌, ℕ, List, [], ◌∷◌, length, codes, nat_lt, if◌then◌else◌, Option, Some, None, Result, Ok, Err}
use Rattle.std.specs.Str.{bytes_eq}
use Rattle.pickle_script.specs.declared.conversation.line.Line.{Line}
use Rattle.pickle_script.specs.declared.conversation.line.Syntax.{Syntax}
use Rattle.pickle_script.specs.declared.conversation.line.Syntax.TheVariants as syntax
use Rattle.pickle_script.specs.Grammar.{words_of, and_then, number_first, longest, line_says, AnswersWords}
use Rattle.debug_json.specs.declared.asked.Own.{Own}
use Rattle.debug_json.specs.declared.asked.Own.TheVariants as own
use Rattle.debug_json.specs.declared.asked.Asked.{Asked}
use Rattle.debug_json.specs.declared.asked.Asked.TheVariants as asked

-- ---- what comes after the first word

-- nothing
abbrev pub at_end : Own → List (List ℕ) → Result Own Syntax
at_end says [] = Ok says
at_end says (w ∷ words) = Err syntax.ExtraWord

-- two numbers
abbrev pub items_says : List (List ℕ) → Result Own Syntax
items_says words =
    and_then (number_first words) (λ (p : ℕ × List (List ℕ)).
    and_then (number_first p.1) (λ (q : ℕ × List (List ℕ)). at_end (own.Items p.0 q.0) q.1))

abbrev pub objects_says : List (List ℕ) → Result Own Syntax
objects_says words =
    and_then (number_first words) (λ (p : ℕ × List (List ℕ)).
    and_then (number_first p.1) (λ (q : ℕ × List (List ℕ)). at_end (own.Objects p.0 q.0) q.1))

-- one number
abbrev pub made_says : List (List ℕ) → Result Own Syntax
made_says words = and_then (number_first words) (λ (p : ℕ × List (List ℕ)). at_end (own.Made p.0) p.1)

-- without a further word the line is one of the texts
abbrev pub items_asked : List (List ℕ) → Option (Result Own Syntax)
items_asked [] = None
items_asked (w ∷ words) = Some (items_says (w ∷ words))

abbrev pub objects_asked : List (List ℕ) → Option (Result Own Syntax)
objects_asked [] = None
objects_asked (w ∷ words) = Some (objects_says (w ∷ words))

-- ---- a line

-- what is asked in JSON alone by this first word and the words after it, or the first fault; none where it is a line of the texts
abbrev pub word_asks : List ℕ → List (List ℕ) → Option (Result Own Syntax)
word_asks w words =
    if bytes_eq w (codes "breaks") then Some (at_end own.Breaks words)
    else if bytes_eq w (codes "items") then items_asked words
    else if bytes_eq w (codes "objects") then objects_asked words
    else if bytes_eq w (codes "trace") then Some (at_end own.Trace words)
    else if bytes_eq w (codes "made") then Some (made_says words)
    else None

abbrev pub words_ask : List (List ℕ) → Option (Result Own Syntax)
words_ask [] = None
words_ask (w ∷ words) = word_asks w words

unfoldable pub line_asks : List ℕ → Option (Result Own Syntax)
line_asks bytes = if nat_lt longest (length bytes) then None else words_ask (words_of bytes)

abbrev pub as_own : Result Own Syntax → Result Asked Syntax
as_own (Ok o) = Ok (asked.Own o)
as_own (Err f) = Err f

abbrev pub as_line : Result Line Syntax → Result Asked Syntax
as_line (Ok l) = Ok (asked.Line l)
as_line (Err f) = Err f

-- an answer where the words ask for this in JSON alone, and say that in the texts: running out of memory is an answer of the texts
abbrev pub AsksBy : Option (Result Own Syntax) → Result Line Syntax → Result Asked Syntax → Type 0
AsksBy (Some own) said answer = answer ≡ as_own own
AsksBy None said answer = (says : Result Line Syntax) × AnswersWords said says × (answer ≡ as_line says)

-- what a line may be read as
abbrev pub IsAsked : List ℕ → Result Asked Syntax → Type 0
IsAsked bytes answer = AsksBy (line_asks bytes) (line_says bytes) answer

-- a line of the texts
abbrev pub IsShared : List ℕ → Type 0
IsShared bytes = line_asks bytes ≡ None
