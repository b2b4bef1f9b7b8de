-- The words of a line, and what the line says: the word that it begins with decides which words may come after it.
-- Source: own.
use Rattle.std.specs.Prelude.{◌≡◌, ◌≢◌, ℕ, List, [], ◌∷◌, length, filter, codes, Bool, true, false, nat_lt, ◌==◌, ◌||◌, if◌then◌else◌, Option, Some, None, Result, Ok, Err, ⊤}
use Rattle.std.specs.Option.{option_map, option_map_or}
use Rattle.std.specs.List.{slice_split}
use Rattle.std.specs.Str.{bytes_eq}
use Rattle.hex.specs.Hex.{decode_of}
use Rattle.pickle_ops.specs.Shape.{decimal_of}
use Rattle.pickle_ops.specs.Spelling.{Operation, IsSpelled, FailsAsArg}
use Rattle.pickle_ops.specs.Table.{opcode_named}
use Rattle.pickle_ops.specs.declared.opcode.Opcode.{Opcode}
use Rattle.pickle_ops.specs.declared.fault.OpFault.TheVariants as fault
use Rattle.pickle_doc.specs.declared.edit.Edit.TheVariants as edit
use Rattle.pickle_session.specs.declared.command.Command.{Command}
use Rattle.pickle_session.specs.declared.command.Command.TheVariants as command
use Rattle.pickle_script.specs.declared.conversation.line.Query.{Query}
use Rattle.pickle_script.specs.declared.conversation.line.Query.TheVariants as query
use Rattle.pickle_script.specs.declared.conversation.line.Place.{Place}
use Rattle.pickle_script.specs.declared.conversation.line.Place.TheVariants as place
use Rattle.pickle_script.specs.declared.conversation.line.Action.{Action}
use Rattle.pickle_script.specs.declared.conversation.line.Action.TheVariants as action
use Rattle.pickle_script.specs.declared.conversation.line.Line.{Line}
use Rattle.pickle_script.specs.declared.conversation.line.Line.TheVariants as line
use Rattle.pickle_script.specs.declared.conversation.line.Syntax.{Syntax}
use Rattle.pickle_script.specs.declared.conversation.line.Syntax.TheVariants as syntax
use Rattle.pickle_script.specs.declared.conversation.keyword.PlaceWord.{PlaceWord}
use Rattle.pickle_script.specs.declared.conversation.keyword.PlaceWord.TheVariants as placed
use Rattle.pickle_script.specs.declared.conversation.keyword.OpWord.{OpWord}
use Rattle.pickle_script.specs.declared.conversation.keyword.OpWord.TheVariants as op

-- ---- words

-- the bytes that separate words: blank, tab, carriage return
abbrev pub is_blank : ℕ → Bool
is_blank byte = byte == 0x20 || byte == 0x09 || byte == 0x0d

-- whether there is any byte
abbrev pub has_byte : List ℕ → Bool
has_byte [] = false
has_byte (byte ∷ bytes) = true

-- what is between the blanks, where that has a byte
abbrev pub words_of : List ℕ → List (List ℕ)
words_of bytes = filter has_byte (slice_split is_blank bytes)

-- what was found, if anything was
abbrev pub found_bytes : {E : Type 0} → Result (List ℕ) E → Option (List ℕ)
found_bytes (Ok bytes) = Some bytes
found_bytes (Err e) = None

-- the bytes of a word of hexadecimal digits of both cases, two a byte
abbrev pub bytes_of_word : List ℕ → Option (List ℕ)
bytes_of_word w = found_bytes (decode_of w)

-- ---- first words

-- those that are a command
abbrev pub command_word : List ℕ → Option Command
command_word w =
    if bytes_eq w (codes "step") then Some command.Step
    else if bytes_eq w (codes "back") then Some command.Back
    else if bytes_eq w (codes "run") then Some command.Run
    else if bytes_eq w (codes "undo") then Some command.Undo
    else if bytes_eq w (codes "redo") then Some command.Redo
    else None

-- those that are a question
abbrev pub query_word : List ℕ → Option Query
query_word w =
    if bytes_eq w (codes "items") then Some query.Items
    else if bytes_eq w (codes "objects") then Some query.Objects
    else if bytes_eq w (codes "stack") then Some query.Stack
    else if bytes_eq w (codes "memo") then Some query.Memo
    else if bytes_eq w (codes "where") then Some query.Where
    else None

-- those before a place
abbrev pub place_word : List ℕ → Option PlaceWord
place_word w =
    if bytes_eq w (codes "goto") then Some placed.Goto
    else if bytes_eq w (codes "break") then Some placed.Break
    else if bytes_eq w (codes "clear") then Some placed.Clear
    else if bytes_eq w (codes "delete") then Some placed.Delete
    else if bytes_eq w (codes "unframe") then Some placed.Unframe
    else None

-- those before a place, a name and bytes
abbrev pub op_word : List ℕ → Option OpWord
op_word w =
    if bytes_eq w (codes "replace") then Some op.Replace
    else if bytes_eq w (codes "insert") then Some op.Insert
    else None

-- the command that each of them is at place k
abbrev pub word_at : PlaceWord → ℕ → Command
word_at placed.Goto k = command.Goto k
word_at placed.Break k = command.Break k
word_at placed.Clear k = command.Clear k
word_at placed.Delete k = command.Edit (edit.Delete k)
word_at placed.Unframe k = command.Edit (edit.Unframe k)

abbrev pub op_at : OpWord → ℕ → Operation → Command
op_at op.Replace k o = command.Edit (edit.Replace k o)
op_at op.Insert k o = command.Edit (edit.Insert k o)

abbrev pub command_at : Action → ℕ → Command
command_at (action.Word w) k = word_at w k
command_at (action.Put w o) k = op_at w k o
command_at (action.Frame n) k = command.Edit (edit.Frame k n)

-- ---- one word after another

-- the next answer, unless this one is a fault
abbrev pub and_then : {A B : Type 0} → Result A Syntax → (A → Result B Syntax) → Result B Syntax
and_then (Ok x) f = f x
and_then (Err e) f = Err e

-- a line whose words are all read; a word that comes after them is one too many
abbrev pub alone : Line → List (List ℕ) → Result Line Syntax
alone says [] = Ok says
alone says (w ∷ words) = Err syntax.ExtraWord

-- a number below 2^64 in decimal digits, any zeros in front, and the words after it
abbrev pub number_first : List (List ℕ) → Result (ℕ × List (List ℕ)) Syntax
number_first [] = Err syntax.MissingWord
number_first (w ∷ words) = option_map_or (λ (n : ℕ). Ok (n, words)) (decimal_of w) (Err syntax.BadNumber)

-- a place: its number; or `@` and after it, in the same word, its offset
abbrev pub place_of : List ℕ → Option Place
place_of [] = None
place_of (byte ∷ rest) = if byte == 0x40 then option_map place.Offset (decimal_of rest) else option_map place.Number (decimal_of (byte ∷ rest))

-- a place, and the words after it
abbrev pub place_first : List (List ℕ) → Result (Place × List (List ℕ)) Syntax
place_first [] = Err syntax.MissingWord
place_first (w ∷ words) = option_map_or (λ (p : Place). Ok (p, words)) (place_of w) (Err syntax.BadNumber)

-- ---- what a line says by its first word, with the words after it

-- the number of an object
abbrev pub show_says : List (List ℕ) → Result Line Syntax
show_says words = and_then (number_first words) (λ (p : ℕ × List (List ℕ)). alone (line.Query (query.Show p.0)) p.1)

-- one place
abbrev pub place_says : PlaceWord → List (List ℕ) → Result Line Syntax
place_says w words = and_then (place_first words) (λ (p : Place × List (List ℕ)). alone (line.At p.0 (action.Word w)) p.1)

-- a place and a count
abbrev pub frame_says : List (List ℕ) → Result Line Syntax
frame_says words =
    and_then (place_first words) (λ (p : Place × List (List ℕ)).
    and_then (number_first p.1) (λ (q : ℕ × List (List ℕ)). alone (line.At p.0 (action.Frame q.0)) q.1))

-- ---- operations

-- an opcode by its name, and the words after it
abbrev pub name_first : List (List ℕ) → Result (Opcode × List (List ℕ)) Syntax
name_first [] = Err syntax.MissingWord
name_first (w ∷ words) = option_map_or (λ (o : Opcode). Ok (o, words)) (opcode_named w) (Err syntax.UnknownOpcodeName)

-- bytes with no word after them
abbrev pub last_bytes : Option (List ℕ) → List (List ℕ) → Result (List ℕ) Syntax
last_bytes None words = Err syntax.BadHex
last_bytes (Some bytes) [] = Ok bytes
last_bytes (Some bytes) (w ∷ words) = Err syntax.ExtraWord

-- the whole argument in hexadecimal, absent where it is empty
abbrev pub arg_last : List (List ℕ) → Result (List ℕ) Syntax
arg_last [] = Ok []
arg_last (w ∷ words) = last_bytes (bytes_of_word w) words

-- a place, an opcode, and its whole argument
abbrev pub op_says : OpWord → List (List ℕ) → Result Line Syntax
op_says w words =
    and_then (place_first words) (λ (p : Place × List (List ℕ)).
    and_then (name_first p.1) (λ (q : Opcode × List (List ℕ)).
    and_then (arg_last q.1) (λ (arg : List ℕ). Ok (line.At p.0 (action.Put w (record { opcode = q.0; arg = arg }))))))

-- by each first word; an unknown one is a fault whatever comes after it
abbrev pub word_says : List ℕ → List (List ℕ) → Result Line Syntax
word_says w words =
    if bytes_eq w (codes "show") then show_says words
    else if bytes_eq w (codes "frame") then frame_says words
    else if bytes_eq w (codes "quit") then alone line.Quit words
    else option_map_or (λ (c : Command). alone (line.Command c) words) (command_word w)
    (option_map_or (λ (q : Query). alone (line.Query q) words) (query_word w)
    (option_map_or (λ (p : PlaceWord). place_says p words) (place_word w)
    (option_map_or (λ (o : OpWord). op_says o words) (op_word w) (Err syntax.UnknownWord))))

abbrev pub words_say : List (List ℕ) → Result Line Syntax
words_say [] = Ok line.Nothing
words_say (w ∷ words) = word_says w words

-- the most bytes of a line
abbrev pub longest : ℕ
longest = 65536

-- what a line says before its operation is looked at, or the first fault
unfoldable pub line_says : List ℕ → Result Line Syntax
line_says bytes = if nat_lt longest (length bytes) then Err syntax.LineTooLong else words_say (words_of bytes)

-- ---- the operation

-- the operation that a line names
abbrev pub op_in : Line → Option Operation
op_in (line.At p (action.Put w o)) = Some o
op_in _ = None

-- an operation in an answer is spelled
abbrev pub IsSpelledOp : Option Operation → Type 0
IsSpelledOp None = ⊤
IsSpelledOp (Some o) = IsSpelled o

-- the faults of an operation; running out of memory has an answer of its own
abbrev pub OpFails : Option Operation → Syntax → Type 0
OpFails (Some o) (syntax.BadOp f) = (f ≢ fault.Memory) × FailsAsArg o.opcode o.arg f
OpFails (Some o) syntax.Memory = ⊤
OpFails _ _ = ⊥

-- an answer where the words say this: their fault; or what they say, or else the fault of their operation
abbrev pub AnswersWords : Result Line Syntax → Result Line Syntax → Type 0
AnswersWords (Err f) answer = answer ≡ Err f
AnswersWords (Ok says) (Ok l) = (l ≡ says) × IsSpelledOp (op_in says)
AnswersWords (Ok says) (Err f) = OpFails (op_in says) f
