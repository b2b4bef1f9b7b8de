-- The text of a list: its lines, and what they list.
-- Source: own. `picklestep scan --allow` takes more lines than these (docs/reference/lists.md); a line that both take means the same.
use Rattle.std.specs.Prelude.{◌≡◌, ℕ, ◌+◌, nat_le, ◌==◌, ◌&&◌, ◌||◌, not, if◌then◌else◌, Bool, true, false, List, [], ◌∷◌, ◌++◌, map, take, drop, codes, Option, Some, None, Result, Ok, Err}
use Rattle.std.specs.Option.{is_some, option_map, option_map_or, unwrap_or}
use Rattle.std.specs.List.{list_all, list_any, slice_split}
use Rattle.std.specs.Str.{bytes_eq}
use Rattle.pickle_allow.specs.declared.list.Use.{Use}
use Rattle.pickle_allow.specs.declared.list.Use.TheVariants as use_of
use Rattle.pickle_allow.specs.declared.list.Uses.{Uses}
use Rattle.pickle_allow.specs.declared.list.Entry.{Entry}
use Rattle.pickle_allow.specs.declared.sort.Sort.{Sort}
use Rattle.pickle_allow.specs.declared.sort.Sort.TheVariants as sort
use Rattle.pickle_allow.specs.declared.words.Word.{Word}
use Rattle.pickle_allow.specs.declared.words.Word.TheVariants as word
use Rattle.pickle_allow.specs.declared.words.Said.{Said}
use Rattle.pickle_allow.specs.declared.listing.Listing.{Listing}
use Rattle.pickle_allow.specs.declared.listing.Listing.TheVariants as listing
use Rattle.pickle_allow.specs.Allow.{is_nothing, is_star, is_point, begins_with_star}

-- ---- bytes

abbrev pub is_newline : ℕ → Bool
is_newline c = c == 10

-- blank, tab, carriage return
abbrev pub is_blank : ℕ → Bool
is_blank c = c == 32 || c == 9 || c == 13

-- `#`
abbrev pub is_hash : ℕ → Bool
is_hash c = c == 35

abbrev pub is_colon : ℕ → Bool
is_colon c = c == 58

-- `(`, `)`, `|`, `'`, `/`
abbrev pub is_open : ℕ → Bool
is_open c = c == 40

abbrev pub is_close : ℕ → Bool
is_close c = c == 41

abbrev pub is_bar : ℕ → Bool
is_bar c = c == 124

abbrev pub is_quote : ℕ → Bool
is_quote c = c == 39

abbrev pub is_slash : ℕ → Bool
is_slash c = c == 47

abbrev pub is_digit : ℕ → Bool
is_digit c = nat_le 48 c && nat_le c 57

abbrev pub is_letter : ℕ → Bool
is_letter c = (nat_le 65 c && nat_le c 90) || (nat_le 97 c && nat_le c 122)

-- letters, digits and the underscore; bytes beyond ASCII, since letters of other alphabets are such bytes in UTF-8
abbrev pub is_name_byte : ℕ → Bool
is_name_byte c = is_letter c || is_digit c || c == 95 || nat_le 128 c

-- what stands before the first byte that passes a test; all bytes where none does
abbrev pub before : (ℕ → Bool) → List ℕ → List ℕ
before test [] = []
before test (c ∷ bytes) = if test c then [] else c ∷ before test bytes

-- what stands behind it, if there is one
abbrev pub behind : (ℕ → Bool) → List ℕ → Option (List ℕ)
behind test [] = None
behind test (c ∷ bytes) = if test c then Some bytes else behind test bytes

abbrev pub left_trimmed : List ℕ → List ℕ
left_trimmed [] = []
left_trimmed (c ∷ bytes) = if is_blank c then left_trimmed bytes else c ∷ bytes

-- a byte in front of others; a blank in front of nothing is left out
abbrev pub unless_blank : ℕ → List ℕ → List ℕ
unless_blank c [] = if is_blank c then [] else c ∷ []
unless_blank c (d ∷ bytes) = c ∷ d ∷ bytes

abbrev pub right_trimmed : List ℕ → List ℕ
right_trimmed [] = []
right_trimmed (c ∷ bytes) = unless_blank c (right_trimmed bytes)

-- without the blanks around it
abbrev pub trimmed : List ℕ → List ℕ
trimmed bytes = right_trimmed (left_trimmed bytes)

-- ---- names

abbrev pub is_part_byte : ℕ → Bool
is_part_byte c = is_star c || is_name_byte c

abbrev pub begins_word : List ℕ → Bool
begins_word [] = false
begins_word (c ∷ part) = not (is_digit c)

-- a part of a name: it is not empty and begins with no digit, unless there is a star in it
abbrev pub is_part : List ℕ → Bool
is_part part = list_all is_part_byte part && (list_any is_star part || begins_word part)

abbrev pub has_two_stars : List ℕ → Bool
has_two_stars [] = false
has_two_stars (c ∷ bytes) = (is_star c && begins_with_star bytes) || has_two_stars bytes

-- the name of an import or a pattern of names: parts with points between them, two at least; or it has two stars side by side; or it is one star
abbrev pub is_name : List ℕ → Bool
is_name bytes = list_all is_part (slice_split is_point bytes) && (list_any is_point bytes || has_two_stars bytes || bytes_eq bytes (codes "*"))

-- the code of an extension, or a star for any
abbrev pub is_code : List ℕ → Bool
is_code bytes = bytes_eq bytes (codes "*") || (list_all is_digit bytes && not (is_nothing bytes))

-- `ext`, one blank and a code
abbrev pub is_extension : List ℕ → Bool
is_extension bytes = bytes_eq (take 4 bytes) (codes "ext ") && is_code (drop 4 bytes)

-- a word for what is no import
abbrev pub is_word : List ℕ → Bool
is_word bytes = bytes_eq bytes (codes "persistent") || bytes_eq bytes (codes "buffer") || is_extension bytes

-- ---- shapes

-- a word for a sort of arguments
abbrev pub sort_of : List ℕ → Option Sort
sort_of w =
    if bytes_eq w (codes "text") then Some sort.Text
    else if bytes_eq w (codes "short") then Some sort.Short
    else if bytes_eq w (codes "fraction") then Some sort.Fraction
    else if bytes_eq w (codes "bytes") then Some sort.Bytes
    else if bytes_eq w (codes "number") then Some sort.Number
    else if bytes_eq w (codes "small") then Some sort.Small
    else if bytes_eq w (codes "bool") then Some sort.Bool
    else if bytes_eq w (codes "none") then Some sort.None
    else if bytes_eq w (codes "held") then Some sort.Held
    else if bytes_eq w (codes "alone") then Some sort.Held
    else if bytes_eq w (codes "listed") then Some sort.Listed
    else if bytes_eq w (codes "class") then Some sort.Class
    else if bytes_eq w (codes "new") then Some sort.New
    else if bytes_eq w (codes "any") then Some sort.Any
    else None

-- what may stand between quotes
abbrev pub is_text_byte : ℕ → Bool
is_text_byte c = is_name_byte c || c == 46 || c == 43 || c == 45

-- a quote that ends bytes
abbrev pub is_last : Option (List ℕ) → Bool
is_last None = false
is_last (Some rest) = is_nothing rest

-- what stands between quotes, if these are the first and the last byte
abbrev pub quoted : List ℕ → Option (List ℕ)
quoted [] = None
quoted (c ∷ w) = if is_quote c && is_last (behind is_quote w) then Some (before is_quote w) else None

-- a text in quotes
abbrev pub is_quoted : List ℕ → Bool
is_quoted w = option_map_or (λ (text : List ℕ). list_all is_text_byte text && not (is_nothing text)) (quoted w) false

abbrev pub are_some_digits : List ℕ → Bool
are_some_digits w = list_all is_digit w && not (is_nothing w)

-- a whole number
abbrev pub is_whole : List ℕ → Bool
is_whole [] = false
is_whole (c ∷ w) = if c == 45 then are_some_digits w else are_some_digits (c ∷ w)

-- the name of an import, which is no pattern
abbrev pub is_import : List ℕ → Bool
is_import w = is_name w && not (list_any is_star w)

-- what an argument may be
abbrev pub is_kind : List ℕ → Bool
is_kind w = is_some (sort_of w) || is_quoted w || is_whole w || is_import w

-- what stands between two blanks: nothing, or alternatives for one argument
abbrev pub is_item : List ℕ → Bool
is_item w = is_nothing w || list_all is_kind (slice_split is_bar w)

-- an item for each argument
abbrev pub is_shape : List ℕ → Bool
is_shape text = list_all is_item (slice_split is_blank text)

-- ---- what may be done

abbrev pub every_use : Uses
every_use = record { call = true; new = true; state = true; fill = true }

abbrev pub no_use : Uses
no_use = record { call = false; new = false; state = false; fill = false }

abbrev pub word_of : List ℕ → Option Word
word_of w =
    if bytes_eq w (codes "call") then Some (word.Itself use_of.Call)
    else if bytes_eq w (codes "new") then Some (word.Itself use_of.New)
    else if bytes_eq w (codes "state") then Some (word.Itself use_of.State)
    else if bytes_eq w (codes "fill") then Some (word.Itself use_of.Fill)
    else if bytes_eq w (codes "made-call") then Some (word.Made use_of.Call)
    else if bytes_eq w (codes "made-new") then Some (word.Made use_of.New)
    else if bytes_eq w (codes "made-state") then Some (word.Made use_of.State)
    else if bytes_eq w (codes "made-fill") then Some (word.Made use_of.Fill)
    else if bytes_eq w (codes "made") then Some word.MadeNothing
    else None

-- where nothing is said yet: nothing may be done with it itself; of what it makes nothing is said, nor of arguments and states
abbrev pub nothing_said : Said
nothing_said = record { itself = no_use; made = None; free = false; shaped = false; states = false }

-- what is said of what it makes: that nothing may be done with it, unless more is said
abbrev pub made_so_far : Said → Uses
made_so_far s = unwrap_or s.made no_use

-- with one use more; what may be called may be made by `__new__` too
abbrev pub with_use : Uses → Use → Uses
with_use u use_of.Call = record u { call = true; new = true }
with_use u use_of.New = record u { new = true }
with_use u use_of.State = record u { state = true }
with_use u use_of.Fill = record u { fill = true }

-- what the word says of the arguments of calls: `call` alone leaves them free
abbrev pub frees : Use → Bool
frees use_of.Call = true
frees use_of.New = false
frees use_of.State = false
frees use_of.Fill = false

-- with one word more
abbrev pub with_word : Said → Word → Said
with_word s (word.Itself what) = record s { itself = with_use s.itself what; free = frees what || s.free }
with_word s (word.Made what) = record s { made = Some (with_use (made_so_far s) what) }
with_word s word.MadeNothing = record s { made = Some (made_so_far s) }

-- with what stands between two blanks, which is a word or nothing
abbrev pub with_piece : Said → List ℕ → Option Said
with_piece s [] = Some s
with_piece s (c ∷ piece) = option_map (with_word s) (word_of (c ∷ piece))

abbrev pub with_pieces : Said → List (List ℕ) → Option Said
with_pieces s [] = Some s
with_pieces s (piece ∷ pieces) = option_map_or (λ (t : Said). with_pieces t pieces) (with_piece s piece) None

-- pieces one after another, of which the last one is taken otherwise
abbrev pub to_last : (Said → List ℕ → Option Said) → (Said → List ℕ → Option Said) → Said → List (List ℕ) → Option Said
to_last one last s [] = None
to_last one last s (piece ∷ []) = last s piece
to_last one last s (piece ∷ next ∷ pieces) = option_map_or (λ (t : Said). to_last one last t (next ∷ pieces)) (one s piece) None

-- a word with a shape behind it: of the arguments of calls, or of the state of what a call made
abbrev pub with_shape : Said → List ℕ → Option Said
with_shape s w =
    if bytes_eq w (codes "call") then Some (record s { itself = with_use s.itself use_of.Call; shaped = true })
    else if bytes_eq w (codes "then") then Some (record s { states = true })
    else None

-- words, of which the last one has the shape that stands behind `(`
abbrev pub with_front : Said → List ℕ → Option Said
with_front s front = to_last with_piece with_shape s (slice_split is_blank front)

-- what stands before `)`, behind the `)` before it
abbrev pub with_chunk : Said → List ℕ → Option Said
with_chunk s chunk = option_map_or (λ (shape : List ℕ). if is_shape shape then with_front s (before is_open chunk) else None) (behind is_open chunk) None

-- what stands behind the last `)`
abbrev pub with_rest : Said → List ℕ → Option Said
with_rest s bytes = with_pieces s (slice_split is_blank bytes)

-- behind a colon stand words, some of them with shapes; without a colon all is said
abbrev pub uses_said : Option (List ℕ) → Option Said
uses_said None = Some (record nothing_said { itself = every_use; free = true })
uses_said (Some bytes) = to_last with_chunk with_rest nothing_said (slice_split is_close bytes)

-- ---- lines

-- what an entry is: its name or pattern; what may be done with what has it, and with what its calls made; and, where they are not free, the words with
-- the shapes of its arguments, and those with the shapes of states
pub record Row : Type 0 where
  pub pattern : List ℕ
  pub itself : Uses
  pub made : Uses
  pub shapes : List ℕ
  pub states : List ℕ

abbrev pub words_if : Bool → Option (List ℕ) → List ℕ
words_if limited words = if limited then unwrap_or words [] else []

-- where nothing is said of what it makes, all may be done with that
abbrev pub row_of : List ℕ → Option (List ℕ) → Said → Row
row_of name words s = record {
  pattern = name;
  itself = s.itself;
  made = unwrap_or s.made every_use;
  shapes = words_if (s.shaped && not s.free) words;
  states = words_if s.states words;
}

-- a name, a pattern or a word, with the words that stand behind it
abbrev pub entry_says : List ℕ → Option (List ℕ) → Option (List Row)
entry_says name words = if is_name name || is_word name then option_map (λ (s : Said). row_of name words s ∷ []) (uses_said words) else None

-- what stands before the note
abbrev pub text_says : List ℕ → Option (List Row)
text_says text = if is_nothing (trimmed text) then Some [] else entry_says (trimmed (before is_colon text)) (behind is_colon text)

-- a line: an entry, or nothing where there are blanks and a note alone; no line of a list has any other text
abbrev pub line_says : List ℕ → Option (List Row)
line_says line = text_says (before is_hash line)

-- ---- lists

-- what a line and those behind it list; n is the number of the line
abbrev pub in_front : ℕ → Option (List Row) → Result (List Row) ℕ → Result (List Row) ℕ
in_front n None rest = Err n
in_front n (Some rows) (Err wrong) = Err wrong
in_front n (Some rows) (Ok more) = Ok (rows ++ more)

abbrev pub lines_say : ℕ → List (List ℕ) → Result (List Row) ℕ
lines_say n [] = Ok []
lines_say n (line ∷ lines) = in_front n (line_says line) (lines_say (n + 1) lines)

-- a text lists the entries of its lines, in their order; or there is a first line that is no line of a list, and its number, from 1, is all that is said
unfoldable pub text_lists : List ℕ → Result (List Row) ℕ
text_lists text = lines_say 1 (slice_split is_newline text)

abbrev pub entry_row : Entry → Row
entry_row e = record { pattern = e.pattern.now; itself = e.itself; made = e.made; shapes = e.shapes.now; states = e.states.now }

abbrev pub IsListing : List ℕ → Listing → Type 0
IsListing text (listing.Entries entries) = text_lists text ≡ Ok (map entry_row entries.items)
IsListing text (listing.Wrong line) = text_lists text ≡ Err line
