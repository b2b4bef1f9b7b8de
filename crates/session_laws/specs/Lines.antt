-- The lines of listings and reports, and what each says.
-- Source: own.
use Rattle.std.specs.Prelude.{◌≡◌, ◌<◌, ◌^◌, ◌&&◌, nat_le, ℕ, zero, suc, Bool, true, false, List, [], ◌∷◌, ◌++◌, length, map, take, Option, Some, None}
use Rattle.std.specs.List.{AllByRecursion}
use Rattle.pickle_ops.specs.Object.{Object}
use Rattle.pickle_ops.specs.declared.object.Change.{Change}
use Rattle.pickle_ops.specs.declared.object.Change.TheVariants as change
use Rattle.pickle_ops.specs.Spelling.{Operation}
use Rattle.pickle_ops.specs.Text.{arg_text}
use Rattle.pickle_doc.specs.declared.fault.TailFault.{TailFault}
use Rattle.pickle_doc.specs.Document.{Contents, finish_of}
use Rattle.pickle_doc.specs.Place.{ops_of, item_at}
use Rattle.pickle_machine.specs.declared.refusal.Refusal.{Refusal}
use Rattle.pickle_machine.specs.Move.{refusal_at}
use Rattle.pickle_machine.specs.Run.{run}
use Rattle.pickle_machine.specs.State.{State, start}
use Rattle.pickle_io.specs.declared.hole.Hole.{Hole}
use Rattle.pickle_script.specs.Script.{IsCut}
use Rattle.pickle_script.specs.Output.{outside_line}
use Rattle.pickle_list.specs.declared.note.Note.{Note}
use Rattle.pickle_text.specs.declared.closing.Closing.{Closing}
use Rattle.pickle_list.specs.Line.{item_line, refused_line, left_text, protocol_text, protocol_line, highest_protocol}
use Rattle.pickle_text.specs.Closing.{kept_text, refused_item_line, closing_line}
use Rattle.calls_laws.specs.LineLaws.{cut_lines, if_any}
use Rattle.pickle_list.specs.Listing.{line_at, left_by, end_lines, refused_lines, listing}
use Rattle.pickle_text.specs.Reached.{reached}
use Rattle.pickle_text.specs.Words.{kind_text}
use Rattle.object_texts.specs.ObjectText.{object_line}
use Rattle.object_texts.specs.Report.{IsReport, result_line}
use Rattle.pickle_text.specs.ReportLine.{fault_line}

-- ---- lines

-- a text is one line, and ends with its newline
abbrev pub IsOneLine : List ℕ → Type 0
IsOneLine text = (line : List ℕ) × IsCut text (record { complete = line ∷ []; rest = [] })

-- what a listing and a report are made of are lines, whatever names and texts the pickle has, and so is that of a hole which ends behind the
-- last byte of a file
pub record PiecesAreLines : Type 0 where
  pub item : (o : Operation) (offset marks : ℕ) (n : Option Note) → IsOneLine (item_line o offset marks n)
  pub refused : (r : Refusal) → IsOneLine (refused_line r)
  pub left : (objects marks : ℕ) → IsOneLine (left_text objects marks)
  pub kept : (count : ℕ) → IsOneLine (kept_text count)
  pub protocol : (n : ℕ) → IsOneLine (protocol_text n)
  pub fault : (f : TailFault) (offset : ℕ) → IsOneLine (fault_line f offset)
  pub object : (id : ℕ) (o : Object) → IsOneLine (object_line id o)
  pub result : (id : ℕ) → IsOneLine (result_line id)
  pub stopped : (place : ℕ) (r : Refusal) → IsOneLine (refused_item_line place r)
  pub hole : (h : Hole) (size : ℕ) → IsOneLine (outside_line h size)

-- ---- a text is its lines

-- of each of the first n items its line, and behind it what STOP left, if anything
abbrev pub listed_lines : Contents → ℕ → List (List ℕ)
listed_lines d zero = []
listed_lines d (suc k) = listed_lines d k ++ (line_at d k ∷ if_any (left_by (item_at d k) (run (start d.many) (ops_of d) (suc k))))

-- that of the highest protocol, if there are operations
abbrev pub protocol_lines : List Operation → List (List ℕ)
protocol_lines ops = if_any (protocol_line (highest_protocol ops))

-- k being the greatest place that is reached: behind all items how many bytes are kept, or the fault; or behind item k why it is refused
abbrev pub lines_to : Contents → ℕ → Option Operation → Option State → List (List ℕ)
lines_to d k None (Some s) = listed_lines d k ++ (if_any (end_lines d (finish_of d)) ++ protocol_lines (take k (ops_of d)))
lines_to d k (Some o) (Some s) = listed_lines d (suc k) ++ (if_any (refused_lines (refusal_at o s)) ++ protocol_lines (take (suc k) (ops_of d)))
lines_to d k o None = []

abbrev pub lines_at : Contents → ℕ → List (List ℕ)
lines_at d k = lines_to d k (item_at d k) (run (start d.many) (ops_of d) k)

abbrev pub listing_lines : Contents → List (List ℕ)
listing_lines d = lines_at d (reached (start d.many) (ops_of d) (length (ops_of d)))

-- of each object its line; the numbers count from this one on
abbrev pub object_lines : ℕ → List Object → List (List ℕ)
object_lines id [] = []
object_lines id (o ∷ objects) = object_line id o ∷ object_lines (suc id) objects

-- those of all objects, of each result, and the refusal or the fault, if there is one
abbrev pub report_lines : List Object → List ℕ → Closing → List (List ℕ)
report_lines heap results c = object_lines 0 heap ++ (map result_line results ++ if_any (closing_line c))

-- cut behind its newlines, a text is these lines, in this order: no name and no text of a pickle makes a line of its own
pub record TextsAreLines : Type 0 where
  pub listing : (d : Contents) → cut_lines (listing d).text ≡ listing_lines d
  pub report : (d : Contents) (text : List ℕ) (status : ℕ) (r : IsReport d text status) → cut_lines text ≡ report_lines r.state.heap r.state.results r.closing

-- ---- whose line it is

-- a small letter is in front
abbrev pub begins_with_letter : List ℕ → Bool
begins_with_letter [] = false
begins_with_letter (byte ∷ bytes) = nat_le 97 byte && nat_le byte 122

-- no line of an item or of an object begins with a letter; each other one does, and so is none of theirs
pub record LinesApart : Type 0 where
  pub item : (o : Operation) (offset marks : ℕ) (n : Option Note) → begins_with_letter (item_line o offset marks n) ≡ false
  pub object : (id : ℕ) (o : Object) → begins_with_letter (object_line id o) ≡ false
  pub refused : (r : Refusal) → begins_with_letter (refused_line r) ≡ true
  pub left : (objects marks : ℕ) → begins_with_letter (left_text objects marks) ≡ true
  pub kept : (count : ℕ) → begins_with_letter (kept_text count) ≡ true
  pub protocol : (n : ℕ) → begins_with_letter (protocol_text n) ≡ true
  pub fault : (f : TailFault) (offset : ℕ) → begins_with_letter (fault_line f offset) ≡ true
  pub result : (id : ℕ) → begins_with_letter (result_line id) ≡ true
  pub stopped : (place : ℕ) (r : Refusal) → begins_with_letter (refused_item_line place r) ≡ true

-- ---- what a line says

-- offsets and numbers of objects are below this
abbrev pub most : ℕ
most = 2 ^ 64

-- the line of an item says which opcode it is, with which text of an argument, if any, and at which offset
abbrev pub ItemLineSays : Type 0
ItemLineSays = (o p : Operation) (offset other marks deeper : ℕ) (n m : Option Note) → offset < most → other < most
    → item_line o offset marks n ≡ item_line p other deeper m → (o.opcode ≡ p.opcode) × (arg_text o ≡ arg_text p) × (offset ≡ other)

-- the numbers in a change, and in an object, are below that
abbrev pub AreNumbers : Change → Type 0
AreNumbers (change.Append id) = id < most
AreNumbers (change.SetItem key value) = (key < most) × (value < most)
AreNumbers (change.Add id) = id < most
AreNumbers (change.Build id) = id < most

pub record IsNumbered (o : Object) : Type 0 where
  pub parts : AllByRecursion (λ id. id < most) o.parts
  pub changes : AllByRecursion AreNumbers o.changes

-- the line of an object says its number, the text of its kind, its parts and what was done to it
abbrev pub ObjectLineSays : Type 0
ObjectLineSays = (id other : ℕ) (o p : Object) → id < most → other < most → IsNumbered o → IsNumbered p → object_line id o ≡ object_line other p
    → (id ≡ other) × (kind_text o.kind ≡ kind_text p.kind) × (o.parts ≡ p.parts) × (o.changes ≡ p.changes)
