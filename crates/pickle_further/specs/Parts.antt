-- What loaders may do behind the end of the lines, as texts.
-- Source: own.
use Rattle.std.specs.Prelude.{ℕ, ◌==◌, ◌||◌, nat_lt, Bool, true, false, List, [], drop, codes, decimal, if◌then◌else◌, Option, Some, None}
use Rattle.pickle_io.specs.Text.{◌⧺◌}
use Rattle.pickle_doc.specs.Document.{Contents, document_bytes}
use Rattle.pickle_doc.specs.Place.{ops_of, offset_of}
use Rattle.pickle_machine.specs.State.{State, start}
use Rattle.pickle_machine.specs.Run.{run}
use Rattle.pickle_lenient.specs.declared.taken.Frames.{Frames}
use Rattle.pickle_lenient.specs.declared.taken.Frames.TheVariants as frames
use Rattle.pickle_text.specs.declared.closing.Closing.{Closing}
use Rattle.pickle_text.specs.declared.closing.Closing.TheVariants as closing
use Rattle.pickle_calls.specs.declared.end.Ending.{Ending}
use Rattle.pickle_calls.specs.declared.end.Ending.TheVariants as ending
use Rattle.pickle_text.specs.Column.{newline}
use Rattle.pickle_text.specs.Closing.{closing_line}
use Rattle.pickle_calls.specs.CallsLine.{totals_line}
use Rattle.std.specs.List.{list_any}
use Rattle.pickle_io.specs.declared.hole.Hole.{Hole}
use Rattle.pickle_io.specs.Holes.{in_file}
use Rattle.pickle_calls.specs.declared.naming.Detail.{Detail}
use Rattle.pickle_calls.specs.Manner.{Manner, closing_in}
use Rattle.pickle_calls.specs.Naming.{begin}
use Rattle.pickle_calls.specs.Telling.{Telling, for_people}
use Rattle.pickle_calls.specs.Calls.{CallsEnd, calls_end, naming_at}
use Rattle.pickle_further.specs.declared.way.Pickles.{Pickles}
use Rattle.pickle_further.specs.declared.way.Pickles.TheVariants as pickles
use Rattle.pickle_further.specs.declared.way.Way.{Way}
use Rattle.pickle_further.specs.declared.going.Gone.{Gone}
use Rattle.pickle_further.specs.declared.seek.Sought.TheVariants as sought
use Rattle.pickle_further.specs.Leads.{warning_text}
use Rattle.pickle_further.specs.Deep.{warnings_text}
use Rattle.pickle_further.specs.Going.{Standing, going, Tale, tale_from, search_from}

-- ---- the last lines of a part

unfoldable pub stop_words : List ℕ
stop_words = codes "it ends: STOP"

unfoldable pub stop_line : List ℕ
stop_line = stop_words ⧺ newline

-- how it ended
unfoldable pub ends_line : Closing → List ℕ
ends_line closing.Stopped = stop_line
ends_line (closing.Refused place r) = codes "it ends: " ⧺ closing_line (closing.Refused place r)
ends_line (closing.Fault f offset) = codes "it ends: " ⧺ closing_line (closing.Fault f offset)

unfoldable pub part_end : ℕ → ℕ → Closing → Option ℕ → List ℕ
part_end imports calls c leads = totals_line imports calls ⧺ (ends_line c ⧺ warning_text leads)

-- ---- a part

unfoldable pub ignored_words : List ℕ
ignored_words = codes "a loader may go on:"

unfoldable pub buffered_words : List ℕ
buffered_words = codes "a loader that buffers frames may go on:"

unfoldable pub held_words : List ℕ
held_words = codes "a loader that keeps its buffer may go on:"

abbrev pub header_words : Frames → List ℕ
header_words frames.Ignored = ignored_words
header_words frames.Buffered = buffered_words
header_words frames.Held = held_words

unfoldable pub header : Frames → List ℕ
header f = header_words f ⧺ newline

-- ---- where loaders disagree

-- where an Unpickler in Python, which leaves the rest of a frame at STOP, or one that buffers frames loses bytes, they do not read alike
unfoldable pub loss_words : List ℕ
loss_words = codes "unsure: U2 rest of a frame is lost at "

unfoldable pub loss_line : ℕ → List ℕ
loss_line offset = loss_words ⧺ decimal offset ⧺ newline

unfoldable pub mixed_words : List ℕ
mixed_words = codes "unsure: U3 frames may be mixed at "

unfoldable pub mixed_line : ℕ → List ℕ
mixed_line offset = mixed_words ⧺ decimal offset ⧺ newline

-- ---- how all of it is told

pub record Words : Type 0 where
  -- above what loaders do that treat frames so
  pub heading : Frames → List ℕ
  -- of a part: so many imports and calls, how it ended, and the first import that leads to the unpickler
  pub closed : ℕ → ℕ → Closing → Option ℕ → List ℕ
  -- of the first import that leads to the unpickler
  pub leading : Option ℕ → List ℕ
  -- of it, or else of the first tuple that is nested too deep
  pub warning : Option ℕ → Option ℕ → List ℕ
  -- of the offset where bytes are lost
  pub losing : ℕ → List ℕ
  -- of the offset from which frames may be mixed
  pub mixing : ℕ → List ℕ

pub record Wording : Type 0 where
  pub telling : Telling
  pub words : Words

abbrev pub wording : Telling → Words → Wording
wording say words = record { telling = say; words = words }

-- as lines for people
abbrev pub words_for_people : Words
words_for_people = record {
  heading = header;
  closed = part_end;
  leading = warning_text;
  warning = warnings_text;
  losing = loss_line;
  mixing = mixed_line;
}

abbrev pub people : Wording
people = wording for_people words_for_people

-- ---- a part

unfoldable pub tale_text_in : Wording → List Hole → Tale → List ℕ
tale_text_in tell holes t = t.lines.text ⧺ tell.words.closed t.lines.imports t.lines.calls (closing_in holes t.closing) t.leads

-- from the first item with an event on, if there is one
abbrev pub part_text_in : Wording → List Hole → Way → Option Standing → List ℕ
part_text_in tell holes w (Some p) = tell.words.heading w.frames ⧺ tale_text_in tell holes (tale_from tell.telling holes w p)
part_text_in tell holes w None = []

-- from here on: nothing where no item has an event
unfoldable pub text_from_in : Wording → List Hole → Way → Standing → List ℕ
text_from_in tell holes w p = part_text_in tell holes w (search_from sought.Event w p)

-- ---- where the lines end

abbrev pub ignoring : Pickles → Way
ignoring p = record { pickles = p; frames = frames.Ignored }

abbrev pub buffering : Pickles → Way
buffering p = record { pickles = p; frames = frames.Buffered }

abbrev pub holding : Pickles → Way
holding p = record { pickles = p; frames = frames.Held }

-- before item k of a document
abbrev pub standing_at : Detail → Contents → ℕ → State → Standing
standing_at how d k s =
    record {
      state = s;
      rest = drop (offset_of d k) (document_bytes d);
      at = record { offset = offset_of d k; place = k; left = 0 };
      naming = naming_at how d k;
    }

abbrev pub behind_at_in : Wording → Manner → Pickles → Contents → ℕ → Option State → List ℕ
behind_at_in tell how p d k (Some s) = text_from_in tell how.holes (ignoring p) (standing_at how.detail d k s)
behind_at_in tell how p d k None = []

-- ---- from the first byte on

-- several pickles are read one after another, each by a machine that begins anew
abbrev pub are_many : Pickles → Bool
are_many pickles.First = false
are_many pickles.All = true
are_many pickles.OneMemo = false

abbrev pub standing_first : Detail → Pickles → List ℕ → Standing
standing_first how p bytes = record { state = start (are_many p); rest = bytes; at = record { offset = 0; place = 0; left = 0 }; naming = begin how 0 }

abbrev pub found_text_in : Wording → List Hole → Way → Option Standing → List ℕ
found_text_in tell holes w (Some p) = text_from_in tell holes w p
found_text_in tell holes w None = []

-- the first item whose reading loses bytes
abbrev pub loss_at : Detail → Way → List ℕ → Option Standing
loss_at how w bytes = search_from sought.Lost w (standing_first how w.pickles bytes)

-- from there on
abbrev pub lost_by_in : Wording → Manner → Way → List ℕ → List ℕ
lost_by_in tell how w bytes = found_text_in tell how.holes w (loss_at how.detail w bytes)

-- how a loader in C reads a file that shows nothing ahead: frames are in a buffer, which STOP ends where each load has an unpickler of its own
abbrev pub file_frames : Pickles → Frames
file_frames pickles.First = frames.Buffered
file_frames pickles.All = frames.Buffered
file_frames pickles.OneMemo = frames.Held

abbrev pub of_file : Pickles → Way
of_file p = record { pickles = p; frames = file_frames p }

-- where loaders first part that keep frames in a buffer and that were shown them, if they do
abbrev pub split_at : Detail → Way → List ℕ → Option Standing
split_at how w bytes = search_from sought.Split w (standing_first how w.pickles bytes)

-- a byte that may be FRAME
abbrev pub is_frame_code : ℕ → Bool
is_frame_code byte = byte == 149

-- with an item before these bytes, or behind it, another frame may begin; or bytes are in the buffer behind it
abbrev pub mixed_there : Gone → List ℕ → ℕ → Option ℕ
mixed_there g rest offset = if nat_lt 0 g.left || list_any is_frame_code rest then Some offset else None

-- from there on a loader that takes one frame in one way and another in the other may do what no part shows
abbrev pub mixed_from : Way → Option Standing → Option ℕ
mixed_from w (Some q) = mixed_there (going w q).gone q.rest q.at.offset
mixed_from w None = None

abbrev pub first_mixed : Detail → Pickles → List ℕ → Option ℕ
first_mixed how p bytes = mixed_from (of_file p) (split_at how (of_file p) bytes)

abbrev pub mixed_text_in : Wording → List Hole → Option ℕ → List ℕ
mixed_text_in tell holes (Some offset) = tell.words.mixing (in_file holes offset)
mixed_text_in tell holes None = []

abbrev pub lost_text_in : Wording → Manner → Pickles → List ℕ → List ℕ
lost_text_in tell how p bytes = lost_by_in tell how (buffering p) bytes ⧺ mixed_text_in tell how.holes (first_mixed how.detail p bytes)

-- ---- both

-- behind STOP no loader goes on
abbrev pub is_open : Ending → Bool
is_open (ending.Closed kept closing.Stopped) = false
is_open (ending.Closed kept (closing.Refused k r)) = true
is_open (ending.Closed kept (closing.Fault f offset)) = true
is_open (ending.Unsure offset) = true

abbrev pub parts_to : Wording → Manner → Pickles → Contents → CallsEnd → List ℕ
parts_to tell how p d e =
    if is_open e.ending then behind_at_in tell how p d e.place (run (start d.many) (ops_of d) e.place) ⧺ lost_text_in tell how p (document_bytes d) else []

unfoldable pub parts_in : Wording → Manner → Pickles → Contents → List ℕ
parts_in tell how p d = parts_to tell how p d (calls_end d)

-- ---- as lines for people

abbrev pub tale_text : List Hole → Tale → List ℕ
tale_text holes t = tale_text_in people holes t

abbrev pub part_text : List Hole → Way → Option Standing → List ℕ
part_text holes w p = part_text_in people holes w p

abbrev pub text_from : List Hole → Way → Standing → List ℕ
text_from holes w p = text_from_in people holes w p

abbrev pub behind_at : Manner → Pickles → Contents → ℕ → Option State → List ℕ
behind_at how p d k s = behind_at_in people how p d k s

abbrev pub found_text : List Hole → Way → Option Standing → List ℕ
found_text holes w p = found_text_in people holes w p

abbrev pub lost_by : Manner → Way → List ℕ → List ℕ
lost_by how w bytes = lost_by_in people how w bytes

abbrev pub mixed_text : List Hole → Option ℕ → List ℕ
mixed_text holes mixed = mixed_text_in people holes mixed

abbrev pub lost_text : Manner → Pickles → List ℕ → List ℕ
lost_text how p bytes = lost_text_in people how p bytes

abbrev pub parts : Manner → Pickles → Contents → List ℕ
parts how p d = parts_in people how p d
