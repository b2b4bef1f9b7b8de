-- Whether a pickle is in the form that picklers write, as a line.
-- Source: own; what a reason says is said where the form is defined.
use Rattle.std.specs.Prelude.{ℕ, List, codes}
use Rattle.json.specs.Json.{string}
use Rattle.pickle_form.specs.declared.reason.Reason.{Reason}
use Rattle.pickle_form.specs.declared.reason.Reason.TheVariants as reason
use Rattle.pickle_form.specs.declared.reason.Other.{Other}
use Rattle.pickle_form.specs.Sentence.{sentence_of}
use Rattle.json_lines.specs.Line.{Field, field, ◌⊕◌, whole, line}
use Rattle.pickle_json.specs.EndFields.{how_fields}

-- a reason by its name
unfoldable pub reason_name : Reason → List ℕ
reason_name reason.Unreadable = codes "unreadable"
reason_name reason.FrameInFrame = codes "frame_in_frame"
reason_name reason.FramePastEnd = codes "frame_past_end"
reason_name reason.FrameCrossed = codes "frame_crossed"
reason_name reason.EmptyFrame = codes "empty_frame"
reason_name reason.NoFrame = codes "no_frame"
reason_name reason.StopInFrame = codes "stop_in_frame"
reason_name reason.Protocol = codes "protocol"
reason_name reason.SecondProtocol = codes "second_protocol"
reason_name reason.NeverWritten = codes "never_written"
reason_name reason.OtherProtocol = codes "other_protocol"
reason_name reason.LongNumber = codes "long_number"
reason_name reason.LongLength = codes "long_length"
reason_name reason.LongKey = codes "long_key"
reason_name reason.NumberText = codes "number_text"
reason_name reason.TextSpelling = codes "text_spelling"
reason_name reason.NotUtf8 = codes "not_utf8"
reason_name reason.Name = codes "name"
reason_name reason.PersistentId = codes "persistent_id"
reason_name reason.KeyOrder = codes "key_order"
reason_name reason.NotMade = codes "not_made"
reason_name reason.NoKey = codes "no_key"
reason_name reason.NoMark = codes "no_mark"
reason_name reason.TooFew = codes "too_few"
reason_name reason.TupleSize = codes "tuple_size"
reason_name reason.BatchSize = codes "batch_size"
reason_name reason.OddItems = codes "odd_items"
reason_name reason.NotCallable = codes "not_callable"
reason_name reason.NotArguments = codes "not_arguments"
reason_name reason.WrongTarget = codes "wrong_target"
reason_name reason.NoState = codes "no_state"
reason_name reason.NotBuffer = codes "not_buffer"
reason_name reason.Dropped = codes "dropped"
reason_name reason.LeftOver = codes "left_over"
reason_name reason.Behind = codes "behind"

-- the opcode, by how many opcodes and bytes are before it
unfoldable pub place_fields : Other → List Field
place_fields o = field (codes "item") (whole o.place) ⊕ field (codes "offset") (whole o.offset)

-- why no pickler writes it there
unfoldable pub why_fields : Reason → List Field
why_fields r = field (codes "reason") (string (reason_name r)) ⊕ field (codes "words") (string (sentence_of r))

abbrev pub other_fields : Other → List Field
other_fields o = how_fields (codes "other_form") ⊕ place_fields o ⊕ why_fields o.reason

-- the first place at which it is not
unfoldable pub other_line : Other → List ℕ
other_line o = line (codes "end") (other_fields o)

abbrev pub in_form_fields : List Field
in_form_fields = how_fields (codes "in_form")

unfoldable pub in_form_line : List ℕ
in_form_line = line (codes "end") in_form_fields
