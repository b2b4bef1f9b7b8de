-- What a document would import and call, place by place: what item k comes to is a function of the item and of the states that the
-- items before it, and those up to it, reach from nothing, and of how names are read there. Of several pickles, the text ends at a STOP
-- behind which a frame goes on.
-- Source: own.
use Rattle.std.specs.Prelude.{ℕ, zero, suc, ◌+◌, ◌&&◌, nat_lt, Bool, true, false, List, [], length, Option, Some, None}
use Rattle.pickle_io.specs.Text.{◌⧺◌}
use Rattle.pickle_ops.specs.Spelling.{Operation}
use Rattle.pickle_doc.specs.declared.fault.Finish.{Finish}
use Rattle.pickle_doc.specs.declared.fault.Finish.TheVariants as finish
use Rattle.pickle_doc.specs.Document.{Contents, document_bytes, finish_of}
use Rattle.pickle_doc.specs.DocUnit.{is_stop}
use Rattle.pickle_doc.specs.Fitting.{left_behind}
use Rattle.pickle_doc.specs.Place.{ops_of, item_at, offset_of, tail_offset}
use Rattle.pickle_ops.specs.Row.{row_of}
use Rattle.pickle_ops.specs.Object.{Object}
use Rattle.pickle_machine.specs.declared.refusal.Refusal.{Refusal}
use Rattle.pickle_machine.specs.State.{State, start}
use Rattle.pickle_machine.specs.Move.{fresh}
use Rattle.pickle_machine.specs.Run.{run}
use Rattle.pickle_text.specs.declared.closing.Closing.{Closing}
use Rattle.pickle_text.specs.declared.closing.Closing.TheVariants as closing
use Rattle.pickle_text.specs.Output.{Output}
use Rattle.pickle_calls.specs.declared.end.Ending.{Ending}
use Rattle.pickle_calls.specs.declared.end.Ending.TheVariants as ending
use Rattle.pickle_text.specs.Closing.{refused_on}
use Rattle.pickle_text.specs.Reached.{reached}
use Rattle.pickle_calls.specs.declared.event.Event.{Event}
use Rattle.pickle_calls.specs.Event.{before_of, event_of}
use Rattle.pickle_calls.specs.CallsLine.{imports_of, calls_of, ending_status}
use Rattle.pickle_calls.specs.Telling.{Telling, for_people}
use Rattle.pickle_io.specs.Holes.{in_file}
use Rattle.pickle_calls.specs.declared.naming.Detail.{Detail}
use Rattle.pickle_calls.specs.Manner.{Manner, ending_in}
use Rattle.pickle_calls.specs.declared.naming.Naming.{Naming}
use Rattle.pickle_calls.specs.Naming.{begin, naming_after}

-- ---- what items come to

-- a text, and how many imports and calls it is: of one item a line or nothing, of several their lines
pub record CountedText : Type 0 where
  pub text : List ℕ
  pub imports : ℕ
  pub calls : ℕ

abbrev pub counted_in : Telling → ℕ → Naming → List Object → Option Event → CountedText
counted_in f offset m heap e = record { text = f.line offset m heap e; imports = imports_of heap e; calls = calls_of heap e }

abbrev pub counted_text : ℕ → Naming → List Object → Option Event → CountedText
counted_text offset m heap e = counted_in for_people offset m heap e

abbrev pub no_entry : CountedText
no_entry = record { text = []; imports = 0; calls = 0 }

-- how names are read at item k
abbrev pub naming_on : Option Operation → Option State → Naming → Naming
naming_on (Some o) (Some t) m = naming_after (row_of o) (length t.heap) m
naming_on (Some o) None m = m
naming_on None t m = m

abbrev pub naming_at : Detail → Contents → ℕ → Naming
naming_at how d zero = begin how 0
naming_at how d (suc k) = naming_on (item_at d k) (run (start d.many) (ops_of d) (suc k)) (naming_at how d k)

-- from the state before the item, as its move is taken on it, to the one after it
abbrev pub entry_on : Telling → ℕ → Naming → Option Operation → Option State → Option State → CountedText
entry_on f offset m (Some o) (Some s) (Some t) = counted_in f offset m t.heap (event_of (row_of o) (before_of (fresh s)) t)
entry_on f offset m (Some o) (Some s) None = no_entry
entry_on f offset m (Some o) None t = no_entry
entry_on f offset m None s t = no_entry

-- what item k comes to
unfoldable pub entry_in : Telling → Manner → Contents → ℕ → CountedText
entry_in f how d k =
    entry_on f (in_file how.holes (offset_of d k)) (naming_at how.detail d k) (item_at d k) (run (start d.many) (ops_of d) k)
    (run (start d.many) (ops_of d) (suc k))

abbrev pub entry_at : Manner → Contents → ℕ → CountedText
entry_at how d k = entry_in for_people how d k

-- what the first n items come to
unfoldable pub entries_in : Telling → Manner → Contents → ℕ → CountedText
entries_in f how d zero = no_entry
entries_in f how d (suc k) =
    record {
      text = (entries_in f how d k).text ⧺ (entry_in f how d k).text;
      imports = (entries_in f how d k).imports + (entry_in f how d k).imports;
      calls = (entries_in f how d k).calls + (entry_in f how d k).calls;
    }

abbrev pub entries : Manner → Contents → ℕ → CountedText
entries how d k = entries_in for_people how d k

-- ---- a frame that goes on behind STOP

-- how many bytes of a frame are left before item k
abbrev pub left_on : Option Operation → ℕ → ℕ
left_on (Some o) left = left_behind false left o
left_on None left = left

abbrev pub left_at : Contents → ℕ → ℕ
left_at d zero = 0
left_at d (suc k) = left_on (item_at d k) (left_at d k)

-- of several pickles, an item is STOP and leaves a frame unfinished
abbrev pub is_inside : Bool → Option Operation → ℕ → Bool
is_inside many (Some o) left = many && (is_stop o.opcode && nat_lt 0 (left_behind false left o))
is_inside many None left = false

abbrev pub or_here : Option ℕ → Bool → ℕ → Option ℕ
or_here (Some j) here k = Some j
or_here None true k = Some k
or_here None false k = None

-- the first such item of the first n
unfoldable pub first_inside : Contents → ℕ → Option ℕ
first_inside d zero = None
first_inside d (suc k) = or_here (first_inside d k) (is_inside d.many (item_at d k) (left_at d k)) k

-- ---- where the lines end

-- how many items come before the end, and how it ends
pub record CallsEnd : Type 0 where
  pub place : ℕ
  pub ending : Ending

-- how the reading ends after all items
abbrev pub closing_of : Contents → Finish → Closing
closing_of d finish.Stopped = closing.Stopped
closing_of d (finish.Fault f) = closing.Fault f (tail_offset d)

-- how it ends at the greatest place that is reached: at item k, which is refused, or after all items
abbrev pub closing_to : Contents → ℕ → Option Refusal → Closing
closing_to d k (Some r) = closing.Refused k r
closing_to d k None = closing_of d (finish_of d)

-- how many bytes STOP left
abbrev pub kept_by : Contents → Closing → ℕ
kept_by d closing.Stopped = length d.tail
kept_by d (closing.Refused k r) = 0
kept_by d (closing.Fault f offset) = 0

abbrev pub closed : Contents → Closing → Ending
closed d c = ending.Closed (kept_by d c) c

-- k being the greatest place that is reached, with this state
abbrev pub end_to : Contents → ℕ → Option State → CallsEnd
end_to d k (Some s) = record { place = k; ending = closed d (closing_to d k (refused_on (item_at d k) s)) }
end_to d k None = record { place = k; ending = closed d (closing_of d (finish_of d)) }

-- a frame goes on behind item j, or no STOP up to there leaves one unfinished
abbrev pub end_from : Contents → ℕ → Option ℕ → CallsEnd
end_from d k (Some j) = record { place = suc j; ending = ending.Unsure (offset_of d j) }
end_from d k None = end_to d k (run (start d.many) (ops_of d) k)

abbrev pub end_by : Contents → ℕ → CallsEnd
end_by d k = end_from d k (first_inside d k)

unfoldable pub calls_end : Contents → CallsEnd
calls_end d = end_by d (reached (start d.many) (ops_of d) (length (ops_of d)))

-- ---- the text of a document

-- what the items come to, and the last lines
abbrev pub with_end : Telling → Manner → Contents → CountedText → Ending → Output
with_end f how d e x = record { text = e.text ⧺ f.last (document_bytes d) e.imports e.calls (ending_in how.holes x); status = ending_status x }

abbrev pub calls_to : Telling → Manner → Contents → CallsEnd → Output
calls_to f how d e = with_end f how d (entries_in f how d e.place) e.ending

unfoldable pub calls_in : Telling → Manner → Contents → Output
calls_in f how d = calls_to f how d (calls_end d)

abbrev pub calls : Manner → Contents → Output
calls how d = calls_in for_people how d
