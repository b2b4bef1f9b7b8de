-- The line of JSON that a line of a script is answered with.
-- Source: own.
use Rattle.std.specs.Prelude.{ℕ, List, [], codes}
use Rattle.json_lines.specs.Line.{line}
use Rattle.pickle_doc.specs.Place.{end_of}
use Rattle.pickle_machine.specs.State.{State}
use Rattle.pickle_session.specs.Session.{Session}
use Rattle.pickle_script.specs.declared.conversation.line.Query.{Query}
use Rattle.pickle_script.specs.declared.conversation.line.Query.TheVariants as query
use Rattle.debug_json.specs.declared.said.Said.{Said}
use Rattle.debug_json.specs.declared.said.Said.TheVariants as said
use Rattle.debug_json.specs.Answer.{Answer}
use Rattle.debug_json.specs.RefusedFields.{refused_syntax, no_object_line, no_item_line}
use Rattle.debug_json.specs.ReplyFields.{reply_line}
use Rattle.debug_json.specs.WhereFields.{where_line}
use Rattle.debug_json.specs.ShownFields.{stack_line, memo_line, heap_line, show_line}
use Rattle.debug_json.specs.ItemsFields.{items_line}
use Rattle.debug_json.specs.OwnFields.{breaks_line, some_items_line, some_heap_line}
use Rattle.debug_json.specs.StepFields.{step_line, no_step_line}
use Rattle.debug_json.specs.MadeFields.{made_line}

unfoldable pub nothing_line : List ℕ
nothing_line = line (codes "nothing") []

unfoldable pub quit_line : List ℕ
quit_line = line (codes "quit") []

-- what is shown of a session whose machine has this state
abbrev pub shown_line : Query → Session → State → List ℕ
shown_line query.Items s t = items_line s
shown_line query.Objects s t = heap_line t.heap
shown_line query.Stack s t = stack_line t
shown_line query.Memo s t = memo_line t.memo
shown_line (query.Show n) s t = show_line t.heap n
shown_line query.Where s t = where_line s t

abbrev pub said_line : Said → Session → State → List ℕ
said_line said.Nothing s t = nothing_line
said_line said.Quit s t = quit_line
said_line (said.Replied r) s t = reply_line (end_of s.document) r
said_line (said.NoItem offset) s t = no_item_line offset
said_line (said.NoObject number) s t = no_object_line number
said_line (said.Bad f) s t = refused_syntax f
said_line (said.Shown query) s t = shown_line query s t
said_line said.Breaks s t = breaks_line s
said_line (said.SomeItems a b) s t = some_items_line s a b
said_line (said.SomeObjects a b) s t = some_heap_line t.heap a b
said_line said.Step s t = step_line s t
said_line said.NoStep s t = no_step_line
said_line (said.Made n first) s t = made_line s n first

abbrev pub answer_line : Answer → List ℕ
answer_line a = said_line a.said a.session a.state
