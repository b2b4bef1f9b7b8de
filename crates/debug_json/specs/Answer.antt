-- What a line of a script is answered: what is said, with what it is said of. The text for people and the line of JSON are both functions of it.
-- Source: own.
use Rattle.std.specs.Prelude.{ℕ, List, [], Bool, true, false}
use Rattle.pickle_doc.specs.Place.{end_of}
use Rattle.pickle_machine.specs.State.{State}
use Rattle.pickle_session.specs.Allowed.{is_refused}
use Rattle.pickle_session.specs.Session.{Session}
use Rattle.pickle_script.specs.Query.{query_text}
use Rattle.pickle_script.specs.ReplyText.{reply_text, syntax_line, no_object_line, no_item_line}
use Rattle.debug_json.specs.declared.said.Said.{Said}
use Rattle.debug_json.specs.declared.said.Said.TheVariants as said

-- what is said; the session after the line, and the state of its machine
pub record Answer : Type 0 where
  pub said : Said
  pub session : Session
  pub state : State

-- the text for people; none of what is told in JSON alone
abbrev pub said_text : Said → Session → State → List ℕ
said_text said.Nothing s t = []
said_text said.Quit s t = []
said_text (said.Replied r) s t = reply_text (end_of s.document) r
said_text (said.NoItem offset) s t = no_item_line offset
said_text (said.NoObject number) s t = no_object_line
said_text (said.Bad f) s t = syntax_line f
said_text (said.Shown query) s t = query_text query s t
said_text said.Breaks s t = []
said_text (said.SomeItems a b) s t = []
said_text (said.SomeObjects a b) s t = []
said_text said.Step s t = []
said_text said.NoStep s t = []
said_text (said.Made n first) s t = []

abbrev pub answer_text : Answer → List ℕ
answer_text a = said_text a.said a.session a.state

-- whether it is a refusal
abbrev pub refuses : Said → Bool
refuses said.Nothing = false
refuses said.Quit = false
refuses (said.Replied r) = is_refused r
refuses (said.NoItem offset) = true
refuses (said.NoObject number) = true
refuses (said.Bad f) = true
refuses (said.Shown query) = false
refuses said.Breaks = false
refuses (said.SomeItems a b) = false
refuses (said.SomeObjects a b) = false
refuses said.Step = false
refuses said.NoStep = true
refuses (said.Made n first) = false
