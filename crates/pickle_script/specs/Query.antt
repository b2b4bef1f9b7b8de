-- What is shown of a session that is asked.
-- Source: own.
use Rattle.std.specs.Prelude.{◌≡◌, ℕ, List, length, Bool, true, false, nat_lt, if◌then◌else◌, ◌⊎◌}
use Rattle.pickle_ops.specs.Object.{Object}
use Rattle.pickle_machine.specs.State.{State}
use Rattle.pickle_session.specs.Session.{Session}
use Rattle.object_texts.specs.ObjectText.{objects_text}
use Rattle.object_texts.specs.StackText.{stack_text}
use Rattle.object_texts.specs.MemoText.{memo_text}
use Rattle.object_texts.specs.Show.{show_text}
use Rattle.pickle_script.specs.declared.conversation.line.Query.{Query}
use Rattle.pickle_script.specs.declared.conversation.line.Query.TheVariants as query
use Rattle.pickle_script.specs.declared.conversation.line.Syntax.TheVariants as syntax
use Rattle.pickle_script.specs.PlaceText.{items_text, where_text}
use Rattle.pickle_script.specs.ReplyText.{syntax_line, no_object_line}

-- an object with all that it contains, where there is one of this number
abbrev pub shown : List Object → ℕ → List ℕ
shown heap n = if nat_lt n (length heap) then show_text heap n else no_object_line

-- what is shown with ample memory of a session whose machine has this state
abbrev pub query_text : Query → Session → State → List ℕ
query_text query.Items s t = items_text s
query_text query.Objects s t = objects_text t.heap
query_text query.Stack s t = stack_text t
query_text query.Memo s t = memo_text t.memo
query_text (query.Show n) s t = shown t.heap n
query_text query.Where s t = where_text s t

-- whether memory may run out: only to show an object that is there
abbrev pub asks_memory : Query → State → Bool
asks_memory query.Items t = false
asks_memory query.Objects t = false
asks_memory query.Stack t = false
asks_memory query.Memo t = false
asks_memory (query.Show n) t = nat_lt n (length t.heap)
asks_memory query.Where t = false

-- the texts that are allowed: what is shown, or that memory runs out
abbrev pub IsQueryText : Query → Session → State → List ℕ → Type 0
IsQueryText query s t text = (text ≡ query_text query s t) ⊎ ((asks_memory query t ≡ true) × (text ≡ syntax_line syntax.Memory))
