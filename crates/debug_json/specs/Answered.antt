-- What is left of a line that was answered in JSON.
-- Source: own.
use Rattle.std.specs.Prelude.{◌≡◌, ℕ, List, Bool, Some, Result, IfOk}
use Rattle.pickle_io.specs.declared.sink.Failed.{Failed}
use Rattle.pickle_io.specs.Device.{Told, Writes}
use Rattle.pickle_session.specs.Allowed.{SessionState}
use Rattle.pickle_session.specs.Session.{state_at}
use Rattle.pickle_script.specs.declared.conversation.line.Syntax.{Syntax}
use Rattle.debug_json.specs.declared.asked.Asked.{Asked}
use Rattle.debug_json.specs.Answer.{Answer, refuses}
use Rattle.debug_json.specs.Says.{SaysBy, Says}
use Rattle.debug_json.specs.Lines.{answer_line}

-- What a line asks for was obeyed, and the line of JSON written, or after a failure of the sink a beginning of it. The answer is whether it is a
-- refusal.
pub record AnswersSaying (says : Result Asked Syntax) (s after : SessionState) (old new : Told) (r : Result Bool Failed) : Type 0 where
  pub answer : Answer
  pub said_by : SaysBy says s answer.said after
  pub session : answer.session ≡ after.session
  pub reached : state_at after.session.document after.session.cursor ≡ Some answer.state
  pub writes : Writes old new r (answer_line answer)
  pub is_refusal : IfOk r (λ refused. refused ≡ refuses answer.said)

-- the same of a line
pub record AnswersJsonLine (line : List ℕ) (s after : SessionState) (old new : Told) (r : Result Bool Failed) : Type 0 where
  pub answer : Answer
  pub says : Says s line answer after
  pub writes : Writes old new r (answer_line answer)
  pub is_refusal : IfOk r (λ refused. refused ≡ refuses answer.said)
