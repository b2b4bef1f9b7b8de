-- What is said is answered.
use Rattle.std.proofs.Common.{◌≡◌, ℕ, Bool, List, Some, Result, Ok, Err, refl}
use Rattle.pickle_io.specs.declared.sink.Failed.{Failed}
use Rattle.pickle_io.specs.Device.{Told, Wrote, Broke}
use Rattle.pickle_session.specs.Allowed.{SessionState}
use Rattle.pickle_session.specs.Session.{state_at}
use Rattle.pickle_script.specs.declared.conversation.line.Syntax.{Syntax}
use Rattle.debug_json.specs.declared.asked.Asked.{Asked}
use Rattle.debug_json.specs.Asked.{IsAsked}
use Rattle.debug_json.specs.declared.said.Said.{Said}
use Rattle.debug_json.specs.Answer.{refuses}
use Rattle.debug_json.specs.Says.{SaysBy}
use Rattle.debug_json.specs.Lines.{said_line}
use Rattle.debug_json.specs.Answered.{AnswersSaying, AnswersJsonLine}

pub said_wrote : (says : Result Asked Syntax) (s q : SessionState) (old new : Told) (what : Said) (refused : Bool)
    → SaysBy says s what q → state_at q.session.document q.session.cursor ≡ Some q.machine.state → Wrote old new (said_line what q.session q.machine.state)
    → refused ≡ refuses what → AnswersSaying says s q old new (Ok refused)
said_wrote says s q old new what refused w e p is = record {
  answer = record { said = what; session = q.session; state = q.machine.state };
  said_by = w;
  session = refl;
  reached = e;
  writes = p;
  is_refusal = is;
}

pub said_broke : (says : Result Asked Syntax) (s q : SessionState) (old new : Told) (what : Said) (f : Failed)
    → SaysBy says s what q → state_at q.session.document q.session.cursor ≡ Some q.machine.state → Broke old new (said_line what q.session q.machine.state)
    → AnswersSaying says s q old new (Err f)
said_broke says s q old new what f w e p = record {
  answer = record { said = what; session = q.session; state = q.machine.state };
  said_by = w;
  session = refl;
  reached = e;
  writes = p;
  is_refusal = tt;
}

pub ruleset answer_steps = (said_wrote, said_broke)

pub line_answered : (line : List ℕ) (says : Result Asked Syntax) (s q : SessionState) (old new : Told) (r : Result Bool Failed)
    → IsAsked line says → AnswersSaying says s q old new r → AnswersJsonLine line s q old new r
line_answered line says s q old new r e w = record {
  answer = w.answer;
  says = record { says = says; is_asked = e; said_by = w.said_by; session = w.session; reached = w.reached };
  writes = w.writes;
  is_refusal = w.is_refusal;
}
