-- The codes of refusals are those of the texts for people, and what is a refusal has a text that is one.
-- Source: own.
use Rattle.std.specs.Prelude.{◌≡◌, ℕ, List, codes}
use Rattle.pickle_io.specs.Text.{◌⧺◌}
use Rattle.pickle_doc.specs.declared.edit.EditFault.{EditFault}
use Rattle.pickle_ops.specs.declared.fault.OpFault.{OpFault}
use Rattle.pickle_session.specs.Allowed.{SessionState}
use Rattle.pickle_session.specs.declared.reply.Fault.{Fault}
use Rattle.pickle_script.specs.declared.conversation.line.Syntax.{Syntax}
use Rattle.pickle_script.specs.FaultText.{op_fault_text}
use Rattle.pickle_script.specs.ReplyText as text
use Rattle.pickle_script.specs.Transcript.{is_refusal}
use Rattle.debug_json.specs.RefusedFields.{edit_code, edit_words, fault_code, op_code, syntax_code}
use Rattle.debug_json.specs.Asked.{IsShared}
use Rattle.debug_json.specs.Answer.{Answer, answer_text, refuses}
use Rattle.debug_json.specs.Says.{Says}

-- a text begins with this code, and a blank after it
abbrev pub BeginsWith : List ℕ → List ℕ → Type 0
BeginsWith code whole = (rest : List ℕ) × (whole ≡ code ⧺ codes " " ⧺ rest)

pub record CodesAgree : Type 0 where
  pub edits : (f : EditFault) → text.edit_words f ≡ edit_code f ⧺ codes " " ⧺ edit_words f
  pub commands : (f : Fault) → BeginsWith (fault_code f) (text.fault_words f)
  pub syntaxes : (f : Syntax) → BeginsWith (syntax_code f) (text.syntax_words f)
  pub opcodes : (f : OpFault) → BeginsWith (op_code f) (op_fault_text f)
  pub objects : BeginsWith (codes "refused: V1") text.no_object_line
  pub items : BeginsWith (codes "V2") text.no_item_words

-- of the lines of the texts
abbrev pub RefusalsAgree : Type 0
RefusalsAgree = (p q : SessionState) (bytes : List ℕ) (a : Answer) → IsShared bytes → Says p bytes a q → refuses a.said ≡ is_refusal (answer_text a)
