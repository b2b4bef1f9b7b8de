-- The codes and words of refusals and faults are those of the texts for people, in which they stand in one piece.
-- Source: own.
use Rattle.std.specs.Prelude.{◌≡◌, ℕ, List, [], codes}
use Rattle.pickle_io.specs.Text.{◌⧺◌}
use Rattle.pickle_ops.specs.declared.fault.FrontFault.TheVariants as at_front
use Rattle.pickle_doc.specs.declared.fault.TailFault.{TailFault}
use Rattle.pickle_doc.specs.declared.fault.TailFault.TheVariants as tail
use Rattle.pickle_machine.specs.declared.refusal.Refusal.{Refusal}
use Rattle.pickle_machine.specs.declared.refusal.Refusal.TheVariants as refusal
use Rattle.pickle_text.specs.ReportLine as text
use Rattle.pickle_json.specs.EndFields.{refusal_code, refusal_words, fault_code, fault_words}

-- what a text has between the words of a refusal and the number behind them
abbrev pub refusal_sign : Refusal → List ℕ
refusal_sign refusal.NoMark = []
refusal_sign refusal.Underflow = []
refusal_sign (refusal.NoMemoEntry key) = codes " "
refusal_sign refusal.OddItems = []
refusal_sign (refusal.WrongKind id) = codes " #"
refusal_sign (refusal.BadProtocol n) = codes " "
refusal_sign (refusal.BadExtension n) = codes " "
refusal_sign (refusal.NotText id) = codes " #"
refusal_sign (refusal.NotCallable id) = codes " #"
refusal_sign (refusal.NotArguments id) = codes " #"
refusal_sign (refusal.NotKeywords id) = codes " #"
refusal_sign refusal.Memory = []

-- and before the byte that is no opcode's code
abbrev pub fault_sign : TailFault → List ℕ
fault_sign (tail.Front (at_front.UnknownOpcode byte)) = codes " 0x"
fault_sign (tail.Front at_front.Ended) = []
fault_sign (tail.Front at_front.Truncated) = []
fault_sign (tail.Front at_front.NegativeLength) = []
fault_sign (tail.Front at_front.BadArgument) = []
fault_sign tail.FrameInFrame = []
fault_sign tail.FramePastEnd = []
fault_sign tail.FrameCrossed = []

pub record CodesAgree : Type 0 where
  pub refusals : (r : Refusal) → text.refusal_words r ≡ refusal_code r ⧺ codes " " ⧺ refusal_words r ⧺ refusal_sign r
  pub faults : (f : TailFault) → text.tail_words f ≡ fault_code f ⧺ codes " " ⧺ fault_words f ⧺ fault_sign f
