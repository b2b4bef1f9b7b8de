-- The codes and words are those of the texts for people.
use Rattle.std.proofs.Common.{◌≡◌, refl}
use Rattle.std.specs.Prelude.{codes}
use Rattle.pickle_io.specs.Text.{◌⧺◌}
use Rattle.pickle_ops.specs.declared.fault.FrontFault.TheVariants as at_front
use Rattle.pickle_doc.specs.declared.fault.TailFault.{TailFault}
use Rattle.pickle_doc.specs.declared.fault.TailFault.TheVariants as tail
use Rattle.pickle_machine.specs.declared.refusal.Refusal.{Refusal}
use Rattle.pickle_machine.specs.declared.refusal.Refusal.TheVariants as refusal
use Rattle.pickle_text.specs.ReportLine as text
use Rattle.pickle_json.specs.EndFields.{refusal_code, refusal_words, fault_code, fault_words}
use Rattle.pickle_json.specs.Agreeing.{refusal_sign, fault_sign, CodesAgree}

refusals : (r : Refusal) → text.refusal_words r ≡ refusal_code r ⧺ codes " " ⧺ refusal_words r ⧺ refusal_sign r
unfolding text.refusal_words refusal_code refusal_words ◌⧺◌
refusals refusal.NoMark = refl
refusals refusal.Underflow = refl
refusals (refusal.NoMemoEntry key) = refl
refusals refusal.OddItems = refl
refusals (refusal.WrongKind id) = refl
refusals (refusal.BadProtocol n) = refl
refusals (refusal.BadExtension n) = refl
refusals (refusal.NotText id) = refl
refusals (refusal.NotCallable id) = refl
refusals (refusal.NotArguments id) = refl
refusals (refusal.NotKeywords id) = refl
refusals refusal.Memory = refl

faults : (f : TailFault) → text.tail_words f ≡ fault_code f ⧺ codes " " ⧺ fault_words f ⧺ fault_sign f
unfolding text.tail_words fault_code fault_words ◌⧺◌
faults (tail.Front at_front.Ended) = refl
faults (tail.Front (at_front.UnknownOpcode byte)) = refl
faults (tail.Front at_front.Truncated) = refl
faults (tail.Front at_front.NegativeLength) = refl
faults (tail.Front at_front.BadArgument) = refl
faults tail.FrameInFrame = refl
faults tail.FramePastEnd = refl
faults tail.FrameCrossed = refl

pub codes_agree : CodesAgree
codes_agree = record { refusals = refusals; faults = faults }
