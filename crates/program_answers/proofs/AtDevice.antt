-- From what a page took to what its device did.
use Rattle.std.proofs.Common.{◌≡◌, ◌≢◌, ◌⊎◌, inl, inr, ℕ, ◌<◌, ◌≤◌, Bool, true, false, List, [], ◌++◌, length, Option, None, Some, Result, Ok, Err, refl, sym, ap, subst, ◌∙◌, append_assoc, append-nil, arith}
use Rattle.std.specs.Prelude.{MatchResult, IsErrAnd, IfErr}
use Rattle.std.specs.List.{concat}
use Rattle.pickle_io.specs.Device.{Told, holding, AppendsPrefix, HasFailed, Writes, Wrote, Broke}
use Rattle.pickle_io.specs.Whole.{IsWhole}
use Rattle.pickle_io.proofs.Devices.{Wrote-trans, Broke-after, WroteAllBut-none, WroteAllBut-stopped}
use Rattle.pickle_io.proofs.Holding.{Broke-below, nothing-held}
use Rattle.pickle_doc.specs.Document.{AreBytes, size_limit}
use Rattle.pickle_text.specs.Output.{Output}
use Rattle.pickle_list.specs.Listing.{listing}
use Rattle.whole_listing.specs.WholeArgs.{whole_listing}
use Rattle.pickle_calls.specs.Manner.{Manner, manner}
use Rattle.pickle_further.specs.declared.way.Pickles.{Pickles}
use Rattle.pickle_script.specs.declared.stop.Stop.{Stop}
use Rattle.pickle_script.specs.declared.stop.Stop.TheVariants as stop
use Rattle.pickle_script.specs.declared.texts.written.Text.{Text}
use Rattle.pickle_script.specs.declared.texts.written.Text.TheVariants as text
use Rattle.pickle_script.specs.FormText.{form_output}
use Rattle.pickle_script.specs.Output.{AnswersText, AnswersCalls, IsCallsOfFile, StopsText}
use Rattle.json_script.specs.CallsLines.{AnswersCallsLines, IsLinesOfFile}
use Rattle.pickle_script.specs.GateText.{StopsGate}
use Rattle.pickle_allow.specs.declared.list.Entry.{Entry}
use Rattle.pickle_json.specs.Listing as json
use Rattle.json_script.specs.Answer.{StopsLines, AnswersLines}
use Rattle.json_script.specs.declared.lines.Lines.{Lines}
use Rattle.json_script.specs.declared.lines.Lines.TheVariants as lines
use Rattle.archive_gate.specs.File.{PassesFile}
use Rattle.archive_script.specs.SingleText.{Says}
use Rattle.archive_script.specs.GateText.{AnswersWith}
use Rattle.archive_script.proofs.GateLaws.{zero_means_passing, zero_where_file_passes}
use Rattle.gate_json.proofs.Passing.{line_passes, named_line_passes}
use Rattle.assembler_script.specs.AssemblyText.{IsAssemblyText, AnswersAssembly}
use Rattle.same_objects.specs.declared.compared.Compared.{Compared}
use Rattle.same_objects.specs.declared.compared.Compared.TheVariants as compared
use Rattle.same_objects.specs.Same.{Compares, SameObjects}
use Rattle.same_script.specs.SameText.{comparison_status}
use Rattle.pickle_session.specs.Allowed.{SessionState}
use Rattle.pickle_script.specs.Conversation.{AppendsBeyond, BrokeBeyond, BrokeSince, StopsWriting}
use Rattle.debug_json.specs.Lines.{answer_line}
use Rattle.json_conversation.specs.Transcript.{lines_text}
use Rattle.json_conversation.specs.Conversation as json_talk
use Rattle.program_answers.specs.Talk.{StopsReadingIn, StopsWritingIn, StopsAtDevice, Cuts, IsUnopened}
use Rattle.program_answers.specs.declared.task.CallsOptions.{CallsOptions}
use Rattle.program_answers.specs.declared.task.Format.{Format}
use Rattle.program_answers.specs.declared.task.Format.TheVariants as format
use Rattle.program_answers.specs.Files.{Gives, Reports, IsRead}
use Rattle.program_answers.specs.Skips.{StandFor}
use Rattle.program_answers.specs.Program.{AnswersWords, Answers}
use Rattle.program_answers.specs.Gated.{PassesText, IsGateAnswer, IsNamedAnswer, TookGate, TookNamed}
use Rattle.source_script.specs.SourceText.{IsSourceText, AnswersSource}
use Rattle.program_answers.specs.Sourced.{TookSource}
use Rattle.program_answers.specs.Assembled.{TookAssembly}
use Rattle.program_answers.specs.Compared.{IsSameAnswer, TookComparison}
use Rattle.program_answers.specs.Opcodes.{IsOpcodes, TookOpcodes, opcodes_text}
use Rattle.program_answers.specs.Device.{Took, TookText, NoneWithoutMemory, comes_last, lines_come_last, nothing, IsTextOf, IsLinesOf, is_calls_text, is_calls_lines, AnswersInput}

-- ---- what was written on the page

too_large : {A : Type 0} (bytes : List ℕ) → length bytes ≤ size_limit → size_limit < length bytes → A
too_large bytes few many = absurd (omega (arith, few, many))

wrote_nothing : (old new : Told) → new ≡ old → Took nothing old new (Err stop.Memory)
wrote_nothing old new e = rw e ([], WroteAllBut-none old [])

said_text : {S : Type 0} (told : S → Told) (t : Text) (many loose : Bool) (bytes : List ℕ) (old new : S) (answer : Result ℕ Stop) → length bytes ≤ size_limit
    → AnswersText t many loose bytes told old new answer → TookText (IsTextOf t many loose bytes) (told old) (told new) answer
said_text told text.Listing many loose bytes old new (Ok status) few p = let w = p.whole in inl (listing w.0, (w.0, w.1, refl), w.2)
said_text told text.Whole many loose bytes old new (Ok status) few p = let w = p.whole in inl (whole_listing w.0, (w.0, w.1, refl), w.2)
said_text told text.Form many loose bytes old new (Ok status) few p = let w = p.whole in inl (form_output w.0, (w.0, w.1, refl), w.2)
said_text told (text.Reach granted) many loose bytes old new (Ok status) few p = let w = p.whole in inl (w.0, w.1, (w.2, w.3))
said_text told text.Objects many loose bytes old new (Ok status) few p = let w = p.whole in inl (record { text = w.2.0; status = status }, (w.0, w.1, w.2.1), (w.2.2, refl))
said_text told (text.Calls pickles detail) many loose bytes old new (Ok status) few p = let w = p.whole in inl (w.0, w.1, (w.2, w.3))
said_text told text.Listing many loose bytes old new (Err stop.Write) few p = let w = p.stopped in inl (listing w.0, (w.0, w.1, refl), w.2)
said_text told text.Whole many loose bytes old new (Err stop.Write) few p = let w = p.stopped in inl (whole_listing w.0, (w.0, w.1, refl), w.2)
said_text told text.Form many loose bytes old new (Err stop.Write) few p = let w = p.stopped in inl (form_output w.0, (w.0, w.1, refl), w.2)
said_text told (text.Reach granted) many loose bytes old new (Err stop.Write) few p = inl p.stopped
said_text told text.Objects many loose bytes old new (Err stop.Write) few p = let w = p.stopped in inl (record { text = w.2.0; status = w.2.1 }, (w.0, w.1, w.2.2), w.2.3)
said_text told (text.Calls pickles detail) many loose bytes old new (Err stop.Write) few p = inl p.stopped
said_text told text.Listing many loose bytes old new (Err stop.Memory) few p = let w = p.stopped in inl (listing w.0, (w.0, w.1, refl), w.2)
said_text told text.Whole many loose bytes old new (Err stop.Memory) few p = let w = p.stopped in inl (whole_listing w.0, (w.0, w.1, refl), w.2)
said_text told text.Form many loose bytes old new (Err stop.Memory) few p = inr (refl, wrote_nothing (told old) (told new) p.stopped)
said_text told (text.Reach granted) many loose bytes old new (Err stop.Memory) few p = inr (refl, wrote_nothing (told old) (told new) p.stopped)
said_text told text.Objects many loose bytes old new (Err stop.Memory) few p = inr (refl, wrote_nothing (told old) (told new) p.stopped)
said_text told (text.Calls pickles detail) many loose bytes old new (Err stop.Memory) few p = inl p.stopped
said_text told text.Listing many loose bytes old new (Err stop.Read) few p = absurd p.stopped
said_text told text.Whole many loose bytes old new (Err stop.Read) few p = absurd p.stopped
said_text told text.Form many loose bytes old new (Err stop.Read) few p = absurd p.stopped
said_text told (text.Reach granted) many loose bytes old new (Err stop.Read) few p = absurd p.stopped
said_text told text.Objects many loose bytes old new (Err stop.Read) few p = absurd p.stopped
said_text told (text.Calls pickles detail) many loose bytes old new (Err stop.Read) few p = absurd p.stopped
said_text told text.Listing many loose bytes old new (Err stop.TooLarge) few p = too_large bytes few (p.too_large.0 refl)
said_text told text.Whole many loose bytes old new (Err stop.TooLarge) few p = too_large bytes few (p.too_large.0 refl)
said_text told text.Form many loose bytes old new (Err stop.TooLarge) few p = too_large bytes few (p.too_large.0 refl)
said_text told (text.Reach granted) many loose bytes old new (Err stop.TooLarge) few p = too_large bytes few (p.too_large.0 refl)
said_text told text.Objects many loose bytes old new (Err stop.TooLarge) few p = too_large bytes few (p.too_large.0 refl)
said_text told (text.Calls pickles detail) many loose bytes old new (Err stop.TooLarge) few p = too_large bytes few (p.too_large.0 refl)

said_calls : {S : Type 0} (told : S → Told) (how : Manner) (pickles : Pickles) (bytes : List ℕ) (old new : S) (answer : Result ℕ Stop) → length bytes ≤ size_limit
    → AnswersCalls how pickles bytes told old new answer → TookText (IsCallsOfFile how pickles bytes) (told old) (told new) answer
said_calls told how pickles bytes old new (Ok status) few p = let w = p.whole in inl (w.0, w.1, (w.2, w.3))
said_calls told how pickles bytes old new (Err stop.Write) few p = inl p.stopped
said_calls told how pickles bytes old new (Err stop.Memory) few p = inl p.stopped
said_calls told how pickles bytes old new (Err stop.Read) few p = absurd p.stopped
said_calls told how pickles bytes old new (Err stop.TooLarge) few p = too_large bytes few (p.too_large.0 refl)

said_calls_lines : {S : Type 0} (told : S → Told) (how : Manner) (pickles : Pickles) (bytes : List ℕ) (old new : S) (answer : Result ℕ Stop) → length bytes ≤ size_limit
    → AnswersCallsLines how pickles bytes told old new answer → TookText (IsLinesOfFile how pickles bytes) (told old) (told new) answer
said_calls_lines told how pickles bytes old new (Ok status) few p = let w = p.whole in inl (w.0, w.1, (w.2, w.3))
said_calls_lines told how pickles bytes old new (Err stop.Write) few p = inl p.stopped
said_calls_lines told how pickles bytes old new (Err stop.Memory) few p = inl p.stopped
said_calls_lines told how pickles bytes old new (Err stop.Read) few p = absurd p.stopped
said_calls_lines told how pickles bytes old new (Err stop.TooLarge) few p = too_large bytes few (p.too_large.0 refl)

said_lines : {S : Type 0} (told : S → Told) (l : Lines) (many loose : Bool) (bytes : List ℕ) (old new : S) (answer : Result ℕ Stop) → length bytes ≤ size_limit
    → AnswersLines l many loose bytes told old new answer → TookText (IsLinesOf l many loose bytes) (told old) (told new) answer
said_lines told lines.Listing many loose bytes old new (Ok status) few p = let w = p.whole in inl (json.listing w.0, (w.0, w.1, refl), w.2)
said_lines told lines.Objects many loose bytes old new (Ok status) few p = let w = p.whole in inl (w.0, w.1, (w.2, w.3))
said_lines told lines.Form many loose bytes old new (Ok status) few p = let w = p.whole in inl (w.0, w.1, (w.2, w.3))
said_lines told (lines.Reach granted) many loose bytes old new (Ok status) few p = let w = p.whole in inl (w.0, w.1, (w.2, w.3))
said_lines told lines.Listing many loose bytes old new (Err stop.Write) few p = let w = p.stopped in inl (json.listing w.0, (w.0, w.1, refl), w.2)
said_lines told lines.Objects many loose bytes old new (Err stop.Write) few p = inl p.stopped
said_lines told lines.Form many loose bytes old new (Err stop.Write) few p = inl p.stopped
said_lines told (lines.Reach granted) many loose bytes old new (Err stop.Write) few p = inl p.stopped
said_lines told lines.Listing many loose bytes old new (Err stop.Memory) few p = let w = p.stopped in inl (json.listing w.0, (w.0, w.1, refl), w.2)
said_lines told lines.Objects many loose bytes old new (Err stop.Memory) few p = inr (refl, wrote_nothing (told old) (told new) p.stopped)
said_lines told lines.Form many loose bytes old new (Err stop.Memory) few p = inr (refl, wrote_nothing (told old) (told new) p.stopped)
said_lines told (lines.Reach granted) many loose bytes old new (Err stop.Memory) few p = inr (refl, wrote_nothing (told old) (told new) p.stopped)
said_lines told lines.Listing many loose bytes old new (Err stop.Read) few p = absurd p.stopped
said_lines told lines.Objects many loose bytes old new (Err stop.Read) few p = absurd p.stopped
said_lines told lines.Form many loose bytes old new (Err stop.Read) few p = absurd p.stopped
said_lines told (lines.Reach granted) many loose bytes old new (Err stop.Read) few p = absurd p.stopped
said_lines told lines.Listing many loose bytes old new (Err stop.TooLarge) few p = too_large bytes few (p.too_large.0 refl)
said_lines told lines.Objects many loose bytes old new (Err stop.TooLarge) few p = too_large bytes few (p.too_large.0 refl)
said_lines told lines.Form many loose bytes old new (Err stop.TooLarge) few p = too_large bytes few (p.too_large.0 refl)
said_lines told (lines.Reach granted) many loose bytes old new (Err stop.TooLarge) few p = too_large bytes few (p.too_large.0 refl)

said : (Is : Output → Type 0) (old new : Told) (answer : Result ℕ Stop) → Says Is old new answer → TookText Is old new answer
said Is old new (Ok status) p = let w = p.whole in inl (w.0, w.1, (w.2, w.3))
said Is old new (Err stop.Write) p = inl p.stopped
said Is old new (Err stop.Memory) p = inr (refl, wrote_nothing old new p.stopped)
said Is old new (Err stop.Read) p = absurd p.stopped
said Is old new (Err stop.TooLarge) p = absurd (p.fits refl)

said_with : {S : Type 0} (told : S → Told) (Is : Output → Type 0) (bytes : List ℕ) (old new : S) (answer : Result ℕ Stop) → length bytes ≤ size_limit
    → AnswersWith Is bytes told old new answer → TookText Is (told old) (told new) answer
said_with told Is bytes old new (Ok status) few p = let w = p.whole in inl (w.0, w.1, (w.2, w.3))
said_with told Is bytes old new (Err stop.Write) few p = inl p.stopped
said_with told Is bytes old new (Err stop.Memory) few p = inr (refl, wrote_nothing (told old) (told new) p.stopped)
said_with told Is bytes old new (Err stop.Read) few p = absurd p.stopped
said_with told Is bytes old new (Err stop.TooLarge) few p = too_large bytes few (p.too_large.0 refl)

-- ---- what it held was handed on, or that failed

Wrote-flushed : (a b c : Told) (text : List ℕ) → Wrote a b text → Wrote b c [] → Wrote a c text
Wrote-flushed a b c text p q = subst (λ (t : List ℕ). Wrote a c t) (append-nil text) (Wrote-trans a b c text [] p q)

Broke-flushed : (a b c : Told) (text : List ℕ) → Wrote a b text → Broke b c [] → Broke a c text
Broke-flushed a b c text p q = subst (λ (t : List ℕ). Broke a c t) (append-nil text) (Broke-after a b c text [] p q)

-- the last piece first
pub Broke-handed : (a b c : Told) (text : List ℕ) → Broke b c [] → Wrote a b text → Broke a c text
Broke-handed a b c text q p = Broke-flushed a b c text p q

pub ruleset handing_steps = (Broke-handed)

took_on : (o : Output) (a b c : Told) (r : Result ℕ Stop) → r ≢ Err stop.Write → Took o a b r → Wrote b c [] → Took o a c r
took_on o a b c (Ok status) n w f = (Wrote-flushed a b c o.text w.0 f, w.1)
took_on o a b c (Err stop.Write) n w f = absurd (n refl)
took_on o a b c (Err stop.Memory) n w f = (w.0, record { front = w.1.front; parts = w.1.parts; wrote = Wrote-flushed a b c w.1.front w.1.wrote f })
took_on o a b c (Err stop.Read) n w f = absurd w
took_on o a b c (Err stop.TooLarge) n w f = absurd w

took_broken : (o : Output) (a b c : Told) (r : Result ℕ Stop) → r ≢ Err stop.Write → Took o a b r → Broke b c [] → Took o a c (Err stop.Write)
took_broken o a b c (Ok status) n w f = Broke-flushed a b c o.text w.0 f
took_broken o a b c (Err stop.Write) n w f = absurd (n refl)
took_broken o a b c (Err stop.Memory) n w f = WroteAllBut-stopped a b c o.text w.0 w.1 f
took_broken o a b c (Err stop.Read) n w f = absurd w
took_broken o a b c (Err stop.TooLarge) n w f = absurd w

text_on : (Is : Output → Type 0) (a b c : Told) (r : Result ℕ Stop) → r ≢ Err stop.Write → TookText Is a b r → Wrote b c [] → TookText Is a c r
text_on Is a b c r n (inl w) f = inl (w.0, w.1, took_on w.0 a b c r n w.2 f)
text_on Is a b c r n (inr w) f = inr (w.0, took_on nothing a b c r n w.1 f)

text_broken : (Is : Output → Type 0) (a b c : Told) (r : Result ℕ Stop) → r ≢ Err stop.Write → TookText Is a b r → Broke b c [] → TookText Is a c (Err stop.Write)
text_broken Is a b c r n (inl w) f = inl (w.0, w.1, took_broken w.0 a b c r n w.2 f)
text_broken Is a b c r n (inr w) f = inr (refl, took_broken nothing a b c r n w.1 f)

-- what `write_out` makes of an answer
record HandsOn (old new : Told) (answer result : Result ℕ Stop) : Type 0 where
  pub passed : result ≢ Err stop.Write → result ≡ answer
  pub calm : result ≢ Err stop.Write → Wrote old new []
  pub untouched : answer ≡ Err stop.Write → new ≡ old
  pub failed : result ≡ Err stop.Write → answer ≢ Err stop.Write → Broke old new []

abbrev err : Stop → Result ℕ Stop
err e = Err e

text_failed : (Is : Output → Type 0) (a b c : Told) (answer : Result ℕ Stop) → TookText Is a b answer → HandsOn b c answer (Err stop.Write) → TookText Is a c (Err stop.Write)
text_failed Is a b c (Err stop.Write) w h = let e : c ≡ b = h.untouched refl in rw e w
text_failed Is a b c (Ok status) w h = let n : Ok status ≢ Err stop.Write = λ e. absurd cc in text_broken Is a b c (Ok status) n w (h.failed refl n)
text_failed Is a b c (Err stop.Memory) w h = let n : err stop.Memory ≢ err stop.Write = λ e. absurd cc in text_broken Is a b c (Err stop.Memory) n w (h.failed refl n)
text_failed Is a b c (Err stop.Read) w h = let n : err stop.Read ≢ err stop.Write = λ e. absurd cc in text_broken Is a b c (Err stop.Read) n w (h.failed refl n)
text_failed Is a b c (Err stop.TooLarge) w h = let n : err stop.TooLarge ≢ err stop.Write = λ e. absurd cc in text_broken Is a b c (Err stop.TooLarge) n w (h.failed refl n)

text_passed : (Is : Output → Type 0) (a b c : Told) (answer result : Result ℕ Stop) → result ≢ Err stop.Write → TookText Is a b answer → HandsOn b c answer result → TookText Is a c result
text_passed Is a b c answer result n w h = text_on Is a b c result n (rw (h.passed n) w) (h.calm n)

text_handed : (Is : Output → Type 0) (a b c : Told) (answer result : Result ℕ Stop) → TookText Is a b answer → HandsOn b c answer result → TookText Is a c result
text_handed Is a b c answer (Err stop.Write) w h = text_failed Is a b c answer w h
text_handed Is a b c answer (Ok status) w h = text_passed Is a b c answer (Ok status) (λ e. absurd cc) w h
text_handed Is a b c answer (Err stop.Memory) w h = text_passed Is a b c answer (Err stop.Memory) (λ e. absurd cc) w h
text_handed Is a b c answer (Err stop.Read) w h = text_passed Is a b c answer (Err stop.Read) (λ e. absurd cc) w h
text_handed Is a b c answer (Err stop.TooLarge) w h = text_passed Is a b c answer (Err stop.TooLarge) (λ e. absurd cc) w h

-- ---- behind the page

took_below : (o : Output) (d e : Told) (held : List ℕ) (r : Result ℕ Stop) → d.held ≡ 0 → (r ≢ Err stop.Write → (holding e held).held ≡ 0) → Took o d (holding e held) r → Took o d e r
took_below o d e held (Ok status) none all w = subst (λ (t : Told). Took o d t (Ok status)) (nothing-held e held (all (λ x. absurd cc))) w
took_below o d e held (Err stop.Write) none all w = Broke-below d e held o.text none w
took_below o d e held (Err stop.Memory) none all w = subst (λ (t : Told). Took o d t (Err stop.Memory)) (nothing-held e held (all (λ x. absurd cc))) w
took_below o d e held (Err stop.Read) none all w = absurd w
took_below o d e held (Err stop.TooLarge) none all w = absurd w

none_below : (d : Told) (held : List ℕ) → (holding d held).held ≡ 0 → d.held ≡ 0
none_below d held e = omega (arith, e)

-- the page held nothing at first
text_below : (Is : Output → Type 0) (d e : Told) (first held : List ℕ) (r : Result ℕ Stop) → (holding d first).held ≡ 0 → (r ≢ Err stop.Write → (holding e held).held ≡ 0)
    → TookText Is (holding d first) (holding e held) r → TookText Is d e r
text_below Is d e first held r none all (inl w) = inl (w.0, w.1, took_below w.0 d e held r (none_below d first none) all (subst (λ (t : Told). Took w.0 t (holding e held) r) (nothing-held d first none) w.2))
text_below Is d e first held r none all (inr w) = inr (w.0, took_below nothing d e held r (none_below d first none) all (subst (λ (t : Told). Took nothing t (holding e held) r) (nothing-held d first none) w.1))

-- all that was taken was handed on
pub same_below : (P : Told → Told → Type 0) (d e : Told) (first held : List ℕ) → (holding d first).held ≡ 0 → (holding e held).held ≡ 0 → P (holding d first) (holding e held) → P d e
same_below P d e first held none last w = subst (λ (t : Told). P t e) (nothing-held d first none) (subst (λ (t : Told). P (holding d first) t) (nothing-held e held last) w)

-- a source was read whole, a text of its bytes written, and what the page held handed on
answers_is : {S : Type 0} (told : S → Told) (Is : List ℕ → Output → Type 0) (source source' : Gives) (whole bytes : List ℕ) (old mid new : S) (d e : Told) (first held : List ℕ) (answer result : Result ℕ Stop)
    → IsWhole source.remaining source'.remaining size_limit whole → source'.failures ≡ source.failures → bytes ≡ whole
    → (length bytes ≤ size_limit → TookText (Is bytes) (told old) (told mid) answer)
    → (result ≢ Err stop.Write → result ≡ answer) → (result ≢ Err stop.Write → Wrote (told mid) (told new) []) → (answer ≡ Err stop.Write → new ≡ mid)
    → (result ≡ Err stop.Write → answer ≢ Err stop.Write → Broke (told mid) (told new) [])
    → told old ≡ holding d first → told new ≡ holding e held → (holding d first).held ≡ 0 → (result ≢ Err stop.Write → (holding e held).held ≡ 0)
    → AnswersInput Is source source' d e result
answers_is told Is source source' whole bytes old mid new d e first held answer result read still same w passed calm untouched failed before after none all =
    let few : length bytes ≤ size_limit = rw same read.within in
    let h : HandsOn (told mid) (told new) answer result = record { passed = passed; calm = calm; untouched = λ e. ap told (untouched e); failed = failed } in
    let said = text_handed (Is bytes) (told old) (told mid) (told new) answer result (w few) h in
    let from : TookText (Is bytes) (holding d first) (told new) result = subst (λ (x : Told). TookText (Is bytes) x (told new) result) before said in
    let to : TookText (Is bytes) (holding d first) (holding e held) result = subst (λ (x : Told). TookText (Is bytes) (holding d first) x result) after from in
    let took : TookText (Is bytes) d e result = text_below (Is bytes) d e first held result none all to in
    inr (record { bytes = whole; read = read; calm = still; took = subst (λ (b : List ℕ). TookText (Is b) d e result) same took })

pub answers_text : {S : Type 0} (told : S → Told) (t : Text) (many loose : Bool) (source source' : Gives) (whole bytes : List ℕ) (old mid new : S) (d e : Told) (first held : List ℕ) (answer result : Result ℕ Stop)
    → IsWhole source.remaining source'.remaining size_limit whole → source'.failures ≡ source.failures → bytes ≡ whole → AnswersText t many loose bytes told old mid answer
    → (result ≢ Err stop.Write → result ≡ answer) → (result ≢ Err stop.Write → Wrote (told mid) (told new) []) → (answer ≡ Err stop.Write → new ≡ mid)
    → (result ≡ Err stop.Write → answer ≢ Err stop.Write → Broke (told mid) (told new) [])
    → told old ≡ holding d first → told new ≡ holding e held → (holding d first).held ≡ 0 → (result ≢ Err stop.Write → (holding e held).held ≡ 0)
    → AnswersInput (IsTextOf t many loose) source source' d e result
answers_text told t many loose source source' whole bytes old mid new d e first held answer result read still same w =
    answers_is told (IsTextOf t many loose) source source' whole bytes old mid new d e first held answer result read still same (λ few. said_text told t many loose bytes old mid answer few w)

pub answers_lines : {S : Type 0} (told : S → Told) (l : Lines) (many loose : Bool) (source source' : Gives) (whole bytes : List ℕ) (old mid new : S) (d e : Told) (first held : List ℕ) (answer result : Result ℕ Stop)
    → IsWhole source.remaining source'.remaining size_limit whole → source'.failures ≡ source.failures → bytes ≡ whole → AnswersLines l many loose bytes told old mid answer
    → (result ≢ Err stop.Write → result ≡ answer) → (result ≢ Err stop.Write → Wrote (told mid) (told new) []) → (answer ≡ Err stop.Write → new ≡ mid)
    → (result ≡ Err stop.Write → answer ≢ Err stop.Write → Broke (told mid) (told new) [])
    → told old ≡ holding d first → told new ≡ holding e held → (holding d first).held ≡ 0 → (result ≢ Err stop.Write → (holding e held).held ≡ 0)
    → AnswersInput (IsLinesOf l many loose) source source' d e result
answers_lines told l many loose source source' whole bytes old mid new d e first held answer result read still same w =
    answers_is told (IsLinesOf l many loose) source source' whole bytes old mid new d e first held answer result read still same (λ few. said_lines told l many loose bytes old mid answer few w)

pub answers_calls_text : {S : Type 0} (told : S → Told) (options : CallsOptions) (source source' : Gives) (whole bytes : List ℕ) (old mid new : S) (d e : Told) (first held : List ℕ) (answer result : Result ℕ Stop)
    → IsWhole source.remaining source'.remaining size_limit whole → source'.failures ≡ source.failures → bytes ≡ whole → AnswersCalls (manner options.detail options.holes) options.pickles bytes told old mid answer
    → (result ≢ Err stop.Write → result ≡ answer) → (result ≢ Err stop.Write → Wrote (told mid) (told new) []) → (answer ≡ Err stop.Write → new ≡ mid)
    → (result ≡ Err stop.Write → answer ≢ Err stop.Write → Broke (told mid) (told new) [])
    → told old ≡ holding d first → told new ≡ holding e held → (holding d first).held ≡ 0 → (result ≢ Err stop.Write → (holding e held).held ≡ 0)
    → AnswersInput (is_calls_text options) source source' d e result
answers_calls_text told options source source' whole bytes old mid new d e first held answer result read still same w =
    answers_is told (is_calls_text options) source source' whole bytes old mid new d e first held answer result read still same (λ few. said_calls told (manner options.detail options.holes) options.pickles bytes old mid answer few w)

pub answers_calls_lines : {S : Type 0} (told : S → Told) (options : CallsOptions) (source source' : Gives) (whole bytes : List ℕ) (old mid new : S) (d e : Told) (first held : List ℕ) (answer result : Result ℕ Stop)
    → IsWhole source.remaining source'.remaining size_limit whole → source'.failures ≡ source.failures → bytes ≡ whole → AnswersCallsLines (manner options.detail options.holes) options.pickles bytes told old mid answer
    → (result ≢ Err stop.Write → result ≡ answer) → (result ≢ Err stop.Write → Wrote (told mid) (told new) []) → (answer ≡ Err stop.Write → new ≡ mid)
    → (result ≡ Err stop.Write → answer ≢ Err stop.Write → Broke (told mid) (told new) [])
    → told old ≡ holding d first → told new ≡ holding e held → (holding d first).held ≡ 0 → (result ≢ Err stop.Write → (holding e held).held ≡ 0)
    → AnswersInput (is_calls_lines options) source source' d e result
answers_calls_lines told options source source' whole bytes old mid new d e first held answer result read still same w =
    answers_is told (is_calls_lines options) source source' whole bytes old mid new d e first held answer result read still same (λ few. said_calls_lines told (manner options.detail options.holes) options.pickles bytes old mid answer few w)

unwritten : {S : Type 0} (told : S → Told) (t : Text) (many loose : Bool) (bytes : List ℕ) (old mid : S) (answer : Result ℕ Stop)
    → AnswersText t many loose bytes told old mid answer → comes_last t ≡ true → answer ≡ Err stop.Memory → told mid ≡ told old
unwritten told text.Listing many loose bytes old mid answer p last memory = absurd cc
unwritten told text.Whole many loose bytes old mid answer p last memory = absurd cc
unwritten told text.Objects many loose bytes old mid answer p last memory =
    subst (λ (r : Result ℕ Stop). IfErr r (StopsText text.Objects many loose bytes (told old) (told mid))) memory p.stopped
unwritten told text.Form many loose bytes old mid answer p last memory =
    subst (λ (r : Result ℕ Stop). IfErr r (StopsText text.Form many loose bytes (told old) (told mid))) memory p.stopped
unwritten told (text.Reach granted) many loose bytes old mid answer p last memory =
    subst (λ (r : Result ℕ Stop). IfErr r (StopsText (text.Reach granted) many loose bytes (told old) (told mid))) memory p.stopped
unwritten told (text.Calls pickles detail) many loose bytes old mid answer p last memory = absurd cc

lines_unwritten : {S : Type 0} (told : S → Told) (l : Lines) (many loose : Bool) (bytes : List ℕ) (old mid : S) (answer : Result ℕ Stop)
    → AnswersLines l many loose bytes told old mid answer → lines_come_last l ≡ true → answer ≡ Err stop.Memory → told mid ≡ told old
lines_unwritten told lines.Listing many loose bytes old mid answer p last memory = absurd cc
lines_unwritten told lines.Objects many loose bytes old mid answer p last memory =
    subst (λ (r : Result ℕ Stop). IfErr r (StopsLines lines.Objects many loose bytes (told old) (told mid))) memory p.stopped
lines_unwritten told lines.Form many loose bytes old mid answer p last memory =
    subst (λ (r : Result ℕ Stop). IfErr r (StopsLines lines.Form many loose bytes (told old) (told mid))) memory p.stopped
lines_unwritten told (lines.Reach granted) many loose bytes old mid answer p last memory =
    subst (λ (r : Result ℕ Stop). IfErr r (StopsLines (lines.Reach granted) many loose bytes (told old) (told mid))) memory p.stopped

-- nothing was written, and nothing handed on
flushed_nothing : {S : Type 0} (told : S → Told) (old mid new : S) (d e : Told) (first held : List ℕ) → told mid ≡ told old → Wrote (told mid) (told new) []
    → told old ≡ holding d first → told new ≡ holding e held → (holding d first).held ≡ 0 → (holding e held).held ≡ 0 → Wrote d e []
flushed_nothing told old mid new d e first held still calm before after none last =
    let flushed : Wrote (told old) (told new) [] = subst (λ (x : Told). Wrote x (told new) []) still calm in
    let from : Wrote (holding d first) (told new) [] = subst (λ (x : Told). Wrote x (told new) []) before flushed in
    let to : Wrote (holding d first) (holding e held) [] = subst (λ (x : Told). Wrote (holding d first) x []) after from in
    same_below (λ (a b : Told). Wrote a b []) d e first held none last to

-- where memory ran out nothing was written
none_written : {S : Type 0} (told : S → Told) (old mid new : S) (d e : Told) (first held : List ℕ) (answer result : Result ℕ Stop) → (answer ≡ Err stop.Memory → told mid ≡ told old)
    → (result ≢ Err stop.Write → result ≡ answer) → (result ≢ Err stop.Write → Wrote (told mid) (told new) [])
    → told old ≡ holding d first → told new ≡ holding e held → (holding d first).held ≡ 0 → (result ≢ Err stop.Write → (holding e held).held ≡ 0)
    → NoneWithoutMemory d e result
none_written told old mid new d e first held answer result still passed calm before after none all memory =
    let n : result ≢ Err stop.Write = λ x. let c : err stop.Memory ≡ err stop.Write = sym memory ∙ x in absurd cc in
    flushed_nothing told old mid new d e first held (still (sym (passed n) ∙ memory)) (calm n) before after none (all n)

-- so it is of lines of JSON that come last, and of a text
pub last_lines_unwritten : {S : Type 0} (told : S → Told) (l : Lines) (many loose : Bool) (bytes : List ℕ) (old mid new : S) (d e : Told) (first held : List ℕ) (answer result : Result ℕ Stop)
    → AnswersLines l many loose bytes told old mid answer → (result ≢ Err stop.Write → result ≡ answer) → (result ≢ Err stop.Write → Wrote (told mid) (told new) [])
    → told old ≡ holding d first → told new ≡ holding e held → (holding d first).held ≡ 0 → (result ≢ Err stop.Write → (holding e held).held ≡ 0)
    → lines_come_last l ≡ true → NoneWithoutMemory d e result
last_lines_unwritten told l many loose bytes old mid new d e first held answer result w passed calm before after none all last =
    none_written told old mid new d e first held answer result (lines_unwritten told l many loose bytes old mid answer w last) passed calm before after none all

pub last_unwritten : {S : Type 0} (told : S → Told) (t : Text) (many loose : Bool) (bytes : List ℕ) (old mid new : S) (d e : Told) (first held : List ℕ) (answer result : Result ℕ Stop)
    → AnswersText t many loose bytes told old mid answer → (result ≢ Err stop.Write → result ≡ answer) → (result ≢ Err stop.Write → Wrote (told mid) (told new) [])
    → told old ≡ holding d first → told new ≡ holding e held → (holding d first).held ≡ 0 → (result ≢ Err stop.Write → (holding e held).held ≡ 0)
    → comes_last t ≡ true → NoneWithoutMemory d e result
last_unwritten told t many loose bytes old mid new d e first held answer result w passed calm before after none all last =
    none_written told old mid new d e first held answer result (unwritten told t many loose bytes old mid answer w last) passed calm before after none all

-- a text was written that comes last, and what the page held handed on
took_last : {S : Type 0} (told : S → Told) (Is : Output → Type 0) (old mid new : S) (d e : Told) (first held : List ℕ) (answer result : Result ℕ Stop)
    → TookText Is (told old) (told mid) answer → (answer ≡ Err stop.Memory → told mid ≡ told old)
    → (result ≢ Err stop.Write → result ≡ answer) → (result ≢ Err stop.Write → Wrote (told mid) (told new) []) → (answer ≡ Err stop.Write → new ≡ mid)
    → (result ≡ Err stop.Write → answer ≢ Err stop.Write → Broke (told mid) (told new) [])
    → told old ≡ holding d first → told new ≡ holding e held → (holding d first).held ≡ 0 → (result ≢ Err stop.Write → (holding e held).held ≡ 0)
    → TookText Is d e result × NoneWithoutMemory d e result
took_last told Is old mid new d e first held answer result w memory passed calm untouched failed before after none all =
    let h : HandsOn (told mid) (told new) answer result = record { passed = passed; calm = calm; untouched = λ x. ap told (untouched x); failed = failed } in
    let handed = text_handed Is (told old) (told mid) (told new) answer result w h in
    let from : TookText Is (holding d first) (told new) result = subst (λ (x : Told). TookText Is x (told new) result) before handed in
    let to : TookText Is (holding d first) (holding e held) result = subst (λ (x : Told). TookText Is (holding d first) x result) after from in
    (text_below Is d e first held result none all to, none_written told old mid new d e first held answer result memory passed calm before after none all)

-- where the status is 0, it is that of the text
pub zero_took : (P : Type 0) (Is : Output → Type 0) (old new : Told) (result : Result ℕ Stop) → ((o : Output) → Is o → o.status ≡ 0 → P) → TookText Is old new result → result ≡ Ok 0 → P
zero_took P Is old new (Ok status) law (inl w) zero =
    let is : status ≡ 0 = cc in
    law w.0 w.1 (sym w.2.1 ∙ is)
zero_took P Is old new (Ok status) law (inr w) zero = let bad : false ≡ true = w.0 in absurd cc
zero_took P Is old new (Err e) law w zero = absurd cc

-- the status is 0 only where a file passes, whatever what is said is written as
gate_zero : (f : Format) (list bytes : List ℕ) (o : Output) → AreBytes bytes → length bytes ≤ size_limit → IsGateAnswer f list bytes o → o.status ≡ 0 → PassesText list bytes
gate_zero format.Text list bytes o small few is zero = zero_means_passing list bytes o small few is zero
gate_zero format.Json list bytes o small few is zero = line_passes list bytes o small few is zero

-- what the gate says
pub gate_took : {S : Type 0} (told : S → Told) (f : Format) (list bytes : List ℕ) (old mid new : S) (d e : Told) (first held : List ℕ) (answer result : Result ℕ Stop)
    → AreBytes bytes → length bytes ≤ size_limit → AnswersWith (IsGateAnswer f list bytes) bytes told old mid answer
    → (result ≢ Err stop.Write → result ≡ answer) → (result ≢ Err stop.Write → Wrote (told mid) (told new) []) → (answer ≡ Err stop.Write → new ≡ mid)
    → (result ≡ Err stop.Write → answer ≢ Err stop.Write → Broke (told mid) (told new) [])
    → told old ≡ holding d first → told new ≡ holding e held → (holding d first).held ≡ 0 → (result ≢ Err stop.Write → (holding e held).held ≡ 0)
    → TookGate f list bytes d e result
gate_took told f list bytes old mid new d e first held answer result small few w passed calm untouched failed before after none all =
    let t = took_last told (IsGateAnswer f list bytes) old mid new d e first held answer result (said_with told (IsGateAnswer f list bytes) bytes old mid answer few w)
    (λ m. subst (λ (r : Result ℕ Stop). IfErr r (StopsGate (IsGateAnswer f list bytes) (told old) (told mid))) m w.stopped)
    passed calm untouched failed before after none all in
    record {
      took = t.0;
      last = t.1;
      passes = zero_took (PassesText list bytes) (IsGateAnswer f list bytes) d e result (λ o is zero. gate_zero f list bytes o small few is zero) t.0;
    }

-- what is said once all is judged
pub says_took : (Is : Output → Type 0) (old mid new d e : Told) (first held : List ℕ) (answer result : Result ℕ Stop) → Says Is old mid answer
    → (result ≢ Err stop.Write → result ≡ answer) → (result ≢ Err stop.Write → Wrote mid new []) → (answer ≡ Err stop.Write → new ≡ mid)
    → (result ≡ Err stop.Write → answer ≢ Err stop.Write → Broke mid new [])
    → old ≡ holding d first → new ≡ holding e held → (holding d first).held ≡ 0 → (result ≢ Err stop.Write → (holding e held).held ≡ 0)
    → TookText Is d e result × NoneWithoutMemory d e result
says_took Is old mid new d e first held answer result w =
    took_last (λ (x : Told). x) Is old mid new d e first held answer result (said Is old mid answer w)
    (λ m. subst (λ (r : Result ℕ Stop). IfErr r (StopsGate Is old mid)) m w.stopped)

named_zero : (f : Format) (list : List Entry) (name bytes : List ℕ) (o : Output) → AreBytes bytes → length bytes ≤ size_limit → IsNamedAnswer f name list bytes o → o.status ≡ 0
    → PassesFile list bytes
named_zero format.Text list name bytes o small few is zero =
    (zero_where_file_passes list bytes is.0 small few is.1).passes (sym (ap (λ (x : Output). x.status) is.2) ∙ zero)
named_zero format.Json list name bytes o small few is zero = named_line_passes list name bytes o small few is zero

-- the status of a file with its name is 0 only where it passes
pub named_took : (f : Format) (list : List Entry) (name bytes : List ℕ) (d e : Told) (result : Result ℕ Stop) → AreBytes bytes → length bytes ≤ size_limit
    → TookText (IsNamedAnswer f name list bytes) d e result × NoneWithoutMemory d e result → TookNamed f list name bytes d e result
named_took f list name bytes d e result small few t = record {
  took = t.0;
  last = t.1;
  passes = zero_took (PassesFile list bytes) (IsNamedAnswer f name list bytes) d e result (λ o is zero. named_zero f list name bytes o small few is zero) t.0;
}

-- the bytes of a text of opcodes
pub assembly_took : {S : Type 0} (told : S → Told) (text : List ℕ) (old mid new : S) (d e : Told) (first held : List ℕ) (answer result : Result ℕ Stop)
    → AnswersAssembly text told old mid answer
    → (result ≢ Err stop.Write → result ≡ answer) → (result ≢ Err stop.Write → Wrote (told mid) (told new) []) → (answer ≡ Err stop.Write → new ≡ mid)
    → (result ≡ Err stop.Write → answer ≢ Err stop.Write → Broke (told mid) (told new) [])
    → told old ≡ holding d first → told new ≡ holding e held → (holding d first).held ≡ 0 → (result ≢ Err stop.Write → (holding e held).held ≡ 0)
    → TookAssembly text d e result
assembly_took told text old mid new d e first held answer result w passed calm untouched failed before after none all =
    let t = says_took (IsAssemblyText text) (told old) (told mid) (told new) d e first held answer result (record { whole = w.whole; stopped = w.stopped; fits = w.fits })
    passed calm (λ x. ap told (untouched x)) failed before after none all in
    record { took = t.0; last = t.1 }

-- the source of a pickle
pub source_took : {S : Type 0} (told : S → Told) (many loose : Bool) (bytes : List ℕ) (old mid new : S) (d e : Told) (first held : List ℕ) (answer result : Result ℕ Stop)
    → AnswersSource many loose bytes told old mid answer
    → (result ≢ Err stop.Write → result ≡ answer) → (result ≢ Err stop.Write → Wrote (told mid) (told new) []) → (answer ≡ Err stop.Write → new ≡ mid)
    → (result ≡ Err stop.Write → answer ≢ Err stop.Write → Broke (told mid) (told new) [])
    → told old ≡ holding d first → told new ≡ holding e held → (holding d first).held ≡ 0 → (result ≢ Err stop.Write → (holding e held).held ≡ 0)
    → TookSource many loose bytes d e result
source_took told many loose bytes old mid new d e first held answer result w passed calm untouched failed before after none all =
    let t = says_took (IsSourceText many loose bytes) (told old) (told mid) (told new) d e first held answer result (record { whole = w.whole; stopped = w.stopped; fits = w.fits })
    passed calm (λ x. ap told (untouched x)) failed before after none all in
    record { took = t.0; last = t.1 }

zero_same : (many : Bool) (one other : List ℕ) (c : Compared) → Compares many one other c → comparison_status c ≡ 0 → SameObjects many one other
zero_same many one other compared.Same h z = h
zero_same many one other (compared.FirstEnds x) h z = absurd cc
zero_same many one other (compared.OtherEnds x) h z = absurd cc
zero_same many one other (compared.Object n) h z = absurd cc
zero_same many one other compared.Results h z = absurd cc
zero_same many one other (compared.FirstGoesOn x) h z = absurd cc
zero_same many one other (compared.OtherGoesOn x) h z = absurd cc
zero_same many one other compared.Order h z = absurd cc

same_zero : (f : Format) (many : Bool) (one other : List ℕ) (o : Output) → IsSameAnswer f many one other o → o.status ≡ 0 → SameObjects many one other
same_zero format.Text many one other o is zero = zero_same many one other is.compared is.compares (ap (λ (x : Output). x.status) (sym is.text_is) ∙ zero)
same_zero format.Json many one other o is zero = zero_same many one other is.compared is.compares (ap (λ (x : Output). x.status) (sym is.line_is) ∙ zero)

-- the line about two pickles: its status is 0 only where they make the same objects
pub comparison_took : (f : Format) (many : Bool) (one other : List ℕ) (d e : Told) (result : Result ℕ Stop)
    → TookText (IsSameAnswer f many one other) d e result × NoneWithoutMemory d e result → TookComparison f many one other d e result
comparison_took f many one other d e result t = record {
  took = t.0;
  last = t.1;
  same = zero_took (SameObjects many one other) (IsSameAnswer f many one other) d e result (λ o is zero. same_zero f many one other o is zero) t.0;
}

-- the table of opcodes
says_opcodes : {A E : Type 0} (f : Format) (old new : Told) (written : Result A E) (answer : Result ℕ Stop) → Writes old new written (opcodes_text f)
    → MatchResult written (λ _. answer ≡ Ok 0) (λ _. answer ≡ Err stop.Write) → Says (IsOpcodes f) old new answer × IfErr answer (λ e. e ≡ stop.Write)
says_opcodes f old new (Ok x) answer w is =
    rw is (record { whole = (record { text = opcodes_text f; status = 0 }, refl, w, refl); stopped = tt; fits = λ e. absurd cc }, tt)
says_opcodes f old new (Err x) answer w is =
    rw is (record { whole = tt; stopped = (record { text = opcodes_text f; status = 0 }, refl, w); fits = λ e. absurd cc }, refl)

only_write : (answer result : Result ℕ Stop) → IfErr answer (λ e. e ≡ stop.Write) → (result ≢ Err stop.Write → result ≡ answer) → IfErr result (λ e. e ≡ stop.Write)
only_write answer (Ok status) only passed = tt
only_write answer (Err stop.Write) only passed = refl
only_write answer (Err stop.Read) only passed = subst (λ (r : Result ℕ Stop). IfErr r (λ e. e ≡ stop.Write)) (sym (passed (λ e. absurd cc))) only
only_write answer (Err stop.TooLarge) only passed = subst (λ (r : Result ℕ Stop). IfErr r (λ e. e ≡ stop.Write)) (sym (passed (λ e. absurd cc))) only
only_write answer (Err stop.Memory) only passed = subst (λ (r : Result ℕ Stop). IfErr r (λ e. e ≡ stop.Write)) (sym (passed (λ e. absurd cc))) only

pub opcodes_took : {A E : Type 0} (f : Format) (old mid new d e : Told) (first held : List ℕ) (written : Result A E) (answer result : Result ℕ Stop)
    → Writes old mid written (opcodes_text f) → MatchResult written (λ _. answer ≡ Ok 0) (λ _. answer ≡ Err stop.Write)
    → (result ≢ Err stop.Write → result ≡ answer) → (result ≢ Err stop.Write → Wrote mid new []) → (answer ≡ Err stop.Write → new ≡ mid)
    → (result ≡ Err stop.Write → answer ≢ Err stop.Write → Broke mid new [])
    → old ≡ holding d first → new ≡ holding e held → (holding d first).held ≡ 0 → (result ≢ Err stop.Write → (holding e held).held ≡ 0)
    → TookOpcodes f d e result
opcodes_took f old mid new d e first held written answer result w is passed calm untouched failed before after none all =
    let s = says_opcodes f old mid written answer w is in
    let t = says_took (IsOpcodes f) old mid new d e first held answer result s.0 passed calm untouched failed before after none all in
    record { took = t.0; stops = only_write answer result s.1 passed }

-- ---- a conversation

front_whole : (a b : Option (List ℕ)) (whole next : List ℕ) → AppendsBeyond a b whole next → AppendsPrefix a b (whole ++ next)
front_whole None b whole next p = tt
front_whole (Some x) None whole next p = tt
front_whole (Some x) (Some y) whole next p = (whole ++ p.0, (p.1.0, ap (λ (t : List ℕ). whole ++ t) p.1.1 ∙ sym (append_assoc whole p.0 p.1.0)), p.2)

broke_whole : (a b : Told) (whole next : List ℕ) → BrokeBeyond a b whole next → Broke a b (whole ++ next)
broke_whole a b whole next p = record { front = front_whole a.taken b.taken whole next p.taken; stays = p.stays; rises = p.rises; failed = p.failed }

since_below : (s : SessionState) (given : List ℕ) (d e : Told) (held : List ℕ) → BrokeSince s given d (holding e held) → BrokeSince s given d e
since_below s given d e held w = record {
  earlier = w.earlier;
  latest = w.latest;
  parts = w.parts;
  few = w.few;
  between = w.between;
  asked = w.asked;
  since = w.since;
  broke = Broke-below w.between e held w.since w.asked.handed w.broke;
}

fails_below : (s after : SessionState) (a b : Option (List ℕ)) (d e : Told) (held : List ℕ) → d.held ≡ 0 → StopsWriting s after a b d (holding e held) → StopsAtDevice format.Text s after a b d e
fails_below s after a b d e held none w = record {
  given = w.given;
  gave = w.gave;
  cut = w.cut;
  is_cut = w.is_cut;
  before = w.before;
  last = w.last;
  later = w.later;
  are_given = w.are_given;
  texts = w.texts;
  text = w.text;
  runs = w.runs;
  no_quit = w.no_quit;
  fails = (Broke-below d e held (concat w.texts ++ w.text) none (broke_whole d (holding e held) (concat w.texts) w.text w.fails.0), since_below s w.given d e held w.fails.1);
}

-- the same of lines for programs
since_lines : (s : SessionState) (given : List ℕ) (d e : Told) (held : List ℕ) → json_talk.BrokeSince s given d (holding e held) → json_talk.BrokeSince s given d e
since_lines s given d e held w = record {
  earlier = w.earlier;
  latest = w.latest;
  parts = w.parts;
  few = w.few;
  between = w.between;
  asked = w.asked;
  since = w.since;
  broke = Broke-below w.between e held w.since w.asked.handed w.broke;
}

fails_in_lines : (s after : SessionState) (a b : Option (List ℕ)) (d e : Told) (held : List ℕ) → d.held ≡ 0 → json_talk.StopsWriting s after a b d (holding e held) → StopsAtDevice format.Json s after a b d e
fails_in_lines s after a b d e held none w = record {
  given = w.given;
  gave = w.gave;
  cut = w.cut;
  is_cut = w.is_cut;
  before = w.before;
  last = w.last;
  later = w.later;
  are_given = w.are_given;
  answers = w.answers;
  answer = w.answer;
  runs = w.runs;
  no_quit = w.no_quit;
  fails = (
    Broke-below d e held (lines_text w.answers ++ answer_line w.answer) none (broke_whole d (holding e held) (lines_text w.answers) (answer_line w.answer) w.fails.0),
    since_lines s w.given d e held w.fails.1,
  );
}

fails_in : (f : Format) (s after : SessionState) (a b : Option (List ℕ)) (d e : Told) (held : List ℕ) → d.held ≡ 0 → StopsWritingIn f s after a b d (holding e held) → StopsAtDevice f s after a b d e
fails_in format.Text s after a b d e held none w = fails_below s after a b d e held none w
fails_in format.Json s after a b d e held none w = fails_in_lines s after a b d e held none w

pub stops_below : (f : Format) (s after : SessionState) (a b : Option (List ℕ)) (d e : Told) (first held : List ℕ) → (holding d first).held ≡ 0
    → StopsWritingIn f s after a b (holding d first) (holding e held) → StopsAtDevice f s after a b d e
stops_below f s after a b d e first held none w =
    fails_in f s after a b d e held (none_below d first none) (subst (λ (t : Told). StopsWritingIn f s after a b t (holding e held)) (nothing-held d first none) w)

-- what a stop of a conversation leaves, by what is promised of it
pub cuts_below : (f : Format) (s after : SessionState) (a b : Gives) (d e : Told) (first held : List ℕ) (x : Stop) (r : Result ℕ Stop) → r ≡ Err x → (holding d first).held ≡ 0
    → (r ≢ Err stop.Write → (holding e held).held ≡ 0)
    → (r ≡ Err stop.Read → StopsReadingIn f s after a.remaining b.remaining (holding d first) (holding e held))
    → (r ≡ Err stop.Read → HasFailed a.failures b.failures) → (r ≢ Err stop.Read → b.failures ≡ a.failures)
    → (r ≡ Err stop.Write → StopsWritingIn f s after a.remaining b.remaining (holding d first) (holding e held))
    → (r ≡ Err stop.Memory → (after ≡ s) × (b ≡ a) × (e ≡ d))
    → r ≢ Err stop.TooLarge → Cuts f s after a b d e x
cuts_below f s after a b d e first held stop.Read r is none all reading failed calm writing memory no_other =
    let n : r ≢ Err stop.Write = λ w. let c : err stop.Read ≡ err stop.Write = sym is ∙ w in absurd cc in
    (same_below (StopsReadingIn f s after a.remaining b.remaining) d e first held none (all n) (reading is), failed is)
cuts_below f s after a b d e first held stop.Write r is none all reading failed calm writing memory no_other =
    let n : r ≢ Err stop.Read = λ w. let c : err stop.Write ≡ err stop.Read = sym is ∙ w in absurd cc in
    (stops_below f s after a.remaining b.remaining d e first held none (writing is), calm n)
cuts_below f s after a b d e first held stop.TooLarge r is none all reading failed calm writing memory no_other = absurd (no_other is)
cuts_below f s after a b d e first held stop.Memory r is none all reading failed calm writing memory no_other = memory is

-- the error of a `?` is passed on as it is
pub unsaved_so : {A : Type 0} (P : Stop → Type 0) (x : Stop) (r : Result A Stop) → IsErrAnd r (λ y. y ≡ x) → P x → IfErr r P
unsaved_so P x (Ok y) h w = absurd h
unsaved_so P x (Err y) h w = subst P (sym h) w

-- without memory for a session nothing was touched
pub unopened : {F : Type 0} (files : F) (input : Gives) (old : Told) (P : ℕ → Type 0) (Q : Stop → Type 0) (x : Stop) (r : Result ℕ Stop) → IsErrAnd r (λ y. y ≡ x) → x ≡ stop.Memory
    → MatchResult r P (λ e. IsUnopened files files input input old old e ⊎ Q e)
unopened files input old P Q x (Ok y) h m = absurd h
unopened files input old P Q x (Err y) h m = inl (record { memory = h ∙ m; untouched = record { unsaved = refl; unread = refl; unwritten = refl } })

-- ---- words

pub words_answered : {F O : Type 0} (r : Reports F O) (given words texts : List (List ℕ)) (files files' : F) (source source' : Gives) (old new errors errors' : Told) (status : ℕ)
    → StandFor (λ path bytes. IsRead (r.bytes_of files path) bytes) given words → texts ≡ words → AnswersWords r texts files files' source source' old new errors errors' status
    → Answers r given files files' source source' old new errors errors' status
words_answered r given words texts files files' source source' old new errors errors' status stand same answers =
    inl (record { words = words; stand = stand; answers = subst (λ (t : List (List ℕ)). AnswersWords r t files files' source source' old new errors errors' status) same answers })
