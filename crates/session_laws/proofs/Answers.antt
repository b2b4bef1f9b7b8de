-- What a line prints is one text, and leads to one session, memory apart.
use Rattle.std.proofs.Common.{◌≡◌, ◌≢◌, inl, inr, ℕ, List, [], Option, Some, None, MatchOption, Result, Ok, Err, refl, sym, ap, subst, ◌∙◌}
use Rattle.pickle_doc.specs.declared.fault.End.{End}
use Rattle.pickle_doc.specs.Document.{Contents, items_of}
use Rattle.pickle_doc.specs.Place.{IsPlaceAt, offset_at, end_of}
use Rattle.pickle_doc.proofs.Offsets.{begins, only_place}
use Rattle.pickle_machine.specs.State.{State}
use Rattle.pickle_session.specs.declared.command.Command.{Command}
use Rattle.pickle_session.specs.declared.reply.Fault.TheVariants as fault
use Rattle.pickle_session.specs.declared.reply.Reply.TheVariants as reply
use Rattle.pickle_session.specs.Session.{Session, Answer, Obeys, state_at}
use Rattle.pickle_session.specs.Allowed.{SessionState}
use Rattle.pickle_session.proofs.Unique.{one_answer}
use Rattle.pickle_script.specs.declared.conversation.line.Line.{Line}
use Rattle.pickle_script.specs.declared.conversation.line.Line.TheVariants as line
use Rattle.pickle_script.specs.declared.conversation.line.Place.{Place}
use Rattle.pickle_script.specs.declared.conversation.line.Place.TheVariants as place
use Rattle.pickle_script.specs.declared.conversation.line.Action.{Action}
use Rattle.pickle_script.specs.declared.conversation.line.Query.{Query}
use Rattle.pickle_script.specs.declared.conversation.line.Syntax.{Syntax}
use Rattle.pickle_script.specs.declared.conversation.line.Syntax.TheVariants as syntax
use Rattle.pickle_script.specs.Grammar as grammar
use Rattle.pickle_script.specs.ReplyText.{reply_text, refused_command, syntax_line, fault_words, fault_rest, syntax_words, syntax_rest, no_item_line}
use Rattle.pickle_script.specs.Query.{IsQueryText}
use Rattle.pickle_script.specs.Transcript.{PrintsText, Replies, PrintsAt, Shows, PrintsBy, Prints}
use Rattle.session_laws.specs.Transcripts.{memory_line}
use Rattle.session_laws.proofs.Readings.{one_reading}

-- the same text, and the same session after it
abbrev pub IsSame : List ℕ → List ℕ → SessionState → SessionState → Type 0
IsSame text other q s = (text ≡ other) × (q.session ≡ s.session)

-- ---- a command

refused_memory : (e : End) → reply_text e (reply.Refused fault.Memory) ≡ memory_line
unfolding reply_text refused_command syntax_line fault_words fault_rest syntax_words syntax_rest
refused_memory e = refl

obeyed : (c : Command) (p q : SessionState) (text : List ℕ) (r : Replies c p text q) → text ≢ memory_line
    → Obeys c p.session (record { reply = r.answer; after = q.session })
obeyed c p q text r n =
    elim r.answers [
      | inl o ↦ o
      | inr m ↦ absurd (n (r.text_is ∙ ap (reply_text (end_of q.session.document)) m.reply ∙ refused_memory (end_of q.session.document)))
    ]

text_by : Answer → List ℕ
text_by a = reply_text (end_of a.after.document) a.reply

one_reply : (c : Command) (p q r s : SessionState) (text other : List ℕ) → p.session ≡ r.session → text ≢ memory_line → other ≢ memory_line
    → Replies c p text q → Replies c r other s → IsSame text other q s
unfolding text_by
one_reply c p q r s text other e n m x y =
    let same = one_answer c p.session (record { reply = x.answer; after = q.session }) (record { reply = y.answer; after = s.session })
    (obeyed c p q text x n) (subst (λ (t : Session). Obeys c t (record { reply = y.answer; after = s.session })) (sym e) (obeyed c r s other y m)) in
    (x.text_is ∙ ap text_by same ∙ sym y.text_is, ap (λ (a : Answer). a.after) same)

-- ---- a text about the session

one_text : (says : List ℕ) (p q r s : SessionState) (text other : List ℕ) → p.session ≡ r.session → PrintsText p says text q → PrintsText r says other s → IsSame text other q s
one_text says p q r s text other e x y =
    (x.text_is ∙ sym y.text_is, ap (λ (t : SessionState). t.session) x.unchanged ∙ e ∙ sym (ap (λ (t : SessionState). t.session) y.unchanged))

-- ---- a query

one_query : (query : Query) (p : Session) (t : State) (text other : List ℕ) → text ≢ memory_line → other ≢ memory_line
    → IsQueryText query p t text → IsQueryText query p t other → text ≡ other
one_query query p t text other n m (inl x) (inl y) = x ∙ sym y
one_query query p t text other n m (inr x) y = absurd (n x.1)
one_query query p t text other n m (inl x) (inr y) = absurd (m y.1)

one_state : (p r : Session) (a b : State) → p ≡ r → state_at p.document p.cursor ≡ Some a → state_at r.document r.cursor ≡ Some b → a ≡ b
one_state p r a b e x y =
    let same : Some a ≡ Some b = sym x ∙ ap (λ (t : Session). state_at t.document t.cursor) e ∙ y in
    cc

one_show : (query : Query) (p q r s : SessionState) (text other : List ℕ) → p.session ≡ r.session → text ≢ memory_line → other ≢ memory_line
    → Shows query p text q → Shows query r other s → IsSame text other q s
one_show query p q r s text other e n m x y =
    let state = one_state p.session r.session x.state y.state e x.reached y.reached in
    let there = subst (λ (t : State). IsQueryText query r.session t other) (sym state) y.text_is in (
      one_query query p.session x.state text other n m x.text_is (subst (λ (t : Session). IsQueryText query t x.state other) (sym e) there),
      ap (λ (t : SessionState). t.session) x.unchanged ∙ e ∙ sym (ap (λ (t : SessionState). t.session) y.unchanged),
    )

-- ---- a place

found_one : (d : Contents) (offset j k : ℕ) → offset_at d j ≡ Some offset → offset_at d k ≡ Some offset → Some j ≡ Some k
found_one d offset j k x y =
    let b = begins d (items_of d) j offset refl x in
    only_place d (items_of d) offset (Some j) refl (b.within, sym b.start) k y

one_place : (d : Contents) (offset : ℕ) (a b : Option ℕ) → IsPlaceAt d offset a → IsPlaceAt d offset b → a ≡ b
one_place d offset None None x y = refl
one_place d offset None (Some k) x y = absurd (x k y)
one_place d offset (Some j) None x y = absurd (y j x)
one_place d offset (Some j) (Some k) x y = found_one d offset j k x y

abbrev PrintsFound : ℕ → Action → SessionState → List ℕ → SessionState → Option ℕ → Type 0
PrintsFound offset a p text q found = MatchOption found (PrintsText p (no_item_line offset) text q) (λ k. Replies (grammar.command_at a k) p text q)

one_found : (offset : ℕ) (a : Action) (found : Option ℕ) (p q r s : SessionState) (text other : List ℕ) → p.session ≡ r.session → text ≢ memory_line → other ≢ memory_line
    → PrintsFound offset a p text q found → PrintsFound offset a r other s found → IsSame text other q s
one_found offset a None p q r s text other e n m x y = one_text (no_item_line offset) p q r s text other e x y
one_found offset a (Some k) p q r s text other e n m x y = one_reply (grammar.command_at a k) p q r s text other e n m x y

one_at : (w : Place) (a : Action) (p q r s : SessionState) (text other : List ℕ) → p.session ≡ r.session → text ≢ memory_line → other ≢ memory_line
    → PrintsAt w a p text q → PrintsAt w a r other s → IsSame text other q s
one_at (place.Number k) a p q r s text other e n m x y = one_reply (grammar.command_at a k) p q r s text other e n m x y
one_at (place.Offset offset) a p q r s text other e n m x y =
    let same = one_place p.session.document offset x.found y.found x.is_found (subst (λ (t : Session). IsPlaceAt t.document offset y.found) (sym e) y.is_found) in
    one_found offset a x.found p q r s text other e n m x.prints (subst (PrintsFound offset a r other s) (sym same) y.prints)

-- ---- a line

one_print : (says : Result Line Syntax) (p q r s : SessionState) (text other : List ℕ) → p.session ≡ r.session → text ≢ memory_line → other ≢ memory_line
    → PrintsBy says p text q → PrintsBy says r other s → IsSame text other q s
one_print (Ok line.Nothing) p q r s text other e n m x y = one_text [] p q r s text other e x y
one_print (Ok (line.Command c)) p q r s text other e n m x y = one_reply c p q r s text other e n m x y
one_print (Ok (line.At w a)) p q r s text other e n m x y = one_at w a p q r s text other e n m x y
one_print (Ok (line.Query query)) p q r s text other e n m x y = one_show query p q r s text other e n m x y
one_print (Ok line.Quit) p q r s text other e n m x y = one_text [] p q r s text other e x y
one_print (Err f) p q r s text other e n m x y = one_text (syntax_line f) p q r s text other e x y

-- a line that prints another text does not say that memory runs out
ample_reading : (says : Result Line Syntax) (p q : SessionState) (text : List ℕ) → text ≢ memory_line → PrintsBy says p text q → says ≢ Err syntax.Memory
ample_reading says p q text n x = λ e. n ((subst (λ (w : Result Line Syntax). PrintsBy w p text q) e x).text_is)

pub one_line : (bytes : List ℕ) (p q r s : SessionState) (text other : List ℕ) → p.session ≡ r.session → text ≢ memory_line → other ≢ memory_line
    → Prints p bytes text q → Prints r bytes other s → IsSame text other q s
one_line bytes p q r s text other e n m x y =
    let same = one_reading (grammar.line_says bytes) x.says y.says (ample_reading x.says p q text n x.prints) (ample_reading y.says r s other m y.prints) x.is_read y.is_read in
    one_print x.says p q r s text other e n m x.prints (subst (λ (w : Result Line Syntax). PrintsBy w r other s) (sym same) y.prints)
