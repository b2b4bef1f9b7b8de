-- A conversation in JSON, line by line and byte by byte.
use Rattle.std.proofs.Common.{◌≡◌, ◌≢◌, ℕ, Bool, true, false, ◌||◌, List, [], ◌∷◌, ◌++◌, Option, Some, None, Result, Ok, Err, refl, sym, ap, subst, ◌∙◌, append_assoc, append-nil, arith}
use Rattle.std.specs.List.{list_any}
use Rattle.std.specs.Io.KnownBytes.{Appends}
use Rattle.pickle_io.proofs.Devices.{Wrote-trans, Broke-after}
use Rattle.std.proofs.lemmas.List.Folds.{list_any-append}
use Rattle.pickle_io.specs.Device.{Told, AppendsPrefix, Wrote, Broke}
use Rattle.pickle_io.specs.declared.sink.Failed.{Failed}
use Rattle.pickle_session.specs.Allowed.{SessionState}
use Rattle.pickle_script.specs.declared.conversation.line.Line.{Line}
use Rattle.pickle_script.specs.declared.conversation.line.Line.TheVariants as line
use Rattle.pickle_script.specs.declared.conversation.line.Syntax.{Syntax}
use Rattle.pickle_script.specs.Grammar.{AnswersWords, line_says}
use Rattle.pickle_script.specs.Transcript.{quits, is_quit, has_quit}
use Rattle.pickle_script.specs.Conversation.{AppendsBeyond, BrokeBeyond}
use Rattle.pickle_script.specs.Inside.Progress.{Pending, line_start, longer}
use Rattle.pickle_script.proofs.Cuts.{after, ended, lengthened, IsCut-more, IsCut-newline, IsCut-byte, some_cut}
use Rattle.pickle_script.proofs.Feeding.{longer-shortened, line_says-shortened, nil-shortened, any-push, up_to_quit-last, up_to_quit-more, pend}
use Rattle.debug_json.specs.declared.asked.Own.{Own}
use Rattle.debug_json.specs.declared.asked.Asked.{Asked}
use Rattle.debug_json.specs.Asked.{AsksBy, IsAsked, line_asks, as_own, as_line}
use Rattle.debug_json.proofs.Askings.{own_stays, line_asks-shortened}
use Rattle.debug_json.specs.Answer.{Answer}
use Rattle.debug_json.specs.Says.{Says}
use Rattle.debug_json.specs.Lines.{answer_line}
use Rattle.debug_json.specs.Answered.{AnswersSaying}
use Rattle.json_conversation.specs.declared.talk.Flow.{Flow}
use Rattle.json_conversation.specs.declared.talk.Flow.TheVariants as flow
use Rattle.json_conversation.specs.Transcript.{asks_quit, SaysAll, lines_text, is_refusal}
use Rattle.json_conversation.specs.Inside.Progress.{SoFar, HasQuit, BreaksInLine, HasBroken, Fed}

-- ---- one line more

pub Runs-push : (s m t : SessionState) (ls : List (List ℕ)) (xs : List Answer) (l : List ℕ) (x : Answer) → SaysAll s ls xs m → Says m l x t → SaysAll s (ls ++ l ∷ []) (xs ++ x ∷ []) t
Runs-push s m t [] [] l x r g = (t, subst (λ (y : SessionState). Says y l x t) r g, refl)
Runs-push s m t (k ∷ ls) (u ∷ xs) l x r g = (r.0, r.1, Runs-push r.0 m t ls xs l x r.2 g)
Runs-push s m t [] (u ∷ xs) l x r g = absurd r
Runs-push s m t (k ∷ ls) [] l x r g = absurd r

pub text-push : (xs : List Answer) (a : Answer) → lines_text (xs ++ a ∷ []) ≡ lines_text xs ++ answer_line a
text-push [] a = append-nil (answer_line a)
text-push (b ∷ xs) a = ap (λ (t : List ℕ). answer_line b ++ t) (text-push xs a) ∙ sym (append_assoc (answer_line b) (lines_text xs) (answer_line a))

or_false : (b : Bool) → (b || false) ≡ b
or_false true = refl
or_false false = refl

refused-push : (xs : List Answer) (a : Answer) → list_any is_refusal (xs ++ a ∷ []) ≡ (list_any is_refusal xs || is_refusal a)
refused-push xs a = list_any-append is_refusal xs (a ∷ []) ∙ ap (λ (b : Bool). list_any is_refusal xs || b) (or_false (is_refusal a))

no_quit-push : (ls : List (List ℕ)) (l : List ℕ) → has_quit ls ≡ false → is_quit l ≡ false → has_quit (ls ++ l ∷ []) ≡ false
no_quit-push ls l p q = any-push is_quit ls l ∙ rw (p, q) refl

pub Wrote-push : (a b c : Told) (xs : List Answer) (x : Answer) → Wrote a b (lines_text xs) → Wrote b c (answer_line x) → Wrote a c (lines_text (xs ++ x ∷ []))
Wrote-push a b c xs x p q = rw (text-push xs x) (Wrote-trans a b c (lines_text xs) (answer_line x) p q)

AppendsBeyond-front : (a b c : Option (List ℕ)) (whole next : List ℕ) → Appends a b whole → AppendsPrefix b c next → AppendsBeyond a c whole next
AppendsBeyond-front None b c whole next p q = tt
AppendsBeyond-front (Some x) None c whole next p q = absurd p
AppendsBeyond-front (Some x) (Some y) None whole next p q = tt
AppendsBeyond-front (Some x) (Some y) (Some z) whole next p q = (q.0, q.1, q.2 ∙ ap (λ (t : List ℕ). t ++ q.0) p ∙ append_assoc x whole q.0)

BrokeBeyond-front : (a b c : Told) (whole next : List ℕ) → Wrote a b whole → Broke b c next → BrokeBeyond a c whole next
BrokeBeyond-front a b c whole next p q = record {
  taken = AppendsBeyond-front a.taken b.taken c.taken whole next p.taken q.front;
  stays = (Broke-after a b c whole next p q).stays;
  rises = omega (arith, p.calm, q.rises);
  failed = λ h. omega (arith, p.calm, q.failed (omega (arith, p.calm, h)));
}

-- ---- a line ends

same_pending : (l m : List ℕ) (b c : Bool) → l ≡ m → b ≡ c → pend l b ≡ pend m c
same_pending l m b c e f = ap (λ (x : List ℕ). pend x b) e ∙ ap (λ (x : Bool). pend m x) f

-- the line is read as what is held of it
read_so : (s q : SessionState) (old a : Told) (given : List ℕ) (held : Pending) (says : Result Asked Syntax)
    → (w : SoFar s old given q a held) → IsAsked held.line says → IsAsked w.cut.rest says
read_so s q old a given held says w e =
    let same : line_says held.line ≡ line_says w.cut.rest = ap (λ (x : Pending). line_says x.line) w.holds ∙ line_says-shortened w.cut.rest in
    let asks : line_asks held.line ≡ line_asks w.cut.rest = ap (λ (x : Pending). line_asks x.line) w.holds ∙ line_asks-shortened w.cut.rest in
    subst (λ (x : Result Line Syntax). AsksBy (line_asks w.cut.rest) x says) same
    (subst (λ (x : Option (Result Own Syntax)). AsksBy x (line_says held.line) says) asks e)

-- no other answer to a line quits, and none to a line that quits does not
same_quits : (said says : Result Line Syntax) → AnswersWords said says → quits said ≡ quits says
same_quits (Err f) says e = ap quits (sym e)
same_quits (Ok l) (Ok m) e = ap (λ (k : Line). quits (Ok k)) (sym e.0)
same_quits (Ok line.Nothing) (Err f) e = refl
same_quits (Ok (line.Command c)) (Err f) e = refl
same_quits (Ok (line.At p a)) (Err f) e = refl
same_quits (Ok (line.Query x)) (Err f) e = refl
same_quits (Ok line.Quit) (Err f) e = absurd e

quits-line : (says : Result Line Syntax) → quits says ≡ asks_quit (as_line says)
quits-line (Ok l) = refl
quits-line (Err f) = refl

own-quits : (own : Result Own Syntax) → false ≡ asks_quit (as_own own)
own-quits (Ok o) = refl
own-quits (Err f) = refl

quits_by : (asks : Option (Result Own Syntax)) (bytes : List ℕ) (says : Result Asked Syntax) → line_asks bytes ≡ asks → AsksBy asks (line_says bytes) says
    → is_quit bytes ≡ asks_quit says
quits_by (Some own) bytes says h e = own_stays bytes own h ∙ own-quits own ∙ ap asks_quit (sym e)
quits_by None bytes says h e = same_quits (line_says bytes) e.0 e.1 ∙ quits-line e.0 ∙ ap asks_quit (sym e.2)

quits_so : (s q : SessionState) (old a : Told) (given : List ℕ) (held : Pending) (says : Result Asked Syntax)
    → (w : SoFar s old given q a held) → IsAsked held.line says → is_quit w.cut.rest ≡ asks_quit says
quits_so s q old a given held says w e = quits_by (line_asks w.cut.rest) w.cut.rest says refl (read_so s q old a given held says w e)

-- the line that was not ended is answered so
pub gives_so : (s q r : SessionState) (old a b : Told) (given : List ℕ) (held : Pending) (says : Result Asked Syntax) (x : Result Bool Failed)
    → (w : SoFar s old given q a held) → IsAsked held.line says → (y : AnswersSaying says q r a b x) → Says q w.cut.rest y.answer r
gives_so s q r old a b given held says x w e y = record { says = says; is_asked = read_so s q old a given held says w e; said_by = y.said_by; session = y.session; reached = y.reached }

pub refused_so : (s q r : SessionState) (old a b : Told) (given : List ℕ) (held : Pending) (says : Result Asked Syntax) (this : Bool)
    → (w : SoFar s old given q a held) → (y : AnswersSaying says q r a b (Ok this)) → (held.refused || this) ≡ list_any is_refusal (w.answers ++ y.answer ∷ [])
refused_so s q r old a b given held says this w y =
    ap (λ (x : Pending). x.refused || this) w.holds ∙ ap (λ (x : Bool). list_any is_refusal w.answers || x) y.is_refusal ∙ sym (refused-push w.answers y.answer)

pub line_ends : (s q r : SessionState) (old a b : Told) (given : List ℕ) (held next : Pending) (says : Result Asked Syntax) (this : Bool)
    → SoFar s old given q a held → IsAsked held.line says → asks_quit says ≡ false → AnswersSaying says q r a b (Ok this) → next ≡ pend [] (held.refused || this)
    → SoFar s old (given ++ 10 ∷ []) r b next
line_ends s q r old a b given held next says this w e n x is = record {
  cut = ended w.cut;
  is_cut = IsCut-newline given w.cut w.is_cut;
  answers = w.answers ++ x.answer ∷ [];
  runs = Runs-push s q r w.cut.complete w.answers w.cut.rest x.answer w.runs (gives_so s q r old a b given held says (Ok this) w e x);
  no_quit = no_quit-push w.cut.complete w.cut.rest w.no_quit (quits_so s q old a given held says w e ∙ n);
  wrote = Wrote-push old a b w.answers x.answer w.wrote x.writes;
  holds = is ∙ same_pending [] (line_start []) (held.refused || this) (list_any is_refusal (w.answers ++ x.answer ∷ [])) (sym nil-shortened) (refused_so s q r old a b given held says this w x);
}

pub line_quits : (s q r : SessionState) (old a b : Told) (given : List ℕ) (held next : Pending) (says : Result Asked Syntax) (this : Bool)
    → SoFar s old given q a held → IsAsked held.line says → asks_quit says ≡ true → AnswersSaying says q r a b (Ok this) → next ≡ pend [] (held.refused || this)
    → HasQuit s old (given ++ 10 ∷ []) r b next
line_quits s q r old a b given held next says this w e h x is =
    let quit : is_quit w.cut.rest ≡ true = quits_so s q old a given held says w e ∙ h in
    let runs = Runs-push s q r w.cut.complete w.answers w.cut.rest x.answer w.runs (gives_so s q r old a b given held says (Ok this) w e x) in
    record {
      cut = ended w.cut;
      is_cut = IsCut-newline given w.cut w.is_cut;
      answers = w.answers ++ x.answer ∷ [];
      transcript = subst (λ (ls : List (List ℕ)). SaysAll s ls (w.answers ++ x.answer ∷ []) r) (sym (up_to_quit-last w.cut.complete w.cut.rest w.no_quit)) runs;
      quits = any-push is_quit w.cut.complete w.cut.rest ∙ rw (w.no_quit, quit) refl;
      wrote = Wrote-push old a b w.answers x.answer w.wrote x.writes;
      refused = ap (λ (y : Pending). y.refused) is ∙ refused_so s q r old a b given held says this w x;
    }

-- the sink fails in the text of the line that was not ended
pub last_breaks : (s q r : SessionState) (old a b : Told) (given : List ℕ) (held : Pending) (says : Result Asked Syntax) (e : Failed)
    → (w : SoFar s old given q a held) → IsAsked held.line says → AnswersSaying says q r a b (Err e) → BreaksInLine s old (w.cut.complete ++ w.cut.rest ∷ []) r b
last_breaks s q r old a b given held says e w is x = record {
  before = w.cut.complete;
  last = w.cut.rest;
  later = [];
  are = refl;
  answers = w.answers;
  answer = x.answer;
  runs = Runs-push s q r w.cut.complete w.answers w.cut.rest x.answer w.runs (gives_so s q r old a b given held says (Err e) w is x);
  no_quit = w.no_quit;
  broke = BrokeBeyond-front old a b (lines_text w.answers) (answer_line x.answer) w.wrote x.writes;
}

pub line_breaks : (s q r : SessionState) (old a b : Told) (given : List ℕ) (held : Pending) (says : Result Asked Syntax) (e : Failed)
    → SoFar s old given q a held → IsAsked held.line says → AnswersSaying says q r a b (Err e) → HasBroken s old (given ++ 10 ∷ []) r b
line_breaks s q r old a b given held says e w is x = record {
  cut = ended w.cut;
  is_cut = IsCut-newline given w.cut w.is_cut;
  breaks = last_breaks s q r old a b given held says e w is x;
}

-- a byte that ends no line
pub byte_goes_on : (s q : SessionState) (old a : Told) (given : List ℕ) (held next : Pending) (b : ℕ) → b ≢ 10 → SoFar s old given q a held
    → next ≡ record held { line = longer held.line b } → SoFar s old (given ++ b ∷ []) q a next
byte_goes_on s q old a given held next b n w is = record {
  cut = lengthened w.cut b;
  is_cut = IsCut-byte given w.cut b n w.is_cut;
  answers = w.answers;
  runs = w.runs;
  no_quit = w.no_quit;
  wrote = w.wrote;
  holds = is ∙ ap (λ (x : Pending). pend (longer x.line b) x.refused) w.holds ∙ ap (λ (l : List ℕ). pend l (list_any is_refusal w.answers)) (longer-shortened w.cut.rest b);
}

-- ---- more bytes after these

pub Breaks-more : (s r : SessionState) (old b : Told) (ls ms : List (List ℕ)) → BreaksInLine s old ls r b → BreaksInLine s old (ls ++ ms) r b
Breaks-more s r old b ls ms w = record {
  before = w.before;
  last = w.last;
  later = w.later ++ ms;
  are = ap (λ (t : List (List ℕ)). t ++ ms) w.are ∙ append_assoc w.before (w.last ∷ w.later) ms;
  answers = w.answers;
  answer = w.answer;
  runs = w.runs;
  no_quit = w.no_quit;
  broke = w.broke;
}

HasBroken-more : (s r : SessionState) (old b : Told) (given more : List ℕ) → HasBroken s old given r b → HasBroken s old (given ++ more) r b
HasBroken-more s r old b given more w =
    let c = some_cut (w.cut.rest ++ more) in
    record {
      cut = after w.cut c.cut;
      is_cut = IsCut-more given more w.cut c.cut w.is_cut c.is_cut;
      breaks = Breaks-more s r old b w.cut.complete c.cut.complete w.breaks;
    }

any-more : (test : List ℕ → Bool) (ls ms : List (List ℕ)) → list_any test ls ≡ true → list_any test (ls ++ ms) ≡ true
any-more test ls ms h = list_any-append test ls ms ∙ rw h refl

HasQuit-more : (s r : SessionState) (old b : Told) (given more : List ℕ) (held : Pending) → HasQuit s old given r b held → HasQuit s old (given ++ more) r b held
HasQuit-more s r old b given more held w =
    let c = some_cut (w.cut.rest ++ more) in
    record {
      cut = after w.cut c.cut;
      is_cut = IsCut-more given more w.cut c.cut w.is_cut c.is_cut;
      answers = w.answers;
      transcript = subst (λ (ls : List (List ℕ)). SaysAll s ls w.answers r) (sym (up_to_quit-more w.cut.complete c.cut.complete w.quits)) w.transcript;
      quits = any-more is_quit w.cut.complete c.cut.complete w.quits;
      wrote = w.wrote;
      refused = w.refused;
    }

pub fed_on : (s r : SessionState) (old b : Told) (given whole : List ℕ) (held : Pending) (x : Result Flow Failed)
    → Fed s old given r b held x → x ≡ Ok flow.GoesOn → given ≡ whole → SoFar s old whole r b held
fed_on s r old b given whole held (Ok flow.GoesOn) f h e = subst (λ (t : List ℕ). SoFar s old t r b held) e f
fed_on s r old b given whole held (Ok flow.Quits) f h e = absurd cc
fed_on s r old b given whole held (Err y) f h e = absurd cc

pub fed_quit : (s r : SessionState) (old b : Told) (given more whole : List ℕ) (held : Pending) (x : Result Flow Failed)
    → Fed s old given r b held x → x ≡ Ok flow.Quits → given ++ more ≡ whole → HasQuit s old whole r b held
fed_quit s r old b given more whole held (Ok flow.Quits) f h e = subst (λ (t : List ℕ). HasQuit s old t r b held) e (HasQuit-more s r old b given more held f)
fed_quit s r old b given more whole held (Ok flow.GoesOn) f h e = absurd cc
fed_quit s r old b given more whole held (Err y) f h e = absurd cc

pub fed_broken : (s r : SessionState) (old b : Told) (given more whole : List ℕ) (held : Pending) (x : Result Flow Failed) (y : Failed)
    → Fed s old given r b held x → x ≡ Err y → given ++ more ≡ whole → HasBroken s old whole r b
fed_broken s r old b given more whole held (Err z) y f h e = subst (λ (t : List ℕ). HasBroken s old t r b) e (HasBroken-more s r old b given more f)
fed_broken s r old b given more whole held (Ok z) y f h e = absurd cc
