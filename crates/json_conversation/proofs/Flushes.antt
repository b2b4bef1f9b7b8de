-- A sink that hands on what it holds, after lines that were obeyed: where it fails, it fails in the answer to the last of them.
use Rattle.std.proofs.Common.{◌≡◌, ◌≢◌, ℕ, Bool, true, false, ◌||◌, ◌==◌, List, [], ◌∷◌, ◌++◌, Option, Some, None, Result, Ok, Err, refl, sym, ap, subst, ◌∙◌, append-nil, if◌then◌else◌, arith}
use Rattle.std.specs.Io.KnownBytes.{Appends}
use Rattle.std.proofs.lemmas.List.Folds.{list_any-append}
use Rattle.pickle_io.specs.declared.sink.Failed.{Failed}
use Rattle.pickle_io.specs.Device.{Told, AppendsPrefix, Wrote, Broke}
use Rattle.pickle_io.proofs.Devices.{Wrote-trans, Broke-after}
use Rattle.pickle_session.specs.Allowed.{SessionState}
use Rattle.pickle_script.specs.declared.conversation.line.Syntax.{Syntax}
use Rattle.pickle_script.specs.Script.{Cut, HasNoNewline, IsCut, joined}
use Rattle.pickle_script.specs.Transcript.{is_quit, has_quit, up_to_quit}
use Rattle.pickle_script.specs.Conversation.{AppendsBeyond, BrokeBeyond}
use Rattle.pickle_script.specs.Inside.Progress.{Pending}
use Rattle.pickle_script.proofs.Cuts.{is_newline}
use Rattle.pickle_script.proofs.Feeding.{up_to-last, up_to_quit-none}
use Rattle.pickle_script.proofs.Flushes.{has_newline}
use Rattle.debug_json.specs.Answer.{Answer}
use Rattle.debug_json.specs.Lines.{answer_line}
use Rattle.debug_json.specs.declared.asked.Asked.{Asked}
use Rattle.debug_json.specs.Answered.{AnswersSaying}
use Rattle.json_conversation.specs.Transcript.{SaysAll, IsTranscript, lines_text}
use Rattle.json_conversation.specs.Inside.Progress.{SoFar, HasQuit, BreaksInLine, HasBroken}
use Rattle.json_conversation.proofs.Feeding.{text-push}

-- ---- what was written stays written

Wrote-flushed : (a b c : Told) (text : List ℕ) → Wrote a b text → Wrote b c [] → Wrote a c text
Wrote-flushed a b c text p q = subst (λ (t : List ℕ). Wrote a c t) (append-nil text) (Wrote-trans a b c text [] p q)

pub quit_flushed : (s q : SessionState) (old a b : Told) (given : List ℕ) (held : Pending) → HasQuit s old given q a held → Wrote a b [] → HasQuit s old given q b held
quit_flushed s q old a b given held w f = record {
  cut = w.cut;
  is_cut = w.is_cut;
  answers = w.answers;
  transcript = w.transcript;
  quits = w.quits;
  wrote = Wrote-flushed old a b (lines_text w.answers) w.wrote f;
  refused = w.refused;
}

pub so_far_flushed : (s q : SessionState) (old a b : Told) (given : List ℕ) (held : Pending) → SoFar s old given q a held → Wrote a b [] → SoFar s old given q b held
so_far_flushed s q old a b given held w f = record {
  cut = w.cut;
  is_cut = w.is_cut;
  answers = w.answers;
  runs = w.runs;
  no_quit = w.no_quit;
  wrote = Wrote-flushed old a b (lines_text w.answers) w.wrote f;
  holds = w.holds;
}

-- nothing more was given
pub so_far_none : (s q : SessionState) (old a : Told) (given : List ℕ) (held : Pending) → SoFar s old given q a held → SoFar s old (given ++ []) q a held
so_far_none s q old a given held w = subst (λ (t : List ℕ). SoFar s old t q a held) (sym (append-nil given)) w

pub line_flushed : (says : Result Asked Syntax) (q r : SessionState) (a b c : Told) (this : Bool) → AnswersSaying says q r a b (Ok this) → Wrote b c [] → AnswersSaying says q r a c (Ok this)
line_flushed says q r a b c this x f = record {
  answer = x.answer;
  said_by = x.said_by;
  session = x.session;
  reached = x.reached;
  writes = Wrote-flushed a b c (answer_line x.answer) x.writes f;
  is_refusal = x.is_refusal;
}

-- ---- the sink fails

pub line_unflushed : (says : Result Asked Syntax) (q r : SessionState) (a b c : Told) (this : Bool) (e : Failed) → AnswersSaying says q r a b (Ok this) → Broke b c [] → AnswersSaying says q r a c (Err e)
line_unflushed says q r a b c this e x f = record {
  answer = x.answer;
  said_by = x.said_by;
  session = x.session;
  reached = x.reached;
  writes = subst (λ (t : List ℕ). Broke a c t) (append-nil (answer_line x.answer)) (Broke-after a b c (answer_line x.answer) [] x.writes f);
  is_refusal = tt;
}

no_front : (front rest : List ℕ) → [] ≡ front ++ rest → front ≡ []
no_front [] rest e = refl
no_front (b ∷ bs) rest e = absurd cc

AppendsBeyond-whole : (a b c : Option (List ℕ)) (whole text : List ℕ) → Appends a b (whole ++ text) → AppendsPrefix b c [] → AppendsBeyond a c whole text
AppendsBeyond-whole None b c whole text p q = tt
AppendsBeyond-whole (Some x) None c whole text p q = absurd p
AppendsBeyond-whole (Some x) (Some y) None whole text p q = tt
AppendsBeyond-whole (Some x) (Some y) (Some z) whole text p q =
    (text, ([], sym (append-nil text)), q.2 ∙ ap (λ (t : List ℕ). y ++ t) (no_front q.0 q.1.0 q.1.1) ∙ append-nil y ∙ p)

-- the last text was taken whole, as a front of itself
BrokeBeyond-whole : (a b c : Told) (whole text : List ℕ) → Wrote a b (whole ++ text) → Broke b c [] → BrokeBeyond a c whole text
BrokeBeyond-whole a b c whole text p q = record {
  taken = AppendsBeyond-whole a.taken b.taken c.taken whole text p.taken q.front;
  stays = (Broke-after a b c (whole ++ text) [] p q).stays;
  rises = omega (arith, p.calm, q.rises);
  failed = λ h. omega (arith, p.calm, q.failed (omega (arith, p.calm, h)));
}

record LastAnswer (answers : List Answer) : Type 0 where
  before : List Answer
  last : Answer
  are : answers ≡ before ++ last ∷ []

last_of : (a : Answer) (xs : List Answer) → LastAnswer (a ∷ xs)
last_of a [] = record { before = []; last = a; are = refl }
last_of a (b ∷ bs) =
    let r = last_of b bs in
    record { before = a ∷ r.before; last = r.last; are = ap (λ (x : List Answer). a ∷ x) r.are }

-- where a line was obeyed there is a last answer
last_answer : (s q : SessionState) (l : List ℕ) (ls : List (List ℕ)) (xs : List Answer) → SaysAll s (l ∷ ls) xs q → LastAnswer xs
last_answer s q l ls [] r = absurd r
last_answer s q l ls (a ∷ xs) r = last_of a xs

-- the last line that is obeyed, and those around it
record LastLine (lines : List (List ℕ)) : Type 0 where
  before : List (List ℕ)
  last : List ℕ
  later : List (List ℕ)
  are : lines ≡ before ++ last ∷ later
  obeyed : up_to_quit lines ≡ before ++ last ∷ []
  no_quit : has_quit before ≡ false

last_obeyed : (l : List ℕ) (ls : List (List ℕ)) → LastLine (l ∷ ls)
last_obeyed l [] = record { before = []; last = l; later = []; are = refl; obeyed = up_to-last (is_quit l) l [] refl; no_quit = refl }
last_obeyed l (k ∷ ks) = go (is_quit l) refl (last_obeyed k ks)
  where
    go : (t : Bool) → is_quit l ≡ t → LastLine (k ∷ ks) → LastLine (l ∷ k ∷ ks)
    go true e r = record { before = []; last = l; later = k ∷ ks; are = refl; obeyed = rw e refl; no_quit = refl }
    go false e r = record {
      before = l ∷ r.before;
      last = r.last;
      later = r.later;
      are = ap (λ (x : List (List ℕ)). l ∷ x) r.are;
      obeyed = rw e (ap (λ (x : List (List ℕ)). l ∷ x) r.obeyed);
      no_quit = rw (e, r.no_quit) refl;
    }

flush_breaks : (s q : SessionState) (old a b : Told) (ls : List (List ℕ)) (xs : List Answer) → ls ≢ [] → IsTranscript s ls xs q → Wrote old a (lines_text xs) → Broke a b [] → BreaksInLine s old ls q b
flush_breaks s q old a b [] xs some r w f = absurd (some refl)
flush_breaks s q old a b (l ∷ ls) xs some r w f =
    let o = last_obeyed l ls in
    let x = last_answer s q l (if is_quit l then [] else up_to_quit ls) xs r in
    let obeyed : SaysAll s (o.before ++ o.last ∷ []) xs q = subst (λ (ks : List (List ℕ)). SaysAll s ks xs q) o.obeyed r in
    let wrote : Wrote old a (lines_text x.before ++ answer_line x.last) = subst (λ (t : List ℕ). Wrote old a t) (ap lines_text x.are ∙ text-push x.before x.last) w in
    record {
      before = o.before;
      last = o.last;
      later = o.later;
      are = o.are;
      answers = x.before;
      answer = x.last;
      runs = subst (λ (us : List Answer). SaysAll s (o.before ++ o.last ∷ []) us q) x.are obeyed;
      no_quit = o.no_quit;
      broke = BrokeBeyond-whole old a b (lines_text x.before) (answer_line x.last) wrote f;
    }

-- ---- a line was obeyed: one that quits, or the bytes have a newline

some_quits : (ls : List (List ℕ)) → has_quit ls ≡ true → ls ≢ []
some_quits [] h = absurd cc
some_quits (l ∷ ls) h = λ (e : l ∷ ls ≡ []). absurd cc

pub quit_unflushed : (s q : SessionState) (old a b : Told) (given : List ℕ) (held : Pending) → HasQuit s old given q a held → Broke a b [] → HasBroken s old given q b
quit_unflushed s q old a b given held w f = record {
  cut = w.cut;
  is_cut = w.is_cut;
  breaks = flush_breaks s q old a b w.cut.complete w.answers (some_quits w.cut.complete w.quits) w.transcript w.wrote f;
}

no_newline : (bs : List ℕ) → HasNoNewline bs → has_newline bs ≡ true → ⊥
no_newline [] p h = absurd cc
no_newline (b ∷ bs) p h = go (b == 10) refl h (no_newline bs p.1)
  where
    go : (t : Bool) → (b == 10) ≡ t → (t || has_newline bs) ≡ true → (has_newline bs ≡ true → ⊥) → ⊥
    go true e h more = p.0 (is_newline b e)
    go false e h more = more h

or_true : (b : Bool) → (b || true) ≡ true
or_true true = refl
or_true false = refl

some_line : (given bytes : List ℕ) (c : Cut) → IsCut (given ++ bytes) c → has_newline bytes ≡ true → c.complete ≢ []
some_line given bytes c p h = λ (e : c.complete ≡ []).
    let rest : c.rest ≡ given ++ bytes = sym (ap (λ (ls : List (List ℕ)). joined ls ++ c.rest) e) ∙ p.whole in
    let has : has_newline (given ++ bytes) ≡ true = list_any-append (λ b. b == 10) given bytes ∙ ap (λ (t : Bool). has_newline given || t) h ∙ or_true (has_newline given) in
    no_newline (given ++ bytes) (subst HasNoNewline rest p.rest) has

pub so_far_unflushed : (s q : SessionState) (old a b : Told) (given bytes : List ℕ) (held : Pending) → SoFar s old (given ++ bytes) q a held → has_newline bytes ≡ true → Broke a b []
    → HasBroken s old (given ++ bytes) q b
so_far_unflushed s q old a b given bytes held w h f =
    let runs = subst (λ (ls : List (List ℕ)). SaysAll s ls w.answers q) (sym (up_to_quit-none w.cut.complete w.no_quit)) w.runs in
    record {
      cut = w.cut;
      is_cut = w.is_cut;
      breaks = flush_breaks s q old a b w.cut.complete w.answers (some_line given bytes w.cut w.is_cut h) runs w.wrote f;
    }
