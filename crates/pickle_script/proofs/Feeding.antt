-- A conversation, line by line and byte by byte.
use Rattle.std.proofs.Common.{◌≡◌, ◌≢◌, ℕ, ◌+◌, ◌<◌, ◌≤◌, Bool, true, false, ◌||◌, cond, List, [], ◌∷◌, ◌++◌, length, take, drop, get_or, Option, Some, None, Result, Ok, Err, refl, sym, ap, subst, ◌∙◌, append_assoc, append-nil, length-append, add-one, inl, inr, arith}
use Rattle.std.specs.Prelude.{nat_le, nat_lt, if◌then◌else◌}
use Rattle.std.specs.List.{concat, list_any}
use Rattle.std.specs.Io.KnownBytes.{Appends}
use Rattle.pickle_io.proofs.Devices.{Wrote-trans, Broke-after}
use Rattle.std.proofs.lemmas.Bool.{cases_lt}
use Rattle.std.proofs.lemmas.List.{take_all, take_more, take-append-drop, take-append-le, length-take-le}
use Rattle.std.proofs.lemmas.List.Folds.{concat-append, list_any-append}
use Rattle.pickle_io.specs.Device.{Told, AppendsPrefix, Wrote, Broke}
use Rattle.pickle_io.specs.declared.sink.Failed.{Failed}
use Rattle.pickle_session.specs.Allowed.{SessionState}
use Rattle.pickle_script.specs.declared.conversation.line.Line.{Line}
use Rattle.pickle_script.specs.declared.conversation.line.Line.TheVariants as line
use Rattle.pickle_script.specs.declared.conversation.line.Syntax.{Syntax}
use Rattle.pickle_script.specs.declared.conversation.line.Syntax.TheVariants as syntax
use Rattle.pickle_script.specs.Grammar.{AnswersWords, longest, words_of, words_say, line_says}
use Rattle.pickle_script.specs.Transcript.{PrintsBy, IsRead, Prints, PrintsAll, quits, is_quit, has_quit, up_to_quit, is_refusal}
use Rattle.pickle_script.specs.Conversation.{AppendsBeyond, BrokeBeyond}
use Rattle.pickle_script.specs.declared.conversation.outcome.Outcome.{Outcome}
use Rattle.pickle_script.specs.declared.conversation.outcome.Flow.{Flow}
use Rattle.pickle_script.specs.declared.conversation.outcome.Flow.TheVariants as flow
use Rattle.pickle_script.specs.Inside.Progress.{was_refused, Pending, line_start, longer, WritesLine, SoFar, HasQuit, BreaksInLine, HasBroken, Fed}
use Rattle.pickle_script.proofs.Cuts.{after, ended, lengthened, IsCut-more, IsCut-newline, IsCut-byte, some_cut}

-- ---- what is held of a line

-- for any bound in the place of the greatest length of a line
cut_short : (n : ℕ) (line : List ℕ) → length line ≤ n → take (n + 1) line ≡ line
cut_short n line h = take_all (n + 1) line (omega (arith, h))

cut_long : (n : ℕ) (line : List ℕ) → n < length line → length (take (n + 1) line) ≡ n + 1
cut_long n line h = length-take-le (n + 1) line (omega (arith, h))

one_longer : (n : ℕ) (line : List ℕ) (b : ℕ) → (if nat_le (length (take (n + 1) line)) n then take (n + 1) line ++ b ∷ [] else take (n + 1) line) ≡ take (n + 1) (line ++ b ∷ [])
one_longer n line b = elim (cases_lt n (length line)) [
  | inl long ↦
      let full : nat_le (length (take (n + 1) line)) n ≡ false = grind (arith, cut_long n line long) in
      rw full (sym (take-append-le (n + 1) line (b ∷ []) (omega (arith, long))))
  | inr fits ↦
      let room : nat_le (length line) n ≡ true = grind (arith, fits) in
      rw (cut_short n line fits, room) (sym (take_all (n + 1) (line ++ b ∷ []) (omega (arith, length-append line (b ∷ []), fits))))
]

pub longer-shortened : (line : List ℕ) (b : ℕ) → longer (line_start line) b ≡ line_start (line ++ b ∷ [])
unfolding line_start longer
longer-shortened line b = one_longer longest line b

-- a line says the same, also where it is cut
says : (n : ℕ) (line : List ℕ) (r : Result Line Syntax) (by : List ℕ → Result Line Syntax)
    → (if nat_lt n (length (take (n + 1) line)) then r else by (take (n + 1) line)) ≡ (if nat_lt n (length line) then r else by line)
says n line r by = elim (cases_lt n (length line)) [
  | inl long ↦
      let cut : nat_lt n (length (take (n + 1) line)) ≡ true = grind (arith, cut_long n line long) in
      let whole : nat_lt n (length line) ≡ true = grind (arith, long) in
      rw (cut, whole) refl
  | inr fits ↦ rw (cut_short n line fits) refl
]

pub line_says-shortened : (line : List ℕ) → line_says (line_start line) ≡ line_says line
unfolding line_says line_start
line_says-shortened line = says longest line (Err syntax.LineTooLong) (λ bytes. words_say (words_of bytes))

shortened_nothing : (n : ℕ) (line : List ℕ) → take (n + 1) line ≡ [] → line ≡ []
shortened_nothing n [] h = refl
shortened_nothing n (b ∷ line) h = let e = rw (add-one n) at h in absurd cc

pub shortened-nil : (line : List ℕ) → line_start line ≡ [] → line ≡ []
unfolding line_start
shortened-nil line h = shortened_nothing longest line h

pub nil-shortened : line_start [] ≡ []
unfolding line_start
nil-shortened = refl

-- ---- one line more

pub Runs-push : (s m t : SessionState) (ls ts : List (List ℕ)) (l x : List ℕ) → PrintsAll s ls ts m → Prints m l x t → PrintsAll s (ls ++ l ∷ []) (ts ++ x ∷ []) t
Runs-push s m t [] [] l x r g = (t, subst (λ (y : SessionState). Prints y l x t) r g, refl)
Runs-push s m t (k ∷ ls) (u ∷ ts) l x r g = (r.0, r.1, Runs-push r.0 m t ls ts l x r.2 g)
Runs-push s m t [] (u ∷ ts) l x r g = absurd r
Runs-push s m t (k ∷ ls) [] l x r g = absurd r

pub concat-push : (ts : List (List ℕ)) (t : List ℕ) → concat (ts ++ t ∷ []) ≡ concat ts ++ t
concat-push ts t = concat-append ts (t ∷ []) ∙ ap (λ (x : List ℕ). concat ts ++ x) (append-nil t)

or_false : (b : Bool) → (b || false) ≡ b
or_false true = refl
or_false false = refl

pub any-push : (test : List ℕ → Bool) (ts : List (List ℕ)) (t : List ℕ) → list_any test (ts ++ t ∷ []) ≡ (list_any test ts || test t)
any-push test ts t = list_any-append test ts (t ∷ []) ∙ ap (λ (b : Bool). list_any test ts || b) (or_false (test t))

no_quit-push : (ls : List (List ℕ)) (l : List ℕ) → has_quit ls ≡ false → is_quit l ≡ false → has_quit (ls ++ l ∷ []) ≡ false
no_quit-push ls l p q = any-push is_quit ls l ∙ rw (p, q) refl

pub Wrote-push : (a b c : Told) (ts : List (List ℕ)) (t : List ℕ) → Wrote a b (concat ts) → Wrote b c t → Wrote a c (concat (ts ++ t ∷ []))
Wrote-push a b c ts t p q = rw (concat-push ts t) (Wrote-trans a b c (concat ts) t p q)

AppendsBeyond-front : (a b c : Option (List ℕ)) (whole next : List ℕ) → Appends a b whole → AppendsPrefix b c next → AppendsBeyond a c whole next
AppendsBeyond-front None b c whole next p q = tt
AppendsBeyond-front (Some x) None c whole next p q = absurd p
AppendsBeyond-front (Some x) (Some y) None whole next p q = tt
AppendsBeyond-front (Some x) (Some y) (Some z) whole next p q = (q.0, q.1, q.2 ∙ ap (λ (t : List ℕ). t ++ q.0) p ∙ append_assoc x whole q.0)

BrokeBeyond-front : (a b c : Told) (whole next : List ℕ) → Wrote a b whole → Broke b c next → BrokeBeyond a c whole next
BrokeBeyond-front a b c whole next p q = record {
  taken = AppendsBeyond-front a.taken b.taken c.taken whole next p.taken q.front;
  stays = (Broke-after a b c whole next p q).stays;
  rises = omega (arith, p.calm, q.rises);
  failed = λ h. omega (arith, p.calm, q.failed (omega (arith, p.calm, h)));
}

-- ---- lines up to one that quits

record Neither (a b : Bool) : Type 0 where
  first : a ≡ false
  second : b ≡ false

neither : (a b : Bool) → (a || b) ≡ false → Neither a b
neither true b h = absurd cc
neither false b h = record { first = refl; second = h }

pub up_to-last : (quit : Bool) (l : List ℕ) (more : List (List ℕ)) → more ≡ [] → l ∷ (cond quit [] more) ≡ l ∷ []
up_to-last true l more e = refl
up_to-last false l more e = rw e refl

-- the last line is obeyed where none before it quits
pub up_to_quit-last : (ls : List (List ℕ)) (l : List ℕ) → has_quit ls ≡ false → up_to_quit (ls ++ l ∷ []) ≡ ls ++ l ∷ []
up_to_quit-last [] l h = up_to-last (is_quit l) l [] refl
up_to_quit-last (k ∷ ls) l h =
    let n = neither (is_quit k) (has_quit ls) h in
    rw n.first (ap (λ (t : List (List ℕ)). k ∷ t) (up_to_quit-last ls l n.second))

pub up_to_quit-none : (ls : List (List ℕ)) → has_quit ls ≡ false → up_to_quit ls ≡ ls
up_to_quit-none [] h = refl
up_to_quit-none (k ∷ ls) h =
    let n = neither (is_quit k) (has_quit ls) h in
    rw n.first (ap (λ (t : List (List ℕ)). k ∷ t) (up_to_quit-none ls n.second))

-- after a line that quits nothing is obeyed
pub up_to_quit-more : (ls ms : List (List ℕ)) → has_quit ls ≡ true → up_to_quit (ls ++ ms) ≡ up_to_quit ls
up_to_quit-more [] ms h = absurd cc
up_to_quit-more (k ∷ ls) ms h = go (is_quit k) h (λ q. up_to_quit-more ls ms q)
  where
    go : (t : Bool) → (t || has_quit ls) ≡ true → (has_quit ls ≡ true → up_to_quit (ls ++ ms) ≡ up_to_quit ls) → k ∷ (cond t [] (up_to_quit (ls ++ ms))) ≡ k ∷ (cond t [] (up_to_quit ls))
    go true h more = refl
    go false h more = ap (λ (t : List (List ℕ)). k ∷ t) (more h)

-- ---- a line ends

abbrev pub pend : List ℕ → Bool → Pending
pend line refused = record { line = line; refused = refused }

same_pending : (l m : List ℕ) (b c : Bool) → l ≡ m → b ≡ c → pend l b ≡ pend m c
same_pending l m b c e f = ap (λ (x : List ℕ). pend x b) e ∙ ap (λ (x : Bool). pend m x) f

-- the line is read as what is held of it
read_so : (s q : SessionState) (old a : Told) (given : List ℕ) (held : Pending) (says : Result Line Syntax)
    → (w : SoFar s old given q a held) → IsRead held.line says → IsRead w.cut.rest says
read_so s q old a given held says w e =
    let same : line_says held.line ≡ line_says w.cut.rest = ap (λ (x : Pending). line_says x.line) w.holds ∙ line_says-shortened w.cut.rest in
    subst (λ (x : Result Line Syntax). AnswersWords x says) same e

-- no other answer to a line quits, and none to a line that quits does not
same_quits : (said says : Result Line Syntax) → AnswersWords said says → quits said ≡ quits says
same_quits (Err f) says e = ap quits (sym e)
same_quits (Ok l) (Ok m) e = ap (λ (k : Line). quits (Ok k)) (sym e.0)
same_quits (Ok line.Nothing) (Err f) e = refl
same_quits (Ok (line.Command c)) (Err f) e = refl
same_quits (Ok (line.At p a)) (Err f) e = refl
same_quits (Ok (line.Query x)) (Err f) e = refl
same_quits (Ok line.Quit) (Err f) e = absurd e

quits_so : (s q : SessionState) (old a : Told) (given : List ℕ) (held : Pending) (says : Result Line Syntax)
    → (w : SoFar s old given q a held) → IsRead held.line says → is_quit w.cut.rest ≡ quits says
quits_so s q old a given held says w e = same_quits (line_says w.cut.rest) says (read_so s q old a given held says w e)

-- the line that was not ended gives this text
pub gives_so : (s q r : SessionState) (old a : Told) (given : List ℕ) (held : Pending) (says : Result Line Syntax) (text : List ℕ)
    → (w : SoFar s old given q a held) → IsRead held.line says → PrintsBy says q text r → Prints q w.cut.rest text r
gives_so s q r old a given held says text w e g = record { says = says; is_read = read_so s q old a given held says w e; prints = g }

pub refused_so : (s q : SessionState) (old a : Told) (given : List ℕ) (held : Pending) (this : Outcome) (text : List ℕ)
    → (w : SoFar s old given q a held) → was_refused this ≡ is_refusal text → (held.refused || was_refused this) ≡ list_any is_refusal (w.texts ++ text ∷ [])
refused_so s q old a given held this text w e =
    ap (λ (x : Pending). x.refused || was_refused this) w.holds ∙ ap (λ (x : Bool). list_any is_refusal w.texts || x) e ∙ sym (any-push is_refusal w.texts text)

pub line_ends : (s q r : SessionState) (old a b : Told) (given : List ℕ) (held next : Pending) (says : Result Line Syntax) (this : Outcome)
    → SoFar s old given q a held → IsRead held.line says → quits says ≡ false → WritesLine says q r a b (Ok this) → next ≡ pend [] (held.refused || was_refused this)
    → SoFar s old (given ++ 10 ∷ []) r b next
line_ends s q r old a b given held next says this w e n x is = record {
  cut = ended w.cut;
  is_cut = IsCut-newline given w.cut w.is_cut;
  texts = w.texts ++ x.text ∷ [];
  runs = Runs-push s q r w.cut.complete w.texts w.cut.rest x.text w.runs (gives_so s q r old a given held says x.text w e x.prints);
  no_quit = no_quit-push w.cut.complete w.cut.rest w.no_quit (quits_so s q old a given held says w e ∙ n);
  wrote = Wrote-push old a b w.texts x.text w.wrote x.writes;
  holds = is ∙ same_pending [] (line_start []) (held.refused || was_refused this) (list_any is_refusal (w.texts ++ x.text ∷ [])) (sym nil-shortened) (refused_so s q old a given held this x.text w x.refuses);
}

quit_gives : (says : Result Line Syntax) (q : SessionState) → quits says ≡ true → PrintsBy says q [] q
quit_gives (Ok line.Quit) q h = record { text_is = refl; unchanged = refl }
quit_gives (Ok line.Nothing) q h = absurd cc
quit_gives (Ok (line.Command c)) q h = absurd cc
quit_gives (Ok (line.At p a)) q h = absurd cc
quit_gives (Ok (line.Query x)) q h = absurd cc
quit_gives (Err f) q h = absurd cc

pub line_quits : (s q : SessionState) (old a : Told) (given : List ℕ) (held : Pending) (says : Result Line Syntax)
    → SoFar s old given q a held → IsRead held.line says → quits says ≡ true → HasQuit s old (given ++ 10 ∷ []) q a held
line_quits s q old a given held says w e h =
    let g = gives_so s q q old a given held says [] w e (quit_gives says q h) in
    let quit : is_quit w.cut.rest ≡ true = quits_so s q old a given held says w e ∙ h in
    let runs = Runs-push s q q w.cut.complete w.texts w.cut.rest [] w.runs g in
    record {
      cut = ended w.cut;
      is_cut = IsCut-newline given w.cut w.is_cut;
      texts = w.texts ++ [] ∷ [];
      transcript = subst (λ (ls : List (List ℕ)). PrintsAll s ls (w.texts ++ [] ∷ []) q) (sym (up_to_quit-last w.cut.complete w.cut.rest w.no_quit)) runs;
      quits = any-push is_quit w.cut.complete w.cut.rest ∙ rw (w.no_quit, quit) refl;
      wrote = rw (concat-push w.texts [] ∙ append-nil (concat w.texts)) w.wrote;
      refused = ap (λ (x : Pending). x.refused) w.holds ∙ sym (any-push is_refusal w.texts [] ∙ or_false (list_any is_refusal w.texts));
    }

-- the sink fails in the text of the line that was not ended
pub last_breaks : (s q r : SessionState) (old a b : Told) (given : List ℕ) (held : Pending) (says : Result Line Syntax) (e : Failed)
    → (w : SoFar s old given q a held) → IsRead held.line says → WritesLine says q r a b (Err e) → BreaksInLine s old (w.cut.complete ++ w.cut.rest ∷ []) r b
last_breaks s q r old a b given held says e w is x = record {
  before = w.cut.complete;
  last = w.cut.rest;
  later = [];
  are = refl;
  texts = w.texts;
  text = x.text;
  runs = Runs-push s q r w.cut.complete w.texts w.cut.rest x.text w.runs (gives_so s q r old a given held says x.text w is x.prints);
  no_quit = w.no_quit;
  broke = BrokeBeyond-front old a b (concat w.texts) x.text w.wrote x.writes;
}

pub line_breaks : (s q r : SessionState) (old a b : Told) (given : List ℕ) (held : Pending) (says : Result Line Syntax) (e : Failed)
    → SoFar s old given q a held → IsRead held.line says → WritesLine says q r a b (Err e) → HasBroken s old (given ++ 10 ∷ []) r b
line_breaks s q r old a b given held says e w is x = record {
  cut = ended w.cut;
  is_cut = IsCut-newline given w.cut w.is_cut;
  breaks = last_breaks s q r old a b given held says e w is x;
}

-- a byte that ends no line
pub byte_goes_on : (s q : SessionState) (old a : Told) (given : List ℕ) (held next : Pending) (b : ℕ) → b ≢ 10 → SoFar s old given q a held
    → next ≡ record held { line = longer held.line b } → SoFar s old (given ++ b ∷ []) q a next
byte_goes_on s q old a given held next b n w is = record {
  cut = lengthened w.cut b;
  is_cut = IsCut-byte given w.cut b n w.is_cut;
  texts = w.texts;
  runs = w.runs;
  no_quit = w.no_quit;
  wrote = w.wrote;
  holds = is ∙ ap (λ (x : Pending). pend (longer x.line b) x.refused) w.holds ∙ ap (λ (l : List ℕ). pend l (list_any is_refusal w.texts)) (longer-shortened w.cut.rest b);
}

-- ---- more bytes after these

pub Breaks-more : (s r : SessionState) (old b : Told) (ls ms : List (List ℕ)) → BreaksInLine s old ls r b → BreaksInLine s old (ls ++ ms) r b
Breaks-more s r old b ls ms w = record {
  before = w.before;
  last = w.last;
  later = w.later ++ ms;
  are = ap (λ (t : List (List ℕ)). t ++ ms) w.are ∙ append_assoc w.before (w.last ∷ w.later) ms;
  texts = w.texts;
  text = w.text;
  runs = w.runs;
  no_quit = w.no_quit;
  broke = w.broke;
}

HasBroken-more : (s r : SessionState) (old b : Told) (given more : List ℕ) → HasBroken s old given r b → HasBroken s old (given ++ more) r b
HasBroken-more s r old b given more w =
    let c = some_cut (w.cut.rest ++ more) in
    record {
      cut = after w.cut c.cut;
      is_cut = IsCut-more given more w.cut c.cut w.is_cut c.is_cut;
      breaks = Breaks-more s r old b w.cut.complete c.cut.complete w.breaks;
    }

any-more : (test : List ℕ → Bool) (ls ms : List (List ℕ)) → list_any test ls ≡ true → list_any test (ls ++ ms) ≡ true
any-more test ls ms h = list_any-append test ls ms ∙ rw h refl

HasQuit-more : (s r : SessionState) (old b : Told) (given more : List ℕ) (held : Pending) → HasQuit s old given r b held → HasQuit s old (given ++ more) r b held
HasQuit-more s r old b given more held w =
    let c = some_cut (w.cut.rest ++ more) in
    record {
      cut = after w.cut c.cut;
      is_cut = IsCut-more given more w.cut c.cut w.is_cut c.is_cut;
      texts = w.texts;
      transcript = subst (λ (ls : List (List ℕ)). PrintsAll s ls w.texts r) (sym (up_to_quit-more w.cut.complete c.cut.complete w.quits)) w.transcript;
      quits = any-more is_quit w.cut.complete c.cut.complete w.quits;
      wrote = w.wrote;
      refused = w.refused;
    }

-- ---- byte by byte

-- what was fed up to a byte, and the byte
pub one_byte : (given bytes : List ℕ) (i b : ℕ) → i < length bytes → get_or bytes i 0 ≡ b → (given ++ take i bytes) ++ b ∷ [] ≡ given ++ take (i + 1) bytes
one_byte given bytes i b h e =
    let next : take (i + 1) bytes ≡ take i bytes ++ b ∷ [] = take_more bytes i 0 h ∙ ap (λ (x : ℕ). take i bytes ++ x ∷ []) e in
    append_assoc given (take i bytes) (b ∷ []) ∙ ap (λ (t : List ℕ). given ++ t) (sym next)

-- and the bytes after it
pub split_byte : (given bytes : List ℕ) (i b : ℕ) → i < length bytes → get_or bytes i 0 ≡ b → ((given ++ take i bytes) ++ b ∷ []) ++ drop (i + 1) bytes ≡ given ++ bytes
split_byte given bytes i b h e =
    ap (λ (t : List ℕ). t ++ drop (i + 1) bytes) (one_byte given bytes i b h e)
    ∙ append_assoc given (take (i + 1) bytes) (drop (i + 1) bytes)
    ∙ ap (λ (t : List ℕ). given ++ t) (take-append-drop (i + 1) bytes)

pub fed_on : (s r : SessionState) (old b : Told) (given whole : List ℕ) (held : Pending) (x : Result Flow Failed)
    → Fed s old given r b held x → x ≡ Ok flow.GoesOn → given ≡ whole → SoFar s old whole r b held
fed_on s r old b given whole held (Ok flow.GoesOn) f h e = subst (λ (t : List ℕ). SoFar s old t r b held) e f
fed_on s r old b given whole held (Ok flow.Quits) f h e = absurd cc
fed_on s r old b given whole held (Err y) f h e = absurd cc

pub fed_quit : (s r : SessionState) (old b : Told) (given more whole : List ℕ) (held : Pending) (x : Result Flow Failed)
    → Fed s old given r b held x → x ≡ Ok flow.Quits → given ++ more ≡ whole → HasQuit s old whole r b held
fed_quit s r old b given more whole held (Ok flow.Quits) f h e = subst (λ (t : List ℕ). HasQuit s old t r b held) e (HasQuit-more s r old b given more held f)
fed_quit s r old b given more whole held (Ok flow.GoesOn) f h e = absurd cc
fed_quit s r old b given more whole held (Err y) f h e = absurd cc

pub fed_broken : (s r : SessionState) (old b : Told) (given more whole : List ℕ) (held : Pending) (x : Result Flow Failed) (y : Failed)
    → Fed s old given r b held x → x ≡ Err y → given ++ more ≡ whole → HasBroken s old whole r b
fed_broken s r old b given more whole held (Err z) y f h e = subst (λ (t : List ℕ). HasBroken s old t r b) e (HasBroken-more s r old b given more f)
fed_broken s r old b given more whole held (Ok z) y f h e = absurd cc
