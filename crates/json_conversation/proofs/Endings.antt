-- How a conversation in JSON ends.
use Rattle.std.proofs.Common.{◌≡◌, ◌≢◌, ℕ, Bool, false, ◌||◌, if◌then◌else◌, List, [], ◌∷◌, ◌++◌, length, ◌≤◌, take, arith, Option, Some, None, Result, Ok, Err, refl, sym, ap, subst, ◌∙◌, append-nil, inl, inr}
use Rattle.std.specs.Io.KnownBytes.{Consumes, IsAtEnd}
use Rattle.std.proofs.KnownBytes.{Consumes-nil}
use Rattle.std.proofs.lemmas.List.{length-take-le}
use Rattle.pickle_io.specs.declared.sink.Failed.{Failed}
use Rattle.pickle_io.specs.Device.{Told, KeepsOrForgets, Broke}
use Rattle.pickle_io.proofs.Devices.{Wrote-none}
use Rattle.pickle_session.specs.Allowed.{SessionState}
use Rattle.pickle_script.specs.declared.conversation.line.Syntax.{Syntax}
use Rattle.pickle_script.specs.Script.{last_line, lines_of}
use Rattle.pickle_script.specs.Transcript.{up_to_quit}
use Rattle.pickle_script.specs.Conversation.{Gave, most_at_once}
use Rattle.pickle_script.specs.Inside.Progress.{Pending, line_start}
use Rattle.pickle_script.proofs.Cuts.{nothing, IsCut-none}
use Rattle.pickle_script.proofs.Feeding.{pend, shortened-nil, nil-shortened, up_to_quit-none, up_to_quit-last, up_to_quit-more}
use Rattle.debug_json.specs.declared.asked.Asked.{Asked}
use Rattle.debug_json.specs.Asked.{IsAsked}
use Rattle.debug_json.specs.Answered.{AnswersSaying}
use Rattle.json_conversation.specs.Transcript.{SaysAll}
use Rattle.json_conversation.specs.Conversation.{Finishes, StopsReading, BrokeSince, StopsWriting}
use Rattle.json_conversation.specs.Inside.Progress.{SoFar, HasQuit, BreaksInLine, HasBroken, IsComplete, IsBroken}
use Rattle.json_conversation.proofs.Feeding.{Runs-push, Wrote-push, gives_so, refused_so, last_breaks}

abbrev status : Bool → ℕ
status refused = if refused then 1 else 0

last_line-some : (l : List ℕ) → l ≢ [] → last_line l ≡ l ∷ []
last_line-some [] h = absurd (h refl)
last_line-some (b ∷ bs) h = refl

rest_nil : (s q : SessionState) (old new : Told) (given : List ℕ) (held : Pending) → (w : SoFar s old given q new held) → held.line ≡ [] → w.cut.rest ≡ []
rest_nil s q old new given held w e = shortened-nil w.cut.rest (sym (ap (λ (x : Pending). x.line) w.holds) ∙ e)

rest_some : (s q : SessionState) (old new : Told) (given : List ℕ) (held : Pending) → (w : SoFar s old given q new held) → held.line ≢ [] → lines_of w.cut ≡ w.cut.complete ++ w.cut.rest ∷ []
rest_some s q old new given held w n =
    let line : held.line ≡ line_start w.cut.rest = ap (λ (x : Pending). x.line) w.holds in
    let some : w.cut.rest ≢ [] = λ (x : w.cut.rest ≡ []). n (line ∙ ap line_start x ∙ nil-shortened) in
    ap (λ (ls : List (List ℕ)). w.cut.complete ++ ls) (last_line-some w.cut.rest some)

-- ---- the source has ended

-- no line has begun
pub ends_at_line : (s q : SessionState) (old new : Told) (given : List ℕ) (held : Pending) (answer : ℕ)
    → SoFar s old given q new held → held.line ≡ [] → answer ≡ status held.refused → IsComplete s old given q new answer
ends_at_line s q old new given held answer w n e =
    let all : lines_of w.cut ≡ w.cut.complete = ap (λ (l : List ℕ). w.cut.complete ++ last_line l) (rest_nil s q old new given held w n) ∙ append-nil w.cut.complete in
    let obeyed : w.cut.complete ≡ up_to_quit (lines_of w.cut) = sym (ap up_to_quit all ∙ up_to_quit-none w.cut.complete w.no_quit) in
    record {
      cut = w.cut;
      is_cut = w.is_cut;
      answers = w.answers;
      transcript = subst (λ (ls : List (List ℕ)). SaysAll s ls w.answers q) obeyed w.runs;
      wrote = w.wrote;
      status_is = e ∙ ap (λ (x : Pending). status x.refused) w.holds;
    }

-- the last line has no newline
pub ends_after_last : (s q r : SessionState) (old a b : Told) (given : List ℕ) (held next : Pending) (says : Result Asked Syntax) (this : Bool) (answer : ℕ)
    → SoFar s old given q a held → held.line ≢ [] → IsAsked held.line says → AnswersSaying says q r a b (Ok this) → next ≡ pend [] (held.refused || this) → answer ≡ status next.refused
    → IsComplete s old given r b answer
ends_after_last s q r old a b given held next says this answer w n e x is st =
    let all = rest_some s q old a given held w n in
    let obeyed : w.cut.complete ++ w.cut.rest ∷ [] ≡ up_to_quit (lines_of w.cut) = sym (ap up_to_quit all ∙ up_to_quit-last w.cut.complete w.cut.rest w.no_quit) in
    let runs = Runs-push s q r w.cut.complete w.answers w.cut.rest x.answer w.runs (gives_so s q r old a b given held says (Ok this) w e x) in
    record {
      cut = w.cut;
      is_cut = w.is_cut;
      answers = w.answers ++ x.answer ∷ [];
      transcript = subst (λ (ls : List (List ℕ)). SaysAll s ls (w.answers ++ x.answer ∷ []) r) obeyed runs;
      wrote = Wrote-push old a b w.answers x.answer w.wrote x.writes;
      status_is = st ∙ ap (λ (y : Pending). status y.refused) is ∙ ap status (refused_so s q r old a b given held says this w x);
    }

pub breaks_in_last : (s q r : SessionState) (old a b : Told) (given : List ℕ) (held : Pending) (says : Result Asked Syntax) (e : Failed)
    → SoFar s old given q a held → held.line ≢ [] → IsAsked held.line says → AnswersSaying says q r a b (Err e) → IsBroken s old given r b
breaks_in_last s q r old a b given held says e w n is x = record {
  cut = w.cut;
  is_cut = w.is_cut;
  breaks = subst (λ (ls : List (List ℕ)). BreaksInLine s old ls r b) (sym (rest_some s q old a given held w n)) (last_breaks s q r old a b given held says e w is x);
}

-- ---- the blocks of a source

-- how far a conversation has come with what the source gave
pub record Moment (s : SessionState) (source source' : Option (List ℕ)) (sink : Told) (q : SessionState) (sink' : Told) (held : Pending) : Type 0 where
  pub given : List ℕ
  pub gave : Consumes source source' given
  pub so_far : SoFar s sink given q sink' held

pub nothing_yet : (s : SessionState) (a : Option (List ℕ)) (b : Told) (held : Pending) → held ≡ pend [] false → Moment s a a b s b held
nothing_yet s a b held e = record {
  given = [];
  gave = Consumes-nil a;
  so_far = record {
    cut = nothing;
    is_cut = IsCut-none;
    answers = [];
    runs = refl;
    no_quit = refl;
    wrote = Wrote-none b;
    holds = e ∙ ap (λ (l : List ℕ). pend l false) (sym nil-shortened);
  };
}

Gave-past : (a b c : Option (List ℕ)) (given : List ℕ) → Consumes a b given → KeepsOrForgets b c → Gave a c given
Gave-past None b c given p q = tt
Gave-past (Some x) None c given p q = absurd p
Gave-past (Some x) (Some y) None given p q = (y, p)
Gave-past (Some x) (Some y) (Some z) given p q = p ∙ ap (λ (t : List ℕ). given ++ t) (sym q)

pub stops_reading : (s q : SessionState) (a b c : Option (List ℕ)) (sink sink' : Told) (held : Pending) → Moment s a b sink q sink' held → KeepsOrForgets b c → StopsReading s q a c sink sink'
stops_reading s q a b c sink sink' held m k =
    let w = m.so_far in
    record { given = m.given; gave = Gave-past a b c m.given m.gave k; cut = w.cut; is_cut = w.is_cut; answers = w.answers; runs = w.runs; no_quit = w.no_quit; wrote = w.wrote }

pub finishes_whole : (s q : SessionState) (a b : Option (List ℕ)) (sink sink' : Told) (given : List ℕ) (answer : ℕ) → Consumes a b given → IsAtEnd b → IsComplete s sink given q sink' answer
    → Finishes s q answer a b sink sink'
finishes_whole s q a b sink sink' given answer g e w =
    record { given = given; gave = g; cut = w.cut; is_cut = w.is_cut; answers = w.answers; transcript = w.transcript; wrote = w.wrote; status_is = w.status_is; ends = inr e }

pub finishes_quit : (s q : SessionState) (a b : Option (List ℕ)) (sink sink' : Told) (given : List ℕ) (held : Pending) (answer : ℕ) → Consumes a b given → HasQuit s sink given q sink' held → answer ≡ status held.refused
    → Finishes s q answer a b sink sink'
finishes_quit s q a b sink sink' given held answer g w e = record {
  given = given;
  gave = g;
  cut = w.cut;
  is_cut = w.is_cut;
  answers = w.answers;
  transcript = subst (λ (ls : List (List ℕ)). SaysAll s ls w.answers q) (sym (up_to_quit-more w.cut.complete (last_line w.cut.rest) w.quits)) w.transcript;
  wrote = w.wrote;
  status_is = e ∙ ap status w.refused;
  ends = inl w.quits;
}

-- the sink was asked for more when it held nothing, and failed in some text after that
pub broke_since : (s q : SessionState) (old between new : Told) (given buffer : List ℕ) (n : ℕ) (held : Pending) → SoFar s old given q between held → between.held ≡ 0
    → n ≤ length buffer → length buffer ≤ most_at_once → (since : List ℕ) → Broke between new since → BrokeSince s (given ++ take n buffer) old new
broke_since s q old between new given buffer n held w none within few since k = record {
  earlier = given;
  latest = take n buffer;
  parts = refl;
  few = omega (arith, length-take-le n buffer within, few, within);
  between = between;
  asked = record { cut = w.cut; is_cut = w.is_cut; answers = w.answers; after = q; runs = w.runs; wrote = w.wrote; handed = none };
  since = since;
  broke = k;
}

-- and nothing came
pub broke_at_end : (s q : SessionState) (old between new : Told) (given : List ℕ) (held : Pending) → SoFar s old given q between held → between.held ≡ 0 → (since : List ℕ) → Broke between new since
    → BrokeSince s given old new
broke_at_end s q old between new given held w none since k = record {
  earlier = given;
  latest = [];
  parts = sym (append-nil given);
  few = omega arith;
  between = between;
  asked = record { cut = w.cut; is_cut = w.is_cut; answers = w.answers; after = q; runs = w.runs; wrote = w.wrote; handed = none };
  since = since;
  broke = k;
}

pub breaks_at_end : (s q : SessionState) (a b : Option (List ℕ)) (sink sink' : Told) (given : List ℕ) → Consumes a b given → IsAtEnd b → IsBroken s sink given q sink' → BrokeSince s given sink sink'
    → StopsWriting s q a b sink sink'
breaks_at_end s q a b sink sink' given g e w since =
    let x = w.breaks in
    record {
      given = given;
      gave = g;
      cut = w.cut;
      is_cut = w.is_cut;
      before = x.before;
      last = x.last;
      later = x.later;
      are_given = inr (e, sym x.are);
      answers = x.answers;
      answer = x.answer;
      runs = x.runs;
      no_quit = x.no_quit;
      fails = (x.broke, since);
    }

pub breaks_before : (s q : SessionState) (a b : Option (List ℕ)) (sink sink' : Told) (given : List ℕ) → Consumes a b given → HasBroken s sink given q sink' → BrokeSince s given sink sink'
    → StopsWriting s q a b sink sink'
breaks_before s q a b sink sink' given g w since =
    let x = w.breaks in
    record {
      given = given;
      gave = g;
      cut = w.cut;
      is_cut = w.is_cut;
      before = x.before;
      last = x.last;
      later = x.later;
      are_given = inl (sym x.are);
      answers = x.answers;
      answer = x.answer;
      runs = x.runs;
      no_quit = x.no_quit;
      fails = (x.broke, since);
    }
