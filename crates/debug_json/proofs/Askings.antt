-- What a line asks for: in JSON alone, or as in the texts.
use Rattle.std.proofs.Common.{◌≡◌, ℕ, ◌+◌, Bool, true, false, List, [], ◌∷◌, length, take, Option, None, Some, Result, Ok, refl, inl, inr, arith}
use Rattle.std.specs.Prelude.{codes, nat_lt, if◌then◌else◌}
use Rattle.std.specs.Str.{bytes_eq}
use Rattle.std.proofs.lemmas.Bool.{cases_lt}
use Rattle.std.proofs.lemmas.List.{take_all, length-take-le}
use Rattle.std.proofs.lemmas.Slice.Eq.{bytes_eq-Decides}
use Rattle.pickle_script.specs.declared.conversation.line.Line.{Line}
use Rattle.pickle_script.specs.declared.conversation.line.Line.TheVariants as line
use Rattle.pickle_script.specs.declared.conversation.line.Query.TheVariants as query
use Rattle.pickle_script.specs.declared.conversation.line.Syntax.{Syntax}
use Rattle.pickle_script.specs.Grammar.{words_of, longest, word_says, words_say, line_says, alone, AnswersWords}
use Rattle.pickle_script.specs.Inside.Progress.{line_start}
use Rattle.pickle_script.specs.Transcript.{quits}
use Rattle.debug_json.specs.declared.asked.Own.{Own}
use Rattle.debug_json.specs.declared.asked.Own.TheVariants as own
use Rattle.debug_json.specs.declared.asked.Asked.{Asked}
use Rattle.debug_json.specs.Asked.{at_end, items_says, objects_says, made_says, items_asked, objects_asked, word_asks, words_ask, line_asks, as_own, as_line, IsAsked}

-- ---- a range

pub no_items : (words : List (List ℕ)) → words ≡ [] → None ≡ items_asked words
no_items words e = rw e refl

pub some_items : (words more : List (List ℕ)) (w : List ℕ) (r : Result Own Syntax) → words ≡ w ∷ more → r ≡ items_says words → Some r ≡ items_asked words
some_items words more w r e is = rw (is, e) refl

pub no_objects : (words : List (List ℕ)) → words ≡ [] → None ≡ objects_asked words
no_objects words e = rw e refl

pub some_objects : (words more : List (List ℕ)) (w : List ℕ) (r : Result Own Syntax) → words ≡ w ∷ more → r ≡ objects_says words → Some r ≡ objects_asked words
some_objects words more w r e is = rw (is, e) refl

pub ruleset range_steps = (no_items, some_items, no_objects, some_objects)

-- ---- a line

pub asks_own : (bytes : List ℕ) (own : Result Own Syntax) (answer : Result Asked Syntax) → line_asks bytes ≡ Some own → answer ≡ as_own own → IsAsked bytes answer
asks_own bytes own answer e is = rw e is

pub asks_line : (bytes : List ℕ) (says : Result Line Syntax) (answer : Result Asked Syntax) → line_asks bytes ≡ None → AnswersWords (line_says bytes) says
    → answer ≡ as_line says → IsAsked bytes answer
asks_line bytes says answer e w is = rw e (says, w, is)

pub ruleset asking_steps = (asks_own, asks_line)

-- ---- none of these lines ends a script

same_bytes : (xs ys : List ℕ) → bytes_eq xs ys ≡ true → xs ≡ ys
same_bytes xs ys h = (bytes_eq-Decides xs ys).0 h

alone_stays : (words : List (List ℕ)) (l : Line) → quits (Ok l) ≡ false → quits (alone l words) ≡ false
alone_stays [] l h = h
alone_stays (w ∷ words) l h = refl

word_stays : (w : List ℕ) (words : List (List ℕ)) (asks : Result Own Syntax) → word_asks w words ≡ Some asks → quits (word_says w words) ≡ false
word_stays w words asks e = by_breaks (bytes_eq w (codes "breaks")) refl
  where
    by_made : (b : Bool) → bytes_eq w (codes "made") ≡ b → (if b then Some (made_says words) else None) ≡ Some asks → quits (word_says w words) ≡ false
    by_made true h k = rw (same_bytes w (codes "made") h) refl
    by_made false h k = absurd cc

    by_trace : (b : Bool) → bytes_eq w (codes "trace") ≡ b
        → (if b then Some (at_end own.Trace words) else if bytes_eq w (codes "made") then Some (made_says words) else None) ≡ Some asks → quits (word_says w words) ≡ false
    by_trace true h k = rw (same_bytes w (codes "trace") h) refl
    by_trace false h k = by_made (bytes_eq w (codes "made")) refl k

    by_objects : (b : Bool) → bytes_eq w (codes "objects") ≡ b
        → (if b then objects_asked words else if bytes_eq w (codes "trace") then Some (at_end own.Trace words)
        else if bytes_eq w (codes "made") then Some (made_says words) else None) ≡ Some asks → quits (word_says w words) ≡ false
    by_objects true h k = rw (same_bytes w (codes "objects") h) (alone_stays words (line.Query query.Objects) refl)
    by_objects false h k = by_trace (bytes_eq w (codes "trace")) refl k

    by_items : (b : Bool) → bytes_eq w (codes "items") ≡ b
        → (if b then items_asked words else if bytes_eq w (codes "objects") then objects_asked words
        else if bytes_eq w (codes "trace") then Some (at_end own.Trace words)
        else if bytes_eq w (codes "made") then Some (made_says words) else None) ≡ Some asks → quits (word_says w words) ≡ false
    by_items true h k = rw (same_bytes w (codes "items") h) (alone_stays words (line.Query query.Items) refl)
    by_items false h k = by_objects (bytes_eq w (codes "objects")) refl k

    by_breaks : (b : Bool) → bytes_eq w (codes "breaks") ≡ b → quits (word_says w words) ≡ false
    by_breaks true h = rw (same_bytes w (codes "breaks") h) refl
    by_breaks false h = by_items (bytes_eq w (codes "items")) refl (rw h at e)

words_stay : (words : List (List ℕ)) (own : Result Own Syntax) → words_ask words ≡ Some own → quits (words_say words) ≡ false
words_stay [] own e = refl
words_stay (w ∷ words) own e = word_stays w words own e

own_stays_by : (long : Bool) (bytes : List ℕ) (own : Result Own Syntax) → nat_lt longest (length bytes) ≡ long → line_asks bytes ≡ Some own
    → quits (line_says bytes) ≡ false
unfolding line_asks line_says
own_stays_by true bytes own h e = rw h refl
own_stays_by false bytes own h e = rw h (words_stay (words_of bytes) own (rw h at e))

-- a line that asks in JSON alone says nothing in the texts that ends a script
pub own_stays : (bytes : List ℕ) (own : Result Own Syntax) → line_asks bytes ≡ Some own → quits (line_says bytes) ≡ false
own_stays bytes own e = own_stays_by (nat_lt longest (length bytes)) bytes own refl e

-- ---- a line asks for the same, also where it is cut

same_cut : (n : ℕ) (bytes : List ℕ) (by : List ℕ → Option (Result Own Syntax))
    → (if nat_lt n (length (take (n + 1) bytes)) then None else by (take (n + 1) bytes)) ≡ (if nat_lt n (length bytes) then None else by bytes)
same_cut n bytes by = elim (cases_lt n (length bytes)) [
  | inl long ↦
      let full : length (take (n + 1) bytes) ≡ n + 1 = length-take-le (n + 1) bytes (omega (arith, long)) in
      let cut : nat_lt n (length (take (n + 1) bytes)) ≡ true = grind (arith, full) in
      let whole : nat_lt n (length bytes) ≡ true = grind (arith, long) in
      rw (cut, whole) refl
  | inr fits ↦ rw (take_all (n + 1) bytes (omega (arith, fits))) refl
]

pub line_asks-shortened : (bytes : List ℕ) → line_asks (line_start bytes) ≡ line_asks bytes
unfolding line_asks line_start
line_asks-shortened bytes = same_cut longest bytes (λ (bs : List ℕ). words_ask (words_of bs))
