-- Lines without an operation are answered as they are said.
use Rattle.std.proofs.Common.{◌≡◌, ℕ, List, [], ◌∷◌, None, Result, Ok, Err, refl}
use Rattle.pickle_script.specs.declared.conversation.line.Line.{Line}
use Rattle.pickle_script.specs.declared.conversation.line.Line.TheVariants as line
use Rattle.pickle_script.specs.declared.conversation.line.Query.TheVariants as query
use Rattle.pickle_script.specs.declared.conversation.line.Place.{Place}
use Rattle.pickle_script.specs.declared.conversation.line.Action.TheVariants as action
use Rattle.pickle_script.specs.declared.conversation.line.Syntax.{Syntax}
use Rattle.pickle_script.specs.declared.conversation.keyword.PlaceWord.{PlaceWord}
use Rattle.pickle_script.specs.Grammar.{op_in, alone, number_first, place_first, show_says, place_says, frame_says, and_then, AnswersWords}

-- a line without an operation
abbrev IsFree : Result Line Syntax → Type 0
IsFree (Ok l) = op_in l ≡ None
IsFree (Err f) = Unit {0}

answered : (says answer : Result Line Syntax) → IsFree says → answer ≡ says → AnswersWords says answer
answered (Ok l) answer free e = rw e (refl, rw free tt)
answered (Err f) answer free e = e

free_alone : (l : Line) (words : List (List ℕ)) → op_in l ≡ None → IsFree (alone l words)
free_alone l [] h = h
free_alone l (w ∷ words) h = tt

free_then : {A : Type 0} (r : Result A Syntax) (f : A → Result Line Syntax) → ((x : A) → IsFree (f x)) → IsFree (and_then r f)
free_then (Ok x) f h = h x
free_then (Err e) f h = tt

pub alone_answers : (l : Line) (words : List (List ℕ)) (answer : Result Line Syntax) → op_in l ≡ None → answer ≡ alone l words → AnswersWords (alone l words) answer
alone_answers l words answer free e = answered (alone l words) answer (free_alone l words free) e

pub show_answers : (words : List (List ℕ)) (answer : Result Line Syntax) → answer ≡ show_says words → AnswersWords (show_says words) answer
show_answers words answer e =
    answered (show_says words) answer
    (free_then (number_first words) (λ (p : ℕ × List (List ℕ)). alone (line.Query (query.Show p.0)) p.1) (λ p. free_alone (line.Query (query.Show p.0)) p.1 refl)) e

pub place_answers : (w : PlaceWord) (words : List (List ℕ)) (answer : Result Line Syntax) → answer ≡ place_says w words → AnswersWords (place_says w words) answer
place_answers w words answer e =
    answered (place_says w words) answer
    (free_then (place_first words) (λ (p : Place × List (List ℕ)). alone (line.At p.0 (action.Word w)) p.1) (λ p. free_alone (line.At p.0 (action.Word w)) p.1 refl)) e

pub frame_answers : (words : List (List ℕ)) (answer : Result Line Syntax) → answer ≡ frame_says words → AnswersWords (frame_says words) answer
frame_answers words answer e =
    answered (frame_says words) answer
    (free_then (place_first words) (λ (p : Place × List (List ℕ)). and_then (number_first p.1) (λ (q : ℕ × List (List ℕ)). alone (line.At p.0 (action.Frame q.0)) q.1))
    (λ p. free_then (number_first p.1) (λ (q : ℕ × List (List ℕ)). alone (line.At p.0 (action.Frame q.0)) q.1) (λ q. free_alone (line.At p.0 (action.Frame q.0)) q.1 refl))) e

pub ruleset saying_steps = (alone_answers, show_answers, place_answers, frame_answers)
