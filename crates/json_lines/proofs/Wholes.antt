-- Texts that are a line of JSON, or such lines one after another.
use Rattle.std.proofs.Common.{◌≡◌, ℕ, List, [], ◌∷◌, ◌++◌, refl, sym, ap, ap₂, ◌∙◌, subst, append_assoc}
use Rattle.std.proofs.lemmas.List.{append-nil}
use Rattle.pickle_io.specs.Text.{◌⧺◌}
use Rattle.pickle_io.specs.Device.{each}
use Rattle.pickle_io.proofs.Devices.{each-nil, each-cons}
use Rattle.json_lines.specs.Line.{Field}
use Rattle.json_lines.specs.Readable.{ReadsBackAs, IsLineOfJson, AreLinesOfJson, all_texts, IsJsonLines}

pub line_read : (text kind : List ℕ) (fs : List Field) → ReadsBackAs text kind fs → IsLineOfJson text
line_read text kind fs h = (kind, fs, h)

pub none : IsJsonLines []
none = record { texts = []; are_lines = tt; in_order = refl }

pub one : (text : List ℕ) → IsLineOfJson text → IsJsonLines text
one text h = record { texts = text ∷ []; are_lines = (h, tt); in_order = sym (append-nil text) }

pub read : (text kind : List ℕ) (fs : List Field) → ReadsBackAs text kind fs → IsJsonLines text
read text kind fs h = one text (line_read text kind fs h)

both_are : (xs ys : List (List ℕ)) → AreLinesOfJson xs → AreLinesOfJson ys → AreLinesOfJson (xs ++ ys)
both_are [] ys p q = q
both_are (x ∷ xs) ys p q = (p.0, both_are xs ys p.1 q)

both_texts : (xs ys : List (List ℕ)) → all_texts (xs ++ ys) ≡ all_texts xs ++ all_texts ys
both_texts [] ys = refl
both_texts (x ∷ xs) ys = ap (λ (t : List ℕ). x ++ t) (both_texts xs ys) ∙ sym (append_assoc x (all_texts xs) (all_texts ys))

appended : (a b : List ℕ) → IsJsonLines a → IsJsonLines b → IsJsonLines (a ++ b)
appended a b p q =
    record {
      texts = p.texts ++ q.texts;
      are_lines = both_are p.texts q.texts p.are_lines q.are_lines;
      in_order = ap₂ (λ (x y : List ℕ). x ++ y) p.in_order q.in_order ∙ sym (both_texts p.texts q.texts);
    }

pub both : (a b : List ℕ) → IsJsonLines a → IsJsonLines b → IsJsonLines (a ⧺ b)
unfolding ◌⧺◌
both a b p q = appended a b p q

pub all : {X : Type 0} (f : X → List ℕ) (xs : List X) → ((x : X) → IsJsonLines (f x)) → IsJsonLines (each f xs)
all f [] h = subst (λ (t : List ℕ). IsJsonLines t) (sym (each-nil f)) none
all f (x ∷ xs) h = subst (λ (t : List ℕ). IsJsonLines t) (sym (each-cons f x xs)) (appended (f x) (each f xs) (h x) (all f xs h))
