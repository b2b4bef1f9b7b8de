-- What `show` prints are lines.
use Rattle.std.proofs.Common.{◌≡◌, ℕ, List, [], ◌∷◌, ◌++◌, Option, Some, None, refl, ap, ◌∙◌, append_assoc}
use Rattle.std.specs.Prelude.{codes, decimal}
use Rattle.std.specs.Option.{option_map_or}
use Rattle.std.specs.List.{flat_map}
use Rattle.pickle_io.specs.Text.{◌⧺◌}
use Rattle.pickle_ops.specs.Object.{Object}
use Rattle.calls_laws.specs.LineLaws.{cut_lines}
use Rattle.object_texts.specs.ObjectText.{next_text, object_text}
use Rattle.object_texts.specs.Show.{WalkPlace, first_line, again_line}
use Rattle.session_laws.specs.Lines.{IsOneLine}
use Rattle.session_laws.specs.Reached.{in_full, line_text, line_texts}
use Rattle.session_laws.proofs.Pieces.{is_line, join, number, next_within, object_within}
use Rattle.session_laws.proofs.Texts.{Cuts, cuts_one, whole}

first_is : (depth id : ℕ) (o : Object) → IsOneLine (first_line depth id o)
unfolding first_line
first_is depth id o =
    is_line (decimal depth ⧺ codes " " ⧺ object_text id o)
    (join (decimal depth ⧺ codes " ") (object_text id o) (join (decimal depth) (codes " ") (number depth) refl) (object_within id o))

again_is : (depth id : ℕ) → IsOneLine (again_line depth id)
unfolding again_line
again_is depth id = is_line (decimal depth ⧺ next_text id) (join (decimal depth) (next_text id) (number depth) (next_within id))

line_is : (heap : List Object) (before : List WalkPlace) (p : WalkPlace) → IsOneLine (line_text heap before p)
line_is heap before p = go (in_full heap before p.id)
  where
    go : (x : Option Object) → IsOneLine (option_map_or (first_line p.depth p.id) x (again_line p.depth p.id))
    go None = again_is p.depth p.id
    go (Some o) = first_is p.depth p.id o

cut_all : (heap : List Object) (before lines : List WalkPlace) → Cuts (flat_map (λ (line : List ℕ). line) (line_texts heap before lines)) (line_texts heap before lines)
cut_all heap before [] = λ rest. refl
cut_all heap before (p ∷ lines) = λ rest.
    let more : List ℕ = flat_map (λ (line : List ℕ). line) (line_texts heap (before ++ p ∷ []) lines) in
    ap cut_lines (append_assoc (line_text heap before p) more rest)
    ∙ cuts_one (line_text heap before p) (line_is heap before p) (more ++ rest)
    ∙ ap (λ (t : List (List ℕ)). line_text heap before p ∷ t) (cut_all heap (before ++ p ∷ []) lines rest)

-- the text of lines, cut behind its newlines, is these lines
pub cut_shown : (heap : List Object) (before lines : List WalkPlace) → cut_lines (flat_map (λ (line : List ℕ). line) (line_texts heap before lines)) ≡ line_texts heap before lines
cut_shown heap before lines = whole (flat_map (λ (line : List ℕ). line) (line_texts heap before lines)) (line_texts heap before lines) (cut_all heap before lines)
