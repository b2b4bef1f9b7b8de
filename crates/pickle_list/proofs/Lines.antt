-- The lines of a document's items, place by place, and the highest protocol.
use Rattle.std.proofs.Common.{◌≡◌, ℕ, zero, suc, ◌+◌, ◌-◌, ◌≤◌, List, [], ◌∷◌, ◌++◌, Option, Some, None, refl, sym, ap, subst, ◌∙◌, append_assoc, arith}
use Rattle.std.proofs.lemmas.List.{append-nil}
use Rattle.pickle_io.specs.Text.{◌⧺◌}
use Rattle.pickle_ops.specs.Table.{protocol_of}
use Rattle.pickle_ops.specs.Spelling.{Operation}
use Rattle.pickle_doc.specs.Document.{Contents}
use Rattle.pickle_doc.specs.Place.{ops_of, item_at}
use Rattle.pickle_machine.specs.State.{start}
use Rattle.pickle_machine.specs.Run.{run}
use Rattle.pickle_list.specs.ArgTexts.{ArgTexts}
use Rattle.pickle_list.specs.Line.{raised, highest_protocol}
use Rattle.pickle_list.specs.Listing.{line_at_in, left_by, lines_in}

-- ---- protocols

raised-twice : (h : Option ℕ) (a b : ℕ) → raised (raised h a) b ≡ raised (raised h b) a
raised-twice None a b = ap Some (omega arith)
raised-twice (Some m) a b = ap Some (omega arith)

pub highest_protocol-push : (ops : List Operation) (o : Operation) → highest_protocol (ops ++ (o ∷ [])) ≡ raised (highest_protocol ops) (protocol_of o.opcode)
highest_protocol-push [] o = refl
highest_protocol-push (p ∷ ops) o =
    ap (λ (h : Option ℕ). raised h (protocol_of p.opcode)) (highest_protocol-push ops o) ∙ raised-twice (highest_protocol ops) (protocol_of o.opcode) (protocol_of p.opcode)

-- ---- lines

pub lines-zero : (args : ArgTexts) (d : Contents) → lines_in args d 0 ≡ []
unfolding lines_in
lines-zero args d = refl

-- the lines of the items before one, and its own
abbrev pub lines_with : ArgTexts → Contents → ℕ → List ℕ
lines_with args d k = lines_in args d k ++ line_at_in args d k

pub lines-suc : (args : ArgTexts) (d : Contents) (k : ℕ) → lines_in args d (suc k) ≡ lines_with args d k ++ left_by (item_at d k) (run (start d.many) (ops_of d) (suc k))
unfolding lines_in ◌⧺◌
lines-suc args d k = refl

lines_more : (args : ArgTexts) (d : Contents) (k n : ℕ) → (rest : List ℕ) × (lines_in args d (k + n) ≡ lines_in args d k ++ rest)
lines_more args d k zero = let e : k + 0 ≡ k = omega arith in ([], rw e (sym (append-nil (lines_in args d k))))
lines_more args d k (suc n) =
    let e : k + suc n ≡ suc (k + n) = omega arith in
    let before = lines_more args d k n in
    let last : List ℕ = left_by (item_at d (k + n)) (run (start d.many) (ops_of d) (suc (k + n))) in (
      (before.0 ++ line_at_in args d (k + n)) ++ last,
      rw e (lines-suc args d (k + n)
          ∙ ap (λ (t : List ℕ). (t ++ line_at_in args d (k + n)) ++ last) before.1
          ∙ ap (λ (t : List ℕ). t ++ last) (append_assoc (lines_in args d k) before.0 (line_at_in args d (k + n)))
          ∙ append_assoc (lines_in args d k) (before.0 ++ line_at_in args d (k + n)) last),
    )

-- the first lines come first
pub lines_first : (args : ArgTexts) (d : Contents) (k n : ℕ) → k ≤ n → (rest : List ℕ) × (lines_in args d n ≡ lines_in args d k ++ rest)
lines_first args d k n h =
    let e : k + (n - k) ≡ n = omega arith in
    let more = lines_more args d k (n - k) in
    (more.0, subst (λ (m : ℕ). lines_in args d m ≡ lines_in args d k ++ more.0) e more.1)
