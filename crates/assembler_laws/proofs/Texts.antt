-- Lines, one after another, and the bytes that they give.
use Rattle.std.proofs.Common.{◌≡◌, ℕ, ◌+◌, ◌==◌, ◌&&◌, Bool, true, false, cond, List, [], ◌∷◌, ◌++◌, Option, Some, None, Result, Ok, Err, refl, sym, ap, subst, ◌∙◌, inl, inr, arith, append_assoc, append-nil}
use Rattle.std.specs.Prelude.{not, codes, decimal, if◌then◌else◌}
use Rattle.std.specs.List.{slice_split, onto_first}
use Rattle.std.proofs.lemmas.Bool.{and_parts, not-true}
use Rattle.pickle_io.specs.Text.{◌⧺◌}
use Rattle.pickle_ops.specs.Spelling.{Operation, IsSpelled, spelling}
use Rattle.pickle_doc.specs.declared.fault.TailFault.{TailFault}
use Rattle.pickle_machine.specs.declared.refusal.Refusal.{Refusal}
use Rattle.calls_laws.specs.LineLaws.{is_within_line}
use Rattle.pickle_list.specs.Line.{refused_line, left_text, left_line, protocol_words, protocol_text, protocol_line}
use Rattle.pickle_text.specs.Closing.{kept_words, kept_text}
use Rattle.pickle_text.specs.ReportLine.{refusal_text, fault_at, fault_line}
use Rattle.calls_laws.proofs.LinesApart.{joined}
use Rattle.calls_laws.proofs.WithinLines.{Stays, decimal_stays}
use Rattle.opcode_assembler.specs.declared.fault.Reason.{Reason}
use Rattle.opcode_assembler.specs.declared.fault.Reason.TheVariants as why
use Rattle.opcode_assembler.specs.Assembly.{Piece, Nothing, OneOpcode, IsGood, piece_bytes, line_says, HasBytes, HasFault, IsLine, AreLines, AreWrong, is_newline, Assembles, IsRefused}
use Rattle.assembler_laws.proofs.Stays.{refusal_stays, fault_stays}

-- ---- one line

split_line : (line rest : List ℕ) → Stays line → slice_split is_newline (line ++ (10 ∷ rest)) ≡ line ∷ slice_split is_newline rest
split_line [] rest h = refl
split_line (b ∷ line) rest h =
    let both = and_parts (not (b == 10)) (is_within_line line) h in
    ap (λ (t : Bool). cond t ([] ∷ slice_split is_newline (line ++ (10 ∷ rest))) (onto_first b (slice_split is_newline (line ++ (10 ∷ rest))))) (not-true (b == 10) both.0)
    ∙ ap (onto_first b) (split_line line rest both.1)

cut : (line rest : List ℕ) → Stays line → slice_split is_newline ((line ++ 10 ∷ []) ++ rest) ≡ line ∷ slice_split is_newline rest
cut line rest h = ap (slice_split is_newline) (append_assoc line (10 ∷ []) rest) ∙ split_line line rest h

-- ---- a text that gives bytes, whatever is behind it

pub record Gives (text bytes : List ℕ) : Type 0 where
  pub lines : ℕ
  pub gives : (rest ys : List ℕ) → Assembles rest ys → Assembles (text ++ rest) (bytes ++ ys)
  pub passes : (rest : List ℕ) (n m : ℕ) (r : Reason) → AreWrong (n + lines) (slice_split is_newline rest) m r → AreWrong n (slice_split is_newline (text ++ rest)) m r

pub gives_line : (line bytes : List ℕ) → Stays line → IsLine line bytes → Gives (line ++ 10 ∷ []) bytes
gives_line line bytes h l = record {
  lines = 1;
  gives = λ rest ys a. let whole : AreLines (line ∷ slice_split is_newline rest) (bytes ++ ys) = (bytes, ys, l, a, refl) in subst (λ (ls : List (List ℕ)). AreLines ls (bytes ++ ys)) (sym (cut line rest h)) whole;
  passes = λ rest n m r w. let whole : AreWrong n (line ∷ slice_split is_newline rest) m r = inr (bytes, l, w) in subst (λ (ls : List (List ℕ)). AreWrong n ls m r) (sym (cut line rest h)) whole;
}

pub gives_nothing : Gives [] []
gives_nothing = record {
  lines = 0;
  gives = λ rest ys a. a;
  passes = λ rest n m r w. let e : n + 0 ≡ n = omega arith in subst (λ (k : ℕ). AreWrong k (slice_split is_newline rest) m r) e w;
}

gives_more : (a b x y : List ℕ) → Gives a x → Gives b y → Gives (a ++ b) (x ++ y)
gives_more a b x y p q = record {
  lines = p.lines + q.lines;
  gives = λ rest ys h.
      let whole : Assembles (a ++ (b ++ rest)) (x ++ (y ++ ys)) = p.gives (b ++ rest) (y ++ ys) (q.gives rest ys h) in
      subst (λ (t : List ℕ). Assembles t ((x ++ y) ++ ys)) (sym (append_assoc a b rest)) (subst (λ (bs : List ℕ). Assembles (a ++ (b ++ rest)) bs) (sym (append_assoc x y ys)) whole);
  passes = λ rest n m r w.
      let e : n + (p.lines + q.lines) ≡ (n + p.lines) + q.lines = omega arith in
      let there = subst (λ (k : ℕ). AreWrong k (slice_split is_newline rest) m r) e w in
      subst (λ (t : List ℕ). AreWrong n (slice_split is_newline t) m r) (sym (append_assoc a b rest)) (p.passes (b ++ rest) n m r (q.passes rest (n + p.lines) m r there));
}

pub gives_join : (a b x y : List ℕ) → Gives a x → Gives b y → Gives (a ⧺ b) (x ++ y)
unfolding ◌⧺◌
gives_join a b x y p q = gives_more a b x y p q

pub same_bytes : (text x y : List ℕ) → x ≡ y → Gives text x → Gives text y
same_bytes text x y e p = subst (Gives text) e p

-- ---- what a line says

says_good : (line : List ℕ) (piece : Piece) → line_says line ≡ Ok piece → IsGood piece → IsLine line (piece_bytes piece)
says_good line piece e g = let there : HasBytes (Ok piece) (piece_bytes piece) = (g, refl) in subst (λ (r : Result Piece Reason). HasBytes r (piece_bytes piece)) (sym e) there

pub gives_opcode : (line : List ℕ) (op : Operation) → Stays line → line_says line ≡ Ok (OneOpcode op) → IsSpelled op → Gives (line ++ 10 ∷ []) (spelling op)
gives_opcode line op h e s = gives_line line (spelling op) h (says_good line (OneOpcode op) e s)

gives_quiet : (line : List ℕ) → Stays line → line_says line ≡ Ok Nothing → Gives (line ++ 10 ∷ []) []
gives_quiet line h e = gives_line line [] h (says_good line Nothing e tt)

-- a line that gives none: it is the first after those before it
pub record Gap (text : List ℕ) : Type 0 where
  pub gap : (rest : List ℕ) (n : ℕ) → AreWrong n (slice_split is_newline (text ++ rest)) n why.LeftOut

gap_line : (line : List ℕ) → Stays line → line_says line ≡ Err why.LeftOut → Gap (line ++ 10 ∷ [])
gap_line line h e = record {
  gap = λ rest n.
      let wrong : HasFault (line_says line) why.LeftOut = subst (λ (r : Result Piece Reason). HasFault r why.LeftOut) (sym e) refl in
      let whole : AreWrong n (line ∷ slice_split is_newline rest) n why.LeftOut = inl (refl, wrong) in
      subst (λ (ls : List (List ℕ)). AreWrong n ls n why.LeftOut) (sym (cut line rest h)) whole;
}

-- ---- the closing lines

says_left : (more : List ℕ) → line_says (108 ∷ 101 ∷ 102 ∷ 116 ∷ 58 ∷ 32 ∷ more) ≡ Ok Nothing
unfolding line_says
says_left more = refl

says_protocol : (more : List ℕ) → line_says (protocol_words ++ more) ≡ Ok Nothing
unfolding line_says protocol_words
says_protocol more = refl

says_kept : (more : List ℕ) → line_says (107 ∷ 101 ∷ 112 ∷ 116 ∷ 58 ∷ 32 ∷ more) ≡ Err why.LeftOut
unfolding line_says
says_kept more = refl

says_fault : (more : List ℕ) → line_says (102 ∷ 97 ∷ 117 ∷ 108 ∷ 116 ∷ 58 ∷ 32 ∷ more) ≡ Err why.LeftOut
unfolding line_says
says_fault more = refl

says_refused : (more : List ℕ) → line_says (114 ∷ 101 ∷ 102 ∷ 117 ∷ 115 ∷ 101 ∷ 100 ∷ 58 ∷ 32 ∷ more) ≡ Err why.LeftOut
unfolding line_says
says_refused more = refl

left_gives : (objects marks : ℕ) → Gives (left_text objects marks) []
unfolding left_text ◌⧺◌
left_gives objects marks =
    let more = decimal objects ++ (codes " objects, " ++ (decimal marks ++ codes " marks")) in
    let is : (((codes "left: " ++ decimal objects) ++ codes " objects, ") ++ decimal marks) ++ codes " marks" ≡ codes "left: " ++ more = simp append_assoc in
    let stays : Stays (codes "left: " ++ more) =
    joined (codes "left: ") more refl (joined (decimal objects) (codes " objects, " ++ (decimal marks ++ codes " marks")) (decimal_stays objects)
    (joined (codes " objects, ") (decimal marks ++ codes " marks") refl (joined (decimal marks) (codes " marks") (decimal_stays marks) refl))) in
    subst (λ (t : List ℕ). Gives (t ++ 10 ∷ []) []) (sym is) (gives_quiet (codes "left: " ++ more) stays (says_left more))

pub left_line_gives : (objects marks : ℕ) → Gives (left_line objects marks) []
unfolding left_line
left_line_gives objects marks = go (objects == 0 && marks == 0)
  where
    go : (b : Bool) → Gives (if b then [] else left_text objects marks) []
    go true = gives_nothing
    go false = left_gives objects marks

words_stay : Stays protocol_words
unfolding protocol_words
words_stay = refl

protocol_gives : (n : ℕ) → Gives (protocol_text n) []
unfolding protocol_text ◌⧺◌
protocol_gives n = gives_quiet (protocol_words ++ decimal n) (joined protocol_words (decimal n) words_stay (decimal_stays n)) (says_protocol (decimal n))

pub protocol_line_gives : (p : Option ℕ) → Gives (protocol_line p) []
unfolding protocol_line
protocol_line_gives None = gives_nothing
protocol_line_gives (Some n) = protocol_gives n

pub kept_gap : (count : ℕ) → Gap (kept_text count)
unfolding kept_text kept_words ◌⧺◌
kept_gap count =
    let more = decimal count ++ codes " bytes after STOP" in
    let is : (codes "kept: " ++ decimal count) ++ codes " bytes after STOP" ≡ codes "kept: " ++ more = append_assoc (codes "kept: ") (decimal count) (codes " bytes after STOP") in
    let stays : Stays (codes "kept: " ++ more) = joined (codes "kept: ") more refl (joined (decimal count) (codes " bytes after STOP") (decimal_stays count) refl) in
    subst (λ (t : List ℕ). Gap (t ++ 10 ∷ [])) (sym is) (gap_line (codes "kept: " ++ more) stays (says_kept more))

pub fault_gap : (f : TailFault) (offset : ℕ) → Gap (fault_line f offset)
unfolding fault_line ◌⧺◌
fault_gap f offset = gap_line (codes "fault: " ++ fault_at f offset) (joined (codes "fault: ") (fault_at f offset) refl (fault_stays f offset)) (says_fault (fault_at f offset))

pub refused_gap : (r : Refusal) → Gap (refused_line r)
unfolding refused_line ◌⧺◌
refused_gap r = gap_line (codes "refused: " ++ refusal_text r) (joined (codes "refused: ") (refusal_text r) refl (refusal_stays r)) (says_refused (refusal_text r))

-- ---- a whole text

nothing_says : line_says [] ≡ Ok Nothing
unfolding line_says
nothing_says = refl

empty_text : Assembles [] []
empty_text =
    let line : IsLine [] [] = says_good [] Nothing nothing_says tt in
    let whole : AreLines ([] ∷ []) [] = ([], [], line, refl, refl) in whole

pub assembled : (text bytes : List ℕ) → Gives text bytes → Assembles text bytes
assembled text bytes p =
    let whole = p.gives [] [] empty_text in
    subst (λ (t : List ℕ). Assembles t bytes) (append-nil text) (subst (λ (bs : List ℕ). Assembles (text ++ []) bs) (append-nil bytes) whole)

pub gap_behind : (a b c bytes : List ℕ) → Gives a bytes → Gap b → (m : ℕ) × IsRefused (a ⧺ (b ⧺ c)) m why.LeftOut
unfolding ◌⧺◌
gap_behind a b c bytes p g = (1 + p.lines, p.passes (b ++ c) 1 (1 + p.lines) why.LeftOut (g.gap c (1 + p.lines)))
