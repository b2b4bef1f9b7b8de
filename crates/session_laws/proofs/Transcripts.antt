-- Two transcripts of one session are one, memory apart.
use Rattle.std.proofs.Common.{◌≡◌, ◌∙◌, ℕ, List, [], ◌∷◌, refl, sym, ap, ap₂}
use Rattle.pickle_doc.specs.Document.{Contents, OneDocument}
use Rattle.pickle_session.specs.Session.{Session, Snapshot}
use Rattle.pickle_session.specs.Allowed.{SessionState}
use Rattle.pickle_script.specs.Transcript.{PrintsAll, up_to_quit}
use Rattle.session_laws.specs.Transcripts.{IsAmple, OneTranscript, OneOpening}
use Rattle.session_laws.proofs.Answers.{one_line}

-- the same texts, and the same session after them
abbrev AreSame : List (List ℕ) → List (List ℕ) → SessionState → SessionState → Type 0
AreSame texts others q s = (texts ≡ others) × (q.session ≡ s.session)

all_lines : (lines texts others : List (List ℕ)) (p q r s : SessionState) → p.session ≡ r.session → IsAmple texts → IsAmple others
    → PrintsAll p lines texts q → PrintsAll r lines others s → AreSame texts others q s
all_lines [] [] [] p q r s e n m x y = (refl, ap (λ (t : SessionState). t.session) x ∙ e ∙ sym (ap (λ (t : SessionState). t.session) y))
all_lines [] (text ∷ texts) others p q r s e n m x y = absurd x
all_lines [] [] (other ∷ others) p q r s e n m x y = absurd y
all_lines (line ∷ lines) [] others p q r s e n m x y = absurd x
all_lines (line ∷ lines) (text ∷ texts) [] p q r s e n m x y = absurd y
all_lines (line ∷ lines) (text ∷ texts) (other ∷ others) p q r s e n m x y =
    let one = one_line line p x.0 r y.0 text other e n.0 m.0 x.1 y.1 in
    let rest = all_lines lines texts others x.0 q y.0 s one.1 n.1 m.1 x.2 y.2 in
    (ap₂ (λ (t : List ℕ) (ts : List (List ℕ)). t ∷ ts) one.0 rest.0, rest.1)

pub one_transcript : OneTranscript
one_transcript lines texts others p q r s e n m x y = all_lines (up_to_quit lines) texts others p q r s e n m x y

-- ---- an opening

abbrev session_of : Contents → ℕ → List ℕ → List Snapshot → List Snapshot → Session
session_of document cursor breaks undos redos = record { document = document; cursor = cursor; breaks = breaks; undos = undos; redos = redos }

begun : (p r : Session) → p.document ≡ r.document → p.cursor ≡ r.cursor → p.breaks ≡ r.breaks → p.undos ≡ r.undos → p.redos ≡ r.redos → p ≡ r
begun p r a b c d e =
    ap₂ (λ (document : Contents) (cursor : ℕ). session_of document cursor p.breaks p.undos p.redos) a b
    ∙ ap₂ (λ (breaks : List ℕ) (undos : List Snapshot). session_of r.document r.cursor breaks undos p.redos) c d ∙ ap (λ (redos : List Snapshot). session_of r.document r.cursor r.breaks r.undos redos) e

pub one_opening : OneDocument → OneOpening
one_opening law many loose bytes p r is few x y =
    let one = law many loose bytes is few in
    let document = sym (one.2 p.session.document x.document) ∙ one.2 r.session.document y.document in
    begun p.session r.session document (x.begun.cursor ∙ sym y.begun.cursor) (x.begun.breaks ∙ sym y.begun.breaks) (x.begun.undos ∙ sym y.begun.undos) (x.begun.redos ∙ sym y.begun.redos)
