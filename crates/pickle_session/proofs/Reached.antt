-- What lists of commands keep.
use Rattle.std.proofs.Common.{◌≡◌, ◌<◌, ℕ, Bool, true, false, Option, Some, None, List, [], ◌∷◌, ◌++◌, MatchOption, length, refl, sym, ap, subst, ◌∙◌, inl, inr, arith, le-ltb}
use Rattle.pickle_doc.specs.Document.{document_bytes}
use Rattle.pickle_session.specs.declared.command.Command.{Command}
use Rattle.pickle_session.specs.declared.command.Command.TheVariants as command
use Rattle.pickle_session.specs.declared.reply.Fault.{Fault}
use Rattle.pickle_session.specs.declared.reply.Fault.TheVariants as fault
use Rattle.pickle_session.specs.declared.reply.Reply.{Reply}
use Rattle.pickle_session.specs.declared.reply.Reply.TheVariants as reply
use Rattle.pickle_session.specs.Session.{Snapshot, Session, Answer, Obeys, goes_to, refuses, history_fault, len_of, place_in, undone_by}
use Rattle.pickle_session.specs.Allowed.{SessionState, Answers, goes_beyond, takes_memory}
use Rattle.pickle_session.specs.Laws.{goes_back}
use Rattle.std.specs.Prelude.{nat_lt, not}
use Rattle.pickle_session.specs.Opening.{IsOpenedIn}
use Rattle.pickle_session.specs.Undo.{oldest, undone, version_bytes}
use Rattle.pickle_session.specs.Reaching.{Reaches, IsReached, undos, OpenedStays}
use Rattle.pickle_session.proofs.Oldest.{allowed}

reaches_keep : (cs : List Command) (p q : SessionState) → Reaches cs p q → oldest q.session ≡ oldest p.session
reaches_keep [] p q h = ap (λ (x : SessionState). oldest x.session) h
reaches_keep (c ∷ cs) p q (r, m, a, h) = reaches_keep cs m q h ∙ allowed c p r m.session a

oldest_opened : (many loose : Bool) (bytes : List ℕ) (p : SessionState) → IsOpenedIn many loose bytes p → version_bytes (oldest p.session) ≡ bytes
oldest_opened many loose bytes p o = rw o.begun.undos o.document.whole

kept : (many loose : Bool) (bytes : List ℕ) (cs : List Command) (q : SessionState) → IsReached many loose bytes cs q → version_bytes (oldest q.session) ≡ bytes
kept many loose bytes cs q (p, o, h) = ap version_bytes (reaches_keep cs p q h) ∙ oldest_opened many loose bytes p o

not_refused : (f : Option Fault) (s : Session) (D : Type 0) (a : Answer) → f ≡ None → MatchOption f D (λ f. a ≡ refuses f s) → D
not_refused None s D a e x = x
not_refused (Some f) s D a e x = absurd cc

-- an Undo at the start, by what there is to undo
undo_at : (ws : List Snapshot) (p : SessionState) (r : Reply) (t : Session) → p.session.undos ≡ ws → p.session.cursor ≡ 0 → 0 < length ws → Answers command.Undo p r t
    → (r ≡ reply.Undone (place_in ws)) × (t ≡ undone_by ws p.session)
undo_at [] p r t e z h a = absurd (omega (arith, h))
undo_at (w ∷ ws) p r t e z h (inl o) =
    let b : record { reply = r; after = t } ≡ record { reply = reply.Undone (place_in p.session.undos); after = undone_by p.session.undos p.session } = not_refused (history_fault fault.NothingToUndo p.session.undos p.session.cursor) p.session _ _ (rw (e, z, le-ltb w.place 0 (omega arith)) refl) o in
    (ap (λ (x : Answer). x.reply) b ∙ ap (λ (x : List Snapshot). reply.Undone (place_in x)) e, ap (λ (x : Answer). x.after) b ∙ ap (λ (x : List Snapshot). undone_by x p.session) e)
undo_at (w ∷ ws) p r t e z h (inr m) = let f = m.takes in cc

accepted : (p : SessionState) (r : Reply) (t : Session) → p.session.cursor ≡ 0 → 0 < length p.session.undos → Answers command.Undo p r t
    → (r ≡ reply.Undone (place_in p.session.undos)) × (t ≡ undone p.session)
accepted p r t z h a = undo_at p.session.undos p r t refl z h a

undos_empty : (ws : List Snapshot) (m t : SessionState) → m.session.undos ≡ ws → m.session.cursor ≡ 0 → Reaches (undos (length ws)) m t → t.session.undos ≡ []
undos_empty [] m t e z h = ap (λ (x : SessionState). x.session.undos) h ∙ e
undos_empty (w ∷ ws) m t e z (r, n, a, h) =
    let u : n.session ≡ undone_by (w ∷ ws) m.session = (undo_at (w ∷ ws) m r n.session e z (omega arith) a).1 in
    undos_empty ws n t (ap (λ (s : Session). s.undos) u) (ap (λ (s : Session). s.cursor) u ∙ z) h

pub to_start : (q : SessionState) (k : ℕ) (t : Session) → Answers (command.Goto 0) q (reply.At k) t → t ≡ record q.session { cursor = 0 }
to_start q k t (inl o) =
    let b : record { reply = reply.At k; after = t } ≡ goes_to 0 q.session = rw (le-ltb (len_of q.session.document) 0 (omega arith), le-ltb q.session.cursor 0 (omega arith)) at o in
    ap (λ (x : Answer). x.after) b
to_start q k t (inr m) = let f = m.reply in absurd cc

pub oldest_left : (t : Session) → t.undos ≡ [] → version_bytes (oldest t) ≡ document_bytes t.document
oldest_left t e = rw e refl

given : (many loose : Bool) (bytes : List ℕ) (cs : List Command) (q m t : SessionState) → IsReached many loose bytes cs q → Answers (command.Goto 0) q (reply.At 0) m.session
    → Reaches (undos (length q.session.undos)) m t → (document_bytes t.session.document ≡ bytes) × (t.session.undos ≡ [])
given many loose bytes cs q m t i a h =
    let went : m.session ≡ record q.session { cursor = 0 } = to_start q 0 m.session a in
    let none : t.session.undos ≡ [] = undos_empty q.session.undos m t (ap (λ (s : Session). s.undos) went) (ap (λ (s : Session). s.cursor) went) h in
    let same : oldest t.session ≡ oldest q.session = reaches_keep (undos (length q.session.undos)) m t h ∙ allowed (command.Goto 0) q (reply.At 0) m.session a in
    (sym (oldest_left t.session none) ∙ ap version_bytes same ∙ kept many loose bytes cs q i, none)

pub opened_stays : OpenedStays
opened_stays = record { kept = kept; accepted = accepted; given = given }

-- ---- one command more

pub reaches_more : (cs : List Command) (p q : SessionState) (c : Command) (r : Reply) (t : SessionState) → Reaches cs p q → Answers c q r t.session → Reaches (cs ++ c ∷ []) p t
reaches_more [] p q c r t h a = (r, t, subst (λ (x : SessionState). Answers c x r t.session) h a, refl)
reaches_more (b ∷ cs) p q c r t (s, m, x, h) a = (s, m, x, reaches_more cs m q c r t h a)

pub reaches_none : (p : SessionState) → Reaches [] p p
reaches_none p = refl

-- ---- going back

not_true : (b : Bool) → not b ≡ true → b ≡ false
not_true false h = refl
not_true true h = absurd cc

no_memory : (c : Command) (p : SessionState) → goes_beyond c p ≡ false → goes_back c p.session ≡ true → takes_memory c p ≡ false
no_memory command.Back p e h = e
no_memory (command.Goto k) p e h = rw (not_true (nat_lt p.session.cursor k) h) e
no_memory (command.Clear k) p e h = refl
no_memory command.Undo p e h = refl
no_memory command.Redo p e h = refl
no_memory _ p e h = absurd cc

-- nothing lies further back than all records lead
near_all : (c : Command) (p : SessionState) → p.past.limit ≡ None → goes_beyond c p ≡ false
near_all command.Back p e = rw e refl
near_all (command.Goto k) p e = rw e refl
near_all _ p e = refl

pub obeys_near : (c : Command) (p : SessionState) (r : Reply) (t : Session) → goes_beyond c p ≡ false → goes_back c p.session ≡ true → Answers c p r t → Obeys c p.session (record { reply = r; after = t })
obeys_near c p r t e h (inl o) = o
obeys_near c p r t e h (inr m) = let x : true ≡ false = sym m.takes ∙ no_memory c p e h in absurd cc

pub obeys_back : (c : Command) (p : SessionState) (r : Reply) (t : Session) → p.past.limit ≡ None → goes_back c p.session ≡ true → Answers c p r t → Obeys c p.session (record { reply = r; after = t })
obeys_back c p r t e h a = obeys_near c p r t (near_all c p e) h a

pub starts : (p : SessionState) (r : Reply) (t : Session) → p.past.limit ≡ None → Answers (command.Goto 0) p r t → r ≡ reply.At 0
starts p r t e a =
    let o = obeys_back (command.Goto 0) p r t e (rw (le-ltb p.session.cursor 0 (omega arith)) refl) a in
    let b : record { reply = r; after = t } ≡ goes_to 0 p.session = rw (le-ltb (len_of p.session.document) 0 (omega arith), le-ltb p.session.cursor 0 (omega arith)) at o in
    ap (λ (x : Answer). x.reply) b

cursor_stays : (ws : List Snapshot) (s : Session) → (undone_by ws s).cursor ≡ s.cursor
cursor_stays [] s = refl
cursor_stays (w ∷ ws) s = refl

pub undo_at_start : (p : SessionState) (r : Reply) (t : Session) → p.session.cursor ≡ 0 → 0 < length p.session.undos → Answers command.Undo p r t → t.cursor ≡ 0
undo_at_start p r t z h a = ap (λ (s : Session). s.cursor) (undo_at p.session.undos p r t refl z h a).1 ∙ cursor_stays p.session.undos p.session ∙ z

shorter : (ws : List Snapshot) (s : Session) → s.undos ≡ ws → 0 < length ws → length (undone_by ws s).undos < length ws
shorter [] s e h = absurd (omega (arith, h))
shorter (w ∷ ws) s e h = omega arith

pub undo_shorter : (p : SessionState) (r : Reply) (t : Session) → p.session.cursor ≡ 0 → 0 < length p.session.undos → Answers command.Undo p r t → length t.undos < length p.session.undos
undo_shorter p r t z h a = rw (undo_at p.session.undos p r t refl z h a).1 (shorter p.session.undos p.session refl h)
