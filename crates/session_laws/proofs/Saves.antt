-- What a session saves gives the same machine again.
use Rattle.std.proofs.Common.{◌≡◌, ◌∙◌, ◌⊎◌, inl, inr, ℕ, suc, ◌<◌, ◌≤◌, Bool, true, false, List, [], ◌∷◌, length, MatchBool, Option, Some, None, refl, sym, ap, subst, arith}
use Rattle.std.proofs.lemmas.Bool.{le-ltb}
use Rattle.std.specs.Prelude.{nat_lt}
use Rattle.pickle_doc.specs.declared.item.Item.{Item}
use Rattle.pickle_doc.specs.DocUnit.{operations}
use Rattle.pickle_doc.specs.Document.{Contents, ReadsIn, SameApart, IsReadAgain, items_of, document_bytes}
use Rattle.pickle_doc.specs.Place.{ops_of}
use Rattle.pickle_machine.specs.State.{State, start}
use Rattle.pickle_session.specs.declared.command.Command.TheVariants as command
use Rattle.pickle_session.specs.declared.reply.Reply.{Reply}
use Rattle.pickle_session.specs.Session.{Session, Answer, Obeys, Arrives, Stumbles, goes_to, refused_at, state_at, len_of}
use Rattle.pickle_session.specs.Allowed.{SessionState, Answers, IsAtCursor}
use Rattle.pickle_session.proofs.Trails.{run_moves, reached_within, some_same}
use Rattle.session_laws.specs.Saved.{ComesTo, IsSavedWhole}

pub read_is_same : (d : Contents) → IsReadAgain d → (e : Contents) → ReadsIn d.many d.loose (document_bytes d) e → SameApart d e
read_is_same d again e r = subst (SameApart d) (again.only e r) again.same

-- ---- going to a place that is reached

length_operations : (items : List Item) → length (operations items) ≡ length items
length_operations [] = refl
length_operations (i ∷ items) = ap (λ (n : ℕ). suc n) (length_operations items)

within : (d : Contents) (k : ℕ) (t : State) → state_at d k ≡ Some t → k ≤ len_of d
within d k t e = omega (arith, reached_within (start d.many) (ops_of d) k t e, length_operations (items_of d))

both : (k place : ℕ) (s : Session) (t : State) → state_at s.document k ≡ Some t → place < k → refused_at s.document place ≡ None
both k place s t e h = run_moves (start s.document.many) (ops_of s.document) k place t e h

none_some : {A : Type 0} (o : Option A) (a : A) → o ≡ None → o ≡ Some a → ⊥
none_some None a e f = absurd cc
none_some (Some x) a e f = absurd cc

goes_on : (k : ℕ) (s : Session) (a : Answer) (t : State) → state_at s.document k ≡ Some t → Arrives k s a ⊎ Stumbles k s a → a ≡ goes_to k s
goes_on k s a t e (inl x) = x.answer
goes_on k s a t e (inr x) = absurd (none_some (refused_at s.document x.place) x.why (both k x.place s t e x.before) x.first.there)

does_go : (b : Bool) (k : ℕ) (s : Session) (a : Answer) (t : State) → state_at s.document k ≡ Some t → MatchBool b (Arrives k s a ⊎ Stumbles k s a) (a ≡ goes_to k s) → a ≡ goes_to k s
does_go true k s a t e x = goes_on k s a t e x
does_go false k s a t e x = x

goes : (k : ℕ) (s : Session) (a : Answer) (t : State) → state_at s.document k ≡ Some t → Obeys (command.Goto k) s a → a ≡ goes_to k s
goes k s a t e o =
    let there : nat_lt (len_of s.document) k ≡ false = le-ltb (len_of s.document) k (within s.document k t e) in
    does_go (nat_lt s.cursor k) k s a t e (rw there at o)

comes : (p q r : SessionState) (answer : Reply) → state_at q.session.document p.session.cursor ≡ Some p.machine.state
    → Answers (command.Goto p.session.cursor) q answer r.session → IsAtCursor r → ComesTo p answer r
comes p q r answer e (inr m) at = inr m.reply
comes p q r answer e (inl o) at =
    let k = p.session.cursor in
    let is : record { reply = answer; after = r.session } ≡ goes_to k q.session = goes k q.session (record { reply = answer; after = r.session }) p.machine.state e o in
    let after : r.session ≡ record q.session { cursor = k } = ap (λ (a : Answer). a.after) is in
    let there : state_at q.session.document k ≡ Some r.machine.state = sym (ap (λ (s : Session). state_at s.document s.cursor) after) ∙ at in
    inl (ap (λ (a : Answer). a.reply) is, some_same (state_at q.session.document k) r.machine.state p.machine.state there e)

pub saved_whole : (p : SessionState) → IsReadAgain p.session.document
    → ((d : Contents) → ReadsIn p.session.document.many p.session.document.loose (document_bytes p.session.document) d → state_at d p.session.cursor ≡ Some p.machine.state)
    → IsSavedWhole p
saved_whole p again reached = record {
  document = read_is_same p.session.document again;
  machine = λ q r answer opened answers at. comes p q r answer (reached q.session.document opened.document) answers at;
}
