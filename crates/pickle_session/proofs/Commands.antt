-- An edit of a session: the answer where there is no room for its record, and the document before it with the identity that it gives.
use Rattle.std.proofs.Common.{◌≡◌, ℕ, ◌+◌, ◌≤◌, ◌∷◌, ◌++◌, [], List, Bool, true, false, ◌||◌, None, if◌then◌else◌, length, take, refl, sym, ap, ◌∙◌, arith, inr}
use Rattle.std.specs.Prelude.{MatchBool}
use Rattle.pickle_ops.specs.Spelling.{Operation}
use Rattle.pickle_doc.specs.declared.edit.Edit.{Edit}
use Rattle.pickle_doc.specs.declared.record.EditRecord.{EditRecord}
use Rattle.pickle_doc.specs.Document.{Contents, items_of}
use Rattle.pickle_doc.specs.Edit as doc
use Rattle.pickle_doc.specs.Swap.{record_place, EditLeads}
use Rattle.pickle_session.specs.declared.reply.Fault.TheVariants as fault
use Rattle.pickle_session.specs.declared.reply.Reply.TheVariants as reply
use Rattle.pickle_session.specs.declared.command.Command.TheVariants as command
use Rattle.pickle_session.specs.Session.{Session, snapshot, fault_of}
use Rattle.pickle_session.specs.Allowed.{SessionState, Answers, needs_record}
use Rattle.pickle_session.specs.Inside.History.{sides, records_before, AreSides}
use Rattle.pickle_session.proofs.Editing.{edit_undos, edit_undos_raised}
use Rattle.pickle_session.proofs.Histories.{sides_raised}

takes : (a b c : Bool) → c ≡ true → (a || (b || c)) ≡ true
takes true b c h = refl
takes false true c h = refl
takes false false c h = h

-- there was no room for the record
pub record_lacks : (e : Edit Operation) (p : SessionState) (s t : Session) → s ≡ p.session → t ≡ s → fault_of (command.Edit e) s ≡ None → needs_record s ≡ true → Answers (command.Edit e) p (reply.Refused fault.Memory) t
record_lacks e p s t h same good needs = inr (record { good = ap (fault_of (command.Edit e)) (sym h) ∙ good; takes = takes (doc.has_op e) (doc.adds_item e) _ (ap needs_record (sym h) ∙ needs); reply = refl; unchanged = same ∙ h })

-- ---- the document before an edit, with the identity given that it gives

pub given_items : (e : Edit Operation) (d : Contents) → items_of (doc.raised_next_by e d) ≡ items_of d
given_items e d = go (doc.adds_item e)
  where
    go : (b : Bool) → items_of (if b then doc.raised_next d else d) ≡ items_of d
    go true = refl
    go false = refl

pub given_many : (e : Edit Operation) (d : Contents) → (doc.raised_next_by e d).many ≡ d.many
given_many e d = go (doc.adds_item e)
  where
    go : (b : Bool) → (if b then doc.raised_next d else d).many ≡ d.many
    go true = refl
    go false = refl

pub given_sides : (e : Edit Operation) (d : Contents) (n : ℕ) (rs : List EditRecord) → AreSides d n rs → AreSides (doc.raised_next_by e d) n rs
given_sides e d n rs h = go (doc.adds_item e)
  where
    go : (b : Bool) → AreSides (if b then doc.raised_next d else d) n rs
    go true = sides_raised d n rs h
    go false = h

pub given_undos : (ed : Edit Operation) (d e : Contents) (p place : ℕ) (rs rs' : List EditRecord) (r : EditRecord) → p ≤ length rs → EditLeads r e (doc.raised_next_by ed d) → record_place r ≡ place → rs' ≡ take p rs ++ r ∷ []
    → sides e (records_before (p + 1) rs') ≡ snapshot place d ∷ sides d (records_before p rs)
given_undos ed d e p place rs rs' r h l q is = go (doc.adds_item ed) l
  where
    go : (b : Bool) → EditLeads r e (if b then doc.raised_next d else d) → sides e (records_before (p + 1) rs') ≡ snapshot place d ∷ sides d (records_before p rs)
    go true l = edit_undos_raised d e p place rs rs' r h l q is
    go false l = edit_undos d e p place rs rs' r h l q is

pub room_kept : (e : Edit Operation) (m n : ℕ) → doc.KeepsRoom e m n → m ≤ n
room_kept e m n h = go (doc.adds_item e) h
  where
    go : (b : Bool) → MatchBool b (m ≤ n) (n ≡ m) → m ≤ n
    go true h = h
    go false h = omega (arith, h)
