use Rattle.std.proofs.Common.{◌≡◌, ◌∷◌, ◌++◌, [], List, None, take, drop, ap, sym, ◌∙◌, arith, rules}
use Rattle.pickle_ops.specs.Spelling.{Operation}
use Rattle.pickle_doc.specs.declared.edit.Edit.{Edit}
use Rattle.pickle_doc.specs.declared.record.EditRecord.{EditRecord}
use Rattle.pickle_doc.specs.Edit as doc
use Rattle.pickle_doc.specs.Swap.{record_place}
use Rattle.pickle_session.specs.declared.command.Command.TheVariants as command
use Rattle.pickle_session.specs.Allowed.{SessionState}
use Rattle.pickle_session.specs.Inside.History.{records_before, sides, session_of}
use Rattle.pickle_session.proofs.Editing.{edit_live, edit_keeps, edit_redos, edit_ahead, edit_is, edit_answer, lacks_record, err_of}
use Rattle.pickle_session.proofs.Commands.{record_lacks, given_items, given_many, given_sides, given_undos, room_kept}
use Rattle.pickle_session.proofs.session.Session.edit.Goals as goal

pub returns-then-is_err-clause-answers : goal.returns-then-is_err-clause-answers
returns-then-is_err-clause-answers g c =
    let none : c.edit_refusal.result ≡ None = search rules in
    let d = c.self.inside.document.contents in
    let here = session_of d c.self.inside.walker.place c.self.inside.breaks.keys c.self.inside.edits.items c.self.inside.done in
    let s : here ≡ c.args.self.now.session = ap (λ (t : SessionState). t.session) c.self.view_is in
    let full = err_of c.make_ready.result _ (sym c.is_err.ensures.value ∙ c.if-is_err.true) c.make_ready.ensures.err in
    record_lacks c.args.edit.now _ here _ s (ap (λ (qs : List EditRecord). session_of d c.self.inside.walker.place c.self.inside.breaks.keys qs c.self.inside.done) c.make_ready.ensures.items) (sym c.edit_refusal.ensures ∙ none) (lacks_record _ _ _ _ _ c.self.inside.walker.place c.self.inside.breaks.keys c.self.invariant.1 full.0 full.1)

pub invariant_of-self-in-Ok-apply : goal.invariant_of-self-in-Ok-apply
invariant_of-self-in-Ok-apply g c =
    let none : c.edit_refusal.result ≡ None = search rules in
    let ahead = edit_ahead _ _ _ (sym c.edit_refusal.ensures ∙ none) in
    let e = c.apply.new.self.contents in
    let d = c.self.inside.document.contents in
    let p = c.self.inside.done in
    let rs = c.self.inside.edits.items in
    let r = c.in-Ok-apply.record in
    let ed = c.in-Ok.edit in
    let place : record_place r ≡ doc.edit_place c.args.edit.now = c.in-Ok-apply.ensures.place ∙ ap doc.edit_place c.in-Ok.ensures.ok in
    let is : c.keep_edit.new.edits.items ≡ take p rs ++ r ∷ [] = c.keep_edit.ensures.items ∙ ap (λ (qs : List EditRecord). take p qs ++ r ∷ []) c.make_ready.ensures.items in
    edit_keeps d (doc.raised_next_by ed d) e _ (doc.edit_place c.args.edit.now) _ _ p _ _ _ rs _ r c.self.invariant.0 c.self.invariant.1 (given_sides ed d _ _ c.self.invariant.1.back) (given_items ed d) (given_many ed d) c.in-Ok-apply.ensures.back place ahead c.in-Ok-apply.ensures.document c.in-Ok-apply.ensures.small is
    (room_kept ed _ _ c.apply.ensures.total) (omega arith) (omega (arith, c.keep_edit.ensures.capacity, c.make_ready.ensures.capacity, c.self.invariant.1.room))

pub returns-in-Ok-apply-clause-answers : goal.returns-in-Ok-apply-clause-answers
returns-in-Ok-apply-clause-answers g c =
    let none : c.edit_refusal.result ≡ None = search rules in
    let e = c.apply.new.self.contents in
    let d = c.self.inside.document.contents in
    let p = c.self.inside.done in
    let rs = c.self.inside.edits.items in
    let r = c.in-Ok-apply.record in
    let ed = c.args.edit.now in
    let k = doc.edit_place ed in
    let place : record_place r ≡ k = c.in-Ok-apply.ensures.place ∙ ap doc.edit_place c.in-Ok.ensures.ok in
    let is : c.keep_edit.new.edits.items ≡ take p rs ++ r ∷ [] = c.keep_edit.ensures.items ∙ ap (λ (qs : List EditRecord). take p qs ++ r ∷ []) c.make_ready.ensures.items in
    let here = session_of d c.self.inside.walker.place c.self.inside.breaks.keys rs p in
    let s : here ≡ c.args.self.now.session = ap (λ (t : SessionState). t.session) c.self.view_is in
    let undos = given_undos c.in-Ok.edit d e p k rs _ r c.self.invariant.1.within c.in-Ok-apply.ensures.back place is in
    let redos = edit_redos e p rs _ r c.self.invariant.1.within is in
    let after = c.in-Ok-apply.ensures.ok ∙ ap (λ (x : Edit Operation). doc.edited x d) c.in-Ok.ensures.ok in
    rw c.place-place.ensures (edit_answer (command.Edit ed) _ here _ _ s (sym c.edit_refusal.ensures ∙ none)
    (edit_is d e _ k _ _ (sides d (records_before p rs)) (sides d (drop p rs)) _ _ after undos redos))

pub returns-in-Ok-apply-clause-stands : goal.returns-in-Ok-apply-clause-stands
returns-in-Ok-apply-clause-stands g c =
    let none : c.edit_refusal.result ≡ None = search rules in
    let ahead = edit_ahead _ _ _ (sym c.edit_refusal.ensures ∙ none) in
    let d = c.self.inside.document.contents in
    let r = c.in-Ok-apply.record in
    let ed = c.in-Ok.edit in
    let place : record_place r ≡ doc.edit_place c.args.edit.now = c.in-Ok-apply.ensures.place ∙ ap doc.edit_place c.in-Ok.ensures.ok in
    let live = edit_live d (doc.raised_next_by ed d) c.apply.new.self.contents _ (doc.edit_place c.args.edit.now) _ r c.self.invariant.0 (given_items ed d) (given_many ed d) c.in-Ok-apply.ensures.back place ahead c.in-Ok-apply.ensures.document c.in-Ok-apply.ensures.small in
    (rw (← c.self.view_is) c.self.invariant.0.stands.trail.reached, live.stands.trail.reached)
