-- What a step did, as its record and the machine after it tell.
use Rattle.std.proofs.Common.{◌≡◌, ℕ, suc, ◌+◌, ◌-◌, ◌<◌, ◌≤◌, Bool, true, false, List, [], length, Option, None, Some, Result, Ok, Err, refl, sym, ap, subst, ◌∙◌, arith}
use Rattle.std.specs.Prelude.{nat_le, nat_lt, if◌then◌else◌, MatchOption}
use Rattle.std.proofs.lemmas.Bool.{lt-ltb, le-ltb, le-leb, ltb-true}
use Rattle.json_lines.specs.Line.{fields_text}
use Rattle.json_lines.proofs.Lines.{fields-none}
use Rattle.pickle_io.specs.Device.{Told, Wrote, Broke, Writes}
use Rattle.pickle_io.proofs.Devices.{Wrote-none}
use Rattle.pickle_ops.specs.Spelling.{Operation}
use Rattle.pickle_ops.specs.Row.{row_of}
use Rattle.pickle_doc.specs.Document.{Contents}
use Rattle.pickle_doc.specs.Place.{item_at, ops_of}
use Rattle.pickle_machine.specs.State.{State, start}
use Rattle.pickle_machine.specs.Move.{move}
use Rattle.pickle_machine.specs.Run.{run, after}
use Rattle.pickle_machine.specs.Back.{Record}
use Rattle.pickle_machine.specs.Records.{step_record}
use Rattle.pickle_machine.specs.Doing.{Doing, does, told_by}
use Rattle.pickle_machine.proofs.Doings.{step_told}
use Rattle.pickle_session.specs.Session.{Session, state_at}
use Rattle.pickle_session.specs.Allowed.{SessionState, kept_of}
use Rattle.pickle_session.specs.Steps.{record_on, record_at, kept_record}
use Rattle.pickle_session.proofs.Trails.{run_after, moved_by}
use Rattle.pickle_script.specs.declared.conversation.line.Line.{Line}
use Rattle.pickle_script.specs.declared.conversation.line.Line.TheVariants as line
use Rattle.pickle_script.specs.declared.conversation.line.Place.TheVariants as place
use Rattle.pickle_script.specs.declared.conversation.line.Query.{Query}
use Rattle.pickle_script.specs.declared.conversation.line.Query.TheVariants as query
use Rattle.pickle_script.specs.declared.conversation.line.Syntax.{Syntax}
use Rattle.pickle_script.specs.Grammar.{command_at}
use Rattle.debug_json.specs.declared.asked.Own.{Own}
use Rattle.debug_json.specs.declared.asked.Own.TheVariants as own
use Rattle.debug_json.specs.declared.asked.Asked.{Asked}
use Rattle.debug_json.specs.declared.asked.Asked.TheVariants as asking
use Rattle.debug_json.specs.declared.said.Said.{Said}
use Rattle.debug_json.specs.declared.said.Said.TheVariants as said
use Rattle.debug_json.specs.StepFields.{step_over, stepped_fields, step_fields}
use Rattle.debug_json.specs.Says.{SaysOnly, SaysReply, SaysLine, SaysOwn, SaysBy, shown, traced, made_of, IsTold}

-- ---- the record of the step before the cursor

last_kept : (p : SessionState) (found : Option Record) → 0 < kept_of p → kept_of p ≤ p.session.cursor
    → found ≡ kept_record p.session.document (kept_of p) p.session.cursor (p.session.cursor - 1) → found ≡ record_at p.session.document (p.session.cursor - 1)
last_kept p found h within e =
    let from : nat_le (p.session.cursor - kept_of p) (p.session.cursor - 1) ≡ true = le-leb _ _ (omega (arith, h, within)) in
    let before : nat_lt (p.session.cursor - 1) p.session.cursor ≡ true = lt-ltb _ _ (omega (arith, h, within)) in
    rw (from, before) at e

no_fields : (s : Session) (t : State) (o : Option Operation) (before : Option State) → None ≡ record_on o before → step_over s t o before ≡ []
no_fields s t (Some o) (Some before) e = absurd cc
no_fields s t (Some o) None e = refl
no_fields s t None before e = refl

-- at a place by which the record was looked for
at_last : (p : SessionState) (k : ℕ) (found : Option Record) → k ≡ p.session.cursor - 1 → found ≡ kept_record p.session.document (kept_of p) p.session.cursor k
    → found ≡ kept_record p.session.document (kept_of p) p.session.cursor (p.session.cursor - 1)
at_last p k found is e = subst (λ (j : ℕ). found ≡ kept_record p.session.document (kept_of p) p.session.cursor j) is e

pub no_record : (a : Told) (p : SessionState) (t : State) (k : ℕ) → 0 < kept_of p → kept_of p ≤ p.session.cursor → k ≡ p.session.cursor - 1
    → None ≡ kept_record p.session.document (kept_of p) p.session.cursor k → Wrote a a (fields_text (step_fields p.session t))
unfolding step_fields
no_record a p t k h within is e = rw (no_fields p.session t _ _ (last_kept p None h within (at_last p k None is e)), fields-none) (Wrote-none a)

over_nothing : (s : Session) (t : State) (o : Option Operation) (before : Option State) → o ≡ None → step_over s t o before ≡ []
over_nothing s t (Some o) before e = absurd cc
over_nothing s t None before e = refl

pub no_operation : (a : Told) (s : Session) (t : State) (k : ℕ) → k ≡ s.cursor - 1 → item_at s.document k ≡ None → Wrote a a (fields_text (step_fields s t))
unfolding step_fields
no_operation a s t k is e =
    let none : item_at s.document (s.cursor - 1) ≡ None = subst (λ (j : ℕ). item_at s.document j ≡ None) is e in
    rw (over_nothing s t _ _ none, fields-none) (Wrote-none a)

-- the state before the step
state_before : (x : Option Operation) (y : Option State) (o : Operation) (r : Record) → x ≡ Some o → Some r ≡ record_on x y
    → (before : State) × (y ≡ Some before) × (r ≡ step_record (row_of o) before)
state_before None y o r e f = absurd cc
state_before (Some p) None o r e f = absurd cc
state_before (Some p) (Some before) o r e f =
    let same : p ≡ o = cc in
    let is : r ≡ step_record (row_of p) before = cc in
    (before, refl, is ∙ ap (λ (q : Operation). step_record (row_of q) before) same)

pub is_stepped : (p : SessionState) (t : State) (o : Operation) (r : Record) → 0 < kept_of p → kept_of p ≤ p.session.cursor → Some r ≡ kept_record p.session.document (kept_of p) p.session.cursor (p.session.cursor - 1)
    → item_at p.session.document (p.session.cursor - 1) ≡ Some o → state_at p.session.document p.session.cursor ≡ Some t
    → step_fields p.session t ≡ stepped_fields p.session t (p.session.cursor - 1) o (told_by (row_of o) r t)
unfolding step_fields
is_stepped p t o r h within e item reached =
    let s : Session = p.session in
    let d : Contents = s.document in
    let k : ℕ = s.cursor - 1 in
    let b = state_before (item_at d k) (state_at d k) o r item (last_kept p (Some r) h within e) in
    let next : suc k ≡ s.cursor = omega (arith, h, within) in
    let there : after (item_at d k) k (state_at d k) ≡ Some t = run_after (start d.many) (ops_of d) k t (subst (λ (n : ℕ). state_at d n ≡ Some t) (sym next) reached) in
    let moved : move o k b.0 ≡ Ok t = moved_by (item_at d k) (state_at d k) o b.0 k t item b.1 there in
    let told : told_by (row_of o) r t ≡ does (row_of o) b.0 = ap (λ (x : Record). told_by (row_of o) x t) b.2 ∙ step_told o k b.0 t moved in
    rw (item, b.1) (ap (λ (x : Doing). stepped_fields s t k o x) (sym told))

pub Writes-stepped : {A E : Type 0} (a b : Told) (x : Result A E) (p : SessionState) (t : State) (k : ℕ) (o : Operation) (r : Record) → 0 < kept_of p → kept_of p ≤ p.session.cursor
    → k ≡ p.session.cursor - 1 → Some r ≡ kept_record p.session.document (kept_of p) p.session.cursor k → item_at p.session.document k ≡ Some o
    → state_at p.session.document p.session.cursor ≡ Some t
    → Writes a b x (fields_text (stepped_fields p.session t k o (told_by (row_of o) r t))) → Writes a b x (fields_text (step_fields p.session t))
Writes-stepped a b x p t k o r h within is e item reached w =
    let there : item_at p.session.document (p.session.cursor - 1) ≡ Some o = subst (λ (j : ℕ). item_at p.session.document j ≡ Some o) is item in
    let here : Writes a b x (fields_text (stepped_fields p.session t (p.session.cursor - 1) o (told_by (row_of o) r t))) =
    subst (λ (j : ℕ). Writes a b x (fields_text (stepped_fields p.session t j o (told_by (row_of o) r t)))) is w in
    rw (is_stepped p t o r h within (at_last p k (Some r) is e) there reached) here

pub ruleset step_steps = (no_record, no_operation, Writes-stepped)

-- ---- what is asked, and what is told

pub traces : (n : ℕ) (p : SessionState) → n ≡ kept_of p → 0 < n → SaysOwn own.Trace p said.Step p
traces n p e h = record { said_is = rw (lt-ltb 0 (kept_of p) (omega (arith, e, h))) refl; unchanged = refl }

pub lacks_trace : (n : ℕ) (p : SessionState) → n ≡ kept_of p → n ≤ 0 → SaysOwn own.Trace p said.NoStep p
lacks_trace n p e h = record { said_is = rw (le-ltb 0 (kept_of p) (omega (arith, e, h))) refl; unchanged = refl }

pub ruleset tracing_steps = (traces, lacks_trace)

is_told : (is what : Said) (q : SessionState) → what ≡ is → IsTold is q → IsTold what q
is_told is what q e h = rw e h

pub told_step : (what : Said) (p : SessionState) → what ≡ said.Step → IsTold what p → 0 < kept_of p
told_step what p e h = rw e at h

pub told_made : (what : Said) (p : SessionState) (n first : ℕ) → what ≡ said.Made n first → IsTold what p → first ≡ p.session.cursor - kept_of p
told_made what p n first e h = rw e at h

pub ruleset told_steps = (told_step, told_made)

shown_when : (b : Bool) (n : ℕ) (q : SessionState) → IsTold (if b then said.Shown (query.Show n) else said.NoObject n) q
shown_when true n q = tt
shown_when false n q = tt

shown_told : (asked : Query) (t : State) (q : SessionState) → IsTold (shown asked t) q
shown_told query.Items t q = tt
shown_told query.Objects t q = tt
shown_told query.Stack t q = tt
shown_told query.Memo t q = tt
shown_told (query.Show n) t q = shown_when (nat_lt n (length t.heap)) n q
shown_told query.Where t q = tt

told_line : (l : Line) (p q : SessionState) (what : Said) → SaysLine l p what q → IsTold what q
told_line line.Nothing p q what w = is_told said.Nothing what q w.said_is tt
told_line (line.Command c) p q what w = is_told (said.Replied w.answer) what q w.said_is tt
told_line (line.At (place.Number k) a) p q what w = is_told (said.Replied w.answer) what q w.said_is tt
told_line (line.At (place.Offset offset) a) p q what w = go w.found w.says
  where
    go : (found : Option ℕ) → MatchOption found (SaysOnly p (said.NoItem offset) what q) (λ k. SaysReply (command_at a k) p what q) → IsTold what q
    go None x = is_told (said.NoItem offset) what q x.said_is tt
    go (Some k) x = is_told (said.Replied x.answer) what q x.said_is tt
told_line (line.Query asked) p q what w = is_told (shown asked w.state) what q w.is_shown (shown_told asked w.state q)
told_line line.Quit p q what w = is_told said.Quit what q w.said_is tt

told_when : (b : Bool) (p : SessionState) → nat_lt 0 (kept_of p) ≡ b → IsTold (if b then said.Step else said.NoStep) p
told_when true p e = ltb-true 0 (kept_of p) e
told_when false p e = tt

made_when : (b : Bool) (n : ℕ) (p : SessionState) → IsTold (if b then said.Made n (p.session.cursor - kept_of p) else said.NoObject n) p
made_when true n p = refl
made_when false n p = tt

told_own : (o : Own) (p q : SessionState) (what : Said) → SaysOwn o p what q → IsTold what q
told_own own.Breaks p q what w = is_told said.Breaks what q w.said_is tt
told_own (own.Items a b) p q what w = is_told (said.SomeItems a b) what q w.said_is tt
told_own (own.Objects a b) p q what w = is_told (said.SomeObjects a b) what q w.said_is tt
told_own own.Trace p q what w = is_told (traced p) what q w.said_is (subst (λ (x : SessionState). IsTold (traced p) x) (sym w.unchanged) (told_when (nat_lt 0 (kept_of p)) p refl))
told_own (own.Made n) p q what w =
    is_told (made_of n p w.state) what q w.is_made (subst (λ (x : SessionState). IsTold (made_of n p w.state) x) (sym w.unchanged) (made_when (nat_lt n (length w.state.heap)) n p))

-- what is said of a step has a record
pub said_told : (says : Result Asked Syntax) (p q : SessionState) (what : Said) → SaysBy says p what q → IsTold what q
said_told (Ok (asking.Line l)) p q what w = told_line l p q what w
said_told (Ok (asking.Own o)) p q what w = told_own o p q what w
said_told (Err f) p q what w = is_told (said.Bad f) what q w.said_is tt
