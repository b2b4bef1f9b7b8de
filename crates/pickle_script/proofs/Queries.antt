-- What a query of a session is answered.
use Rattle.std.proofs.Common.{◌≡◌, ℕ, ◌<◌, ◌≤◌, true, List, length, Some, Result, Ok, Err, refl, inl, inr}
use Rattle.std.proofs.lemmas.Bool.{lt-ltb, le-ltb}
use Rattle.pickle_io.specs.declared.sink.Failed.{Failed}
use Rattle.pickle_io.specs.Device.{Told, Wrote, Broke}
use Rattle.pickle_ops.specs.Object.{Object}
use Rattle.pickle_machine.specs.State.{State}
use Rattle.pickle_session.specs.Session.{Session, state_at}
use Rattle.pickle_session.specs.Allowed.{SessionState}
use Rattle.object_texts.specs.Show.{show_text}
use Rattle.pickle_script.specs.declared.conversation.line.Line.TheVariants as line
use Rattle.pickle_script.specs.declared.conversation.line.Query.{Query}
use Rattle.pickle_script.specs.declared.conversation.line.Query.TheVariants as query
use Rattle.pickle_script.specs.declared.conversation.line.Syntax.TheVariants as syntax
use Rattle.pickle_script.specs.ReplyText.{syntax_line, no_object_line}
use Rattle.pickle_script.specs.Query.{shown, query_text, asks_memory}
use Rattle.pickle_script.specs.Transcript.{is_refusal}
use Rattle.pickle_script.specs.declared.conversation.outcome.Outcome.{Outcome}
use Rattle.pickle_script.specs.declared.conversation.outcome.Outcome.TheVariants as outcome
use Rattle.pickle_script.specs.Inside.Progress.{was_refused, WritesQuery, WritesLine}
use Rattle.pickle_script.proofs.Refusals.{line_refuses, missing_refuses, show_accepts}

-- ---- a text is written

pub query_wrote : (q : Query) (s : Session) (t : State) (a b : Told) (text : List ℕ) (o : Outcome) → text ≡ query_text q s t → was_refused o ≡ is_refusal text → Wrote a b text → WritesQuery q s t a b (Ok o)
query_wrote q s t a b text o e r w = record { text = text; text_is = inl e; writes = w; refuses = r }

pub query_broke : (q : Query) (s : Session) (t : State) (a b : Told) (text : List ℕ) (f : Failed) → text ≡ query_text q s t → Broke a b text → WritesQuery q s t a b (Err f)
query_broke q s t a b text f e w = record { text = text; text_is = inl e; writes = w; refuses = tt }

lacks_wrote : (q : Query) (s : Session) (t : State) (a b : Told) → asks_memory q t ≡ true → Wrote a b (syntax_line syntax.Memory) → WritesQuery q s t a b (Ok outcome.Refused)
lacks_wrote q s t a b asks w = record { text = syntax_line syntax.Memory; text_is = inr (asks, refl); writes = w; refuses = line_refuses syntax.Memory }

lacks_broke : (q : Query) (s : Session) (t : State) (a b : Told) (f : Failed) → asks_memory q t ≡ true → Broke a b (syntax_line syntax.Memory) → WritesQuery q s t a b (Err f)
lacks_broke q s t a b f asks w = record { text = syntax_line syntax.Memory; text_is = inr (asks, refl); writes = w; refuses = tt }

-- ---- an object is shown

there : (heap : List Object) (n : ℕ) → n < length heap → show_text heap n ≡ shown heap n
there heap n h = rw (lt-ltb n (length heap) h) refl

missing : (heap : List Object) (n : ℕ) → length heap ≤ n → no_object_line ≡ shown heap n
missing heap n h = rw (le-ltb n (length heap) h) refl

pub show_wrote : (s : Session) (t : State) (a b : Told) (n : ℕ) → n < length t.heap → Wrote a b (show_text t.heap n) → WritesQuery (query.Show n) s t a b (Ok outcome.Accepted)
show_wrote s t a b n h w = query_wrote (query.Show n) s t a b (show_text t.heap n) outcome.Accepted (there t.heap n h) (show_accepts t.heap n) w

pub show_broke : (s : Session) (t : State) (a b : Told) (n : ℕ) (f : Failed) → n < length t.heap → Broke a b (show_text t.heap n) → WritesQuery (query.Show n) s t a b (Err f)
show_broke s t a b n f h w = query_broke (query.Show n) s t a b (show_text t.heap n) f (there t.heap n h) w

pub show_lacks_wrote : (s : Session) (t : State) (a b : Told) (n : ℕ) → n < length t.heap → Wrote a b (syntax_line syntax.Memory) → WritesQuery (query.Show n) s t a b (Ok outcome.Refused)
show_lacks_wrote s t a b n h w = lacks_wrote (query.Show n) s t a b (lt-ltb n (length t.heap) h) w

pub show_lacks_broke : (s : Session) (t : State) (a b : Told) (n : ℕ) (f : Failed) → n < length t.heap → Broke a b (syntax_line syntax.Memory) → WritesQuery (query.Show n) s t a b (Err f)
show_lacks_broke s t a b n f h w = lacks_broke (query.Show n) s t a b f (lt-ltb n (length t.heap) h) w

pub missing_wrote : (s : Session) (t : State) (a b : Told) (n : ℕ) → length t.heap ≤ n → Wrote a b no_object_line → WritesQuery (query.Show n) s t a b (Ok outcome.Refused)
missing_wrote s t a b n h w = query_wrote (query.Show n) s t a b no_object_line outcome.Refused (missing t.heap n h) missing_refuses w

pub missing_broke : (s : Session) (t : State) (a b : Told) (n : ℕ) (f : Failed) → length t.heap ≤ n → Broke a b no_object_line → WritesQuery (query.Show n) s t a b (Err f)
missing_broke s t a b n f h w = query_broke (query.Show n) s t a b no_object_line f (missing t.heap n h) w

-- ---- a line asks

pub line_of_query : {r : Result Outcome Failed} (q : Query) (p : SessionState) (t : State) (a b : Told) → state_at p.session.document p.session.cursor ≡ Some t → WritesQuery q p.session t a b r
    → WritesLine (Ok (line.Query q)) p p a b r
line_of_query q p t a b e w = record { text = w.text; prints = record { state = t; reached = e; text_is = w.text_is; unchanged = refl }; writes = w.writes; refuses = w.refuses }

pub ruleset query_steps = (show_wrote, show_broke, show_lacks_wrote, show_lacks_broke, missing_wrote, missing_broke)
