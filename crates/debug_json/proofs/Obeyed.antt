-- What is said of a command at the place that a line names, and where something is shown.
use Rattle.std.proofs.Common.{◌≡◌, ℕ, ◌<◌, ◌≤◌, length, None, Some, refl}
use Rattle.std.proofs.lemmas.Bool.{lt-ltb, le-ltb}
use Rattle.pickle_doc.specs.Place.{IsPlaceAt}
use Rattle.pickle_machine.specs.State.{State}
use Rattle.pickle_session.specs.Allowed.{SessionState}
use Rattle.pickle_session.specs.Session.{state_at}
use Rattle.pickle_script.specs.declared.conversation.line.Line.TheVariants as line
use Rattle.pickle_script.specs.declared.conversation.line.Place.TheVariants as place
use Rattle.pickle_script.specs.declared.conversation.line.Action.{Action}
use Rattle.pickle_script.specs.declared.conversation.line.Query.{Query}
use Rattle.pickle_script.specs.declared.conversation.line.Query.TheVariants as query
use Rattle.pickle_script.specs.Grammar.{command_at}
use Rattle.debug_json.specs.declared.said.Said.{Said}
use Rattle.debug_json.specs.declared.said.Said.TheVariants as said
use Rattle.debug_json.specs.Says.{SaysLine, shown}

-- ---- a place

pub at_number : (k : ℕ) (x : Action) (p q : SessionState) (what : Said)
    → SaysLine (line.Command (command_at x k)) p what q → SaysLine (line.At (place.Number k) x) p what q
at_number k x p q what w = w

pub at_offset : (k offset : ℕ) (x : Action) (p q : SessionState) (what : Said) → IsPlaceAt p.session.document offset (Some k)
    → SaysLine (line.Command (command_at x k)) p what q → SaysLine (line.At (place.Offset offset) x) p what q
at_offset k offset x p q what e w = record { found = Some k; is_found = e; says = w }

pub nowhere : (offset : ℕ) (x : Action) (p : SessionState) → IsPlaceAt p.session.document offset None
    → SaysLine (line.At (place.Offset offset) x) p (said.NoItem offset) p
nowhere offset x p e = record { found = None; is_found = e; says = record { said_is = refl; unchanged = refl } }

pub ruleset placing_steps = (at_number, at_offset, nowhere)

-- ---- something is shown

pub shows : (asked : Query) (p : SessionState) (t : State) (what : Said) → state_at p.session.document p.session.cursor ≡ Some t → what ≡ shown asked t
    → SaysLine (line.Query asked) p what p
shows asked p t what e is = record { state = t; reached = e; is_shown = is; unchanged = refl }

pub shows_object : (n : ℕ) (p : SessionState) (t : State) → state_at p.session.document p.session.cursor ≡ Some t → n < length t.heap
    → SaysLine (line.Query (query.Show n)) p (said.Shown (query.Show n)) p
shows_object n p t e h = shows (query.Show n) p t (said.Shown (query.Show n)) e (rw (lt-ltb n (length t.heap) h) refl)

pub lacks_object : (n : ℕ) (p : SessionState) (t : State) → state_at p.session.document p.session.cursor ≡ Some t → length t.heap ≤ n
    → SaysLine (line.Query (query.Show n)) p (said.NoObject n) p
lacks_object n p t e h = shows (query.Show n) p t (said.NoObject n) e (rw (le-ltb n (length t.heap) h) refl)

pub ruleset showing_steps = (shows, shows_object, lacks_object)
