-- A command at the place that a line names.
use Rattle.std.proofs.Common.{ℕ, None, Some, Result, Ok, Err, refl}
use Rattle.pickle_io.specs.declared.sink.Failed.{Failed}
use Rattle.pickle_io.specs.Device.{Told, Wrote, Broke}
use Rattle.pickle_doc.specs.Place.{IsPlaceAt}
use Rattle.pickle_session.specs.Allowed.{SessionState}
use Rattle.pickle_script.specs.declared.conversation.line.Line.TheVariants as line
use Rattle.pickle_script.specs.declared.conversation.line.Place.TheVariants as place
use Rattle.pickle_script.specs.declared.conversation.line.Action.{Action}
use Rattle.pickle_script.specs.Grammar.{command_at}
use Rattle.pickle_script.specs.ReplyText.{no_item_line}
use Rattle.pickle_script.specs.declared.conversation.outcome.Outcome.{Outcome}
use Rattle.pickle_script.specs.declared.conversation.outcome.Outcome.TheVariants as outcome
use Rattle.pickle_script.specs.Inside.Progress.{WritesLine}
use Rattle.pickle_script.proofs.Refusals.{no_item_refuses}

-- ---- it is named by its number

pub at_number : {r : Result Outcome Failed} (k : ℕ) (x : Action) (p q : SessionState) (a b : Told)
    → WritesLine (Ok (line.Command (command_at x k))) p q a b r → WritesLine (Ok (line.At (place.Number k) x)) p q a b r
at_number k x p q a b w = record { text = w.text; prints = w.prints; writes = w.writes; refuses = w.refuses }

-- ---- it is named by its offset

pub at_offset : {r : Result Outcome Failed} (k offset : ℕ) (x : Action) (p q : SessionState) (a b : Told) → IsPlaceAt p.session.document offset (Some k)
    → WritesLine (Ok (line.Command (command_at x k))) p q a b r → WritesLine (Ok (line.At (place.Offset offset) x)) p q a b r
at_offset k offset x p q a b e w = record { text = w.text; prints = record { found = Some k; is_found = e; prints = w.prints }; writes = w.writes; refuses = w.refuses }

-- ---- no place has this offset

pub nowhere_wrote : (offset : ℕ) (x : Action) (p : SessionState) (a b : Told) → IsPlaceAt p.session.document offset None → Wrote a b (no_item_line offset)
    → WritesLine (Ok (line.At (place.Offset offset) x)) p p a b (Ok outcome.Refused)
nowhere_wrote offset x p a b e w = record {
  text = no_item_line offset;
  prints = record { found = None; is_found = e; prints = record { text_is = refl; unchanged = refl } };
  writes = w;
  refuses = no_item_refuses offset;
}

pub nowhere_broke : (offset : ℕ) (x : Action) (p : SessionState) (a b : Told) (f : Failed) → IsPlaceAt p.session.document offset None → Broke a b (no_item_line offset)
    → WritesLine (Ok (line.At (place.Offset offset) x)) p p a b (Err f)
nowhere_broke offset x p a b f e w = record {
  text = no_item_line offset;
  prints = record { found = None; is_found = e; prints = record { text_is = refl; unchanged = refl } };
  writes = w;
  refuses = tt;
}

pub ruleset placing_steps = (at_number, at_offset, nowhere_wrote, nowhere_broke)
