-- What an edit leaves of the lines of the items before its place.
-- Source: own. The edit may change the number of one FRAME, of the frame that its place is in: its line in a listing shows another number
-- then, and no other line does.
use Rattle.std.specs.Prelude.{◌≡◌, ◌≢◌, ◌⊎◌, ◌<◌, ◌≤◌, ℕ, List, Option, Some}
use Rattle.std.specs.Option.{option_map}
use Rattle.pickle_ops.specs.Spelling.{Operation}
use Rattle.pickle_doc.specs.Alike.{AreAlike}
use Rattle.pickle_doc.specs.Document.{Contents}
use Rattle.pickle_doc.specs.Place.{item_at, offset_of, frame_at}
use Rattle.pickle_machine.specs.State.{State}
use Rattle.pickle_session.specs.Session.{state_at}
use Rattle.pickle_calls.specs.Manner.{Manner}
use Rattle.pickle_calls.specs.Calls.{entry_at}
use Rattle.pickle_list.specs.Listing.{line_at}
use Rattle.object_texts.specs.ObjectText.{objects_text}

-- the lines of the objects that the items before a place make, as they are there
abbrev pub objects_at : Contents → ℕ → Option (List ℕ)
objects_at d k = option_map (λ (s : State). objects_text s.heap) (state_at d k)

-- before this place two documents show the same
pub record ShowSame (k : ℕ) (d e : Contents) : Type 0 where
  -- the place of one FRAME, if any: item k is in its frame, before the edit or after it
  pub frame : Option ℕ
  pub around : (i : ℕ) → frame ≡ Some i → (frame_at d k ≡ Some i) ⊎ (frame_at e k ≡ Some i)
  -- but for it the items are the same, and it is a FRAME in both; each begins at the same offset
  pub items : (i : ℕ) → i < k → frame ≢ Some i → item_at e i ≡ item_at d i
  pub alike : (i : ℕ) (o : Operation) → i < k → item_at d i ≡ Some o → (p : Operation) × (item_at e i ≡ Some p) × AreAlike o p
  pub offsets : (i : ℕ) → i ≤ k → offset_of e i ≡ offset_of d i
  -- `list`: the line of each item that is the same
  pub listed : (i : ℕ) → i < k → item_at e i ≡ item_at d i → line_at e i ≡ line_at d i
  -- the run comes to the same state: so to the same marks, of the FRAME's line too, and to the same objects that a STOP leaves
  pub reached : (i : ℕ) → i ≤ k → state_at e i ≡ state_at d i
  -- `objects`, where the run has come to a place
  pub objects : (i : ℕ) → i ≤ k → objects_at e i ≡ objects_at d i
  -- `calls`: what each item comes to
  pub called : (how : Manner) (i : ℕ) → i < k → entry_at how e i ≡ entry_at how d i
