-- The lines that commands are answered with.
-- Source: own. Why a run stopped has the fields of the last line of a listing.
use Rattle.std.specs.Prelude.{ℕ, List, codes, None}
use Rattle.json_lines.specs.Line.{Field, ◌⊕◌, line}
use Rattle.pickle_doc.specs.declared.fault.End.{End}
use Rattle.pickle_session.specs.declared.reply.Why.{Why}
use Rattle.pickle_session.specs.declared.reply.Why.TheVariants as why
use Rattle.pickle_session.specs.declared.reply.Reply.{Reply}
use Rattle.pickle_session.specs.declared.reply.Reply.TheVariants as reply
use Rattle.pickle_json.specs.EndFields.{how_fields, refused_fields}
use Rattle.debug_json.specs.RefusedFields.{end_fields, place_field, refused_command}

-- why a run stopped, where the document ends so
abbrev pub why_fields : End → Why → List Field
why_fields e why.End = end_fields e
why_fields e why.Breakpoint = how_fields (codes "breakpoint")
why_fields e (why.Refused r) = refused_fields r None

abbrev pub ran_fields : End → ℕ → Why → List Field
ran_fields e k w = place_field k ⊕ why_fields e w

unfoldable pub ran_line : End → ℕ → Why → List ℕ
ran_line e k w = line (codes "ran") (ran_fields e k w)

-- a kind, and the place that it is about
unfoldable pub placed_line : List ℕ → ℕ → List ℕ
placed_line kind k = line kind (place_field k)

-- the line of a reply about a document that ends so
unfoldable pub reply_line : End → Reply → List ℕ
reply_line e (reply.At k) = placed_line (codes "at") k
reply_line e (reply.Ran k w) = ran_line e k w
reply_line e (reply.Broke k) = placed_line (codes "broke") k
reply_line e (reply.Cleared k) = placed_line (codes "cleared") k
reply_line e (reply.Edited k) = placed_line (codes "edited") k
reply_line e (reply.Undone k) = placed_line (codes "undone") k
reply_line e (reply.Redone k) = placed_line (codes "redone") k
reply_line e (reply.Refused f) = refused_command f
