-- The fields of the line of what is reached are plain, so that the line is read back.
use Rattle.std.proofs.Common.{◌≡◌, ℕ, Bool, true, List, refl}
use Rattle.std.specs.Prelude.{codes}
use Rattle.std.specs.List.{list_all}
use Rattle.pickle_ops.specs.declared.opcode.Opcode.{Opcode}
use Rattle.pickle_ops.specs.declared.opcode.Opcode.TheVariants as op
use Rattle.pickle_ops.specs.Spelling.{Operation}
use Rattle.pickle_lenient.specs.declared.taken.Frames.{Frames}
use Rattle.pickle_lenient.specs.declared.taken.Frames.TheVariants as frames
use Rattle.pickle_reach.specs.declared.spot.Spot.{Spot}
use Rattle.json_lines.specs.Json.{is_plain}
use Rattle.json_lines.specs.Readable.{ArePlain}
use Rattle.json_lines.proofs.Fields.{fields_are_plain}
use Rattle.json_lines.proofs.Nested.{word, truth, plain_line_reads}
use Rattle.pickle_json.specs.ReachFields.{reach_name, frames_name, loader_fields, by_fields, reached_fields, reached_line, follows_fields, nothing_fields, nothing_line, ways_fields, ways_line}
use Rattle.pickle_json.specs.ReachReadable.{ReachLinesReadBack}
use Rattle.pickle_json.proofs.Readable.{argument, head, ended}

reach_plain : (o : Opcode) → list_all is_plain (reach_name o) ≡ true
unfolding reach_name
reach_plain op.Ext1 = refl
reach_plain _ = refl

frames_plain : (f : Frames) → list_all is_plain (frames_name f) ≡ true
unfolding frames_name
frames_plain frames.Ignored = refl
frames_plain frames.Buffered = refl
frames_plain frames.Held = refl

loader : (s : Spot) (f : Frames) (o : Opcode) → ArePlain (loader_fields s f o)
unfolding loader_fields
loader s f o =
    fields_are_plain.joined _ _ (fields_are_plain.joined _ _ (fields_are_plain.texts (codes "reach") (reach_name o) (word (codes "reach") refl) (word (reach_name o) (reach_plain o)))
    (fields_are_plain.texts (codes "frames") (frames_name f) (word (codes "frames") refl) (word (frames_name f) (frames_plain f)))) (fields_are_plain.wholes (codes "in_buffer") s.left (word (codes "in_buffer") refl))

by : (offset : ℕ) (o : Operation) → ArePlain (by_fields offset o)
unfolding by_fields
by offset o = fields_are_plain.joined _ _ (fields_are_plain.joined _ _ (ended (codes "reached") refl) (head o offset)) (argument o)

reached : (s : Spot) (f : Frames) (o : Operation) → ArePlain (reached_fields s f o)
reached s f o = fields_are_plain.joined _ _ (by s.offset o) (loader s f o.opcode)

follows : (settled : Bool) → ArePlain (follows_fields settled)
unfolding follows_fields
follows settled = truth (codes "whatever_follows") settled refl

nothing : (offset : ℕ) (settled : Bool) → ArePlain (nothing_fields offset settled)
nothing offset settled =
    fields_are_plain.joined _ _ (fields_are_plain.joined _ _ (ended (codes "nothing") refl) (fields_are_plain.wholes (codes "offset") offset (word (codes "offset") refl)))
    (follows settled)

pub reach_lines_read_back : ReachLinesReadBack
unfolding reached_line nothing_line ways_line
reach_lines_read_back = record {
  reached = λ s f o. plain_line_reads (codes "end") (reached_fields s f o) refl (reached s f o);
  nothing = λ offset settled. plain_line_reads (codes "end") (nothing_fields offset settled) refl (nothing offset settled);
  ways = plain_line_reads (codes "end") ways_fields refl (ended (codes "too_many_ways") refl);
}
