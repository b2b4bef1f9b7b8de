use Rattle.std.proofs.Common.{ap, ◌∙◌, List, ℕ, take}
use Rattle.pickle_io.proofs.Devices.{Broke-first, Writes-next, Writes-there, Writes-stop}
use Rattle.pickle_list.proofs.Codes.{cells_taken}
use Rattle.pickle_list.proofs.PageLines.{head_there}
use Rattle.pickle_list.proofs.put.write_head.Goals as goal

pub returns-in_err-make_room-clause-text : goal.returns-in_err-make_room-clause-text
returns-in_err-make_room-clause-text g c = Writes-stop _ _ c.from_residual.result c.from_residual.result _ c.from_residual.ensures.0 (Broke-first _ _ _ c.in_err-make_room.ensures.writes)

pub returns-clause-text : goal.returns-clause-text
returns-clause-text g c =
    let code = ap (λ (l : List ℕ). take 7 l) c.code_block.ensures ∙ cells_taken c.args.opcode in
    let head = rw (head_there c.args.opcode c.code_block.result.now c.args.offset.now code) at c.push_offset.ensures.text in
    Writes-there _ _ _ c.write_blanks.result _ (Writes-next _ _ _ c.write_blanks.result _ _ c.write_blanks.ensures.text head) c.in_ok-make_room.ensures.writes
