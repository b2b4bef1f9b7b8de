use Rattle.std.proofs.Common.{◌≡◌, List, ℕ, IfOk, take, ap, subst, ◌∙◌}
use Rattle.byteorder.proofs.Bytes.{take-bytes_low_first}
use Rattle.opcode_assembler.proofs.number.little_bytes.Goals as goal

pub returns-clause-ok : goal.returns-clause-ok
returns-clause-ok c =
    subst (λ (xs : List ℕ). IfOk c.copied.result (λ v. v.items ≡ xs)) (ap (take c.args.width) c.to_le_bytes-bytes.ensures ∙ take-bytes_low_first 0 8 c.args.width c.args.number c.requires) c.copied.ensures.ok
