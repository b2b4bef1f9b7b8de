use Rattle.std.proofs.Common.{ℕ, drop, ap, sym, ◌∙◌}
use Rattle.std.proofs.lemmas.List.{nil_from_length}
use Rattle.opcode_assembler.specs.Assembly.{is_newline}
use Rattle.opcode_assembler.proofs.Cuts.{prefix_len-within, front_is, tail_of, rest_is}
use Rattle.opcode_assembler.proofs.assembly.cut_line.Goals as goal

pub split_at-requires : goal.split_at-requires
split_at-requires c = rw c.line_len.ensures (prefix_len-within _ _)

pub returns-in-Some-clause-line : goal.returns-in-Some-clause-line
returns-in-Some-clause-line c = rw (c.split_at.ensures.front, c.line_len.ensures) (front_is is_newline c.args.text.now)

pub returns-in-Some-clause-rest : goal.returns-in-Some-clause-rest
returns-in-Some-clause-rest c =
    ap tail_of (sym c.in-Some.ensures.cases.0)
    ∙ ap tail_of (c.split_at.ensures.back ∙ ap (λ (n : ℕ). drop n c.args.text.now) c.line_len.ensures)
    ∙ rest_is is_newline c.args.text.now

pub returns-in-None-clause-line : goal.returns-in-None-clause-line
returns-in-None-clause-line c = rw (c.split_at.ensures.front, c.line_len.ensures) (front_is is_newline c.args.text.now)

pub returns-in-None-clause-rest : goal.returns-in-None-clause-rest
returns-in-None-clause-rest c =
    ap tail_of (sym (nil_from_length _ c.in-None.ensures.cases))
    ∙ ap tail_of (c.split_at.ensures.back ∙ ap (λ (n : ℕ). drop n c.args.text.now) c.line_len.ensures)
    ∙ rest_is is_newline c.args.text.now
