use Rattle.std.proofs.Common.{◌≡◌, true, [], refl, sym, ◌∙◌}
use Rattle.std.proofs.lemmas.List.{append-nil}
use Rattle.opcode_assembler.specs.Assembly.{says_nothing}
use Rattle.opcode_assembler.proofs.line.put_text.Goals as goal

pub returns-then-says_nothing : goal.returns-then-says_nothing
returns-then-says_nothing c =
    let h : says_nothing c.args.text.now ≡ true = sym c.says_nothing.ensures ∙ c.if-says_nothing.true in
    ([], rw h (tt, refl), sym (append-nil c.args.out.now.items))
