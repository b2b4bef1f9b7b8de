use Rattle.std.proofs.Common.{◌≡◌, ◌+◌, ◌≤◌, ◌++◌, List, ℕ, length, take, sym, ap, ◌∙◌, arith}
use Rattle.std.proofs.lemmas.Slice.{take-put_mid}
use Rattle.pickle_io.proofs.buffered.copy_text.Goals as goal

pub returns-clause-text : goal.returns-clause-text
returns-clause-text c =
    let far : c.args.at ≤ length c.args.text.now = omega (arith, c.requires.room) in
    let same : c.args.at + length c.args.part.now ≡ c.args.at + length c.copy_from_slice.new.self = ap (λ (l : List ℕ). c.args.at + length l) (sym c.copy_from_slice.ensures.after) in
    take-put_mid c.args.at _ c.args.text.now c.copy_from_slice.new.self (c.args.at + length c.args.part.now) same far ∙ ap (λ (l : List ℕ). take c.args.at c.args.text.now ++ l) c.copy_from_slice.ensures.after
