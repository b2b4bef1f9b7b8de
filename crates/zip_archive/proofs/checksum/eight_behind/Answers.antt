use Rattle.std.proofs.Common.{◌+◌, ◌<◌, ◌^◌, ◌∙◌, ℕ, ap, drop, arith}
use Rattle.std.specs.Prelude.{bit_xor}
use Rattle.std.specs.List.{fold}
use Rattle.std.proofs.lemmas.Nat.{xor_of_32}
use Rattle.zip_archive.specs.Checksum.{byte_behind}
use Rattle.zip_archive.specs.Field.{u32_at}
use Rattle.zip_archive.proofs.Steps.{zeros, by_table, eight_step}
use Rattle.zip_archive.proofs.checksum.eight_behind.Goals as goal

pub returns : goal.returns
returns c =
    let low : c.u32_at.result < 2 ^ 32 = omega (arith, c.type_inv) in
    let high : c.u32_at-fifth.result < 2 ^ 32 = omega (arith, c.type_inv) in
    let start : c.args.c < 2 ^ 32 = omega (arith, c.ranges.c) in
    let tabled = by_table c.args.table.now (bit_xor c.args.c c.u32_at.result) c.u32_at-fifth.result c.requires.table (xor_of_32 c.args.c c.u32_at.result start low) high in
    ap (λ (n : ℕ). fold byte_behind n (drop (c.args.place + 8) c.args.bytes.now))
    (tabled ∙ ap (λ (n : ℕ). bit_xor (zeros 8 (bit_xor c.args.c n)) (zeros 4 c.u32_at-fifth.result)) c.u32_at.ensures
    ∙ ap (λ (n : ℕ). bit_xor (zeros 8 (bit_xor c.args.c (u32_at c.args.bytes.now c.args.place))) (zeros 4 n)) c.u32_at-fifth.ensures)
    ∙ eight_step c.args.c c.args.bytes.now c.args.place (λ i. omega (arith, c.type_inv.bytes i)) c.requires.bytes
