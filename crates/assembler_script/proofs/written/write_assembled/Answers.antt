use Rattle.std.proofs.Common.{refl}
use Rattle.assembly_labels.specs.declared.refusal.LabelRefusal.TheVariants as why
use Rattle.assembly_labels.specs.Labelled.{RefusesLabelled}
use Rattle.assembler_script.specs.AssemblyText.{sentence_of, counting_words, line_output}
use Rattle.assembler_script.proofs.AssemblyTexts.{refused, all_wrote, some_wrote, bytes_wrote, bytes_broke}
use Rattle.assembler_script.proofs.written.write_assembled.Goals as goal

pub returns-in_err-write_all-in-Ok : goal.returns-in_err-write_all-in-Ok
returns-in_err-write_all-in-Ok g c =
    bytes_broke c.args.text.now c.in-Ok.bytes.items _ g.S.Sink.told _ _ _ c.from_residual.ensures.1 c.in-Ok.ensures.ok c.as_slice.ensures.value c.in_err-write_all-in-Ok.ensures

pub returns-in_ok-write_all-in-Ok : goal.returns-in_ok-write_all-in-Ok
returns-in_ok-write_all-in-Ok g c =
    bytes_wrote c.args.text.now c.in-Ok.bytes.items _ g.S.Sink.told _ _ c.in-Ok.ensures.ok c.as_slice.ensures.value c.in_ok-write_all-in-Ok.ensures

pub returns-in_err-write_refusal-in-Err-Line : goal.returns-in_err-write_refusal-in-Err-Line
returns-in_err-write_refusal-in-Err-Line g c =
    let is : RefusesLabelled c.args.text.now (why.Line c.in-Err-Line.number c.in-Err-Line.reason) = rw c.in-Err-Line.field-0-is at c.in-Err-Line.ensures.err in
    some_wrote c.args.text.now (line_output c.in-Err-Line.number (sentence_of c.in-Err-Line.reason)) g.S.Sink.told _ _ _ c.from_residual-in_err-write_refusal-in-Err-Line.ensures.1
    (refused c.args.text.now (why.Line c.in-Err-Line.number c.in-Err-Line.reason) (line_output c.in-Err-Line.number (sentence_of c.in-Err-Line.reason)) is refl) (rw c.sentence_of.ensures at c.in_err-write_refusal-in-Err-Line.ensures)

pub returns-in_ok-write_refusal-in-Err-Line : goal.returns-in_ok-write_refusal-in-Err-Line
returns-in_ok-write_refusal-in-Err-Line g c =
    let is : RefusesLabelled c.args.text.now (why.Line c.in-Err-Line.number c.in-Err-Line.reason) = rw c.in-Err-Line.field-0-is at c.in-Err-Line.ensures.err in
    all_wrote c.args.text.now (line_output c.in-Err-Line.number (sentence_of c.in-Err-Line.reason)) g.S.Sink.told _ _ (refused c.args.text.now (why.Line c.in-Err-Line.number c.in-Err-Line.reason) (line_output c.in-Err-Line.number (sentence_of c.in-Err-Line.reason)) is refl) (rw c.sentence_of.ensures at c.in_ok-write_refusal-in-Err-Line.ensures)

pub returns-in_err-write_refusal-in-Err-Counting : goal.returns-in_err-write_refusal-in-Err-Counting
returns-in_err-write_refusal-in-Err-Counting g c =
    let is : RefusesLabelled c.args.text.now (why.Counting c.in-Err-Counting.number) = rw c.in-Err-Counting.field-0-is at c.in-Err-Counting.ensures.err in
    some_wrote c.args.text.now (line_output c.in-Err-Counting.number counting_words) g.S.Sink.told _ _ _ c.from_residual-in_err-write_refusal-in-Err-Counting.ensures.1
    (refused c.args.text.now (why.Counting c.in-Err-Counting.number) (line_output c.in-Err-Counting.number counting_words) is refl) (rw c.counting_words.ensures at c.in_err-write_refusal-in-Err-Counting.ensures)

pub returns-in_ok-write_refusal-in-Err-Counting : goal.returns-in_ok-write_refusal-in-Err-Counting
returns-in_ok-write_refusal-in-Err-Counting g c =
    let is : RefusesLabelled c.args.text.now (why.Counting c.in-Err-Counting.number) = rw c.in-Err-Counting.field-0-is at c.in-Err-Counting.ensures.err in
    all_wrote c.args.text.now (line_output c.in-Err-Counting.number counting_words) g.S.Sink.told _ _ (refused c.args.text.now (why.Counting c.in-Err-Counting.number) (line_output c.in-Err-Counting.number counting_words) is refl) (rw c.counting_words.ensures at c.in_ok-write_refusal-in-Err-Counting.ensures)
