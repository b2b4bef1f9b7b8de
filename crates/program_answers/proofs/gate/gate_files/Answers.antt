use Rattle.std.proofs.Common.{map}
use Rattle.std.specs.String.{string_bytes}
use Rattle.program_answers.specs.Device.{device_of}
use Rattle.program_answers.specs.Files.{reports}
use Rattle.program_answers.proofs.Gates.{files_pass, empty_zero, not_zero, told_one, told_more}
use Rattle.program_answers.proofs.gate.gate_files.Goals as goal

pub returns-then-is_empty-clause-gates : goal.returns-then-is_empty-clause-gates
returns-then-is_empty-clause-gates g c =
    let tells = told_one c.args.options.now.format string_bytes c.args.input.now c.args.options.now.more.items c.as_slice-more.result.now (string_bytes c.args.options.now.list) c.as_str-list.result.now
    (reports g.F.Files.bytes_of g.F.Files.refuses g.F.Opened.Source.remaining g.F.Opened.Source.failures g.F.Files.took g.F.Files.loses) c.args.files.now (g.K.Sink.told (device_of c.args.page.now)) (g.K.Sink.told (device_of c.gate_file.new.page)) c.gate_file.result
    c.as_slice-more.ensures.value c.as_str-list.ensures.value (empty_zero _ _ c.is_empty.ensures c.if-is_empty.true) c.gate_file.ensures.gates in
    record {
      tells = tells;
      is_zero = files_pass c.args.options.now.format c.args.input.now (map string_bytes c.args.options.now.more.items) (string_bytes c.args.options.now.list)
          (reports g.F.Files.bytes_of g.F.Files.refuses g.F.Opened.Source.remaining g.F.Opened.Source.failures g.F.Files.took g.F.Files.loses) c.args.files.now (g.K.Sink.told (device_of c.args.page.now)) (g.K.Sink.told (device_of c.gate_file.new.page)) c.gate_file.result tells;
    }

pub returns-else-is_empty-clause-gates : goal.returns-else-is_empty-clause-gates
returns-else-is_empty-clause-gates g c =
    let tells = told_more c.args.options.now.format string_bytes c.args.input.now c.args.options.now.more.items c.as_slice-more.result.now (string_bytes c.args.options.now.list) c.as_str-list.result.now c.as_str.result.now
    (reports g.F.Files.bytes_of g.F.Files.refuses g.F.Opened.Source.remaining g.F.Opened.Source.failures g.F.Files.took g.F.Files.loses) c.args.files.now (g.K.Sink.told (device_of c.args.page.now)) (g.K.Sink.told (device_of c.gate_several.new.page)) c.gate_several.result
    c.as_slice-more.ensures.value c.as_str-list.ensures.value c.as_str.ensures.value (not_zero _ _ c.is_empty.ensures c.if-is_empty.false) c.gate_several.ensures.gates in
    record {
      tells = tells;
      is_zero = files_pass c.args.options.now.format c.args.input.now (map string_bytes c.args.options.now.more.items) (string_bytes c.args.options.now.list)
          (reports g.F.Files.bytes_of g.F.Files.refuses g.F.Opened.Source.remaining g.F.Opened.Source.failures g.F.Files.took g.F.Files.loses) c.args.files.now (g.K.Sink.told (device_of c.args.page.now)) (g.K.Sink.told (device_of c.gate_several.new.page)) c.gate_several.result tells;
    }
