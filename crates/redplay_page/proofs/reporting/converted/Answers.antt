use Rattle.redplay_page.proofs.ReportLemmas.{converted_so}
use Rattle.redplay_page.proofs.reporting.converted.Goals as goal

pub returns : goal.returns
returns c =
    converted_so c.args.name.now c.args.bytes.now c.args.binary c.notation.result c.in_ok-options.options c.empty-sink.result.bytes.items c.convert_bytes-written.new.sink.bytes.items
    c.convert_bytes-written.result c.ended.result c.in_ok-options.ensures c.notation.ensures c.empty-sink.ensures.bytes c.convert_bytes-written.ensures.written c.ended.ensures.same c.ended.ensures.number
