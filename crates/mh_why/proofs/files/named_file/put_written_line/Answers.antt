use Rattle.bstr.specs.Text.{lines_of}
use Rattle.mh_why.proofs.FileLineLemmas.{is_unwritten}
use Rattle.mh_why.proofs.files.named_file.put_written_line.Goals as goal

pub returns : goal.returns
returns c =
    is_unwritten c.args.file.now c.loop-line.start c.args.written.now c.loop-line.line-iterator (lines_of c.args.file.now.bytes) c.args.text.now c.loop-line.text
    c.in-None.ensures.steps.0 c.loop-line.invariant.nothing c.loop-line.invariant.same
