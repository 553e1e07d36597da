use Rattle.std.proofs.Common.{◌≡◌, ◌+◌, length}
use Rattle.bstr.specs.Text.{lines_of}
use Rattle.mh_why.specs.Sources.{shown_line_from}
use Rattle.mh_why.proofs.FileLineLemmas.{total}
use Rattle.mh_why.proofs.files.named_file.put_line_behind.Given as goal

abbrev pub invariant-loop-line : goal.invariant-loop-line
invariant-loop-line l = record {
  same : shown_line_from l.file l.start l.line-iterator l.left ≡ shown_line_from l.file 0 (lines_of l.file.bytes) l.before;
  nothing : l.text ≡ l.initial.text;
  fits : l.start + total l.line-iterator ≡ length l.file.bytes;
}
