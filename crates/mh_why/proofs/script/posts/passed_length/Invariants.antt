use Rattle.std.proofs.Common.{◌≡◌, ◌+◌, length}
use Rattle.bstr.specs.Text.{lines_of}
use Rattle.mh_why.specs.Posts.{passed_length}
use Rattle.mh_why.proofs.FileLineLemmas.{total}
use Rattle.mh_why.proofs.script.posts.passed_length.Given as goal

abbrev pub invariant-loop-line : goal.invariant-loop-line
invariant-loop-line l = record {
  counted : l.length + passed_length l.line-iterator ≡ passed_length (lines_of l.fn.bytes);
  fits : l.length + total l.line-iterator ≡ length l.fn.bytes;
}
