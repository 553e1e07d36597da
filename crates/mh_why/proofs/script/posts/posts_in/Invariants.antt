use Rattle.std.proofs.Common.{◌≡◌, ◌+◌, ◌++◌, length}
use Rattle.bstr.specs.Text.{lines_of}
use Rattle.mh_why.specs.Posts.{posts_from}
use Rattle.mh_why.proofs.FileLineLemmas.{total}
use Rattle.mh_why.proofs.script.posts.posts_in.Given as goal

abbrev pub invariant-loop-line : goal.invariant-loop-line
invariant-loop-line l = record {
  found : l.posts.items ++ posts_from l.number l.at l.line-iterator ≡ posts_from l.number l.fn.start (lines_of l.fn.left);
  fits : l.at + total l.line-iterator ≡ l.fn.start + length l.fn.left;
}
