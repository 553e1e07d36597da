use Rattle.bstr.specs.Text.{lines_of}
use Rattle.std.proofs.Common.{ap, arith, sym, ◌∙◌}
use Rattle.mh_why.specs.Posts.{posts_from}
use Rattle.mh_why.proofs.FileLineLemmas.{total}
use Rattle.mh_why.proofs.PostLemmas.{posts_next}
use Rattle.mh_why.proofs.script.posts.posts_in.Goals as goal

pub loop-line-preserved : goal.loop-line-preserved
loop-line-preserved c = record {
  found =
      posts_next c.args.number.now c.loop-line.at c.in-Some.line.now c.without_terminator-words.result.now c.loop-line.line-iterator c.next.new.self c.loop-line.posts.items c.add_post.new.posts.items
      (posts_from c.args.number.now c.args.start (lines_of c.args.left.now)) c.in-Some.ensures.steps c.without_terminator-words.ensures (sym c.is_stop.ensures ∙ c.if-is_stop.false) c.in_ok-add_post.ensures
      c.loop-line.invariant.found;
  fits = omega (arith, ap total c.in-Some.ensures.steps, c.loop-line.invariant.fits);
}
