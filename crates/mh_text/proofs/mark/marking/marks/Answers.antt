-- What is found are the marks of the text, and those lie within it.
use Rattle.std.proofs.Common.{rules, ◌≡◌}
use Rattle.mh_text.specs.Marks.{marks}
use Rattle.mh_text.proofs.MarksLemmas.{marks_within}
use Rattle.mh_text.proofs.mark.marking.marks.Goals as goal

pub returns-clause-within : goal.returns-clause-within
returns-clause-within c =
    let all : c.loop-found.found.items ≡ marks c.args.bytes.now = search rules in
    rw all (marks_within c.args.bytes.now)
