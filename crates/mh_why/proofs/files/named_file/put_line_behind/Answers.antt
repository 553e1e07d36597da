use Rattle.std.specs.Prelude.{◌≡◌, List, ℕ, OnOk}
use Rattle.std.proofs.Common.{subst}
use Rattle.bstr.specs.Text.{lines_of}
use Rattle.mh_why.proofs.FileLineLemmas.{is_next, is_missing}
use Rattle.mh_why.proofs.files.named_file.put_line_behind.Goals as goal

pub returns-then-left-eq0 : goal.returns-then-left-eq0
returns-then-left-eq0 c =
    subst (λ (t : List ℕ). OnOk c.put_found.result (c.put_found.new.text ≡ t))
    (is_next c.args.file.now c.loop-line.start c.loop-line.left c.args.before c.in-Some.line.now c.loop-line.line-iterator c.next.new.self (lines_of c.args.file.now.bytes) c.args.text.now c.loop-line.text
    c.if-left-eq0.true c.in-Some.ensures.steps c.loop-line.invariant.nothing c.loop-line.invariant.same)
    c.put_found.ensures

pub returns : goal.returns
returns c =
    is_missing c.args.file.now c.loop-line.start c.loop-line.left c.args.before c.loop-line.line-iterator (lines_of c.args.file.now.bytes) c.args.text.now c.loop-line.text
    c.in-None.ensures.steps.0 c.loop-line.invariant.nothing c.loop-line.invariant.same
