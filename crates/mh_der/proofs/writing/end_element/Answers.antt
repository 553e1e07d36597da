-- The length stands in place of the octet that was kept free for it.
use Rattle.std.proofs.Common.{ℕ, ◌-◌, List, arith, sym}
use Rattle.mh_der.proofs.WritingLemmas.{ended_at_zero, ended_past, ended_short, on_ended}
use Rattle.mh_der.proofs.writing.end_element.Goals as goal
use Rattle.mh_der.proofs.writing.end_element.Goals.{then-start-eq0-via-then-start-eq0, then-start-eq0-via-else-start-eq0+then-len-start}

pub returns-then-start-eq0-clause-ended : goal.returns-then-start-eq0-clause-ended
returns-then-start-eq0-clause-ended c = elim c.then-start-eq0.branch [
  | then-start-eq0-via-then-start-eq0 w ↦ sym (ended_at_zero c.args.start c.args.out.now.items w.if-start-eq0.true)
  | then-start-eq0-via-else-start-eq0+then-len-start w ↦ sym (ended_past c.args.start c.args.out.now.items (omega (arith, w.if-len-start.true, w.len.ensures, c.args.out.now.ok.0)))
]

pub returns-then-size-gt127-clause-ended : goal.returns-then-size-gt127-clause-ended
returns-then-size-gt127-clause-ended c =
    let start = c.args.start in
    let xs : List ℕ = c.args.out.now.items in
    on_ended start (c.len-2.result - start) xs c.insert_length.new.out.items c.insert_length.result
    (omega (arith, c.if-start-eq0.false)) (omega (arith, c.if-len-start.false, c.len.ensures, c.args.out.now.ok.0))
    (omega (arith, c.len-2.ensures, c.args.out.now.ok.0)) c.insert_length.ensures.inserted

pub returns-clause-ended : goal.returns-clause-ended
returns-clause-ended c =
    ended_short c.args.start (c.len-2.result - c.args.start) c.args.out.now.items
    (omega (arith, c.if-start-eq0.false)) (omega (arith, c.if-len-start.false, c.len.ensures, c.args.out.now.ok.0))
    (omega (arith, c.len-2.ensures, c.args.out.now.ok.0)) (omega (arith, c.if-size-gt127.false))
