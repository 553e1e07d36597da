use Rattle.std.proofs.Common.{◌+◌, ◌-◌, ◌++◌, length, None, Some, sym, ap, ◌∙◌, arith, append-nil}
use Rattle.mh_misread.specs.Pieces.{pieces_from}
use Rattle.mh_misread.proofs.PieceLemmas.{pieces_more, pushed}
use Rattle.mh_misread.proofs.piece.pieces_before.Goals as goal

pub returns-in-None : goal.returns-in-None
returns-in-None c =
    let none = rw c.in-None.is at c.piece_before.ensures in
    sym (append-nil _)
    ∙ ap (λ ps. c.loop.found.items ++ ps)
    (sym (pieces_more (length c.args.file.now - c.loop.counter) (length c.args.file.now - (c.loop.counter + 1)) c.args.offset c.loop.tokens c.piece_before.new.tokens None (omega arith) none))
    ∙ c.loop.invariant

pub loop-preserved : goal.loop-preserved
loop-preserved c =
    let one = rw c.in-Some.is at c.piece_before.ensures in
    ap (λ fs. fs ++ pieces_from (length c.args.file.now - (c.loop.counter + 1)) c.args.offset c.piece_before.new.tokens) c.in_ok-push-in-Some.ensures.items
    ∙ pushed c.loop.found.items _ c.in-Some.piece
    ∙ ap (λ ps. c.loop.found.items ++ ps)
    (sym (pieces_more (length c.args.file.now - c.loop.counter) (length c.args.file.now - (c.loop.counter + 1)) c.args.offset c.loop.tokens c.piece_before.new.tokens (Some c.in-Some.piece) (omega arith) one))
    ∙ c.loop.invariant
