use Rattle.std.proofs.Common.{Some, Ok, ap, sym, subst, ◌∙◌}
use Rattle.std.proofs.lemmas.Result.{err_from_is_err_and}
use Rattle.mh_text.specs.Gives.{Fails}
use Rattle.mh_text.specs.Left.{left}
use Rattle.mh_text.specs.Reading.{taken}
use Rattle.mh_text.specs.Words.{needs_gap}
use Rattle.mh_text.proofs.LeftLemmas.{taken_finished, taken_bad, taken_token}
use Rattle.mh_text.proofs.place.Place.taken.Goals as goal

pub returns-in_err-token : goal.returns-in_err-token
returns-in_err-token c =
    let p = err_from_is_err_and c.from_residual.result c.from_residual.ensures.1 in
    rw (p.1, p.2) (subst (λ l. Fails c.in_err-token.field-0.0 (taken l)) c.self.view_is
    (taken_bad c.self.inside.is_tight c.self.inside.tokens c.in_err-token.field-0.0 c.in_err-token.ensures.0))

pub returns-in_default : goal.returns-in_default
returns-in_default c =
    let at_end = rw c.in_default.is at c.in_ok-token.ensures in
    ap taken (sym c.self.view_is) ∙ taken_finished c.self.inside.is_tight c.self.inside.tokens at_end.0

pub returns-in_err-piece : goal.returns-in_err-piece
returns-in_err-piece c =
    let p = err_from_is_err_and c.from_residual-in_err-piece.result c.from_residual-in_err-piece.ensures.1 in
    let found = rw c.in-Some.is at c.in_ok-token.ensures in
    let same = ap taken (sym c.self.view_is) ∙ taken_token c.self.inside.is_tight c.self.inside.tokens _ _ _ _ found in
    let here = rw c.offset-offset.ensures at c.in_err-piece.ensures (left (needs_gap c.in-Some.token.kind) c.next.new.self) in
    rw (p.1, p.2) (subst (Fails c.in_err-piece.field-0.0) (sym same) here)

pub returns : goal.returns
returns c =
    let found = rw c.in-Some.is at c.in_ok-token.ensures in
    let same = ap taken (sym c.self.view_is) ∙ taken_token c.self.inside.is_tight c.self.inside.tokens _ _ _ _ found in
    let here = rw c.offset-offset.ensures at c.in_ok-piece.ensures (left (needs_gap c.in-Some.token.kind) c.next.new.self) in
    same ∙ here ∙ ap (λ w. Ok (Some (c.in_ok-piece.piece, left w c.next.new.self))) (sym c.needs_gap-self-inside.ensures)
