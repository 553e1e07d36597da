use Rattle.std.specs.Prelude.{ℕ, ◌+◌, ◌*◌, ◌&&◌, nat_lt, List}
use Rattle.std.proofs.Common.{subst}
use Rattle.mh_told.specs.Masks.{Tells, changes}
use Rattle.mh_told.proofs.MaskLemmas.{lasts_told}
use Rattle.mh_told.proofs.masks.lasts_of.Goals as goal

pub returns : goal.returns
returns c =
    lasts_told c.args.picture.now c.args.row c.changes_in.result c.changes_in-2.result
    (subst (λ (xs : List ℕ). Tells (λ k. nat_lt k 59 && changes xs (c.args.row * 60 + k)) c.changes_in.result) c.fores.ensures.plane c.changes_in.ensures)
    (subst (λ (xs : List ℕ). Tells (λ k. nat_lt k 59 && changes xs (c.args.row * 60 + k)) c.changes_in-2.result) c.backs.ensures.plane c.changes_in-2.ensures)
