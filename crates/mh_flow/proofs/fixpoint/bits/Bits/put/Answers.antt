use Rattle.std.proofs.Common.{arith, ◌<◌, ◌*◌, ◌∙◌, ℕ, List, Bool, length, sym, subst}
use Rattle.mh_flow.specs.Rows.{bits_from, HasPut}
use Rattle.mh_flow.proofs.RowLemmas.{found_number}
use Rattle.mh_flow.proofs.BitLemmas.{lent_length, words_put}
use Rattle.mh_flow.proofs.fixpoint.bits.Bits.put.Goals as goal

pub index_mut-requires : goal.index_mut-requires
index_mut-requires c =
    let wide = lent_length c.args.self.now c.self.inside.words.items (64 * length c.self.inside.words.items) c.self.view_is in
    let within : c.args.at < length c.self.inside.words.items = omega (arith, c.requires, wide) in
    subst (λ (n : ℕ). c.args.at < n) (sym c.self.inside.words.ok.0) within

pub returns : goal.returns
returns c =
    let wide = lent_length c.args.self.now c.self.inside.words.items (64 * length c.self.inside.words.items) c.self.view_is in
    let within : c.args.at < length c.self.inside.words.items = omega (arith, c.requires, wide) in
    let new : List ℕ = Rattle.std.specs.Prelude.slice_set c.self.inside.words.items c.args.at (Rattle.std.specs.Prelude.bit_or c.index_mut.result.now c.args.bits) in
    subst (λ (t : List Bool). HasPut c.args.at c.args.bits t (bits_from new 0 (64 * length new))) c.self.view_is
    (words_put c.self.inside.words.items c.args.at c.args.bits c.index_mut.result.now within
    (c.index_mut.ensures.value ∙ found_number c.self.inside.words.items c.args.at c.index_mut.result.now within))
