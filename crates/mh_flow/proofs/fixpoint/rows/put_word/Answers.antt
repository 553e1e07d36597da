use Rattle.std.proofs.Common.{◌<◌, ◌*◌, length, sym, subst, ℕ, Bool, List}
use Rattle.mh_flow.specs.Rows.{HasPut, WordPut}
use Rattle.mh_flow.proofs.RowLemmas.{row_at, set_row_at, word_put}
use Rattle.mh_flow.proofs.fixpoint.rows.put_word.Goals as goal

pub put-requires : goal.put-requires
put-requires c =
    let within = subst (λ (n : ℕ). c.args.node < n) c.args.rows.now.ok.0 c.requires.node in
    let same = row_at c.args.rows.now.items c.args.node c.index_mut.result.now within c.index_mut.ensures.value in
    subst (λ (bs : List Bool). 64 * c.args.at < length bs) (sym same) c.requires.at

pub returns : goal.returns
returns c =
    let within = subst (λ (n : ℕ). c.args.node < n) c.args.rows.now.ok.0 c.requires.node in
    let same = row_at c.args.rows.now.items c.args.node c.index_mut.result.now within c.index_mut.ensures.value in
    subst (WordPut c.args.node c.args.at c.args.bits c.args.rows.now.items) (sym (set_row_at c.args.rows.now.items c.args.node c.put.new.self))
    (word_put c.args.rows.now.items c.args.node c.args.at c.args.bits c.put.new.self within
    (subst (λ (t : List Bool). HasPut c.args.at c.args.bits t c.put.new.self) same c.put.ensures))
