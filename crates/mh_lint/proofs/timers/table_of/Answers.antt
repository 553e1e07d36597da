use Rattle.std.proofs.Common.{arith, Bool, ◌||◌, ◌+◌, drop, ap, sym, ◌∙◌}
use Rattle.std.proofs.lemmas.List.{at_drop_more}
use Rattle.std.proofs.Math.Bool.{or_assoc}
use Rattle.mh_lint.specs.declared.timers.Timers.{Timers}
use Rattle.mh_lint.specs.Uses.{is_among, may_be_timer, table_has}
use Rattle.mh_lint.proofs.timers.table_of.Goals as goal

pub loop-one-preserved : goal.loop-one-preserved
loop-one-preserved c = λ r n.
    let ts = c.args.timers.now in
    let k = c.loop-one.one-index in
    let had = table_has c.loop-one.table.entries r n in
    ap (λ (b : Bool). b || is_among (drop (k + 1) ts) r n) (c.in_ok-put.ensures r n)
    ∙ or_assoc had (may_be_timer r n c.one-item.result) (is_among (drop (k + 1) ts) r n)
    ∙ ap (λ (t : Timers). had || (may_be_timer r n t || is_among (drop (k + 1) ts) r n)) c.one-item.is
    ∙ ap (λ (b : Bool). had || b) (sym (at_drop_more (λ xs. is_among xs r n) ts k c.one-item.result (omega arith)))
    ∙ c.loop-one.invariant r n
