use Rattle.std.proofs.Common.{◌≡◌, ◌+◌, refl, sym, arith}
use Rattle.std.proofs.lemmas.List.FromFn.{map-range_with_len_more}
use Rattle.mh_codec.specs.TagLines.{tag_by}
use Rattle.mh_codec.proofs.ColumnLemmas.{column_done, column_full}
use Rattle.mh_codec.proofs.tag_column.column_by.Goals as goal

pub loop-place-preserved : goal.loop-place-preserved
loop-place-preserved c =
    rw (c.in_ok-push.ensures.items, c.loop-place.invariant, c.tag_by.ensures)
    (sym (map-range_with_len_more (tag_by c.args.named.now c.args.context) c.args.first c.loop-place.place (c.args.first + c.loop-place.place) refl))

pub returns-clause-exact : goal.returns-clause-exact
returns-clause-exact c =
    let all : c.loop-place.place ≡ c.args.count = omega (arith, c.loop-place-test.false, c.loop-place.auto.place-end) in
    column_done c.args.named.now c.args.context c.args.first c.loop-place.place c.args.count _ all c.loop-place.invariant

pub returns-clause-full : goal.returns-clause-full
returns-clause-full c =
    let all : c.loop-place.place ≡ c.args.count = omega (arith, c.loop-place-test.false, c.loop-place.auto.place-end) in
    column_full c.args.named.now c.args.context c.args.first c.loop-place.place c.args.count _ all c.loop-place.invariant
