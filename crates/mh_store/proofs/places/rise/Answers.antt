use Rattle.std.specs.Prelude.{nat_eq}
use Rattle.std.proofs.Common.{◌∙◌, sym, subst, ap}
use Rattle.std.specs.List.{list_any}
use Rattle.std.specs.List.Sorted.{IsStrictlySortedBy}
use Rattle.std.specs.Ordering.{nat_cmp}
use Rattle.std.proofs.lemmas.List.Filters.{dedup_is}
use Rattle.std.proofs.lemmas.List.Sorted.{list_any-IsPermutation}
use Rattle.std.proofs.lemmas.Map.Keys.{IsStrictlyIncreasing-dedup, sorted_from_strictly_increasing}
use Rattle.mh_store.proofs.RisingLemmas.{members_dedup}
use Rattle.mh_store.proofs.places.rise.Goals as goal

pub returns-clause-rising : goal.returns-clause-rising
returns-clause-rising c =
    let is = dedup_is _ _ _ c.dedup.ensures.filtered in
    subst (IsStrictlySortedBy nat_cmp) (sym is) (sorted_from_strictly_increasing _ (IsStrictlyIncreasing-dedup _ c.sort_unstable.ensures.sorted))

pub returns-clause-same : goal.returns-clause-same
returns-clause-same c n =
    let is = dedup_is _ _ _ c.dedup.ensures.filtered in
    ap (list_any (nat_eq n)) is ∙ members_dedup n _ ∙ sym (list_any-IsPermutation (nat_eq n) _ _ c.sort_unstable.ensures.permutation)
