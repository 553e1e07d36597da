use Rattle.std.proofs.Common.{◌++◌, ap, sym, ◌∙◌, List, ℕ, rules}
use Rattle.std.proofs.lemmas.List.{append-nil}
use Rattle.mh_store.proofs.NamedLemmas.{place_under, behind_under}
use Rattle.mh_store.proofs.places.push_place.Goals as goal

pub returns-in_ok-push : goal.returns-in_ok-push
returns-in_ok-push c =
    let under = place_under c.args.first c.args.at c.place_of-place.result c.args.table.now.entries c.len.ensures.unique c.place_of-place.ensures (search rules) in
    c.in_ok-push.ensures.items ∙ ap (λ (ks : List ℕ). c.args.places.now.items ++ ks) (sym under)

pub returns-else-place-len : goal.returns-else-place-len
returns-else-place-len c =
    let none = behind_under c.args.first c.args.at c.place_of-place.result c.args.table.now.entries c.place_of-place.ensures (search rules) in
    sym (append-nil c.args.places.now.items) ∙ ap (λ (ks : List ℕ). c.args.places.now.items ++ ks) (sym none)
