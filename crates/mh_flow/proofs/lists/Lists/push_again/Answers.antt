use Rattle.std.proofs.Common.{◌≡◌, ℕ, List, [], ◌∷◌, ◌++◌, length, map, ap, sym, ◌∙◌, subst}
use Rattle.std.specs.Prelude.{slice_get, unwrap_or, ◌<◌}
use Rattle.std.proofs.lemmas.List.{map-append}
use Rattle.mh_base.specs.declared.obj_ref.ObjRef.{ObjRef}
use Rattle.mh_flow.specs.Solved.{list_at}
use Rattle.mh_flow.proofs.ListsLemmas.{again, mapped_length}
use Rattle.mh_flow.proofs.lists.Lists.push_again.Goals as goal

pub returns : goal.returns
returns c =
    let ls = c.self.inside.lists.items in
    let ns = c.self.inside.numbers.items in
    let there : c.args.first < length ns = subst (λ (n : ℕ). c.args.first < n) (ap length (sym c.self.view_is) ∙ mapped_length (list_at ls) ns) c.requires in
    ap (map (list_at ls)) c.in_ok-push.ensures.items
    ∙ map-append (list_at ls) ns (c.index-number.result.now ∷ [])
    ∙ ap (λ (n : ℕ). map (list_at ls) ns ++ list_at ls n ∷ []) c.index-number.ensures
    ∙ ap (λ (x : List ObjRef). map (list_at ls) ns ++ x ∷ []) (again ls ns c.args.first c.index-number.result.now there)
    ∙ ap (λ (all : List (List ObjRef)). all ++ unwrap_or (slice_get all c.args.first) [] ∷ []) c.self.view_is
