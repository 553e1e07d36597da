use Rattle.std.proofs.Common.{◌≡◌, ℕ, ◌<◌, List, [], ◌∷◌, ◌++◌, length, map, ap, sym, subst, ◌∙◌, arith, length-append}
use Rattle.mh_base.specs.declared.obj_ref.ObjRef.{ObjRef}
use Rattle.mh_flow.specs.Solved.{AreWithin, list_at}
use Rattle.mh_flow.proofs.ListsLemmas.{list_put, within_longer, within_more}
use Rattle.mh_flow.proofs.lists.Lists.push.Goals as goal

pub invariant_of-self-in_err-push-2 : goal.invariant_of-self-in_err-push-2
invariant_of-self-in_err-push-2 c =
    let ls = c.self.inside.lists.items in
    let x = c.args.list in
    let longer : c.push.new.self.items ≡ ls ++ x ∷ [] = c.in_ok-push.ensures.items in
    subst (λ (all : List (List ObjRef)). AreWithin all c.push-2.new.self.items) (sym longer)
    (subst (AreWithin (ls ++ x ∷ [])) (sym c.in_err-push-2.ensures.items) (within_longer ls x c.self.inside.numbers.items c.self.invariant))

pub invariant_of-self-2 : goal.invariant_of-self-2
invariant_of-self-2 c =
    let ls = c.self.inside.lists.items in
    let x = c.args.list in
    let longer : c.push.new.self.items ≡ ls ++ x ∷ [] = c.in_ok-push.ensures.items in
    let number : c.len-number.result ≡ length ls = c.len-number.ensures ∙ c.self.inside.lists.ok.0 in
    subst (λ (all : List (List ObjRef)). AreWithin all c.push-2.new.self.items) (sym longer)
    (subst (AreWithin (ls ++ x ∷ [])) (sym c.in_ok-push-2.ensures.items)
    (within_more (ls ++ x ∷ []) c.self.inside.numbers.items c.len-number.result (within_longer ls x c.self.inside.numbers.items c.self.invariant) (omega (arith, number, length-append ls (x ∷ [])))))

pub returns : goal.returns
returns c =
    let ls = c.self.inside.lists.items in
    let x = c.args.list in
    let longer : c.push.new.self.items ≡ ls ++ x ∷ [] = c.in_ok-push.ensures.items in
    let number : c.len-number.result ≡ length ls = c.len-number.ensures ∙ c.self.inside.lists.ok.0 in
    (λ i. map (list_at (longer i)) (c.in_ok-push-2.ensures.items i))
    ∙ list_put ls x c.self.inside.numbers.items c.len-number.result c.self.invariant number
    ∙ ap (λ (all : List (List ObjRef)). all ++ x ∷ []) c.self.view_is
