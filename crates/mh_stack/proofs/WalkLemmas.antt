-- What is left of three lists, one behind another, when the first reference is taken. The first list is turned round.
use Rattle.std.proofs.Common.{◌≡◌, List, [], ◌∷◌, ◌++◌, length, reverse, sym, ap, ◌∙◌}
use Rattle.std.proofs.lemmas.List.{nil_from_length, reverse-append}
use Rattle.mh_base.specs.declared.obj_ref.ObjRef.{ObjRef}

pub front_taken : (xs ys zs others : List ObjRef) (r : ObjRef) → xs ≡ others ++ r ∷ [] → reverse xs ++ ys ++ zs ≡ r ∷ (reverse others ++ ys ++ zs)
front_taken xs ys zs others r is = ap (λ (qs : List ObjRef). reverse qs ++ ys ++ zs) is ∙ ap (λ (qs : List ObjRef). qs ++ ys ++ zs) (reverse-append others (r ∷ []))

nothing_first : (xs : List ObjRef) → length xs ≡ 0 → reverse xs ≡ []
nothing_first xs none = ap (λ (qs : List ObjRef). reverse qs) (nil_from_length xs none)

pub line_taken : (xs ys zs others : List ObjRef) (r : ObjRef) → length xs ≡ 0 → ys ≡ r ∷ others → reverse xs ++ ys ++ zs ≡ r ∷ (reverse xs ++ others ++ zs)
line_taken xs ys zs others r none is =
    ap (λ (qs : List ObjRef). qs ++ ys ++ zs) (nothing_first xs none)
    ∙ ap (λ (qs : List ObjRef). qs ++ zs) is
    ∙ ap (λ (qs : List ObjRef). r ∷ (qs ++ others ++ zs)) (sym (nothing_first xs none))

pub back_taken : (xs ys left zs others : List ObjRef) (r : ObjRef) → length xs ≡ 0 → (ys ≡ []) × (left ≡ []) → zs ≡ r ∷ others → reverse xs ++ ys ++ zs ≡ r ∷ (reverse xs ++ left ++ others)
back_taken xs ys left zs others r none empty is =
    ap (λ (qs : List ObjRef). qs ++ ys ++ zs) (nothing_first xs none)
    ∙ ap (λ (qs : List ObjRef). qs ++ zs) empty.0
    ∙ is
    ∙ ap (λ (qs : List ObjRef). r ∷ (qs ++ others)) (sym empty.1)
    ∙ ap (λ (qs : List ObjRef). r ∷ (qs ++ left ++ others)) (sym (nothing_first xs none))

pub none_taken : (xs ys left zs : List ObjRef) → length xs ≡ 0 → (ys ≡ []) × (left ≡ []) → length zs ≡ 0 → reverse xs ++ ys ++ zs ≡ []
none_taken xs ys left zs none empty last =
    ap (λ (qs : List ObjRef). qs ++ ys ++ zs) (nothing_first xs none)
    ∙ ap (λ (qs : List ObjRef). qs ++ zs) empty.0
    ∙ nil_from_length zs last
