-- Sets: what is asked of them.
use Rattle.std.specs.Prelude.{◌≡◌, Bool, true, false, ◌||◌, List, [], ◌∷◌, Option, Some, None, refl}
use Rattle.std.specs.Cmp.Derive.{both_true}
use Rattle.std.specs.List.{list_all, list_any}
use Rattle.std.specs.Option.{option_to_list}
use Rattle.std.proofs.Common.{ap, sym, subst}
use Rattle.std.proofs.lemmas.Bool.Decides.{Decides-eqb}
use Rattle.std.proofs.lemmas.Slice.Eq.{bytes_eq-Decides}
use Rattle.mh_base.specs.declared.obj_ref.ObjRef.{ObjRef}
use Rattle.mh_model.specs.Reference.{same_ref}
use Rattle.mh_model.proofs.ListLemmas.{and_left, and_right}
use Rattle.mh_model.proofs.ServiceLemmas.{same_ref-same}

-- a reference is the same as itself
pub same_itself : (q : ObjRef) → same_ref q q ≡ true
same_itself q = both_true ((bytes_eq-Decides q.group q.group).1 refl) ((Decides-eqb q.number q.number).1 refl)

-- each reference of the one list is in the other
abbrev pub AreWithin : List ObjRef → List ObjRef → Type 0
AreWithin qs rs = (q : ObjRef) → list_any (same_ref q) qs ≡ true → list_any (same_ref q) rs ≡ true

or_second : (a b : Bool) → b ≡ true → (a || b) ≡ true
or_second true b h = refl
or_second false b h = h

pub first_within : (q : ObjRef) (qs rs : List ObjRef) → AreWithin (q ∷ qs) rs → list_any (same_ref q) rs ≡ true
first_within q qs rs within = within q (ap (λ (b : Bool). b || list_any (same_ref q) qs) (same_itself q))

pub rest_within : (q : ObjRef) (qs rs : List ObjRef) → AreWithin (q ∷ qs) rs → AreWithin qs rs
rest_within q qs rs within x h = within x (or_second (same_ref x q) (list_any (same_ref x) qs) h)

-- what all references of a list pass, each one in it passes
pub passed_in : (p : ObjRef → Bool) (rs : List ObjRef) (q : ObjRef) → list_all p rs ≡ true → list_any (same_ref q) rs ≡ true → p q ≡ true
passed_in p [] q all h = absurd cc
passed_in p (r ∷ rs) q all h = by (same_ref q r) refl h (λ more. passed_in p rs q (and_right (p r) (list_all p rs) all) more)
  where
    by : (b : Bool) → same_ref q r ≡ b → (b || list_any (same_ref q) rs) ≡ true → (list_any (same_ref q) rs ≡ true → p q ≡ true) → p q ≡ true
    by true is h further = subst (λ (x : ObjRef). p x ≡ true) (sym (same_ref-same q r is)) (and_left (p r) (list_all p rs) all)
    by false is h further = further h

pub passed_within : (p : ObjRef → Bool) (qs rs : List ObjRef) → AreWithin qs rs → list_all p rs ≡ true → list_all p qs ≡ true
passed_within p [] rs within all = refl
passed_within p (q ∷ qs) rs within all = both_true (passed_in p rs q all (first_within q qs rs within)) (passed_within p qs rs (rest_within q qs rs within) all)

-- the one reference that is in a list of one
pub one_of : (m : Option ObjRef) (q : ObjRef) → list_any (same_ref q) (option_to_list m) ≡ true → m ≡ Some q
one_of None q h = absurd cc
one_of (Some r) q h = by (same_ref q r) refl h
  where
    by : (b : Bool) → same_ref q r ≡ b → (b || false) ≡ true → Some r ≡ Some q
    by true is h = ap (λ (x : ObjRef). Some x) (sym (same_ref-same q r is))
    by false is h = absurd cc
