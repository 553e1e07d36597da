-- What is told of each of several.
use Rattle.std.specs.Prelude.{◌≡◌, ℕ, zero, suc, List, [], ◌∷◌, ◌++◌, map, take, Result, Ok, Err, IfOk, refl}
use Rattle.std.proofs.Common.{◌∙◌, ap, inl, inr, subst, sym}
use Rattle.std.proofs.lemmas.List.{append_assoc, map-append}
use Rattle.std.specs.List.{Contains}
use Rattle.mh_laws.specs.Each.{Each}
use Rattle.mh_laws.specs.Flow.{Flow}
use Rattle.mh_laws.proofs.EachLemmas.{each_joined}
use Rattle.mh_model.specs.Service.{Service}
use Rattle.mh_verify.specs.declared.refusal.Found.{Found}
use Rattle.mh_flow.proofs.ContainsLemmas.{behind, first_or_behind, here, no_member}
use Rattle.mh_verify.specs.Refusals.{all_refusals}
use Rattle.mh_refusals.specs.declared.told.Told.{Told}
use Rattle.mh_refusals.specs.Listed.{HasChain}
use Rattle.mh_refusals.specs.Places.{with_all}
use Rattle.mh_refusals.proofs.LawLemmas.{all_from}

-- each of a list is in it
pub each_of : {X : Type 0} (xs : List X) (P : X → Type 0) → ((x : X) → Contains xs x → P x) → Each P xs
each_of [] P f = tt
each_of (x ∷ xs) P f = (f x (here x xs), each_of xs P (λ y m. f y (behind x xs y m)))

-- those that are told, and those that are left, are all
pub record AreToldUpTo (s : Service) (xs : List Found) (ts : List Told) (rest : List Found) : Type 0 where
  pub founds : map (λ (t : Told). t.found) ts ++ rest ≡ xs
  pub chains : Each (HasChain s) ts

pub one_more : (s : Service) (xs : List Found) (ts : List Told) (x : Found) (rest : List Found) (t : Told) → t.found ≡ x → HasChain s t → AreToldUpTo s xs ts (x ∷ rest) → AreToldUpTo s xs (ts ++ t ∷ []) rest
one_more s xs ts x rest t same chain h = record {
  founds =
      ap (λ (ys : List Found). ys ++ rest) (map-append (λ (t : Told). t.found) ts (t ∷ []))
      ∙ ap (λ (y : Found). map (λ (t : Told). t.found) ts ++ y ∷ [] ++ rest) same
      ∙ append_assoc (map (λ (t : Told). t.found) ts) (x ∷ []) rest
      ∙ h.founds;
  chains = each_joined (HasChain s) ts (t ∷ []) h.chains (chain, tt);
}

-- what is among the first so many is among all
pub taken_from : {X : Type 0} (n : ℕ) (xs : List X) (x : X) → Contains (take n xs) x → Contains xs x
taken_from zero xs x m = absurd (no_member x m)
taken_from (suc n) [] x m = absurd (no_member x m)
taken_from (suc n) (y ∷ ys) x m = elim (first_or_behind y (take n ys) x m) [
  | inl same ↦ subst (Contains (y ∷ ys)) same (here y ys)
  | inr k ↦ behind y ys x (taken_from n ys x k)
]

-- what is listed is wrong
pub each_wrong : (s : Service) (w : Flow) (n : ℕ) (xs : List Found) → xs ≡ take n (with_all [] (all_refusals s w)) → Each (Contains (all_refusals s w)) xs
each_wrong s w n xs is =
    subst (λ (ys : List Found). Each (Contains (all_refusals s w)) ys) (sym is)
    (each_of (take n (with_all [] (all_refusals s w))) (Contains (all_refusals s w)) (λ x m. all_from (all_refusals s w) x (taken_from n (with_all [] (all_refusals s w)) x m)))

pub both_ok : {T E : Type 0} {P Q R : T → Type 0} (r : Result T E) → ((x : T) → P x → Q x → R x) → IfOk r P → IfOk r Q → IfOk r R
both_ok (Ok x) f h k = f x h k
both_ok (Err e) f h k = h
