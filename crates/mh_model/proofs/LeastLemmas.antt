-- What is named of several things that are wrong.
use Rattle.std.specs.Prelude.{◌≡◌, ◌<◌, ◌+◌, ℕ, List, [], ◌∷◌, ◌++◌, drop, length, slice_index_or, Option, refl}
use Rattle.std.specs.List.{flat_map}
use Rattle.std.proofs.Common.{ap, sym, ◌∙◌}
use Rattle.std.proofs.lemmas.List.{at_drop_more}
use Rattle.mh_base.specs.declared.obj_ref.ObjRef.{ObjRef}
use Rattle.mh_model.specs.Faults.{Wrong, Ranking, better, least}

-- What is named of two lists is what is named of the second, with that of the first in front.
pub least_append : (rank : Ranking) (b : Option Wrong) (xs ys : List Wrong) → least rank b (xs ++ ys) ≡ least rank (least rank b xs) ys
least_append rank b [] ys = refl
least_append rank b (x ∷ xs) ys = least_append rank (better rank b x) xs ys

-- What is named of what is wrong at the references from one on, which is judged next.
pub least_next : (rank : Ranking) (b : Option Wrong) (at : ObjRef → List Wrong) (rs : List ObjRef) (i : ℕ) (r : ObjRef) → i < length rs → r ≡ slice_index_or rs i r → least rank (least rank b (at r)) (flat_map at (drop (i + 1) rs)) ≡ least rank b (flat_map at (drop i rs))
least_next rank b at rs i r below is =
    ap (λ (q : ObjRef). least rank (least rank b (at q)) (flat_map at (drop (i + 1) rs))) is
    ∙ sym (least_append rank b (at (slice_index_or rs i r)) (flat_map at (drop (i + 1) rs)))
    ∙ sym (at_drop_more (λ (qs : List ObjRef). least rank b (flat_map at qs)) rs i r below)
