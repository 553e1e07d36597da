-- What is put one by one behind what is there.
use Rattle.std.specs.Prelude.{◌≡◌, ℕ, ◌+◌, ◌<◌, List, ◌++◌, length, drop, slice_index_or}
use Rattle.std.specs.List.{flat_map}
use Rattle.std.proofs.Common.{ap, sym, ◌∙◌}
use Rattle.std.proofs.lemmas.List.{append_assoc, at_drop_more}

-- what one more of a list puts behind what the ones before it did
pub one_put : {X A : Type 0} (f : X → List A) (xs : List X) (i : ℕ) (x : X) (all before now : List A) → i < length xs → x ≡ slice_index_or xs i x → now ≡ before ++ f x → before ++ flat_map f (drop i xs) ≡ all
    → now ++ flat_map f (drop (i + 1) xs) ≡ all
one_put {X} {A} f xs i x all before now within is put so =
    ap (λ (t : List A). t ++ flat_map f (drop (i + 1) xs)) put ∙ append_assoc before (f x) (flat_map f (drop (i + 1) xs))
    ∙ ap (λ (y : X). before ++ (f y ++ flat_map f (drop (i + 1) xs))) is
    ∙ sym (at_drop_more (λ (ys : List X). before ++ flat_map f ys) xs i x within) ∙ so
