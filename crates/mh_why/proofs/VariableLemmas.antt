-- What a loop over a list puts behind a text, one item at a time.
use Rattle.std.specs.Prelude.{◌≡◌, ℕ, ◌+◌, ◌<◌, List, ◌++◌, length, drop, slice_index_or}
use Rattle.std.specs.List.{flat_map}
use Rattle.std.proofs.Common.{ap, sym, ◌∙◌, append_assoc}
use Rattle.std.proofs.lemmas.List.{at_drop_more}

-- one more
pub one_put : {X : Type 0} (f : X → List ℕ) (xs : List X) (i : ℕ) (x : X) (all text next : List ℕ) → i < length xs → x ≡ slice_index_or xs i x → next ≡ text ++ f x → text ++ flat_map f (drop i xs) ≡ all
    → next ++ flat_map f (drop (i + 1) xs) ≡ all
one_put {X} f xs i x all text next within is put so =
    ap (λ (t : List ℕ). t ++ flat_map f (drop (i + 1) xs)) put ∙ append_assoc text (f x) (flat_map f (drop (i + 1) xs))
    ∙ ap (λ (y : X). text ++ (f y ++ flat_map f (drop (i + 1) xs))) is
    ∙ sym (at_drop_more (λ (ys : List X). text ++ flat_map f ys) xs i x within) ∙ so

-- two pieces, one behind the other
pub two_put : (text a b one two : List ℕ) → one ≡ text ++ a → two ≡ one ++ b → two ≡ text ++ (a ++ b)
two_put text a b one two first second = second ∙ ap (λ (t : List ℕ). t ++ b) first ∙ append_assoc text a b
