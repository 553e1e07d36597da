-- What a loop over the numbers from 0 on puts behind a text, one number at a time; and three pieces that are put.
use Rattle.std.specs.Prelude.{◌≡◌, ℕ, ◌+◌, List, ◌++◌}
use Rattle.std.specs.List.{flat_map, range_with_len}
use Rattle.std.proofs.Common.{ap, sym, ◌∙◌, append_assoc}
use Rattle.mh_told.proofs.FrameLemmas.{rows_more}

-- one more
pub one_more : (f : ℕ → List ℕ) (n : ℕ) (front text next : List ℕ) → next ≡ text ++ f n → text ≡ front ++ flat_map f (range_with_len 0 n) → next ≡ front ++ flat_map f (range_with_len 0 (n + 1))
one_more f n front text next put so =
    put ∙ ap (λ (xs : List ℕ). xs ++ f n) so ∙ append_assoc front (flat_map f (range_with_len 0 n)) (f n)
    ∙ ap (λ (xs : List ℕ). front ++ xs) (sym (rows_more f n))

-- what was put by the loop, and something behind it
pub closed : (f : ℕ → List ℕ) (n m : ℕ) (front text next back : List ℕ) → n ≡ m → text ≡ front ++ flat_map f (range_with_len 0 n) → next ≡ text ++ back → next ≡ front ++ (flat_map f (range_with_len 0 m) ++ back)
closed f n m front text next back same so put =
    put ∙ ap (λ (xs : List ℕ). xs ++ back) (so ∙ ap (λ (k : ℕ). front ++ flat_map f (range_with_len 0 k)) same) ∙ append_assoc front (flat_map f (range_with_len 0 m)) back

-- three pieces, one behind the other
pub three_put : (text a b c one two three : List ℕ) → one ≡ text ++ a → two ≡ one ++ b → three ≡ two ++ c → three ≡ text ++ (a ++ b ++ c)
three_put text a b c one two three e f g = g ∙ ap (λ (xs : List ℕ). xs ++ c) (f ∙ ap (λ (xs : List ℕ). xs ++ b) e) ∙ simp append_assoc
