-- The lines of a script that can have been refused, one line further.
use Rattle.std.specs.Prelude.{◌≡◌, ℕ, ◌+◌, Bool, true, false, if◌then◌else◌, List, [], ◌∷◌, ◌++◌, length, refl}
use Rattle.std.proofs.Common.{ap, sym, ◌∙◌, append_assoc}
use Rattle.bstr.specs.Text.{without_terminator}
use Rattle.mh_why.specs.Posts.{is_stop, post_of, posts_from}

goes_on : (b : Bool) (xs : List (ℕ × ℕ)) → b ≡ false → (if b then [] else xs) ≡ xs
goes_on true xs is = absurd cc
goes_on false xs is = refl

pub posts_next : (number : List ℕ) (at : ℕ) (line words : List ℕ) (ls rest : List (List ℕ)) (posts next all : List (ℕ × ℕ)) → ls ≡ line ∷ rest → words ≡ without_terminator line
    → is_stop words ≡ false → next ≡ posts ++ post_of number at words → posts ++ posts_from number at ls ≡ all → next ++ posts_from number (at + length line) rest ≡ all
posts_next number at line words ls rest posts next all is same stop put so =
    let behind : List (ℕ × ℕ) = posts_from number (at + length line) rest in
    let step : posts_from number at (line ∷ rest) ≡ post_of number at (without_terminator line) ++ behind =
    goes_on (is_stop (without_terminator line)) (post_of number at (without_terminator line) ++ behind) (ap (λ (w : List ℕ). is_stop w) (sym same) ∙ stop) in
    ap (λ (ps : List (ℕ × ℕ)). ps ++ behind) put ∙ append_assoc posts (post_of number at words) behind
    ∙ ap (λ (w : List ℕ). posts ++ (post_of number at w ++ behind)) same ∙ ap (λ (ps : List (ℕ × ℕ)). posts ++ ps) (sym step)
    ∙ ap (λ (xs : List (List ℕ)). posts ++ posts_from number at xs) (sym is) ∙ so
