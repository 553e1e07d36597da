-- The tokens before a place, one by one.
use Rattle.std.proofs.Common.{◌≡◌, ℕ, suc, List, [], ◌∷◌, ◌++◌, Option, refl, ap, ◌∙◌}
use Rattle.mh_base.specs.Reading.{Rest}
use Rattle.mh_text.specs.Left.{lexed}
use Rattle.mh_misread.specs.declared.piece.Piece.{Piece}
use Rattle.mh_misread.specs.Pieces.{before_in, pieces_from, with_piece}

-- where what is found next is one token, or none, what is found is that and what stands behind it
pub pieces_more : (n m offset : ℕ) (r s : Rest) (o : Option Piece) → n ≡ suc m
    → ((behind : Rest → List Piece) → before_in behind offset (lexed r) ≡ with_piece o (behind s))
    → pieces_from n offset r ≡ with_piece o (pieces_from m offset s)
pieces_more n m offset r s o h e = ap (λ k. pieces_from k offset r) h ∙ e (pieces_from m offset)

pub pushed : {A : Type 0} → (xs ys : List A) (x : A) → (xs ++ x ∷ []) ++ ys ≡ xs ++ x ∷ ys
pushed [] ys x = refl
pushed (z ∷ zs) ys x = ap (λ rest. z ∷ rest) (pushed zs ys x)
