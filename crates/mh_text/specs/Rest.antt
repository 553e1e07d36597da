-- How contracts see what is left of a text, as tokens with their meaning.
use Rattle.std.specs.Prelude.{ℕ, List, [], ◌∷◌, Option, Some, None}
use Rattle.mh_text.specs.declared.sign.Sign.{Sign}
use Rattle.mh_text.specs.declared.text_error.Why.{Why}

-- a token with its meaning
pub record Piece : Type 0 where
  pub sign : Sign
  pub start : ℕ
  pub text : List ℕ

-- The tokens that are left, up to the end or to the first thing that is wrong; and the offset of that.
pub record Left : Type 0 where
  pub pieces : List Piece
  pub wrong : Option Why
  pub offset : ℕ

-- nothing is left, and the text ends here
abbrev pub nothing : ℕ → Left
nothing o = record { pieces = []; wrong = None; offset = o }

-- nothing good is left
abbrev pub bad_at : Why → ℕ → Left
bad_at w o = record { pieces = []; wrong = Some w; offset = o }

-- a token, and what is left behind it
abbrev pub piece : Piece → Left → Left
piece p behind = record behind { pieces = p ∷ behind.pieces }
