-- The tokens of a text in front of a place, with what they mean.
use Rattle.std.specs.Prelude.{ℕ, zero, suc, Bool, false, ◌==◌, nat_lt, if◌then◌else◌, List, [], ◌∷◌, length, drop, Option, Some, None}
use Rattle.mh_base.specs.Reading.{Rest, whole}
use Rattle.mh_group.specs.declared.attribute.Attribute.{Attribute}
use Rattle.mh_group.specs.Table.{attribute_number}
use Rattle.mh_text.specs.declared.token.kind.TokenKind.{TokenKind}
use Rattle.mh_text.specs.declared.token.kind.TokenKind.TheVariants as kind
use Rattle.mh_text.specs.Left.{Lexed, finished, bad, token, lexed}
use Rattle.mh_misread.specs.declared.name.Name.{Name}
use Rattle.mh_misread.specs.declared.name.Name.TheVariants as name
use Rattle.mh_misread.specs.declared.piece.Sign.{Sign}
use Rattle.mh_misread.specs.declared.piece.Sign.TheVariants as sign
use Rattle.mh_misread.specs.declared.piece.Piece.{Piece}
use Rattle.mh_misread.specs.Names.{keyword_named, word_named}

abbrev pub named : Option Name → Sign
named (Some n) = sign.Name n
named None = sign.Unknown

-- what a token of this kind and these bytes is
unfoldable pub sign_of : TokenKind → List ℕ → Sign
sign_of kind.OpenBrace text = sign.OpenBrace
sign_of kind.CloseBrace text = sign.CloseBrace
sign_of kind.OpenParenthesis text = sign.Open
sign_of kind.CloseParenthesis text = sign.Close
sign_of kind.Keyword text = named (keyword_named (drop 1 text))
sign_of kind.Word text = named (word_named text)
sign_of kind.Integer text = sign.Integer
sign_of kind.Text text = sign.String
sign_of kind.Quoted text = sign.String

-- What is found next, if it is a token that begins before the offset; behind is told of what is left behind it.
abbrev pub before_in : (Rest → List Piece) → ℕ → Lexed → List Piece
before_in behind offset finished = []
before_in behind offset (bad start) = []
before_in behind offset (token k start text rest) =
    if nat_lt start offset then record { sign = sign_of k text; start = start } ∷ behind rest else []

-- the first of what is left that begin before the offset, at most so many
abbrev pub pieces_from : ℕ → ℕ → Rest → List Piece
pieces_from zero offset r = []
pieces_from (suc n) offset r = before_in (pieces_from n offset) offset (lexed r)

-- the tokens of a text that begin before the offset; there are no more of them than bytes
unfoldable pub pieces_before : List ℕ → ℕ → List Piece
pieces_before bytes offset = pieces_from (length bytes) offset (whole bytes)

-- a token, if there is one, in front of others
abbrev pub with_piece : Option Piece → List Piece → List Piece
with_piece None ps = []
with_piece (Some p) ps = p ∷ ps

-- the token is the keyword of the attribute
abbrev pub is_keyword_of : Attribute → Sign → Bool
is_keyword_of a (sign.Name (name.Attribute b)) = attribute_number b == attribute_number a
is_keyword_of a _ = false
