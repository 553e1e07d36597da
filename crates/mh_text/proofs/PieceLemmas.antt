-- Tokens with their meaning as words, and what it says of a reading that it went well.
use Rattle.std.proofs.Common.{◌≡◌, ℕ, List, [], ◌∷◌, map, Option, Some, None, Result, Ok, ap, sym, ◌∙◌, subst}
use Rattle.mh_base.specs.Reading.{◌>>=◌}
use Rattle.mh_base.proofs.ReadingLemmas.{went}
use Rattle.mh_text.specs.declared.token.kind.TokenKind.{TokenKind}
use Rattle.mh_text.specs.declared.token.kind.TokenKind.TheVariants as kind
use Rattle.mh_text.specs.declared.sign.Sign.{Sign}
use Rattle.mh_text.specs.declared.sign.Sign.TheVariants as sign
use Rattle.mh_text.specs.declared.text_error.Why.{Why}
use Rattle.mh_text.specs.Signs.{sign_of}
use Rattle.mh_text.specs.Rest.{Left, Piece}
use Rattle.mh_text.specs.Words.{Written, IsWord}
use Rattle.mh_text.specs.Gives.{Refusal}
use Rattle.mh_text.specs.Reading.{next, missing}

-- the kind of the tokens that have this meaning
abbrev pub kind_of : Sign → TokenKind
kind_of sign.OpenBrace = kind.OpenBrace
kind_of sign.CloseBrace = kind.CloseBrace
kind_of sign.OpenParenthesis = kind.OpenParenthesis
kind_of sign.CloseParenthesis = kind.CloseParenthesis
kind_of (sign.Class c) = kind.Keyword
kind_of (sign.Attribute a) = kind.Keyword
kind_of (sign.Action a) = kind.Keyword
kind_of (sign.Kind k) = kind.Keyword
kind_of sign.ContentRef = kind.Keyword
kind_of sign.IndirectRef = kind.Keyword
kind_of (sign.Event e) = kind.Word
kind_of (sign.Justification j) = kind.Word
kind_of (sign.Truth b) = kind.Word
kind_of (sign.Integer x) = kind.Integer
kind_of sign.Text = kind.Text
kind_of sign.Quoted = kind.Quoted

abbrev pub as_word : TokenKind → List ℕ → Written
as_word k text = record { kind = k; text = text }

abbrev pub word_of : Piece → Written
word_of p = record { kind = kind_of p.sign; text = p.text }

abbrev pub words : Left → List Written
words left = map word_of left.pieces

-- the token is a word, and means what it is said to mean
pub record IsGood (p : Piece) : Type 0 where
  pub means : sign_of (kind_of p.sign) p.text ≡ Ok p.sign
  pub word : IsWord (kind_of p.sign) p.text

abbrev pub AreGood : List Piece → Type 0
AreGood [] = Unit {0}
AreGood (p ∷ ps) = IsGood p × AreGood ps

-- what holds of one value holds of its equal; the values are written out where they are long
pub turned : {A : Type 0} (Is : A → Type 0) (x y : A) → x ≡ y → Is y → Is x
turned Is x y e h = subst Is (sym e) h

-- reading went on from one place to another, and passed over words of which R holds
pub record Passes (R : List Written → List Written → Type 0) (left rest : Left) : Type 0 where
  pub spells : R (words left) (words rest)
  pub good : AreGood rest.pieces
  pub wrong : rest.wrong ≡ left.wrong

-- what is wrong further on stays so from one place to the next
pub onward : (left middle rest : Left) → middle.wrong ≡ left.wrong → rest.wrong ≡ middle.wrong → rest.wrong ≡ left.wrong
onward left middle rest first then_on = then_on ∙ first

-- a token was taken
pub record Took (left : Left) (p : Piece) (rest : Left) : Type 0 where
  pub pieces : left.pieces ≡ p ∷ rest.pieces
  pub wrong : rest.wrong ≡ left.wrong

missing_none : (w : Option Why) (o : ℕ) (p : Piece) (rest : Left) → missing {A = Piece × Left} w o ≡ Ok (p, rest) → ⊥
missing_none None o p rest e = cc
missing_none (Some w) o p rest e = cc

took_from : (ps : List Piece) (w : Option Why) (o : ℕ) (p : Piece) (rest : Left) → next (record { pieces = ps; wrong = w; offset = o }) ≡ Ok (p, rest)
    → Took (record { pieces = ps; wrong = w; offset = o }) p rest
took_from [] w o p rest e = absurd (missing_none w o p rest e)
took_from (q ∷ qs) w o p rest e =
    let same : (q, record { pieces = qs; wrong = w; offset = o }) ≡ (p, rest) = cc in
    record { pieces = ap (λ (x : Piece × Left). x.0 ∷ x.1.pieces) same; wrong = sym (ap (λ (x : Piece × Left). x.1.wrong) same) }

pub took : (left : Left) (p : Piece) (rest : Left) → next left ≡ Ok (p, rest) → Took left p rest
took left p rest e = took_from left.pieces left.wrong left.offset p rest e

-- the words of what was left, by those that are left
pub took_words : (left : Left) (p : Piece) (rest : Left) → Took left p rest → words left ≡ word_of p ∷ words rest
took_words left p rest t = ap (map word_of) t.pieces

pub took_good : (left : Left) (p : Piece) (rest : Left) → Took left p rest → AreGood left.pieces → IsGood p × AreGood rest.pieces
took_good left p rest t good = subst AreGood t.pieces good

-- a token was taken, and reading went on behind it
pub record WentOn {B : Type 0} (left : Left) (f : Piece × Left → Result B Refusal) (y : B) : Type 0 where
  pub piece : Piece
  pub rest : Left
  pub written : words left ≡ word_of piece ∷ words rest
  pub is_good : IsGood piece
  pub good : AreGood rest.pieces
  pub wrong : rest.wrong ≡ left.wrong
  pub behind : f (piece, rest) ≡ Ok y

pub went_on : {B : Type 0} (left : Left) (f : Piece × Left → Result B Refusal) (y : B) → AreGood left.pieces → (next left >>= f) ≡ Ok y → WentOn left f y
went_on left f y good e =
    let w = went (next left) f y e in
    let t = took left w.value.0 w.value.1 w.first in
    let g = took_good left w.value.0 w.value.1 t good in
    record {
      piece = w.value.0;
      rest = w.value.1;
      written = took_words left w.value.0 w.value.1 t;
      is_good = g.0;
      good = g.1;
      wrong = t.wrong;
      behind = w.behind;
    }

-- reading went on from a token, and passed over words of which R holds
pub record PassesFrom (R : List Written → List Written → Type 0) (p : Piece) (left rest : Left) : Type 0 where
  pub spells : R (word_of p ∷ words left) (words rest)
  pub good : AreGood rest.pieces
  pub wrong : rest.wrong ≡ left.wrong
