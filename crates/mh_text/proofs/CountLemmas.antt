-- A text has no more tokens than bytes, but for one; and no more brackets stand open than tokens were
-- passed.
use Rattle.std.proofs.Common.{ℕ, zero, suc, ◌+◌, ◌≤◌, Bool, true, false, ◌&&◌, ◌==◌, if◌then◌else◌, List, [], ◌∷◌, length, Result, Ok, Err, arith}
use Rattle.mh_base.specs.Reading.{Rest, whole}
use Rattle.mh_text.specs.declared.sign.Sign.{Sign}
use Rattle.mh_text.specs.declared.sign.Sign.TheVariants as sign
use Rattle.mh_text.specs.declared.text_error.Why.{Why}
use Rattle.mh_text.specs.declared.token.kind.TokenKind.{TokenKind}
use Rattle.mh_text.specs.Signs.{sign_of}
use Rattle.mh_text.specs.Words.{needs_gap}
use Rattle.mh_text.specs.Rest.{Left, Piece, piece, bad_at}
use Rattle.mh_text.specs.Left.{Lexed, finished, bad, token, lexed, meant, left_in, left_of, left}
use Rattle.mh_text.specs.Landmarks.{open_behind, pieces_at}

-- so many tokens are left at most
abbrev Few : ℕ → Left → Type 0
Few n l = length l.pieces ≤ n

few_if : (n : ℕ) (b : Bool) (w : Why) (start : ℕ) (p : Piece) (l : Left) → Few n l → Few (suc n) (if b then bad_at w start else piece p l)
few_if n true w start p l h = omega arith
few_if n false w start p l h = omega (arith, h)

few_meant : (n : ℕ) (wants : Bool) (offset : ℕ) (kind : TokenKind) (start : ℕ) (text : List ℕ) (s : Result Sign Why) (l : Left)
    → Few n l → Few (suc n) (meant wants offset kind start text s l)
few_meant n wants offset kind start text (Err w) l h = omega arith
few_meant n wants offset kind start text (Ok s) l h = few_if n (wants && needs_gap kind && start == offset) _ start _ l h

few_in : (n : ℕ) (f : Bool → Rest → Left) (wants : Bool) (r : Rest) (x : Lexed) → ((w : Bool) (q : Rest) → Few n (f w q)) → Few (suc n) (left_in f wants r x)
few_in n f wants r finished h = omega arith
few_in n f wants r (bad start) h = omega arith
few_in n f wants r (token kind start text rest) h =
    few_meant n wants r.offset kind start text (sign_of kind text) (f (needs_gap kind) rest) (h (needs_gap kind) rest)

few_of : (n : ℕ) (wants : Bool) (r : Rest) → Few n (left_of n wants r)
few_of zero wants r = omega arith
few_of (suc n) wants r = few_in n (left_of n) wants r (lexed r) (few_of n)

few_tokens : (bytes : List ℕ) → length (left false (whole bytes)).pieces ≤ suc (length bytes)
unfolding left
few_tokens bytes = few_of (suc (length bytes)) false (whole bytes)

-- behind a token as many may stand open as in front of it and one more
pub few_open : (n b : ℕ) (g : Sign) (more : ℕ) → b + suc more ≤ n → open_behind b g + more ≤ n
few_open n b sign.OpenParenthesis more h = omega (arith, h)
few_open n b sign.CloseParenthesis more h = omega (arith, h)
few_open n b _ more h = omega (arith, h)

few_at : (start : ℕ) (ps : List Piece) → length (pieces_at start ps) ≤ length ps
few_at start [] = omega arith
few_at start (p ∷ ps) = chosen (p.start == start) (few_at start ps)
  where
    chosen : (b : Bool) → length (pieces_at start ps) ≤ length ps → length (if b then p ∷ ps else pieces_at start ps) ≤ suc (length ps)
    chosen true others = omega arith
    chosen false others = omega (arith, others)

pub few_behind : (bytes : List ℕ) (start : ℕ) → length (pieces_at start (left false (whole bytes)).pieces) ≤ suc (length bytes)
few_behind bytes start = omega (arith, few_at start (left false (whole bytes)).pieces, few_tokens bytes)
