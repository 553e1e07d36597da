-- What was read from a text is spelled by it.
use Rattle.std.proofs.Common.{◌≡◌, ℕ, zero, suc, ◌<◌, Bool, true, false, ◌&&◌, ◌==◌, nat_lt, if◌then◌else◌, List, [], ◌∷◌, length, map, Option, Some, None, Result, Ok, Err, ℤ, refl, ap, sym, ◌∙◌, subst, subst₂, arith}
use Rattle.std.proofs.lemmas.Bool.Decides.{nat_tests}
use Rattle.mh_base.specs.Reading.{Rest, whole}
use Rattle.mh_base.specs.Limits.{largest_file}
use Rattle.mh_base.proofs.ReadingLemmas.{went, if_not_ok, ok_same, is_file}
use Rattle.mh_group.specs.declared.written.Written.{Written as Group}
use Rattle.mh_text.specs.declared.token.kind.TokenKind.{TokenKind}
use Rattle.mh_text.specs.declared.token.kind.TokenKind.TheVariants as kind
use Rattle.mh_text.specs.declared.sign.Sign.{Sign}
use Rattle.mh_text.specs.declared.sign.Sign.TheVariants as sign
use Rattle.mh_text.specs.declared.text_error.Why.{Why}
use Rattle.mh_text.specs.declared.text_error.Why.TheVariants as why
use Rattle.mh_text.specs.Signs.{sign_of, or_else, word_sign, integer_sign, integer_of}
use Rattle.mh_text.specs.Rest.{Left, Piece, piece, bad_at}
use Rattle.mh_text.specs.Left.{Lexed, finished, bad, token, lexed, meant, left_in, left}
use Rattle.mh_text.specs.Words.{AreWords, IsWord, needs_gap}
use Rattle.mh_text.specs.Spelling.{IsGroup, Spells}
use Rattle.mh_text.specs.Reading.{ended, group, read}
use Rattle.mh_text.proofs.LeftLemmas.{left_is, lexed_shorter}
use Rattle.mh_text.proofs.SignLemmas.{keyword_kind, word_kind, or_gives}
use Rattle.mh_text.proofs.PieceLemmas.{kind_of, word_of, words, AreGood}
use Rattle.mh_text.proofs.TokenLemmas.{IsCut, lexed_token, lexed_finished}
use Rattle.mh_text.proofs.FoundGroups.{group_found}

integer_if : (o : Option ℤ) (s : Sign) → or_else sign.Integer o None ≡ Some s → kind_of s ≡ kind.Integer
integer_if (Some x) s e =
    let same : s ≡ sign.Integer x = cc in
    ap kind_of same
integer_if None s e = absurd cc

integer_kind : (text : List ℕ) (s : Sign) → integer_sign text ≡ Some s → kind_of s ≡ kind.Integer
integer_kind text s e = integer_if (integer_of text) s e

ok_why : {x y : Sign} → ◌≡◌ {A = Result Sign Why} (Ok x) (Ok y) → x ≡ y
ok_why e = cc

kind_means : (k : TokenKind) (text : List ℕ) (s : Sign) → sign_of k text ≡ Ok s → k ≡ kind_of s
unfolding sign_of word_sign
kind_means kind.OpenBrace text s e = ap kind_of (ok_why e)
kind_means kind.CloseBrace text s e = ap kind_of (ok_why e)
kind_means kind.OpenParenthesis text s e = ap kind_of (ok_why e)
kind_means kind.CloseParenthesis text s e = ap kind_of (ok_why e)
kind_means kind.Keyword text s e = sym (keyword_kind text s (or_gives why.UnknownName _ s e))
kind_means kind.Word text s e = sym (word_kind text s (or_gives why.UnknownName _ s e))
kind_means kind.Integer text s e = sym (integer_kind text s (or_gives why.Range _ s e))
kind_means kind.Text text s e = ap kind_of (ok_why e)
kind_means kind.Quoted text s e = ap kind_of (ok_why e)

-- the tokens that are left, and if nothing is wrong the words of the bytes that are left
record IsWorded (wants : Bool) (bs : List ℕ) (l : Left) : Type 0 where
  pub good : AreGood l.pieces
  pub worded : l.wrong ≡ None → AreWords wants bs (words l)

all_three : (a b c : Bool) → (a && b && c) ≡ false → a ≡ true → b ≡ true → c ≡ true → ⊥
all_three true true true h f g e = cc
all_three true true false h f g e = cc
all_three true false c h f g e = cc
all_three false b c h f g e = cc

is_same_number : (n m : ℕ) → n ≡ m → (n == m) ≡ true
is_same_number n m h = grind (arith, nat_tests)

piece_words : (wants : Bool) (r : Rest) (k : TokenKind) (start : ℕ) (text : List ℕ) (s : Sign) (rest : Rest) (b : Bool) → (wants && needs_gap k && start == r.offset) ≡ b
    → IsCut r k start text rest → k ≡ kind_of s → sign_of k text ≡ Ok s → IsWorded (needs_gap k) rest.bytes (left (needs_gap k) rest)
    → IsWorded wants r.bytes (if b then bad_at why.Syntax start else piece (record { sign = s; start = start; text = text }) (left (needs_gap k) rest))
piece_words wants r k start text s rest true h c same means behind = record { good = tt; worded = λ e. absurd cc }
piece_words wants r k start text s rest false h c same means behind = record {
  good = (record { means = subst (λ x. sign_of x text ≡ Ok s) same means; word = subst (λ x. IsWord x text) same c.word }, behind.good);
  worded = λ e. (
    c.gap,
    rest.bytes,
    c.is_gap,
    c.bytes,
    subst (λ x. IsWord x text) same c.word,
    (λ w n none. all_three wants (needs_gap k) (start == r.offset) h w (ap needs_gap same ∙ n) (is_same_number start r.offset (c.tight none))),
    subst (λ x. AreWords (needs_gap x) rest.bytes (words (left (needs_gap k) rest))) same (behind.worded e),
  );
}

meant_words : (wants : Bool) (r : Rest) (k : TokenKind) (start : ℕ) (text : List ℕ) (m : Result Sign Why) (rest : Rest) → IsCut r k start text rest → sign_of k text ≡ m
    → IsWorded (needs_gap k) rest.bytes (left (needs_gap k) rest) → IsWorded wants r.bytes (meant wants r.offset k start text m (left (needs_gap k) rest))
meant_words wants r k start text (Err w) rest c means behind = record { good = tt; worded = λ e. absurd cc }
meant_words wants r k start text (Ok s) rest c means behind = piece_words wants r k start text s rest _ refl c (kind_means k text s means) means behind

in_words : (wants : Bool) (r : Rest) (l : Lexed) → lexed r ≡ l → ((w : Bool) (rest : Rest) → length rest.bytes < length r.bytes → IsWorded w rest.bytes (left w rest))
    → IsWorded wants r.bytes (left_in left wants r l)
in_words wants r finished e further = record { good = tt; worded = λ _. lexed_finished r e }
in_words wants r (bad start) e further = record { good = tt; worded = λ h. absurd cc }
in_words wants r (token k start text rest) e further =
    meant_words wants r k start text (sign_of k text) rest (lexed_token r k start text rest e) refl (further (needs_gap k) rest (lexed_shorter r k start text rest e))

left_words : (n : ℕ) (wants : Bool) (r : Rest) → length r.bytes < n → IsWorded wants r.bytes (left wants r)
left_words zero wants r h = absurd (omega arith)
left_words (suc n) wants r h =
    subst (λ l. IsWorded wants r.bytes l) (sym (left_is wants r))
    (in_words wants r (lexed r) refl (λ w rest shorter. left_words n w rest (omega arith)))

-- nothing is left
ended_from : (ps : List Piece) (w : Option Why) (o : ℕ) → ended (record { pieces = ps; wrong = w; offset = o }) ≡ Ok tt → (ps ≡ []) × (w ≡ None)
ended_from [] None o e = (refl, refl)
ended_from [] (Some w) o e = absurd cc
ended_from (p ∷ ps) w o e = absurd cc

pub read_found : (bytes : List ℕ) (g : Group) → read bytes ≡ Ok g → Spells bytes g
unfolding read Spells
read_found bytes g e =
    let t = if_not_ok (nat_lt largest_file (length bytes)) _ why.Limit 0 g e in
    let x = went (group (left false (whole bytes))) _ g t.1 in
    let end = went (ended x.value.1) _ g x.behind in
    let start = left_words (suc (length bytes)) false (whole bytes) (omega arith) in
    let found = group_found (left false (whole bytes)) x.value.0 x.value.1 start.good x.first in
    let none = ended_from x.value.1.pieces x.value.1.wrong x.value.1.offset end.first in (
      is_file (length bytes) t.0,
      words (left false (whole bytes)),
      start.worded (sym found.wrong ∙ none.1),
      subst₂ (λ y ws. IsGroup y (words (left false (whole bytes))) ws) (ok_same end.behind) (ap (map word_of) none.0) found.spells,
    )
