-- Each token of a text lies within it, and so does each mark.
use Rattle.std.proofs.Common.{◌≡◌, ℕ, zero, suc, ◌+◌, ◌<◌, ◌≤◌, Bool, true, false, ◌&&◌, ◌==◌, nat_le, if◌then◌else◌, List, [], ◌∷◌, length, take, drop, Option, Some, None, option_to_list, Result, Ok, Err, refl, ◌∙◌, arith, length-drop, length-take}
use Rattle.std.specs.List.{list_all}
use Rattle.std.proofs.lemmas.Bool.{and_parts}
use Rattle.std.proofs.lemmas.Bool.Decides.{nat_tests}
use Rattle.std.proofs.lemmas.List.Folds.{list_all-append}
use Rattle.mh_base.specs.Reading.{Rest, whole}
use Rattle.mh_group.specs.declared.attribute.Attribute.TheVariants as attribute
use Rattle.mh_text.specs.declared.sign.Sign.{Sign}
use Rattle.mh_text.specs.declared.sign.Sign.TheVariants as sign
use Rattle.mh_text.specs.declared.text_error.Why.{Why}
use Rattle.mh_text.specs.declared.token.kind.TokenKind.{TokenKind}
use Rattle.mh_text.specs.declared.mark.marking.Spot.{Spot}
use Rattle.mh_text.specs.Lexing.{gap_length, token_at}
use Rattle.mh_text.specs.Signs.{sign_of}
use Rattle.mh_text.specs.Words.{needs_gap}
use Rattle.mh_text.specs.Rest.{Left, Piece, piece, bad_at}
use Rattle.mh_text.specs.Left.{cut, lexed_at, lexed, meant, left_in, left_of, left}
use Rattle.mh_text.specs.Marks.{in_group, behind, mark_at, marks_from, marks, is_within}

-- the token lies within so many bytes
abbrev pub lies : ℕ → Piece → Bool
lies n p = nat_le (p.start + length p.text) n

-- so do all tokens that are left
abbrev All : ℕ → Left → Type 0
All n l = list_all (lies n) l.pieces ≡ true

-- what is left ends there; behind the last byte it may seem to stand anywhere
abbrev Ends : ℕ → Rest → Type 0
Ends n r = 0 < length r.bytes → r.offset + length r.bytes ≤ n

pub both : (a b : Bool) → a ≡ true → b ≡ true → (a && b) ≡ true
both true true h g = refl
both true false h g = g
both false b h g = h

all_if : (n : ℕ) (b : Bool) (w : Why) (start : ℕ) (p : Piece) (l : Left) → lies n p ≡ true → All n l → All n (if b then bad_at w start else piece p l)
all_if n true w start p l h g = refl
all_if n false w start p l h g = both (lies n p) (list_all (lies n) l.pieces) h g

all_meant : (n : ℕ) (wants : Bool) (offset : ℕ) (kind : TokenKind) (start : ℕ) (text : List ℕ) (s : Result Sign Why) (l : Left)
    → start + length text ≤ n → All n l → All n (meant wants offset kind start text s l)
all_meant n wants offset kind start text (Err w) l h g = refl
all_meant n wants offset kind start text (Ok s) l h g = all_if n (wants && needs_gap kind && start == offset) _ start _ l (grind (arith, nat_tests)) g

all_cut : (n : ℕ) (f : Bool → Rest → Left) (wants : Bool) (r : Rest) (start : ℕ) (bs : List ℕ) (o : Option (TokenKind × ℕ))
    → ((w : Bool) (q : Rest) → Ends n q → All n (f w q)) → start + length bs ≤ n → All n (left_in f wants r (cut start bs o))
all_cut n f wants r start bs None h e = refl
all_cut n f wants r start bs (Some (kind, size)) h e =
    all_meant n wants r.offset kind start (take size bs) (sign_of kind (take size bs)) (f (needs_gap kind) (record { offset = start + size; bytes = drop size bs }))
    (omega (arith, length-take size bs))
    (h (needs_gap kind) (record { offset = start + size; bytes = drop size bs }) (λ some. omega (arith, some, length-drop size bs)))

all_lexed : (n : ℕ) (f : Bool → Rest → Left) (wants : Bool) (r : Rest) (start : ℕ) (bs : List ℕ)
    → ((w : Bool) (q : Rest) → Ends n q → All n (f w q)) → (0 < length bs → start + length bs ≤ n) → All n (left_in f wants r (lexed_at start bs))
all_lexed n f wants r start [] h e = refl
all_lexed n f wants r start (b ∷ bs) h e = all_cut n f wants r start (b ∷ bs) (token_at (b ∷ bs)) h (e (omega arith))

all_left : (n m : ℕ) (wants : Bool) (r : Rest) → Ends n r → All n (left_of m wants r)
unfolding lexed
all_left n zero wants r e = refl
all_left n (suc m) wants r e =
    let gap = gap_length false r.bytes in
    all_lexed n (left_of m) wants r (r.offset + gap) (drop gap r.bytes) (all_left n m) (λ some.
    let most = e (omega (arith, some, length-drop gap r.bytes)) in
    omega (arith, some, length-drop gap r.bytes, most))

mark_within : (n : ℕ) (s : Spot) (g : Sign) (start : ℕ) (text : List ℕ) → nat_le (start + length text) n ≡ true
    → list_all (is_within n) (option_to_list (mark_at s (record { sign = g; start = start; text = text }))) ≡ true
mark_within n s (sign.Action name) start text h = both _ true h refl
mark_within n s (sign.Attribute attribute.TokenGroupItems) start text h = both _ true h refl
mark_within n s (sign.Attribute _) start text h = refl
mark_within n s _ start text h = refl

from_within : (n : ℕ) (s : Spot) (ps : List Piece) → list_all (lies n) ps ≡ true → list_all (is_within n) (marks_from s ps) ≡ true
from_within n s [] h = refl
from_within n s (p ∷ ps) h =
    let parts = and_parts (lies n p) (list_all (lies n) ps) h in
    let here = behind s p.sign in
    list_all-append (is_within n) (option_to_list (mark_at here p)) (marks_from here ps)
    ∙ both _ _ (mark_within n here p.sign p.start p.text parts.0) (from_within n here ps parts.1)

pub all_lie : (bytes : List ℕ) → list_all (lies (length bytes)) (left false (whole bytes)).pieces ≡ true
unfolding left
all_lie bytes = all_left (length bytes) (suc (length bytes)) false (whole bytes) (λ _. omega arith)

pub marks_within : (bytes : List ℕ) → list_all (is_within (length bytes)) (marks bytes) ≡ true
unfolding marks
marks_within bytes = from_within (length bytes) in_group (left false (whole bytes)).pieces (all_lie bytes)
