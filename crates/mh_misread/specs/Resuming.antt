-- What more is wrong with a text: reading goes on at the next ingredient, as if the group had begun there.
use Rattle.std.specs.Prelude.{ℕ, zero, suc, ◌-◌, Bool, true, false, not, ◌==◌, ◌||◌, nat_lt, if◌then◌else◌, List, [], ◌∷◌, ◌++◌, length, take, drop, Option, Some, None, Result, Ok, Err}
use Rattle.std.specs.List.{filter, prefix_len}
use Rattle.mh_base.specs.Reading.{whole}
use Rattle.mh_group.specs.declared.class.Class.TheVariants as class
use Rattle.mh_text.specs.declared.token.kind.TokenKind.{TokenKind}
use Rattle.mh_text.specs.declared.token.kind.TokenKind.TheVariants as kind
use Rattle.mh_text.specs.Gives.{Refusal}
use Rattle.mh_text.specs.Left.{Lexed, finished, bad, token, lexed}
use Rattle.mh_text.specs.Numbers.{number_of}
use Rattle.mh_text.specs.Reading.{read}
use Rattle.mh_group.specs.declared.written.Written.{Written}
use Rattle.mh_misread.specs.declared.name.Name.TheVariants as name
use Rattle.mh_misread.specs.declared.piece.Sign.{Sign}
use Rattle.mh_misread.specs.declared.piece.Sign.TheVariants as sign
use Rattle.mh_misread.specs.declared.mistake.Mistake.{Mistake}
use Rattle.mh_misread.specs.declared.mistake.Refused.{Refused}
use Rattle.mh_misread.specs.declared.resuming.TheConstants.{APPLICATION_HEAD, SCENE_HEAD}
use Rattle.mh_misread.specs.Misreads.{first_sign}

-- THE NEXT BRACE

abbrev pub is_line_end : ℕ → Bool
is_line_end b = b == 10

-- a string, or what may be meant as a comment, goes on from this byte to the end of the line
abbrev pub fills_line : ℕ → Bool
fills_line b = b == 34 || (b == 39 || (b == 35 || b == 47))

-- how many bytes are passed over where no token begins
abbrev pub skipped : List ℕ → ℕ
skipped [] = 0
skipped (b ∷ bs) = if fills_line b then prefix_len (λ c. not (is_line_end c)) (b ∷ bs) else 1

abbrev pub is_open_brace : TokenKind → Bool
is_open_brace kind.OpenBrace = true
is_open_brace k = false

-- What is found at the front of the bytes: nothing, a brace, with all behind it, or what further finds behind it.
abbrev pub brace_in : (List ℕ → List ℕ) → List ℕ → Lexed → List ℕ
brace_in further bs finished = []
brace_in further bs (bad start) = further (drop (skipped (drop start bs)) (drop start bs))
brace_in further bs (token k start text rest) =
    if is_open_brace k then drop start bs else further (drop (length text) (drop start bs))

abbrev pub from_brace_by : ℕ → List ℕ → List ℕ
from_brace_by zero bs = []
from_brace_by (suc n) bs = brace_in (from_brace_by n) bs (lexed (whole bs))

-- the bytes from the first brace on that opens; there are no more tokens than bytes
unfoldable pub from_brace : List ℕ → List ℕ
from_brace bs = from_brace_by (length bs) bs

-- THE TEXT THAT IS READ

abbrev pub is_application : Option Sign → Bool
is_application (Some (sign.Name (name.Class class.Application))) = true
is_application s = false

abbrev pub head : Bool → List ℕ
head true = APPLICATION_HEAD.now
head false = SCENE_HEAD.now

-- the beginning of a group of the class that the file names behind its brace, if that is an application's, or else a scene's
unfoldable pub head_of : List ℕ → List ℕ
head_of file = head (is_application (first_sign (drop 1 (from_brace file))))

-- The whole file, or the group of which the first ingredient stands behind so many bytes: its line has the number that it has in
-- the file.
unfoldable pub text_from : List ℕ → ℕ → List ℕ
text_from file from = if from == 0 then file else head_of file ++ filter is_line_end (take from file) ++ drop from file

-- MISTAKES

-- where reading goes on in a file of this size, of which these bytes are left
abbrev pub next_place : ℕ → List ℕ → Option ℕ
next_place size [] = None
next_place size (b ∷ bs) = Some (size - length (b ∷ bs))

-- a text that is too long is read no further
abbrev pub next_behind : ℕ → ℕ → List ℕ → Option ℕ
next_behind number size rest = if number == 24 then None else next_place size (from_brace rest)

-- why a text is not read, if it is not
abbrev pub refusal_of : Result Written Refusal → Option Refused
refusal_of (Ok group) = None
refusal_of (Err r) = Some (record { number = number_of r.why; offset = r.offset })

-- the mistake of a text that was read from this place of the file on, if it is of the file
unfoldable pub mistake_at : List ℕ → List ℕ → ℕ → Refused → Option Mistake
mistake_at file text from r =
    if nat_lt (length file - length (drop r.offset text)) from then None
    else Some (record {
      from = from;
      offset = r.offset;
      place = length file - length (drop r.offset text);
      number = r.number;
      next = next_behind r.number (length file) (drop r.offset text);
    })

abbrev pub mistake_in : List ℕ → List ℕ → ℕ → Option Refused → Option Mistake
mistake_in file text from None = None
mistake_in file text from (Some r) = mistake_at file text from r

-- the first mistake of the file, read from this place on
unfoldable pub mistake_from : List ℕ → ℕ → Option Mistake
mistake_from file from = mistake_in file (text_from file from) from (refusal_of (read (text_from file from)))

abbrev pub next_mistake : List ℕ → Option ℕ → Option Mistake
next_mistake file None = None
next_mistake file (Some from) = mistake_from file from

-- a mistake, if there is one, and those behind it
abbrev pub with_mistake : (Option ℕ → List Mistake) → Option Mistake → List Mistake
with_mistake further None = []
with_mistake further (Some m) = m ∷ further m.next

abbrev pub mistakes_by : ℕ → List ℕ → Option ℕ → List Mistake
mistakes_by zero file next = []
mistakes_by (suc n) file next = with_mistake (mistakes_by n file) (next_mistake file next)

-- the first mistakes of the file, at most so many
unfoldable pub mistakes : ℕ → List ℕ → List Mistake
mistakes most file = mistakes_by most file (Some 0)
