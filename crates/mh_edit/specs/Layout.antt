-- A text laid out: each line stands in as far as brackets are open in front of it.
use Rattle.std.specs.Prelude.{◌≡◌, ℕ, zero, suc, ◌+◌, ◌-◌, ◌*◌, ◌^◌, ◌≤◌, ◌==◌, min, nat_lt, Bool, true, false, ◌&&◌, ◌||◌, not, if◌then◌else◌, List, [], ◌∷◌, ◌++◌, drop, length, take, Option, Some, None, Ok}
use Rattle.std.specs.List.{prefix_len}
use Rattle.mh_base.specs.Limits.{largest_file}
use Rattle.mh_group.specs.declared.written.Written.{Written}
use Rattle.mh_group.specs.Fit.{is_group}
use Rattle.mh_text.specs.declared.token.kind.TokenKind.{TokenKind}
use Rattle.mh_text.specs.declared.token.kind.TokenKind.TheVariants.{OpenBrace, CloseBrace, OpenParenthesis, CloseParenthesis}
use Rattle.mh_text.specs.Bytes.{begins_with}
use Rattle.mh_text.specs.Reading.{read}
use Rattle.mh_edit.specs.declared.layout.TheConstants.{BLANKS, DEEPEST}
use Rattle.mh_edit.specs.declared.layout.Change.{Change}
use Rattle.mh_edit.specs.declared.word.Word.{Word}
use Rattle.mh_edit.specs.Words.{words}

-- BYTES

-- a space or a tab
abbrev pub is_blank : ℕ → Bool
is_blank b = b == 32 || b == 9

abbrev pub is_no_feed : ℕ → Bool
is_no_feed b = not (b == 10)

-- a line ends here, or the text does
abbrev pub is_end : List ℕ → Bool
is_end [] = true
is_end (b ∷ bs) = b == 10 || b == 13

abbrev pub spaces : ℕ → List ℕ
spaces zero = []
spaces (suc n) = 32 ∷ spaces n

-- numbers stay at the largest
abbrev pub capped : ℕ → ℕ
capped n = min n (2 ^ 64 - 1)

-- BRACKETS

abbrev pub depth_by : ℕ → TokenKind → ℕ
depth_by n OpenBrace = capped (n + 1)
depth_by n OpenParenthesis = capped (n + 1)
depth_by n CloseBrace = n - 1
depth_by n CloseParenthesis = n - 1
depth_by n _ = n

abbrev pub is_closing : TokenKind → Bool
is_closing CloseBrace = true
is_closing CloseParenthesis = true
is_closing _ = false

-- how many brackets are open behind all words
abbrev pub depth_behind : ℕ → List Word → ℕ
depth_behind n [] = n
depth_behind n (w ∷ ws) = depth_behind (depth_by n w.kind) ws

-- the words that begin at the end of a line or behind it, and how many brackets are open in front of them
abbrev pub next_behind : ℕ → ℕ → List Word → ℕ × List Word
next_behind end n [] = (n, [])
next_behind end n (w ∷ ws) = if nat_lt w.at.start end then next_behind end (depth_by n w.kind) ws else (n, w ∷ ws)

-- how far the line stands in before whose end the first of the words may begin: one that begins with a closing bracket as far as that
-- of the opening one
abbrev pub depth_at : ℕ → ℕ → List Word → ℕ
depth_at end n [] = n
depth_at end n (w ∷ ws) = if nat_lt w.at.start end && is_closing w.kind then n - 1 else n

-- CHANGES

-- the blanks in front of what is left of a line; none where nothing is
abbrev pub indent : ℕ → List ℕ → ℕ
indent depth left = if is_end left then 0 else BLANKS * min depth DEEPEST

-- the change in front of a line
abbrev pub change_at : List ℕ → ℕ → ℕ → Change
change_at line kept depth =
    let old = prefix_len is_blank line in
    record { kept = kept; old = old; new = indent depth (drop old line) }

-- a change for each line: so many bytes stay behind the change before it, so many blanks go, and so many spaces come
abbrev pub changes_from : ℕ → ℕ → ℕ → ℕ × List Word → List ℕ → List Change
changes_from zero start kept next bs = []
changes_from (suc n) start kept next [] = []
changes_from (suc n) start kept next (b ∷ bs) =
    let size = prefix_len is_no_feed (b ∷ bs) in
    let end = capped (start + size) in
    change_at (b ∷ bs) kept (depth_at end next.0 next.1)
    ∷ changes_from n (capped (end + 1)) (size - prefix_len is_blank (b ∷ bs) + 1) (next_behind end next.0 next.1) (drop (size + 1) (b ∷ bs))

-- a text whose brackets are not those of a group is left as it is
unfoldable pub changes : List ℕ → List Change
changes bs = if depth_behind 0 (words bs) == 0 then changes_from (length bs) 0 0 (0, words bs) bs else []

-- the text that the changes make
abbrev pub applied : List Change → List ℕ → List ℕ
applied [] bs = bs
applied (c ∷ cs) bs = take c.kept bs ++ (spaces c.new ++ applied cs (drop (c.kept + c.old) bs))

abbrev pub laid : List ℕ → List ℕ
laid bs = applied (changes bs) bs

-- COMMENTS

-- the mark that ends the string which the byte begins
abbrev pub mark_of : ℕ → Option ℕ
mark_of b = if b == 34 || b == 39 then Some b else None

abbrev pub first_line : List ℕ → List ℕ
first_line bs = take (prefix_len is_no_feed bs) bs

-- the comments, within a string or a comment up to the mark; a line's end is the end of both
abbrev pub comments_in : Option ℕ → List ℕ → List (List ℕ)
comments_in m [] = []
comments_in None (b ∷ bs) = if b == 47 && begins_with 47 bs then first_line (b ∷ bs) ∷ comments_in (Some 10) bs else comments_in (mark_of b) bs
comments_in (Some m) (b ∷ bs) = comments_in (if b == m || b == 10 then None else Some m) bs

-- the comments of a text, in their order
abbrev pub comments : List ℕ → List (List ℕ)
comments bs = comments_in None bs

-- THE LAWS

-- a text that is laid out is read as the group as which it was read, unless it is too long for a file then
abbrev pub LaidReadsAsBefore : Type 0
LaidReadsAsBefore = (bs : List ℕ) (g : Written) → is_group g ≡ true → read bs ≡ Ok g → length (laid bs) ≤ largest_file → read (laid bs) ≡ Ok g

-- and has the same comments
abbrev pub LaidKeepsComments : Type 0
LaidKeepsComments = (bs : List ℕ) → comments (laid bs) ≡ comments bs
