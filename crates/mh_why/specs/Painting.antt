-- An explanation in colours: lines of an output are bold, causes yellow, mends green, and carets red.
use Rattle.std.specs.Prelude.{◌≡◌, ℕ, ◌==◌, Bool, if◌then◌else◌, List, [], ◌++◌, codes, drop, take, length}
use Rattle.std.specs.List.{flat_map, prefix_len}
use Rattle.std.specs.Str.{bytes_eq}
use Rattle.bstr.specs.Text.{lines_of, without_terminator}
use Rattle.mh_why.specs.declared.paint.TheConstants.{BOLD, RED, YELLOW, GREEN, BACK}
use Rattle.mh_why.specs.declared.paint.Order.{Order}
use Rattle.mh_why.specs.declared.paint.Order.TheVariants as order

-- the orders that a terminal is given: to write in some way, and to write as before
abbrev pub order_bytes : Order → List ℕ
order_bytes order.Bold = BOLD.now
order_bytes order.Red = RED.now
order_bytes order.Yellow = YELLOW.now
order_bytes order.Green = GREEN.now
order_bytes order.Back = BACK.now

abbrev pub coloured : Order → List ℕ → List ℕ
coloured o bs = order_bytes o ++ bs ++ order_bytes order.Back

abbrev pub is_space : ℕ → Bool
is_space b = b == 32

abbrev pub behind_spaces : List ℕ → List ℕ
behind_spaces bs = drop (prefix_len is_space bs) bs

abbrev pub begins_with : List ℕ → List ℕ → Bool
begins_with word bs = bytes_eq (take (length word) bs) word

-- so many bytes of a line are written as they were, and so many behind them in the colour
abbrev pub coloured_from : ℕ → ℕ → Order → List ℕ → List ℕ
coloured_from first size o bs = take first bs ++ coloured o (take size (drop first bs)) ++ drop size (drop first bs)

-- a line without its end
unfoldable pub painted_line : List ℕ → List ℕ
painted_line bs =
    if prefix_len is_space bs == 0 then coloured order.Bold bs
    else (if begins_with (codes "|") (behind_spaces bs) then coloured order.Red bs
    else (if begins_with (codes "  Cause:") bs then coloured_from 2 6 order.Yellow bs
    else (if begins_with (codes "  Mend:") bs then coloured_from 2 5 order.Green bs else bs)))

-- a line with its end
abbrev pub painted_whole : List ℕ → List ℕ
painted_whole l = painted_line (without_terminator l) ++ drop (length (without_terminator l)) l

unfoldable pub painted : List ℕ → List ℕ
painted text = flat_map painted_whole (lines_of text)

-- THE LAW. Colours are all that is added: what is painted are such orders and pieces of the text, which are, one behind the other, the
-- text.

pub data Stroke : Type 0 where
  Given : Order → Stroke
  Written : List ℕ → Stroke

abbrev pub stroke_bytes : Stroke → List ℕ
stroke_bytes (Given o) = order_bytes o
stroke_bytes (Written bs) = bs

abbrev pub written_bytes : Stroke → List ℕ
written_bytes (Given o) = []
written_bytes (Written bs) = bs

pub record IsPainted (text bs : List ℕ) : Type 0 where
  pub strokes : List Stroke
  pub all : bs ≡ flat_map stroke_bytes strokes
  pub same : flat_map written_bytes strokes ≡ text

abbrev pub ColoursAreAllThatIsAdded : Type 0
ColoursAreAllThatIsAdded = (text : List ℕ) → IsPainted text (painted text)
