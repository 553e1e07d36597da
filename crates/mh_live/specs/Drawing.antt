-- The only orders that a terminal is given are those of drawing.
use Rattle.std.specs.Prelude.{◌≡◌, ℕ, Bool, true, not, List, ◌∷◌, [], codes, Option}
use Rattle.std.specs.List.{flat_map, list_all}
use Rattle.mh_told.specs.Printing.{character}
use Rattle.mh_terminal.specs.Frames.{colour_order, is_order}
use Rattle.mh_live.specs.Screen.{Screen, clear_line, clear_screen, drawn, end_text, move_to, small_text}

-- what drawing consists of
pub data Piece : Type 0 where
  -- the cursor goes to a line
  Move : ℕ → Piece
  -- the screen is cleared, or a line from the cursor on
  ClearScreen : Piece
  ClearLine : Piece
  -- the colour in which characters are written, the one behind them, and the usual ones again
  Colour : ℕ → Piece
  Background : ℕ → Piece
  UsualColours : Piece
  -- a line ends
  LineEnd : Piece
  -- characters
  Characters : List ℕ → Piece

abbrev pub spelling : Piece → List ℕ
spelling (Move n) = move_to n
spelling ClearScreen = clear_screen
spelling ClearLine = clear_line
spelling (Colour c) = colour_order (codes "38") c
spelling (Background c) = colour_order (codes "48") c
spelling UsualColours = 27 ∷ codes "[0m"
spelling LineEnd = 10 ∷ []
spelling (Characters cs) = flat_map character cs

-- no character is an order
abbrev pub is_harmless : Piece → Bool
is_harmless (Characters cs) = list_all (λ c. not (is_order c)) cs
is_harmless _ = true

-- the bytes are a list of such pieces
pub record IsDrawing (bs : List ℕ) : Type 0 where
  pub pieces : List Piece
  pub spelled : bs ≡ flat_map spelling pieces
  pub harmless : list_all is_harmless pieces ≡ true

-- whatever was shown before, and whatever is to be shown; what is shown of a window that is too small, and behind a play
abbrev pub ScreensAreDrawings : Type 0
ScreensAreDrawings =
    ((before : Option Screen) (after : Screen) → IsDrawing (drawn before after))
    × ((rows columns : ℕ) → IsDrawing (small_text rows columns)) × IsDrawing end_text
