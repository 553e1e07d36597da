-- What the bytes of a terminal ask for.
use Rattle.std.specs.Prelude.{ℕ, Bool, ◌==◌, ◌||◌, ◌&&◌, nat_le, if◌then◌else◌, List, [], ◌∷◌, ◌++◌, Option, Some, None}
use Rattle.mh_model.specs.declared.key.Key.{Key}
use Rattle.mh_model.specs.declared.key.Key.TheVariants as key
use Rattle.mh_script.specs.Script.{key_named}
use Rattle.mh_live.specs.declared.asks.Ask.{Ask}
use Rattle.mh_live.specs.declared.asks.Ask.TheVariants as ask
use Rattle.mh_live.specs.declared.asks.Sequence.{Sequence}
use Rattle.mh_live.specs.declared.asks.Sequence.TheVariants as sequence

-- Bytes that stand alone: digits, Enter, the letters of the colours and of Text; s, e, l and f, < and >, Ctrl-L, q and Ctrl-C.

unfoldable pub digit_key : ℕ → Option Key
digit_key b = key_named (b ∷ [])

unfoldable pub plain_key : ℕ → Option Key
plain_key b =
    if b == 13 || b == 10 then Some key.Select
    else (if b == 114 then Some key.Red
    else (if b == 103 then Some key.Green
    else (if b == 121 then Some key.Yellow
    else (if b == 98 then Some key.Blue
    else (if b == 116 then Some key.Text else digit_key b)))))

abbrev pub key_ask : Option Key → Option Ask
key_ask (Some k) = Some (ask.Key k)
key_ask None = None

unfoldable pub other_ask : ℕ → Option Ask
other_ask b =
    if b == 108 then Some ask.Scene
    else (if b == 102 then Some ask.File
    else (if b == 60 then Some ask.Back
    else (if b == 62 then Some ask.Forth
    else (if b == 12 then Some ask.Redraw else key_ask (plain_key b)))))

unfoldable pub plain_ask : ℕ → Option Ask
plain_ask b =
    if b == 115 then Some ask.Stream
    else (if b == 101 then Some ask.Engine
    else (if b == 113 || b == 3 then Some ask.Quit else other_ask b))

-- Sequences: behind ESC [ and any number of parameters, or behind ESC O, the letters A to D are the arrows.

unfoldable pub arrow_ask : ℕ → Option Ask
arrow_ask b =
    if b == 65 then Some (ask.Key key.Up)
    else (if b == 66 then Some (ask.Key key.Down)
    else (if b == 67 then Some (ask.Key key.Right)
    else (if b == 68 then Some (ask.Key key.Left) else None)))

-- [ and O begin a sequence behind ESC
abbrev pub begins : ℕ → Bool
begins b = b == 91 || b == 79

-- the parameters of a control sequence
abbrev pub is_within : ℕ → Bool
is_within b = nat_le 32 b && nat_le b 63

abbrev pub begun_by : ℕ → Sequence
begun_by b = if b == 27 then sequence.Escape else sequence.Nothing

abbrev pub behind_escape : ℕ → Sequence
behind_escape b = if b == 91 then sequence.Control else (if b == 79 then sequence.Shift else begun_by b)

-- what has begun behind a byte
abbrev pub behind : Sequence → ℕ → Sequence
behind sequence.Nothing b = begun_by b
behind sequence.Escape b = behind_escape b
behind sequence.Control b = if is_within b then sequence.Control else begun_by b
behind sequence.Shift b = begun_by b

-- What is asked for.

abbrev pub as_list : Option Ask → List Ask
as_list (Some a) = a ∷ []
as_list None = []

-- an ESC that begins no sequence is Cancel
abbrev pub asked_behind_escape : ℕ → List Ask
asked_behind_escape b = if begins b then [] else ask.Key key.Cancel ∷ as_list (plain_ask b)

abbrev pub asked : Sequence → ℕ → List Ask
asked sequence.Nothing b = as_list (plain_ask b)
asked sequence.Escape b = asked_behind_escape b
asked sequence.Control b = as_list (arrow_ask b)
asked sequence.Shift b = as_list (arrow_ask b)

abbrev pub asked_at_end : Sequence → Option Ask
asked_at_end sequence.Escape = Some (ask.Key key.Cancel)
asked_at_end sequence.Nothing = None
asked_at_end sequence.Control = None
asked_at_end sequence.Shift = None

-- what these bytes ask for, where this has begun before them
abbrev pub asks_from : Sequence → List ℕ → List Ask
asks_from s [] = as_list (asked_at_end s)
asks_from s (b ∷ bs) = asked s b ++ asks_from (behind s b) bs

abbrev pub asks_of : List ℕ → List Ask
asks_of bs = asks_from sequence.Nothing bs
