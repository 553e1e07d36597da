-- What a visible looks like as it is written, where nothing changes that: its box on the screen, its text in the box, and the
-- colour of the text.
use Rattle.std.specs.Prelude.{ℕ, ◌-◌, ◌/◌, ◌%◌, ◌==◌, nat_le, nat_lt, Bool, true, false, ◌&&◌, ◌||◌, not, if◌then◌else◌, List, length, take, pos, int_le, ◌+ℤ◌}
use Rattle.std.specs.List.{count_by, list_any, suffix_len}
use Rattle.bstr.specs.Utf8.{lossy_chars}
use Rattle.mh_base.specs.declared.area.Area.{Area}
use Rattle.mh_base.specs.declared.colour.Colour.{Colour}
use Rattle.mh_group.specs.declared.attribute.Attribute.TheVariants as attribute
use Rattle.mh_group.specs.declared.class.Class.{Class}
use Rattle.mh_group.specs.declared.class.Class.TheVariants as class
use Rattle.mh_group.specs.Table.{is_push_button, is_visible, shows_text}
use Rattle.mh_model.specs.declared.object.Fixed.{Fixed}
use Rattle.mh_model.specs.Boxes.{columns_of, first_column, first_row, rows_of}
use Rattle.mh_model.specs.Looks.{area_by, opaque_white, transparent_black}
use Rattle.mh_model.specs.Property.{held, as_bool, as_colour, as_octets, as_pair, as_value}
use Rattle.mh_lint.specs.Uses.{Uses, is_used}

-- WHAT NOTHING CHANGES

abbrev pub stays : Uses → Fixed → Bool
stays u p = not (is_used u.moved p.key)

abbrev pub keeps_size : Uses → Fixed → Bool
keeps_size u p = not (is_used u.resized p.key)

abbrev pub keeps_words : Uses → Fixed → Bool
keeps_words u p = not (is_used u.reworded p.key)

abbrev pub keeps_colour : Uses → Fixed → Bool
keeps_colour u p = not (is_used u.tinted p.key)

-- BOXES. The screen has 60 columns and 36 rows of cells.

abbrev pub box : Fixed → Area
box p = area_by (as_pair (held attribute.OrigBoxSize p.properties)) (as_pair (held attribute.OrigPosition p.properties))

-- it begins behind the last column, or below the last row
abbrev pub begins_off : Area → Bool
begins_off a = int_le (pos 60) (first_column a) || int_le (pos 36) (first_row a)

-- it ends at the left edge or before it, or at the upper edge or above it
abbrev pub ends_off : Area → Bool
ends_off a = int_le (a.x +ℤ a.width) (pos 0) || int_le (a.y +ℤ a.height) (pos 0)

-- a visible off the screen, which is never moved; nor given another size, if that could help
abbrev pub is_off : Uses → Fixed → Bool
is_off u p = is_visible p.class && stays u p && (begins_off (box p) || (keeps_size u p && ends_off (box p)))

abbrev pub has_no_cell : Area → Bool
has_no_cell a = columns_of a == 0 || rows_of a == 0

-- a visible that covers no cell, and is neither moved nor given another size
abbrev pub covers_none : Uses → Fixed → Bool
covers_none u p = is_visible p.class && stays u p && keeps_size u p && has_no_cell (box p)

-- TEXTS. Of what is counted here some may be drawn into one cell or none (an escape is not looked into), so that a text which is
-- told to be cut is cut.

-- a character that is drawn into a cell
abbrev pub takes_cell : ℕ → Bool
takes_cell c = nat_le 0x20 c && not (nat_le 0x7F c && nat_le c 0x9F)

abbrev pub is_ink : ℕ → Bool
is_ink c = takes_cell c && not (c == 0x20)

abbrev pub cells_in : List ℕ → ℕ
cells_in bs = count_by takes_cell (lossy_chars bs)

abbrev pub ink_in : List ℕ → ℕ
ink_in bs = count_by is_ink (lossy_chars bs)

abbrev pub is_blank : ℕ → Bool
is_blank b = b == 0x20 || b == 0x0D

abbrev pub is_return : ℕ → Bool
is_return b = b == 0x0D

abbrev pub is_escape : ℕ → Bool
is_escape b = b == 0x1B

-- without the blanks at its end
abbrev pub trimmed : List ℕ → List ℕ
trimmed bs = take (length bs - suffix_len is_blank bs) bs

-- so many characters want more than h lines of w
abbrev pub overfill : ℕ → ℕ → ℕ → Bool
overfill n w h = if w == 0 then true else (nat_lt h (n / w) || (n / w == h && not (n % w == 0)))

-- a text of one paragraph is longer than a line
abbrev pub is_long : ℕ → List ℕ → Bool
is_long w bs = count_by is_return bs == 0 && nat_lt w (cells_in bs)

-- a text without blanks at its end has too many lines for the box, or one that is too long
abbrev pub overflows : ℕ → ℕ → Bool → List ℕ → Bool
overflows w h wraps bs =
    nat_le h (count_by is_return bs)
    || (if wraps then overfill (ink_in bs) w h else is_long w bs)

-- the text has no room in a box that covers cells
abbrev pub is_cut : Area → Bool → List ℕ → Bool
is_cut a wraps bs =
    not (has_no_cell a) && not (list_any is_escape bs) && overflows (columns_of a) (rows_of a) wraps (trimmed bs)

-- the text that is written: a label, or content in the group's file
abbrev pub words_of : Fixed → List ℕ
words_of p =
    if is_push_button p.class then as_octets (as_value (held attribute.OrigLabel p.properties))
    else as_octets (as_value (held attribute.OrigContent p.properties))

-- what shows a text into which nothing is typed
abbrev pub tells_words : Class → Bool
tells_words class.Text = true
tells_words class.PushButton = true
tells_words _ = false

-- its text is cut, and neither text nor box is ever changed
abbrev pub cuts_words : Uses → Fixed → Bool
cuts_words u p =
    tells_words p.class && stays u p && keeps_size u p && keeps_words u p
    && is_cut (box p) (as_bool false (held attribute.TextWrapping p.properties)) (words_of p)

-- COLOURS

abbrev pub is_opaque : Colour → Bool
is_opaque c = not (c.transparency == 255)

abbrev pub same_light : Colour → Colour → Bool
same_light c d = c.red == d.red && c.green == d.green && c.blue == d.blue

abbrev pub hides_in : Colour → Colour → Bool
hides_in text back = is_opaque text && is_opaque back && same_light text back

-- its text has the colour of its background, and is never given another
abbrev pub hides_words : Uses → Fixed → Bool
hides_words u p =
    shows_text p.class && keeps_colour u p
    && hides_in (as_colour opaque_white (held attribute.TextColour p.properties)) (as_colour transparent_black (held attribute.BackgroundColour p.properties))
