-- What is made of the body of one object.
use Rattle.std.specs.Prelude.{Bool, true, false, ◌&&◌, if◌then◌else◌, List, [], ◌∷◌, ◌++◌, length, ℕ, nat_le, nat_lt, ℤ, pos, negsuc, ◌+ℤ◌, ◌-ℤ◌, ◌*ℤ◌, int_div, int_rem, int_le, Option, Some, None, unwrap_or}
use Rattle.std.specs.Ordering.{int_eq}
use Rattle.mh_base.specs.declared.value.Value.{Value}
use Rattle.mh_base.specs.declared.value.Value.TheVariants as value
use Rattle.mh_group.specs.declared.action_name.ActionName.{ActionName}
use Rattle.mh_group.specs.declared.action_name.ActionName.TheVariants as action
use Rattle.mh_group.specs.declared.attribute.Attribute.{Attribute}
use Rattle.mh_group.specs.declared.attribute.Attribute.TheVariants as attribute
use Rattle.mh_group.specs.Table.{has_content, is_token_group}
use Rattle.mh_model.specs.declared.picture.drawing.Drawing.{Drawing}
use Rattle.mh_model.specs.declared.picture.drawing.Figure.{Figure}
use Rattle.mh_model.specs.declared.picture.drawing.Figure.TheVariants as figure
use Rattle.mh_model.specs.declared.held.Held.{Held}
use Rattle.mh_model.specs.declared.held.Held.TheVariants as of
use Rattle.mh_model.specs.declared.object.Body.{Body}
use Rattle.mh_model.specs.declared.object.Fixed.{Fixed}
use Rattle.mh_model.specs.declared.object.Object.{Object}
use Rattle.mh_model.specs.declared.file.File.{File}
use Rattle.mh_model.specs.Files.{by_content, comes_to, missing}
use Rattle.mh_model.specs.Looks.{has_line, line_colour_of, fill_of}
use Rattle.mh_model.specs.Property.{read_of, with_held, value_held, as_number, as_octets}
use Rattle.mh_model.specs.Variables.{fits_int, fits_octets, converted}
use Rattle.mh_model.specs.Limits.{most_drawings}

-- Content

-- what is loaded when an object becomes available, where these files are there
abbrev pub loaded : List File → Fixed → Body → Option (List ℕ)
loaded fs p b = by_content (comes_to fs) (read_of attribute.OrigContent p b) (has_content p.class)

-- the name of the file for which it then waits, if it waits for one
abbrev pub lacking : List File → Fixed → Body → Option (List ℕ)
lacking fs p b = by_content (missing fs) (read_of attribute.OrigContent p b) (has_content p.class)

-- the text that was loaded, or none
abbrev pub text_of : Body → List ℕ
text_of b = unwrap_or b.text []

-- Running

-- the entry point of a field goes to the end of its text
abbrev pub end_of : Option (List ℕ) → ℕ
end_of text = length (unwrap_or text [])

-- one that is available stays as it is; another becomes available, with the text that was loaded
abbrev pub prepared : Option (List ℕ) → Body → Body
prepared text b = if b.available then b else record b { available = true; text = text; point = end_of text }

-- the token of a token group begins at position 1 whenever it runs
abbrev pub token_started : Fixed → Body → ℕ
token_started p b = if is_token_group p.class then 1 else b.token

-- one that runs stays as it is; another becomes available and runs
abbrev pub started : Option (List ℕ) → Fixed → Body → Body
started text p b =
    if b.running then b else record (prepared text b) { running = true; token = token_started p b }

abbrev pub halted : Body → Body
halted b = record b { running = false }

-- one that is not available stays as it is
abbrev pub dropped : Body → Body
dropped b = if b.available then record b { available = false; text = None; point = 0 } else b

-- Values and attributes

abbrev pub given : Value → Body → Body
given v b = record b { value = Some v }

abbrev pub put : Attribute → Held → Body → Body
put a h b = record b { changes = with_held a h b.changes }

-- Variables. What is out of range, or too long, leaves the variable as it is; so does a zero divisor.

abbrev pub given_number : ℤ → Body → Body
given_number x b = if fits_int x then given (value.Int x) b else b

abbrev pub given_octets : List ℕ → Body → Body
given_octets os b = if fits_octets os then given (value.Octets os) b else b

-- what a variable can hold
abbrev pub fits_value : Value → Bool
fits_value (value.Octets os) = fits_octets os
fits_value v = true

abbrev pub stored : Value → Body → Body
stored v b = if fits_value v then given v b else b

abbrev pub number_of : Fixed → Body → ℤ
number_of p b = as_number (value_held p b)

abbrev pub octets_of : Fixed → Body → List ℕ
octets_of p b = as_octets (value_held p b)

abbrev pub divided : (ℤ → ℤ → ℤ) → ℤ → ℤ → Body → Body
divided by m n b = if int_eq n (pos 0) then b else given_number (by m n) b

-- Content that is replaced is loaded at once where the object is available.
abbrev pub replaced : Value → Option (List ℕ) → Body → Body
replaced v text b = record b {
  changes = with_held attribute.OrigContent (of.Value v) b.changes;
  text = if b.available then text else b.text;
  point = if b.available then end_of text else b.point;
}

-- what a file brings that an object waited for
abbrev pub brought : List ℕ → Body → Body
brought os b = record b { text = Some os; point = length os }

-- Looks. A negative size or width changes nothing, nor does a colour that has not four octets.

abbrev pub sized : ℤ → ℤ → Body → Body
sized w h b =
    if int_le (pos 0) w && int_le (pos 0) h then put attribute.OrigBoxSize (of.Pair w h) b else b

abbrev pub lined : ℤ → Body → Body
lined n b = if int_le (pos 0) n then put attribute.OrigLineWidth (of.Value (value.Int n)) b else b

abbrev pub coloured : Attribute → List ℕ → Body → Body
coloured a (r ∷ g ∷ b ∷ t ∷ []) body =
    put a (of.Colour (record { red = r; green = g; blue = b; transparency = t })) body
coloured a _ body = body

-- Drawings. One keeps the colours and the line width that there are when it is drawn.

abbrev pub is_near : ℤ → Bool
is_near n = int_le (negsuc 9999) n && int_le n (pos 10000)

-- the points are near, and those of a rectangle in their order
abbrev pub is_drawable : Figure → ℤ → ℤ → ℤ → ℤ → Bool
is_drawable figure.Line x y u v = is_near x && is_near y && is_near u && is_near v
is_drawable figure.Rectangle x y u v =
    is_near x && is_near y && is_near u && is_near v && int_le x u && int_le y v

abbrev pub drawing_of : Figure → ℤ → ℤ → ℤ → ℤ → Object → Drawing
drawing_of f x y u v o = record {
  figure = f;
  from = record { x = x; y = y };
  to = record { x = u; y = v };
  has_line = has_line o;
  line = line_colour_of o;
  fill = fill_of o;
}

-- a figure from (x, y) to (u, v) on top of what was drawn, where there is room for it
abbrev pub drawn : Figure → ℤ → ℤ → ℤ → ℤ → Fixed → Body → Body
drawn f x y u v p b =
    if is_drawable f x y u v && nat_lt (length b.drawings) most_drawings
    then record b { drawings = b.drawings ++ drawing_of f x y u v (record { fixed = p; body = b }) ∷ [] }
    else b

abbrev pub cleared : Body → Body
cleared b = record b { drawings = [] }

-- Entry fields and push buttons. A point behind the text, or before it, changes nothing.

abbrev pub pointed : ℤ → Body → Body
pointed (pos n) b = if nat_le n (length (text_of b)) then record b { point = n } else b
pointed (negsuc n) b = b

abbrev pub labelled : List ℕ → Body → Body
labelled os b = if fits_octets os then put attribute.OrigLabel (of.Value (value.Octets os)) b else b

-- what the action makes of the body of its target
abbrev pub changed_by : ActionName → List Value → Fixed → Body → Body
changed_by action.SetVariable (v ∷ []) p b = stored (converted p.class v) b
changed_by action.Add (value.Int n ∷ []) p b = given_number (number_of p b +ℤ n) b
changed_by action.Subtract (value.Int n ∷ []) p b = given_number (number_of p b -ℤ n) b
changed_by action.Multiply (value.Int n ∷ []) p b = given_number (number_of p b *ℤ n) b
changed_by action.Divide (value.Int n ∷ []) p b = divided int_div (number_of p b) n b
changed_by action.Modulo (value.Int n ∷ []) p b = divided int_rem (number_of p b) n b
changed_by action.Append (value.Octets os ∷ []) p b = given_octets (octets_of p b ++ os) b
changed_by action.SetPosition (value.Int x ∷ value.Int y ∷ []) p b = put attribute.OrigPosition (of.Pair x y) b
changed_by action.SetBoxSize (value.Int w ∷ value.Int h ∷ []) p b = sized w h b
changed_by action.SetFillColour (value.Octets os ∷ []) p b = coloured attribute.OrigRefFillColour os b
changed_by action.SetLineColour (value.Octets os ∷ []) p b = coloured attribute.OrigRefLineColour os b
changed_by action.SetLineWidth (value.Int n ∷ []) p b = lined n b
changed_by action.Clear vs p b = cleared b
changed_by action.DrawLine (value.Int x ∷ value.Int y ∷ value.Int u ∷ value.Int v ∷ []) p b =
    drawn figure.Line x y u v p b
changed_by action.DrawRectangle (value.Int x ∷ value.Int y ∷ value.Int u ∷ value.Int v ∷ []) p b =
    drawn figure.Rectangle x y u v p b
changed_by action.SetInputRegister (value.Int n ∷ []) p b = put attribute.InputEventReg (of.Value (value.Int n)) b
changed_by action.SetTextColour (value.Octets os ∷ []) p b = coloured attribute.TextColour os b
changed_by action.SetEntryPoint (value.Int n ∷ []) p b = pointed n b
changed_by action.SetOverwriteMode (value.Bool on ∷ []) p b = record b { overwrites = on }
changed_by action.SetLabel (value.Octets os ∷ []) p b = labelled os b
changed_by _ _ p b = b
