-- The lines of a trace that name an object: its group and its number, as words one behind the other.
use Rattle.std.specs.Prelude.{ℕ, Bool, false, ◌&&◌, ◌||◌, not, if◌then◌else◌, List, [], ◌∷◌, ◌++◌, Option, Some, None, take, drop, length}
use Rattle.std.specs.Char.{is_ascii_digit}
use Rattle.std.specs.List.{flat_map}
use Rattle.std.specs.Str.{bytes_eq}
use Rattle.bstr.specs.Text.{lines_of}
use Rattle.mh_base.specs.declared.obj_ref.ObjRef.{ObjRef}
use Rattle.mh_trace.specs.declared.form.Form.{Form}
use Rattle.mh_trace.specs.declared.form.Form.TheVariants as form
use Rattle.mh_trace.specs.Json.{escaped}
use Rattle.mh_trace.specs.Words.{ref_text}

-- how a line names an object: behind a space, and with no digit behind it; in the other form behind this octet
abbrev pub words_for : Form → ℕ → ObjRef → List ℕ
words_for form.Text mark r = 32 ∷ [] ++ ref_text r
words_for form.Json mark r = mark ∷ [] ++ flat_map escaped (ref_text r)

abbrev pub begins_with_digit : List ℕ → Bool
begins_with_digit [] = false
begins_with_digit (b ∷ bs) = is_ascii_digit b

abbrev pub begins : List ℕ → List ℕ → Bool
begins words bytes = bytes_eq (take (length words) bytes) words

abbrev pub stand_first : List ℕ → List ℕ → Bool
stand_first words bytes = begins words bytes && not (begins_with_digit (drop (length words) bytes))

-- the words stand somewhere in the line
unfoldable pub names : List ℕ → List ℕ → Bool
names words [] = false
names words (b ∷ bs) = stand_first words (b ∷ bs) || names words bs

-- these words or those
abbrev pub names_one : List ℕ → List ℕ → List ℕ → Bool
names_one words others line = names words line || names others line

abbrev pub line_if_named : List ℕ → List ℕ → List ℕ → List ℕ
line_if_named words others line = if names_one words others line then line else []

-- the lines that name an object, if one is asked for, within what a string says or at its beginning; all else
abbrev pub lines_naming : List ℕ → List ℕ → List ℕ → List ℕ
lines_naming words others text = flat_map (line_if_named words others) (lines_of text)

abbrev pub narrowed : Form → Option ObjRef → List ℕ → List ℕ
narrowed f None text = text
narrowed f (Some r) text = lines_naming (words_for f 32 r) (words_for f 34 r) text
