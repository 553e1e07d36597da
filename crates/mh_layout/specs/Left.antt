-- What is left of a text behind some of its lines.
use Rattle.std.specs.Prelude.{◌≡◌, ◌≤◌, ◌==◌, ◌||◌, ℕ, Bool, false, ◌&&◌, if◌then◌else◌, List, [], ◌∷◌, length, take, Option, Some, None, IfSome}
use Rattle.mh_model.specs.declared.picture.line.Form.{Form}
use Rattle.mh_model.specs.declared.picture.line.Line.{Line}
use Rattle.mh_model.specs.Layout.{placed, text_lines}

-- one member, or none
abbrev pub as_list : Option ℕ → List ℕ
as_list None = []
as_list (Some x) = x ∷ []

-- the lines of what is left of the scalars; none where nothing is
abbrev pub lines_left : Form → Option (List ℕ) → List Line
lines_left f None = []
lines_left f (Some xs) = text_lines f xs

-- there is a column for what is left, if it is wrapped
abbrev pub HasRoom : Form → Option (List ℕ) → Type 0
HasRoom f left = IfSome left (λ _. (f.wraps && f.width == 0) ≡ false)

-- the first line of these scalars has n of them, and these are left behind it
pub record IsHead (f : Form) (xs : List ℕ) (n : ℕ) (rest : Option (List ℕ)) : Type 0 where
  pub inside : n ≤ length xs
  pub fits : n ≤ f.width
  pub lines : text_lines f xs ≡ placed f (take n xs) ∷ lines_left f rest

-- A full line ends where its paragraph does, or before a space that comes next; else at the last space in it, if there is
-- one, or where it is full. The last argument is what comes behind a full line.

abbrev pub ends_here : ℕ → Bool
ends_here x = x == 0x0D || x == 0x20

abbrev pub broken_length : ℕ → ℕ → List ℕ → ℕ
broken_length width space [] = width
broken_length width space (x ∷ xs) = if ends_here x then width else (if space == 0 then width else space)

abbrev pub broken_rest : ℕ → List ℕ → List ℕ → Option (List ℕ)
broken_rest space next [] = None
broken_rest space next (x ∷ xs) = if ends_here x then Some xs else (if space == 0 then Some (x ∷ xs) else Some next)
