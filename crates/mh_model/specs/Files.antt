-- Files that were handed in: content by its name, and the objects that wait for it.
use Rattle.std.specs.Prelude.{ℕ, Bool, true, false, ◌&&◌, not, nat_le, if◌then◌else◌, List, [], ◌∷◌, ◌++◌, filter, length, Option, Some, None}
use Rattle.std.specs.List.{find, list_any}
use Rattle.std.specs.Option.{option_map, is_some}
use Rattle.std.specs.Str.{bytes_eq}
use Rattle.mh_base.specs.declared.obj_ref.ObjRef.{ObjRef}
use Rattle.mh_base.specs.declared.value.Value.{Value}
use Rattle.mh_base.specs.declared.value.Value.TheVariants as value
use Rattle.mh_model.specs.declared.file.File.{File}
use Rattle.mh_model.specs.declared.file.Wait.{Wait}
use Rattle.mh_model.specs.declared.held.Held.{Held}
use Rattle.mh_model.specs.declared.held.Held.TheVariants as of
use Rattle.mh_model.specs.First.{put_first}
use Rattle.mh_model.specs.Reference.{same_ref}
use Rattle.mh_model.specs.Variables.{fits_octets}
use Rattle.mh_model.specs.Limits.{most_files}

abbrev pub is_named : List ℕ → File → Bool
is_named name f = bytes_eq f.name name

-- what the file of this name contains, if it is there
abbrev pub content : List ℕ → List File → Option (List ℕ)
content name fs = option_map (λ f. f.content) (find (is_named name) fs)

-- the files with this one, in the place of an older one of its name
abbrev pub with_file : File → List File → List File
with_file f fs = put_first (is_named f.name) f fs

-- Limits

abbrev pub is_too_large : File → Bool
is_too_large f = not (fits_octets f.content)

-- one more name than there is room for
abbrev pub is_too_many : File → List File → Bool
is_too_many f fs = nat_le most_files (length fs) && not (list_any (is_named f.name) fs)

-- Loading

-- what content comes to: the octets themselves, or those of the file that it names, if that is there
abbrev pub comes_to : List File → Value → Option (List ℕ)
comes_to fs (value.Octets os) = Some os
comes_to fs (value.Content name) = content name fs
comes_to fs v = None

-- what can become content
abbrev pub is_loadable : Value → Bool
is_loadable (value.Octets os) = fits_octets os
is_loadable (value.Content name) = true
is_loadable v = false

-- the name of the file for which it has to wait
abbrev pub missing : List File → Value → Option (List ℕ)
missing fs (value.Content name) = if is_some (content name fs) then None else Some name
missing fs v = None

-- what is told by the content that is held, where the class has content
abbrev pub by_content : {X : Type 0} → (Value → Option X) → Option Held → Bool → Option X
by_content f (Some (of.Value v)) has = if has then f v else None
by_content f _ has = None

-- Waiting

-- the object waits for the file of this name
abbrev pub is_wait : List ℕ → ObjRef → Wait → Bool
is_wait name r w = same_ref r w.object && bytes_eq w.name name

abbrev pub waits_for : List ℕ → List Wait → ObjRef → Bool
waits_for name ws r = list_any (is_wait name r) ws

-- the object waits for nothing any more
abbrev pub forgotten : ObjRef → List Wait → List Wait
forgotten r ws = filter (λ w. not (same_ref r w.object)) ws

-- it has loaded anew, and waits for this file, if there is one
abbrev pub awaited : Option (List ℕ) → ObjRef → List Wait → List Wait
awaited None r ws = forgotten r ws
awaited (Some name) r ws = forgotten r ws ++ record { object = r; name = name } ∷ []

-- nobody waits for the file of this name any more
abbrev pub arrived : List ℕ → List Wait → List Wait
arrived name ws = filter (λ w. not (bytes_eq w.name name)) ws
