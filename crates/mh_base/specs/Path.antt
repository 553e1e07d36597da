-- The names of groups: paths, their parts, and what a written name leads to.
use Rattle.std.specs.Prelude.{ℕ, Bool, false, ◌&&◌, not, ◌==◌, nat_le, if◌then◌else◌, List, [], ◌∷◌, ◌++◌, length, take, drop}
use Rattle.std.specs.List.{list_all, slice_split, flat_map, prefix_len}
use Rattle.std.specs.Str.{bytes_eq}

-- a byte that a name may have: a space or visible, and no quotation mark
abbrev pub is_name_byte : ℕ → Bool
is_name_byte b = nat_le 32 b && nat_le b 126 && not (b == 34)

-- the parts of a path: what stands before, between and after its slashes
abbrev pub parts : List ℕ → List (List ℕ)
parts bs = slice_split (λ b. b == 47) bs

-- a part is not empty, and is neither the folder itself nor the one above it
abbrev pub is_part : List ℕ → Bool
is_part p = not (bytes_eq p []) && not (bytes_eq p (46 ∷ [])) && not (bytes_eq p (46 ∷ 46 ∷ []))

-- each part of the bytes is one that a path may have
unfoldable pub has_good_parts : List ℕ → Bool
has_good_parts bs = list_all is_part (parts bs)

-- a path has 1 to 255 bytes that a name may have, and good parts
abbrev pub is_path : List ℕ → Bool
is_path bs = nat_le 1 (length bs) && nat_le (length bs) 255 && list_all is_name_byte bs && has_good_parts bs

-- what is left behind the slashes at the front
abbrev pub behind_slashes : List ℕ → List ℕ
behind_slashes bs = drop (prefix_len (λ b. b == 47) bs) bs

-- all parts but the last
abbrev pub but_last : List (List ℕ) → List (List ℕ)
but_last [] = []
but_last (p ∷ []) = []
but_last (p ∷ q ∷ ps) = p ∷ but_last (q ∷ ps)

-- the parts, each with a slash behind it
abbrev pub closed : List (List ℕ) → List ℕ
closed ps = flat_map (λ p. p ++ 47 ∷ []) ps

-- the folder of a group: all parts of its path but the last, so nothing where the group lies at the top
unfoldable pub folder_of : List ℕ → List ℕ
folder_of path = closed (but_last (parts path))

-- the bytes begin with `DSM:`
abbrev pub has_scheme : List ℕ → Bool
has_scheme bs = bytes_eq (take 4 bs) (68 ∷ 83 ∷ 77 ∷ 58 ∷ [])

-- the bytes begin with this one
abbrev pub begins_with : ℕ → List ℕ → Bool
begins_with c [] = false
begins_with c (b ∷ bs) = b == c

-- Where a written name leads, if that is a path: one prefix, `DSM:` or `~`, and then all slashes are
-- taken off; a name with none of these stands in the folder of the group that writes it.
abbrev pub led_to : List ℕ → List ℕ → List ℕ
led_to from name =
    if has_scheme name then behind_slashes (drop 4 name)
    else (if begins_with 126 name then behind_slashes (drop 1 name)
    else (if begins_with 47 name then behind_slashes name else folder_of from ++ name))
