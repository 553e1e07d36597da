-- Scenes whose files arrive late, and whether a file that arrives is the one that the service has.
use Rattle.std.specs.Prelude.{ℕ, Bool, false, not, List, filter, Option, Some, None}
use Rattle.std.specs.List.{find, list_any}
use Rattle.std.specs.Option.{option_map}
use Rattle.std.specs.Str.{bytes_eq}
use Rattle.mh_group.specs.declared.written.Written.{Written}
use Rattle.mh_group.specs.Same.{same_group}

-- Names

-- the scene of this name is among them
abbrev pub is_late_scene : List ℕ → List (List ℕ) → Bool
is_late_scene g gs = list_any (bytes_eq g) gs

-- without it
abbrev pub late_without : List ℕ → List (List ℕ) → List (List ℕ)
late_without g gs = filter (λ h. not (bytes_eq g h)) gs

-- Files

-- the group of this name as its file writes it, if there is one
abbrev pub written_at : List ℕ → List (List ℕ × Written) → Option Written
written_at g fs = option_map (λ f. f.1) (find (λ f. bytes_eq f.0 g) fs)

-- it is written as this
abbrev pub is_written_so : Written → Option Written → Bool
is_written_so w None = false
is_written_so w (Some x) = same_group w x
