-- Why files are no service: one definition for each number, with the group
-- that it names, and the order in which they are looked for.
use Rattle.std.specs.Prelude.{◌≡◌, ℕ, Bool, false, ◌&&◌, ◌||◌, not, nat_eq, if◌then◌else◌, List, [], ◌∷◌, ◌++◌, map, Option, Some, None}
use Rattle.std.specs.List.{list_any, find}
use Rattle.std.specs.Option.{option_map, option_or}
use Rattle.std.specs.Str.{bytes_eq}
use Rattle.mh_group.specs.declared.written.Written.{Written}
use Rattle.mh_group.specs.Table.{is_application}
use Rattle.mh_group.specs.Fit.{items_of}
use Rattle.mh_service.specs.declared.room.Room.{Room}
use Rattle.mh_service.specs.declared.service_error.Why.{Why}
use Rattle.mh_service.specs.declared.service_error.Why.TheVariants as why
use Rattle.mh_service.specs.declared.service_error.ServiceError.{ServiceError}
use Rattle.mh_service.specs.declared.service_error.ServiceError.TheVariants as error
use Rattle.mh_service.specs.Limits.{whole_room, has_room, room_behind}
use Rattle.mh_service.specs.Resolved.{group_leads}

-- a file of a service: the name of a group, and what it writes
abbrev pub File : Type 0
File = List ℕ × Written

-- the name of the first file that passes the test
abbrev pub first_named : (File → Bool) → List File → Option (List ℕ)
first_named p files = option_map (λ f. f.0) (find p files)

-- 30: the first name that came before, in files or among those that were seen
abbrev pub double_name : List (List ℕ) → List File → Option (List ℕ)
double_name seen [] = None
double_name seen (f ∷ fs) = if list_any (bytes_eq f.0) seen then Some f.0 else double_name (seen ++ f.0 ∷ []) fs

-- 31: no group has the start name

abbrev pub has_group : List ℕ → List File → Bool
has_group name files = list_any (λ f. bytes_eq f.0 name) files

abbrev pub missing_start : List ℕ → List File → Option (List ℕ)
missing_start start files = if has_group start files then None else Some start

-- 32: the first group in which two ingredients have one number

-- two of the numbers are one
abbrev pub has_double : List ℕ → Bool
has_double [] = false
has_double (n ∷ ns) = list_any (nat_eq n) ns || has_double ns

abbrev pub has_double_number : Written → Bool
has_double_number w = has_double (map (λ i. i.number) (items_of w))

abbrev pub double_number : List File → Option (List ℕ)
double_number files = first_named (λ f. has_double_number f.1) files

-- 33: the start group is no application

abbrev pub has_application : List ℕ → List File → Bool
has_application name files = list_any (λ f. bytes_eq f.0 name && is_application f.1.class) files

abbrev pub start_unfit : List ℕ → List File → Option (List ℕ)
start_unfit start files = if has_application start files then None else Some start

-- 34: the first group for which there is no room behind the ones before it
abbrev pub over_limit : Room → List File → Option (List ℕ)
over_limit r [] = None
over_limit r (f ∷ fs) = if has_room r f.1 then over_limit (room_behind r f.1) fs else Some f.0

-- 35: the first group with a written name that leads to no path
abbrev pub bad_reference : List File → Option (List ℕ)
bad_reference files = first_named (λ f. not (group_leads f.0 f.1)) files

-- A refusal: the reason, and the name of the group.

abbrev pub Refusal : Type 0
Refusal = Why × List ℕ

abbrev pub for_reason : Why → Option (List ℕ) → Option Refusal
for_reason y name = option_map (λ n. (y, n)) name

-- what is looked for before the references are resolved
abbrev pub refusal_before : List ℕ → List File → Option Refusal
refusal_before start files =
    option_or (for_reason why.DoubleName (double_name [] files))
    (option_or (for_reason why.NoStart (missing_start start files))
    (option_or (for_reason why.DoubleNumber (double_number files))
    (option_or (for_reason why.NotAnApplication (start_unfit start files))
    (for_reason why.Limit (over_limit whole_room files)))))

-- the first refusal of these files, in the order of the numbers
abbrev pub refusal_of : List ℕ → List File → Option Refusal
refusal_of start files =
    option_or (refusal_before start files)
    (for_reason why.BadReference (bad_reference files))

-- the error is this refusal, or memory was refused
abbrev pub Refuses : Option Refusal → ServiceError → Type 0
Refuses r (error.Refused y group) = r ≡ Some (y, group)
Refuses r error.NoMemory = Unit {0}

-- the error says that this file writes a name that leads to no path, or memory was refused
abbrev pub RefusesAt : File → ServiceError → Type 0
RefusesAt f e = Refuses (for_reason why.BadReference (bad_reference (f ∷ []))) e
