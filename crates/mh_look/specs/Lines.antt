-- The parts of a report that are one line, and what the readers of such lines promise.
use Rattle.std.specs.Prelude.{ℕ, ◌^◌, ◌≡◌, ◌<◌, true, if◌then◌else◌, List, [], ◌∷◌, ◌++◌, length, codes, Option, Some, None}
use Rattle.std.specs.Fmt.{decimal}
use Rattle.std.specs.Str.{bytes_eq}
use Rattle.mh_base.specs.Path.{is_path}
use Rattle.mh_base.specs.declared.obj_ref.ObjRef.{ObjRef}
use Rattle.mh_group.specs.declared.action_name.ActionName.{ActionName}
use Rattle.mh_model.specs.declared.fault.Fault.{Fault}
use Rattle.mh_model.specs.declared.fault.FaultKind.{FaultKind}
use Rattle.mh_model.specs.declared.fault.FaultKind.TheVariants as fault
use Rattle.mh_model.specs.declared.rest.Rest.{Rest}
use Rattle.mh_model.specs.declared.rest.Rest.TheVariants as rest
use Rattle.mh_told.specs.Told.{fault_line, refused_line, did_line, rest_word, total_line}
use Rattle.mh_look.specs.declared.report.Part.{Part}
use Rattle.mh_look.specs.declared.report.Part.TheVariants as part
use Rattle.mh_look.specs.Reading.{Begins, EndsNumber}
use Rattle.mh_look.specs.Report.{IsGoodFault}

-- The line of a part; a frame is none.

abbrev pub line_text : Part → List ℕ
line_text (part.Fault f) = fault_line f
line_text (part.Refused n) = refused_line n
line_text (part.Did n left) = did_line n left
line_text (part.Frame p) = []

-- a good part that is one line
abbrev pub IsGoodLine : Part → Type 0
IsGoodLine (part.Fault f) = IsGoodFault f
IsGoodLine (part.Refused n) = n < 2 ^ 32
IsGoodLine (part.Did n left) = n < 2 ^ 64
IsGoodLine (part.Frame p) = ⊥

-- a part was found with the length of its line: it stands there, and whenever a line stands there, its part is found
pub record IsLineFound (bytes : List ℕ) (found : Option (Part × ℕ)) : Type 0 where
  pub read : (p : Part) (n : ℕ) → found ≡ Some (p, n) → Begins bytes (line_text p) n
  pub good : (p : Part) (n : ℕ) → found ≡ Some (p, n) → IsGoodLine p
  pub taken : (p : Part) → IsGoodLine p → (rest : List ℕ) → bytes ≡ line_text p ++ rest → found ≡ Some (p, length (line_text p))

-- the same of the line that ends a report, which is all that is left
pub record IsTotalFound (bytes : List ℕ) (found : Option ℕ) : Type 0 where
  pub read : (n : ℕ) → found ≡ Some n → bytes ≡ total_line n
  pub good : (n : ℕ) → found ≡ Some n → n < 2 ^ 64
  pub taken : (n : ℕ) → n < 2 ^ 64 → bytes ≡ total_line n → found ≡ Some n

-- What words tell.

abbrev pub kind_of : List ℕ → Option FaultKind
kind_of word =
    if bytes_eq word (codes "absent") then Some fault.Absent
    else (if bytes_eq word (codes "class") then Some fault.WrongClass
    else (if bytes_eq word (codes "kind") then Some fault.WrongKind else None))

abbrev pub left_of : List ℕ → Option Rest
left_of word =
    if bytes_eq word (codes " idle") then Some rest.Idle
    else (if bytes_eq word (codes " more") then Some rest.More
    else (if bytes_eq word (codes " ended") then Some rest.Ended else None))

abbrev pub fault_of : Option FaultKind → Option ActionName → Option ObjRef → Option Fault
fault_of (Some what) (Some action) (Some at) = Some (record { what = what; action = action; at = at })
fault_of (Some what) (Some action) None = None
fault_of (Some what) None at = None
fault_of None action at = None

abbrev pub reference_of : Option (List ℕ) → Option ℕ → Option ObjRef
reference_of (Some group) (Some number) = Some (record { group = group; number = number })
reference_of (Some group) None = None
reference_of None number = None

-- What is told where such words stand.

abbrev pub IsGoodReference : ObjRef → Type 0
IsGoodReference r = (is_path r.group ≡ true) × (r.number < 2 ^ 32)

abbrev pub TakesReference : List ℕ → Option ObjRef → Type 0
TakesReference bytes found = (r : ObjRef) → IsGoodReference r → bytes ≡ r.group ++ 32 ∷ decimal r.number → found ≡ Some r

abbrev pub TakesFault : List ℕ → Option Fault → Type 0
TakesFault bytes found = (f : Fault) → IsGoodFault f → (rest : List ℕ) → bytes ≡ fault_line f ++ rest → found ≡ Some f

abbrev pub TakesPart : List ℕ → Option Part → Type 0
TakesPart bytes found = (p : Part) → IsGoodLine p → (rest : List ℕ) → bytes ≡ line_text p ++ rest → found ≡ Some p

-- a number of 32 bits
abbrev pub TakesShort : List ℕ → Option ℕ → Type 0
TakesShort bytes found = (n : ℕ) → n < 2 ^ 32 → (rest : List ℕ) → EndsNumber rest → bytes ≡ decimal n ++ rest → found ≡ Some n

-- the group with this path
abbrev pub TakesGroup : List ℕ → Option (List ℕ) → Type 0
TakesGroup path found = is_path path ≡ true → found ≡ Some path

-- the steps and what was left to do
abbrev pub TakesDid : List ℕ → Option Part → Type 0
TakesDid bytes found = (n : ℕ) (left : Rest) → n < 2 ^ 64 → (rest : List ℕ) → bytes ≡ decimal n ++ (rest_word left ++ 10 ∷ rest) → found ≡ Some (part.Did n left)
