-- What it means that an element, an integer or a truth value is there, or is not.
use Rattle.std.specs.Prelude.{◌≡◌, ◌<◌, ◌^◌, ℕ, ℤ, FitsSigned, Bool, List, ◌++◌}
use Rattle.std.specs.Int.{w32}
use Rattle.mh_der.specs.declared.tag.Tag.{Tag}
use Rattle.mh_der.specs.Element.{element}
use Rattle.mh_der.specs.Integer.{integer_octets, boolean_octets}

-- the bytes begin with no element
abbrev pub BeginWithNone : List ℕ → Type 0
BeginWithNone bytes = (t : Tag) (contents behind : List ℕ) → t.number < 2 ^ 16 → bytes ≡ element t contents ++ behind → ⊥

-- the octets are those of no integer of 32 bits
abbrev pub AreNoInteger : List ℕ → Type 0
AreNoInteger octets = (x : ℤ) → FitsSigned w32 x → octets ≡ integer_octets x → ⊥

-- the octets are those of no truth value
abbrev pub AreNoBoolean : List ℕ → Type 0
AreNoBoolean octets = (b : Bool) → octets ≡ boolean_octets b → ⊥
