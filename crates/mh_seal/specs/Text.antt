-- The text of a seal, line by line. A seal of another version says so in its first line.
use Rattle.std.specs.Prelude.{ℕ, Bool, true, false, List, [], ◌∷◌, ◌++◌, codes}
use Rattle.std.specs.Fmt.{decimal}
use Rattle.std.specs.List.{flat_map}
use Rattle.hex.specs.Hex.{encode_lower}
use Rattle.mh_seal.specs.declared.seal.Seal.{Seal}
use Rattle.mh_seal.specs.declared.seal.SealedBounds.{SealedBounds}
use Rattle.mh_seal.specs.declared.seal.SealedGroup.{SealedGroup}

-- a word and what it says
unfoldable pub line : List ℕ → List ℕ → List ℕ
line word value = word ++ value ++ 10 ∷ []

-- so many lines with one word
abbrev pub lines : {V : Type 0} → List ℕ → (V → List ℕ) → List V → List ℕ
lines word spelling xs = flat_map (λ x. line word (spelling x)) xs

-- Values

abbrev pub as_is : List ℕ → List ℕ
as_is name = name

-- the last line says nothing behind its word
abbrev pub no_value : Unit {0} → List ℕ
no_value u = []

-- whether the file of a group may come late, or is here from the start
abbrev pub presence : Bool → List ℕ
presence true = codes "late"
presence false = codes "here"

-- whether a group is late, and its name
unfoldable pub named_value : Bool × List ℕ → List ℕ
named_value n = presence n.0 ++ 32 ∷ n.1

-- a group: its digest in hexadecimal digits, whether it is late, and its name
unfoldable pub group_value : SealedGroup → List ℕ
group_value g = encode_lower g.digest ++ 32 ∷ named_value (g.is_late, g.name)

-- The parts

-- the bounds, as an accepted service's lines have them
unfoldable pub bounds_text : SealedBounds → List ℕ
bounds_text b =
    line (codes "bound start ") (decimal b.start)
    ++ line (codes "bound key ") (decimal b.key)
    ++ line (codes "bound tick ") (decimal b.tick)
    ++ line (codes "bound stream ") (decimal b.stream)
    ++ line (codes "bound engine ") (decimal b.engine)
    ++ line (codes "bound arrive ") (decimal b.arrive)

abbrev pub version_word : List ℕ
version_word = codes "redplay seal "

abbrev pub version : List ℕ
version = codes "1"

-- The version, the start, each group, each content file, the bounds, the tags. A seal that is cut off lacks the last line.
unfoldable pub seal_text : Seal → List ℕ
seal_text s =
    line version_word version
    ++ line (codes "start ") s.start
    ++ lines (codes "group ") group_value s.groups
    ++ lines (codes "content ") as_is s.contents
    ++ bounds_text s.bounds
    ++ line (codes "tags ") (encode_lower s.tags)
    ++ line (codes "end") []
