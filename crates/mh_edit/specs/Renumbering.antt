-- A text in which the tokens that are the number of an object have another number: its words are those of before, but for these.
use Rattle.std.specs.Prelude.{ℕ, ◌+◌, ◌-◌, ◌^◌, ◌<◌, false, if◌then◌else◌, List, [], ◌∷◌, ◌++◌, drop, take}
use Rattle.std.specs.Fmt.{decimal}
use Rattle.mh_base.specs.declared.obj_ref.ObjRef.{ObjRef}
use Rattle.mh_text.specs.declared.token.kind.TokenKind.TheVariants.{Integer}
use Rattle.mh_text.specs.Words.{Written, AreWords}
use Rattle.mh_edit.specs.declared.walk.Spot.{Spot}
use Rattle.mh_edit.specs.declared.word.Extent.{Extent}
use Rattle.mh_edit.specs.Objects.{is_use, uses}
use Rattle.mh_edit.specs.Walk.{spots}
use Rattle.mh_edit.specs.Words.{words}

-- what is left of a text, of which so many bytes stand in front, with another text in place of each of these tokens
abbrev pub replaced_from : ℕ → List Extent → List ℕ → List ℕ → List ℕ
replaced_from start [] new bs = bs
replaced_from start (e ∷ es) new bs = take (e.start - start) bs ++ (new ++ replaced_from (e.start + e.length) es new (drop (e.start + e.length - start) bs))

-- the tokens of a text, by what each stands in
abbrev pub tokens : List ℕ → List Spot
tokens bs = spots bs (words bs)

-- the text of the group `from`, with this number in place of each token that is the number of the object
abbrev pub renumbered : List ℕ → ObjRef → ℕ → List ℕ → List ℕ
renumbered from o n bs = replaced_from 0 (uses from bs o (tokens bs)) (decimal n) bs

-- the words, with the number in place of each whose token is that of the object
abbrev pub with_number : List ℕ → List ℕ → ObjRef → List ℕ → List Spot → List Written → List Written
with_number from bs o digits [] ws = ws
with_number from bs o digits (s ∷ ss) [] = []
with_number from bs o digits (s ∷ ss) (w ∷ ws) =
    (if is_use from bs o s.role then record { kind = Integer; text = digits } else w) ∷ with_number from bs o digits ss ws

-- THE LAW

-- whatever words a text has, it has the same with the number in place of those that were the object's
abbrev pub OnlyNumbersChange : Type 0
OnlyNumbersChange =
    (from : List ℕ) (o : ObjRef) (n : ℕ) (bs : List ℕ) (ws : List Written) → n < 2 ^ 32 → AreWords false bs ws
    → AreWords false (renumbered from o n bs) (with_number from bs o (decimal n) (tokens bs) ws)
