-- The edits that lay a file out.
use Rattle.std.specs.Prelude.{ℕ, ◌+◌, if◌then◌else◌, List, [], ◌∷◌, ◌++◌}
use Rattle.std.specs.Str.{bytes_eq}
use Rattle.serde_json.specs.Data.{Data, array}
use Rattle.serde_json.specs.View.{items_of}
use Rattle.mh_edit.specs.declared.layout.Change.{Change}
use Rattle.mh_edit.specs.declared.word.Extent.{Extent}
use Rattle.mh_edit.specs.Layout.{capped, changes, spaces}
use Rattle.mh_edit.specs.Words.{text_of}
use Rattle.mh_protocol.specs.declared.position.Unit.{Unit}
use Rattle.mh_answers.specs.Renaming.{written_at}

-- so many spaces in place of blanks; none where these are they
abbrev pub edit_of : Unit × List ℕ → List ℕ → Extent → ℕ → List Data
edit_of places bs e n = if bytes_eq (text_of bs e) (spaces n) then [] else written_at (spaces n) places e ∷ []

-- the edits of changes that begin behind so many bytes
abbrev pub edits_from : Unit → List ℕ → ℕ → List Change → List Data
edits_from u bs end [] = []
edits_from u bs end (c ∷ cs) =
    let start = capped (end + c.kept) in
    edit_of (u, bs) bs (record { start = start; length = c.old }) c.new ++ edits_from u bs (capped (start + c.old)) cs

unfoldable pub layout_edits : Unit → List ℕ → Data
layout_edits u bs = array (items_of (edits_from u bs 0 (changes bs)))
