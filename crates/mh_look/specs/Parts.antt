-- The parts of a report one by one, and what their reader promises.
use Rattle.std.specs.Prelude.{ℕ, ◌+◌, ◌≡◌, List, ◌++◌, length, Option, Some}
use Rattle.mh_model.specs.Planes.{Planes}
use Rattle.mh_told.specs.Frame.{frame_text}
use Rattle.mh_told.specs.Told.{fault_line, refused_line, did_line}
use Rattle.mh_look.specs.declared.report.Part.{Part}
use Rattle.mh_look.specs.declared.report.Part.TheVariants as part
use Rattle.mh_look.specs.Report.{IsShown, IsGoodPart}
use Rattle.mh_look.specs.Reading.{Begins, EndsFrame}

-- a part, behind so many frames of which this was the last
abbrev pub part_text : ℕ → Planes → Part → List ℕ
part_text k before (part.Fault f) = fault_line f
part_text k before (part.Refused n) = refused_line n
part_text k before (part.Did n left) = did_line n left
part_text k before (part.Frame p) = frame_text (k + 1) before p

-- how many frames there are then, and which is the last
abbrev pub frames_behind : ℕ → Part → ℕ
frames_behind k (part.Fault f) = k
frames_behind k (part.Refused n) = k
frames_behind k (part.Did n left) = k
frames_behind k (part.Frame p) = k + 1

abbrev pub last_behind : Planes → Part → Planes
last_behind before (part.Fault f) = before
last_behind before (part.Refused n) = before
last_behind before (part.Did n left) = before
last_behind before (part.Frame p) = p

-- a part was found with its length: it stands there, and whenever one stands there, it is found
pub record IsPartFound (k : ℕ) (before : Planes) (bytes : List ℕ) (found : Option (Part × ℕ)) : Type 0 where
  pub read : (p : Part) (n : ℕ) → found ≡ Some (p, n) → Begins bytes (part_text k before p) n
  pub good : (p : Part) (n : ℕ) → found ≡ Some (p, n) → IsGoodPart p
  pub taken : (p : Part) → IsGoodPart p → (rest : List ℕ) → EndsFrame rest → bytes ≡ part_text k before p ++ rest → found ≡ Some (p, length (part_text k before p))

-- the same of a frame alone
pub record IsNextFound (k : ℕ) (before : Planes) (bytes : List ℕ) (found : Option (Part × ℕ)) : Type 0 where
  pub read : (p : Part) (n : ℕ) → found ≡ Some (p, n) → Begins bytes (part_text k before p) n
  pub good : (p : Part) (n : ℕ) → found ≡ Some (p, n) → IsGoodPart p
  pub taken : (p : Planes) → IsShown p → (rest : List ℕ) → EndsFrame rest → bytes ≡ frame_text (k + 1) before p ++ rest → found ≡ Some (part.Frame p, length (frame_text (k + 1) before p))
