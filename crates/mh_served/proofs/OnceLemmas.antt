-- The path of a finding is told of once.
use Rattle.std.specs.Prelude.{◌≡◌, ℕ, ◌+◌, ◌≤◌, Bool, true, false, ◌||◌, if◌then◌else◌, List, [], ◌∷◌, ◌++◌, refl}
use Rattle.std.proofs.Common.{ap, ◌∙◌, sym, arith}
use Rattle.std.specs.Str.{bytes_eq}
use Rattle.std.proofs.lemmas.Slice.Eq.{bytes_eq-Decides}
use Rattle.mh_findings.specs.declared.finding.Finding.{Finding}
use Rattle.mh_served.specs.declared.session.Told.{Told}
use Rattle.mh_served.specs.Publishing.{EachFindingIsToldOnce, has_path, occurs, one_if, with_files, with_path, with_told, with_told_by}

absent_by : (b : Bool) (p q : List ℕ) (ps : List (List ℕ)) → bytes_eq p q ≡ b → (b || has_path q ps) ≡ false
    → (has_path q ps ≡ false → occurs q ps ≡ 0) → one_if b + occurs q ps ≡ 0
absent_by true p q ps is none below = absurd (cc none)
absent_by false p q ps is none below = ap (λ n. 0 + n) (below none)

absent : (q : List ℕ) (ps : List (List ℕ)) → has_path q ps ≡ false → occurs q ps ≡ 0
absent q [] none = refl
absent q (p ∷ ps) none = absent_by (bytes_eq p q) p q ps refl none (absent q ps)

present_by : (b : Bool) (q : List ℕ) (ps : List (List ℕ)) → (b || has_path q ps) ≡ true
    → (has_path q ps ≡ true → 1 ≤ occurs q ps) → 1 ≤ one_if b + occurs q ps
present_by true q ps some below = omega arith
present_by false q ps some below = let more : 1 ≤ occurs q ps = below some in omega (arith, more)

present : (q : List ℕ) (ps : List (List ℕ)) → has_path q ps ≡ true → 1 ≤ occurs q ps
present q [] some = absurd (cc some)
present q (p ∷ ps) some = present_by (bytes_eq p q) q ps some (present q ps)

occurs-append : (q p : List ℕ) (ps : List (List ℕ)) → occurs q (ps ++ p ∷ []) ≡ occurs q ps + one_if (bytes_eq p q)
occurs-append q p [] = omega arith
occurs-append q p (r ∷ ps) = let e = occurs-append q p ps in omega (arith, e)

-- behind a path that is not there it is one more
grown : (q p : List ℕ) (ps : List (List ℕ)) (c : Bool) → bytes_eq p q ≡ c → occurs q (ps ++ p ∷ []) ≡ occurs q ps + one_if c
grown q p ps c is = occurs-append q p ps ∙ ap (λ b. occurs q ps + one_if b) is

none_of : (q p : List ℕ) (ps : List (List ℕ)) → has_path p ps ≡ false → bytes_eq p q ≡ true → occurs q ps ≡ 0
none_of q p ps none is = absent q ps (ap (λ r. has_path r ps) (sym ((bytes_eq-Decides p q).0 is)) ∙ none)

most_by : (b c : Bool) (q p : List ℕ) (ps : List (List ℕ)) → has_path p ps ≡ b → bytes_eq p q ≡ c
    → occurs q ps ≤ 1 → occurs q (if b then ps else ps ++ p ∷ []) ≤ 1
most_by true c q p ps there is most = most
most_by false false q p ps there is most = let e = grown q p ps false is in omega (arith, e, most)
most_by false true q p ps there is most = let e = grown q p ps true is in let n = none_of q p ps there is in omega (arith, e, n)

most : (q p : List ℕ) (ps : List (List ℕ)) → occurs q ps ≤ 1 → occurs q (with_path ps p) ≤ 1
most q p ps = most_by (has_path p ps) (bytes_eq p q) q p ps refl refl

kept_by : (b c : Bool) (q p : List ℕ) (ps : List (List ℕ)) → has_path p ps ≡ b → bytes_eq p q ≡ c
    → occurs q ps ≡ 1 → occurs q (if b then ps else ps ++ p ∷ []) ≡ 1
kept_by true c q p ps there is once = once
kept_by false false q p ps there is once = let e = grown q p ps false is in omega (arith, e, once)
kept_by false true q p ps there is once = let n = none_of q p ps there is in omega (arith, n, once)

kept : (q p : List ℕ) (ps : List (List ℕ)) → occurs q ps ≡ 1 → occurs q (with_path ps p) ≡ 1
kept q p ps = kept_by (has_path p ps) (bytes_eq p q) q p ps refl refl

reached_by : (b : Bool) (q : List ℕ) (ps : List (List ℕ)) → has_path q ps ≡ b → occurs q ps ≤ 1
    → occurs q (if b then ps else ps ++ q ∷ []) ≡ 1
reached_by true q ps there most = let some = present q ps there in omega (arith, some, most)
reached_by false q ps there most =
    let e = grown q q ps true ((bytes_eq-Decides q q).1 refl) in let n = absent q ps there in omega (arith, e, n)

reached : (q : List ℕ) (ps : List (List ℕ)) → occurs q ps ≤ 1 → occurs q (with_path ps q) ≡ 1
reached q ps = reached_by (has_path q ps) q ps refl

files_keep : (q : List ℕ) (ps : List (List ℕ)) (fs : List Finding) → occurs q ps ≡ 1 → occurs q (with_files ps fs) ≡ 1
files_keep q ps [] once = once
files_keep q ps (f ∷ fs) once = files_keep q (with_path ps f.at.file) fs (kept q f.at.file ps once)

files_reach : (ps : List (List ℕ)) (before : List Finding) (f : Finding) (behind : List Finding) → occurs f.at.file ps ≤ 1
    → occurs f.at.file (with_files ps (before ++ f ∷ behind)) ≡ 1
files_reach ps [] f behind most = files_keep f.at.file (with_path ps f.at.file) behind (reached f.at.file ps most)
files_reach ps (g ∷ before) f behind few =
    files_reach (with_path ps g.at.file) before f behind (most f.at.file g.at.file ps few)

told_keeps_by : (b : Bool) (q p : List ℕ) (ps : List (List ℕ)) → occurs q ps ≡ 1 → occurs q (with_told_by b ps p) ≡ 1
told_keeps_by true q p ps once = kept q p ps once
told_keeps_by false q p ps once = once

told_keeps : (q folder : List ℕ) (ps : List (List ℕ)) (ts : List Told) → occurs q ps ≡ 1 → occurs q (with_told folder ps ts) ≡ 1
told_keeps q folder ps [] once = once
told_keeps q folder ps (t ∷ ts) once =
    told_keeps q folder (with_told_by (bytes_eq t.folder.items folder) ps t.path.items) ts
    (told_keeps_by (bytes_eq t.folder.items folder) q t.path.items ps once)

one_at_most : (b : Bool) → one_if b + 0 ≤ 1
one_at_most true = omega arith
one_at_most false = omega arith

pub told_once : EachFindingIsToldOnce
told_once path before f behind ts folder =
    told_keeps f.at.file folder (with_files (path ∷ []) (before ++ f ∷ behind)) ts
    (files_reach (path ∷ []) before f behind (one_at_most (bytes_eq path f.at.file)))
