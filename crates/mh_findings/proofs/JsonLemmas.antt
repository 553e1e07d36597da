-- What is written of a finding holds that finding; it has no number that is none of ℕ, and nests less than six deep.
use Rattle.std.specs.Prelude.{◌≡◌, ◌≤◌, ℕ, suc, max, false, ◌||◌, List, [], ◌∷◌, Option, Some, None, option_and_then, option_map, refl}
use Rattle.std.proofs.Common.{ap, ◌∙◌, arith}
use Rattle.std.proofs.Math.Nat.{max-le}
use Rattle.serde_json.specs.Data.{depth, items_depth}
use Rattle.serde_json.specs.Written.{has_float, items_have_float}
use Rattle.mh_findings.specs.declared.finding.Finding.{Finding}
use Rattle.mh_findings.specs.declared.finding.Grade.{Grade}
use Rattle.mh_findings.specs.declared.finding.Grade.TheVariants as grade
use Rattle.mh_places.specs.declared.span.Point.{Point}
use Rattle.mh_findings.specs.declared.finding.Related.{Related}
use Rattle.mh_findings.specs.declared.finding.Site.{Site}
use Rattle.mh_places.specs.declared.span.Span.{Span}
use Rattle.mh_findings.specs.Messages.{grade_word}
use Rattle.mh_findings.specs.Json.{point_data, span_data, site_data, related_data, related_items, mend_data, finding_data, point_in, span_in, site_in, related_in, all_related_in, mend_in, grade_named, found_as, finding_in, FindingsReadBack}

point_back : (p : Point) → point_in (point_data p) ≡ Some p
unfolding point_in point_data
point_back p = refl

span_back : (s : Span) → span_in (span_data s) ≡ Some s
unfolding span_in span_data point_in point_data
span_back s = refl

site_back : (s : Site) → site_in (site_data s) ≡ Some s
unfolding site_in site_data span_in span_data point_in point_data
site_back s = refl

one_back : (r : Related) → related_in (related_data r) ≡ Some r
unfolding related_in related_data site_in site_data span_in span_data point_in point_data
one_back r = refl

related_back : (rs : List Related) → all_related_in (related_items rs) ≡ Some rs
related_back [] = refl
related_back (r ∷ rs) =
    ap (option_and_then (λ (found : Related). option_map (λ (others : List Related). found ∷ others) (all_related_in (related_items rs)))) (one_back r)
    ∙ ap (option_map (λ (others : List Related). r ∷ others)) (related_back rs)

mend_back : (m : Option (List ℕ)) → mend_in (mend_data m) ≡ Some m
unfolding mend_data
mend_back None = refl
mend_back (Some w) = refl

grade_back : (g : Grade) → grade_named (grade_word g) ≡ Some g
unfolding grade_word
grade_back grade.Unread = refl
grade_back grade.Refused = refl
grade_back grade.Fault = refl
grade_back grade.Never = refl
grade_back grade.Note = refl

pub reads_back : FindingsReadBack
unfolding finding_in finding_data
reads_back f =
    let grade = grade_back f.grade in
    let at = site_back f.at in
    let mend = mend_back f.mend in
    let related = related_back f.related in
    λ i. option_and_then (λ (g : Grade). option_and_then (λ (rule : List ℕ). option_and_then (λ (s : Site).
    option_and_then (λ (what : List ℕ). option_and_then (λ (m : Option (List ℕ)). option_map (found_as g rule s what m)
    (related i)) (mend i)) (Some f.what)) (at i)) (Some f.rule)) (grade i)

-- It has no float, and is not deep.

mend_no_float : (m : Option (List ℕ)) → has_float (mend_data m) ≡ false
unfolding mend_data
mend_no_float None = refl
mend_no_float (Some w) = refl

related_no_float : (rs : List Related) → items_have_float (related_items rs) ≡ false
unfolding related_data site_data span_data point_data
related_no_float [] = refl
related_no_float (r ∷ rs) = related_no_float rs

pub no_float : (f : Finding) → has_float (finding_data f) ≡ false
unfolding finding_data site_data span_data point_data
no_float f = let mend = mend_no_float f.mend in let related = related_no_float f.related in (λ i. mend i || (related i || false))

mend_flat : (m : Option (List ℕ)) → depth (mend_data m) ≡ 0
unfolding mend_data
mend_flat None = refl
mend_flat (Some w) = refl

related_shallow : (rs : List Related) → items_depth (related_items rs) ≤ 4
unfolding related_data site_data span_data point_data
related_shallow [] = omega arith
related_shallow (r ∷ rs) = max-le {a = 4} {b = items_depth (related_items rs)} {k = 4} (omega arith) (related_shallow rs)

all_shallow : (mend items : ℕ) → mend ≡ 0 → items ≤ 4 → suc (max 3 (max 0 (max mend (max (suc items) (max 0 (max 0 0)))))) ≤ 127
all_shallow mend items flat few =
    let rest : max mend (max (suc items) (max 0 (max 0 0))) ≤ 126 = max-le (omega arith) (max-le (omega arith) (omega arith)) in
    let whole : max 3 (max 0 (max mend (max (suc items) (max 0 (max 0 0))))) ≤ 126 = max-le (omega arith) (max-le (omega arith) rest) in
    omega arith

pub shallow : (f : Finding) → depth (finding_data f) ≤ 127
unfolding finding_data site_data span_data point_data
shallow f = all_shallow (depth (mend_data f.mend)) (items_depth (related_items f.related)) (mend_flat f.mend) (related_shallow f.related)
