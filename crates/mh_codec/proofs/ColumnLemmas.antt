-- The columns that lines name, and the table that they make.
use Rattle.std.proofs.Common.{◌≡◌, ℕ, Bool, true, false, if◌then◌else◌, List, [], length, map, Option, Some, None, Ok, refl, ap, ◌∙◌, subst}
use Rattle.std.specs.List.{range_with_len}
use Rattle.std.proofs.lemmas.List.FromFn.{length-map-range_with_len}
use Rattle.mh_codec.specs.declared.tag_line.TagContext.{TagContext}
use Rattle.mh_codec.specs.declared.tag_line.TagContext.TheVariants as context
use Rattle.mh_codec.specs.declared.tag_line.NamedTag.{NamedTag}
use Rattle.mh_codec.specs.Tags.{Tags, IsTable, AreSmall, has_double, first_double, profile}
use Rattle.mh_codec.specs.TagLines.{tag_by, column_by, table_by, unless_double, line_of, read_table}

pub column_done : (named : List NamedTag) (c : TagContext) (first n count : ℕ) (xs : List ℕ) → n ≡ count → xs ≡ map (tag_by named c) (range_with_len first n) → xs ≡ column_by named c first count
unfolding column_by
column_done named c first n count xs same is = subst (λ (m : ℕ). xs ≡ map (tag_by named c) (range_with_len first m)) same is

pub column_full : (named : List NamedTag) (c : TagContext) (first n count : ℕ) (xs : List ℕ) → n ≡ count → xs ≡ map (tag_by named c) (range_with_len first n) → length xs ≡ count
column_full named c first n count xs same is = ap (λ (ys : List ℕ). length ys) is ∙ length-map-range_with_len (tag_by named c) first n ∙ same

none_of : (p q r s : Bool) → ◌≡◌ {A = Option ℕ} (if p then Some 1 else (if q then Some 2 else (if r then Some 3 else (if s then Some 4 else None)))) None → (p ≡ false) × (q ≡ false) × (r ≡ false) × (s ≡ false)
none_of false false false false h = (refl, refl, refl, refl)
none_of true q r s h = absurd cc
none_of false true r s h = absurd cc
none_of false false true s h = absurd cc
none_of false false false true h = absurd cc

-- full columns without doubles are a table
pub is_table : (t : Tags) → first_double t ≡ None → length t.classes ≡ 17 → AreSmall t.classes → length t.attributes ≡ 38 → AreSmall t.attributes → length t.actions ≡ 70 → AreSmall t.actions → length t.values ≡ 7 → AreSmall t.values → IsTable t
unfolding first_double
is_table t none a b c d e f g h =
    let single = none_of (has_double t.classes) (has_double t.attributes) (has_double t.actions) (has_double t.values) none in
    record {
      classes = record { full = a; small = b; single = single.0 };
      attributes = record { full = c; small = d; single = single.1 };
      actions = record { full = e; small = f; single = single.2 };
      values = record { full = g; small = h; single = single.3 };
    }

-- what is said of the columns is said of the table
pub told : (named : List NamedTag) (t : Tags) (o : Option ℕ) → t.classes ≡ column_by named context.Class 0 17 → t.attributes ≡ column_by named context.Attribute 1 38 → t.actions ≡ column_by named context.Action 100 70
    → t.values ≡ column_by named context.Value 60 7 → first_double t ≡ o → unless_double (table_by named) (first_double (table_by named)) ≡ unless_double t o
unfolding table_by
told named t o a b c d is =
    let same : ◌≡◌ {A = Tags} t (table_by named) = λ i. record { classes = a i; attributes = b i; actions = c i; values = d i } in
    subst (λ (u : Tags). unless_double u (first_double u) ≡ unless_double t o) same (ap (unless_double t) is)

-- where nothing is named the table is that of the profile
pub profile_of : (named : List NamedTag) (t : Tags) → named ≡ [] → t.classes ≡ column_by named context.Class 0 17 → t.attributes ≡ column_by named context.Attribute 1 38
    → t.actions ≡ column_by named context.Action 100 70 → t.values ≡ column_by named context.Value 60 7 → t ≡ profile
unfolding table_by column_by
profile_of named t none a b c d =
    let same : ◌≡◌ {A = Tags} t (table_by named) = λ i. record { classes = a i; attributes = b i; actions = c i; values = d i } in
    let nothing : table_by [] ≡ profile = refl in
    same ∙ ap table_by none ∙ nothing

pub profile_single : (t : Tags) → t ≡ profile → first_double t ≡ None
unfolding first_double
profile_single t same = ap first_double same ∙ refl

pub profile_named : read_table [] ≡ Ok profile
unfolding read_table line_of table_by column_by first_double
profile_named = refl
