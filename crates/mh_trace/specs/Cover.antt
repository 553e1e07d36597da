-- What traces have covered of a service: which actions of each effect were done, and which groups were entered.
use Rattle.std.specs.Prelude.{ℕ, zero, suc, ◌+◌, ◌==◌, Bool, true, false, if◌then◌else◌, List, [], ◌∷◌, ◌++◌, codes, filter, length, map}
use Rattle.std.specs.Fmt.{decimal}
use Rattle.std.specs.List.{flat_map, list_any}
use Rattle.std.specs.Str.{bytes_eq}
use Rattle.mh_base.specs.declared.obj_ref.ObjRef.{ObjRef}
use Rattle.mh_group.specs.declared.attribute.Attribute.TheVariants as attribute
use Rattle.mh_group.specs.Table.{is_application}
use Rattle.mh_model.specs.declared.act.Act.{Act}
use Rattle.mh_model.specs.declared.object.member.Member.{Member}
use Rattle.mh_model.specs.declared.object.Fixed.{Fixed}
use Rattle.mh_model.specs.Property.{held, as_effect}
use Rattle.mh_model.specs.Service.{Service}
use Rattle.mh_model.specs.Tokens.{members}
use Rattle.mh_trace.specs.declared.cover.row.GroupRow.{GroupRow}
use Rattle.mh_trace.specs.declared.cover.row.Row.{Row}
use Rattle.mh_trace.specs.declared.site.EffectKind.{EffectKind}
use Rattle.mh_trace.specs.declared.site.EffectKind.TheVariants as kind
use Rattle.mh_trace.specs.declared.site.Site.{Site}
use Rattle.mh_trace.specs.Sites.{places_in, same_site}
use Rattle.mh_trace.specs.Directory.{Directory, written_at}
use Rattle.mh_trace.specs.Trace.{Tracing, add_site, add_name}
use Rattle.mh_trace.specs.Words.{place_text}

-- What was done and entered by several scripts, each once
pub record Covering : Type 0 where
  pub done : List Site
  pub entered : List (List ℕ)

abbrev pub uncovered : Covering
uncovered = record { done = []; entered = [] }

abbrev pub add_sites : List Site → List Site → List Site
add_sites xs [] = xs
add_sites xs (y ∷ ys) = add_sites (add_site y xs) ys

abbrev pub add_names : List (List ℕ) → List (List ℕ) → List (List ℕ)
add_names gs [] = gs
add_names gs (h ∷ hs) = add_names (add_name h gs) hs

-- with what one more script has done and entered
abbrev pub covered_by : Tracing → Covering → Covering
covered_by p x = record { done = add_sites x.done p.done; entered = add_names x.entered p.entered }

-- EFFECTS. An effect with actions has a row: how many of them were done.

abbrev pub is_done : List Site → Site → Bool
is_done ss x = list_any (same_site x) ss

abbrev pub row_of : List Site → ObjRef → EffectKind → List Act → Row
row_of ss r k xs = record { object = r; kind = k; done = length (filter (is_done ss) (places_in r k xs)); all = length xs }

abbrev pub effect_rows : List Site → ObjRef → EffectKind → List Act → List Row
effect_rows ss r k [] = []
effect_rows ss r k (x ∷ xs) = row_of ss r k (x ∷ xs) ∷ []

-- those of the slots of a member, and of all members
abbrev pub slot_rows : List Site → ObjRef → ℕ → ℕ → List (List Act) → List Row
slot_rows ss r m n [] = []
slot_rows ss r m n (e ∷ es) = effect_rows ss r (kind.Slot m n) e ++ slot_rows ss r m (suc n) es

abbrev pub member_rows : List Site → ObjRef → ℕ → List Member → List Row
member_rows ss r m [] = []
member_rows ss r m (x ∷ xs) = slot_rows ss r m 1 x.slots ++ member_rows ss r (suc m) xs

abbrev pub part_rows : List Site → Fixed → List Row
part_rows ss p =
    effect_rows ss p.key kind.StartUp (as_effect (held attribute.OnStartUp p.properties))
    ++ effect_rows ss p.key kind.CloseDown (as_effect (held attribute.OnCloseDown p.properties))
    ++ effect_rows ss p.key kind.Link (as_effect (held attribute.LinkEffect p.properties))
    ++ member_rows ss p.key 1 (members p)

abbrev pub group_rows : List Site → List Fixed → List Row
group_rows ss ps = flat_map (part_rows ss) ps

abbrev pub all_rows : List Site → List (List Fixed) → List Row
all_rows ss pss = flat_map (group_rows ss) pss

-- all actions of the effect were done
abbrev pub is_whole : Row → Bool
is_whole x = x.done == x.all

-- LINES

unfoldable pub part_word : ℕ → List ℕ
part_word n = if n == 0 then codes "never " else codes "part "

abbrev pub row_word_by : Bool → Bool → ℕ → List ℕ
row_word_by true true n = codes "ok - "
row_word_by true false n = codes "not ok - "
row_word_by false true n = codes "done "
row_word_by false false n = part_word n

abbrev pub row_word : Bool → Row → List ℕ
row_word tap x = row_word_by tap (is_whole x) x.done

-- the first action of an effect
abbrev pub first_site : Row → Site
first_site x = record { object = x.object; kind = x.kind; number = 1 }

unfoldable pub row_counts : Row → List ℕ
row_counts x = codes ", " ++ decimal x.done ++ codes " of " ++ decimal x.all

unfoldable pub row_line : Bool → Directory → Row → List ℕ
row_line tap ws x =
    row_word tap x ++ place_text x.object x.kind ++ row_counts x ++ written_at ws (first_site x) ++ 10 ∷ []

abbrev pub row_lines : Bool → Directory → List Row → List ℕ
row_lines tap ws xs = flat_map (row_line tap ws) xs

-- GROUPS. Each has a row: whether it was entered. The first part of a group is the group itself.

abbrev pub group_row : List (List ℕ) → Fixed → GroupRow
group_row gs p = record {
  name = p.key.group;
  is_application = is_application p.class;
  is_entered = list_any (bytes_eq p.key.group) gs;
}

abbrev pub parts_row : List (List ℕ) → List Fixed → List GroupRow
parts_row gs [] = []
parts_row gs (p ∷ ps) = group_row gs p ∷ []

abbrev pub all_groups : List (List ℕ) → List (List Fixed) → List GroupRow
all_groups gs pss = flat_map (parts_row gs) pss

abbrev pub entered_word : Bool → Bool → List ℕ
entered_word true true = codes "ok - "
entered_word true false = codes "not ok - "
entered_word false true = codes "done "
entered_word false false = codes "never "

unfoldable pub group_word : Bool → List ℕ
group_word b = if b then codes "application " else codes "scene "

unfoldable pub group_line : Bool → GroupRow → List ℕ
group_line tap x = entered_word tap x.is_entered ++ group_word x.is_application ++ x.name ++ 10 ∷ []

abbrev pub group_lines : Bool → List GroupRow → List ℕ
group_lines tap xs = flat_map (group_line tap) xs

-- how many were entered, and how many effects were done whole

abbrev pub was_entered : GroupRow → Bool
was_entered x = x.is_entered

abbrev pub entered_count : List GroupRow → ℕ
entered_count xs = length (filter was_entered xs)

abbrev pub whole_count : List Row → ℕ
whole_count xs = length (filter is_whole xs)

unfoldable pub plan_line : Bool → ℕ → List ℕ
plan_line tap n = if tap then codes "1.." ++ decimal n ++ 10 ∷ [] else []

unfoldable pub covered_line : Bool → ℕ → ℕ → List ℕ
covered_line tap n all =
    (if tap then codes "# " else []) ++ codes "covered " ++ decimal n ++ codes " of " ++ decimal all ++ 10 ∷ []

unfoldable pub cover_by : Bool → Directory → List Row → List GroupRow → List ℕ
cover_by tap ws xs ys =
    plan_line tap (length xs + length ys) ++ row_lines tap ws xs ++ group_lines tap ys
    ++ covered_line tap (whole_count xs + entered_count ys) (length xs + length ys)

-- the groups of a service, each by its parts
abbrev pub all_parts : Service → List (List Fixed)
all_parts v = map (λ e. e.1) v.groups

-- THE COVERAGE OF A SERVICE by what was done and entered, with where effects are written; `tap` for test harnesses
abbrev pub cover_text : Bool → Directory → Covering → Service → List ℕ
cover_text tap ws x v = cover_by tap ws (all_rows x.done (all_parts v)) (all_groups x.entered (all_parts v))
