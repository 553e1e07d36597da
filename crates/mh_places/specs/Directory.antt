-- Where the objects of a service, and the actions of these, stand in its files.
use Rattle.std.specs.Prelude.{◌≡◌, ⊤, ℕ, nat_eq, Bool, true, false, ◌&&◌, is_some, if◌then◌else◌, List, [], ◌∷◌, ◌++◌, length, map, slice_get, unwrap_or, Option, Some, None, option_map}
use Rattle.std.specs.List.{filter, find}
use Rattle.std.specs.Map.{lookup}
use Rattle.std.specs.Str.{bytes_eq}
use Rattle.mh_base.specs.declared.obj_ref.ObjRef.{ObjRef}
use Rattle.mh_group.specs.declared.attribute.Attribute.{Attribute}
use Rattle.mh_group.specs.declared.attribute.Attribute.TheVariants as attribute
use Rattle.mh_text.specs.Landmarks.{Landmark, Sight, Class, Number, Name, landmarks}
use Rattle.mh_text.specs.declared.mark.Mark.{Mark}
use Rattle.mh_text.specs.Marks.{marks}
use Rattle.mh_told.specs.Reading.{Source}
use Rattle.mh_places.specs.declared.place.Place.{Place}
use Rattle.mh_places.specs.declared.directory.Turn.{Turn}
use Rattle.mh_places.specs.declared.directory.Turn.TheVariants as turn
use Rattle.mh_places.specs.declared.span.Span.{Span}
use Rattle.mh_places.specs.Spans.{place_of, span_at}

-- IN A TEXT

-- the number of this ingredient, or the class of the group itself, whose number is 0
abbrev pub is_object : ℕ → Sight → Bool
is_object n Class = nat_eq 0 n
is_object n (Number m) = nat_eq m n
is_object n (Name w) = false

-- what is meant by an object; the first counts
abbrev pub object_spans : List ℕ → ℕ → List Span
object_spans bs n = map (λ (l : Landmark). span_at bs l.start l.length) (filter (λ (l : Landmark). is_object n l.sight) (landmarks bs))

-- the actions of the field have this turn
abbrev pub is_in : Turn → Attribute → Bool
is_in turn.StartUp attribute.OnStartUp = true
is_in turn.CloseDown attribute.OnCloseDown = true
is_in turn.Last attribute.OnStartUp = false
is_in turn.Last attribute.OnCloseDown = false
is_in turn.Last _ = true
is_in _ _ = false

-- its actions that have this turn, in the order of the text
abbrev pub is_action_of : ℕ → Turn → Mark → Bool
is_action_of n t m = nat_eq m.object n && is_some m.action && is_in t m.field

abbrev pub spans_in_turn : List ℕ → ℕ → Turn → List Span
spans_in_turn bs n t = map (λ (m : Mark). span_at bs m.start m.length) (filter (is_action_of n t) (marks bs))

-- in the order in which they are counted: those of OnStartUp, those of OnCloseDown, and all others
abbrev pub action_spans : List ℕ → ℕ → List Span
action_spans bs n = spans_in_turn bs n turn.StartUp ++ spans_in_turn bs n turn.CloseDown ++ spans_in_turn bs n turn.Last

-- IN FILES

abbrev pub file_of : List Source → List ℕ → Option Source
file_of fs g = find (λ (f : Source). bytes_eq f.0 g) fs

abbrev pub in_file : (List ℕ → List Span) → Option Source → List Span
in_file spans None = []
in_file spans (Some f) = spans f.1.items

-- what is meant by the object, if it is found, and where that stands
unfoldable pub object_span : List Source → ObjRef → Option Span
object_span fs r = slice_get (in_file (λ bs. object_spans bs r.number) (file_of fs r.group)) 0

unfoldable pub object_place : List Source → ObjRef → Option Place
object_place fs r = option_map place_of (object_span fs r)

-- what is meant by the action of the object before which so many are counted, if it is found, and where that stands
unfoldable pub action_span : List Source → ObjRef → ℕ → Option Span
action_span fs r before = slice_get (in_file (λ bs. action_spans bs r.number) (file_of fs r.group)) before

unfoldable pub action_place : List Source → ObjRef → ℕ → Option Place
action_place fs r before = option_map place_of (action_span fs r before)

-- TABLES

-- the spans under the number of an object
abbrev pub listed : ℕ → List (ℕ × List Span) → List Span
listed n es = unwrap_or (lookup (nat_eq n) es) []

-- the span of a landmark or of a mark, if it is one of the object's
abbrev pub seen_at : List ℕ → ℕ → Landmark → List Span
seen_at bs n l = if is_object n l.sight then span_at bs l.start l.length ∷ [] else []

abbrev pub marked_at : List ℕ → ℕ → Turn → Mark → List Span
marked_at bs n t m = if is_action_of n t m then span_at bs m.start m.length ∷ [] else []

-- the spans of a text, under the numbers of its objects
pub record Tables : Type 0 where
  pub objects : List (ℕ × List Span)
  pub actions : List (ℕ × List Span)

pub record AreOf (bs : List ℕ) (t : Tables) : Type 0 where
  pub objects : (n : ℕ) → listed n t.objects ≡ object_spans bs n
  pub actions : (n : ℕ) → listed n t.actions ≡ action_spans bs n

-- BESIDE FILES

-- beside each of so many files stands what is told of it
pub record AreBesideOf {T : Type 0} (Tells : List ℕ → T → Type 0) (fs : List Source) (count : ℕ) (ts : List T) : Type 0 where
  pub all : length ts ≡ count
  pub each : (m : ℕ) (f : Source) (t : T) → slice_get fs m ≡ Some f → slice_get ts m ≡ Some t → Tells f.1.items t

abbrev pub AreBeside : {T : Type 0} → (List ℕ → T → Type 0) → List Source → List T → Type 0
AreBeside Tells fs ts = AreBesideOf Tells fs (length fs) ts

-- what is found of a file, or nothing where there is no such file
abbrev pub IsFound : {T : Type 0} → (List ℕ → T → Type 0) → Option Source → Option T → Type 0
IsFound Tells None None = ⊤
IsFound Tells (Some f) (Some t) = Tells f.1.items t
IsFound Tells _ _ = ⊥
