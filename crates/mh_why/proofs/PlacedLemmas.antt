-- Causes, mends and places give a terminal no order: all that is put of them are paragraphs, and places.
use Rattle.std.specs.Prelude.{ℕ, zero, suc, ◌+◌, nat_le, Bool, true, false, if◌then◌else◌, List, [], ◌∷◌, length, codes, Option, Some, None, refl, drop}
use Rattle.std.specs.List.{find, flat_map}
use Rattle.std.specs.Option.{option_map_or}
use Rattle.std.specs.Str.{bytes_eq}
use Rattle.bstr.specs.Text.{lines_of, without_terminator}
use Rattle.mh_cause.specs.declared.detail.Detail.{Detail}
use Rattle.mh_text.specs.Landmarks.{Landmark, landmarks}
use Rattle.mh_text.specs.declared.mark.Mark.{Mark}
use Rattle.mh_text.specs.Marks.{mark_of}
use Rattle.mh_why.specs.Advice.{Row, row_with, row_text, advice}
use Rattle.mh_why.specs.LineWords.{number_in}
use Rattle.mh_why.specs.Meant.{Sought}
use Rattle.mh_why.specs.Missing.{is_like, like_named, like_text, missing, no_group_text, unless_group}
use Rattle.mh_why.specs.Places.{IsHarmless}
use Rattle.mh_why.specs.Services.{landmark_for, shown_for, shown_service}
use Rattle.mh_why.specs.Sources.{NamedFile, Source, by_number, by_numbers, count_named, in_source, is_marked, marks_named, named_words, object_in, shown_action, shown_actions, shown_byte, shown_if_marked, shown_in, shown_landmark, shown_line, shown_line_from, shown_mark, shown_named, shown_detail, shown_numbered, shown_object, shown_object_in, shown_offset, shown_named_at, shown_refused, shown_rest, shown_written_from, source_named, is_octets}
use Rattle.mh_why.specs.Spots.{Spot}
use Rattle.mh_why.specs.Values.{detail_in}
use Rattle.mh_why.specs.declared.explanation.place.marked.TheConstants.{HAVE_CHANGED}
use Rattle.mh_why.specs.Wrapping.{paragraph}
use Rattle.mh_why.specs.Why.{shown_spot, shown_late, shown_tags, shown_script}
use Rattle.mh_why.proofs.HarmlessLemmas.{◌⌢◌, harmless_codes, harmless_octet, harmless_paragraph, harmless_place}

pub none : IsHarmless []
none = harmless_codes [] refl

pub optional : {X : Type 0} (f : X → List ℕ) → ((x : X) → IsHarmless (f x)) → (o : Option X) → IsHarmless (option_map_or f o [])
optional f each None = none
optional f each (Some x) = each x

pub either : (b : Bool) (xs ys : List ℕ) → IsHarmless xs → IsHarmless ys → IsHarmless (if b then xs else ys)
either true xs ys first second = first
either false xs ys first second = second

pub joined : {X : Type 0} (f : X → List ℕ) → ((x : X) → IsHarmless (f x)) → (xs : List X) → IsHarmless (flat_map f xs)
joined f each [] = none
joined f each (x ∷ xs) = each x ⌢ joined f each xs

-- Causes and mends

pub row_put : (row : Row) → IsHarmless (row_text row)
unfolding row_text
row_put row = harmless_paragraph _ ⌢ harmless_paragraph _

pub advice_put : (rows : List Row) (word : List ℕ) → IsHarmless (advice rows word)
advice_put rows word = optional row_text row_put (row_with rows word)

-- Places

pub by_number_put : (shown : ℕ → List ℕ) → ((n : ℕ) → IsHarmless (shown n)) → (word : List ℕ) → IsHarmless (by_number shown word)
by_number_put shown each word = optional shown each (number_in word)

pub by_numbers_put : (shown : ℕ → ℕ → List ℕ) → ((m n : ℕ) → IsHarmless (shown m n)) → (first second : List ℕ) → IsHarmless (by_numbers shown first second)
by_numbers_put shown each first second =
    by_number_put (λ m. by_number (λ n. shown m n) second) (λ m. by_number_put (λ n. shown m n) (each m) second) first

pub in_source_put : (shown : Source → List ℕ) → ((s : Source) → IsHarmless (shown s)) → (ss : List Source) (name : List ℕ) → IsHarmless (in_source shown ss name)
in_source_put shown each ss name = optional shown each (source_named ss name)

pub in_put : (s : Source) (start size : ℕ) → IsHarmless (shown_in s start size)
unfolding shown_in
in_put s start size = either s.is_printed _ _ (harmless_place _ s.text start size) (harmless_place s.name s.text start size)

pub mark_put : (s : Source) (m : Mark) → IsHarmless (shown_mark s m)
mark_put s m = in_put s m.start m.length

pub landmark_put : (s : Source) (m : Landmark) → IsHarmless (shown_landmark s m)
landmark_put s m = in_put s m.start m.length

pub action_put : (ss : List Source) (group : List ℕ) (object index : ℕ) → IsHarmless (shown_action ss group object index)
unfolding shown_action
action_put ss group object index =
    in_source_put (shown_numbered object index) (λ s. optional (shown_mark s) (mark_put s) (mark_of s.marks object index)) ss group

detail_put : (d : Detail) (s : Source) (m : Mark) → IsHarmless (shown_detail d s m)
unfolding shown_detail
detail_put d s m = at_rest (detail_in d (drop m.start s.text))
  where
    at_rest : (rest : List ℕ) → IsHarmless (shown_rest s m rest)
    at_rest [] = mark_put s m
    at_rest (b ∷ bs) = in_put s _ _

pub refused_put : (ss : List Source) (word : List ℕ) (d : Detail) (group : List ℕ) (object index : ℕ) → IsHarmless (shown_refused ss word d group object index)
unfolding shown_refused
refused_put ss word d group object index = in_source_put (shown_named_at word d object index) (λ s. there s (mark_of s.marks object index)) ss group
  where
    there : (s : Source) (m : Option Mark) → IsHarmless (option_map_or (shown_if_marked word d s) m (paragraph HAVE_CHANGED.now))
    there s None = harmless_paragraph _
    there s (Some m) =
        either (is_marked word m) _ _ (detail_put d s m) (harmless_paragraph _)

pub named_put : (word : Sought) (ss : List Source) → IsHarmless (shown_named word ss)
named_put word ss =
    joined (λ (s : Source). flat_map (shown_mark s) (marks_named word s)) (λ s. joined (shown_mark s) (mark_put s) (marks_named word s)) ss

pub count_put : (word : Sought) (ss : List Source) (n : ℕ) → IsHarmless (named_words word ss n)
count_put word ss zero = none
count_put word ss (suc n) = either (nat_le (suc n) 3) _ _ (harmless_paragraph _ ⌢ named_put word ss) (harmless_paragraph _)

pub actions_put : (ss : List Source) (word : Sought) → IsHarmless (shown_actions ss word)
unfolding shown_actions
actions_put ss word = count_put word ss (count_named word ss)

pub object_put : (ss : List Source) (group : List ℕ) (number : ℕ) → IsHarmless (shown_object ss group number)
unfolding shown_object
object_put ss group number =
    in_source_put (shown_object_in number) (λ s. optional (shown_landmark s) (landmark_put s) (object_in number (landmarks s.text))) ss group

pub byte_put : (n : ℕ) (s : Source) → IsHarmless (shown_byte n s)
byte_put n s =
    either s.is_written _ _ (harmless_place s.name s.text n _) (either (is_octets s) _ _ (harmless_octet s.name s.text n) none)

pub offset_put : (ss : List Source) (name : List ℕ) (n : ℕ) → IsHarmless (shown_offset ss name n)
unfolding shown_offset
offset_put ss name n = in_source_put (shown_byte n) (byte_put n) ss name

pub service_put : (ss : List Source) (number group : List ℕ) → IsHarmless (shown_service ss number group)
unfolding shown_service
service_put ss number group =
    in_source_put (shown_for number) (λ s. optional (shown_landmark s) (landmark_put s) (landmark_for number s.name (landmarks s.text))) ss group

pub no_group_put : (s : Source) → IsHarmless (no_group_text s)
unfolding no_group_text
no_group_put s = harmless_paragraph _

pub like_put : (group : List ℕ) (s : Source) → IsHarmless (like_text group s)
unfolding like_text
like_put group s = harmless_paragraph _

pub missing_put : (ss : List Source) (group : List ℕ) → IsHarmless (missing ss group)
unfolding missing
missing_put ss group = there (source_named ss group)
  where
    there : (o : Option Source) → IsHarmless (option_map_or unless_group o (like_named ss group))
    there None = optional (like_text group) (like_put group) (find (is_like group) ss)
    there (Some s) = either s.is_group _ _ none (no_group_put s)

pub line_from_put : (s : NamedFile) (start : ℕ) (ls : List (List ℕ)) (n : ℕ) → IsHarmless (shown_line_from s start ls n)
line_from_put s start [] n = none
line_from_put s start (l ∷ ls) zero = harmless_place s.name s.bytes start (length (without_terminator l))
line_from_put s start (l ∷ ls) (suc n) = line_from_put s (start + length l) ls n

pub script_line_put : (s : NamedFile) (n : ℕ) → IsHarmless (shown_line s n)
script_line_put s zero = none
script_line_put s (suc n) = line_from_put s 0 (lines_of s.bytes) n

pub written_from_put : (s : NamedFile) (start : ℕ) (ls : List (List ℕ)) (written : List ℕ) → IsHarmless (shown_written_from s start ls written)
written_from_put s start [] written = none
written_from_put s start (l ∷ ls) written =
    either (bytes_eq (without_terminator l) written) _ _ (harmless_place s.name s.bytes start (length (without_terminator l))) (written_from_put s (start + length l) ls written)

pub late_put : (late : Option NamedFile) (number line : List ℕ) → IsHarmless (shown_late late number line)
late_put None number line = none
late_put (Some f) number line = either (bytes_eq number (codes "37")) _ _ (written_from_put f 0 (lines_of f.bytes) line) none

pub tag_line_put : (tags : Option NamedFile) (number place : List ℕ) → IsHarmless (shown_tags tags number place)
tag_line_put None number place = none
tag_line_put (Some f) number place = either (bytes_eq number (codes "60")) _ _ (by_number_put (shown_line f) (script_line_put f) place) none

pub script_put : (script : Option NamedFile) (word : List ℕ) → IsHarmless (shown_script script word)
script_put script word = optional (λ (s : NamedFile). by_number (shown_line s) word) (λ s. by_number_put (shown_line s) (script_line_put s) word) script

pub spot_put : (ss : List Source) (s : Spot) → IsHarmless (shown_spot ss s)
spot_put ss s = by_numbers_put (shown_action ss s.group) (action_put ss s.group) s.object s.index
