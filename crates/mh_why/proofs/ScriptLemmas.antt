-- What is told of lines of a script gives a terminal no order: all of it are paragraphs and places.
use Rattle.std.specs.Prelude.{ℕ, ◌-◌, ◌==◌, List, [], ◌∷◌, drop, length, take, codes, Option, Some, None}
use Rattle.std.specs.Str.{bytes_eq}
use Rattle.std.specs.Option.{option_map_or}
use Rattle.bstr.specs.Text.{lines_of, without_terminator}
use Rattle.mh_script.specs.Script.{key_name}
use Rattle.mh_why.specs.Advice.{Row, advice, readings, row_with}
use Rattle.mh_why.specs.declared.script.fault.LineFault.{LineFault}
use Rattle.mh_why.specs.declared.script.fault.LineFault.TheVariants as fault
use Rattle.mh_why.specs.LineWords.{first_word, behind_first}
use Rattle.mh_why.specs.Places.{IsHarmless}
use Rattle.mh_why.specs.Posts.{post_text, posts_from, posts_text, posts_told, some_posts, zero_text}
use Rattle.mh_why.specs.ScriptFaults.{line_fault}
use Rattle.mh_why.specs.ScriptForms.{forms, near_form, near_key}
use Rattle.mh_why.specs.ScriptTexts.{cause_text, command_mend, fault_text, form_text, key_mend, mend_text, missing_scene, near_form_text, near_key_text, nearest_text, own_mend, return_text, script_line, script_told, whole_text}
use Rattle.mh_why.specs.Sources.{NamedFile, Source}
use Rattle.mh_why.proofs.HarmlessLemmas.{◌⌢◌, harmless_paragraph, harmless_place}
use Rattle.mh_why.proofs.PlacedLemmas.{none, optional, either, joined, advice_put, missing_put}

or_put : {X : Type 0} (f : X → List ℕ) → ((x : X) → IsHarmless (f x)) → (o : Option X) (other : List ℕ) → IsHarmless other → IsHarmless (option_map_or f o other)
or_put f each None other is = is
or_put f each (Some x) other is = each x

cause_put : (f : LineFault) (line : List ℕ) → IsHarmless (cause_text f line)
unfolding cause_text
cause_put f line = harmless_paragraph _

form_put : (row : Row) → IsHarmless (form_text row)
unfolding form_text
form_put row = harmless_paragraph _

nearest_put : (word : List ℕ) → IsHarmless (nearest_text word)
unfolding nearest_text
nearest_put word = harmless_paragraph _

near_form_put : (row : Row) → IsHarmless (near_form_text row)
unfolding near_form_text
near_form_put row = nearest_put _ ⌢ form_put row

command_put : (word : List ℕ) → IsHarmless (command_mend word)
command_put word = or_put near_form_text near_form_put (near_form word) _ (harmless_paragraph _)

own_put : (line : List ℕ) → IsHarmless (own_mend line)
own_put line = optional form_text form_put (row_with forms (first_word line))

key_put : (line : List ℕ) → IsHarmless (key_mend line)
unfolding key_mend
key_put line = optional (λ k. nearest_text (key_name k)) (λ k. nearest_put (key_name k)) (near_key (behind_first line)) ⌢ own_put line

mend_put : (f : LineFault) (line : List ℕ) → IsHarmless (mend_text f line)
mend_put fault.SpaceInFront line = harmless_paragraph _
mend_put fault.NoCommand line = command_put (first_word line)
mend_put fault.NoKey line = key_put line
mend_put fault.Other line = none
mend_put _ line = own_put line

missing_scene_put : (ss : List Source) (f : LineFault) (line : List ℕ) → IsHarmless (missing_scene ss f line)
missing_scene_put ss fault.NoGroup line = missing_put ss (behind_first line)
missing_scene_put ss _ line = none

fault_put : (ss : List Source) (line : List ℕ) (f : LineFault) → IsHarmless (fault_text ss line f)
unfolding fault_text
fault_put ss line f = cause_put f line ⌢ missing_scene_put ss f line ⌢ mend_put f line

return_put : IsHarmless return_text
unfolding return_text
return_put = harmless_paragraph _ ⌢ harmless_paragraph _

whole_put : (ss : List Source) (l : List ℕ) → IsHarmless (whole_text ss l)
whole_put ss l = either (length l - length (without_terminator l) == 2) _ _ return_put (fault_put ss (without_terminator l) (line_fault (without_terminator l)))

pub script_told_put : (ss : List Source) (s : Option NamedFile) (word : List ℕ) → IsHarmless (script_told ss s word)
script_told_put ss s word = or_put (whole_text ss) (whole_put ss) (script_line s word) _ (advice_put readings (codes "script"))

-- Posts

zero_put : (line : List ℕ) → IsHarmless (zero_text line)
zero_put line = either (bytes_eq line (codes "tick 0")) _ _ (harmless_paragraph _) none

post_put : (f : NamedFile) (p : ℕ × ℕ) → IsHarmless (post_text f p)
unfolding post_text
post_put f p = harmless_place f.name f.bytes p.0 p.1 ⌢ zero_put (take p.1 (drop p.0 f.bytes))

some_put : (f : NamedFile) (ps : List (ℕ × ℕ)) → IsHarmless (some_posts f ps)
unfolding some_posts
some_put f ps = harmless_paragraph _ ⌢ joined (post_text f) (post_put f) (take 3 ps)

posts_put : (f : NamedFile) (ps : List (ℕ × ℕ)) → IsHarmless (posts_text f ps)
posts_put f [] = none
posts_put f (p ∷ ps) = some_put f (p ∷ ps)

pub posts_told_put : (s : Option NamedFile) (left number : List ℕ) → IsHarmless (posts_told s left number)
posts_told_put None left number = none
posts_told_put (Some f) left number = posts_put f (posts_from number (length f.bytes - length left) (lines_of left))
