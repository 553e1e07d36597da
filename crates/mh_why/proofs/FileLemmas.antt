-- What is told of files that are not read gives a terminal no order.
use Rattle.std.specs.Prelude.{ℕ, ◌-◌, ◌==◌, ◌&&◌, List, [], ◌∷◌, length, Option, Some, None}
use Rattle.std.specs.Fmt.{decimal}
use Rattle.std.specs.Option.{option_map_or}
use Rattle.mh_misread.specs.declared.misread.Misread.{Misread}
use Rattle.mh_misread.specs.declared.mistake.Mistake.{Mistake}
use Rattle.mh_misread.specs.Misreads.{misread_of}
use Rattle.mh_misread.specs.Resuming.{text_from}
use Rattle.mh_why.specs.Advice.{advice, files}
use Rattle.mh_why.specs.Further.{behind_at, behind_first_of, files_text, from_named, further, further_by, mistake_advice, mistake_text, mistakes_in, with_notice}
use Rattle.mh_why.specs.LineWords.{number_in}
use Rattle.mh_why.specs.Misreading.{case_in, case_or, case_text, file_advice, told_or}
use Rattle.mh_why.specs.Places.{IsHarmless}
use Rattle.mh_why.specs.Sources.{Source, shown_offset, source_named}
use Rattle.mh_why.specs.Spots.{Spot}
use Rattle.mh_why.specs.Why as spec
use Rattle.mh_why.proofs.HarmlessLemmas.{◌⌢◌, harmless_paragraph}
use Rattle.mh_why.proofs.PlacedLemmas.{byte_put, none, either, joined, advice_put, by_number_put, offset_put}

case_put : (file : List ℕ) (offset : ℕ) (m : Misread) → IsHarmless (case_text file offset m)
unfolding case_text
case_put file offset m = harmless_paragraph _ ⌢ harmless_paragraph _

or_other : {X : Type 0} (f : X → List ℕ) → ((x : X) → IsHarmless (f x)) → (o : Option X) (other : List ℕ) → IsHarmless other → IsHarmless (option_map_or f o other)
or_other f each None other h = h
or_other f each (Some x) other h = each x

told_or_put : (other : List ℕ) → IsHarmless other → (ss : List Source) (name : List ℕ) (offset number : Option ℕ) → IsHarmless (told_or other ss name offset number)
told_or_put other h ss name (Some offset) (Some number) =
    or_other (case_or other offset number) (λ s. or_other (case_text s.text offset) (case_put s.text offset) (case_in s offset number) other h) (source_named ss name) other h
told_or_put other h ss name (Some offset) None = h
told_or_put other h ss name None number = h

file_advice_put : (ss : List Source) (s : Spot) → IsHarmless (file_advice ss s)
unfolding file_advice
file_advice_put ss s = told_or_put (advice files s.object) (advice_put files s.object) ss s.group (number_in s.index) (number_in s.object)

mistake_put : (s : Source) (m : Mistake) → IsHarmless (mistake_text s m)
unfolding mistake_text mistake_advice
mistake_put s m =
    byte_put m.place s
    ⌢ or_other (case_text (text_from s.text m.from) m.offset) (case_put (text_from s.text m.from) m.offset) (misread_of (text_from s.text m.from) m.offset m.number) (advice files (decimal m.number)) (advice_put files (decimal m.number))

files_put : (most : ℕ) (ss : List Source) → IsHarmless (files_text most ss)
files_put most [] = none
files_put most (s ∷ ss) = joined (mistake_text s) (mistake_put s) (mistakes_in most s) ⌢ files_put (most - length (mistakes_in most s)) ss

behind_first_put : (place number : ℕ) (s : Source) (ss : List Source) (ms : List Mistake) → IsHarmless (behind_first_of place number s ss ms)
behind_first_put place number s ss [] = none
behind_first_put place number s ss (m ∷ ms) =
    either (m.place == place && m.number == number) _ _ (joined (mistake_text s) (mistake_put s) ms ⌢ files_put (20 - length (m ∷ ms)) ss) none

behind_put : (place number : ℕ) (ss : List Source) → IsHarmless (behind_at place number ss)
unfolding behind_at
behind_put place number [] = none
behind_put place number (s ∷ ss) = behind_first_put place number s ss (mistakes_in 20 s)

with_notice_put : (told : List ℕ) → IsHarmless told → IsHarmless (with_notice told)
with_notice_put [] h = none
with_notice_put (b ∷ bs) h = harmless_paragraph _ ⌢ h

further_by_put : (ss : List Source) (name : List ℕ) (place number : Option ℕ) → IsHarmless (further_by ss name place number)
further_by_put ss name (Some place) (Some number) = with_notice_put _ (behind_put place number (from_named name ss))
further_by_put ss name (Some place) None = none
further_by_put ss name None number = none

further_put : (ss : List Source) (s : Spot) → IsHarmless (further ss s)
unfolding further
further_put ss s = further_by_put ss s.group (number_in s.index) (number_in s.object)

pub file_put : (ss : List Source) (s : Spot) → IsHarmless (spec.file ss s)
unfolding spec.file
file_put ss s = harmless_paragraph _ ⌢ by_number_put (shown_offset ss s.group) (offset_put ss s.group) s.index ⌢ file_advice_put ss s ⌢ further_put ss s
