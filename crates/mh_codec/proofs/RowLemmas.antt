-- Members of token groups and of list groups, and next scenes: what was read is spelled so, and what is
-- spelled so is read.
use Rattle.std.proofs.Common.{◌≡◌, ℕ, ◌<◌, ◌^◌, Bool, true, ◌&&◌, ◌==◌, nat_le, List, [], ◌∷◌, ◌++◌, length, Ok, refl, ap, sym, ◌∙◌, subst, arith, append-nil}
use Rattle.std.specs.List.{list_all}
use Rattle.std.proofs.lemmas.Bool.{and_parts, and_from}
use Rattle.mh_base.specs.Reading.{Rest}
use Rattle.mh_base.specs.Limits.{longest_list}
use Rattle.mh_base.proofs.ReadingLemmas.{went, ok_same}
use Rattle.mh_der.specs.Tags.{octet_string_tag, sequence_tag}
use Rattle.mh_der.specs.Rest.{Element}
use Rattle.mh_der.proofs.DigitLemmas.{AreBytes}
use Rattle.mh_group.specs.declared.action.Action.{Action}
use Rattle.mh_group.specs.declared.written.Member.{Member}
use Rattle.mh_group.specs.declared.written.NextScene.{NextScene}
use Rattle.mh_group.specs.Fit.{fits_action, fits_effect, fits_member, is_list_item}
use Rattle.mh_group.specs.Holdable.{is_integer, is_name, is_reference, is_list, is_action, is_member, is_next_scene}
use Rattle.mh_codec.specs.declared.codec_error.Why.TheVariants.{UnknownTag}
use Rattle.mh_codec.specs.Spelling.{integer, octet_string, reference, several, list, action, member, next_scene}
use Rattle.mh_codec.specs.Tags.{Tags, IsTable}
use Rattle.mh_codec.specs.Reading.{taken, ended, sequence_at, integer_at, name_at, reference_at, listed, effect_at, member_in, member_at, exhausted, list_item_in, list_item_at, next_scene_in, next_scene_at}
use Rattle.mh_codec.proofs.ElementLemmas.{written, in_parts, last_part, Good, same_element, same_number, taken_found, good_found, taken_given, nothing_left, ended_given}
use Rattle.mh_codec.proofs.ValueLemmas.{integer_read, integer_written, name_read, name_written, sequence_read, sequence_written}
use Rattle.mh_codec.proofs.ReferenceLemmas.{IsOne, Reads, spelled_as, integer_one, reference_one, reference_read, reference_written}
use Rattle.mh_codec.proofs.MemberLemmas.{exhausted_is, exhausted_given, few_enough, several_found, several_given, list_reads}
use Rattle.mh_codec.proofs.ActionLemmas.{fits_and_is, action_reads}

-- tests of all members

pub list_both : {A : Type 0} (p q : A → Bool) (xs : List A) → list_all p xs ≡ true → list_all q xs ≡ true → list_all (λ x. p x && q x) xs ≡ true
list_both p q [] h i = refl
list_both p q (x ∷ xs) h i =
    let a = and_parts (p x) (list_all p xs) h in
    let b = and_parts (q x) (list_all q xs) i in
    and_from (p x && q x) (list_all (λ x. p x && q x) xs) (and_from (p x) (q x) a.0 b.0) (list_both p q xs a.1 b.1)

-- a list whose members fit and can be held
pub list_fit : {A : Type 0} (p q : A → Bool) (xs : List A) → list_all p xs ≡ true → is_list q xs ≡ true → is_list (λ x. p x && q x) xs ≡ true
list_fit p q xs fit good =
    let parts = and_parts (nat_le (length xs) longest_list) (list_all q xs) good in
    and_from (nat_le (length xs) longest_list) (list_all (λ x. p x && q x) xs) parts.0 (list_both p q xs fit parts.1)

-- effects

effects_fit : (es : List (List Action)) → list_all fits_effect es ≡ true → list_all (is_list is_action) es ≡ true → list_all (is_list fits_and_is) es ≡ true
effects_fit [] fit good = refl
effects_fit (e ∷ es) fit good =
    let f = and_parts (fits_effect e) (list_all fits_effect es) fit in
    let g = and_parts (is_list is_action e) (list_all (is_list is_action) es) good in
    and_from (is_list fits_and_is e) (list_all (is_list fits_and_is) es) (list_fit fits_action is_action e f.0 g.0) (effects_fit es f.1 g.1)

-- members

abbrev pub fits_and_is_member : Member → Bool
fits_and_is_member m = fits_member m && is_member m

-- members of list groups

abbrev pub is_item_and_member : Member → Bool
is_item_and_member m = is_list_item m && is_member m

no_slots : (slots : List (List Action)) → (length slots == 0) ≡ true → slots ≡ []
no_slots [] h = refl
no_slots (x ∷ xs) h = absurd (let none : length (x ∷ xs) ≡ 0 = same_number (length (x ∷ xs)) 0 h in omega (arith, none))

-- next scenes

abbrev IsScene : List ℕ → NextScene → Type 0
IsScene bs s = (bs ≡ octet_string s.name ++ integer s.weight) × (is_next_scene s ≡ true)

scene_found : (left : Rest) (s : NextScene) → AreBytes left.bytes → next_scene_in left ≡ Ok s → IsScene left.bytes s
unfolding next_scene_in
scene_found left s bytes is =
    let a = went (taken left) _ s is in
    let f = taken_found left a.value.0 a.value.1 bytes a.first in
    let name = went (name_at a.value.0) _ s a.behind in
    let b = went (taken a.value.1) _ s name.behind in
    let g = taken_found a.value.1 b.value.0 b.value.1 f.rest b.first in
    let weight = went (integer_at b.value.0) _ s b.behind in
    let end = went (ended b.value.1) _ s weight.behind in
    let none = nothing_left b.value.1 end.first in
    let n = name_read a.value.0 name.value name.first in
    let w = integer_read b.value.0 weight.value (good_found a.value.1 b.value.0 b.value.1 g) weight.first in
    let second = last_part a.value.1.bytes (written b.value.0) b.value.1.bytes (integer weight.value) g.written none w.0 in
    subst (IsScene left.bytes) (ok_same end.behind) (
      in_parts left.bytes (written a.value.0) a.value.1.bytes (octet_string name.value) (integer weight.value) f.written n.0 second,
      and_from (is_name name.value) (is_integer weight.value) n.1 w.1,
    )

scene_read : (e : Element) (s : NextScene) → Good e → next_scene_at e ≡ Ok s → (written e ≡ next_scene s) × (is_next_scene s ≡ true)
unfolding next_scene_at next_scene
scene_read e s good is =
    let inner = went (sequence_at e) _ s is in
    let q = sequence_read e inner.value inner.first in
    let r = scene_found inner.value s (subst (λ (r : Rest). AreBytes r.bytes) q.1 good.bytes) inner.behind in
    (spelled_as e sequence_tag (octet_string s.name ++ integer s.weight) q.0 (ap (λ (r : Rest). r.bytes) q.1 ∙ r.0), r.1)

scene_given : (left : Rest) (s : NextScene) → is_next_scene s ≡ true → left.bytes ≡ octet_string s.name ++ integer s.weight → next_scene_in left ≡ Ok s
unfolding next_scene_in octet_string
scene_given left s good is =
    let goods = and_parts (is_name s.name) (is_integer s.weight) good in
    let one = integer_one s.weight in
    let a = taken_given left octet_string_tag s.name (integer s.weight) (omega arith) is in
    let b = taken_given a.rest one.tag one.contents [] one.small (a.behind ∙ one.is ∙ sym (append-nil _)) in
    rw (a.takes, name_written a.found s.name a.small goods.0 a.is, b.takes, integer_written b.found s.weight b.small goods.1 (b.is ∙ sym one.is), ended_given b.rest b.behind) refl

scene_written : (e : Element) (s : NextScene) → e.tag.number < 2 ^ 16 → is_next_scene s ≡ true → written e ≡ next_scene s → next_scene_at e ≡ Ok s
unfolding next_scene_at next_scene
scene_written e s small good is =
    let same = same_element e.tag sequence_tag e.contents.bytes (octet_string s.name ++ integer s.weight) small (omega arith) is in
    rw (sequence_written e same.tag, scene_given e.contents s good same.inner) refl

scene_one : (s : NextScene) → IsOne (next_scene s)
unfolding next_scene
scene_one s = record { tag = sequence_tag; contents = octet_string s.name ++ integer s.weight; small = omega arith; is = refl }

pub scene_reads : Reads next_scene_at next_scene is_next_scene is_next_scene
scene_reads = record {
  found = scene_read;
  given = scene_written;
  one = λ s good. scene_one s;
}

module _ (tags : Tags) (table : IsTable tags) where
  pub effect_reads : Reads (effect_at tags) (list (action tags)) (is_list is_action) (is_list fits_and_is)
  effect_reads = list_reads (action_reads tags table)

  abbrev IsMember : List ℕ → Member → Type 0
  IsMember bs m = (bs ≡ reference m.object ++ several (list (action tags)) m.slots) × (is_member m ≡ true)

  member_found : (left : Rest) (m : Member) → AreBytes left.bytes → member_in tags left ≡ Ok m → IsMember left.bytes m
  unfolding member_in
  member_found left m bytes is =
      let a = went (taken left) _ m is in
      let f = taken_found left a.value.0 a.value.1 bytes a.first in
      let o = went (reference_at a.value.0) _ m a.behind in
      let slots = went (listed (effect_at tags) longest_list [] a.value.1) _ m o.behind in
      let r = reference_read a.value.0 o.value (good_found left a.value.0 a.value.1 f) o.first in
      let s = several_found effect_reads longest_list a.value.1 slots.value (omega arith) f.rest slots.first in
      subst (IsMember left.bytes) (ok_same slots.behind) (
        in_parts left.bytes (written a.value.0) a.value.1.bytes (reference o.value) (several (list (action tags)) slots.value) f.written r.0 s.0,
        and_from (is_reference o.value) (is_list (is_list is_action) slots.value) r.1 s.1,
      )

  member_read : (e : Element) (m : Member) → Good e → member_at tags e ≡ Ok m → (written e ≡ member tags m) × (is_member m ≡ true)
  unfolding member_at member
  member_read e m good is =
      let inner = went (sequence_at e) _ m is in
      let s = sequence_read e inner.value inner.first in
      let r = member_found inner.value m (subst (λ (r : Rest). AreBytes r.bytes) s.1 good.bytes) inner.behind in
      (spelled_as e sequence_tag (reference m.object ++ several (list (action tags)) m.slots) s.0 (ap (λ (r : Rest). r.bytes) s.1 ∙ r.0), r.1)

  member_given : (left : Rest) (m : Member) → fits_and_is_member m ≡ true → left.bytes ≡ reference m.object ++ several (list (action tags)) m.slots → member_in tags left ≡ Ok m
  unfolding member_in
  member_given left m fit is =
      let parts = and_parts (fits_member m) (is_member m) fit in
      let goods = and_parts (is_reference m.object) (is_list (is_list is_action) m.slots) parts.1 in
      let slots = and_parts (nat_le (length m.slots) longest_list) (list_all (is_list is_action) m.slots) goods.1 in
      let one = reference_one m.object in
      let g = taken_given left one.tag one.contents (several (list (action tags)) m.slots) one.small (is ∙ ap (λ (bs : List ℕ). bs ++ several (list (action tags)) m.slots) one.is) in
      let object = reference_written g.found m.object g.small goods.0 (g.is ∙ sym one.is) in
      let rest = several_given effect_reads longest_list m.slots g.rest (few_enough (length m.slots) slots.0) (effects_fit m.slots parts.0 slots.1) g.behind in
      rw (g.takes, object, rest) refl

  member_written : (e : Element) (m : Member) → e.tag.number < 2 ^ 16 → fits_and_is_member m ≡ true → written e ≡ member tags m → member_at tags e ≡ Ok m
  unfolding member_at member
  member_written e m small fit is =
      let same = same_element e.tag sequence_tag e.contents.bytes (reference m.object ++ several (list (action tags)) m.slots) small (omega arith) is in
      rw (sequence_written e same.tag, member_given e.contents m fit same.inner) refl

  member_one : (m : Member) → IsOne (member tags m)
  unfolding member
  member_one m = record { tag = sequence_tag; contents = reference m.object ++ several (list (action tags)) m.slots; small = omega arith; is = refl }

  pub member_reads : Reads (member_at tags) (member tags) is_member fits_and_is_member
  member_reads = record {
    found = member_read;
    given = member_written;
    one = λ m fit. member_one m;
  }

  item_found : (left : Rest) (m : Member) → AreBytes left.bytes → list_item_in left ≡ Ok m → IsMember left.bytes m
  unfolding list_item_in
  item_found left m bytes is =
      let a = went (taken left) _ m is in
      let f = taken_found left a.value.0 a.value.1 bytes a.first in
      let o = went (reference_at a.value.0) _ m a.behind in
      let end = went (exhausted UnknownTag a.value.1) _ m o.behind in
      let r = reference_read a.value.0 o.value (good_found left a.value.0 a.value.1 f) o.first in
      let none = exhausted_is UnknownTag a.value.1 end.first in
      subst (IsMember left.bytes) (ok_same end.behind) (
        in_parts left.bytes (written a.value.0) a.value.1.bytes (reference o.value) [] f.written r.0 none,
        and_from (is_reference o.value) true r.1 refl,
      )

  item_read : (e : Element) (m : Member) → Good e → list_item_at e ≡ Ok m → (written e ≡ member tags m) × (is_member m ≡ true)
  unfolding list_item_at member
  item_read e m good is =
      let inner = went (sequence_at e) _ m is in
      let s = sequence_read e inner.value inner.first in
      let r = item_found inner.value m (subst (λ (r : Rest). AreBytes r.bytes) s.1 good.bytes) inner.behind in
      (spelled_as e sequence_tag (reference m.object ++ several (list (action tags)) m.slots) s.0 (ap (λ (r : Rest). r.bytes) s.1 ∙ r.0), r.1)

  item_given : (left : Rest) (m : Member) → is_item_and_member m ≡ true → left.bytes ≡ reference m.object ++ several (list (action tags)) m.slots → list_item_in left ≡ Ok m
  unfolding list_item_in
  item_given left m fit is =
      let parts = and_parts (is_list_item m) (is_member m) fit in
      let goods = and_parts (is_reference m.object) (is_list (is_list is_action) m.slots) parts.1 in
      let none = no_slots m.slots parts.0 in
      let one = reference_one m.object in
      let g = taken_given left one.tag one.contents [] one.small (is ∙ ap (λ (l : List (List Action)). reference m.object ++ several (list (action tags)) l) none ∙ ap (λ (bs : List ℕ). bs ++ []) one.is) in
      let object = reference_written g.found m.object g.small goods.0 (g.is ∙ sym one.is) in
      rw (g.takes, object, exhausted_given UnknownTag g.rest g.behind, none) refl

  item_written : (e : Element) (m : Member) → e.tag.number < 2 ^ 16 → is_item_and_member m ≡ true → written e ≡ member tags m → list_item_at e ≡ Ok m
  unfolding list_item_at member
  item_written e m small fit is =
      let same = same_element e.tag sequence_tag e.contents.bytes (reference m.object ++ several (list (action tags)) m.slots) small (omega arith) is in
      rw (sequence_written e same.tag, item_given e.contents m fit same.inner) refl

  pub item_reads : Reads list_item_at (member tags) is_member is_item_and_member
  item_reads = record {
    found = item_read;
    given = item_written;
    one = λ m fit. member_one m;
  }
