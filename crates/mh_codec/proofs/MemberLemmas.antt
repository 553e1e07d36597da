-- Lists of members: what was read is spelled so, and what is spelled so is read.
use Rattle.std.proofs.Common.{◌≡◌, ℕ, zero, suc, ◌<◌, ◌≤◌, ◌^◌, Bool, true, false, nat_le, if◌then◌else◌, List, [], ◌∷◌, ◌++◌, length, Option, Some, None, Result, Ok, refl, ap, sym, ◌∙◌, subst, arith, append-nil, append_assoc, length-append}
use Rattle.std.specs.List.{list_all}
use Rattle.std.proofs.lemmas.Bool.Decides.{nat_tests}
use Rattle.std.proofs.lemmas.Bool.{and_parts, and_from}
use Rattle.mh_base.specs.Reading.{Rest, ◌>>=◌}
use Rattle.mh_base.specs.Limits.{longest_list}
use Rattle.mh_base.proofs.ReadingLemmas.{went, if_ok, ok_same}
use Rattle.mh_der.specs.declared.tag.Tag.{Tag}
use Rattle.mh_der.specs.Tags.{sequence_tag}
use Rattle.mh_der.specs.Element.{element}
use Rattle.mh_der.specs.Rest.{Element}
use Rattle.mh_der.specs.Reading.{is_empty}
use Rattle.mh_der.proofs.DigitLemmas.{AreBytes}
use Rattle.mh_der.proofs.ElementLaws.{Found, element_longer}
use Rattle.mh_group.specs.Holdable.{is_list}
use Rattle.mh_codec.specs.declared.codec_error.Why.{Why}
use Rattle.mh_codec.specs.declared.codec_error.Why.TheVariants.{Limit}
use Rattle.mh_codec.specs.Spelling.{several, list}
use Rattle.mh_codec.specs.Gives.{Refusal}
use Rattle.mh_codec.specs.Reading.{taken, sequence_at, exhausted, next_member, continued, listed, list_at}
use Rattle.mh_codec.proofs.ElementLemmas.{written, Good, same_element, taken_found, good_found, taken_given}
use Rattle.mh_codec.proofs.ValueLemmas.{sequence_read, sequence_written}
use Rattle.mh_codec.proofs.ReferenceLemmas.{IsOne, Reads, spelled_as}

pub empty_is : (bs : List ℕ) → is_empty bs ≡ true → bs ≡ []
empty_is [] h = refl
empty_is (b ∷ bs) h = absurd cc

-- where an element stands something is left
pub some_left : (bs : List ℕ) (t : Tag) (c r : List ℕ) → bs ≡ element t c ++ r → is_empty bs ≡ false
some_left [] t c r e = absurd (let n : length (element t c ++ r) ≡ 0 = ap length (sym e) in omega (arith, length-append (element t c) r, element_longer t c))
some_left (b ∷ bs) t c r e = refl

pub exhausted_is : (w : Why) (left : Rest) → exhausted w left ≡ Ok tt → left.bytes ≡ []
unfolding exhausted
exhausted_is w left e =
    let t = if_ok (is_empty left.bytes) (Ok tt) w left.offset tt e in
    empty_is left.bytes t.0

pub exhausted_given : (w : Why) (left : Rest) → left.bytes ≡ [] → exhausted w left ≡ Ok tt
unfolding exhausted
exhausted_given w left e = rw e refl

short_enough : (n : ℕ) → n ≤ longest_list → nat_le n longest_list ≡ true
short_enough n h = grind (arith, nat_tests)

pub few_enough : (n : ℕ) → nat_le n longest_list ≡ true → n ≤ longest_list
few_enough n h = grind (arith, nat_tests)

module _ {A : Type 0} {member : Element → Result A Refusal} {spelling : A → List ℕ} {is_good is_fit : A → Bool} (reads : Reads member spelling is_good is_fit) where
  -- the members that were read
  record Members (n : ℕ) (done : List A) (left : Rest) (xs : List A) : Type 0 where
    pub new : List A
    pub all : xs ≡ done ++ new
    pub is : left.bytes ≡ several spelling new
    pub good : list_all is_good new ≡ true
    pub few : length new ≤ n

  members_none : (n : ℕ) (done : List A) (left : Rest) (xs : List A) → left.bytes ≡ [] → done ≡ xs → Members n done left xs
  members_none n done left xs empty same = record {
    new = [];
    all = sym same ∙ sym (append-nil done);
    is = empty;
    good = refl;
    few = omega arith;
  }

  members_more : (n : ℕ) (done : List A) (left rest : Rest) (e : Element) (x : A) (xs : List A) → Found left e rest → member e ≡ Ok x → Members n (done ++ x ∷ []) rest xs → Members (suc n) done left xs
  members_more n done left rest e x xs f m more =
      let r = reads.found e x (good_found left e rest f) m in
      record {
        new = x ∷ more.new;
        all = more.all ∙ append_assoc done (x ∷ []) more.new;
        is = f.written ∙ ap (λ (bs : List ℕ). bs ++ rest.bytes) r.0 ∙ ap (λ (bs : List ℕ). spelling x ++ bs) more.is;
        good = and_from (is_good x) (list_all is_good more.new) r.1 more.good;
        few = let few = more.few in omega arith;
      }

  abbrev further : ℕ → List A → Option A × Rest → Result (List A) Refusal
  further n done x = continued (listed member n) done x.0 x.1

  abbrev one_more : Rest → Result (Option A × Rest) Refusal
  one_more left = taken left >>= λ a. member a.0 >>= λ x. Ok (Some x, a.1)

  members_next : (n : ℕ) (done : List A) (left : Rest) (xs : List A) (b : Bool) → is_empty left.bytes ≡ b → AreBytes left.bytes
      → ((if b then Ok (None, left) else one_more left) >>= further n done) ≡ Ok xs
      → ((rest : Rest) (x : A) → AreBytes rest.bytes → listed member n (done ++ x ∷ []) rest ≡ Ok xs → Members n (done ++ x ∷ []) rest xs)
      → Members (suc n) done left xs
  members_next n done left xs true h bytes e more = members_none (suc n) done left xs (empty_is left.bytes h) (ok_same e)
  members_next n done left xs false h bytes e more =
      let w = went (one_more left) (further n done) xs e in
      let a = went (taken left) _ w.value w.first in
      let f = taken_found left a.value.0 a.value.1 bytes a.first in
      let x = went (member a.value.0) _ w.value a.behind in
      let same = ok_same x.behind in
      let rest = subst (λ (v : Option A × Rest). further n done v ≡ Ok xs) (sym same) w.behind in
      members_more n done left a.value.1 a.value.0 x.value xs f x.first (more a.value.1 x.value f.rest rest)

  members_found : (n : ℕ) (done : List A) (left : Rest) (xs : List A) → AreBytes left.bytes → listed member n done left ≡ Ok xs → Members n done left xs
  unfolding listed next_member
  members_found zero done left xs bytes e =
      let end = went (exhausted Limit left) _ xs e in
      members_none 0 done left xs (exhausted_is Limit left end.first) (ok_same end.behind)
  members_found (suc n) done left xs bytes e =
      members_next n done left xs (is_empty left.bytes) refl bytes e (λ rest x. members_found n (done ++ x ∷ []) rest xs)

  pub several_found : (limit : ℕ) (left : Rest) (xs : List A) → limit ≤ longest_list → AreBytes left.bytes → listed member limit [] left ≡ Ok xs
      → (left.bytes ≡ several spelling xs) × (is_list is_good xs ≡ true)
  several_found limit left xs few bytes read =
      let m = members_found limit [] left xs bytes read in
      let less = m.few in (
        m.is ∙ ap (several spelling) (sym m.all),
        subst (λ (ys : List A). is_list is_good ys ≡ true) (sym m.all) (and_from _ (list_all is_good m.new) (short_enough (length m.new) (omega arith)) m.good),
      )

  -- a whole list
  pub list_found : (limit : ℕ) (e : Element) (xs : List A) → limit ≤ longest_list → Good e → list_at member limit e ≡ Ok xs → (written e ≡ list spelling xs) × (is_list is_good xs ≡ true)
  unfolding list list_at
  list_found limit e xs few good is =
      let inner = went (sequence_at e) _ xs is in
      let s = sequence_read e inner.value inner.first in
      let bytes = subst (λ (r : Rest). AreBytes r.bytes) s.1 good.bytes in
      let m = several_found limit inner.value xs few bytes inner.behind in
      (spelled_as e sequence_tag (several spelling xs) s.0 (ap (λ (r : Rest). r.bytes) s.1 ∙ m.0), m.1)

  members_given : (n : ℕ) (done xs : List A) (left : Rest) → list_all is_fit xs ≡ true → length xs ≤ n → left.bytes ≡ several spelling xs → listed member n done left ≡ Ok (done ++ xs)
  unfolding listed next_member
  members_given zero done [] left good few is = rw (exhausted_given Limit left is) (ap Ok (sym (append-nil done)))
  members_given (suc n) done [] left good few is = rw is (ap Ok (sym (append-nil done)))
  members_given zero done (x ∷ xs) left good few is = absurd (omega arith)
  members_given (suc n) done (x ∷ xs) left good few is =
      let parts = and_parts (is_fit x) (list_all is_fit xs) good in
      let one = reads.one x parts.0 in
      let stands : left.bytes ≡ element one.tag one.contents ++ several spelling xs = is ∙ ap (λ (bs : List ℕ). bs ++ several spelling xs) one.is in
      let g = taken_given left one.tag one.contents (several spelling xs) one.small stands in
      let some = some_left left.bytes one.tag one.contents (several spelling xs) stands in
      let first = reads.given g.found x g.small parts.0 (g.is ∙ sym one.is) in
      let more = members_given n (done ++ x ∷ []) xs g.rest parts.1 (omega arith) g.behind in
      rw (some, g.takes, first, more) (ap Ok (append_assoc done (x ∷ []) xs))

  pub several_given : (limit : ℕ) (xs : List A) (left : Rest) → length xs ≤ limit → list_all is_fit xs ≡ true → left.bytes ≡ several spelling xs → listed member limit [] left ≡ Ok xs
  several_given limit xs left few good is = members_given limit [] xs left good few is

  pub list_given : (limit : ℕ) (e : Element) (xs : List A) → e.tag.number < 2 ^ 16 → length xs ≤ limit → list_all is_fit xs ≡ true → written e ≡ list spelling xs → list_at member limit e ≡ Ok xs
  unfolding list list_at
  list_given limit e xs small few good is =
      let same = same_element e.tag sequence_tag e.contents.bytes (several spelling xs) small (omega arith) is in
      rw (sequence_written e same.tag, several_given limit xs e.contents few good same.inner) refl

  pub list_one : (xs : List A) → IsOne (list spelling xs)
  unfolding list
  list_one xs = record { tag = sequence_tag; contents = several spelling xs; small = omega arith; is = refl }

  list_whole : (e : Element) (xs : List A) → e.tag.number < 2 ^ 16 → is_list is_fit xs ≡ true → written e ≡ list spelling xs → list_at member longest_list e ≡ Ok xs
  list_whole e xs small good is =
      let parts = and_parts (nat_le (length xs) longest_list) (list_all is_fit xs) good in
      list_given longest_list e xs small (few_enough (length xs) parts.0) parts.1 is

  pub list_reads : Reads (list_at member longest_list) (list spelling) (is_list is_good) (is_list is_fit)
  list_reads = record {
    found = λ e xs good is. list_found longest_list e xs (omega arith) good is;
    given = list_whole;
    one = λ xs good. list_one xs;
  }
