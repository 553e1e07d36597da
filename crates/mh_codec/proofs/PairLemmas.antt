-- Pairs of integers, and positions: what was read is spelled so, and what is spelled so is read.
use Rattle.std.proofs.Common.{◌≡◌, ℕ, ◌<◌, ◌^◌, Bool, true, false, ◌&&◌, List, [], ◌++◌, Ok, ℤ, pos, negsuc, int_lt, refl, ap, sym, ◌∙◌, subst, arith, append-nil}
use Rattle.std.specs.Ordering.{int_eq}
use Rattle.std.proofs.lemmas.Bool.Decides.{nat_tests}
use Rattle.std.proofs.lemmas.Bool.{and_parts, and_from}
use Rattle.mh_base.specs.Reading.{Rest}
use Rattle.mh_base.proofs.ReadingLemmas.{went, if_ok, ok_same}
use Rattle.mh_der.specs.Tags.{sequence_tag}
use Rattle.mh_der.specs.Rest.{Element}
use Rattle.mh_der.proofs.DigitLemmas.{AreBytes}
use Rattle.mh_group.specs.declared.shape.Shape.{Shape}
use Rattle.mh_group.specs.declared.shape.Shape.TheVariants as shape
use Rattle.mh_group.specs.declared.written.Position.{Position}
use Rattle.mh_group.specs.Fit.{is_natural}
use Rattle.mh_group.specs.Holdable.{is_integer, is_position}
use Rattle.mh_codec.specs.declared.codec_error.Why.TheVariants.{BadValue}
use Rattle.mh_codec.specs.Spelling.{integer, natural, position}
use Rattle.mh_codec.specs.Reading.{taken, ended, integer_at, natural_at, fixed_at, sequence_at, position_at, part, pair}
use Rattle.mh_codec.proofs.ElementLemmas.{written, in_parts, last_part, Good, same_element, taken_found, good_found, taken_given, nothing_left, ended_given}
use Rattle.mh_codec.proofs.ValueLemmas.{sequence_read, sequence_written, integer_read, integer_written, natural_read, natural_written}
use Rattle.mh_codec.proofs.ReferenceLemmas.{IsOne, Reads, spelled_as, integer_one}

-- one integer of a pair

abbrev IsPart : Element → ℤ → Type 0
IsPart e x = (written e ≡ integer x) × (is_integer x ≡ true)

fixed_read : (k : ℤ) (e : Element) (x : ℤ) → fixed_at k e ≡ Ok x → integer_at e ≡ Ok x
unfolding fixed_at
fixed_read k e x is =
    let a = went (integer_at e) _ x is in
    let t = if_ok (int_eq a.value k) (Ok a.value) BadValue e.offset x a.behind in
    subst (λ (y : ℤ). integer_at e ≡ Ok y) (ok_same t.1) a.first

part_read : (s : Shape) (k : ℤ) (e : Element) (x : ℤ) → Good e → part s k e ≡ Ok x → IsPart e x
unfolding part
part_read shape.Size k e x good is = integer_read e x good (natural_read e x is).0
part_read shape.Screen k e x good is = integer_read e x good (fixed_read k e x is)
part_read _ k e x good is = integer_read e x good is

abbrev pub IsPair : List ℕ → ℤ × ℤ → Type 0
IsPair bs p = (bs ≡ integer p.0 ++ integer p.1) × ((is_integer p.0 && is_integer p.1) ≡ true)

pub pair_read : (s : Shape) (left : Rest) (p : ℤ × ℤ) → AreBytes left.bytes → pair s left ≡ Ok p → IsPair left.bytes p
unfolding pair
pair_read s left p bytes is =
    let a = went (taken left) _ p is in
    let f = taken_found left a.value.0 a.value.1 bytes a.first in
    let x = went (part s (pos 720) a.value.0) _ p a.behind in
    let b = went (taken a.value.1) _ p x.behind in
    let g = taken_found a.value.1 b.value.0 b.value.1 f.rest b.first in
    let y = went (part s (pos 576) b.value.0) _ p b.behind in
    let end = went (ended b.value.1) _ p y.behind in
    let none = nothing_left b.value.1 end.first in
    let first = part_read s (pos 720) a.value.0 x.value (good_found left a.value.0 a.value.1 f) x.first in
    let second = part_read s (pos 576) b.value.0 y.value (good_found a.value.1 b.value.0 b.value.1 g) y.first in
    let rest = last_part a.value.1.bytes (written b.value.0) b.value.1.bytes (integer y.value) g.written none second.0 in
    subst (IsPair left.bytes) (ok_same end.behind) (
      in_parts left.bytes (written a.value.0) a.value.1.bytes (integer x.value) (integer y.value) f.written first.0 rest,
      and_from (is_integer x.value) (is_integer y.value) first.1 second.1,
    )

not_negative : (x : ℤ) → is_natural x ≡ true → int_lt x (pos 0) ≡ false
not_negative (pos n) h = grind (arith, nat_tests)
not_negative (negsuc n) h = absurd cc

pub natural_given : (e : Element) (x : ℤ) → e.tag.number < 2 ^ 16 → is_natural x ≡ true → is_integer x ≡ true → written e ≡ integer x → natural_at e ≡ Ok x
natural_given e x small natural good is = natural_written e x (integer_written e x small good is) (not_negative x natural)

fixed_given : (k : ℤ) (e : Element) (x : ℤ) → e.tag.number < 2 ^ 16 → int_eq x k ≡ true → is_integer x ≡ true → written e ≡ integer x → fixed_at k e ≡ Ok x
unfolding fixed_at
fixed_given k e x small same good is = rw (integer_written e x small good is, same) refl

abbrev pub fits_part : Shape → ℤ → ℤ → Bool
fits_part shape.Size k x = is_natural x
fits_part shape.Screen k x = int_eq x k
fits_part _ k x = true

part_given : (s : Shape) (k : ℤ) (e : Element) (x : ℤ) → e.tag.number < 2 ^ 16 → fits_part s k x ≡ true → is_integer x ≡ true → written e ≡ integer x → part s k e ≡ Ok x
unfolding part
part_given shape.Size k e x small fit good is = natural_given e x small fit good is
part_given shape.Screen k e x small fit good is = fixed_given k e x small fit good is
part_given _ k e x small fit good is = integer_written e x small good is

pub pair_given : (s : Shape) (left : Rest) (x y : ℤ) → (fits_part s (pos 720) x && fits_part s (pos 576) y) ≡ true → (is_integer x && is_integer y) ≡ true → left.bytes ≡ integer x ++ integer y → pair s left ≡ Ok (x, y)
unfolding pair
pair_given s left x y fit good is =
    let fits = and_parts (fits_part s (pos 720) x) (fits_part s (pos 576) y) fit in
    let goods = and_parts (is_integer x) (is_integer y) good in
    let one = integer_one x in
    let two = integer_one y in
    let a = taken_given left one.tag one.contents (integer y) one.small (is ∙ ap (λ (bs : List ℕ). bs ++ integer y) one.is) in
    let b = taken_given a.rest two.tag two.contents [] two.small (a.behind ∙ two.is ∙ sym (append-nil _)) in
    let first = part_given s (pos 720) a.found x a.small fits.0 goods.0 (a.is ∙ sym one.is) in
    let second = part_given s (pos 576) b.found y b.small fits.1 goods.1 (b.is ∙ sym two.is) in
    rw (a.takes, first, b.takes, second, ended_given b.rest b.behind) refl

-- positions

position_read : (e : Element) (p : Position) → Good e → position_at e ≡ Ok p → (written e ≡ position p) × (is_position p ≡ true)
unfolding position_at position
position_read e p good is =
    let inner = went (sequence_at e) _ p is in
    let s = sequence_read e inner.value inner.first in
    let q = went (pair shape.Pair inner.value) _ p inner.behind in
    let r = pair_read shape.Pair inner.value q.value (subst (λ (r : Rest). AreBytes r.bytes) s.1 good.bytes) q.first in
    subst (λ (y : Position). (written e ≡ position y) × (is_position y ≡ true)) (ok_same q.behind)
    (spelled_as e sequence_tag (integer q.value.0 ++ integer q.value.1) s.0 (ap (λ (r : Rest). r.bytes) s.1 ∙ r.0), r.1)

position_written : (e : Element) (p : Position) → e.tag.number < 2 ^ 16 → is_position p ≡ true → written e ≡ position p → position_at e ≡ Ok p
unfolding position_at position
position_written e p small good is =
    let same = same_element e.tag sequence_tag e.contents.bytes (integer p.x ++ integer p.y) small (omega arith) is in
    rw (sequence_written e same.tag, pair_given shape.Pair e.contents p.x p.y refl good same.inner) refl

position_one : (p : Position) → IsOne (position p)
unfolding position
position_one p = record { tag = sequence_tag; contents = integer p.x ++ integer p.y; small = omega arith; is = refl }

pub position_reads : Reads position_at position is_position is_position
position_reads = record {
  found = position_read;
  given = position_written;
  one = λ p good. position_one p;
}
