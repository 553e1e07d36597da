-- A run, read step by step: its place, its characters, and the cells that are put.
use Rattle.std.specs.Prelude.{◌≡◌, ℕ, ◌+◌, ◌-◌, ◌<◌, ◌≤◌, ◌^◌, true, List, [], ◌∷◌, ◌++◌, length, map, replicate, zero, suc, Option, Some, None, nat_lt, refl}
use Rattle.std.specs.List.{list_all}
use Rattle.std.proofs.Common.{ap, ◌∙◌, sym, subst, arith}
use Rattle.std.proofs.lemmas.List.Folds.{list_all-append}
use lib.Utf8.{scalar}
use Rattle.mh_model.specs.declared.picture.cell.Cell.{Cell}
use Rattle.mh_model.specs.Picture.{black}
use Rattle.mh_look.specs.declared.report.run.Place.{Place}
use Rattle.mh_look.specs.Report.{is_shown}
use Rattle.mh_look.specs.Reading.{AreCharactersFound, quoted_text}
use Rattle.mh_look.specs.Cells.{AreColours, FitInto, IsPlaceBehindFound, IsRunFound, StandsBehind, coloured, filled, place_length, place_text, with_run}
use Rattle.mh_look.proofs.OptionLemmas.{firsts, seconds, some_is, nothing_is}
use Rattle.mh_look.proofs.PlaceLemmas.{behind_place}
use Rattle.mh_look.proofs.TailLemmas.{tail}

-- the columns of a place are small numbers
pub small_first : (n : ℕ) (p : Place) → StandsBehind n p → p.first < 2 ^ 64
small_first n p stands = omega (arith, stands.rising, stands.within)

pub small_last : (n : ℕ) (p : Place) → StandsBehind n p → p.last < 2 ^ 64
small_last n p stands = omega (arith, stands.within)

stands_at : (n m : ℕ) (p : Place) → n ≡ m → StandsBehind m p → StandsBehind n p
stands_at n m p e stands = subst (λ (k : ℕ). StandsBehind k p) (sym e) stands

-- no place, and so no run
pub no_place : (bytes : List ℕ) (cells : List Cell) (n : ℕ) → n ≡ length cells → IsPlaceBehindFound n bytes None → IsRunFound bytes cells cells None
no_place bytes cells n e none = record {
  count = λ p cs stands fit rest text. nothing_is _ _ (none p (stands_at n (length cells) p e stands) (quoted_text cs ++ rest) text);
  put = λ p cs stands fit rest text. nothing_is _ _ (none p (stands_at n (length cells) p e stands) (quoted_text cs ++ rest) text);
}

-- the place that stands there was found, and the characters are left
place_is : (bytes : List ℕ) (cells : List Cell) (n m : ℕ) (q p : Place) (cs rest : List ℕ) → n ≡ length cells → IsPlaceBehindFound n bytes (Some (q, m)) → StandsBehind (length cells) p → bytes ≡ place_text p (quoted_text cs ++ rest) → q ≡ p
place_is bytes cells n m q p cs rest e found stands text = firsts q p m _ (found p (stands_at n (length cells) p e stands) (quoted_text cs ++ rest) text)

place_long : (bytes : List ℕ) (cells : List Cell) (n m : ℕ) (q p : Place) (cs rest : List ℕ) → n ≡ length cells → IsPlaceBehindFound n bytes (Some (q, m)) → StandsBehind (length cells) p → bytes ≡ place_text p (quoted_text cs ++ rest) → m ≡ place_length p
place_long bytes cells n m q p cs rest e found stands text = seconds q p m _ (found p (stands_at n (length cells) p e stands) (quoted_text cs ++ rest) text)

characters_left : (bytes : List ℕ) (cells : List Cell) (n m : ℕ) (q p : Place) (cs rest : List ℕ) → n ≡ length cells → IsPlaceBehindFound n bytes (Some (q, m)) → StandsBehind (length cells) p → bytes ≡ place_text p (quoted_text cs ++ rest) → tail m bytes ≡ quoted_text cs ++ rest
characters_left bytes cells n m q p cs rest e found stands text =
    behind_place p (quoted_text cs ++ rest) bytes m text (place_long bytes cells n m q p cs rest e found stands text)

-- no characters behind the place
pub no_characters : (bytes : List ℕ) (cells : List Cell) (n m : ℕ) (q : Place) (before after : List ℕ) (o : Option ℕ) → n ≡ length cells → IsPlaceBehindFound n bytes (Some (q, m)) → o ≡ None → AreCharactersFound (tail m bytes) before after o → IsRunFound bytes cells cells None
no_characters bytes cells n m q before after o e found none read = record {
  count = λ p cs stands fit rest text. nothing_is _ _ (sym none ∙ read.count cs rest fit.scalars (characters_left bytes cells n m q p cs rest e found stands text));
  put = λ p cs stands fit rest text. nothing_is _ _ (sym none ∙ read.count cs rest fit.scalars (characters_left bytes cells n m q p cs rest e found stands text));
}

-- the characters that stand there are those that were read
characters_are : (bytes : List ℕ) (cells : List Cell) (n m : ℕ) (q p : Place) (cs rest before after : List ℕ) (o : Option ℕ) → n ≡ length cells → IsPlaceBehindFound n bytes (Some (q, m)) → before ≡ [] → AreCharactersFound (tail m bytes) before after o
    → StandsBehind (length cells) p → FitInto p cs → bytes ≡ place_text p (quoted_text cs ++ rest) → after ≡ cs
characters_are bytes cells n m q p cs rest before after o e found none read stands fit text =
    read.put cs rest fit.scalars (characters_left bytes cells n m q p cs rest e found stands text) ∙ ap (λ (xs : List ℕ). xs ++ cs) none

-- more characters than the run has cells
too_long : (q p : Place) (cs read : List ℕ) → q ≡ p → read ≡ cs → q.last + 1 - q.first < length read → length cs ≤ p.last + 1 - p.first → ⊥
too_long q p cs read same equal long short =
    let first : q.first ≡ p.first = ap (λ (r : Place). r.first) same in
    let last : q.last ≡ p.last = ap (λ (r : Place). r.last) same in
    omega (arith, first, last, ap length equal, long, short)

pub many_characters : (bytes : List ℕ) (cells : List Cell) (n m : ℕ) (q : Place) (before after : List ℕ) (o : Option ℕ) → n ≡ length cells → IsPlaceBehindFound n bytes (Some (q, m)) → before ≡ [] → AreCharactersFound (tail m bytes) before after o → q.last + 1 - q.first < length after → IsRunFound bytes cells cells None
many_characters bytes cells n m q before after o e found none read long =
    let wrong : (p : Place) (cs : List ℕ) → StandsBehind (length cells) p → FitInto p cs → (rest : List ℕ) → bytes ≡ place_text p (quoted_text cs ++ rest) → ⊥ =
    λ p cs stands fit rest text. too_long q p cs after (place_is bytes cells n m q p cs rest e found stands text) (characters_are bytes cells n m q p cs rest before after o e found none read stands fit text) long fit.short in
    record {
      count = λ p cs stands fit rest text. absurd (wrong p cs stands fit rest text);
      put = λ p cs stands fit rest text. absurd (wrong p cs stands fit rest text);
    }

-- place and characters
pub run_found : (bytes : List ℕ) (cells new : List Cell) (n m k : ℕ) (q : Place) (before after : List ℕ) (o : Option ℕ) → n ≡ length cells → IsPlaceBehindFound n bytes (Some (q, m)) → before ≡ [] → AreCharactersFound (tail m bytes) before after o → o ≡ Some k → new ≡ with_run cells q after → IsRunFound bytes cells new (Some (m + k))
run_found bytes cells new n m k q before after o e found none read some put = record {
  count = λ p cs stands fit rest text.
      let place : m ≡ place_length p = place_long bytes cells n m q p cs rest e found stands text in
      let more : k ≡ length (quoted_text cs) = some_is k _ (sym some ∙ read.count cs rest fit.scalars (characters_left bytes cells n m q p cs rest e found stands text)) in
      rw (place, more) refl;
  put = λ p cs stands fit rest text.
      let place : q ≡ p = place_is bytes cells n m q p cs rest e found stands text in
      let all : after ≡ cs = characters_are bytes cells n m q p cs rest before after o e found none read stands fit text in
      put ∙ ap (λ (r : Place). with_run cells r after) place ∙ ap (λ (xs : List ℕ). with_run cells p xs) all;
}

-- What is put can be shown.

is_bounded : (n : ℕ) → n < 16777216 → nat_lt n 16777216 ≡ true
is_bounded n low = grind (arith, low)

shown_space : (fore back : ℕ) → AreColours fore back → is_shown (coloured fore back 32) ≡ true
shown_space fore back colours = rw (is_bounded fore colours.front, is_bounded back colours.behind) refl

shown_one : (fore back c : ℕ) → AreColours fore back → scalar c ≡ true → is_shown (coloured fore back c) ≡ true
shown_one fore back c colours valid = rw (valid, is_bounded fore colours.front, is_bounded back colours.behind) refl

shown_characters : (fore back : ℕ) (cs : List ℕ) → AreColours fore back → list_all scalar cs ≡ true → list_all is_shown (map (coloured fore back) cs) ≡ true
shown_characters fore back [] colours valid = refl
shown_characters fore back (c ∷ cs) colours valid =
    let head : scalar c ≡ true = grind (arith, valid) in
    let behind : list_all scalar cs ≡ true = grind (arith, valid) in
    rw (shown_one fore back c colours head, shown_characters fore back cs colours behind) refl

shown_many : (n : ℕ) (c : Cell) → is_shown c ≡ true → list_all is_shown (replicate n c) ≡ true
shown_many zero c shown = refl
shown_many (suc n) c shown = rw (shown, shown_many n c shown) refl

shown_both : (xs ys : List Cell) → list_all is_shown xs ≡ true → list_all is_shown ys ≡ true → list_all is_shown (xs ++ ys) ≡ true
shown_both xs ys one other = rw (list_all-append is_shown xs ys, one, other) refl

pub shown_filled : (cells : List Cell) (n : ℕ) (c : Cell) → list_all is_shown cells ≡ true → is_shown c ≡ true → list_all is_shown (filled cells n c) ≡ true
shown_filled cells n c all one = shown_both cells (replicate (n - length cells) c) all (shown_many (n - length cells) c one)

pub shown_run : (cells : List Cell) (p : Place) (cs : List ℕ) → AreColours p.fore p.back → list_all scalar cs ≡ true → list_all is_shown cells ≡ true → list_all is_shown (with_run cells p cs) ≡ true
shown_run cells p cs colours valid all =
    shown_filled (filled cells p.first black ++ map (coloured p.fore p.back) cs) (p.last + 1) (coloured p.fore p.back 32)
    (shown_both (filled cells p.first black) (map (coloured p.fore p.back) cs) (shown_filled cells p.first black all refl) (shown_characters p.fore p.back cs colours valid))
    (shown_space p.fore p.back colours)
