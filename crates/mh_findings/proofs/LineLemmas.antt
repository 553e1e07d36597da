-- A finding is told in one line.
use Rattle.std.specs.Prelude.{◌≡◌, ℕ, ◌+◌, Bool, true, false, cond, if◌then◌else◌, List, [], ◌∷◌, ◌++◌, refl}
use Rattle.std.specs.List.{count_by, flat_map}
use Rattle.std.proofs.Common.{ap, ◌∙◌, arith}
use Rattle.std.proofs.lemmas.Bool.Decides.{nat_tests}
use Rattle.std.proofs.lemmas.List.Sums.{sum_by-append, sum_by-cons}
use Rattle.mh_findings.specs.declared.finding.Finding.{Finding}
use Rattle.mh_findings.specs.Short.{is_control, ends_control, tame_byte, tamed_behind, tamed, short_words, short_line, is_feed, EachHasALine}

-- feeds are counted through `++`
pub count_joined : (p : ℕ → Bool) (xs ys : List ℕ) → count_by p (xs ++ ys) ≡ count_by p xs + count_by p ys
count_joined p xs ys = sum_by-append (λ x. cond (p x) 1 0) xs ys

other : (b : ℕ) → is_control b ≡ false → is_feed b ≡ false
other b h = by (is_feed b) refl
  where
    by : (c : Bool) → is_feed b ≡ c → is_feed b ≡ false
    by false e = e
    by true e = let ten : b ≡ 10 = grind (arith, nat_tests) in absurd cc

no_feed : (before b : ℕ) → is_feed (tame_byte before b) ≡ false
unfolding tame_byte
no_feed before b = by (is_control b) refl (ends_control before b) refl
  where
    by : (c : Bool) → is_control b ≡ c → (d : Bool) → ends_control before b ≡ d → is_feed (if c then 32 else (if d then 160 else b)) ≡ false
    by true e d g = refl
    by false e true g = refl
    by false e false g = other b e

pub none_tamed : (before : ℕ) (bs : List ℕ) → count_by is_feed (tamed_behind before bs) ≡ 0
unfolding tamed_behind
none_tamed before [] = refl
none_tamed before (b ∷ bs) =
    let rest = none_tamed b bs in
    sum_by-cons (λ x. cond (is_feed x) 1 0) (tame_byte before b) (tamed_behind b bs)
    ∙ ap (λ (t : Bool). cond {A = ℕ} t 1 0 + count_by is_feed (tamed_behind b bs)) (no_feed before b) ∙ omega arith

line_counted : (f : Finding) → count_by is_feed (short_line f) ≡ 1
unfolding short_line
line_counted f = count_joined is_feed (tamed (short_words f)) (10 ∷ []) ∙ ap (λ (n : ℕ). n + 1) (none_tamed 0 (short_words f))

pub lines_counted : EachHasALine
lines_counted [] = refl
lines_counted (f ∷ fs) =
    let rest = lines_counted fs in
    count_joined is_feed (short_line f) (flat_map short_line fs)
    ∙ ap (λ (n : ℕ). n + count_by is_feed (flat_map short_line fs)) (line_counted f) ∙ omega arith
