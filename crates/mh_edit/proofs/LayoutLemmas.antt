-- The changes of a text, a line further.
use Rattle.std.specs.Prelude.{◌≡◌, ◌≢◌, ℕ, zero, suc, ◌+◌, ◌-◌, ◌<◌, ◌≤◌, ◌==◌, true, false, List, [], ◌∷◌, ◌++◌, drop, length, refl}
use Rattle.std.specs.List.{prefix_len}
use Rattle.std.proofs.Common.{ap, ◌∙◌, sym, arith, append_assoc}
use Rattle.std.proofs.lemmas.Bool.Decides.{nat_tests}
use Rattle.std.proofs.lemmas.List.Sums.{prefix_len-le-length}
use Rattle.mh_edit.specs.declared.layout.Change.{Change}
use Rattle.mh_edit.specs.declared.word.Word.{Word}
use Rattle.mh_edit.specs.Layout.{capped, change_at, changes_from, depth_at, is_blank, is_no_feed, next_behind}

pub within : (bs : List ℕ) → prefix_len is_no_feed bs ≤ length bs
within bs = prefix_len-le-length is_no_feed bs

not_zero : (n : ℕ) → 0 < n → (n == 0) ≡ false
not_zero n some = grind (arith, nat_tests)

pub none_left : (bs : List ℕ) → (length bs == 0) ≡ true → bs ≡ []
none_left [] is = refl
none_left (b ∷ bs) is =
    let clash : true ≡ false = sym is ∙ not_zero (length (b ∷ bs)) (omega arith) in
    absurd (cc clash)

pub some_left : (bs : List ℕ) → (length bs == 0) ≡ false → bs ≢ []
some_left [] is none = absurd cc
some_left (b ∷ bs) is none = absurd cc

pub ended : (n start kept : ℕ) (next : ℕ × List Word) (bs : List ℕ) → bs ≡ [] → changes_from n start kept next bs ≡ []
ended zero start kept next bs none = refl
ended (suc n) start kept next bs none = ap (changes_from (suc n) start kept next) none

more_changes : (n start kept : ℕ) (next : ℕ × List Word) (bs : List ℕ) → n ≢ 0 → bs ≢ [] → changes_from n start kept next bs
    ≡ change_at bs kept (depth_at (capped (start + prefix_len is_no_feed bs)) next.0 next.1)
    ∷ changes_from (n - 1) (capped (capped (start + prefix_len is_no_feed bs) + 1)) (prefix_len is_no_feed bs - prefix_len is_blank bs + 1)
    (next_behind (capped (start + prefix_len is_no_feed bs)) next.0 next.1) (drop (prefix_len is_no_feed bs + 1) bs)
more_changes zero start kept next bs some there = absurd (some refl)
more_changes (suc n) start kept next [] some there = absurd (there refl)
more_changes (suc n) start kept next (b ∷ bs) some there =
    let one : n ≡ suc n - 1 = omega arith in
    ap (λ (k : ℕ). change_at (b ∷ bs) kept (depth_at (capped (start + prefix_len is_no_feed (b ∷ bs))) next.0 next.1)
    ∷ changes_from k (capped (capped (start + prefix_len is_no_feed (b ∷ bs)) + 1)) (prefix_len is_no_feed (b ∷ bs) - prefix_len is_blank (b ∷ bs) + 1)
    (next_behind (capped (start + prefix_len is_no_feed (b ∷ bs))) next.0 next.1) (drop (prefix_len is_no_feed (b ∷ bs) + 1) (b ∷ bs))) one

pub line_further : (n i start kept : ℕ) (next after : ℕ × List Word) (bs rest : List ℕ) (found now : List Change) (c : Change) (begins behind : ℕ)
    → i < n → bs ≢ [] → c ≡ change_at bs kept (depth_at (capped (start + prefix_len is_no_feed bs)) next.0 next.1)
    → after ≡ next_behind (capped (start + prefix_len is_no_feed bs)) next.0 next.1 → rest ≡ drop (prefix_len is_no_feed bs + 1) bs
    → begins ≡ capped (capped (start + prefix_len is_no_feed bs) + 1) → behind ≡ prefix_len is_no_feed bs - prefix_len is_blank bs + 1
    → now ≡ found ++ c ∷ []
    → now ++ changes_from (n - (i + 1)) begins behind after rest ≡ found ++ changes_from (n - i) start kept next bs
line_further n i start kept next after bs rest found now c begins behind within some is next_is there first second put =
    let left : n - i ≢ 0 = λ none. omega (arith, within, none) in
    let one : n - (i + 1) ≡ n - i - 1 = omega arith in
    ap (λ (cs : List Change). cs ++ changes_from (n - (i + 1)) begins behind after rest) put
    ∙ append_assoc found (c ∷ []) (changes_from (n - (i + 1)) begins behind after rest)
    ∙ ap (λ (x : Change). found ++ x ∷ changes_from (n - (i + 1)) begins behind after rest) is
    ∙ ap (λ (k : ℕ). found ++ change_at bs kept (depth_at (capped (start + prefix_len is_no_feed bs)) next.0 next.1) ∷ changes_from k begins behind after rest) one
    ∙ ap (λ (x : ℕ). found ++ change_at bs kept (depth_at (capped (start + prefix_len is_no_feed bs)) next.0 next.1) ∷ changes_from (n - i - 1) x behind after rest) first
    ∙ ap (λ (x : ℕ). found ++ change_at bs kept (depth_at (capped (start + prefix_len is_no_feed bs)) next.0 next.1)
    ∷ changes_from (n - i - 1) (capped (capped (start + prefix_len is_no_feed bs) + 1)) x after rest) second
    ∙ ap (λ (x : ℕ × List Word). found ++ change_at bs kept (depth_at (capped (start + prefix_len is_no_feed bs)) next.0 next.1)
    ∷ changes_from (n - i - 1) (capped (capped (start + prefix_len is_no_feed bs) + 1)) (prefix_len is_no_feed bs - prefix_len is_blank bs + 1) x rest) next_is
    ∙ ap (λ (x : List ℕ). found ++ change_at bs kept (depth_at (capped (start + prefix_len is_no_feed bs)) next.0 next.1)
    ∷ changes_from (n - i - 1) (capped (capped (start + prefix_len is_no_feed bs) + 1)) (prefix_len is_no_feed bs - prefix_len is_blank bs + 1)
    (next_behind (capped (start + prefix_len is_no_feed bs)) next.0 next.1) x) there
    ∙ ap (λ (cs : List Change). found ++ cs) (sym (more_changes (n - i) start kept next bs left some))
