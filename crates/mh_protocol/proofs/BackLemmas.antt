-- A place leads back to where it was counted.
use Rattle.std.specs.Prelude.{◌≡◌, ◌≢◌, ℕ, zero, suc, ◌+◌, ◌-◌, ◌==◌, nat_lt, Bool, true, false, ◌&&◌, ◌||◌, not, if◌then◌else◌, List, [], ◌∷◌, drop, refl}
use Rattle.std.proofs.Common.{ap, inl, inr, ◌∙◌, sym, arith}
use Rattle.std.proofs.lemmas.Bool.Decides.{eqb_tells, nat_tests}
use Rattle.mh_protocol.specs.declared.position.Unit.{Unit}
use Rattle.mh_protocol.specs.declared.position.Position.{Position}
use Rattle.mh_protocol.specs.Positions.{begins_with_feed, ends_line, further, is_boundary, is_end, is_split, line_start, offset_in, position_in, reach, units, PlacesLeadBack}
use Rattle.mh_protocol.proofs.PositionLemmas.{line_start_stops, position_more}

and_first : (x y : Bool) → (x && y) ≡ true → x ≡ true
and_first true y is = refl
and_first false y is = absurd cc

and_second : (x y : Bool) → (x && y) ≡ true → y ≡ true
and_second true y is = is
and_second false y is = absurd cc

-- IN ANOTHER LINE

plus : (s r : ℕ) → s + 1 + r ≡ s + r + 1
plus s r = omega arith

shift : (e : Unit) (s c b : ℕ) (bs : List ℕ) → s + 1 + reach e c (drop (s + 1) (b ∷ bs)) ≡ s + reach e c (drop s bs) + 1
shift e s c b bs =
    let one : s + 1 ≡ suc s = omega arith in
    ap (λ (k : ℕ). s + 1 + reach e c (drop k (b ∷ bs))) one ∙ plus s (reach e c (drop s bs))

far : (e : Unit) (l m c b : ℕ) (bs : List ℕ) → l ≢ 0 → (if ends_line b bs then l - 1 else l) ≡ m
    → offset_in e (record { line = l; character = c }) (b ∷ bs) ≡ offset_in e (record { line = m; character = c }) bs + 1
far e l m c b bs some is =
    let first : line_start l (b ∷ bs) ≡ line_start m bs + 1 = elim (eqb_tells l 0) [
      | inl h ↦ absurd (some h.1)
      | inr h ↦ ap (λ (t : Bool). if t then 0 else line_start (if ends_line b bs then l - 1 else l) bs + 1) h.0 ∙ ap (λ (k : ℕ). line_start k bs + 1) is
    ] in
    ap (λ (s : ℕ). s + reach e c (drop s (b ∷ bs))) first ∙ shift e (line_start m bs) c b bs

-- IN THE FIRST LINE

below : (n c : ℕ) → nat_lt (n + c) n ≡ false
below n c = grind (arith, nat_tests)

near_in : (e : Unit) (n c b : ℕ) (bs : List ℕ) (t : Bool) → t ≡ false → (if t || nat_lt (n + c) n then 0 else reach e (n + c - n) bs + 1) ≡ reach e c bs + 1
near_in e n c b bs true is = absurd cc
near_in e n c b bs false is =
    let left : n + c - n ≡ c = omega arith in
    ap (λ (t : Bool). if t then 0 else reach e (n + c - n) bs + 1) (below n c) ∙ ap (λ (k : ℕ). reach e k bs + 1) left

in_first : (e : Unit) (c : ℕ) (bs : List ℕ) → offset_in e (record { line = 0; character = c }) bs ≡ reach e c bs
in_first e c bs = ap (λ (s : ℕ). s + reach e c (drop s bs)) (line_start_stops 0 bs refl) ∙ none (reach e c bs)
  where
    none : (r : ℕ) → 0 + r ≡ r
    none r = omega arith

near : (e : Unit) (c b : ℕ) (bs : List ℕ) → is_end b ≡ false
    → offset_in e (record { line = 0; character = units e b + c }) (b ∷ bs) ≡ offset_in e (record { line = 0; character = c }) bs + 1
near e c b bs is =
    in_first e (units e b + c) (b ∷ bs) ∙ near_in e (units e b) c b bs (is_end b) is ∙ ap (λ (r : ℕ). r + 1) (sym (in_first e c bs))

-- A BYTE FURTHER

abbrev first_place : ℕ → Position
first_place c = record { line = 0; character = c }

one_more : (e : Unit) (b : ℕ) (bs : List ℕ) (q : Position) (t : Bool) → ends_line b bs ≡ t → (t ≡ false → q.line ≡ 0 → is_end b ≡ false)
    → offset_in e (further t (units e b) q) (b ∷ bs) ≡ offset_in e q bs + 1
one_more e b bs q true ends plain =
    let back : q.line + 1 - 1 ≡ q.line = omega arith in
    let some : q.line + 1 ≢ 0 = λ none. omega (arith, none) in
    far e (q.line + 1) q.line q.character b bs some (ap (λ (t : Bool). if t then q.line + 1 - 1 else q.line + 1) ends ∙ back)
one_more e b bs q false ends plain = elim (eqb_tells q.line 0) [
  | inl h ↦
      ap (λ (t : Bool). offset_in e (if t then first_place (units e b + q.character) else q) (b ∷ bs)) h.0
      ∙ near e q.character b bs (plain refl h.1)
      ∙ ap (λ (l : ℕ). offset_in e (record { line = l; character = q.character }) bs + 1) (sym h.1)
  | inr h ↦
      ap (λ (t : Bool). offset_in e (if t then first_place (units e b + q.character) else q) (b ∷ bs)) h.0
      ∙ far e q.line q.line q.character b bs h.1 (ap (λ (t : Bool). if t then q.line - 1 else q.line) ends)
]

-- NO LINE ENDS THERE

not_end : (x y f : Bool) → (x || y && not f) ≡ false → (y ≡ true → f ≡ true → ⊥) → (x || y) ≡ false
not_end true y f ends never = absurd cc
not_end false true true ends never = absurd (never refl refl)
not_end false true false ends never = absurd cc
not_end false false f ends never = refl

both_not : (y f : Bool) → y ≡ true → f ≡ true → not (y && f) ≡ true → ⊥
both_not true true is also never = cc
both_not true false is also never = cc
both_not false f is also never = cc

line_above : (e : Unit) (n c : ℕ) (bs : List ℕ) (t : Bool) → ends_line c bs ≡ t → t ≡ true → (position_in e (suc n) (c ∷ bs)).line ≡ 0 → ⊥
line_above e n c bs t ends is none =
    let some : suc n ≢ 0 = λ never. omega (arith, never) in
    let here : (position_in e (suc n) (c ∷ bs)).line ≡ (position_in e (suc n - 1) bs).line + 1 =
    ap (λ (p : Position). p.line) (position_more e (suc n) c bs some ∙ ap (λ (t : Bool). further t (units e c) (position_in e (suc n - 1) bs)) (ends ∙ is)) in
    omega (arith, here, none)

first_true : (x y : Bool) → x ≡ true → (x || y) ≡ true
first_true true y is = refl
first_true false y is = absurd cc

split : (e : Unit) (n b : ℕ) (bs : List ℕ) → not (is_split n b bs) ≡ true → (position_in e n bs).line ≡ 0 → (b == 13) ≡ true → begins_with_feed bs ≡ true → ⊥
split e zero b bs whole none is feed = both_not (b == 13) (begins_with_feed bs) is feed whole
split e (suc n) b [] whole none is feed = cc
split e (suc n) b (c ∷ bs) whole none is feed =
    line_above e n c bs true (first_true (c == 10) (c == 13 && not (begins_with_feed bs)) feed) refl none

-- ALL

first_starts : (x y : Bool) (k : ℕ) → y ≡ true → (if x || y then 0 else k) ≡ 0
first_starts true y k is = refl
first_starts false true k is = refl
first_starts false false k is = absurd cc

pub lead_back : PlacesLeadBack
lead_back e zero [] begins = refl
lead_back e zero (b ∷ bs) begins = in_first e 0 (b ∷ bs) ∙ first_starts (is_end b) (nat_lt 0 (units e b)) (reach e (0 - units e b) bs + 1) begins
lead_back e (suc n) [] begins = absurd cc
lead_back e (suc n) (b ∷ bs) begins =
    let some : suc n ≢ 0 = λ never. omega (arith, never) in
    let one : suc n - 1 ≡ n = omega arith in
    let whole : not (is_split n b bs) ≡ true = and_second (is_boundary e n bs) (not (is_split n b bs)) begins in
    let up : n + 1 ≡ suc n = omega arith in
    let further_there : position_in e (suc n) (b ∷ bs) ≡ further (ends_line b bs) (units e b) (position_in e n bs) =
    position_more e (suc n) b bs some ∙ ap (λ (k : ℕ). further (ends_line b bs) (units e b) (position_in e k bs)) one in
    ap (λ (p : Position). offset_in e p (b ∷ bs)) further_there
    ∙ one_more e b bs (position_in e n bs) (ends_line b bs) refl
    (λ ends none. not_end (b == 10) (b == 13) (begins_with_feed bs) ends (λ is feed. split e n b bs whole none is feed))
    ∙ ap (λ (k : ℕ). k + 1) (lead_back e n bs (and_first (is_boundary e n bs) (not (is_split n b bs)) begins))
    ∙ up
