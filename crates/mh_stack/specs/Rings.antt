-- Numbers in an order, as links in both directions, with 0 below the first and above the last.
use Rattle.std.specs.Prelude.{◌≡◌, ◌≢◌, ℕ, zero, suc, ◌<◌, nat_eq, not, if◌then◌else◌, List, [], ◌∷◌, filter, get_or, length}

-- the number to which a number leads; one that has no link leads to itself
abbrev pub next : List ℕ → ℕ → ℕ
next links x = get_or links x x

-- so many numbers, each that to which the one before it leads
abbrev pub walk : (ℕ → ℕ) → ℕ → ℕ → List ℕ
walk f zero x = []
walk f (suc n) x = f x ∷ walk f n (f x)

-- it is none of them
abbrev pub IsApart : ℕ → List ℕ → Type 0
IsApart k [] = Unit {0}
IsApart k (y ∷ ys) = (y ≢ k) × IsApart k ys

-- each is a number below n, and none is 0
abbrev pub AreIn : ℕ → List ℕ → Type 0
AreIn n [] = Unit {0}
AreIn n (y ∷ ys) = (y ≢ 0) × (y < n) × AreIn n ys

-- these come behind a number, one behind another, each once, and then 0
abbrev pub IsLine : (ℕ → ℕ) → ℕ → List ℕ → Type 0
IsLine f x [] = f x ≡ 0
IsLine f x (y ∷ ys) = (f x ≡ y) × (y ≢ 0) × IsApart y ys × IsLine f y ys

-- the links up and down belong together, so many numbers are in the order, and all others lead to themselves
pub record IsRing (f g : ℕ → ℕ) (count : ℕ) : Type 0 where
  pub back : (x : ℕ) → g (f x) ≡ x
  pub forth : (x : ℕ) → f (g x) ≡ x
  pub line : IsLine f 0 (walk f count 0)
  pub alone : (x : ℕ) → x ≢ 0 → IsApart x (walk f count 0) → f x ≡ x

-- what a contract sees: the links up and down, how many numbers are in the order, and for how many more links there is room
pub record Round : Type 0 where
  pub above : List ℕ
  pub below : List ℕ
  pub count : ℕ
  pub room : ℕ

-- what is known of it
abbrev pub IsRound : Round → Type 0
IsRound r = (length r.below ≡ length r.above) × IsRing (next r.above) (next r.below) r.count

-- the numbers in their order, the lowest first
abbrev pub order : Round → List ℕ
order r = walk (next r.above) r.count 0

-- Changes of an order.

abbrev pub without_number : ℕ → List ℕ → List ℕ
without_number k ys = filter (λ y. not (nat_eq k y)) ys

-- k just below b, or on top where b is not there
abbrev pub put_below : ℕ → ℕ → List ℕ → List ℕ
put_below k b [] = k ∷ []
put_below k b (y ∷ ys) = if nat_eq b y then k ∷ y ∷ ys else y ∷ put_below k b ys

abbrev pub put_above : ℕ → ℕ → List ℕ → List ℕ
put_above k b [] = k ∷ []
put_above k b (y ∷ ys) = if nat_eq b y then y ∷ k ∷ ys else y ∷ put_above k b ys
