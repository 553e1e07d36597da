-- Rows of bits and of numbers.
use Rattle.std.specs.Prelude.{◌≡◌, ◌≢◌, ◌⊎◌, ℕ, zero, suc, ◌+◌, ◌*◌, ◌/◌, ◌%◌, ◌<◌, ◌≤◌, ◌==◌, ◌&&◌, ◌||◌, nat_eq, if◌then◌else◌, Bool, true, false, List, [], ◌∷◌, ◌++◌, length, map, replicate, Vec}
use Rattle.std.specs.declared.alloc.Global.{Global}
use Rattle.std.specs.List.{Contains, slice_index}
use Rattle.std.specs.Int.{bit_at}

abbrev pub number_rows : List (Vec ℕ Global) → List (List ℕ)
number_rows rows = map (λ r. r.items) rows

abbrev pub row : {X : Type 0} → List (List X) → ℕ → List X
row [] u = []
row (r ∷ rs) zero = r
row (r ∷ rs) (suc u) = row rs u

abbrev pub width_at : List (List Bool) → ℕ → ℕ
width_at rows u = length (row rows u)

abbrev pub is_at : List Bool → ℕ → Bool
is_at [] q = false
is_at (b ∷ bs) zero = b
is_at (b ∷ bs) (suc q) = is_at bs q

abbrev pub has : List (List Bool) → ℕ → ℕ → Bool
has rows u q = is_at (row rows u) q

-- whether a bit is set in words of 64 bits
abbrev pub is_bit : List ℕ → ℕ → Bool
is_bit ws q = bit_at (slice_index ws (q / 64)) (q % 64) == 1

-- so many bits, from this one on
abbrev pub bits_from : List ℕ → ℕ → ℕ → List Bool
bits_from ws i zero = []
bits_from ws i (suc n) = is_bit ws i ∷ bits_from ws (suc i) n

-- the word at a place of a row; behind the end no bit is set
abbrev pub IsWord : List Bool → ℕ → ℕ → Type 0
IsWord bs at w = (k : ℕ) → k < 64 → is_at bs (64 * at + k) ≡ (bit_at w k == 1)

-- whether a bit of a row is one of those that are set in a word at this place
abbrev pub in_word : ℕ → ℕ → ℕ → Bool
in_word at bits q = nat_eq (q / 64) at && (bit_at bits (q % 64) == 1)

-- the bits of the word are set, and no other is changed
abbrev pub HasPut : ℕ → ℕ → List Bool → List Bool → Type 0
HasPut at bits old new = (length new ≡ length old) × ((q : ℕ) → is_at new q ≡ (is_at old q || in_word at bits q))

-- the places of the bits that are set, counted from this number up
abbrev pub places_from : ℕ → List Bool → List ℕ
places_from n [] = []
places_from n (b ∷ bs) = if b then n ∷ places_from (suc n) bs else places_from (suc n) bs

-- how many bits are not set in a row of such a width. A row that is not laid out yet has none that is.
abbrev pub unset : ℕ → List Bool → ℕ
unset w [] = w
unset zero (b ∷ bs) = 0
unset (suc w) (true ∷ bs) = unset w bs
unset (suc w) (false ∷ bs) = suc (unset w bs)

abbrev pub free : ℕ → List (List Bool) → ℕ
free w [] = 0
free w (r ∷ rs) = unset w r + free w rs

-- an empty row laid out, or the row
abbrev pub laid : ℕ → List Bool → List Bool
laid w [] = replicate w false
laid w (b ∷ bs) = b ∷ bs

-- the rows are as they were, and this one is laid out
pub record LaidOut (w u : ℕ) (old new : List (List Bool)) : Type 0 where
  pub laid : width_at new u ≡ w
  pub height : length new ≡ length old
  pub width : (x : ℕ) → (width_at new x ≡ width_at old x) ⊎ ((x ≡ u) × (width_at new x ≡ w))
  pub same : (x y : ℕ) → has new x y ≡ has old x y
  pub rest : free w new ≡ free w old

-- the bits of a word of this row are set, and no other is changed
pub record WordPut (u at bits : ℕ) (old new : List (List Bool)) : Type 0 where
  pub set : (x y : ℕ) → has new x y ≡ (has old x y || (nat_eq x u && in_word at bits y))
  pub height : length new ≡ length old
  pub width : (x : ℕ) → width_at new x ≡ width_at old x
  pub less : (w k : ℕ) → width_at old u ≡ w → k < 64 → bit_at bits k ≡ 1 → has old u (64 * at + k) ≡ false → suc (free w new) ≤ free w old

-- this row is empty, and no other is changed
pub record Emptied (u : ℕ) (old new : List (List Bool)) : Type 0 where
  pub height : length new ≡ length old
  pub empty : row new u ≡ []
  pub others : (x : ℕ) → x ≢ u → row new x ≡ row old x

-- the rows are as they were, but for what stands behind their ends
abbrev pub AreLonger : List (List ℕ) → List (List ℕ) → Type 0
AreLonger old new = (x : ℕ) → (more : List ℕ) × (row new x ≡ row old x ++ more)

-- this number is there, and no other is changed
pub record Pushed (u n : ℕ) (old new : List (List ℕ)) : Type 0 where
  pub put : Contains (row new u) n
  pub longer : AreLonger old new
  pub only : (x y : ℕ) → Contains (row new x) y → Contains (row old x) y ⊎ ((x ≡ u) × (y ≡ n))
  pub height : length new ≡ length old
