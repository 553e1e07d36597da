-- Cells of a row, as bits of a number.
use Rattle.std.specs.Prelude.{◌≡◌, ℕ, ◌+◌, ◌*◌, ◌<◌, ◌≤◌, false}
use Rattle.std.specs.Int.{bit_at}
use Rattle.mh_display.specs.Painting.{marked_at}
use Rattle.mh_display.specs.Surface.{Surface}

-- the bits are those from the first up to the last
pub record IsStretch (bits first last : ℕ) : Type 0 where
  pub inside : (k : ℕ) → first ≤ k → k < last → bit_at bits k ≡ 1
  pub below : (k : ℕ) → k < first → bit_at bits k ≡ 0
  pub above : (k : ℕ) → last ≤ k → bit_at bits k ≡ 0

-- the bits are those of the stale cells of a row, from the first up to the last
pub record AreStale (s : Surface) (row first last bits : ℕ) : Type 0 where
  pub own : (k : ℕ) → bit_at bits k ≡ 1 → (first ≤ k) × (k < last)
  pub rest : (k : ℕ) → first ≤ k → k < last → bit_at bits k ≡ 0 → (marked_at s (60 * row + k)).stale ≡ false

-- the cells of a row from the first up to the last are changed, but for those that these bits leave
pub record IsLeft {X : Type 0} (h : ℕ → X → X) (old new : ℕ → X) (row first last bits : ℕ) : Type 0 where
  pub done : (k : ℕ) → first ≤ k → k < last → bit_at bits k ≡ 0 → new (60 * row + k) ≡ h (60 * row + k) (old (60 * row + k))
  pub waits : (k : ℕ) → bit_at bits k ≡ 1 → (first ≤ k) × (k < last) × (new (60 * row + k) ≡ old (60 * row + k))
  pub before : (c : ℕ) → c < 60 * row + first → new c ≡ old c
  pub behind : (c : ℕ) → 60 * row + last ≤ c → new c ≡ old c
