-- Readings, in whatever notation: a value, or the first refusal with its offset; and what it means that a
-- function answers what a reading says.
use Rattle.std.specs.Prelude.{◌≡◌, ℕ, Bool, true, false, not, List, Option, Some, None, Result, Ok, Err}

-- the bytes that are left, and how many stand before them
pub record Rest : Type 0 where
  pub offset : ℕ
  pub bytes : List ℕ

-- a whole source is left
abbrev pub whole : List ℕ → Rest
whole bytes = record { offset = 0; bytes = bytes }

-- why a source is refused, and where
pub record Refusal (W : Type 0) : Type 0 where
  pub why : W
  pub offset : ℕ

abbrev pub refused : {A W : Type 0} → W → ℕ → Result A (Refusal W)
refused w o = Err (record { why = w; offset = o })

-- a reading that goes on with what was read; a refusal stays
infixl 10 ◌>>=◌
abbrev pub ◌>>=◌ : {A B E : Type 0} → Result A E → (A → Result B E) → Result B E
(Ok x) >>= f = f x
(Err e) >>= f = Err e

-- two tests come out alike
abbrev pub is_same : Bool → Bool → Bool
is_same true b = b
is_same false b = not b

-- the reading is refused so; an error that tells nothing of the reading, as that of memory, is no refusal
abbrev pub Fails : {Y E : Type 0} → Option E → Result Y E → Type 0
Fails None read = Unit {0}
Fails (Some e) read = read ≡ Err e

-- What a function returned, seen by view, is what the reading gives. What an error tells of the reading is
-- said by told.
abbrev pub Gives : {X Y D E : Type 0} → (D → Option E) → (X → Y) → Result X D → Result Y E → Type 0
Gives told view (Ok x) read = read ≡ Ok (view x)
Gives told view (Err d) read = Fails (told d) read
