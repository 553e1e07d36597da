-- Where a text breaks off: the first line with which the text of nothing good goes on.
use Rattle.std.specs.Prelude.{◌≡◌, ℕ, ◌+◌, Bool, true, List, [], ◌∷◌, ◌++◌, length}
use Rattle.std.specs.List.{flat_map, list_all}
use Rattle.mh_seal.specs.declared.seal_error.SealError.{SealError}
use Rattle.mh_seal.specs.declared.seal_error.SealError.TheVariants as error
use Rattle.mh_seal.specs.Lines.{is_plain}

-- lines, each with its line feed
abbrev pub joined : List (List ℕ) → List ℕ
joined ls = flat_map (λ l. l ++ 10 ∷ []) ls

-- the text of something good begins so
abbrev pub Begins : {X : Type 0} → (X → Bool) → (X → List ℕ) → List ℕ → Type 0
Begins {X} good text front = (x : X) × (more : List ℕ) × (good x ≡ true) × (text x ≡ front ++ more)

-- The bytes are the text of nothing good: so many lines begin one, and with the next line, if a line feed ends it, they begin none.
pub record BreaksOff {X : Type 0} (good : X → Bool) (text : X → List ℕ) (bytes : List ℕ) (n : ℕ) : Type 0 where
  pub before : List (List ℕ)
  pub behind : List ℕ
  pub parted : bytes ≡ joined before ++ behind
  pub are_lines : list_all is_plain before ≡ true
  pub count : length before ≡ n
  pub begun : Begins good text (joined before)
  pub wrong : (l rest : List ℕ) → is_plain l ≡ true → behind ≡ l ++ 10 ∷ rest → Begins good text (joined before ++ (l ++ 10 ∷ [])) → ⊥
  pub none : (x : X) → good x ≡ true → bytes ≡ text x → ⊥

-- the line is told at which bytes break off whose first line has this number; or memory was refused
abbrev pub IsBreak : {X : Type 0} → (X → Bool) → (X → List ℕ) → ℕ → List ℕ → SealError → Type 0
IsBreak good text first bytes (error.Line m) = (n : ℕ) × (m ≡ first + n) × BreaksOff good text bytes n
IsBreak good text first bytes error.Version = ⊥
IsBreak good text first bytes error.NoMemory = Unit {0}
