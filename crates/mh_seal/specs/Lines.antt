-- What the readers of lines answer: what stands there, or that nothing of the kind does.
use Rattle.std.specs.Prelude.{◌≡◌, ℕ, ◌==◌, Bool, true, not, List, ◌∷◌, ◌++◌, length, take, Option, Some, None}
use Rattle.std.specs.List.{list_all}
use Rattle.std.specs.Str.{bytes_eq}
use Rattle.mh_seal.specs.declared.seal_error.SealError.{SealError}
use Rattle.mh_seal.specs.declared.seal_error.SealError.TheVariants as error
use Rattle.mh_seal.specs.Text.{line, lines}

-- no line feed is among them
abbrev pub is_plain : List ℕ → Bool
is_plain bytes = list_all (λ b. not (b == 10)) bytes

abbrev pub begins : List ℕ → List ℕ → Bool
begins front bytes = bytes_eq (take (length front) bytes) front

-- the bytes begin with a line that says this behind the word, and the rest stands behind it; or with no line of this word
abbrev pub IsLine : List ℕ → List ℕ → Option (List ℕ × List ℕ) → Type 0
IsLine word bytes (Some r) = (bytes ≡ line word r.0 ++ r.1) × (is_plain r.0 ≡ true)
IsLine word bytes None = is_plain word ≡ true → (value rest : List ℕ) → is_plain value ≡ true → bytes ≡ line word value ++ rest → ⊥

-- Of values that are good, as they are spelled

-- the bytes spell this, or nothing that is good
abbrev pub IsValue : {V : Type 0} → (V → Bool) → (V → List ℕ) → List ℕ → Option V → Type 0
IsValue good spelling bytes (Some x) = (good x ≡ true) × (bytes ≡ spelling x)
IsValue {V} good spelling bytes None = (x : V) → good x ≡ true → bytes ≡ spelling x → ⊥

-- so many bytes, a space, and what stands behind it
abbrev pub IsParted : ℕ → List ℕ → Option (List ℕ × List ℕ) → Type 0
IsParted n bytes (Some r) = (bytes ≡ r.0 ++ 32 ∷ r.1) × (length r.0 ≡ n)
IsParted n bytes None = (front back : List ℕ) → length front ≡ n → bytes ≡ front ++ 32 ∷ back → ⊥

-- the bytes begin with a line of this word that says this
abbrev pub HasLine : {V : Type 0} → (V → Bool) → (V → List ℕ) → List ℕ → List ℕ → V → List ℕ → Type 0
HasLine good spelling word bytes x rest = (good x ≡ true) × (bytes ≡ line word (spelling x) ++ rest)

-- the bytes begin with no line of this word that says something good
abbrev pub HasNoLine : {V : Type 0} → (V → Bool) → (V → List ℕ) → List ℕ → List ℕ → Type 0
HasNoLine {V} good spelling word bytes =
    is_plain word ≡ true → (x : V) (rest : List ℕ) → good x ≡ true → is_plain (spelling x) ≡ true →
    bytes ≡ line word (spelling x) ++ rest → ⊥

abbrev pub IsLineValue : {V : Type 0} → (V → Bool) → (V → List ℕ) → List ℕ → List ℕ → Option (V × List ℕ) → Type 0
IsLineValue good spelling word bytes (Some x) = HasLine good spelling word bytes x.0 x.1
IsLineValue good spelling word bytes None = HasNoLine good spelling word bytes

-- the bytes begin with just these lines of this word, and the rest behind them with none
abbrev pub AreLines : {V : Type 0} → (V → Bool) → (V → List ℕ) → List ℕ → List ℕ → List V → List ℕ → Type 0
AreLines good spelling word bytes xs rest =
    (list_all good xs ≡ true) × (bytes ≡ lines word spelling xs ++ rest) × HasNoLine good spelling word rest

-- the line of this number is told, which is no line of this word that says something good; or memory was refused
abbrev pub IsMissing : {V : Type 0} → (V → Bool) → (V → List ℕ) → List ℕ → ℕ → List ℕ → SealError → Type 0
IsMissing good spelling word number bytes (error.Line n) = (n ≡ number) × HasNoLine good spelling word bytes
IsMissing good spelling word number bytes error.Version = ⊥
IsMissing good spelling word number bytes error.NoMemory = Unit {0}
