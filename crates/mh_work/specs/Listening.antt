-- Links as the index knows them.
use Rattle.std.specs.Prelude.{◌≡◌, ℕ, ◌%◌, Bool, ◌&&◌, ◌==◌, if◌then◌else◌, List, [], ◌∷◌, length, slice_index_or}
use Rattle.std.specs.List.{flat_map}
use Rattle.std.specs.Int.{bit_at}
use Rattle.mh_work.specs.declared.bucket.Listener.{Listener}

-- whether it waits for events of type t from an object of number n
abbrev pub hears_for : ℕ → ℕ → Listener → Bool
hears_for n t l = l.source == n && l.kind == t

-- its place, if it does
abbrev pub place_in : ℕ → ℕ → Listener → List ℕ
place_in n t l = if hears_for n t l then l.place ∷ [] else []

-- the places of those that do
abbrev pub waiting_in : ℕ → ℕ → List Listener → List ℕ
waiting_in n t ls = flat_map (place_in n t) ls

-- the bit of each type that is waited for is set
unfoldable pub AreMarked : ℕ → List Listener → Type 0
AreMarked types [] = Unit {0}
AreMarked types (l ∷ ls) = (bit_at types (l.kind % 32) ≡ 1) × AreMarked types ls

-- an index: some buckets
abbrev pub Index : Type 0
Index = List (List Listener)

-- the bucket for a number
abbrev pub bucket_for : ℕ → Index → List Listener
bucket_for n buckets = slice_index_or buckets (n % length buckets) []

-- the places that an index holds for a number and a type
abbrev pub waiting : ℕ → ℕ → Index → List ℕ
waiting n t buckets = waiting_in n t (bucket_for n buckets)
