-- The members of sets while the search goes on: what is known, and what of it is fresh.
use Rattle.std.specs.Prelude.{◌≡◌, ◌≢◌, ◌⊎◌, ℕ, suc, ◌+◌, ◌*◌, ◌/◌, ◌^◌, ◌<◌, ◌≤◌, ◌==◌, ◌&&◌, ◌||◌, not, Bool, true, false, List, [], length, replicate}
use Rattle.std.specs.Int.{bit_at}
use Rattle.std.specs.List.{Contains}
use Rattle.mh_flow.specs.declared.fixpoint.members.Members.{Members}
use Rattle.mh_flow.specs.Rows.{row, width_at, has, free}

-- how many words a row has that is laid out; what is known of each set, and what of it is fresh; the sets that wait
pub record MemberRows : Type 0 where
  pub words : ℕ
  pub known : List (List Bool)
  pub fresh : List (List Bool)
  pub waiting : List ℕ

abbrev pub rows_of : Members → MemberRows
rows_of m = record { words = m.words; known = m.known.items; fresh = m.fresh.items; waiting = m.waiting.items }

-- so many words have room for members below this number
abbrev pub words_of : ℕ → ℕ
words_of width = (width + 63) / 64

-- so many sets without members
abbrev pub nothing : ℕ → ℕ → MemberRows
nothing nodes words = record { words = words; known = replicate nodes []; fresh = replicate nodes []; waiting = [] }

-- what is fresh is known, and a set of which something is fresh waits
pub record AreMembers (m : MemberRows) : Type 0 where
  pub small : 64 * m.words ≤ 2 ^ 64
  pub height : length m.fresh ≡ length m.known
  pub known_width : (u : ℕ) → (width_at m.known u ≡ 0) ⊎ (width_at m.known u ≡ 64 * m.words)
  pub fresh_width : (u : ℕ) → (width_at m.fresh u ≡ 0) ⊎ (width_at m.fresh u ≡ 64 * m.words)
  pub known : (u q : ℕ) → has m.fresh u q ≡ true → has m.known u q ≡ true
  pub waits : (u : ℕ) → (width_at m.fresh u ≡ 0) ⊎ Contains m.waiting u
  pub within : (u : ℕ) → Contains m.waiting u → u < length m.known

-- how much can still come: a bit that is not set is one to set, and a set that waits is one to follow
abbrev pub left : MemberRows → ℕ
left m = free (64 * m.words) m.known + length m.waiting

-- these are put in, and nothing else: those that are new are fresh
pub record IsPut (old new : MemberRows) (come : ℕ → ℕ → Bool) : Type 0 where
  pub words : new.words ≡ old.words
  pub height : length new.known ≡ length old.known
  pub known : (u q : ℕ) → has new.known u q ≡ (has old.known u q || come u q)
  pub fresh : (u q : ℕ) → has new.fresh u q ≡ (has old.fresh u q || (come u q && not (has old.known u q)))
  pub less : left new ≤ left old

-- the rows of this set are laid out, it waits, and nothing else is changed
pub record IsReady (u : ℕ) (old new : MemberRows) : Type 0 where
  pub members : AreMembers new
  pub words : new.words ≡ old.words
  pub height : length new.known ≡ length old.known
  pub known : (x q : ℕ) → has new.known x q ≡ has old.known x q
  pub fresh : (x q : ℕ) → has new.fresh x q ≡ has old.fresh x q
  pub known_width : width_at new.known u ≡ 64 * old.words
  pub fresh_width : width_at new.fresh u ≡ 64 * old.words
  pub less : left new ≤ suc (left old)

-- the set waits no more, and what was fresh of it is this row
pub record IsTaken (u : ℕ) (taken : List Bool) (old new : MemberRows) : Type 0 where
  pub members : AreMembers new
  pub words : new.words ≡ old.words
  pub height : length new.known ≡ length old.known
  pub within : u < length old.known
  pub known : new.known ≡ old.known
  pub found : taken ≡ row old.fresh u
  pub others : (x : ℕ) → x ≢ u → row new.fresh x ≡ row old.fresh x
  pub less : suc (left new) ≡ left old

-- no set waits, and nothing is fresh
abbrev pub IsDone : MemberRows → MemberRows → Type 0
IsDone old new = (new ≡ old) × ((u q : ℕ) → has old.fresh u q ≡ false)

-- the bits of the one word that the other has not
abbrev pub IsNew : ℕ → ℕ → ℕ → Type 0
IsNew bits known new = (k : ℕ) → k < 64 → (bit_at new k == 1) ≡ ((bit_at bits k == 1) && not (bit_at known k == 1))
