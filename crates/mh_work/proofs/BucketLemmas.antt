-- Listeners in a bucket, and the bits of their types.
use Rattle.std.specs.Prelude.{◌≡◌, ℕ, ◌*◌, ◌%◌, ◌^◌, ◌==◌, Bool, true, false, ◌&&◌, if◌then◌else◌, List, [], ◌∷◌, ◌++◌, nat_eq, bit_and, bit_or, refl}
use Rattle.std.specs.Int.{bit_at}
use Rattle.std.proofs.Common.{ap, ◌∙◌, sym, arith}
use Rattle.std.proofs.lemmas.Bool.{eqb-true}
use Rattle.std.proofs.lemmas.Nat.{pow_pos}
use Rattle.std.proofs.lemmas.Nat.Bits.{bit_at_or, bit_at-lt, and_pow, bit_at-pow_same}
use Rattle.mh_work.specs.declared.bucket.Listener.{Listener}
use Rattle.mh_work.specs.Listening.{waiting_in, AreMarked}

pub marked-none : (types : ℕ) → AreMarked types []
unfolding AreMarked
marked-none types = record {}

-- one listener more, and its bit
pub marked_one_more : (types bit : ℕ) (ls : List Listener) (l : Listener) → bit ≡ 2 ^ (l.kind % 32) → AreMarked types ls → AreMarked (bit_or types bit) (ls ++ l ∷ [])
unfolding AreMarked
marked_one_more types bit [] l is marked = (omega (arith, bit_at_or types bit (l.kind % 32), ap (λ (n : ℕ). bit_at n (l.kind % 32)) is, bit_at-pow_same (l.kind % 32), bit_at-lt types (l.kind % 32)), record {})
marked_one_more types bit (k ∷ ls) l is marked = (omega (arith, bit_at_or types bit (k.kind % 32), marked.0, bit_at-lt bit (k.kind % 32)), marked_one_more types bit ls l is marked.1)

-- a type without its bit is waited for by none
pub unmarked_waits_none : (types kind bit : ℕ) (ls : List Listener) → bit ≡ 2 ^ (kind % 32) → AreMarked types ls → nat_eq (bit_and types bit) 0 ≡ true → (n : ℕ) → waiting_in n kind ls ≡ []
unfolding AreMarked
unmarked_waits_none types kind bit [] is marked none n = refl
unmarked_waits_none types kind bit (l ∷ ls) is marked none n =
    ap (λ (b : Bool). (if b then l.place ∷ [] else []) ++ waiting_in n kind ls) (other (l.source == n) (l.kind == kind) refl) ∙ unmarked_waits_none types kind bit ls is marked.1 none n
  where
    clear : bit_at types (kind % 32) * 2 ^ (kind % 32) ≡ 0
    clear = sym (and_pow types (kind % 32)) ∙ ap (bit_and types) (sym is) ∙ eqb-true (bit_and types bit) 0 none

    set : l.kind ≡ kind → bit_at types (kind % 32) ≡ 1
    set same = ap (λ (k : ℕ). bit_at types (k % 32)) (sym same) ∙ marked.0

    impossible : l.kind ≡ kind → 1 * 2 ^ (kind % 32) ≡ 0
    impossible same = ap (λ (b : ℕ). b * 2 ^ (kind % 32)) (sym (set same)) ∙ clear

    other : (a b : Bool) → (l.kind == kind) ≡ b → (a && b) ≡ false
    other true true e = absurd (omega (arith, impossible (eqb-true l.kind kind e), pow_pos (kind % 32)))
    other true false e = refl
    other false b e = refl
