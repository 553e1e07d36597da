-- What is had of a source is all that it had, or its first bytes.
use Rattle.std.specs.Prelude.{◌≡◌, ℕ, zero, suc, ◌+◌, ◌-◌, ◌<◌, min, List, [], ◌++◌, length, take, Option, Some, None, IfSome, refl}
use Rattle.std.proofs.Common.{◌∙◌, sym, ap, arith, append-nil, length-take, take_all}
use lib.Seq.{take-append-add}
use Rattle.mh_base.specs.Limits.{largest_file}
use Rattle.mh_folder.specs.Source.{most_read, IsHad}

nothing : (k : ℕ) (rest : List ℕ) → (0 < k → rest ≡ []) → take k rest ≡ []
nothing zero rest end = refl
nothing (suc k) rest end = ap (take (suc k)) (end (omega arith))

-- some bytes in front of others, of which there are none unless there are m
front_of : (m k : ℕ) (had bytes rest : List ℕ) → had ≡ bytes ++ rest → length bytes + k ≡ m → (length bytes < m → rest ≡ []) → bytes ≡ take m had
front_of m k had bytes rest parts same end =
    let none : take k rest ≡ [] = nothing k rest (λ some. end (omega (arith, same, some))) in
    rw (parts, ← same, take-append-add bytes rest k, none) (sym (append-nil bytes))

pub had_front : (before after : Option (List ℕ)) (bytes : List ℕ) → IsHad before after bytes → IfSome before (λ had. bytes ≡ take most_read had)
had_front None after bytes h = tt
had_front (Some had) None bytes h = absurd h.0
had_front (Some had) (Some rest) bytes h = front_of most_read (most_read - length bytes) had bytes rest h.0 (omega (arith, h.1)) h.2

all_of : (m : ℕ) (had bytes : List ℕ) → bytes ≡ take m had → length bytes < m → bytes ≡ had
all_of m had bytes same short =
    let long : length bytes ≡ min m (length had) = ap length same ∙ length-take m had in
    same ∙ take_all m had (omega (arith, long, short))

-- where fewer bytes than could be read are had, they are all
pub short_whole : (before : Option (List ℕ)) (bytes : List ℕ) → IfSome before (λ had. bytes ≡ take most_read had) → length bytes < most_read → IfSome before (λ had. bytes ≡ had)
short_whole None bytes same short = tt
short_whole (Some had) bytes same short = all_of most_read had bytes same short

longer : (m n : ℕ) (had bytes : List ℕ) → bytes ≡ take m had → n < length bytes → n < length had
longer m n had bytes same long =
    let size : length bytes ≡ min m (length had) = ap length same ∙ length-take m had in
    omega (arith, size, long)

-- a source had more bytes than a file may have where so many are had
pub had_longer : (before : Option (List ℕ)) (bytes : List ℕ) → IfSome before (λ had. bytes ≡ take most_read had) → largest_file < length bytes → IfSome before (λ had. largest_file < length had)
had_longer None bytes same long = tt
had_longer (Some had) bytes same long = longer most_read largest_file had bytes same long
