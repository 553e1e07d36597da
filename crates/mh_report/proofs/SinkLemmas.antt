-- What a sink has taken after two writes.
use Rattle.std.specs.Prelude.{◌≡◌, ℕ, ◌+◌, ◌-◌, ◌≤◌, List, ◌++◌, [], length, take, drop, Option, Some, None, refl}
use Rattle.std.proofs.Common.{◌∙◌, sym, subst, arith, append_assoc, append-nil}
use Rattle.std.proofs.KnownBytes.{Appends-trans}
use Rattle.std.specs.Io.KnownBytes.{Appends, Keeps}
use Rattle.std.proofs.lemmas.List.{take_rest, take-append-drop, drop-take, take-take}
use Rattle.mh_report.specs.Sink.{IsBeginning}

pub take_plus : (i n : ℕ) (xs : List ℕ) → take (i + n) xs ≡ take i xs ++ take n (drop i xs)
take_plus i n xs =
    let within : i ≤ i + n = omega arith in
    let front : take i (take (i + n) xs) ≡ take i xs = take-take i (i + n) xs within in
    sym (take-append-drop i (take (i + n) xs)) ∙ rw (front, drop-take i n xs) refl

-- the first bytes, and then the first ones of the rest
pub appended_rest : (first before after : Option (List ℕ)) (bs : List ℕ) (i n : ℕ) → Appends first before (take i bs) → Appends before after (take n (take (length bs - i) (drop i bs))) → Appends first after (take (i + n) bs)
appended_rest first before after bs i n done more =
    let rest : take (length bs - i) (drop i bs) ≡ drop i bs = take_rest bs i in
    let whole : take i bs ++ take n (take (length bs - i) (drop i bs)) ≡ take (i + n) bs = rw (rest, take_plus i n bs) refl in
    subst (λ (t : List ℕ). Appends first after t) whole (Appends-trans first before after (take i bs) (take n (take (length bs - i) (drop i bs))) done more)

-- what was taken of some bytes is a beginning of them
pub taken_beginning : (before after : Option (List ℕ)) (bytes : List ℕ) (n : ℕ) → Appends before after (take n bytes) → IsBeginning before after bytes
taken_beginning before after bytes n same = record { front = take n bytes; back = drop n bytes; parts = take-append-drop n bytes; taken = same }

-- where nothing was taken, no bytes were appended
pub kept_appends : (before after : Option (List ℕ)) → Keeps before after → Appends before after []
kept_appends None after kept = tt
kept_appends (Some w) None kept = kept
kept_appends (Some w) (Some x) kept = kept ∙ sym (append-nil w)

-- a beginning of what comes behind other bytes
pub later_beginning : (first before after : Option (List ℕ)) (done bytes : List ℕ) → Appends first before done → IsBeginning before after bytes → (behind : List ℕ) → IsBeginning first after (done ++ (bytes ++ behind))
later_beginning first before after done bytes same b behind = record {
  front = done ++ b.front;
  back = b.back ++ behind;
  parts = rw (← b.parts) (simp append_assoc);
  taken = Appends-trans first before after done b.front same b.taken;
}
