-- What the writers of both notations rest on: lists in two parts, and bytes as octets.
use Rattle.std.proofs.Common.{◌≡◌, ℕ, suc, ◌-◌, ◌<◌, Bool, true, ◌&&◌, nat_lt, List, [], ◌∷◌, length, get_or, take, drop, Result, Ok, Err, OnOk, refl, ap, sym, ◌∙◌, arith}
use Rattle.std.specs.List.{list_all}
use Rattle.std.proofs.lemmas.Bool.Decides.{nat_tests}
use Rattle.std.proofs.lemmas.List.Folds.{list_all-append}
use Rattle.std.proofs.lemmas.List.{take-append-drop, take_all, length-drop}
use Rattle.mh_group.specs.Holdable.{is_octets}

-- a test of all members is one of a slice up to a place and of that from there on
pub all_parts : {A : Type 0} (p : A → Bool) (n : ℕ) (xs : List A) → (list_all p (take n xs) && list_all p (take (length xs - n) (drop n xs))) ≡ list_all p xs
all_parts p n xs =
    let behind : take (length xs - n) (drop n xs) ≡ drop n xs = take_all (length xs - n) (drop n xs) (omega (arith, length-drop n xs)) in
    rw behind (sym (list_all-append p (take n xs) (drop n xs)) ∙ ap (λ l. list_all p l) (take-append-drop n xs))

-- where the part in front fits, the whole fits as the part behind does
pub whole_fits : {X E : Type 0} (r : Result X E) (front behind : Bool) → front ≡ true → OnOk r (behind ≡ true) → OnOk r ((front && behind) ≡ true)
whole_fits (Ok x) front behind f b = rw (f, b) refl
whole_fits (Err e) front behind f b = tt

-- bytes are octets
pub bytes_are_octets : (bs : List ℕ) → ((k : ℕ) → get_or bs k 0 < 256) → is_octets bs ≡ true
bytes_are_octets [] h = refl
bytes_are_octets (b ∷ bs) h =
    let small : b < 256 = h 0 in
    let first : nat_lt b 256 ≡ true = grind (arith, nat_tests) in
    rw first (bytes_are_octets bs (λ k. h (suc k)))
