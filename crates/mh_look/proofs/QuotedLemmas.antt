-- Characters between quotation marks, read one after another.
use Rattle.std.specs.Prelude.{◌≡◌, ℕ, ◌+◌, ◌-◌, ◌≤◌, true, List, [], ◌∷◌, ◌++◌, length, take, drop, Option, Some, None, slice_index, refl}
use Rattle.std.specs.List.{list_all, flat_map}
use Rattle.std.proofs.Common.{ap, ◌∙◌, sym, arith, append_assoc, length-append, length-drop, append-nil}
use Rattle.std.proofs.lemmas.Bool.{and_parts, and_from}
use Rattle.std.proofs.lemmas.List.Folds.{list_all-append}
use Rattle.std.proofs.Math.Seq.{drop-append_seam, take-length}
use Rattle.mh_told.specs.Printing.{quoted}
use Rattle.mh_look.specs.Reading.{quoted_text, AreCharactersFound}
use lib.Utf8.{scalar}

-- what the reader of one character promises
abbrev pub IsRead : List ℕ → Option (ℕ × ℕ) → Type 0
IsRead bytes r = (c : ℕ) → scalar c ≡ true → (rest : List ℕ) → bytes ≡ quoted c ++ rest → r ≡ Some (c, length (quoted c))

abbrev pub IsEnd : List ℕ → Option (ℕ × ℕ) → Type 0
IsEnd bytes r = (rest : List ℕ) → bytes ≡ 34 ∷ rest → r ≡ None

-- of these characters some are read and put behind others, and the rest of them stand at the front of what is left
pub record AreLeft (cs rest left before now : List ℕ) : Type 0 where
  pub ds : List ℕ
  pub good : list_all scalar ds ≡ true
  pub stand : left ≡ flat_map quoted ds ++ 34 ∷ rest
  pub put : now ++ ds ≡ before ++ cs

-- so far what was read is what stood there
pub record IsReading (bytes left before now : List ℕ) : Type 0 where
  pub short : length left ≤ length bytes
  pub good : list_all scalar before ≡ true → list_all scalar now ≡ true
  pub stand : (cs rest : List ℕ) → list_all scalar cs ≡ true → bytes ≡ quoted_text cs ++ rest → AreLeft cs rest left before now

pub begins : (bytes left before : List ℕ) → left ≡ drop 2 bytes → IsReading bytes left before before
begins bytes left before e =
    record {
      short = rw (e, length-drop) (omega arith);
      good = λ h. h;
      stand = λ cs rest all whole. record {
        ds = cs;
        good = all;
        stand = e ∙ ap (drop 2) whole ∙ append_assoc (flat_map quoted cs) (34 ∷ []) rest;
        put = refl;
      };
    }

-- what was found, and how long it is
abbrev character_of : Option (ℕ × ℕ) → ℕ
character_of None = 0
character_of (Some p) = p.0

abbrev size_of : Option (ℕ × ℕ) → ℕ
size_of None = 0
size_of (Some p) = p.1

next : (cs rest left before now : List ℕ) (x n : ℕ) (r : Option (ℕ × ℕ)) → IsRead left r → IsEnd left r → r ≡ Some (x, n) → (a : AreLeft cs rest left before now) → AreLeft cs rest (drop n left) before (now ++ x ∷ [])
next cs rest left before now x n r read ends some a = go a.ds a.good a.stand a.put
  where
    go : (ds : List ℕ) → list_all scalar ds ≡ true → left ≡ flat_map quoted ds ++ 34 ∷ rest → now ++ ds ≡ before ++ cs → AreLeft cs rest (drop n left) before (now ++ x ∷ [])
    go [] good stand put = let none = ends rest stand in absurd cc
    go (d ∷ ds) good stand put =
        let parts = and_parts (scalar d) (list_all scalar ds) good in
        let front : left ≡ quoted d ++ (flat_map quoted ds ++ 34 ∷ rest) = stand ∙ append_assoc (quoted d) (flat_map quoted ds) (34 ∷ rest) in
        let is = read d parts.0 _ front in
        let same : x ≡ d = ap character_of (sym some ∙ is) in
        let long : n ≡ length (quoted d) = ap size_of (sym some ∙ is) in
        record {
          ds = ds;
          good = parts.1;
          stand = ap (λ (k : ℕ). drop k left) long ∙ ap (drop (length (quoted d))) front ∙ drop-append_seam (quoted d) (flat_map quoted ds ++ 34 ∷ rest);
          put = append_assoc now (x ∷ []) ds ∙ ap (λ (y : ℕ). now ++ y ∷ ds) same ∙ put;
        }

pub goes_on : (bytes left before now behind after : List ℕ) (x n : ℕ) (r : Option (ℕ × ℕ)) → IsRead left r → IsEnd left r → r ≡ Some (x, n) → scalar x ≡ true → behind ≡ drop n left → after ≡ now ++ x ∷ [] → IsReading bytes left before now → IsReading bytes behind before after
goes_on bytes left before now behind after x n r read ends some is e put h =
    record {
      short = rw (e, length-drop) (let long = h.short in omega arith);
      good = λ all. rw (put, list_all-append) (and_from _ _ (h.good all) (and_from _ _ is refl));
      stand = λ cs rest all whole. rw (e, put) (next cs rest left before now x n r read ends some (h.stand cs rest all whole));
    }

-- where no more is read, the closing mark stands
pub closes : (cs rest left before now : List ℕ) (r : Option (ℕ × ℕ)) → IsRead left r → r ≡ None → AreLeft cs rest left before now → (left ≡ 34 ∷ rest) × (now ≡ before ++ cs)
closes cs rest left before now r read none a = go a.ds a.good a.stand a.put
  where
    go : (ds : List ℕ) → list_all scalar ds ≡ true → left ≡ flat_map quoted ds ++ 34 ∷ rest → now ++ ds ≡ before ++ cs → (left ≡ 34 ∷ rest) × (now ≡ before ++ cs)
    go [] good stand put = (stand, sym (append-nil now) ∙ put)
    go (d ∷ ds) good stand put =
        let parts = and_parts (scalar d) (list_all scalar ds) good in
        let is = read d parts.0 _ (stand ∙ append_assoc (quoted d) (flat_map quoted ds) (34 ∷ rest)) in
        absurd cc

pub are_found : (bytes left before now behind : List ℕ) (r : Option (ℕ × ℕ)) → IsRead left r → r ≡ None → left ≡ 34 ∷ behind → IsReading bytes left before now → AreCharactersFound bytes before now (Some (length bytes - length behind))
are_found bytes left before now behind r read none closed h =
    record {
      count = λ cs rest all whole.
          let ends = closes cs rest left before now r read none (h.stand cs rest all whole) in
          let same : length behind ≡ length rest = ap (λ (l : List ℕ). length (drop 1 l)) (sym closed ∙ ends.0) in
          let long : length bytes ≡ length (quoted_text cs) + length rest = ap length whole ∙ length-append (quoted_text cs) rest in
          ap (λ (k : ℕ). Some k) (omega arith);
      put = λ cs rest all whole. (closes cs rest left before now r read none (h.stand cs rest all whole)).1;
    }

pub not_there : (bytes left before now : List ℕ) (r : Option (ℕ × ℕ)) → IsRead left r → r ≡ None → ((rest : List ℕ) → left ≡ 34 ∷ rest → ⊥) → IsReading bytes left before now → AreCharactersFound bytes before now None
not_there bytes left before now r read none open_end h =
    record {
      count = λ cs rest all whole. absurd (open_end rest (closes cs rest left before now r read none (h.stand cs rest all whole)).0);
      put = λ cs rest all whole. (closes cs rest left before now r read none (h.stand cs rest all whole)).1;
    }

-- what a slice from a place on is
pub from_place : (n : ℕ) (xs : List ℕ) → take (length xs - n) (drop n xs) ≡ drop n xs
from_place n xs = rw (← length-drop n xs) (take-length (drop n xs))

pub first_and_rest : (x : ℕ) (xs : List ℕ) → 1 ≤ length xs → slice_index xs 0 ≡ x → xs ≡ x ∷ take (length xs - 1) (drop 1 xs)
first_and_rest x [] some first = absurd (omega arith)
first_and_rest x (y ∷ ys) some first = ap (λ (z : ℕ). z ∷ ys) first ∙ ap (λ (zs : List ℕ). x ∷ zs) (sym (from_place 1 (y ∷ ys)))
