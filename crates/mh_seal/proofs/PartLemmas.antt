-- What stands in front of a space and behind it.
use Rattle.std.specs.Prelude.{◌≡◌, ◌++◌, ◌∷◌, ◌==◌, ◌<◌, ◌+◌, List, None, Some, [], drop, false, length, suc, take, true, ℕ}
use Rattle.std.specs.List.{IsFirstAndRest, IsSplitAt}
use Rattle.std.proofs.Common.{ap, arith, length-append, sym, ◌∙◌}
use Rattle.std.proofs.Math.Seq.{drop-append_seam, take-append_seam}
use Rattle.std.proofs.lemmas.Bool.Decides.{Decides-eqb}
use Rattle.std.proofs.lemmas.List.{append_assoc, take-append-drop}
use Rattle.mh_seal.specs.Lines.{IsParted}

-- a value that is parted, and one that is not

pub parted_so : (value front behind back : List ℕ) (c n : ℕ) → IsSplitAt value n front behind → IsFirstAndRest behind c back → (c == 32) ≡ true → IsParted n value (Some (front, back))
parted_so value front behind back c n split is space =
    (sym (take-append-drop n value) ∙ ap (λ (t : List ℕ). t ++ drop n value) (sym split.1) ∙ ap (λ (t : List ℕ). front ++ t) (sym split.2 ∙ is.0 ∙ ap (λ (b : ℕ). b ∷ back) ((Decides-eqb c 32).0 space)), split.3)

pub too_short : (value : List ℕ) (n : ℕ) → length value < n → IsParted n value None
too_short value n short front back count e =
    let long : length value ≡ length front + suc (length back) = ap length e ∙ length-append front (32 ∷ back) in
    absurd (omega (arith, long, count, short))

-- what stands there would begin with a space
space_there : (value front behind f back : List ℕ) (n : ℕ) → IsSplitAt value n front behind → length f ≡ n → value ≡ f ++ 32 ∷ back → behind ≡ 32 ∷ back
space_there value front behind f back n split count e = split.2 ∙ ap (λ (m : ℕ). drop m value) (sym count) ∙ ap (drop (length f)) e ∙ drop-append_seam f (32 ∷ back)

pub none_behind : (value front behind : List ℕ) (n : ℕ) → IsSplitAt value n front behind → length behind ≡ 0 → IsParted n value None
none_behind value front behind n split none f back count e =
    let some : length behind ≡ suc (length back) = ap length (space_there value front behind f back n split count e) in
    absurd (omega (arith, none, some))

pub other_byte : (value front behind rest : List ℕ) (c n : ℕ) → IsSplitAt value n front behind → IsFirstAndRest behind c rest → (c == 32) ≡ false → IsParted n value None
other_byte value front behind rest c n split is other f back count e =
    let there : c ∷ rest ≡ 32 ∷ back = sym is.0 ∙ space_there value front behind f back n split count e in
    no (sym other ∙ (Decides-eqb c 32).1 (ap (first c) there))
  where
    first : ℕ → List ℕ → ℕ
    first d [] = d
    first d (x ∷ xs) = x

    no : false ≡ true → ⊥
    no h = absurd cc

-- what was parted in two ways at one place
pub same_parts : (n : ℕ) (value a b c d : List ℕ) → IsParted n value (Some (a, b)) → length c ≡ n → value ≡ c ++ 32 ∷ d → (a ≡ c) × (b ≡ d)
same_parts n value a b c d parts long e =
    let whole = sym parts.0 ∙ e in
    let same = parts.1 ∙ sym long in
    let front : a ≡ c = sym (take-append_seam a (32 ∷ b)) ∙ ap (λ (m : ℕ). take m (a ++ 32 ∷ b)) same ∙ ap (take (length c)) whole ∙ take-append_seam c (32 ∷ d) in
    let back : 32 ∷ b ≡ 32 ∷ d = sym (drop-append_seam a (32 ∷ b)) ∙ ap (λ (m : ℕ). drop m (a ++ 32 ∷ b)) same ∙ ap (drop (length c)) whole ∙ drop-append_seam c (32 ∷ d) in
    (front, ap (drop 1) back)

-- six pieces put one behind the other
pub six_put : (text a b c d e f ta tb tc td te tf : List ℕ) → ta ≡ text ++ a → tb ≡ ta ++ b → tc ≡ tb ++ c → td ≡ tc ++ d → te ≡ td ++ e → tf ≡ te ++ f → tf ≡ text ++ (a ++ b ++ c ++ d ++ e ++ f)
six_put text a b c d e f ta tb tc td te tf h i j k l m =
    behind te (a ++ b ++ c ++ d ++ e) tf f m (behind td (a ++ b ++ c ++ d) te e l (behind tc (a ++ b ++ c) td d k (behind tb (a ++ b) tc c j (behind ta a tb b i h))))
  where
    behind : (old xs new x : List ℕ) → new ≡ old ++ x → old ≡ text ++ xs → new ≡ text ++ (xs ++ x)
    behind old xs new x put before = put ∙ ap (λ (t : List ℕ). t ++ x) before ∙ append_assoc text xs x

pub regrouped : (a b c d e f g : List ℕ) → a ++ b ++ c ++ d ++ e ++ f ++ g ≡ a ++ (b ++ (c ++ (d ++ (e ++ (f ++ g)))))
regrouped a b c d e f g =
    append_assoc (a ++ b ++ c ++ d ++ e) f g
    ∙ append_assoc (a ++ b ++ c ++ d) e (f ++ g)
    ∙ append_assoc (a ++ b ++ c) d (e ++ (f ++ g))
    ∙ append_assoc (a ++ b) c (d ++ (e ++ (f ++ g)))
    ∙ append_assoc a b (c ++ (d ++ (e ++ (f ++ g))))
