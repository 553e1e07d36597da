-- The folder of a path: its parts but the last, and what stands up to its last slash.
use Rattle.std.specs.Prelude.{◌≡◌, ℕ, ◌+◌, ◌-◌, ◌<◌, ◌≤◌, Bool, true, false, List, [], ◌∷◌, ◌++◌, length, take, drop, cond, refl, ◌==◌, suc, zero}
use Rattle.std.specs.List.{All, onto_first}
use Rattle.mh_base.specs.Path.{folder_of, parts, but_last, closed}
use Rattle.std.proofs.Common.{ap, ◌∙◌, sym, subst, arith, get_or, add-one}
use Rattle.std.proofs.lemmas.Bool.{eqb-true}
use Rattle.std.proofs.lemmas.List.{take-append-drop, length-drop, get_or-drop, drop_more}
use Rattle.std.proofs.lemmas.List.Elements.{All-from_get_or}
use Rattle.std.proofs.lemmas.List.Splits.{slice_split_none}
use Rattle.std.proofs.Math.Seq.{take-suc}

-- there is a part
abbrev IsFilled : List (List ℕ) → Type 0
IsFilled ps = (q : List ℕ) × (qs : List (List ℕ)) × (ps ≡ q ∷ qs)

onto_first-filled : (x : ℕ) (ps : List (List ℕ)) → IsFilled (onto_first x ps)
onto_first-filled x [] = (x ∷ [], [], refl)
onto_first-filled x (p ∷ ps) = (x ∷ p, ps, refl)

parts-filled : (bs : List ℕ) → IsFilled (parts bs)
parts-filled [] = ([], [], refl)
parts-filled (b ∷ bs) = by (b == 47)
  where
    by : (c : Bool) → IsFilled (cond c ([] ∷ parts bs) (onto_first b (parts bs)))
    by true = ([], parts bs, refl)
    by false = onto_first-filled b (parts bs)

onto_first-append : (x : ℕ) (ps qs : List (List ℕ)) → IsFilled ps → onto_first x (ps ++ qs) ≡ onto_first x ps ++ qs
onto_first-append x [] qs (q, rest, is) = cc
onto_first-append x (p ∷ ps) qs filled = refl

onto_first-closed : (x : ℕ) (ps : List (List ℕ)) → IsFilled ps → closed (onto_first x ps) ≡ x ∷ closed ps
onto_first-closed x [] (q, rest, is) = cc
onto_first-closed x (p ∷ ps) filled = refl

-- the parts of bytes with a slash: those before it, and those behind it
parts-slash : (before behind : List ℕ) → parts (before ++ 47 ∷ behind) ≡ parts before ++ parts behind
parts-slash [] behind = refl
parts-slash (b ∷ before) behind = rw (parts-slash before behind) (by (b == 47))
  where
    by : (c : Bool) → cond c ([] ∷ (parts before ++ parts behind)) (onto_first b (parts before ++ parts behind)) ≡ cond c ([] ∷ parts before) (onto_first b (parts before)) ++ parts behind
    by true = refl
    by false = onto_first-append b (parts before) (parts behind) (parts-filled before)

-- the parts, each with the slash behind it, are the bytes with one more slash
closed-parts : (bs : List ℕ) → closed (parts bs) ≡ bs ++ 47 ∷ []
closed-parts [] = refl
closed-parts (b ∷ bs) = by (b == 47) refl (closed-parts bs)
  where
    by : (c : Bool) → (b == 47) ≡ c → closed (parts bs) ≡ bs ++ 47 ∷ [] → closed (cond c ([] ∷ parts bs) (onto_first b (parts bs))) ≡ b ∷ (bs ++ 47 ∷ [])
    by true is rest = ap (λ (r : List ℕ). 47 ∷ r) rest ∙ ap (λ (n : ℕ). n ∷ (bs ++ 47 ∷ [])) (sym (eqb-true b 47 is))
    by false is rest = onto_first-closed b (parts bs) (parts-filled bs) ∙ ap (λ (r : List ℕ). b ∷ r) rest

but_last-snoc : (ps : List (List ℕ)) (q : List ℕ) → but_last (ps ++ q ∷ []) ≡ ps
but_last-snoc [] q = refl
but_last-snoc (p ∷ []) q = refl
but_last-snoc (p ∷ r ∷ ps) q = ap (λ (x : List (List ℕ)). p ∷ x) (but_last-snoc (r ∷ ps) q)

-- a path without a slash lies at the top
pub folder_of-top : (path : List ℕ) → All (λ b. (b == 47) ≡ false) path → folder_of path ≡ []
unfolding folder_of
folder_of-top path none =
    let one : parts path ≡ path ∷ [] = slice_split_none (λ b. b == 47) path none in
    rw one refl

-- a folder ends at the last slash
pub folder_of-slash : (before behind : List ℕ) → All (λ b. (b == 47) ≡ false) behind → folder_of (before ++ 47 ∷ behind) ≡ before ++ 47 ∷ []
unfolding folder_of
folder_of-slash before behind none =
    let one : parts behind ≡ behind ∷ [] = slice_split_none (λ b. b == 47) behind none in
    let all : parts (before ++ 47 ∷ behind) ≡ parts before ++ behind ∷ [] = parts-slash before behind ∙ ap (λ (qs : List (List ℕ)). parts before ++ qs) one in
    ap (λ (ps : List (List ℕ)). closed (but_last ps)) all ∙ ap closed (but_last-snoc (parts before) behind) ∙ closed-parts before

-- up to the last slash, found by its place
pub folder_of-take : (path : List ℕ) (end : ℕ) → end ≤ length path → ((k : ℕ) → end ≤ k → k < length path → (get_or path k 0 == 47) ≡ false) → (0 < end → (get_or path (end - 1) 0 == 47) ≡ true) → folder_of path ≡ take end path
folder_of-take path zero within none ends =
    folder_of-top path (All-from_get_or (λ b. (b == 47) ≡ false) path 0 (λ k inside. none k (omega arith) inside))
folder_of-take path (suc end) within none ends =
    let inside : end < length path = omega (arith, within) in
    let before : suc end - 1 ≡ end = omega arith in
    let slash : get_or path end 0 ≡ 47 = eqb-true _ _ (subst (λ (n : ℕ). (get_or path n 0 == 47) ≡ true) before (ends (omega arith))) in
    let whole : path ≡ take end path ++ 47 ∷ drop (suc end) path = sym (take-append-drop end path) ∙ ap (λ (r : List ℕ). take end path ++ r) (drop_more path end 0 inside ∙ ap (λ (b : ℕ). b ∷ drop (end + 1) path) slash ∙ ap (λ (n : ℕ). 47 ∷ drop n path) (add-one end)) in
    let left : take (suc end) path ≡ take end path ++ 47 ∷ [] = take-suc path end 0 inside ∙ ap (λ (b : ℕ). take end path ++ b ∷ []) slash in
    let behind : All (λ b. (b == 47) ≡ false) (drop (suc end) path) = All-from_get_or (λ b. (b == 47) ≡ false) (drop (suc end) path) 0 (λ k short. subst (λ (b : ℕ). (b == 47) ≡ false) (sym (get_or-drop (suc end) path k 0)) (none (suc end + k) (omega arith) (omega (arith, subst (λ (n : ℕ). k < n) (length-drop (suc end) path) short)))) in
    ap folder_of whole ∙ folder_of-slash (take end path) (drop (suc end) path) behind ∙ sym left
