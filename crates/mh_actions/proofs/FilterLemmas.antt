-- A loop that keeps what a function gives of each item.
use Rattle.std.proofs.Common.{◌≡◌, refl, sym, ap, ◌∙◌, ℕ, suc, ◌+◌, ◌<◌, List, [], ◌∷◌, ◌++◌, length, get_or, drop, arith, append_assoc, drop-cons}
use Rattle.std.specs.Prelude.{Option, Some, None}
use Rattle.std.specs.List.{filter_map, cons_option}

module _ {X Y : Type 0} (h : X → Option Y) where
  pub in_front : (m : Option Y) (ys : List Y) → cons_option m [] ++ ys ≡ cons_option m ys
  in_front None ys = refl
  in_front (Some y) ys = refl

  -- what was kept before this item and of it, with what the items behind it give
  pub kept : (xs : List X) (i : ℕ) (x : X) (before after whole : List Y) → i < length xs → x ≡ get_or xs i x → after ≡ before ++ cons_option (h x) [] → before ++ filter_map h (drop i xs) ≡ whole → after ++ filter_map h (drop (i + 1) xs) ≡ whole
  kept xs i x before after whole within is put rest =
      let next : suc i ≡ i + 1 = omega arith in
      let here : drop i xs ≡ x ∷ drop (i + 1) xs =
      drop-cons xs i x within ∙ ap (λ (t : X). t ∷ drop (suc i) xs) (sym is) ∙ ap (λ (n : ℕ). x ∷ drop n xs) next in
      rw (put, append_assoc before (cons_option (h x) []) (filter_map h (drop (i + 1) xs)), in_front (h x) (filter_map h (drop (i + 1) xs))) (sym (ap (λ (t : List X). before ++ filter_map h t) here) ∙ rest)
