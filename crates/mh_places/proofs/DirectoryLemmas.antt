-- Tables of spans are what is told of the text, and a file's tables are found by its name.
use Rattle.std.proofs.Common.{◌≡◌, ◌⊎◌, ℕ, zero, suc, ◌+◌, Bool, true, false, cond, List, [], ◌∷◌, ◌++◌, filter, length, map, Option, Some, None, refl, inl, inr, ap, sym, subst, ◌∙◌, append-nil, arith, length-append}
use Rattle.std.specs.Prelude.{⊤, nat_eq, slice_get, unwrap_or}
use Rattle.std.specs.List.{flat_map, position, position_or_len}
use Rattle.std.specs.Map.{lookup}
use Rattle.std.specs.Str.{bytes_eq}
use Rattle.std.proofs.lemmas.Bool.{eqb-true}
use Rattle.std.proofs.lemmas.List.Folds.{find_at}
use Rattle.std.proofs.lemmas.Option.{slice_get_past}
use Rattle.mh_base.proofs.PathLemmas.{position-none, position-some}
use Rattle.mh_text.specs.Landmarks.{Landmark, landmarks}
use Rattle.mh_text.specs.declared.mark.Mark.{Mark}
use Rattle.mh_text.specs.Marks.{marks}
use Rattle.mh_told.specs.Reading.{Source}
use Rattle.mh_places.specs.declared.directory.Turn.{Turn}
use Rattle.mh_places.specs.declared.directory.Turn.TheVariants as turn
use Rattle.mh_places.specs.declared.span.Span.{Span}
use Rattle.mh_places.specs.Spans.{span_at}
use Rattle.mh_places.specs.Directory.{AreBeside, AreBesideOf, IsFound, action_spans, file_of, is_action_of, is_object, listed, marked_at, object_spans, spans_in_turn, seen_at}

-- IN A TABLE

-- a span more under its number
pub listed_more : (old new : List (ℕ × List Span)) (k : ℕ) (w : List Span) (x : Span)
    → ((n : ℕ) → lookup (nat_eq n) new ≡ cond (nat_eq k n) (Some w) (lookup (nat_eq n) old)) → w ≡ listed k old ++ x ∷ []
    → (n : ℕ) → listed n new ≡ listed n old ++ cond (nat_eq k n) (x ∷ []) []
listed_more old new k w x put is n = ap (λ (o : Option (List Span)). unwrap_or o []) (put n) ∙ by (nat_eq k n) refl
  where
    by : (b : Bool) → nat_eq k n ≡ b → unwrap_or (cond b (Some w) (lookup (nat_eq n) old)) [] ≡ listed n old ++ cond b (x ∷ []) []
    by true e = is ∙ ap (λ (j : ℕ). listed j old ++ x ∷ []) (eqb-true k n e)
    by false e = sym (append-nil (listed n old))

-- what passes, place by place
kept : {X : Type 0} (p : X → Bool) (f : X → Span) (xs : List X) → flat_map (λ x. cond (p x) (f x ∷ []) []) xs ≡ map f (filter p xs)
kept p f [] = refl
kept p f (x ∷ xs) = by (p x) (kept p f xs)
  where
    by : (b : Bool) → flat_map (λ y. cond (p y) (f y ∷ []) []) xs ≡ map f (filter p xs) → cond b (f x ∷ []) [] ++ flat_map (λ y. cond (p y) (f y ∷ []) []) xs ≡ map f (cond b (x ∷ filter p xs) (filter p xs))
    by true e = ap (λ (ys : List Span). f x ∷ ys) e
    by false e = e

pub seen_all : (bs : List ℕ) (n : ℕ) → flat_map (seen_at bs n) (landmarks bs) ≡ object_spans bs n
seen_all bs n = kept (λ (l : Landmark). is_object n l.sight) (λ (l : Landmark). span_at bs l.start l.length) (landmarks bs)

marked_in : (bs : List ℕ) (n : ℕ) (t : Turn) → flat_map (marked_at bs n t) (marks bs) ≡ spans_in_turn bs n t
marked_in bs n t = kept (is_action_of n t) (λ (m : Mark). span_at bs m.start m.length) (marks bs)

-- those of the three turns, one behind the other
pub marked_all : (bs : List ℕ) (n : ℕ)
    → (flat_map (marked_at bs n turn.StartUp) (marks bs) ++ flat_map (marked_at bs n turn.CloseDown) (marks bs)) ++ flat_map (marked_at bs n turn.Last) (marks bs) ≡ action_spans bs n
marked_all bs n = λ i. marked_in bs n turn.StartUp i ++ marked_in bs n turn.CloseDown i ++ marked_in bs n turn.Last i

-- BY FILES

slice_get_split : {X : Type 0} (xs : List X) (x : X) (m : ℕ) (u : X) → slice_get (xs ++ x ∷ []) m ≡ Some u → (slice_get xs m ≡ Some u) ⊎ ((m ≡ length xs) × (x ≡ u))
slice_get_split [] x zero u e = inr (refl, ap (λ o. unwrap_or o x) e)
slice_get_split [] x (suc m) u e = cc
slice_get_split (y ∷ xs) x zero u e = inl e
slice_get_split {X} (y ∷ xs) x (suc m) u e = by (slice_get_split xs x m u e)
  where
    by : (slice_get xs m ≡ Some u) ⊎ ((m ≡ length xs) × (x ≡ u)) → (slice_get (y ∷ xs) (suc m) ≡ Some u) ⊎ ((suc m ≡ suc (length xs)) × (x ≡ u))
    by (inl there) = inl there
    by (inr last) = inr (ap suc last.0, last.1)

-- what is told of a file more
pub beside_more : {T : Type 0} (Tells : List ℕ → T → Type 0) (fs : List Source) (n : ℕ) (old new : List T) (t : T) → AreBesideOf Tells fs n old → new ≡ old ++ t ∷ [] → ((f : Source) → slice_get fs n ≡ Some f → Tells f.1.items t)
    → AreBesideOf Tells fs (n + 1) new
beside_more {T} Tells fs n old new t is put says = subst (AreBesideOf Tells fs (n + 1)) (sym put) (record {
  all = length-append old (t ∷ []) ∙ ap (λ (k : ℕ). k + 1) is.all;
  each = λ m f u at stands. by (slice_get_split old t m u stands) m f at refl;
})
  where
    by : {u : T} {m : ℕ} → (slice_get old m ≡ Some u) ⊎ ((m ≡ length old) × (t ≡ u)) → (m' : ℕ) (f : Source) → slice_get fs m' ≡ Some f → m' ≡ m → Tells f.1.items u
    by (inl there) m' f at e = is.each _ f _ (subst (λ (k : ℕ). slice_get fs k ≡ Some f) e at) there
    by (inr last) m' f at e = subst (Tells f.1.items) last.1 (says f (subst (λ (k : ℕ). slice_get fs k ≡ Some f) (e ∙ last.0 ∙ is.all) at))

-- lists of one length end at one place
both_there : {X Y : Type 0} (xs : List X) (ys : List Y) (m : ℕ) (x : X) → length xs ≡ length ys → slice_get xs m ≡ Some x → slice_get ys m ≡ None → ⊥
both_there [] ys m x same there none = cc
both_there (z ∷ xs) [] m x same there none = omega (arith, same)
both_there (z ∷ xs) (y ∷ ys) zero x same there none = cc
both_there (z ∷ xs) (y ∷ ys) (suc m) x same there none = both_there xs ys m x (omega (arith, same)) there none

-- there is no file of this name
pub none_found : {T : Type 0} (Tells : List ℕ → T → Type 0) (fs : List Source) (g : List ℕ) → position (λ (f : Source). bytes_eq f.0 g) fs ≡ None → IsFound Tells (file_of fs g) None
none_found {T} Tells fs g none =
    let p : Source → Bool = λ (f : Source). bytes_eq f.0 g in
    subst (λ (o : Option Source). IsFound {T = T} Tells o None) (sym (find_at p fs ∙ slice_get_past fs (position_or_len p fs) (position-none p fs none))) tt

-- the file of this name stands there
pub one_found : {T : Type 0} (Tells : List ℕ → T → Type 0) (fs : List Source) (ts : List T) (g : List ℕ) (m : ℕ) → AreBeside Tells fs ts → position (λ (f : Source). bytes_eq f.0 g) fs ≡ Some m → IsFound Tells (file_of fs g) (slice_get ts m)
one_found {T} Tells fs ts g m are at =
    let p : Source → Bool = λ (f : Source). bytes_eq f.0 g in
    let there = position-some p fs m at in
    subst (λ (o : Option Source). IsFound Tells o (slice_get ts m)) (sym (find_at p fs ∙ ap (slice_get fs) there.0)) (by (slice_get fs m) (slice_get ts m) refl refl)
  where
    by : (o : Option Source) (q : Option T) → slice_get fs m ≡ o → slice_get ts m ≡ q → IsFound Tells o q
    by None None e h = tt
    by (Some f) (Some t) e h = are.each m f t e h
    by (Some f) None e h = both_there fs ts m f (sym are.all) e h
    by None (Some t) e h = both_there ts fs m t are.all h e
