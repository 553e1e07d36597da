-- The content files that were found so far, and one more or not.
use Rattle.std.specs.Prelude.{◌≡◌, ℕ, ◌+◌, ◌<◌, List, [], ◌∷◌, ◌++◌, length, drop, Option, Some, None, refl}
use Rattle.std.proofs.Common.{ap, ◌∙◌, sym, append_assoc, append-nil, add-one, get_or, drop-cons}
use Rattle.mh_model.specs.declared.file.File.{File}
use Rattle.mh_model.specs.Service.{Service}
use Rattle.mh_codec.specs.Tags.{Tags}
use Rattle.mh_told.specs.Reading.{Source}
use Rattle.mh_script.specs.Contents.{contents, content_in}

-- the list of what may be there
abbrev one : Option File → List File
one None = []
one (Some c) = c ∷ []

first_in : (tags : Tags) (s : Service) (f : Source) (fs : List Source) → contents tags s (f ∷ fs) ≡ one (content_in tags s f) ++ contents tags s fs
first_in tags s f fs = by (content_in tags s f) refl
  where
    by : (o : Option File) → content_in tags s f ≡ o → contents tags s (f ∷ fs) ≡ one o ++ contents tags s fs
    by None e = rw e refl
    by (Some c) e = rw e refl

split : (fs : List Source) (i : ℕ) (d : Source) → i < length fs → drop i fs ≡ get_or fs i d ∷ drop (i + 1) fs
split fs i d inside = drop-cons fs i d inside ∙ ap (λ (n : ℕ). get_or fs i d ∷ drop n fs) (sym (add-one i))

more : (tags : Tags) (s : Service) (fs : List Source) (i : ℕ) (d : Source) (found : List File) (o : Option File) → i < length fs → content_in tags s (get_or fs i d) ≡ o → found ++ contents tags s (drop i fs) ≡ contents tags s fs
    → (found ++ one o) ++ contents tags s (drop (i + 1) fs) ≡ contents tags s fs
more tags s fs i d found o inside is so =
    append_assoc found (one o) (contents tags s (drop (i + 1) fs))
    ∙ ap (λ (x : Option File). found ++ (one x ++ contents tags s (drop (i + 1) fs))) (sym is)
    ∙ ap (λ (xs : List File). found ++ xs) (sym (first_in tags s (get_or fs i d) (drop (i + 1) fs)))
    ∙ ap (λ (xs : List Source). found ++ contents tags s xs) (sym (split fs i d inside)) ∙ so

-- one more content file
pub one_more : (tags : Tags) (s : Service) (fs : List Source) (i : ℕ) (d : Source) (found : List File) (c : File) → i < length fs → content_in tags s (get_or fs i d) ≡ Some c → found ++ contents tags s (drop i fs) ≡ contents tags s fs
    → (found ++ c ∷ []) ++ contents tags s (drop (i + 1) fs) ≡ contents tags s fs
one_more tags s fs i d found c inside is so = more tags s fs i d found (Some c) inside is so

-- a file that is passed over
pub none_more : (tags : Tags) (s : Service) (fs : List Source) (i : ℕ) (d : Source) (found : List File) → i < length fs → content_in tags s (get_or fs i d) ≡ None → found ++ contents tags s (drop i fs) ≡ contents tags s fs
    → found ++ contents tags s (drop (i + 1) fs) ≡ contents tags s fs
none_more tags s fs i d found inside is so = ap (λ (xs : List File). xs ++ contents tags s (drop (i + 1) fs)) (sym (append-nil found)) ∙ more tags s fs i d found None inside is so
