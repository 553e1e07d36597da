-- What is read beside a seal, file by file.
use Rattle.std.specs.Prelude.{◌≡◌, ℕ, Bool, true, false, List, [], ◌∷◌, ◌++◌, cond, filter, map, Result, Ok, Err, refl}
use Rattle.std.proofs.Common.{ap, ◌∙◌, append-nil, sym, subst}
use Rattle.mh_codec.specs.Tags.{Tags}
use Rattle.mh_model.specs.declared.file.File.{File as Content}
use Rattle.mh_service.specs.Refusals.{File}
use Rattle.mh_seal.specs.declared.seal.Seal.{Seal}
use Rattle.mh_told.specs.declared.unplayable.Unplayable.{Unplayable}
use Rattle.mh_told.specs.declared.unplayable.Unplayable.TheVariants as unplayable
use Rattle.mh_told.specs.Reading.{◌>>=◌, Fails, Source, read_files, with_file}
use Rattle.mh_sealing.specs.Here.{content_of, contents_by, is_content, is_here}

read_one : (tags : Tags) (done : List File) (f : Source) (fs : List Source)
    → read_files tags done (f ∷ fs) ≡ (read_files tags done (f ∷ []) >>= (λ (more : List File). read_files tags more fs))
read_one tags done f fs = by (with_file tags done f)
  where
    by : (r : Result (List File) Unplayable) → (r >>= (λ (more : List File). read_files tags more fs)) ≡ ((r >>= (λ (more : List File). Ok more)) >>= (λ (more : List File). read_files tags more fs))
    by (Ok more) = refl
    by (Err e) = refl

-- the groups of some files, one file in front
pub groups_more : (s : Seal) (tags : Tags) (done : List File) (f : Source) (fs : List Source)
    → read_files tags done (filter (is_here s) (f ∷ fs)) ≡ (read_files tags done (filter (is_here s) (f ∷ [])) >>= (λ (more : List File). read_files tags more (filter (is_here s) fs)))
groups_more s tags done f fs = by (is_here s f)
  where
    by : (b : Bool) → read_files tags done (cond b (f ∷ filter (is_here s) fs) (filter (is_here s) fs))
        ≡ (read_files tags done (cond b (f ∷ []) []) >>= (λ (more : List File). read_files tags more (filter (is_here s) fs)))
    by true = read_one tags done f (filter (is_here s) fs)
    by false = refl

-- the content files of some files, one file in front
pub contents_more : (s : Seal) (tags : Tags) (f : Source) (fs : List Source) → contents_by s tags (f ∷ fs) ≡ contents_by s tags (f ∷ []) ++ contents_by s tags fs
contents_more s tags f fs = by (is_content s tags f)
  where
    by : (b : Bool) → map content_of (cond b (f ∷ filter (is_content s tags) fs) (filter (is_content s tags) fs))
        ≡ map content_of (cond b (f ∷ []) []) ++ map content_of (filter (is_content s tags) fs)
    by true = refl
    by false = refl

-- of one file

pub here_one : (s : Seal) (tags : Tags) (done new : List File) (f : Source) → is_here s f ≡ true → with_file tags done f ≡ Ok new
    → read_files tags done (filter (is_here s) (f ∷ [])) ≡ Ok new
here_one s tags done new f is made =
    ap (λ (b : Bool). read_files tags done (cond b (f ∷ []) [])) is ∙ ap (λ (r : Result (List File) Unplayable). r >>= (λ (more : List File). Ok more)) made

fails_more : (e : Unplayable) (r : Result (List File) Unplayable) → Fails e r → Fails e (r >>= (λ (more : List File). Ok more))
fails_more (unplayable.File name number offset) r so = ap (λ (x : Result (List File) Unplayable). x >>= (λ (more : List File). Ok more)) so
fails_more (unplayable.Service number group) r so = ap (λ (x : Result (List File) Unplayable). x >>= (λ (more : List File). Ok more)) so
fails_more (unplayable.Tags number place) r so = ap (λ (x : Result (List File) Unplayable). x >>= (λ (more : List File). Ok more)) so
fails_more (unplayable.Script number) r so = ap (λ (x : Result (List File) Unplayable). x >>= (λ (more : List File). Ok more)) so
fails_more unplayable.NoMemory r so = tt

pub here_fails : (s : Seal) (tags : Tags) (done : List File) (f : Source) (e : Unplayable) → is_here s f ≡ true → Fails e (with_file tags done f)
    → Fails e (read_files tags done (filter (is_here s) (f ∷ [])))
here_fails s tags done f e is so =
    subst (λ (b : Bool). Fails e (read_files tags done (cond b (f ∷ []) []))) (sym is) (fails_more e (with_file tags done f) so)

pub not_here : (s : Seal) (tags : Tags) (done : List File) (f : Source) → is_here s f ≡ false → read_files tags done (filter (is_here s) (f ∷ [])) ≡ Ok done
not_here s tags done f is = ap (λ (b : Bool). read_files tags done (cond b (f ∷ []) [])) is

pub content_one : (s : Seal) (tags : Tags) (f : Source) (found new : List Content) (c : Content) → is_content s tags f ≡ true → c ≡ content_of f → new ≡ found ++ c ∷ []
    → new ≡ found ++ contents_by s tags (f ∷ [])
content_one s tags f found new c is made put =
    put ∙ ap (λ (x : Content). found ++ x ∷ []) made ∙ sym (ap (λ (b : Bool). found ++ map content_of (cond b (f ∷ []) [])) is)

pub no_content : (s : Seal) (tags : Tags) (f : Source) (found : List Content) → is_content s tags f ≡ false → found ≡ found ++ contents_by s tags (f ∷ [])
no_content s tags f found is = sym (append-nil found) ∙ sym (ap (λ (b : Bool). found ++ map content_of (cond b (f ∷ []) [])) is)
