-- Files under their names.
use Rattle.std.proofs.Common.{◌≡◌, ℕ, Bool, true, false, ◌||◌, if◌then◌else◌, cond, List, [], ◌∷◌, Some, refl, ap, sym, ◌∙◌}
use Rattle.std.specs.Cmp.Lexicographic.{nat_list_eq_equiv}
use Rattle.std.specs.List.{find}
use Rattle.std.specs.Map.{lookup}
use Rattle.std.specs.Option.{option_map, is_some}
use Rattle.std.specs.Str.{bytes_eq}
use Rattle.std.proofs.lemmas.Slice.Eq.{bytes_eq-Decides}
use Rattle.indexmap.specs.IndexMap.{insert_entry}
use Rattle.mh_model.specs.declared.file.File.{File}
use Rattle.mh_model.specs.Files.{content, is_named, with_file}
use Rattle.mh_carousel.specs.Ahead.{has}
use Rattle.mh_carousel.specs.Carried.{file_of, files_of}

pub lookup-content : (n : List ℕ) (es : List (List ℕ × List ℕ)) → lookup (bytes_eq n) es ≡ content n (files_of es)
lookup-content n [] = refl
lookup-content n (e ∷ es) = rw (nat_list_eq_equiv.symm n e.0) (by (bytes_eq e.0 n) (lookup-content n es))
  where
    by : (t : Bool) → lookup (bytes_eq n) es ≡ content n (files_of es) → cond t (Some e.1) (lookup (bytes_eq n) es) ≡ option_map (λ (f : File). f.content) (cond t (Some (file_of e)) (find (is_named n) (files_of es)))
    by true below = refl
    by false below = below

pub lookup-has : (n : List ℕ) (es : List (List ℕ × List ℕ)) → is_some (lookup (bytes_eq n) es) ≡ has n (files_of es)
lookup-has n [] = refl
lookup-has n (e ∷ es) = rw (nat_list_eq_equiv.symm n e.0) (by (bytes_eq e.0 n) (lookup-has n es))
  where
    by : (t : Bool) → is_some (lookup (bytes_eq n) es) ≡ has n (files_of es) → is_some (cond t (Some e.1) (lookup (bytes_eq n) es)) ≡ (t || has n (files_of es))
    by true below = refl
    by false below = below

-- a file that is put
pub insert-with_file : (n os : List ℕ) (es : List (List ℕ × List ℕ)) → files_of (insert_entry bytes_eq es n os) ≡ with_file (record { name = n; content = os }) (files_of es)
insert-with_file n os [] = refl
insert-with_file n os (e ∷ es) = by (bytes_eq n e.0) refl (insert-with_file n os es)
  where
    put : File
    put = record { name = n; content = os }

    by : (t : Bool) → bytes_eq n e.0 ≡ t → files_of (insert_entry bytes_eq es n os) ≡ with_file put (files_of es) → files_of (if t then (e.0, os) ∷ es else e ∷ insert_entry bytes_eq es n os) ≡ with_file put (file_of e ∷ files_of es)
    by true is below =
        let same : n ≡ e.0 = (bytes_eq-Decides n e.0).0 is in
        let back : bytes_eq e.0 n ≡ true = nat_list_eq_equiv.symm e.0 n ∙ is in
        ap (λ (m : List ℕ). record { name = m; content = os } ∷ files_of es) (sym same) ∙ rw back refl
    by false is below =
        let back : bytes_eq e.0 n ≡ false = nat_list_eq_equiv.symm e.0 n ∙ is in
        ap (λ (fs : List File). file_of e ∷ fs) below ∙ rw back refl
