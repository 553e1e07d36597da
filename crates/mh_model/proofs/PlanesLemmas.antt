-- Planes, number by number.
use Rattle.std.specs.Prelude.{◌≡◌, ℕ, ◌<◌, List, [], length, replicate, slice_index, refl}
use Rattle.std.proofs.Common.{ap, arith}
use Rattle.std.proofs.lemmas.List.{length-replicate, get_or-replicate}
use Rattle.std.proofs.lemmas.List.FromFn.{fill_by_all, get_or-map-range_with_len}
use Rattle.mh_model.specs.declared.picture.cell.Cell.{Cell}
use Rattle.mh_model.specs.Planes.{Planes, IsWhole, flat, blank}
use Rattle.mh_model.specs.Picture.{plane, picture_of, cell_of, cell_at}

pub same_planes : (a b c d e f : List ℕ) → a ≡ d → b ≡ e → c ≡ f → ◌≡◌ {A = Planes} (record { scalars = a; fores = b; backs = c }) (record { scalars = d; fores = e; backs = f })
same_planes a b c d e f p q r = rw (p, q, r) refl

-- the number of a plane at a place
pub slice_index-plane : (f : ℕ → ℕ) (c : ℕ) → c < 2160 → slice_index (plane f) c ≡ f c
unfolding plane
slice_index-plane f c inside = get_or-map-range_with_len f 0 2160 c c 0 inside (omega arith)

-- a list with the numbers of a plane is that plane
pub is_plane : (f : ℕ → ℕ) (xs : List ℕ) → length xs ≡ 2160 → ((c : ℕ) → c < 2160 → slice_index xs c ≡ f c) → xs ≡ plane f
unfolding plane
is_plane f xs whole each = fill_by_all f xs 2160 0 whole each

-- planes with the cells of a picture are that picture
pub is_picture : (f : ℕ → Cell) (p : Planes) → IsWhole p → ((c : ℕ) → c < 2160 → cell_of p c ≡ f c) → p ≡ picture_of f
is_picture f p whole each =
    same_planes p.scalars p.fores p.backs (plane (λ c. (f c).scalar)) (plane (λ c. (f c).fore)) (plane (λ c. (f c).back))
    (is_plane (λ c. (f c).scalar) p.scalars whole.scalars (λ c inside. ap (λ (x : Cell). x.scalar) (each c inside)))
    (is_plane (λ c. (f c).fore) p.fores whole.fores (λ c inside. ap (λ (x : Cell). x.fore) (each c inside)))
    (is_plane (λ c. (f c).back) p.backs whole.backs (λ c inside. ap (λ (x : Cell). x.back) (each c inside)))

-- the cells of a picture
pub cell_of-picture : (f : ℕ → Cell) (c : ℕ) → c < 2160 → cell_of (picture_of f) c ≡ f c
cell_of-picture f c inside =
    rw (slice_index-plane (λ k. (f k).scalar) c inside, slice_index-plane (λ k. (f k).fore) c inside, slice_index-plane (λ k. (f k).back) c inside) refl

-- nothing on the display stack
pub blank-picture : blank ≡ picture_of (cell_at [] [])
unfolding flat
blank-picture =
    same_planes (replicate 2160 32) (replicate 2160 0) (replicate 2160 0) (plane (λ c. 32)) (plane (λ c. 0)) (plane (λ c. 0))
    (is_plane (λ c. 32) (replicate 2160 32) (length-replicate {A = ℕ} 2160 32) (λ c inside. get_or-replicate {A = ℕ} 2160 c 32 0 inside))
    (is_plane (λ c. 0) (replicate 2160 0) (length-replicate {A = ℕ} 2160 0) (λ c inside. get_or-replicate {A = ℕ} 2160 c 0 0 inside))
    (is_plane (λ c. 0) (replicate 2160 0) (length-replicate {A = ℕ} 2160 0) (λ c inside. get_or-replicate {A = ℕ} 2160 c 0 0 inside))
