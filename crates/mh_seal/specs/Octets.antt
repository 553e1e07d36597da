-- Octets: what is a digest.
use Rattle.std.specs.Prelude.{◌==◌, ℕ, Bool, ◌&&◌, nat_lt, List, length}
use Rattle.std.specs.List.{list_all}

-- 32 bytes
abbrev pub is_digest : List ℕ → Bool
is_digest d = length d == 32 && list_all (λ b. nat_lt b 256) d
