-- The first blocks of the regions of a layout.
use Rattle.std.specs.Prelude.{ℕ, zero, suc, List, [], ◌∷◌}
use Rattle.journal_world.specs.declared.layout.Region.{Region}

-- the first block of the region at a place
abbrev pub first_at : List Region → ℕ → ℕ
first_at [] n = 0
first_at (r ∷ rs) zero = r.first
first_at (r ∷ rs) (suc n) = first_at rs n
