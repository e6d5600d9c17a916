-- The blocks of the levels.
use Rattle.std.proofs.Common.{◌≡◌, ℕ, zero, suc, ◌<◌, ◌≤◌, sym, arith}
use Rattle.journal_treestore.specs.Levels.{level_width, level_begin, level_block, IsBlockFor}
use Rattle.journal_treestore.specs.Levels.IsBlockFor.{any_name, in_level}

-- a level has a block
pub width-some : (level : ℕ) → 0 < level_width level
width-some zero = omega arith
width-some (suc level) = let some = width-some level in omega (arith, some)

-- the block of a tag comes after the first blocks
pub begin-past : (level : ℕ) → 48 ≤ level_begin level
begin-past zero = omega arith
begin-past (suc level) = let past = begin-past level in omega (arith, past)

pub level-past : (tag level : ℕ) → 48 ≤ level_block tag level
level-past tag level = let past = begin-past level in omega (arith, past)

-- and is one of the directory
pub level-low : (tag level : ℕ) → level < 4 → level_block tag level < 388
level-low tag zero low = omega arith
level-low tag (suc zero) low = omega arith
level-low tag (suc (suc zero)) low = omega arith
level-low tag (suc (suc (suc zero))) low = omega arith
level-low tag (suc (suc (suc (suc level)))) low = absurd (omega (arith, low))

-- so is each block for it
pub block-low : (tag j : ℕ) → IsBlockFor tag j → j < 388
block-low tag j (any_name low) = omega (arith, low)
block-low tag j (in_level level low is) = let few = level-low tag level low in omega (arith, is, few)

-- that of no level so far
abbrev pub IsNoneUpTo : ℕ → ℕ → ℕ → Type 0
IsNoneUpTo tag j level = (l : ℕ) → l < level → level_block tag l ≡ j → ⊥

-- so it is none for the tag
pub not-for : (tag j : ℕ) → 48 ≤ j → IsNoneUpTo tag j 4 → IsBlockFor tag j → ⊥
not-for tag j past none (any_name low) = absurd (omega (arith, past, low))
not-for tag j past none (in_level level low is) = none level low (sym is)
