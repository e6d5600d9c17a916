-- How many blocks a call overwrites.
use Rattle.std.proofs.Common.{ℕ, suc, ◌≡◌, ◌<◌, ◌≤◌, List, [], ◌∷◌, length, refl, ap, arith}
use Rattle.journal_world.specs.Maps.{Pair, SamePairs}
use Rattle.journal_tail.specs.declared.limits.TheConstants.{MAX_UPDATES}
use Rattle.journal_tail.specs.Writes.{written_blocks}
use Rattle.journal_treestore.specs.declared.place.Cut.{Cut}
use Rattle.journal_treecalls.specs.Disks.{Write}
use Rattle.journal_treeobjects.specs.Effects.{pairs_of}
use Rattle.journal_attempts.proofs.Few.{written-few}

-- each write of a call is one of them
pairs-many : (c : Cut) (ws : List Write) → length (pairs_of c ws) ≡ length ws
pairs-many c [] = refl
pairs-many c (w ∷ ws) = ap suc (pairs-many c ws)

-- a call that writes more blocks than a transaction has room for may make so many writes
pub call-large : (c : Cut) (ws : List Write) (writes : List Pair) (most : ℕ) → SamePairs writes (pairs_of c ws) → length ws ≤ most → MAX_UPDATES < written_blocks writes → MAX_UPDATES < most
call-large c ws writes most same fits more = let blocks = written-few writes (pairs_of c ws) same in let many = pairs-many c ws in omega (arith, blocks, many, fits, more)
