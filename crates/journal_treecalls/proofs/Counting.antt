-- How many objects a WRITE writes.
use Rattle.std.proofs.Common.{◌≡◌, ℕ, ◌+◌, ◌-◌, ◌*◌, ◌/◌, ◌<◌, ◌≤◌, Bool, true, false, cond, eqb, List, length, subst, sym, arith}
use Rattle.journal_treecalls.specs.declared.reach.Reach.{Reach}
use Rattle.journal_treecalls.specs.Disks.{Write}
use Rattle.journal_treecalls.specs.Counts.{most_blocks, most_leaves, most_written}
use Rattle.journal_treecalls.specs.Reaches.{reach_for, reach_count}

blocks-few : (from n : ℕ) → 0 < n → (from + n + 4095) / 4096 - from / 4096 ≤ (n + 4094) / 4096 + 1
blocks-few from n some = omega (arith, some)

leaves-few : (block end : ℕ) → block ≤ end → (end + 1023 - 48) / 1024 - (block - 48) / 1024 ≤ (end - block + 1022) / 1024 + 1
leaves-few block end order = omega (arith, order)

leaves-more : (few many : ℕ) → few ≤ many → (few + 1022) / 1024 + 1 ≤ (many + 1022) / 1024 + 1
leaves-more few many less = omega (arith, less)

count-few : (r : Reach) (blocks leaves : ℕ) → r.blocks ≤ blocks → r.leaves ≤ leaves → reach_count r ≤ blocks + leaves + 1
count-few r blocks leaves few low = at (eqb r.leaves 0)
  where
    at : (none : Bool) → cond none r.blocks (r.blocks + r.leaves + 1) ≤ blocks + leaves + 1
    at true = omega (arith, few)
    at false = omega (arith, few, low)

then-few : (a b c : ℕ) → a ≤ b → b ≤ c → a ≤ c
then-few a b c first second = omega (arith, first, second)

reach-few : (from n : ℕ) → 0 < n → reach_count (reach_for from (from + n)) ≤ most_blocks n + most_leaves (most_blocks n) + 1
reach-few from n some =
    let few = blocks-few from n some in
    count-few (reach_for from (from + n)) (most_blocks n) (most_leaves (most_blocks n)) few
    (then-few _ _ _ (leaves-few (from / 4096) ((from + n + 4095) / 4096) (omega arith)) (leaves-more ((from + n + 4095) / 4096 - from / 4096) (most_blocks n) few))

sum-few : (places most gap put all : ℕ) → places ≤ most → gap ≤ 1 → put ≤ gap + 2 * places → all ≡ put + 1 → all ≤ 2 * most + 2
sum-few places most gap put all few one laid last = omega (arith, few, one, laid, last)

-- the block in which the file ended, the blocks that are reached, and the inode
pub file-few : (offset n : ℕ) (r : Reach) (gap put ws : List Write) → 0 < n → r ≡ reach_for offset (offset + n) → length gap ≤ 1 → length put ≤ length gap + 2 * reach_count r → length ws ≡ length put + 1 → length ws ≤ most_written n
file-few offset n r gap put ws some is one laid last =
    sum-few (reach_count r) (most_blocks n + most_leaves (most_blocks n) + 1) (length gap) (length put) (length ws)
    (subst (λ (s : Reach). reach_count s ≤ most_blocks n + most_leaves (most_blocks n) + 1) (sym is) (reach-few offset n some)) one laid last
