-- The numbers of a file's blocks, as its inode has them.
use Rattle.std.proofs.Common.{ℕ, zero, suc, ◌≡◌, ◌<◌, ◌≤◌, ◌+◌, ◌-◌, ◌*◌, ◌/◌, ◌^◌, max, List, [], ◌∷◌, ◌++◌, length, take, drop, replicate, slice_range, get_or, refl, sym, ap, subst, ◌∙◌, arith, rules, length-append, lit<}
use Rattle.std.specs.Prelude.{slice_index}
use Rattle.std.proofs.lemmas.List.{same_lists, places, take_at, drop_at, length-take-le}
use Rattle.journal_world.specs.declared.layout.TheConstants.{BLOCK_BYTES}
use Rattle.journal_world.specs.Maps.{Map}
use Rattle.journal_inode.specs.declared.version.FormatVersion.{FormatVersion}
use Rattle.journal_inode.specs.declared.version.FormatVersion.TheVariants.{One, Two}
use Rattle.journal_inode.specs.declared.node.FileNode.{FileNode}
use Rattle.journal_inode.specs.declared.node.TheConstants.{MORE_BLOCKS}
use Rattle.journal_inode.specs.Versions.{most_bytes, extra_count, room_of}
use Rattle.journal_inode.specs.Sound.{file_blocks, stored, content, IsSoundFile}
use Rattle.journal_inode.proofs.Blocks.{more_fits}
use Rattle.journal_filestore.specs.Changes.{extra_blocks_of}

-- a file's greatest size is far below the greatest number of 8 bytes
pub most_few : (version : FormatVersion) → most_bytes version < 2 ^ 63
most_few One = lit< tt
most_few Two = lit< tt

-- a greater file has no fewer blocks
pub more_rises : (version : FormatVersion) (a b : ℕ) → a ≤ b → extra_count version a ≤ extra_count version b
more_rises One a b less = omega arith
more_rises Two a b less = omega (arith, less)

-- the last byte lies in the last block
pub last_fits : (version : FormatVersion) (s end : ℕ) → 0 < end → end ≤ most_bytes version → (end - 1) / BLOCK_BYTES ≤ extra_count version (max s end)
last_fits One s end some small = omega (arith, some, small)
last_fits Two s end some small = omega (arith, some, small)

-- where more blocks are needed, it is in the last of them
pub last_is : (version : FormatVersion) (s end : ℕ) → 0 < end → extra_count version s < extra_count version (max s end) → extra_count version (max s end) ≡ (end - 1) / BLOCK_BYTES
last_is One s end some more = absurd (omega (arith, more))
last_is Two s end some more = omega (arith, some, more)

-- a block has bytes where a size ends in it
pub size_in_block : (version : FormatVersion) (size : ℕ) → size ≤ most_bytes version → (BLOCK_BYTES * extra_count version size ≤ size) × (size ≤ BLOCK_BYTES * extra_count version size + BLOCK_BYTES)
size_in_block One size small = (omega arith, omega (arith, small))
size_in_block Two size small = (omega arith, omega arith)

-- a byte below the size lies in a block that is there
pub byte_in_block : (version : FormatVersion) (size end : ℕ) → 0 < end → end ≤ size → size ≤ most_bytes version → (end - 1) / BLOCK_BYTES ≤ extra_count version size
byte_in_block One size end some within small = omega (arith, some, within, small)
byte_in_block Two size end some within small = omega (arith, some, within)

pub take_more : (kept fresh : List ℕ) (k : ℕ) → length kept + length fresh ≡ k → take k (extra_blocks_of kept fresh) ≡ kept ++ fresh
take_more kept fresh k whole =
    take_at (kept ++ fresh) _ k (length-append kept fresh ∙ whole)

pub drop_more : (kept fresh : List ℕ) (k : ℕ) → length kept + length fresh ≡ k → drop k (extra_blocks_of kept fresh) ≡ replicate (MORE_BLOCKS - k) 0
drop_more kept fresh k whole =
    drop_at (kept ++ fresh) _ k (length-append kept fresh ∙ whole)
    ∙ ap (λ n. replicate (MORE_BLOCKS - n) 0) whole

-- an inode's blocks, where it has just as many numbers as it needs
pub blocks_more : (version : FormatVersion) (g : FileNode) (kept fresh : List ℕ) → g.more ≡ extra_blocks_of kept fresh → length kept + length fresh ≡ extra_count version g.size
    → file_blocks version g ≡ g.block ∷ (kept ++ fresh)
blocks_more version g kept fresh is whole = ap (λ xs. g.block ∷ take (extra_count version g.size) xs) is ∙ ap (λ xs. g.block ∷ xs) (take_more kept fresh (extra_count version g.size) whole)

pub absent_more : (version : FormatVersion) (g : FileNode) (kept fresh : List ℕ) → g.more ≡ extra_blocks_of kept fresh → length kept + length fresh ≡ extra_count version g.size
    → drop (extra_count version g.size) g.more ≡ replicate (MORE_BLOCKS - extra_count version g.size) 0
absent_more version g kept fresh is whole = ap (drop (extra_count version g.size)) is ∙ drop_more kept fresh (extra_count version g.size) whole

-- so many of its further numbers
pub length-kept : (version : FormatVersion) (f : FileNode) (size : ℕ) → length f.more ≡ MORE_BLOCKS → size ≤ most_bytes version → length (take (extra_count version size) f.more) ≡ extra_count version size
length-kept version f size many small = length-take-le (extra_count version size) f.more (subst (λ n. extra_count version size ≤ n) (sym many) (more_fits version size small))

-- what a sound file's blocks hold
pub stored-zeros : (version : FormatVersion) (m : Map) (f : FileNode) → IsSoundFile version m f
    → stored version m f ≡ content version m f ++ replicate (room_of version f.size - length (content version m f)) 0
stored-zeros version m f sound = sound.padded ∙ ap (λ n. content version m f ++ replicate (room_of version f.size - n) 0) (sym sound.whole)

-- zeros behind zeros
pub zeros_join : (a b c d : ℕ) → a + b ≡ c + d → replicate {A = ℕ} a 0 ++ replicate {A = ℕ} b 0 ≡ replicate {A = ℕ} c 0 ++ replicate {A = ℕ} d 0
zeros_join a b c d same = same_lists _ _ (search (rules, places)) (λ i e h. grind (arith, places))

-- the numbers, and then those, over zeros
pub put_twice : (kept fresh : List ℕ) (n : ℕ) → length kept + length fresh ≤ n
    → take (length kept) (take 0 (replicate {A = ℕ} n 0) ++ kept ++ drop (0 + length kept) (replicate {A = ℕ} n 0)) ++ fresh ++ drop (length kept + length fresh) (take 0 (replicate {A = ℕ} n 0) ++ kept ++ drop (0 + length kept) (replicate {A = ℕ} n 0))
    ≡ kept ++ fresh ++ replicate {A = ℕ} (n - (length kept + length fresh)) 0
put_twice kept fresh n room = same_lists _ _ (search (rules, places)) (λ i e h. grind (arith, places))

-- numbers of 8 bytes, and others behind them
pub append_fits : (xs ys : List ℕ) → ((k : ℕ) → slice_index xs k < 2 ^ 64) → ((k : ℕ) → slice_index ys k < 2 ^ 64) → (k : ℕ) → slice_index (xs ++ ys) k < 2 ^ 64
append_fits [] ys first second k = second k
append_fits (x ∷ xs) ys first second zero = first zero
append_fits (x ∷ xs) ys first second (suc k) = append_fits xs ys (λ j. first (suc j)) second k

zero_at : (n k : ℕ) → slice_index (replicate {A = ℕ} n 0) k ≡ 0
zero_at zero k = refl
zero_at (suc n) zero = refl
zero_at (suc n) (suc k) = zero_at n k

pub zeros_fit : (n k : ℕ) → slice_index (replicate {A = ℕ} n 0) k < 2 ^ 64
zeros_fit n k = subst (λ x. x < 2 ^ 64) (sym (zero_at n k)) (lit< tt)

-- a list that is not empty is its first and the rest
pub first_and_rest : (xs : List ℕ) (d : ℕ) → 0 < length xs → xs ≡ get_or xs 0 d ∷ drop 1 xs
first_and_rest [] d some = absurd (omega (arith, some))
first_and_rest (x ∷ xs) d some = refl

pub rest_range : (xs : List ℕ) (n : ℕ) → n ≡ length xs → slice_range xs 1 n ≡ drop 1 xs
rest_range xs n is = same_lists _ _ (search (rules, places)) (λ i e h. grind (arith, places))
