-- Where the log lies on a disk, and what it says.
use Rattle.std.specs.Prelude.{ℕ, zero, suc, ◌≡◌, ◌<◌, ◌≤◌, ◌+◌, ◌-◌, ◌*◌, ◌/◌, ◌%◌, ◌^◌, ◌==◌, ◌&&◌, Bool, true, nat_le, if◌then◌else◌, List, [], ◌∷◌, ◌++◌, length, drop, map, slice_index_or}
use Rattle.std.specs.List.{range_with_len}
use Rattle.journal_block.specs.declared.update.Update.{Update}
use Rattle.journal_block.specs.Block.{Bytes, with_bytes, u64_bytes, u64_at}
use Rattle.journal_block.specs.Updates.{Content}
use Rattle.journal_disk.specs.Disks.{block_at}
use Rattle.journal_world.specs.declared.layout.TheConstants.{FIRST_HOME, LOG_POSITIONS}

-- the block that has the content of a position: 2 + p mod 511
abbrev pub log_block : ℕ → ℕ
log_block p = 2 + p % LOG_POSITIONS

-- where in block 0 the address of a position lies
abbrev pub address_at : ℕ → ℕ
address_at p = 8 + 8 * (p % LOG_POSITIONS)

-- the address that block 0 has for a position
abbrev pub address : Bytes → ℕ → ℕ
address header p = u64_at header (address_at p)

-- block 0 with another end, and with the address of a position
abbrev pub with_end : Bytes → ℕ → Bytes
with_end header end = with_bytes header 0 (u64_bytes end)

abbrev pub with_address : Bytes → ℕ → ℕ → Bytes
with_address header p block = with_bytes header (address_at p) (u64_bytes block)

-- block 1: the start in bytes 0 to 7, and then the label. The label is no part of the log, and each
-- new start leaves it as it is
abbrev pub start_block : (label : Bytes) (start : ℕ) → Bytes
start_block label start = u64_bytes start ++ label

-- the label that block 1 has
abbrev pub label_of : Bytes → Bytes
label_of block = drop 8 block

-- Of a log there are two forms. In the plain one block 0 has the end. In the sealed one it has
-- where the last group begins, and that group is there exactly where each of its log blocks has the
-- tag that block 0 wants of it.

-- block 0 is of the sealed form: a plain one's first number is less than 2^62
abbrev pub is_sealed : Bytes → Bool
is_sealed header = nat_le (2 ^ 63) (u64_at header 0)

-- where the last group of a sealed log begins
abbrev pub begin_of : Bytes → ℕ
begin_of header = u64_at header 0 - 2 ^ 63

-- The word of a position in a sealed log: its home block, how many positions its group has where it
-- is the first, its tag, and the byte that the tag stands for
abbrev pub home_in : Bytes → ℕ → ℕ
home_in header p = address header p % 2 ^ 40

abbrev pub count_in : Bytes → ℕ → ℕ
count_in header p = address header p / 2 ^ 40 % 2 ^ 8

abbrev pub tag_in : Bytes → ℕ → ℕ
tag_in header p = address header p / 2 ^ 48 % 2 ^ 8

abbrev pub first_in : Bytes → ℕ → ℕ
first_in header p = address header p / 2 ^ 56

abbrev pub word_of : (home count tag first : ℕ) → ℕ
word_of home count tag first = home + 2 ^ 40 * count + 2 ^ 48 * tag + 2 ^ 56 * first

-- the tag that a log block has
abbrev pub tag_of : Bytes → ℕ
tag_of bytes = slice_index_or bytes 0 0

-- a log block with a tag, or with the byte that it stands for
abbrev pub with_tag : Bytes → ℕ → Bytes
with_tag bytes tag = with_bytes bytes 0 (tag ∷ [])

-- the tag of a position's log block, in a block that has one byte for each
abbrev pub tag_at : Bytes → ℕ → ℕ
tag_at tags p = slice_index_or tags (p % LOG_POSITIONS) 0

-- a tag that is neither of two
abbrev pub other_tag : ℕ → ℕ → ℕ
other_tag a b = if (a == 0) then (if (b == 1) then 2 else 1) else (if (b == 0) then (if (a == 1) then 2 else 1) else 0)

-- block 0 of a sealed log with the group of n positions as its last
abbrev pub counted : Bytes → (begin n : ℕ) → Bytes
counted header begin n = with_address header begin (word_of (home_in header begin) n (tag_in header begin) (first_in header begin))

abbrev pub with_group : Bytes → (begin n : ℕ) → Bytes
with_group header begin n = with_end (counted header begin n) (2 ^ 63 + begin)

-- each of n positions has the tag that is wanted
abbrev pub are_there : (want have : ℕ → ℕ) (from n : ℕ) → Bool
are_there want have from zero = true
are_there want have from (suc n) = (have from == want from) && are_there want have (suc from) n

-- where a log ends whose last group, of n positions, begins there
abbrev pub end_of : (want have : ℕ → ℕ) (from n : ℕ) → ℕ
end_of want have from n = if are_there want have from n then from + n else from

-- where a sealed log ends
abbrev pub sealed_end : Bytes → Content → ℕ
sealed_end header blocks = end_of (tag_in header) (λ q. tag_of (blocks (log_block q))) (begin_of header) (count_in header (begin_of header))

-- where block 0 and the log blocks say that the log ends
abbrev pub end_by : Bytes → Content → ℕ
end_by header blocks = if is_sealed header then sealed_end header blocks else u64_at header 0

-- the home block of a position, and its content
abbrev pub home_by : Bytes → ℕ → ℕ
home_by header p = if is_sealed header then home_in header p else address header p

abbrev pub bytes_by : Bytes → Content → ℕ → Bytes
bytes_by header blocks p = if is_sealed header then with_tag (blocks (log_block p)) (first_in header p) else blocks (log_block p)

-- the update of a position, where block 0 and the log blocks are these
abbrev pub logged_update : Bytes → Content → ℕ → Update
logged_update header blocks p = record { block = home_by header p; bytes = bytes_by header blocks p }

-- the updates of n positions from p on
abbrev pub updates_from : Bytes → Content → ℕ → ℕ → List Update
updates_from header blocks p n = map (logged_update header blocks) (range_with_len p n)

-- where the log of an image ends, and where it begins
abbrev pub end_in : List Bytes → ℕ
end_in image = end_by (block_at image 0) (block_at image)

abbrev pub start_in : List Bytes → ℕ
start_in image = u64_at (block_at image 1) 0

-- the label of an image
abbrev pub label_in : List Bytes → Bytes
label_in image = label_of (block_at image 1)

-- the image has this label
abbrev pub HasLabel : (label : Bytes) → List Bytes → Type 0
HasLabel label image = label_in image ≡ label

-- the log of an image: the updates of its positions from start to end
abbrev pub log_in : List Bytes → List Update
log_in image = updates_from (block_at image 0) (block_at image) (start_in image) (end_in image - start_in image)

-- Block 0 describes a log from one position to another, on a disk of n blocks
pub record DescribesLog (header : Bytes) (start end n : ℕ) : Type 0 where
  pub narrow : is_sealed header ≡ true → n ≤ 2 ^ 40
  pub ordered : start ≤ end
  pub fits : end ≤ start + LOG_POSITIONS
  pub small : end < 2 ^ 62
  pub addresses : (p : ℕ) → start ≤ p → p < end → (FIRST_HOME ≤ home_by header p) × (home_by header p < n)

-- start and end of the image's log are in order, at most 511 apart and below 2^62, and each address
-- in use is that of a home block
abbrev pub IsWellFormed : List Bytes → Type 0
IsWellFormed image = DescribesLog (block_at image 0) (start_in image) (end_in image) (length image)
