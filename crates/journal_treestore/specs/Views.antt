-- The objects of a disk: inodes, owners of blocks, blocks. And the tree that
-- they make.
use Rattle.std.specs.Prelude.{ℕ, zero, suc, ◌+◌, ◌-◌, ◌*◌, ◌/◌, ◌%◌, ◌==◌, ◌&&◌, nat_le, nat_lt, if◌then◌else◌, List, [], ◌++◌, take, replicate, get_or, Option, Some, None}
use Rattle.journal_tree.specs.declared.limits.TheConstants.{MOST_BLOCKS, MOST_FILE_BLOCKS}
use Rattle.journal_tree.specs.declared.reply.Attributes.{Attributes}
use Rattle.journal_tree.specs.declared.reply.Kind.{Kind}
use Rattle.journal_tree.specs.declared.reply.Kind.TheVariants.{Directory, File, Link}
use Rattle.journal_tree.specs.Trees.{Home, Body, Node, Slot, Tree}
use Rattle.journal_tree.specs.Trees.Body.{directory, file, link}
use Rattle.journal_treestore.specs.declared.owner.Owner.{Owner}
use Rattle.journal_treestore.specs.declared.entry.TheConstants.{PLACES}
use Rattle.journal_treestore.specs.declared.entry.Entry.{Entry}
use Rattle.journal_treestore.specs.declared.inode.Head.{Head}
use Rattle.journal_treestore.specs.declared.inode.TheConstants.{DIRECT_BLOCKS, INDEX_NUMBERS, INDEX_PLACE, FIRST_INDEX_PLACE}
use Rattle.journal_treestore.specs.declared.inode.Inode.{Inode}
use Rattle.journal_treestore.specs.declared.inode.Inode.TheVariants.{Free, Used}
use Rattle.journal_treestore.specs.Bytes.{word_at}
use Rattle.journal_treestore.specs.Entries.{entry_from, no_entry}

-- An inode in use with its name, its first blocks by their place, and the block with the numbers of
-- its index blocks. It is 0 where there is none
pub record Held : Type 0 where
  pub generation : ℕ
  pub attributes : Attributes
  pub home : Home
  pub kind : Kind
  pub size : ℕ
  pub blocks : ℕ → ℕ
  pub index : ℕ

-- An inode with its name: free, with the generation of its last node, or in use
pub data Seen : Type 0 where
  free : ℕ → Seen
  used : Held → Seen

abbrev pub held_of : Head → List ℕ → Held
held_of h name = record {
  generation = h.generation;
  attributes = h.attributes;
  home = record { directory = h.directory; place = h.place; name = name };
  kind = h.kind;
  size = h.size;
  blocks = λ j. get_or h.blocks j 0;
  index = h.index;
}

abbrev pub seen : Inode → List ℕ → Seen
seen (Free g) name = free g
seen (Used h) name = used (held_of h name)

-- A disk: the number of inodes, the first block of data, the number of such blocks, and each inode,
-- owner's record and block
pub record View : Type 0 where
  pub numbers : ℕ
  pub first_data : ℕ
  pub data_blocks : ℕ
  pub inode : ℕ → Seen
  pub owner : ℕ → Owner
  pub block : ℕ → List ℕ

-- one of them overwritten
abbrev pub with_inode : View → ℕ → Seen → View
with_inode V n x = record { numbers = V.numbers; first_data = V.first_data; data_blocks = V.data_blocks; inode = λ i. if i == n then x else V.inode i; owner = V.owner; block = V.block }

abbrev pub with_owner : View → ℕ → Owner → View
with_owner V b o = record { numbers = V.numbers; first_data = V.first_data; data_blocks = V.data_blocks; inode = V.inode; owner = λ i. if i == b then o else V.owner i; block = V.block }

abbrev pub with_block : View → ℕ → List ℕ → View
with_block V b v = record { numbers = V.numbers; first_data = V.first_data; data_blocks = V.data_blocks; inode = V.inode; owner = V.owner; block = λ i. if i == b then v else V.block i }

-- ── the blocks of an inode ──

-- number k of a block of numbers, 0 where there is no such block
abbrev pub number_in : View → ℕ → ℕ → ℕ
number_in V b k = if b == 0 then 0 else word_at (V.block b) (4 * k)

-- index block i of an inode
abbrev pub index_block : View → Held → ℕ → ℕ
index_block V h i = number_in V h.index i

-- The block that an inode has at a place: one of its first blocks, one whose number lies in an
-- index block, the block with the numbers of the index blocks, or one of these
unfoldable pub block_at : View → Held → ℕ → ℕ
block_at V h p =
    if nat_lt p DIRECT_BLOCKS then h.blocks p
    else if nat_lt p MOST_FILE_BLOCKS then number_in V (index_block V h ((p - DIRECT_BLOCKS) / INDEX_NUMBERS)) ((p - DIRECT_BLOCKS) % INDEX_NUMBERS)
    else if p == INDEX_PLACE then h.index
    else if nat_le FIRST_INDEX_PLACE p && nat_lt p (FIRST_INDEX_PLACE + INDEX_NUMBERS) then index_block V h (p - FIRST_INDEX_PLACE)
    else 0

-- the first byte of an inode that needs the block at a place
unfoldable pub begin_at : ℕ → ℕ
begin_at p =
    if nat_lt p INDEX_PLACE then 4096 * p
    else if p == INDEX_PLACE then 4096 * DIRECT_BLOCKS
    else 4096 * (DIRECT_BLOCKS + INDEX_NUMBERS * (p - FIRST_INDEX_PLACE))

-- ── the tree ──

unfoldable pub zero_block : List ℕ
zero_block = replicate 4096 0

-- what a block holds. Where there is none, zeros
abbrev pub bytes_in : View → ℕ → List ℕ
bytes_in V b = if b == 0 then zero_block else V.block b

-- what the first blocks of an inode hold
abbrev pub bytes_of : View → (ℕ → ℕ) → ℕ → List ℕ
bytes_of V blocks zero = []
bytes_of V blocks (suc n) = bytes_of V blocks n ++ bytes_in V (blocks n)

abbrev pub content : View → Held → List ℕ
content V h = take h.size (bytes_of V (block_at V h) ((h.size + 4095) / 4096))

abbrev pub body_of : View → Kind → Held → Body
body_of V Directory h = directory (h.size / 8)
body_of V File h = file (content V h)
body_of V Link h = link (content V h)

abbrev pub node_of : View → Held → Node
node_of V h = record { attributes = h.attributes; home = h.home; body = body_of V h.kind h }

abbrev pub slot_of : View → Seen → Slot
slot_of V (free g) = record { generation = g; node = None }
slot_of V (used h) = record { generation = h.generation; node = Some (node_of V h) }

-- the tree of a disk
abbrev pub tree_of : View → Tree
tree_of V = record { numbers = V.numbers; blocks = V.data_blocks; at = λ n. slot_of V (V.inode n) }

-- ── entries ──

abbrev pub entry_in : View → ℕ → ℕ → Entry
entry_in V b at = if b == 0 then no_entry else entry_from (V.block b) at

-- block j of a directory, if it has one there
abbrev pub directory_block : View → Held → ℕ → ℕ
directory_block V h j = if nat_lt j MOST_BLOCKS then block_at V h j else 0

abbrev pub entry_by : View → Kind → Held → ℕ → Entry
entry_by V Directory h place = entry_in V (directory_block V h (place / PLACES)) (place % PLACES)
entry_by V File h place = no_entry
entry_by V Link h place = no_entry

abbrev pub entry_of : View → Seen → ℕ → Entry
entry_of V (free g) place = no_entry
entry_of V (used h) place = entry_by V h.kind h place

-- the entry that a directory has at a place
abbrev pub entry_at : View → ℕ → ℕ → Entry
entry_at V d place = entry_of V (V.inode d) place

abbrev pub home_in : Seen → Option Home
home_in (free g) = None
home_in (used h) = Some h.home

-- where each node hangs, by its inode
abbrev pub homes : View → ℕ → Option Home
homes V n = home_in (V.inode n)
