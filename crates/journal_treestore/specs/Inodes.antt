-- An inode and its 512 bytes.
use Rattle.std.specs.Prelude.{ℕ, ◌≡◌, ◌<◌, ◌+◌, ◌-◌, ◌*◌, ◌^◌, ◌==◌, if◌then◌else◌, List, [], ◌∷◌, ◌++◌, length, map, flat_map, replicate, slice_range, get_or, Option, Some, None}
use Rattle.std.specs.List.{range_with_len}
use Rattle.std.specs.Int.{w16, w32, w64, to_le_bytes}
use Rattle.journal_tree.specs.declared.time.Time.{Time}
use Rattle.journal_tree.specs.declared.reply.Attributes.{Attributes}
use Rattle.journal_tree.specs.declared.reply.Kind.{Kind}
use Rattle.journal_tree.specs.declared.reply.Kind.TheVariants.{Directory, File, Link}
use Rattle.journal_tree.specs.Fit.{IsOptionalLong}
use Rattle.journal_treestore.specs.declared.inode.TheConstants.{DIRECT_BLOCKS}
use Rattle.journal_treestore.specs.declared.inode.Head.{Head}
use Rattle.journal_treestore.specs.declared.inode.Inode.{Inode}
use Rattle.journal_treestore.specs.declared.inode.Inode.TheVariants.{Free, Used}
use Rattle.journal_treestore.specs.Bytes.{half_at, word_at, long_at}

-- the byte of a kind. That of a free inode is 0
abbrev pub kind_byte : Kind → ℕ
kind_byte Directory = 1
kind_byte File = 2
kind_byte Link = 3

-- the first 48 bytes: kind, length of the name, mode, generation, size, owner, group, directory,
-- place, mtime and ctime, little-endian
unfoldable pub front_bytes : ℕ → ℕ → ℕ → ℕ → ℕ → ℕ → ℕ → ℕ → ℕ → Time → Time → List ℕ
front_bytes kind length mode generation size owner group directory place mtime ctime =
    (kind ∷ length ∷ []) ++ to_le_bytes w16 mode ++ to_le_bytes w32 generation ++ to_le_bytes w64 size ++ to_le_bytes w32 owner
    ++ to_le_bytes w32 group ++ to_le_bytes w32 directory ++ to_le_bytes w32 place ++ to_le_bytes w32 mtime.secs
    ++ to_le_bytes w32 mtime.nanos ++ to_le_bytes w32 ctime.secs ++ to_le_bytes w32 ctime.nanos

-- the 8 bytes of a verifier, little-endian, and the byte that says whether there is one
abbrev pub verifier_bytes : Option ℕ → List ℕ
verifier_bytes None = replicate 8 0
verifier_bytes (Some verifier) = to_le_bytes w64 verifier

abbrev pub verifier_flag : Option ℕ → ℕ
verifier_flag None = 0
verifier_flag (Some verifier) = 1

-- the blocks' numbers, 4 bytes each, that of the block with the numbers of the index blocks, zeros
-- up to byte 248, the verifier, the name, zeros up to byte 511, and the byte that says whether
-- there is a verifier
abbrev pub rest_bytes : List ℕ → ℕ → Option ℕ → List ℕ → List ℕ
rest_bytes blocks index verifier name =
    flat_map (to_le_bytes w32) blocks ++ to_le_bytes w32 index ++ replicate 4 0 ++ verifier_bytes verifier ++ name ++ replicate (255 - length name) 0 ++ (verifier_flag verifier ∷ [])

abbrev pub no_time : Time
no_time = record { secs = 0; nanos = 0 }

abbrev pub no_blocks : List ℕ
no_blocks = replicate DIRECT_BLOCKS 0

-- what a free inode of this generation has in its fields
abbrev pub no_head : ℕ → Head
no_head generation = record {
  kind = Directory;
  generation = generation;
  attributes = record { mode = 0; owner = 0; group = 0; mtime = no_time; ctime = no_time; verifier = None };
  directory = 0;
  place = 0;
  size = 0;
  blocks = no_blocks;
  index = 0;
}

abbrev pub front_of : ℕ → ℕ → Head → List ℕ
front_of kind length h =
    front_bytes kind length h.attributes.mode h.generation h.size h.attributes.owner h.attributes.group h.directory h.place h.attributes.mtime h.attributes.ctime

-- the bytes of an inode with this name. A free one has none
abbrev pub inode_bytes : Inode → List ℕ → List ℕ
inode_bytes (Free generation) name = front_of 0 0 (no_head generation) ++ rest_bytes no_blocks 0 None []
inode_bytes (Used h) name = front_of (kind_byte h.kind) (length name) h ++ rest_bytes h.blocks h.index h.attributes.verifier name

abbrev pub time_at : List ℕ → ℕ → Time
time_at v at = record { secs = word_at v at; nanos = word_at v (at + 4) }

-- the blocks' numbers
abbrev pub blocks_at : List ℕ → List ℕ
blocks_at v = map (λ j. word_at v (48 + 4 * j)) (range_with_len 0 DIRECT_BLOCKS)

-- the verifier, if the byte 511 says that there is one
unfoldable pub verifier_at : List ℕ → Option ℕ
verifier_at v = if get_or v 511 0 == 1 then Some (long_at v 248) else None

abbrev pub attributes_at : List ℕ → Attributes
attributes_at v = record {
  mode = half_at v 2;
  owner = word_at v 16;
  group = word_at v 20;
  mtime = time_at v 32;
  ctime = time_at v 40;
  verifier = verifier_at v;
}

-- the inode in use of these bytes
abbrev pub head_from : Kind → List ℕ → Head
head_from kind v = record { kind = kind; generation = word_at v 4; attributes = attributes_at v; directory = word_at v 24; place = word_at v 28; size = long_at v 8; blocks = blocks_at v; index = word_at v 240 }

-- the inode that these bytes are, if they are one's
unfoldable pub inode_from : List ℕ → Inode
inode_from v =
    if get_or v 0 0 == 1 then Used (head_from Directory v)
    else if get_or v 0 0 == 2 then Used (head_from File v)
    else if get_or v 0 0 == 3 then Used (head_from Link v)
    else Free (word_at v 4)

-- and its name
unfoldable pub name_from : List ℕ → List ℕ
name_from v = slice_range v 256 (256 + get_or v 1 0)

abbrev pub IsWords : Time → Type 0
IsWords t = (t.secs < 2 ^ 32) × (t.nanos < 2 ^ 32)

-- An inode's numbers have room in their bytes
pub record HasRoom (h : Head) : Type 0 where
  pub mode : h.attributes.mode < 2 ^ 16
  pub generation : h.generation < 2 ^ 32
  pub size : h.size < 2 ^ 64
  pub owner : h.attributes.owner < 2 ^ 32
  pub group : h.attributes.group < 2 ^ 32
  pub directory : h.directory < 2 ^ 32
  pub place : h.place < 2 ^ 32
  pub mtime : IsWords h.attributes.mtime
  pub ctime : IsWords h.attributes.ctime
  pub verifier : IsOptionalLong h.attributes.verifier
  pub count : length h.blocks ≡ DIRECT_BLOCKS
  pub blocks : (j : ℕ) → get_or h.blocks j 0 < 2 ^ 32
  pub index : h.index < 2 ^ 32

abbrev pub InodeHasRoom : Inode → Type 0
InodeHasRoom (Free generation) = generation < 2 ^ 32
InodeHasRoom (Used h) = HasRoom h
