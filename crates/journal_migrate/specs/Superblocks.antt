-- A superblock whose version changes.
use Rattle.std.specs.Prelude.{ℕ, ◌≡◌, ◌∷◌, [], List, IsTrue, slice_index, slice_set}
use Rattle.journal_world.specs.Addresses.{Value}
use Rattle.journal_world.specs.Maps.{SamePairs}
use Rattle.journal_world.specs.Histories.{Entry, is_trusted, latest}
use Rattle.journal_inode.specs.Places.{addr_of, object}
use Rattle.journal_inode.specs.Places.Object.{superblock}
use Rattle.journal_memory.specs.Transactions.{TransactionState}

-- the lowest byte of its version, which is all that the two versions differ by
abbrev pub version_byte : Value → ℕ
version_byte bytes = slice_index bytes 8

-- the bytes with version 2
abbrev pub in_version_two : Value → Value
in_version_two bytes = slice_set bytes 8 2

-- The transaction has read a superblock of version 1, as it is at the end of the history, and
-- overwrites it by the one of version 2. It has done nothing else
pub record DraftsUpgrade (history : List Entry) (t : TransactionState) : Type 0 where
  pub found : Value
  pub agrees : IsTrue (is_trusted history) → object (latest history) superblock ≡ found
  pub of_version_one : version_byte found ≡ 1
  pub reads : SamePairs t.reads ((addr_of superblock, found) ∷ [])
  pub writes : SamePairs t.writes ((addr_of superblock, in_version_two found) ∷ [])
  pub seen : t.seen ≡ history
