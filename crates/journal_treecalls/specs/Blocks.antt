-- Blocks that nobody has, and the records of those that somebody has.
use Rattle.std.specs.Prelude.{ℕ, ◌≡◌, ◌≢◌, ◌<◌, ◌≤◌, ◌+◌, Bool, true, false, Option, Some, None}
use Rattle.journal_treestore.specs.declared.owner.Owner.{Owner}
use Rattle.journal_treestore.specs.Views.{Held, View, block_at}
use Rattle.journal_treestore.specs.Views.Seen.{used}
use Rattle.journal_treestore.specs.Steps.{IsUnowned}

-- the record of a block that an inode has at a place
abbrev pub owner_of : ℕ → ℕ → Owner
owner_of n j = record { number = n; place = j }

-- The block is one of data, and the inode that its record names has it not there
pub record HasFreeBlock (V : View) (b : ℕ) : Type 0 where
  pub from : V.first_data ≤ b
  pub to : b < V.first_data + V.data_blocks
  pub unowned : IsUnowned V b

abbrev pub IsFreeBlock : View → Option ℕ → Type 0
IsFreeBlock V None = Unit {0}
IsFreeBlock V (Some b) = HasFreeBlock V b

-- if there is a block, it is this one
abbrev pub IsThis : ℕ → Option ℕ → Type 0
IsThis b None = Unit {0}
IsThis b (Some f) = f ≡ b

-- the block, if nobody has it
abbrev pub if_nobodys : ℕ → Bool → Option ℕ
if_nobodys b true = None
if_nobodys b false = Some b

-- Where it is said that the inode that a record names has the block not, it has it not
abbrev pub IsHad : View → ℕ → Owner → Bool → Type 0
IsHad V b o true = Unit {0}
IsHad V b o false = b ≢ 0 → (h : Held) → V.inode o.number ≡ used h → block_at V h o.place ≢ b
