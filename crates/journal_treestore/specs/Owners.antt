-- The record of who has a block, and its 8 bytes.
use Rattle.std.specs.Prelude.{ℕ, List, ◌++◌}
use Rattle.std.specs.Int.{w32, to_le_bytes}
use Rattle.journal_treestore.specs.declared.owner.Owner.{Owner}
use Rattle.journal_treestore.specs.Bytes.{word_at}

abbrev pub no_owner : Owner
no_owner = record { number = 0; place = 0 }

-- number and place, little-endian
abbrev pub owner_bytes : Owner → List ℕ
owner_bytes o = to_le_bytes w32 o.number ++ to_le_bytes w32 o.place

-- the record that these bytes are
abbrev pub owner_from : List ℕ → Owner
owner_from v = record { number = word_at v 0; place = word_at v 4 }
