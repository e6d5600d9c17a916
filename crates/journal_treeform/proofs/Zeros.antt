-- Zeros, as the objects of a disk.
use Rattle.std.proofs.Common.{ℕ, zero, suc, ◌≡◌, ◌≤◌, ◌+◌, ◌-◌, List, get_or, replicate, take, drop, refl, ap, ◌∙◌, arith}
use Rattle.std.specs.Prelude.{slice_range}
use Rattle.std.specs.Int.{w32, from_le_bytes}
use Rattle.std.proofs.lemmas.List.{take-replicate, drop-replicate}
use Rattle.journal_world.specs.declared.address.Kind.TheVariants.{Block}
use Rattle.journal_world.specs.Addresses.{zeros_of}
use Rattle.journal_treestore.specs.Bytes.{word_at}
use Rattle.journal_treestore.specs.Inodes.{inode_from}
use Rattle.journal_treestore.specs.Owners.{no_owner, owner_from}
use Rattle.journal_treestore.specs.Views.Seen.{free}
use Rattle.journal_treecalls.specs.Disks.{inode_seen}

abbrev pub zeros : ℕ → List ℕ
zeros n = replicate n 0

pub zero-item : (n i : ℕ) → get_or (zeros n) i 0 ≡ 0
zero-item zero i = refl
zero-item (suc n) zero = refl
zero-item (suc n) (suc i) = zero-item n i

zero-range : (n size i : ℕ) → i + size ≤ n → slice_range (zeros n) i (i + size) ≡ zeros size
zero-range n size i inside =
    let e : i + size - i ≡ size = omega arith in
    ap (λ m. take {A = ℕ} m (drop i (replicate n 0))) e ∙ ap (take size) (drop-replicate {X = ℕ} i n 0) ∙ take-replicate {X = ℕ} size (n - i) 0 (omega (arith, inside))

pub zero-part : (size i : ℕ) → i + size ≤ 4096 → slice_range (zeros_of Block) i (i + size) ≡ zeros size
unfolding zeros_of
zero-part size i inside = zero-range 4096 size i inside

zero-word : (n at : ℕ) → at + 4 ≤ n → word_at (zeros n) at ≡ 0
unfolding word_at
zero-word n at room = ap (from_le_bytes w32) (zero-range n 4 at room)

-- the record of a block that was never taken
pub zero-owner : owner_from (zeros 8) ≡ no_owner
zero-owner = λ i. record { number = zero-word 8 0 (omega arith) i; place = zero-word 8 4 (omega arith) i }

-- an inode that was never in use
pub zero-inode : inode_seen (zeros 512) ≡ free 0
unfolding inode_from
zero-inode = ap free (zero-word 512 4 (omega arith))

pub zero-block : zeros_of Block ≡ zeros 4096
unfolding zeros_of
zero-block = refl
