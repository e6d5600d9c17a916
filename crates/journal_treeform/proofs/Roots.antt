-- The first block of inodes of a new disk.
use Rattle.std.proofs.Common.{ℕ, ◌≡◌, ◌≢◌, ◌<◌, ◌≤◌, ◌+◌, ◌*◌, ◌⊎◌, inl, inr, [], length, take, drop, replicate, refl, ap, ◌∙◌, arith, append_assoc, length-append}
use Rattle.std.specs.Prelude.{slice_range}
use Rattle.std.proofs.lemmas.Bool.{cases_lt}
use Rattle.std.proofs.lemmas.List.{length-replicate, length-take-le}
use Rattle.journal_world.specs.declared.address.Kind.TheVariants.{Block}
use Rattle.journal_world.specs.Addresses.{zeros_of}
use Rattle.journal_block.specs.Block.{Bytes, with_bytes}
use Rattle.journal_block.proofs.Pieces.{before-with_bytes, after-with_bytes}
use Rattle.journal_treestore.specs.declared.description.Description.{Description}
use Rattle.journal_treestore.specs.declared.inode.Inode.TheVariants.{Used}
use Rattle.journal_treestore.specs.Descriptions.{description_front, description_bytes}
use Rattle.journal_treestore.specs.Inodes.{front_bytes, inode_bytes, HasRoom}
use Rattle.journal_treestore.specs.Views.{held_of, seen}
use Rattle.journal_treestore.specs.Views.Seen.{used}
use Rattle.journal_treestore.proofs.Fields.{inode_read, name_read}
use Rattle.journal_treestore.proofs.Pieces.{slice_behind}
use Rattle.journal_treecalls.specs.Disks.{inode_seen}
use Rattle.journal_treeform.specs.declared.new_tree.NewTree.{NewTree}
use Rattle.journal_treeform.specs.NewDisks.{root_head, root_block, IsPossible}
use Rattle.journal_treeform.proofs.Zeros.{zeros, zero-item, zero-part}

abbrev root_bytes : NewTree → Bytes
root_bytes t = inode_bytes (Used (root_head t)) []

root-long : (t : NewTree) → length (root_bytes t) ≡ 512
unfolding front_bytes
root-long t = refl

zeros-long : length (zeros_of Block) ≡ 4096
unfolding zeros_of
zeros-long = length-replicate {A = ℕ} 4096 0

fits : (t : NewTree) → 512 + length (root_bytes t) ≤ length (zeros_of Block)
fits t = let long = root-long t in let whole = zeros-long in omega (arith, long, whole)

-- the second inode is the root's
pub root-here : (t : NewTree) → slice_range (root_block t) 512 1024 ≡ root_bytes t
unfolding root_block with_bytes
root-here t =
    let long = root-long t in
    let whole = zeros-long in
    ap (λ v. slice_range v 512 1024) (append_assoc (take 512 (zeros_of Block)) (root_bytes t) (drop (512 + length (root_bytes t)) (zeros_of Block)))
    ∙ slice_behind (take 512 (zeros_of Block)) (root_bytes t) (drop (512 + length (root_bytes t)) (zeros_of Block)) 512 1024
    (length-take-le 512 (zeros_of Block) (omega (arith, whole))) (omega (arith, long))

-- and all others are zeros
pub others-here : (t : NewTree) (k : ℕ) → k < 8 → k ≢ 1 → slice_range (root_block t) (k * 512) (k * 512 + 512) ≡ zeros 512
unfolding root_block
others-here t k low other = by (cases_lt k 1) ∙ zero-part 512 (k * 512) (omega (arith, low))
  where
    by : (k < 1) ⊎ (1 ≤ k) → slice_range (with_bytes (zeros_of Block) 512 (root_bytes t)) (k * 512) (k * 512 + 512) ≡ slice_range (zeros_of Block) (k * 512) (k * 512 + 512)
    by (inl before) = before-with_bytes (zeros_of Block) (root_bytes t) 512 (fits t) (k * 512) (k * 512 + 512) (omega (arith, before))
    by (inr after) = let long = root-long t in after-with_bytes (zeros_of Block) (root_bytes t) 512 (fits t) (k * 512) (k * 512 + 512) (omega (arith, after, other, long))

root-room : (t : NewTree) → IsPossible t → HasRoom (root_head t)
root-room t p =
    let mode = p.mode in
    let nanos = p.made.1 in
    record {
      mode = omega (arith, mode);
      generation = omega arith;
      size = omega arith;
      owner = p.owner;
      group = p.group;
      directory = omega arith;
      place = omega arith;
      mtime = (p.made.0, omega (arith, nanos));
      ctime = (p.made.0, omega (arith, nanos));
      verifier = tt;
      count = refl;
      blocks = λ j. let none = zero-item 48 j in omega (arith, none);
      index = omega arith;
    }

-- it shows the root
pub root-seen : (t : NewTree) → IsPossible t → inode_seen (root_bytes t) ≡ used (held_of (root_head t) [])
root-seen t p =
    let inode = inode_read (Used (root_head t)) [] (root-room t p) (omega arith) in
    let name = name_read (root_head t) [] refl in
    λ i. seen (inode i) (name i)

-- the block of the root, in its pieces
pub root-block-is : (t : NewTree) → with_bytes (zeros_of Block) 512 (root_bytes t) ≡ root_block t
unfolding root_block
root-block-is t = refl

-- ── the description ──

pub description-long : (d : Description) → length (description_bytes d) ≡ 4096
unfolding description_bytes description_front
description-long d = length-append (description_front d) (replicate 4056 0) ∙ (let rest : length (zeros 4056) ≡ 4056 = length-replicate {A = ℕ} 4056 0 in omega (arith, rest))
