-- The blocks of a directory, and the entries in them.
use Rattle.std.proofs.Common.{ℕ, ◌≡◌, ◌≢◌, ◌<◌, ◌≤◌, ◌+◌, ◌-◌, ◌*◌, ◌/◌, ◌%◌, Bool, true, false, cond, List, [], get_or, refl, sym, ap, subst, ◌⊎◌, inl, inr, ◌∙◌, arith}
use Rattle.std.specs.Prelude.{◌↔◌, IsTrue, Contains}
use Rattle.std.proofs.lemmas.Bool.{ne_eqb, false≢true}
use Rattle.journal_tree.specs.declared.limits.TheConstants.{MOST_PLACES}
use Rattle.journal_tree.specs.declared.reply.Kind.{Kind}
use Rattle.journal_tree.specs.declared.reply.Kind.TheVariants.{Directory}
use Rattle.journal_treestore.specs.declared.entry.Entry.{Entry}
use Rattle.journal_treestore.specs.declared.inode.Head.{Head}
use Rattle.journal_treestore.specs.Entries.{no_entry, entry_from}
use Rattle.journal_treestore.specs.Views.{Held, Seen, View, held_of, number_in, index_block, block_at, directory_block, entry_in, entry_at, homes}
use Rattle.journal_treestore.specs.Views.Seen.{free, used}
use Rattle.journal_treerule.specs.declared.children.Child.{Child}
use Rattle.journal_treerule.specs.declared.children.Children.{Children}
use Rattle.journal_treerule.specs.Parts.{IsNode, IsRightInode, AreInodesRight}
use Rattle.journal_treerule.specs.Directories.{is_of_directory, IsDataBlock, AreEntriesSound, IsSoundDirectory, AreChildren, IsListed, HasEntriesAt, HasBlockAt, HasFirstBlocks, HasLevels}
use Rattle.journal_treestore.proofs.Indexing.{at-direct, at-indexed, at-index, at-leaf, directory-first, directory-level}
use Rattle.journal_treerule.proofs.RightInodes.{sound-at}
use Rattle.journal_treerule.proofs.Trees.{IsDirectoryAt, directory-is, entry-of-directory, entry-in-block}
use Rattle.journal_treerule.proofs.Listing.{listed-blanks, fewer-sound}

-- the places of a block
in_block : (j at : ℕ) → at < 512 → ((512 * j + at) / 512 ≡ j) × ((512 * j + at) % 512 ≡ at)
in_block j at low = (omega (arith, low), omega (arith, low))

module _ (V : View) (d : ℕ) where
  -- the entries of a directory are those of its blocks
  module _ (head : Head) (name : List ℕ) (is : V.inode d ≡ used (held_of head name)) (dir : is_of_directory head.kind ≡ true) (right : IsRightInode V d (V.inode d)) where
    abbrev h : Held
    h = held_of head name

    node : IsNode V d h
    node = subst (IsRightInode V d) is right

    -- the entries of a block by its place
    entries-of : (j b at : ℕ) → at < 512 → directory_block V h j ≡ b → entry_at V d (512 * j + at) ≡ entry_in V b at
    entries-of j b at low block =
        entry-in-block V d (record { held = h; is = is; kind = directory-is head.kind dir }) (512 * j + at)
        ∙ ap (λ k. entry_in V (directory_block V h k) ((512 * j + at) % 512)) (in_block j at low).0
        ∙ ap (entry_in V (directory_block V h j)) (in_block j at low).1
        ∙ ap (λ b. entry_in V b at) block

    there_at : (p b : ℕ) → block_at V h p ≡ b → b ≢ 0 → IsDataBlock V b
    there_at p b block some = let sound = sound-at V d h node p b block some in (sound.first, sound.last)

    pub has-first : HasFirstBlocks V d head.blocks
    has-first j low = record {
      entries = λ at inside. entries-of j (get_or head.blocks j 0) at inside (directory-first V h j low);
      there = there_at j (get_or head.blocks j 0) (at-direct V h j low);
    }

    level : (k : ℕ) → k < 340 → HasBlockAt V d (24576 + 512 * k) (number_in V (index_block V h 0) k)
    level k low = record {
      entries = λ at inside.
          ap (entry_at V d) (let e : 24576 + 512 * k + at ≡ 512 * (48 + k) + at = omega arith in e)
          ∙ entries-of (48 + k) (number_in V (index_block V h 0) k) at inside
          (directory-level V h (48 + k) (omega arith) (omega (arith, low)) ∙ ap (number_in V (index_block V h 0)) (let e : 48 + k - 48 ≡ k = omega arith in e));
      there = there_at (48 + 1024 * 0 + k) (number_in V (index_block V h 0) k) (at-indexed V h 0 k (omega arith) (omega (arith, low)));
    }

    pub has-levels : HasLevels V d head.index
    has-levels = record {
      levels = record { blocks = level; there = there_at (2147483649 + 0) (index_block V h 0) (at-leaf V h 0 (omega arith)) };
      there = there_at 2147483648 head.index (at-index V h);
    }

  -- what is no directory has no entries
  pub no-entries-free : (g : ℕ) → V.inode d ≡ free g → (place : ℕ) → entry_at V d place ≡ no_entry
  no-entries-free g is place = by (entry-of-directory V d place)
    where
      by : IsDirectoryAt V d ⊎ (entry_at V d place ≡ no_entry) → entry_at V d place ≡ no_entry
      by (inl x) = absurd (let e : free g ≡ used x.held = sym is ∙ x.is in cc)
      by (inr none) = none

  pub no-entries-file : (h : Held) → V.inode d ≡ used h → is_of_directory h.kind ≡ false → (place : ℕ) → entry_at V d place ≡ no_entry
  no-entries-file h is file place = by (entry-of-directory V d place)
    where
      by : IsDirectoryAt V d ⊎ (entry_at V d place ≡ no_entry) → entry_at V d place ≡ no_entry
      by (inl x) =
          let e : used h ≡ used x.held = sym is ∙ x.is in
          let same : h ≡ x.held = cc in
          absurd (false≢true (sym file ∙ ap (λ (y : Held). is_of_directory y.kind) same ∙ ap is_of_directory x.kind))
      by (inr none) = none

  pub nothing-listed : (xs : List Child) → xs ≡ [] → ((place : ℕ) → entry_at V d place ≡ no_entry) → IsSoundDirectory V d × AreChildren V d MOST_PLACES xs
  nothing-listed xs empty none = (
    record {
      entries = record {
        each = λ place low. record { blank = λ _. none place; back = λ some. absurd (some (number place)) };
        apart = λ p q name low_p low_q a b. absurd (a.names.some (number p));
        once = λ p q name low_p low_q a b. absurd (a.names.some (number p));
      };
      seconds = λ name x. absurd (x.here.own.names.some (number x.place));
    },
    subst (AreChildren V d MOST_PLACES) (sym empty)
        (record {
          all = λ place name low own. absurd (own.names.some (number place));
          only = λ x has. absurd (let low : has.0 < 0 = has.1 in omega (arith, low));
        }),
  )
    where
      number : (place : ℕ) → (entry_at V d place).number ≡ 0
      number place = ap (λ (e : Entry). e.number) (none place)

  -- a place without a block has no entries
  pub no-block : (from block : ℕ) (found : Children) → block ≡ 0 → HasBlockAt V d from block → IsListed V d from found → IsListed V d (from + 512) found
  no-block from block found none has listed = listed-blanks V d from 512 found listed (λ at low. has.entries at low ∙ ap (λ b. entry_in V b at) none)

  -- the bytes of a block are its entries
  pub block-entries : (from block : ℕ) (bytes : List ℕ) → block ≢ 0 → V.block block ≡ bytes → HasBlockAt V d from block → HasEntriesAt V d from bytes
  block-entries from block bytes some is has at low =
      has.entries at low
      ∙ ap (λ b. cond b no_entry (entry_from (V.block block) at)) (ne_eqb block 0 some)
      ∙ ap (λ v. entry_from v at) is

  -- what is not sound up to a place is not sound up to a later one
  pub unsound-later : (from to : ℕ) → from ≤ to → (AreEntriesSound V d from → ⊥) → AreEntriesSound V d to → ⊥
  unsound-later from to few not sound = not (fewer-sound V d from to few sound)
