-- What has to be looked at on a disk to know that it is a tree: inodes that say where they hang,
-- and entries that name them.
use Rattle.std.specs.Prelude.{ℕ, ◌≡◌, ◌<◌, List, [], Option, Some, None, option_map}
use Rattle.journal_tree.specs.declared.limits.TheConstants.{ROOT}
use Rattle.journal_tree.specs.Trees.{Home}
use Rattle.journal_tree.specs.Rule.{Stem, Stems}

-- Where the nodes hang, as their inodes say, and what number each place of a directory names
pub record Links : Type 0 where
  pub numbers : ℕ
  pub stem : ℕ → Option Stem
  pub entry : ℕ → ℕ → Option ℕ

-- A number is reached from the root by entries
pub data IsReached (L : Links) : ℕ → Type 0 where
  the_root : IsReached L ROOT
  by_entry : (d place n : ℕ) → IsReached L d → L.entry d place ≡ Some n → IsReached L n

-- an entry lies within a directory
abbrev pub IsWithin : Links → ℕ → ℕ → Type 0
IsWithin L d place = (s : Stem) × (places : ℕ) × (L.stem d ≡ Some s) × (s.places ≡ Some places) × (place < places)

-- and what it names hangs there
abbrev pub HangsAt : Links → ℕ → ℕ → ℕ → Type 0
HangsAt L n d place = (s : Stem) × (L.stem n ≡ Some s) × (s.home.directory ≡ d) × (s.home.place ≡ place)

-- Each clause is looked at once: at each entry, at each directory, at each inode
pub record IsLinked (L : Links) : Type 0 where
  pub places : ℕ
  pub root : L.stem ROOT ≡ Some (record { home = record { directory = 0; place = 0; name = [] }; places = Some places })
  pub zero : L.stem 0 ≡ None
  pub bounded : (n : ℕ) (s : Stem) → L.stem n ≡ Some s → n < L.numbers
  pub within : (d place n : ℕ) → L.entry d place ≡ Some n → IsWithin L d place
  pub back : (d place n : ℕ) → L.entry d place ≡ Some n → HangsAt L n d place
  -- no two names of a directory are alike
  pub apart : (i j : ℕ) (s t : Stem) → L.stem i ≡ Some s → L.stem j ≡ Some t → s.home.directory ≡ t.home.directory → s.home.name ≡ t.home.name → i ≡ j
  -- and what is in use is reached
  pub reached : (n : ℕ) (s : Stem) → L.stem n ≡ Some s → IsReached L n
