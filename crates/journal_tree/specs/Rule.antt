-- When a tree is one.
use Rattle.std.specs.Prelude.{◌==◌, if◌then◌else◌, ℕ, ◌≡◌, ◌≢◌, ◌<◌, Option, Some, None, option_map}
use Rattle.journal_tree.specs.declared.limits.TheConstants.{ROOT, DIRECTORY_MODE}
use Rattle.journal_tree.specs.declared.time.Time.{Time}
use Rattle.journal_tree.specs.Trees.Body.{directory}
use Rattle.journal_tree.specs.Trees.{Home, Node, Tree, root_home, places_of}

-- What the rule looks at of a node: where it hangs, and how many places it has where it is a
-- directory
pub record Stem : Type 0 where
  pub home : Home
  pub places : Option ℕ

abbrev pub Stems : Type 0
Stems = ℕ → Option Stem

abbrev pub stem_of : Node → Stem
stem_of x = record { home = x.home; places = places_of x.body }

abbrev pub stems : Tree → Stems
stems T = λ i. option_map stem_of (T.at i).node

-- d is a directory that has this place
abbrev pub HasPlace : Stems → ℕ → ℕ → Type 0
HasPlace S d place = (t : Stem) × (places : ℕ) × (S d ≡ Some t) × (t.places ≡ Some places) × (place < places)

-- The parents lead from n up to d
pub data IsBelow (S : Stems) (d : ℕ) : ℕ → Type 0 where
  itself : IsBelow S d d
  parent : (n : ℕ) (s : Stem) → S n ≡ Some s → IsBelow S d s.home.directory → IsBelow S d n

-- the root is a directory
pub record IsRoot (S : Stems) : Type 0 where
  pub places : ℕ
  pub is : S ROOT ≡ Some (record { home = root_home; places = Some places })

-- Each node but the root hangs in a directory, no two of them under one name or at one place, and
-- the parents lead to the root. Number 0 is no node's
pub record IsTree (numbers : ℕ) (S : Stems) : Type 0 where
  pub root : IsRoot S
  pub zero : S 0 ≡ None
  pub bounded : (n : ℕ) (s : Stem) → S n ≡ Some s → n < numbers
  pub hangs : (n : ℕ) (s : Stem) → S n ≡ Some s → n ≢ ROOT → HasPlace S s.home.directory s.home.place
  pub names : (i j : ℕ) (s t : Stem) → S i ≡ Some s → S j ≡ Some t → s.home.directory ≡ t.home.directory → s.home.name ≡ t.home.name → i ≡ j
  pub places : (i j : ℕ) (s t : Stem) → S i ≡ Some s → S j ≡ Some t → s.home.directory ≡ t.home.directory → s.home.place ≡ t.home.place → i ≡ j
  pub leads : (n : ℕ) (s : Stem) → S n ≡ Some s → IsBelow S ROOT n

-- A tree is one
abbrev pub HasTree : Tree → Type 0
HasTree T = IsTree T.numbers (stems T)

-- an empty root, made at this moment, which is root's own
abbrev pub first_root : Time → Node
first_root now = record { attributes = record { mode = DIRECTORY_MODE; owner = 0; group = 0; mtime = now; ctime = now; verifier = None }; home = root_home; body = directory 0 }

-- the tree that has an empty root alone
abbrev pub first_tree : ℕ → ℕ → Time → Tree
first_tree numbers blocks now = record {
  numbers = numbers;
  blocks = blocks;
  at = λ i. if i == ROOT then record { generation = 1; node = Some (first_root now) } else record { generation = 0; node = None };
}
