-- A tree of directories and files. Each node says where it hangs: in which directory, at which
-- place and under which name.
use Rattle.std.specs.Prelude.{is_some, ℕ, zero, suc, ◌==◌, Bool, true, false, ◌&&◌, if◌then◌else◌, List, [], Option, Some, None, bytes_eq}
use Rattle.journal_tree.specs.declared.reply.Attributes.{Attributes}

-- Where a node hangs: the number of its directory, the place of its entry there, and its name. The
-- root hangs in directory 0, which is none
pub record Home : Type 0 where
  pub directory : ℕ
  pub place : ℕ
  pub name : List ℕ

-- What a node is: a directory of this number of places, a file of these bytes, or a symbolic link
-- with this text
pub data Body : Type 0 where
  directory : ℕ → Body
  file : List ℕ → Body
  link : List ℕ → Body

-- A node of the tree
pub record Node : Type 0 where
  pub attributes : Attributes
  pub home : Home
  pub body : Body

-- What a number has: the generation of its last node, and that node if it is there
pub record Slot : Type 0 where
  pub generation : ℕ
  pub node : Option Node

-- A tree: the numbers below `numbers` may have nodes, and files and directories have `blocks`
-- blocks together
pub record Tree : Type 0 where
  pub numbers : ℕ
  pub blocks : ℕ
  pub at : ℕ → Slot

abbrev pub root_home : Home
root_home = record { directory = 0; place = 0; name = [] }

-- how many places it has, where it is a directory
abbrev pub places_of : Body → Option ℕ
places_of (directory places) = Some places
places_of (file bytes) = None
places_of (link text) = None

abbrev pub is_directory : Body → Bool
is_directory body = is_some (places_of body)

abbrev pub is_file : Body → Bool
is_file (directory places) = false
is_file (file bytes) = true
is_file (link text) = false

-- the tree with what one number has replaced
abbrev pub with_slot : Tree → ℕ → Slot → Tree
with_slot T n s = record { numbers = T.numbers; blocks = T.blocks; at = λ i. if i == n then s else T.at i }

-- the tree with the node of a number replaced, put there or taken away. Its generation stays
abbrev pub with_node : Tree → ℕ → Option Node → Tree
with_node T n node = with_slot T n (record { generation = (T.at n).generation; node = node })

-- the number that was found, or this one if it passes
abbrev pub or_this : Option ℕ → Bool → ℕ → Option ℕ
or_this (Some i) passes n = Some i
or_this None passes n = if passes then Some n else None

-- the first number below a bound that passes
unfoldable pub first_below : (ℕ → Bool) → ℕ → Option ℕ
first_below p zero = None
first_below p (suc n) = or_this (first_below p n) (p n) n

abbrev pub node_passes : (Node → Bool) → Option Node → Bool
node_passes p None = false
node_passes p (Some x) = p x

-- whether the node hangs in this directory, and there under this name, or at this place
abbrev pub hangs_in : ℕ → Node → Bool
hangs_in d x = x.home.directory == d

abbrev pub is_named : ℕ → List ℕ → Node → Bool
is_named d name x = hangs_in d x && bytes_eq x.home.name name

abbrev pub is_placed : ℕ → ℕ → Node → Bool
is_placed d place x = hangs_in d x && x.home.place == place

-- the number of the node that a directory has under a name, and at a place, and of one that it has
abbrev pub find : Tree → ℕ → List ℕ → Option ℕ
find T d name = first_below (λ i. node_passes (is_named d name) (T.at i).node) T.numbers

abbrev pub find_place : Tree → ℕ → ℕ → Option ℕ
find_place T d place = first_below (λ i. node_passes (is_placed d place) (T.at i).node) T.numbers

abbrev pub find_any : Tree → ℕ → Option ℕ
find_any T d = first_below (λ i. node_passes (hangs_in d) (T.at i).node) T.numbers
