-- The walk over all directories, from the root on.
use Rattle.std.specs.Prelude.{ℕ, zero, suc, ◌≡◌, ◌≢◌, ◌<◌, ◌≤◌, ◌+◌, ◌==◌, ◌&&◌, Bool, true, false, if◌then◌else◌, List, [], ◌∷◌, ◌++◌, length, get_or, Option, Some, None, Contains, slice_set}
use Rattle.journal_tree.specs.declared.limits.TheConstants.{ROOT, MOST_PLACES}
use Rattle.journal_tree.specs.Links.{Links, IsReached}
use Rattle.journal_tree.specs.Rule.{stems}
use Rattle.journal_tree.specs.Trees.{Home}
use Rattle.journal_treestore.specs.Views.{Seen, View, tree_of, entry_at, homes}
use Rattle.journal_treestore.specs.Views.Seen.{free, used}
use Rattle.journal_treerule.specs.declared.children.Child.{Child}
use Rattle.journal_treerule.specs.Parts.{is_used}
use Rattle.journal_treerule.specs.Directories.{is_directory, own_entries, IsSoundDirectory}

-- ── the links of a disk ──

-- the number that an entry names, if it is one
abbrev pub named_number : ℕ → Option ℕ
named_number n = if n == 0 then None else Some n

-- that, if the place is that of its home
abbrev pub own_number : ℕ → Option Home → ℕ → Option ℕ
own_number n None place = None
own_number n (Some home) place = if home.place == place then named_number n else None

abbrev pub number_at : View → ℕ → ℕ → Option ℕ
number_at V d place = own_number (entry_at V d place).number (homes V (entry_at V d place).number) place

-- where the nodes hang, and what the entries at their homes name
abbrev pub links_of : View → Links
links_of V = record { numbers = V.numbers; stem = stems (tree_of V); entry = number_at V }

-- ── a walk ──

-- the walk once it has met a node: that does not wait any more, and a directory is to be read
abbrev pub waiting_after : List Bool → Child → List Bool
waiting_after waiting x = slice_set waiting x.number false

abbrev pub queue_after : List Bool → List ℕ → Child → List ℕ
queue_after waiting queue x = if get_or waiting x.number false && x.is_directory then queue ++ x.number ∷ [] else queue

-- and once it has met several
abbrev pub waiting_after_all : List Bool → List Child → List Bool
waiting_after_all waiting [] = waiting
waiting_after_all waiting (x ∷ xs) = waiting_after_all (waiting_after waiting x) xs

abbrev pub queue_after_all : List Bool → List ℕ → List Child → List ℕ
queue_after_all waiting queue [] = queue
queue_after_all waiting queue (x ∷ xs) = queue_after_all (waiting_after waiting x) (queue_after waiting queue x) xs

-- the directories in the queue have numbers below this one
abbrev pub IsQueueBelow : ℕ → List ℕ → Type 0
IsQueueBelow numbers queue = (n : ℕ) → Contains queue n → n < numbers

-- how many nodes wait
abbrev pub count_waiting : List Bool → ℕ
count_waiting [] = 0
count_waiting (true ∷ waiting) = count_waiting waiting + 1
count_waiting (false ∷ waiting) = count_waiting waiting

-- A node that does not wait any more was reached, and if it is a directory it is in the queue
pub record IsMet (V : View) (queue : List ℕ) (n : ℕ) : Type 0 where
  pub reached : IsReached (links_of V) n
  pub queued : is_directory (V.inode n) ≡ true → Contains queue n

-- The directory was read: it is sound, and nothing that hangs there waits
pub record IsReadThrough (V : View) (waiting : List Bool) (d : ℕ) : Type 0 where
  pub sound : IsSoundDirectory V d
  pub met : (place : ℕ) (name : List ℕ) → place < MOST_PLACES → own_entries V d place name → get_or waiting (entry_at V d place).number false ≡ false

-- A node that waits is in use, and one that does not wait any more was met. All directories in the
-- queue were reached, and the queue is no longer than the table
pub record HasMet (V : View) (waiting : List Bool) (queue : List ℕ) : Type 0 where
  pub met : (n : ℕ) → is_used (V.inode n) ≡ true → get_or waiting n false ≡ false → IsMet V queue n
  pub waits : (n : ℕ) → get_or waiting n false ≡ true → is_used (V.inode n) ≡ true
  pub reached : (n : ℕ) → Contains queue n → IsReached (links_of V) n
  pub few : length queue + count_waiting waiting ≤ V.numbers

-- The state of a walk that has read the first `done` directories of its queue
pub record IsWalked (V : View) (waiting : List Bool) (queue : List ℕ) (done : ℕ) : Type 0 where
  pub met : HasMet V waiting queue
  pub root : get_or waiting ROOT false ≡ false
  pub read : (k : ℕ) → k < done → k < length queue → IsReadThrough V waiting (get_or queue k 0)
