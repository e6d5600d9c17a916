-- What each node keeps within bounds: those of its fields on a disk.
use Rattle.std.specs.Prelude.{ℕ, ◌≡◌, ◌<◌, ◌≤◌, ◌*◌, ◌⊎◌, length, Option, Some, None}
use Rattle.journal_tree.specs.declared.limits.TheConstants.{MOST_BYTES, MOST_LINK, MOST_PLACES, BLOCK_PLACES, MODES, LAST_GENERATION}
use Rattle.journal_tree.specs.declared.settings.NewTime.{NewTime}
use Rattle.journal_tree.specs.declared.settings.NewTime.TheVariants.{Leave, Server, Client}
use Rattle.journal_tree.specs.declared.settings.Settings.{Settings}
use Rattle.journal_tree.specs.declared.settings.CreateMode.{CreateMode}
use Rattle.journal_tree.specs.declared.settings.CreateMode.TheVariants.{Unchecked, Guarded, Exclusive}
use Rattle.journal_tree.specs.Trees.{Home, Body, Node, Tree}
use Rattle.journal_tree.specs.Trees.Body.{directory, file, link}
use Rattle.journal_tree.specs.Times.{IsTime}
use Rattle.journal_tree.specs.declared.caller.Caller.{Caller}
use Rattle.journal_tree.specs.Calls.{name_kind}
use Rattle.journal_tree.specs.declared.name.NameKind.TheVariants.{Name}
use Rattle.journal_tree.specs.Op.{Call}
use Rattle.journal_tree.specs.Op.Call.{setattr, create, mkdir, symlink}

-- a number of 32 bits
abbrev pub IsWord : ℕ → Type 0
IsWord n = n < 4294967296

abbrev pub IsOptionalWord : Option ℕ → Type 0
IsOptionalWord None = Unit {0}
IsOptionalWord (Some n) = IsWord n

-- and one of 64 bits, if there is one
abbrev pub IsLong : ℕ → Type 0
IsLong n = n < 18446744073709551616

abbrev pub IsOptionalLong : Option ℕ → Type 0
IsOptionalLong None = Unit {0}
IsOptionalLong (Some n) = IsLong n

-- a file and a link are not too long, and a directory has whole blocks
abbrev pub IsFitBody : Body → Type 0
IsFitBody (directory places) = (places ≤ MOST_PLACES) × ((blocks : ℕ) × (places ≡ BLOCK_PLACES * blocks))
IsFitBody (file bytes) = length bytes ≤ MOST_BYTES
IsFitBody (link text) = length text ≤ MOST_LINK

-- the root has no name
abbrev pub IsFitHome : Home → Type 0
IsFitHome home = (home.directory ≡ 0) ⊎ (name_kind home.name ≡ Name)

-- A node is within its bounds
pub record IsFit (x : Node) : Type 0 where
  pub home : IsFitHome x.home
  pub place : x.home.place < MOST_PLACES
  pub body : IsFitBody x.body
  pub mode : x.attributes.mode < MODES
  pub owner : IsWord x.attributes.owner
  pub group : IsWord x.attributes.group
  pub mtime : IsTime x.attributes.mtime
  pub ctime : IsTime x.attributes.ctime
  pub verifier : IsOptionalLong x.attributes.verifier

-- So is each node of the tree, and each generation
pub record HasFit (T : Tree) : Type 0 where
  pub nodes : (n : ℕ) (x : Node) → (T.at n).node ≡ Some x → IsFit x
  pub born : (n : ℕ) (x : Node) → (T.at n).node ≡ Some x → 1 ≤ (T.at n).generation
  pub young : (n : ℕ) → (T.at n).generation ≤ LAST_GENERATION

-- ── what the bytes of a call can say ──

abbrev pub IsAskedTime : NewTime → Type 0
IsAskedTime (Client t) = t.secs < 4294967296
IsAskedTime Server = Unit {0}
IsAskedTime Leave = Unit {0}

-- Settings have numbers of 32 bits
pub record IsAsked (s : Settings) : Type 0 where
  pub owner : IsOptionalWord s.owner
  pub group : IsOptionalWord s.group
  pub mtime : IsAskedTime s.mtime

abbrev pub IsAskedMode : CreateMode → Type 0
IsAskedMode (Unchecked s) = IsAsked s
IsAskedMode (Guarded s) = IsAsked s
IsAskedMode (Exclusive verifier) = IsLong verifier

-- So has a call
abbrev pub IsCallable : Call → Type 0
IsCallable (setattr h s guard) = IsAsked s
IsCallable (create h name how) = IsAskedMode how
IsCallable (mkdir h name s) = IsAsked s
IsCallable (symlink h name s text) = IsAsked s
IsCallable _ = Unit {0}

-- and a caller
pub record IsCaller (c : Caller) : Type 0 where
  pub user : IsWord c.user
  pub group : IsWord c.group
