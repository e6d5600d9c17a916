-- Why a node of a name is not made, where none of its kind is.
use Rattle.std.specs.Prelude.{ℕ, Bool, true, false, List, Option, Some, None}
use Rattle.journal_tree.specs.declared.reply.Handle.{Handle}
use Rattle.journal_tree.specs.declared.caller.Caller.{Caller}
use Rattle.journal_tree.specs.declared.status.Status.{Status}
use Rattle.journal_tree.specs.declared.status.Status.TheVariants.{Exists, NoAccess, NotSupported}
use Rattle.journal_tree.specs.Rights.{may_rename}
use Rattle.journal_treestore.specs.Views.{View}
use Rattle.journal_treecalls.specs.declared.search.Hit.{Hit}
use Rattle.journal_treecalls.specs.declared.named.Named.{Named}
use Rattle.journal_treecalls.specs.Names.{IsNamed, IsUnnamed}

-- by whether the name is there, and by the right to make one
abbrev pub status_by : Option Hit → Bool → Status
status_by (Some hit) may = Exists
status_by None true = NotSupported
status_by None false = NoAccess

abbrev pub status_of_making : Caller → Named → Status
status_of_making c n = status_by n.hit (may_rename c n.directory.head.attributes)

-- The name cannot be looked for, or it was looked for
pub data IsRefused (V : View) (c : Caller) (h : Handle) (name : List ℕ) : Status → Type 0 where
  unnamed : (status : Status) → IsUnnamed V c h name Exists Exists status → IsRefused V c h name status
  named : (n : Named) → IsNamed V c h name n → IsRefused V c h name (status_of_making c n)
