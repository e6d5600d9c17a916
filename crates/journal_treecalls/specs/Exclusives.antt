-- CREATE of a file that the same call finds again.
use Rattle.std.specs.Prelude.{ℕ, ◌≡◌, Bool, ◌&&◌, if◌then◌else◌, List, Option, Some, None, Result, Ok, Err}
use Rattle.journal_tree.specs.declared.time.Time.{Time}
use Rattle.journal_tree.specs.declared.reply.Attributes.{Attributes}
use Rattle.journal_tree.specs.declared.reply.Kind.TheVariants.{File}
use Rattle.journal_tree.specs.declared.reply.Made.{Made}
use Rattle.journal_tree.specs.declared.reply.Told.{Told}
use Rattle.journal_tree.specs.declared.caller.Caller.{Caller}
use Rattle.journal_tree.specs.declared.status.Status.{Status}
use Rattle.journal_tree.specs.declared.status.Status.TheVariants.{Exists, NoAccess}
use Rattle.journal_tree.specs.Times.{IsTime}
use Rattle.journal_tree.specs.Rights.{may_rename}
use Rattle.journal_tree.specs.Names.{exclusive_attributes, is_verifier}
use Rattle.journal_treestore.specs.declared.inode.Head.{Head}
use Rattle.journal_treestore.specs.Views.{View}
use Rattle.journal_treecalls.specs.declared.creation.Plan.{Plan}
use Rattle.journal_treecalls.specs.declared.search.Hit.{Hit}
use Rattle.journal_treecalls.specs.declared.named.Named.{Named}
use Rattle.journal_treecalls.specs.Disks.{Write, written}
use Rattle.journal_treecalls.specs.Names.{is_file_kind}
use Rattle.journal_treecalls.specs.Targets.{told_of}
use Rattle.journal_treecalls.specs.Takings.{taken_made}
use Rattle.journal_treecalls.specs.Rooms.{IsMakingPlanned}

-- why no file is made
abbrev pub exclusive_refusal : Caller → Attributes → Option Status
exclusive_refusal c d = if may_rename c d then None else Some NoAccess

-- the file that is made, or why not
abbrev pub exclusive_plan : Caller → ℕ → Attributes → Time → Plan
exclusive_plan c verifier d now = record { refusal = exclusive_refusal c d; node = record { attributes = exclusive_attributes c verifier d now; kind = File; size = 0 } }

-- whether it is the file that the same call made
abbrev pub is_same_file : ℕ → Head → Bool
is_same_file verifier h = is_file_kind h.kind && is_verifier h.attributes.verifier verifier

-- the reply where the name is there
abbrev pub told_before : Told → Hit → ℕ → Result Made Status
told_before directory hit verifier = if is_same_file verifier hit.head then Ok (taken_made directory hit hit.head) else Err Exists

-- The name is there and nothing is written, or it is not and a file is made
pub data IsCreatingOnce (V W : View) (d : ℕ) (n : Named) (name : List ℕ) (plan : Plan) (verifier : ℕ) (now : Time) : Result Made Status → Type 0 where
  there : (hit : Hit) → n.hit ≡ Some hit → W ≡ V → IsCreatingOnce V W d n name plan verifier now (told_before (told_of d n.directory.head) hit verifier)
  missing : (reply : Result Made Status) → n.hit ≡ None → IsMakingPlanned V W d n.directory name plan now reply → IsCreatingOnce V W d n name plan verifier now reply

pub record CreatesOnce (old new : View → Type 0) (ws : List Write) (d : ℕ) (n : Named) (name : List ℕ) (plan : Plan) (verifier : ℕ) (now : Time) (reply : Result Made Status) : Type 0 where
  pub same : (V : View) → new V → old V
  pub is : IsTime n.directory.head.attributes.ctime → (V : View) → new V → IsCreatingOnce V (written ws V) d n name plan verifier now reply
