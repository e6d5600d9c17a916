-- Which bytes ask an operation of directories, and which are a handle.
use Rattle.std.proofs.Common.{◌≡◌, ℕ, List, Bool, true, false, cond, Option, Some, None, Result, Ok, Err, refl, sym, ap, ◌∙◌}
use Rattle.std.specs.Prelude.{◌==◌}
use Rattle.std.proofs.lemmas.Bool.{eqb-true, eq-eqb}
use Rattle.journal_tree.specs.declared.reply.Handle.{Handle}
use Rattle.journal_nfs3_wire.specs.declared.results.NfsError.{NfsError}
use Rattle.journal_nfs3_wire.specs.declared.results.NfsError.TheVariants.{Stale}
use Rattle.journal_nfs3_wire.specs.Whole.{whole, IsSpelling}
use Rattle.journal_nfs3_wire.proofs.WholeLaws.{whole_is, is_whole}
use Rattle.journal_treewire.specs.declared.procedure.DirectoryProcedure.{DirectoryProcedure}
use Rattle.journal_treewire.specs.declared.procedure.DirectoryProcedure.TheVariants as procedure
use Rattle.journal_treewire.specs.Directories.{DirectoryOperation, directory_arguments, directory_procedure_number}
use Rattle.journal_treewire.specs.Handles.{DiskHandle, disk_handle, named_on, handle_in}
use Rattle.journal_treewire.specs.Requests.{or_garbage, directory, requested}
use Rattle.journal_treewire.proofs.DirectoryLaws.{directory_arguments_laws, disk_handle_laws}

-- the number of such a procedure is none of the others'
routed : (p : DirectoryProcedure) (bytes : List ℕ) → requested (directory_procedure_number p) bytes ≡ or_garbage directory (whole (directory_arguments p) bytes)
routed procedure.ReadLink bytes = refl
routed procedure.MakeDirectory bytes = refl
routed procedure.MakeLink bytes = refl
routed procedure.MakeNode bytes = refl
routed procedure.RemoveDirectory bytes = refl
routed procedure.Rename bytes = refl
routed procedure.Link bytes = refl

asked_some : (o : Option DirectoryOperation) (operation : DirectoryOperation) → or_garbage directory o ≡ Ok (directory operation) → o ≡ Some operation
asked_some None operation e = absurd cc
asked_some (Some read) operation e = cc

pub asked_spelled : (p : DirectoryProcedure) (bytes : List ℕ) (operation : DirectoryOperation) → requested (directory_procedure_number p) bytes ≡ Ok (directory operation) → IsSpelling (directory_arguments p) bytes operation
asked_spelled p bytes operation e = whole_is (directory_arguments p) (directory_arguments_laws p) bytes operation (asked_some _ operation (sym (routed p bytes) ∙ e))

pub spelled_asked : (p : DirectoryProcedure) (bytes : List ℕ) (operation : DirectoryOperation) → IsSpelling (directory_arguments p) bytes operation → requested (directory_procedure_number p) bytes ≡ Ok (directory operation)
spelled_asked p bytes operation s = routed p bytes ∙ ap (or_garbage directory) (is_whole (directory_arguments p) (directory_arguments_laws p) bytes operation s)

-- ---- handles

abbrev here : Bool → Handle → Result Handle NfsError
here same h = cond same (Ok h) (Err Stale)

is_here : (same : Bool) (h k : Handle) → here same h ≡ Ok k → (same ≡ true) × (h ≡ k)
is_here true h k e = (refl, cc)
is_here false h k e = absurd cc

named_some : (disk : ℕ) (o : Option DiskHandle) (h : Handle) → named_on disk o ≡ Ok h → o ≡ Some (record { disk = disk; handle = h })
named_some disk None h e = absurd cc
named_some disk (Some found) h e =
    let is = is_here (found.disk == disk) found.handle h e in
    rw (← eqb-true found.disk disk is.0, ← is.1) refl

same-disk : (disk : ℕ) → (disk == disk) ≡ true
same-disk disk = eq-eqb disk disk refl

pub named_spelled : (disk : ℕ) (bytes : List ℕ) (h : Handle) → handle_in disk bytes ≡ Ok h → IsSpelling disk_handle bytes (record { disk = disk; handle = h })
named_spelled disk bytes h e = whole_is disk_handle disk_handle_laws bytes _ (named_some disk (whole disk_handle bytes) h e)

pub spelled_named : (disk : ℕ) (bytes : List ℕ) (h : Handle) → IsSpelling disk_handle bytes (record { disk = disk; handle = h }) → handle_in disk bytes ≡ Ok h
spelled_named disk bytes h s = ap (named_on disk) (is_whole disk_handle disk_handle_laws bytes _ s) ∙ ap (λ same. here same h) (same-disk disk)
