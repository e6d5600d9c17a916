-- Which replies wait until their commits are stable, and the form of their results.
use Rattle.std.specs.Prelude.{Option, Some, None, Err}
use Rattle.journal_nfs3_wire.specs.declared.arguments.StableHow.{StableHow}
use Rattle.journal_nfs3_wire.specs.declared.arguments.StableHow.TheVariants.{Unstable, DataSync, FileSync}
use Rattle.journal_nfs3_wire.specs.declared.results.NfsError.{NfsError}
use Rattle.journal_nfs3_wire.specs.Arguments as nine
use Rattle.journal_nfs3_wire.specs.Profile.{no_change}
use Rattle.journal_treewire.specs.Directories as links
use Rattle.journal_treewire.specs.Profile.{no_changes}
use Rattle.journal_treewire.specs.Requests.{Requested, file, directory}
use Rattle.journal_treewire.specs.Results.{Results, Changed, Write, Made, Renamed, Commit}
use Rattle.journal_treeserver.specs.declared.awaited.AwaitedForm.{AwaitedForm}
use Rattle.journal_treeserver.specs.declared.awaited.AwaitedForm.TheVariants as forms

-- how stable a WRITE is asked to be. All others that wait are asked to be wholly stable
abbrev pub how_of : Requested → StableHow
how_of (file (nine.Write h offset count how bytes)) = how
how_of other = FileSync

abbrev pub write_form : StableHow → Option AwaitedForm
write_form Unstable = None
write_form DataSync = Some forms.Write
write_form FileSync = Some forms.Write

-- The form of the results of a request that waits: it changes the tree, or is COMMIT. WRITE waits
-- as it is asked to
abbrev pub form_of : Requested → Option AwaitedForm
form_of (file (nine.SetAttributes h a guard)) = Some forms.Changed
form_of (file (nine.Write h offset count how bytes)) = write_form how
form_of (file (nine.Create e how)) = Some forms.Made
form_of (file (nine.Remove e)) = Some forms.Changed
form_of (file (nine.Commit h offset count)) = Some forms.Commit
form_of (directory (links.MakeDirectory e a)) = Some forms.Made
form_of (directory (links.MakeLink a)) = Some forms.Made
form_of (directory (links.RemoveDirectory e)) = Some forms.Changed
form_of (directory (links.Rename e f)) = Some forms.Renamed
form_of other = None

-- the results of a request of this form that is refused: the status alone
abbrev pub refused_form : AwaitedForm → NfsError → Results
refused_form forms.Changed why = Changed (Err (why, no_change))
refused_form forms.Write why = Write (Err (why, no_change))
refused_form forms.Made why = Made (Err (why, no_change))
refused_form forms.Renamed why = Renamed (Err (why, no_changes))
refused_form forms.Commit why = Commit (Err (why, no_change))
