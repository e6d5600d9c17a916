-- The root's times in results.
use Rattle.std.proofs.Common.{◌≡◌, Bool, true, false, Some, Result, Ok, Err, refl, sym, ap}
use Rattle.std.specs.Prelude.{◌==◌}
use Rattle.journal_inode.specs.declared.node.Time.{Time}
use Rattle.journal_inode.specs.declared.version.FormatVersion.{FormatVersion}
use Rattle.journal_file_types.specs.declared.reply.Attributes.{Attributes}
use Rattle.journal_file_types.specs.declared.reply.Changed.{Changed}
use Rattle.journal_file_types.specs.declared.reply.Found.{Found}
use Rattle.journal_nfs3_wire.specs.declared.results.NfsError.{NfsError}
use Rattle.journal_nfs3_wire.specs.declared.results.Results.TheVariants as code_result
use Rattle.journal_nfs3_wire.specs.Results.{Fattr, Change, Results, Null, GetAttributes, SetAttributes, Lookup, Read, Write, Create, Remove, Commit, procedure_of_results}
use Rattle.journal_nfs3_wire.specs.Profile.{fattr_of, change_of, unchanged_of, found_handle, results_of}
use Rattle.journal_mount3.specs.Roots.{attributes_at, changed_at, found_at, fattr_at, change_at, accepted_at, results_at}

pub fattr_now : (now : Time) (version : FormatVersion) (a : Attributes) → fattr_at now (fattr_of version a) ≡ fattr_of version (attributes_at now a)
fattr_now now version a = of (a.number == 1) refl
  where
    of : (b : Bool) → (a.number == 1) ≡ b → fattr_at now (fattr_of version a) ≡ fattr_of version (attributes_at now a)
    of true e = rw (e, e) refl
    of false e = rw (e, e) refl

pub change_now : (now : Time) (version : FormatVersion) (c : Changed) → change_at now (change_of version c) ≡ change_of version (changed_at now c)
change_now now version c = of (c.after.number == 1) refl
  where
    of : (b : Bool) → (c.after.number == 1) ≡ b → change_at now (change_of version c) ≡ change_of version (changed_at now c)
    of true e = rw (e, e) refl
    of false e = rw (e, e) refl

pub unchanged_now : (now : Time) (version : FormatVersion) (a : Attributes) → change_at now (unchanged_of version a) ≡ unchanged_of version (attributes_at now a)
unchanged_now now version a = of (a.number == 1) refl
  where
    of : (b : Bool) → (a.number == 1) ≡ b → change_at now (unchanged_of version a) ≡ unchanged_of version (attributes_at now a)
    of true e = rw (e, e) refl
    of false e = rw (e, e) refl

-- ---- results

pub get_attributes_now : (now : Time) (version : FormatVersion) (r : Result Attributes NfsError) → results_of version (code_result.GetAttributes (accepted_at (attributes_at now) r)) ≡ results_at now (results_of version (code_result.GetAttributes r))
get_attributes_now now version (Ok a) = ap (λ (f : Fattr). GetAttributes (Ok f)) (sym (fattr_now now version a))
get_attributes_now now version (Err why) = refl

pub set_attributes_now : (now : Time) (version : FormatVersion) (r : Result Changed NfsError) → results_of version (code_result.SetAttributes (accepted_at (changed_at now) r)) ≡ results_at now (results_of version (code_result.SetAttributes r))
set_attributes_now now version (Ok c) = ap (λ (x : Change). SetAttributes (Ok x)) (sym (change_now now version c))
set_attributes_now now version (Err why) = refl

pub lookup_now : (now : Time) (version : FormatVersion) (r : Result Found NfsError) → results_of version (code_result.Lookup (accepted_at (found_at now) r)) ≡ results_at now (results_of version (code_result.Lookup r))
lookup_now now version (Ok f) =
    ap (λ (d : Fattr). Lookup (Ok (record { object = found_handle f; attributes = Some (fattr_of version f.file); directory = Some d }))) (sym (fattr_now now version f.root))
lookup_now now version (Err why) = refl

pub create_now : (now : Time) (version : FormatVersion) (r : Result Found NfsError) → results_of version (code_result.Create (accepted_at (found_at now) r)) ≡ results_at now (results_of version (code_result.Create r))
create_now now version (Ok f) =
    ap (λ (d : Change). Create (Ok (record { object = Some (found_handle f); attributes = Some (fattr_of version f.file); directory = d }))) (sym (unchanged_now now version f.root))
create_now now version (Err why) = refl

pub remove_now : (now : Time) (version : FormatVersion) (r : Result Attributes NfsError) → results_of version (code_result.Remove (accepted_at (attributes_at now) r)) ≡ results_at now (results_of version (code_result.Remove r))
remove_now now version (Ok a) = ap (λ (x : Change). Remove (Ok x)) (sym (unchanged_now now version a))
remove_now now version (Err why) = refl

-- the same procedure answers
pub same_procedure : (now : Time) (r : Results) → procedure_of_results (results_at now r) ≡ procedure_of_results r
same_procedure now Null = refl
same_procedure now (GetAttributes r) = refl
same_procedure now (SetAttributes r) = refl
same_procedure now (Lookup r) = refl
same_procedure now (Read r) = refl
same_procedure now (Write r) = refl
same_procedure now (Create r) = refl
same_procedure now (Remove r) = refl
same_procedure now (Commit r) = refl
