-- The cases of SETATTR.
use Rattle.std.proofs.Common.{ℕ, ◌≡◌, ◌<◌, Bool, true, false, length, Option, Err, sym, ap, ◌∙◌}
use Rattle.std.specs.Prelude.{unwrap_or}
use Rattle.std.proofs.lemmas.Bool.{cond-true, cond-false}
use Rattle.journal_world.specs.Maps.{Map}
use Rattle.journal_inode.specs.declared.version.FormatVersion.{FormatVersion}
use Rattle.journal_inode.specs.declared.node.Time.{Time}
use Rattle.journal_inode.specs.declared.node.FileNode.{FileNode}
use Rattle.journal_inode.specs.Versions.{extra_count}
use Rattle.journal_inode.specs.Sound.{content, IsSoundFile}
use Rattle.journal_file_types.specs.declared.settings.Settings.{Settings}
use Rattle.journal_file_types.specs.declared.status.Status.TheVariants.{Invalid, TooBig, NotSync, NoSpace}
use Rattle.journal_filestore.specs.Files.{FileData, Files}
use Rattle.journal_filestore.specs.Operations.{attributes, attributes_of_node, changed, setattr_case, is_other_time, is_no_time, is_too_big, time_after, with_settings}
use Rattle.journal_filestore.specs.Operations.FileTarget.{file}
use Rattle.journal_filestore.specs.Handles.{data_of}
use Rattle.journal_filestore.proofs.Resizing.{length-resized}
use Rattle.journal_filestore.proofs.Writings.{lacks, has_room}

module _ (version : FormatVersion) (s : Settings) (guard : Option Time) (now : Time) (F : Files) (i : ℕ) (d : FileData) where
  pub set-not_sync : (room : Bool) → is_other_time guard d.mtime ≡ true → setattr_case version room s guard now F (file i d) ≡ (Err NotSync, F)
  set-not_sync room is = cond-true _ _ _ is

  pub set-invalid : (room : Bool) → is_other_time guard d.mtime ≡ false → is_no_time s.mtime ≡ true → setattr_case version room s guard now F (file i d) ≡ (Err Invalid, F)
  set-invalid room same is = cond-false _ _ _ same ∙ cond-true _ _ _ is

  pub set-too_big : (room : Bool) → is_other_time guard d.mtime ≡ false → is_no_time s.mtime ≡ false → is_too_big version s.size ≡ true → setattr_case version room s guard now F (file i d) ≡ (Err TooBig, F)
  set-too_big room same timed is = cond-false _ _ _ same ∙ cond-false _ _ _ timed ∙ cond-true _ _ _ is

  pub set-no_space : is_other_time guard d.mtime ≡ false → is_no_time s.mtime ≡ false → is_too_big version s.size ≡ false → extra_count version (length d.bytes) < extra_count version (unwrap_or s.size (length d.bytes))
      → setattr_case version false s guard now F (file i d) ≡ (Err NoSpace, F)
  set-no_space same timed small more =
      cond-false _ _ _ same ∙ cond-false _ _ _ timed ∙ cond-false _ _ _ small ∙ cond-true _ _ _ (lacks version (length d.bytes) (unwrap_or s.size (length d.bytes)) more)

  pub set-done : is_other_time guard d.mtime ≡ false → is_no_time s.mtime ≡ false → is_too_big version s.size ≡ false
      → setattr_case version true s guard now F (file i d) ≡ changed F i d (with_settings d s now)
  set-done same timed small =
      cond-false _ _ _ same ∙ cond-false _ _ _ timed ∙ cond-false _ _ _ small ∙ cond-false _ _ _ (has_room version (length d.bytes) (unwrap_or s.size (length d.bytes)))

-- the attributes of a file that was set
pub attributes-set : (version : FormatVersion) (m : Map) (i : ℕ) (f g : FileNode) (s : Settings) (now : Time) → IsSoundFile version m f
    → attributes_of_node i g ≡ record { number = i; size = unwrap_or s.size f.size; mtime = time_after s.size s.mtime now f.mtime }
    → attributes_of_node i g ≡ attributes i (with_settings (data_of version m f) s now)
attributes-set version m i f g s now sound is =
    is
    ∙ ap (λ x. record { number = i; size = unwrap_or s.size x; mtime = time_after s.size s.mtime now f.mtime }) (sym sound.whole)
    ∙ ap (λ x. record { number = i; size = x; mtime = time_after s.size s.mtime now f.mtime }) (sym (length-resized (content version m f) s.size))
