use Rattle.std.proofs.Common.{◌≡◌, ◌<◌, true, false, Err, refl, sym, ap, subst, ◌∙◌}
use Rattle.std.specs.Prelude.{unwrap_or}
use Rattle.journal_inode.specs.Versions.{extra_count}
use Rattle.journal_file_types.specs.declared.status.Status.TheVariants.{NoSpace}
use Rattle.journal_filestore.specs.Files.{files_of}
use Rattle.journal_filestore.specs.Handles.{data_of, time_of}
use Rattle.journal_filestore.specs.Operations.{setattr_case, is_too_big, root_set, with_settings, file_target}
use Rattle.journal_filestore.proofs.Doings.{Makes-same, Does-some}
use Rattle.journal_filestore.proofs.Answering.{Does-gone, Does-directory, Does-regular, Does-changed, changed-puts}
use Rattle.journal_filestore.proofs.Setting.{lacks_of, changed_of}
use Rattle.journal_filestore.proofs.SettingCases.{set-not_sync, set-invalid, set-too_big, set-no_space, set-done, attributes-set}
use Rattle.journal_filestore.proofs.set_size.SetSizeOperation.attempt.Goals as goal

pub returns-in-Gone : goal.returns-in-Gone
returns-in-Gone g c =
    let w = c.args.self.now in
    record {
      does = Does-some _ (λ room F r F2. (r, F2) ≡ setattr_case g.V.Version.VERSION room w.settings w.guard (time_of w.moment) F (file_target F w.handle.number w.handle.generation)) c.find.new.txn _ true
          (Does-gone _ (setattr_case g.V.Version.VERSION true w.settings w.guard (time_of w.moment)) w.handle.number w.handle.generation _ _ _ c.requires.writes c.in_ok-find.ensures.told _ c.in-Gone.is (λ F. refl));
      refusal = tt;
    }

pub returns-in-Directory : goal.returns-in-Directory
returns-in-Directory g c =
    let w = c.args.self.now in
    record {
      does = Does-some _ (λ room F r F2. (r, F2) ≡ setattr_case g.V.Version.VERSION room w.settings w.guard (time_of w.moment) F (file_target F w.handle.number w.handle.generation)) c.find.new.txn _ true
          (Does-directory _ (setattr_case g.V.Version.VERSION true w.settings w.guard (time_of w.moment)) w.handle.number w.handle.generation _ _ _ c.requires.writes c.in_ok-find.ensures.told _ _ c.in-Directory.is (λ F is. ap (λ t. (root_set w.settings w.guard t, F)) is ∙ ap (λ x. (x, F)) (sym c.root_set.ensures)));
      refusal = tt;
    }

pub returns-then-is_other_time : goal.returns-then-is_other_time
returns-then-is_other_time g c =
    let w = c.args.self.now in
    record {
      does = Does-some _ (λ room F r F2. (r, F2) ≡ setattr_case g.V.Version.VERSION room w.settings w.guard (time_of w.moment) F (file_target F w.handle.number w.handle.generation)) c.find.new.txn _ true
          (Does-regular _ (setattr_case g.V.Version.VERSION true w.settings w.guard (time_of w.moment)) w.handle.number w.handle.generation _ _ _ c.requires.writes c.in_ok-find.ensures.told _ _ c.in-Regular.is (λ m sound. set-not_sync g.V.Version.VERSION w.settings w.guard (time_of w.moment) _ _ _ true (sym c.is_other_time.ensures ∙ c.if-is_other_time.true)));
      refusal = tt;
    }

pub returns-then-is_no_time : goal.returns-then-is_no_time
returns-then-is_no_time g c =
    let w = c.args.self.now in
    record {
      does = Does-some _ (λ room F r F2. (r, F2) ≡ setattr_case g.V.Version.VERSION room w.settings w.guard (time_of w.moment) F (file_target F w.handle.number w.handle.generation)) c.find.new.txn _ true
          (Does-regular _ (setattr_case g.V.Version.VERSION true w.settings w.guard (time_of w.moment)) w.handle.number w.handle.generation _ _ _ c.requires.writes c.in_ok-find.ensures.told _ _ c.in-Regular.is (λ m sound. set-invalid g.V.Version.VERSION w.settings w.guard (time_of w.moment) _ _ _ true (sym c.is_other_time.ensures ∙ c.if-is_other_time.false) (sym c.is_no_time.ensures ∙ c.if-is_no_time.true)));
      refusal = tt;
    }

pub returns-then-is_too_big : goal.returns-then-is_too_big
returns-then-is_too_big g c =
    let w = c.args.self.now in
    record {
      does = Does-some _ (λ room F r F2. (r, F2) ≡ setattr_case g.V.Version.VERSION room w.settings w.guard (time_of w.moment) F (file_target F w.handle.number w.handle.generation)) c.find.new.txn _ true
          (Does-regular _ (setattr_case g.V.Version.VERSION true w.settings w.guard (time_of w.moment)) w.handle.number w.handle.generation _ _ _ c.requires.writes c.in_ok-find.ensures.told _ _ c.in-Regular.is (λ m sound. set-too_big g.V.Version.VERSION w.settings w.guard (time_of w.moment) _ _ _ true (sym c.is_other_time.ensures ∙ c.if-is_other_time.false) (sym c.is_no_time.ensures ∙ c.if-is_no_time.false) (sym (c.is_too_big.ensures ∙ ap (λ v. is_too_big v w.settings.size) c.VERSION.ensures) ∙ c.if-is_too_big.true)));
      refusal = tt;
    }

pub returns-in-None : goal.returns-in-None
returns-in-None g c =
    let w = c.args.self.now in
    let f = c.in-Regular.file in
    let short = lacks_of g.V.Version.VERSION _ _ _ w.handle.number f _ _ _ _ c.in_ok-set_file.ensures.changes c.in-None.is in
    record {
      does = Does-some _ (λ room F r F2. (r, F2) ≡ setattr_case g.V.Version.VERSION room w.settings w.guard (time_of w.moment) F (file_target F w.handle.number w.handle.generation)) c.set_file.new.txn _ false
          (Does-changed _ (setattr_case g.V.Version.VERSION false w.settings w.guard (time_of w.moment)) w.handle.number w.handle.generation _ _ _ c.requires.writes c.in_ok-find.ensures.told _ f _ _ c.in-Regular.is
          (Makes-same _ _ _ _ (c.in_ok-find.ensures.told.writes ∙ c.requires.writes) short.told)
          (λ m n sound whole number here stays. (
            stays.0,
            ap (λ F. (Err NoSpace, F)) stays.1
                ∙ sym (set-no_space g.V.Version.VERSION w.settings w.guard (time_of w.moment) (files_of g.V.Version.VERSION m) _ _ (sym c.is_other_time.ensures ∙ c.if-is_other_time.false) (sym c.is_no_time.ensures ∙ c.if-is_no_time.false) (sym (c.is_too_big.ensures ∙ ap (λ v. is_too_big v w.settings.size) c.VERSION.ensures) ∙ c.if-is_too_big.false)
                (subst (λ k. extra_count g.V.Version.VERSION k < extra_count g.V.Version.VERSION (unwrap_or w.settings.size k)) (sym whole.whole) short.needed)),
          )));
      refusal = tt;
    }

pub returns-in-Some : goal.returns-in-Some
returns-in-Some g c =
    let w = c.args.self.now in
    let f = c.in-Regular.file in
    let changes = changed_of g.V.Version.VERSION _ _ _ w.handle.number f _ _ _ _ c.in-Some.after c.in_ok-set_file.ensures.changes c.in-Some.is in
    record {
      does = Does-some _ (λ room F r F2. (r, F2) ≡ setattr_case g.V.Version.VERSION room w.settings w.guard (time_of w.moment) F (file_target F w.handle.number w.handle.generation)) c.set_file.new.txn _ true
          (Does-changed _ (setattr_case g.V.Version.VERSION true w.settings w.guard (time_of w.moment)) w.handle.number w.handle.generation _ _ _ c.requires.writes c.in_ok-find.ensures.told _ f _ _ c.in-Regular.is
          changes.makes
          (λ m n sound whole number here puts. (
            (puts number here).sound,
            changed-puts m n _ f (with_settings (data_of g.V.Version.VERSION m f) w.settings (time_of w.moment)) _ _ whole number here c.attributes_of.ensures
                (c.attributes_of-in-Some.ensures ∙ attributes-set g.V.Version.VERSION m _ f c.in-Some.after w.settings (time_of w.moment) whole changes.attributes) (puts number here)
                ∙ sym (set-done g.V.Version.VERSION w.settings w.guard (time_of w.moment) (files_of g.V.Version.VERSION m) _ _ (sym c.is_other_time.ensures ∙ c.if-is_other_time.false) (sym c.is_no_time.ensures ∙ c.if-is_no_time.false) (sym (c.is_too_big.ensures ∙ ap (λ v. is_too_big v w.settings.size) c.VERSION.ensures) ∙ c.if-is_too_big.false)),
          )));
      refusal = tt;
    }
