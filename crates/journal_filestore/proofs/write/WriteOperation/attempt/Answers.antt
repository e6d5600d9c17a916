use Rattle.std.proofs.Common.{◌≡◌, ◌<◌, ◌≤◌, ◌+◌, true, false, length, max, Err, refl, sym, ap, subst, ◌∙◌, arith}
use Rattle.journal_inode.specs.Sound.{content}
use Rattle.journal_inode.specs.Versions.{most_bytes, extra_count}
use Rattle.journal_file_types.specs.declared.status.Status.TheVariants.{NoSpace}
use Rattle.journal_filestore.specs.Files.{files_of}
use Rattle.journal_filestore.specs.Handles.{time_of}
use Rattle.journal_filestore.specs.Operations.{write_case, file_target}
use Rattle.journal_filestore.proofs.Doings.{Makes-same, Does-some}
use Rattle.journal_filestore.proofs.Numbering.{most_few}
use Rattle.journal_filestore.proofs.Setting.{lacks_of, changed_of}
use Rattle.journal_filestore.proofs.Answering.{Does-gone, Does-directory, Does-regular, Does-changed, changed-puts}
use Rattle.journal_filestore.proofs.Writings.{write-invalid, write-nothing, write-too_big, write-no_space, write-done, placed_data, attributes-written}
use Rattle.journal_filestore.proofs.write.WriteOperation.attempt.Goals as goal

pub returns-in-Gone : goal.returns-in-Gone
returns-in-Gone g c =
    let w = c.args.self.now in
    record {
      does = Does-some _ (λ room F r F2. (r, F2) ≡ write_case g.V.Version.VERSION room w.offset w.count w.bytes.now (time_of w.moment) F (file_target F w.handle.number w.handle.generation)) c.find.new.txn _ true
          (Does-gone _ (write_case g.V.Version.VERSION true w.offset w.count w.bytes.now (time_of w.moment)) w.handle.number w.handle.generation _ _ _ c.requires.writes c.in_ok-find.ensures.told _ c.in-Gone.is (λ F. refl));
      refusal = tt;
    }

pub returns-in-Directory : goal.returns-in-Directory
returns-in-Directory g c =
    let w = c.args.self.now in
    record {
      does = Does-some _ (λ room F r F2. (r, F2) ≡ write_case g.V.Version.VERSION room w.offset w.count w.bytes.now (time_of w.moment) F (file_target F w.handle.number w.handle.generation)) c.find.new.txn _ true
          (Does-directory _ (write_case g.V.Version.VERSION true w.offset w.count w.bytes.now (time_of w.moment)) w.handle.number w.handle.generation _ _ _ c.requires.writes c.in_ok-find.ensures.told _ _ c.in-Directory.is (λ F is. refl));
      refusal = tt;
    }

pub returns-then-self : goal.returns-then-self
returns-then-self g c =
    let w = c.args.self.now in
    record {
      does = Does-some _ (λ room F r F2. (r, F2) ≡ write_case g.V.Version.VERSION room w.offset w.count w.bytes.now (time_of w.moment) F (file_target F w.handle.number w.handle.generation)) c.find.new.txn _ true
          (Does-regular _ (write_case g.V.Version.VERSION true w.offset w.count w.bytes.now (time_of w.moment)) w.handle.number w.handle.generation _ _ _ c.requires.writes c.in_ok-find.ensures.told _ _ c.in-Regular.is (λ m sound. write-invalid g.V.Version.VERSION true w.offset w.count w.bytes.now (time_of w.moment) _ _ _ c.if-self.true));
      refusal = tt;
    }

pub returns-then-self-eq0 : goal.returns-then-self-eq0
returns-then-self-eq0 g c =
    let w = c.args.self.now in
    record {
      does = Does-some _ (λ room F r F2. (r, F2) ≡ write_case g.V.Version.VERSION room w.offset w.count w.bytes.now (time_of w.moment) F (file_target F w.handle.number w.handle.generation)) c.find.new.txn _ true
          (Does-regular _ (write_case g.V.Version.VERSION true w.offset w.count w.bytes.now (time_of w.moment)) w.handle.number w.handle.generation _ _ _ c.requires.writes c.in_ok-find.ensures.told _ _ c.in-Regular.is (λ m sound. write-nothing g.V.Version.VERSION true w.offset w.count w.bytes.now (time_of w.moment) m _ _ _ sound c.attributes_of-before.ensures c.if-self.false c.if-self-eq0.true));
      refusal = tt;
    }

pub returns-then-end-most_bytes : goal.returns-then-end-most_bytes
returns-then-end-most_bytes g c =
    let w = c.args.self.now in
    record {
      does = Does-some _ (λ room F r F2. (r, F2) ≡ write_case g.V.Version.VERSION room w.offset w.count w.bytes.now (time_of w.moment) F (file_target F w.handle.number w.handle.generation)) c.find.new.txn _ true
          (Does-regular _ (write_case g.V.Version.VERSION true w.offset w.count w.bytes.now (time_of w.moment)) w.handle.number w.handle.generation _ _ _ c.requires.writes c.in_ok-find.ensures.told _ _ c.in-Regular.is (λ m sound. write-too_big g.V.Version.VERSION true w.offset w.count w.bytes.now (time_of w.moment) _ _ _ c.if-self.false c.if-self-eq0.false (let past : most_bytes g.V.Version.VERSION < w.offset + w.count = omega (arith, c.saturating_add-end.ensures, c.from.ensures, c.most_bytes.ensures ∙ ap most_bytes c.VERSION.ensures, c.if-end-most_bytes.true) in past)));
      refusal = tt;
    }

pub returns-in-None : goal.returns-in-None
returns-in-None g c =
    let w = c.args.self.now in
    let f = c.in-Regular.file in
    let short = lacks_of g.V.Version.VERSION _ _ _ w.handle.number f _ _ _ _ c.in_ok-put.ensures.changes c.in-None.is in
    let same : w.count ≡ length w.bytes.now = c.if-self.false in
    let end : w.offset + w.count ≤ most_bytes g.V.Version.VERSION = omega (arith, c.saturating_add-end.ensures, c.from.ensures, c.most_bytes.ensures ∙ ap most_bytes c.VERSION.ensures, most_few g.V.Version.VERSION, c.if-end-most_bytes.false) in
    record {
      does = Does-some _ (λ room F r F2. (r, F2) ≡ write_case g.V.Version.VERSION room w.offset w.count w.bytes.now (time_of w.moment) F (file_target F w.handle.number w.handle.generation)) c.put.new.txn _ false
          (Does-changed _ (write_case g.V.Version.VERSION false w.offset w.count w.bytes.now (time_of w.moment)) w.handle.number w.handle.generation _ _ _ c.requires.writes c.in_ok-find.ensures.told _ f _ _ c.in-Regular.is
          (Makes-same _ _ _ _ (c.in_ok-find.ensures.told.writes ∙ c.requires.writes) short.told)
          (λ m n sound whole number here stays. (
            stays.0,
            ap (λ F. (Err NoSpace, F)) stays.1
                ∙ sym (write-no_space g.V.Version.VERSION w.offset w.count w.bytes.now (time_of w.moment) (files_of g.V.Version.VERSION m) _ _ same c.if-self-eq0.false end
                (subst (λ k. extra_count g.V.Version.VERSION (length (content g.V.Version.VERSION m f)) < extra_count g.V.Version.VERSION (max (length (content g.V.Version.VERSION m f)) (w.offset + k))) (sym same)
                (subst (λ k. extra_count g.V.Version.VERSION k < extra_count g.V.Version.VERSION (max k (w.offset + length w.bytes.now))) (sym whole.whole) short.needed))),
          )));
      refusal = tt;
    }

pub returns-in-Some : goal.returns-in-Some
returns-in-Some g c =
    let w = c.args.self.now in
    let f = c.in-Regular.file in
    let changes = changed_of g.V.Version.VERSION _ _ _ w.handle.number f _ _ _ _ c.in-Some.written c.in_ok-put.ensures.changes c.in-Some.is in
    let same : w.count ≡ length w.bytes.now = c.if-self.false in
    let end : w.offset + w.count ≤ most_bytes g.V.Version.VERSION = omega (arith, c.saturating_add-end.ensures, c.from.ensures, c.most_bytes.ensures ∙ ap most_bytes c.VERSION.ensures, most_few g.V.Version.VERSION, c.if-end-most_bytes.false) in
    record {
      does = Does-some _ (λ room F r F2. (r, F2) ≡ write_case g.V.Version.VERSION room w.offset w.count w.bytes.now (time_of w.moment) F (file_target F w.handle.number w.handle.generation)) c.put.new.txn _ true
          (Does-changed _ (write_case g.V.Version.VERSION true w.offset w.count w.bytes.now (time_of w.moment)) w.handle.number w.handle.generation _ _ _ c.requires.writes c.in_ok-find.ensures.told _ f _ _ c.in-Regular.is
          changes.makes
          (λ m n sound whole number here puts. (
            (puts number here).sound,
            changed-puts m n _ f (placed_data g.V.Version.VERSION m f w.offset w.bytes.now (time_of w.moment)) _ _ whole number here c.attributes_of-before.ensures
                (attributes-written g.V.Version.VERSION m _ w.offset w.bytes.now (time_of w.moment) f c.in-Some.written _ whole changes.attributes c.attributes_of.ensures) (puts number here)
                ∙ sym (write-done g.V.Version.VERSION w.offset w.count w.bytes.now (time_of w.moment) (files_of g.V.Version.VERSION m) _ _ same c.if-self-eq0.false end),
          )));
      refusal = tt;
    }
