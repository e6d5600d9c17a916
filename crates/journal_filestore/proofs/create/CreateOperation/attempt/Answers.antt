use Rattle.std.proofs.Common.{true, refl, sym, ap, ◌∙◌}
use Rattle.std.proofs.lemmas.Bool.{cond-true}
use Rattle.journal_filestore.specs.Handles.{time_of}
use Rattle.journal_filestore.specs.Operations.{create_case, create_number}
use Rattle.journal_filestore.proofs.Answering.{Does-gone, Does-directory, Does-regular}
use Rattle.journal_filestore.proofs.Doings.{IfOk-like, Makes-nothing}
use Rattle.journal_filestore.proofs.Creations.{create-unsupported, create-asked, create-at_root, create-at_file, create-at_free, Does-room, Does-tail}
use Rattle.journal_filestore.proofs.create.CreateOperation.attempt.Goals as goal

pub returns-in-Gone : goal.returns-in-Gone
returns-in-Gone g c =
    let w = c.args.self.now in
    record { does = Does-room g.V.Version.VERSION _ w.name.now w.how (time_of w.moment) w.directory.number w.directory.generation c.find.new.txn _ true (Does-gone _ (create_case g.V.Version.VERSION true w.name.now w.how (time_of w.moment)) w.directory.number w.directory.generation _ _ _ c.requires.writes c.in_ok-find.ensures.told _ c.in-Gone.is (λ F. refl)); refusal = tt }

pub returns-in-Regular : goal.returns-in-Regular
returns-in-Regular g c =
    let w = c.args.self.now in
    record { does = Does-room g.V.Version.VERSION _ w.name.now w.how (time_of w.moment) w.directory.number w.directory.generation c.find.new.txn _ true (Does-regular _ (create_case g.V.Version.VERSION true w.name.now w.how (time_of w.moment)) w.directory.number w.directory.generation _ _ _ c.requires.writes c.in_ok-find.ensures.told _ _ c.in-Regular.is (λ m sound. refl)); refusal = tt }

pub returns-in_default : goal.returns-in_default
returns-in_default g c =
    let w = c.args.self.now in
    record {
      does = Does-room g.V.Version.VERSION _ w.name.now w.how (time_of w.moment) w.directory.number w.directory.generation c.find.new.txn _ true (Does-directory _ (create_case g.V.Version.VERSION true w.name.now w.how (time_of w.moment)) w.directory.number w.directory.generation _ _ _ c.requires.writes c.in_ok-find.ensures.told _ _ c.in-Directory.is
          (λ F is. create-unsupported g.V.Version.VERSION true w.name.now w.how (time_of w.moment) F (sym c.asked.ensures ∙ c.in_default.is)));
      refusal = tt;
    }

pub returns-in_default-number_of : goal.returns-in_default-number_of
returns-in_default-number_of g c =
    let w = c.args.self.now in
    record {
      does = Does-room g.V.Version.VERSION _ w.name.now w.how (time_of w.moment) w.directory.number w.directory.generation c.find.new.txn _ true
          (Does-directory _ (create_case g.V.Version.VERSION true w.name.now w.how (time_of w.moment)) w.directory.number w.directory.generation _ _ _ c.requires.writes c.in_ok-find.ensures.told _ _ c.in-Directory.is
          (λ F is. create-asked g.V.Version.VERSION true w.name.now w.how (time_of w.moment) F _ (sym c.asked.ensures ∙ c.in-Some.is)
          ∙ ap (create_number g.V.Version.VERSION true c.in-Some.is_guarded c.in-Some.settings (time_of w.moment) F) (sym c.number_of.ensures.value ∙ c.in_default-number_of.is)));
      refusal = tt;
    }

pub returns-then-is_no_time : goal.returns-then-is_no_time
returns-then-is_no_time g c =
    let w = c.args.self.now in
    record {
      does = Does-room g.V.Version.VERSION _ w.name.now w.how (time_of w.moment) w.directory.number w.directory.generation c.find.new.txn _ true
          (Does-directory _ (create_case g.V.Version.VERSION true w.name.now w.how (time_of w.moment)) w.directory.number w.directory.generation _ _ _ c.requires.writes c.in_ok-find.ensures.told _ _ c.in-Directory.is
          (λ F is. create-asked g.V.Version.VERSION true w.name.now w.how (time_of w.moment) F _ (sym c.asked.ensures ∙ c.in-Some.is)
          ∙ ap (create_number g.V.Version.VERSION true c.in-Some.is_guarded c.in-Some.settings (time_of w.moment) F) (sym c.in-Some-number_of.ensures.value)
          ∙ cond-true _ _ _ (sym c.is_no_time.ensures ∙ c.if-is_no_time.true)));
      refusal = tt;
    }

pub returns-in-Free : goal.returns-in-Free
returns-in-Free g c =
    let w = c.args.self.now in
    record {
      does = IfOk-like c.make.result _ _
          (λ answer made.
          Does-tail g.V.Version.VERSION _ w.name.now w.how (time_of w.moment) w.directory.number w.directory.generation _ _ _ _ _ _ _ _ answer _ c.in_ok-find.ensures.told c.in-Directory.is c.in_ok-last.ensures.told made
          (λ m after sound is here leads.
          let free = here ∙ c.in-Free.is in
          create-at_free g.V.Version.VERSION w.name.now w.how c.in-Some.settings c.in-Some.is_guarded (time_of w.moment) _ (sym c.asked.ensures ∙ c.in-Some.is) c.in-Some-number_of.ensures.value (sym c.is_no_time.ensures ∙ c.if-is_no_time.false) c.in-Some-number_of.ensures.number
          m after _ answer free (leads free is)))
          c.make.ensures.makes;
      refusal = c.make.ensures.refusal;
    }

pub returns-in-File : goal.returns-in-File
returns-in-File g c =
    let w = c.args.self.now in
    record {
      does = IfOk-like c.set.result _ _
          (λ answer made.
          Does-tail g.V.Version.VERSION _ w.name.now w.how (time_of w.moment) w.directory.number w.directory.generation _ _ _ _ _ _ _ _ answer _ c.in_ok-find.ensures.told c.in-Directory.is c.in_ok-last.ensures.told made
          (λ m after sound is here leads.
          let there = here ∙ c.in-File.is in
          create-at_file g.V.Version.VERSION w.name.now w.how c.in-Some.settings c.in-Some.is_guarded (time_of w.moment) _ (sym c.asked.ensures ∙ c.in-Some.is) c.in-Some-number_of.ensures.value (sym c.is_no_time.ensures ∙ c.if-is_no_time.false) c.in-Some-number_of.ensures.number
          m after _ answer there (leads there is)))
          c.set.ensures.makes;
      refusal = c.set.ensures.refusal;
    }

pub returns-in-Root : goal.returns-in-Root
returns-in-Root g c =
    let w = c.args.self.now in
    record {
      does = Does-tail g.V.Version.VERSION _ w.name.now w.how (time_of w.moment) w.directory.number w.directory.generation _ _ c.in-Some-number_of.number _ _ _ _ _ _ _ c.in_ok-find.ensures.told c.in-Directory.is c.in_ok-last.ensures.told (Makes-nothing _ _ (c.in_ok-last.ensures.told.writes ∙ c.in_ok-find.ensures.told.writes ∙ c.requires.writes))
          (λ m after sound is here nothing.
          create-at_root g.V.Version.VERSION w.name.now w.how c.in-Some.settings c.in-Some.is_guarded (time_of w.moment) _ (sym c.asked.ensures ∙ c.in-Some.is) c.in-Some-number_of.ensures.value (sym c.is_no_time.ensures ∙ c.if-is_no_time.false) c.in-Some-number_of.ensures.number
          m after _ _ sound (here ∙ c.in-Root.is));
      refusal = tt;
    }
