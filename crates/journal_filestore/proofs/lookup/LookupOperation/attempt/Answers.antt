use Rattle.std.proofs.Common.{refl, sym, ap, ◌∙◌}
use Rattle.journal_filestore.specs.Operations.{lookup_case, lookup_number}
use Rattle.journal_filestore.proofs.Answering.{Does-gone, Does-directory, Does-regular, Does-in_root}
use Rattle.journal_filestore.proofs.Naming.{lookup-absent, lookup-found}
use Rattle.journal_filestore.proofs.lookup.LookupOperation.attempt.Goals as goal

pub returns-in-Gone : goal.returns-in-Gone
returns-in-Gone g c =
    let w = c.args.self.now in
    record { does = Does-gone _ (lookup_case w.name.now) w.directory.number w.directory.generation _ _ _ c.requires.writes c.in_ok-find.ensures.told _ c.in-Gone.is (λ F. refl); refusal = tt }

pub returns-in-Regular : goal.returns-in-Regular
returns-in-Regular g c =
    let w = c.args.self.now in
    record { does = Does-regular _ (lookup_case w.name.now) w.directory.number w.directory.generation _ _ _ c.requires.writes c.in_ok-find.ensures.told _ _ c.in-Regular.is (λ m sound. refl); refusal = tt }

pub returns-in_default : goal.returns-in_default
returns-in_default g c =
    let w = c.args.self.now in
    record {
      does = Does-directory _ (lookup_case w.name.now) w.directory.number w.directory.generation _ _ _ c.requires.writes c.in_ok-find.ensures.told _ _ c.in-Directory.is
          (λ F is. ap (lookup_number F) (sym c.number_of.ensures.value ∙ c.in_default.is));
      refusal = tt;
    }

pub returns-in_default-2 : goal.returns-in_default-2
returns-in_default-2 g c =
    let w = c.args.self.now in
    record {
      does = Does-in_root _ (lookup_case w.name.now) w.directory.number w.directory.generation _ _ _ c.requires.writes c.in_ok-find.ensures.told _ _ c.in-Some.number _ _ c.in-Directory.is c.in_ok-file.ensures.told
          (λ m sound is here. ap (lookup_number _) (sym c.in-Some.ensures.value) ∙ lookup-absent m _ _ sound c.in-Some.ensures.number here c.in_default-2.not-File);
      refusal = tt;
    }

pub returns : goal.returns
returns g c =
    let w = c.args.self.now in
    record {
      does = Does-in_root _ (lookup_case w.name.now) w.directory.number w.directory.generation _ _ _ c.requires.writes c.in_ok-find.ensures.told _ _ c.in-Some.number _ _ c.in-Directory.is c.in_ok-file.ensures.told
          (λ m sound is here. ap (lookup_number _) (sym c.in-Some.ensures.value)
          ∙ lookup-found m _ _ _ _ _ sound c.in-Some.ensures.number (here ∙ c.in-File.is) is c.attributes_of.ensures c.root_attributes.ensures);
      refusal = tt;
    }
