use Rattle.std.proofs.Common.{Ok, refl, sym, ap, ◌∙◌}
use Rattle.journal_filestore.specs.Files.{files_of}
use Rattle.journal_filestore.specs.Operations.{commit_case}
use Rattle.journal_filestore.proofs.Answering.{Does-gone, Does-directory, Does-regular, attributes-data}
use Rattle.journal_filestore.proofs.commit.CommitOperation.attempt.Goals as goal

pub returns-in-Gone : goal.returns-in-Gone
returns-in-Gone g c = let h = c.args.self.now.handle in record {
  does = Does-gone _ commit_case h.number h.generation _ _ _ c.requires.writes c.in_ok-find.ensures.told _ c.in-Gone.is (λ F. refl);
  refusal = tt;
}

pub returns-in-Directory : goal.returns-in-Directory
returns-in-Directory g c = let h = c.args.self.now.handle in record {
  does = Does-directory _ commit_case h.number h.generation _ _ _ c.requires.writes c.in_ok-find.ensures.told _ _ c.in-Directory.is (λ F is. refl);
  refusal = tt;
}

pub returns-in-Regular : goal.returns-in-Regular
returns-in-Regular g c = let h = c.args.self.now.handle in record {
  does = Does-regular _ commit_case h.number h.generation _ _ _ c.requires.writes c.in_ok-find.ensures.told _ _ c.in-Regular.is
      (λ m sound. ap (λ x. (Ok x, files_of g.V.Version.VERSION m)) (attributes-data m _ _ sound ∙ sym c.attributes_of.ensures));
  refusal = tt;
}
