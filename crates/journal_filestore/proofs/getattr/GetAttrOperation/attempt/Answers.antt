use Rattle.std.proofs.Common.{Ok, refl, sym, ap, ◌∙◌}
use Rattle.journal_filestore.specs.Files.{files_of}
use Rattle.journal_filestore.specs.Operations.{getattr_case, of_root}
use Rattle.journal_filestore.proofs.Answering.{Does-gone, Does-directory, Does-regular, attributes-data}
use Rattle.journal_filestore.proofs.getattr.GetAttrOperation.attempt.Goals as goal

pub returns-in-Gone : goal.returns-in-Gone
returns-in-Gone g c = let h = c.args.self.now.handle in record {
  does = Does-gone _ getattr_case h.number h.generation _ _ _ c.requires.writes c.in_ok-find.ensures.told _ c.in-Gone.is (λ F. refl);
  refusal = tt;
}

pub returns-in-Directory : goal.returns-in-Directory
returns-in-Directory g c = let h = c.args.self.now.handle in record {
  does = Does-directory _ getattr_case h.number h.generation _ _ _ c.requires.writes c.in_ok-find.ensures.told _ _ c.in-Directory.is
      (λ F is. ap (λ t. (Ok (of_root t), F)) is ∙ ap (λ x. (Ok x, F)) (sym c.root_attributes.ensures));
  refusal = tt;
}

pub returns-in-Regular : goal.returns-in-Regular
returns-in-Regular g c = let h = c.args.self.now.handle in record {
  does = Does-regular _ getattr_case h.number h.generation _ _ _ c.requires.writes c.in_ok-find.ensures.told _ _ c.in-Regular.is
      (λ m sound. ap (λ x. (Ok x, files_of g.V.Version.VERSION m)) (attributes-data m _ _ sound ∙ sym c.attributes_of.ensures));
  refusal = tt;
}
