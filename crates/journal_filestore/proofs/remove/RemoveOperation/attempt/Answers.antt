use Rattle.std.proofs.Common.{suc, ◌≡◌, ◌≤◌, ◌+◌, ◌∷◌, take, refl, sym, ap, subst, ◌∙◌, arith}
use Rattle.std.proofs.lemmas.List.{length-take}
use Rattle.journal_inode.specs.declared.node.Node.TheVariants.{File}
use Rattle.journal_inode.specs.Nodes.{Fits}
use Rattle.journal_inode.specs.Versions.{most_bytes, extra_count}
use Rattle.journal_inode.proofs.Blocks.{more_fits}
use Rattle.journal_filestore.specs.Handles.{IsSmall}
use Rattle.journal_filestore.specs.Operations.{remove_case, remove_number}
use Rattle.journal_filestore.proofs.Answering.{Does-gone, Does-directory, Does-regular, Does-in_root, Does-made_in_root}
use Rattle.journal_filestore.proofs.Naming.{remove-absent, remove-found}
use Rattle.journal_filestore.proofs.Removals.{Makes-remove}
use Rattle.journal_filestore.proofs.remove.RemoveOperation.attempt.Goals as goal

pub returns-in-Gone : goal.returns-in-Gone
returns-in-Gone g c =
    let w = c.args.self.now in
    record { does = Does-gone _ (remove_case w.name.now) w.directory.number w.directory.generation _ _ _ c.requires.writes c.in_ok-find.ensures.told _ c.in-Gone.is (λ F. refl); refusal = tt }

pub returns-in-Regular : goal.returns-in-Regular
returns-in-Regular g c =
    let w = c.args.self.now in
    record { does = Does-regular _ (remove_case w.name.now) w.directory.number w.directory.generation _ _ _ c.requires.writes c.in_ok-find.ensures.told _ _ c.in-Regular.is (λ m sound. refl); refusal = tt }

pub returns-in_default : goal.returns-in_default
returns-in_default g c =
    let w = c.args.self.now in
    record {
      does = Does-directory _ (remove_case w.name.now) w.directory.number w.directory.generation _ _ _ c.requires.writes c.in_ok-find.ensures.told _ _ c.in-Directory.is
          (λ F is. ap (remove_number F) (sym c.number_of.ensures.value ∙ c.in_default.is));
      refusal = tt;
    }

pub returns-in_default-2 : goal.returns-in_default-2
returns-in_default-2 g c =
    let w = c.args.self.now in
    record {
      does = Does-in_root _ (remove_case w.name.now) w.directory.number w.directory.generation _ _ _ c.requires.writes c.in_ok-find.ensures.told _ _ c.in-Some.number _ _ c.in-Directory.is c.in_ok-file.ensures.told
          (λ m sound is here. ap (remove_number _) (sym c.in-Some.ensures.value) ∙ remove-absent m _ _ sound c.in-Some.ensures.number here c.in_default-2.not-File);
      refusal = tt;
    }

pub returns : goal.returns
returns g c =
    let w = c.args.self.now in
    let f = c.in-File.file in
    let fits : Fits (File f) = subst Fits c.in-File.is c.in_ok-file.ensures.fits in
    let small : f.size ≤ most_bytes g.V.Version.VERSION = subst (IsSmall g.V.Version.VERSION) c.in-File.is c.in_ok-file.ensures.small in
    let count : c.extra_count-count.result ≡ extra_count g.V.Version.VERSION f.size = c.extra_count-count.ensures ∙ ap (λ v. extra_count v f.size) c.VERSION.ensures in
    record {
      does = Does-made_in_root _ (remove_case w.name.now) w.directory.number w.directory.generation _ _ _ c.requires.writes c.in_ok-find.ensures.told _ _ c.in-Some.number _ _ _ _ c.in-Directory.is c.in_ok-file.ensures.told
          (Makes-remove g.V.Version.VERSION _ c.in-Some.number f _ _ _ _ (c.in_ok-file.ensures.told.writes ∙ c.in_ok-find.ensures.told.writes ∙ c.requires.writes)
          (ap (λ k. take (1 + k) c.numbers-numbers.result) count
          ∙ ap (take (1 + extra_count g.V.Version.VERSION f.size)) c.numbers-numbers.ensures
          ∙ ap (λ k. take k (f.block ∷ f.more)) (let e : 1 + extra_count g.V.Version.VERSION f.size ≡ suc (extra_count g.V.Version.VERSION f.size) = omega arith in e))
          (omega (arith, length-take (1 + c.extra_count-count.result) c.numbers-numbers.result, count, more_fits g.V.Version.VERSION f.size small))
          c.in_ok-write_bits.ensures.writes c.in_ok-write_node.ensures.writes c.in-Some.ensures.number fits)
          (λ m after sound is here puts.
          let at : _ ≡ File f = here ∙ c.in-File.is in (
            (puts at).sound,
            remove-found m after _ f _ _ sound c.in-Some.ensures.number at is c.root_attributes.ensures (puts at) ∙ ap (remove_number _) c.in-Some.ensures.value,
          ));
      refusal = tt;
    }
