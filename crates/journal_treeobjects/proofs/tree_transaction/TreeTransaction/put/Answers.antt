use Rattle.std.proofs.Common.{◌≡◌, [], ◌∷◌, sym, ap, subst, ◌∙◌}
use Rattle.journal_treestore.specs.Places.{IsOnDisk}
use Rattle.journal_treeobjects.specs.Effects.{object_of, AreOnDisk}
use Rattle.journal_treeobjects.specs.States.{TreeState, write_of, last_first, AreSized}
use Rattle.journal_treeobjects.proofs.Waiting.{last_first-more}
use Rattle.journal_treeobjects.proofs.tree_transaction.TreeTransaction.put.Goals as goal

pub invariant_of-self-2 : goal.invariant_of-self-2
invariant_of-self-2 g c =
    let more : last_first c.push.new.self.items [] ≡ write_of c.args.write ∷ last_first c.self.inside.waiting.items [] =
    ap (λ ws. last_first ws []) c.in_ok-push.ensures.items ∙ last_first-more c.self.inside.waiting.items c.args.write [] in
    record {
      cut = c.self.invariant.cut;
      whole = c.self.invariant.whole;
      shape = c.self.invariant.shape;
      unwritten = c.self.invariant.unwritten;
      read = c.self.invariant.read;
      objects = c.self.invariant.objects;
      on_disk = subst (AreOnDisk c.self.inside.cut) (sym more)
          (subst (λ (s : TreeState). IsOnDisk s.cut (object_of (write_of c.args.write))) (sym c.self.view_is) c.requires.on_disk, c.self.invariant.on_disk);
      sized = subst AreSized (sym more) (c.requires.sized, c.self.invariant.sized);
      told = c.self.invariant.told;
    }

pub returns-clause-written : goal.returns-clause-written
returns-clause-written g c =
    let more : last_first c.push.new.self.items [] ≡ write_of c.args.write ∷ last_first c.self.inside.waiting.items [] =
    ap (λ ws. last_first ws []) c.in_ok-push.ensures.items ∙ last_first-more c.self.inside.waiting.items c.args.write [] in
    more ∙ ap (λ (s : TreeState). write_of c.args.write ∷ s.writes) c.self.view_is
