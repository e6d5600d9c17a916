use Rattle.std.proofs.Common.{◌≡◌, IsTrue, Some, rules, subst}
use Rattle.journal_world.specs.Maps.{value_among, is_object}
use Rattle.journal_treestore.specs.Places.{shape_of}
use Rattle.journal_treeobjects.specs.States.{TreeState}
use Rattle.journal_treeobjects.proofs.Keeping.{found-object}
use Rattle.journal_treeobjects.proofs.tree_transaction.TreeTransaction.kept_value.Goals as goal

pub returns-in_ok-clone-in-Some-clause-object : goal.returns-in_ok-clone-in-Some-clause-object
returns-in_ok-clone-in-Some-clause-object g c =
    let found : value_among c.self.inside.kept c.args.addr ≡ Some c.in_ok-clone-in-Some.field-0 = search rules in
    subst (λ (s : TreeState). IsTrue (is_object (shape_of s.cut) (c.args.addr, c.in_ok-clone-in-Some.field-0))) c.self.view_is
    (found-object (shape_of c.self.inside.cut) c.self.inside.kept c.args.addr c.in_ok-clone-in-Some.field-0 c.self.invariant.objects found)
