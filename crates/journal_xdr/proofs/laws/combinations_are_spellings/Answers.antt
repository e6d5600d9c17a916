use Rattle.journal_xdr.specs.ItemLaws.{pair_laws, made_laws, coded_laws, such_that_laws, variant_laws, tagged_laws}
use Rattle.journal_xdr.specs.BasicLaws.{optional_laws}
use Rattle.journal_xdr.proofs.laws.combinations_are_spellings.Goals as goal

pub returns : goal.returns
returns g c =
    let a = g.A.HasItem.item in
    record {
      pair = λ la lb. pair_laws a g.B.HasItem.item la lb;
      optional = λ la. optional_laws a la;
      such_that = λ test la. such_that_laws test a la;
      made = λ make parts la there back. made_laws a make parts la there back;
      coded = λ meaning code la back. coded_laws a meaning code la back;
      variant = λ make part la there back. variant_laws a make part la there back;
      tagged = λ la arms is_tag. tagged_laws a g.B.HasArms.arm g.B.HasArms.tag_of la arms is_tag;
    }
