use Rattle.journal_xdr.specs.ListLaws.{array_laws, list_laws}
use Rattle.journal_xdr.proofs.laws.lists_are_spellings.Goals as goal

pub returns : goal.returns
returns g c =
    let a = g.A.HasItem.item in
    record { array = λ limit la. array_laws a la limit; list = λ la. list_laws a la }
