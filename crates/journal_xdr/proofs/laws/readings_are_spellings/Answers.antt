use Rattle.journal_xdr.specs.BasicLaws.{word_laws, hyper_laws, boolean_laws, fixed_laws, opaque_laws, string_laws}
use Rattle.journal_xdr.proofs.laws.readings_are_spellings.Goals as goal

pub returns : goal.returns
returns c = record { word = word_laws; hyper = hyper_laws; boolean = boolean_laws; fixed = fixed_laws; opaque = opaque_laws; string = string_laws }
