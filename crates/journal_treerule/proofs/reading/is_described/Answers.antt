use Rattle.std.proofs.Common.{refl, subst, ap, ◌∙◌, length}
use Rattle.std.specs.Prelude.{◌↔◌, IsTrue}
use Rattle.journal_treestore.specs.Places.Object.{the_description}
use Rattle.journal_treerule.specs.Parts.{IsDescriptionOf}
use Rattle.journal_treerule.proofs.Disks.{valid-on, description-has}
use Rattle.journal_treerule.proofs.reading.is_described.Goals as goal

pub read-requires : goal.read-requires
read-requires g c = record { valid = valid-on c.args.cut (g.O.ObjectReader.map c.args.reader.now) the_description c.requires.cut c.requires.layout tt }

pub is_description-requires-clause-whole : goal.is_description-requires-clause-whole
is_description-requires-clause-whole g c = ap length c.bytes.ensures ∙ description-has c.args.cut (g.O.ObjectReader.map c.args.reader.now) _ c.in_ok-value.value c.requires.cut c.requires.layout refl c.in_ok-value.ensures.object

pub returns-clause-described : goal.returns-clause-described
returns-clause-described g c = λ trusted. subst (λ v. IsTrue c.is_description.result ↔ IsDescriptionOf c.args.cut v) (c.bytes.ensures ∙ c.in_ok-value.ensures.value trusted) c.is_description.ensures
