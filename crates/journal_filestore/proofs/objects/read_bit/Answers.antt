use Rattle.std.proofs.Common.{IsTrue, sym, subst, ◌-◌, ◌∙◌}
use Rattle.journal_world.specs.declared.address.Kind.TheVariants.{Bit}
use Rattle.journal_world.specs.declared.layout.TheConstants.{FIRST_DATA}
use Rattle.journal_world.specs.Addresses.{is_value_of}
use Rattle.journal_inode.specs.Places.Object.{bit}
use Rattle.journal_filestore.proofs.Fitting.{bit_whole}
use Rattle.journal_filestore.proofs.Doings.{Tells-object, Tells-like}
use Rattle.journal_filestore.proofs.objects.read_bit.Goals as goal

pub is_one-requires : goal.is_one-requires
is_one-requires g c =
    subst (λ v. IsTrue (is_value_of Bit v)) (sym c.bytes.ensures) (bit_whole _ c.requires.cut (c.args.number - FIRST_DATA) _ _ c.bit_addr.ensures c.in_ok-value.ensures.object)

pub returns-clause-told : goal.returns-clause-told
returns-clause-told g c =
    Tells-like _ _ _ _ _ (λ m sound is. is ∙ sym c.bytes.ensures ∙ c.is_one.ensures)
    (Tells-object _ _ _ (bit (c.args.number - FIRST_DATA)) _ _ c.bit_addr.ensures c.requires.writes (c.requires.unread (c.has_bit.ensures.0 c.if-not-has_bit.false)) c.in_ok-value.ensures.reads)
