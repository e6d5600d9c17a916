use Rattle.std.proofs.Common.{refl, subst, sym}
use Rattle.journal_command.specs.Values.{SpellsValue}
use Rattle.journal_command.proofs.Parts.{same_from_Spells}
use Rattle.journal_command.proofs.value.ValueRoom.read.Goals as goal

pub returns : goal.returns
returns c =
    let found = subst (SpellsValue c.args.text.now) (sym c.deref.ensures.value) (c.if-not-push_terms.ensures.found refl) in
    record { found = found; only = λ other spells. same_from_Spells _ _ _ spells found; none = tt }
