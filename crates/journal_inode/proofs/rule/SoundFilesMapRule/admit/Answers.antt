use Rattle.std.proofs.Common.{rules, sym, subst}
use Rattle.std.specs.Prelude.{◌↔◌, IsTrue, IfOk}
use Rattle.std.proofs.lemmas.Bool.{false≢true}
use Rattle.journal_inode.specs.Places.{HasFiles}
use Rattle.journal_inode.specs.Sound.{HasSoundFiles}
use Rattle.journal_inode.proofs.Admitted.{none_admitted, some_admitted}
use Rattle.journal_inode.proofs.rule.SoundFilesMapRule.admit.Goals as goal

pub returns-in-None-clause-admitted : goal.returns-in-None-clause-admitted
returns-in-None-clause-admitted g c = λ trusted. (
  (λ no. absurd (false≢true no)),
  (λ sound. absurd (none_admitted c.VERSION-version.result _ _ _ _ _ _ c.has_superblock.ensures.same_map c.has_superblock.ensures.same_trust c.in_ok-owners.ensures.sound c.in-None.is trusted
      (subst (λ version. HasSoundFiles version (g.O.ObjectReader.map c.args.reader.now)) (sym c.VERSION-version.ensures) sound))),
)

pub returns-in-Some-clause-admitted : goal.returns-in-Some-clause-admitted
returns-in-Some-clause-admitted g c =
    let cut : HasFiles (g.O.ObjectReader.map c.args.reader.now).layout = search rules in
    subst (λ version. IsTrue (g.O.ObjectReader.trusted c.args.reader.now) → IfOk c.are_bits_sound-answer.result (λ admitted. IsTrue admitted ↔ HasSoundFiles version (g.O.ObjectReader.map c.args.reader.now)))
    c.VERSION-version.ensures
    (some_admitted c.VERSION-version.result (λ v. v.items) _ _ _ _ _ _ _ _ _ _ _ c.has_superblock.ensures.same_map c.owners.ensures.same_map c.has_superblock.ensures.same_trust c.owners.ensures.same_trust
    cut c.in_ok-has_superblock.ensures.sound c.if-not-branch.false c.in_ok-owners.ensures.sound c.in-Some.is c.in_ok-owners.ensures.whole
    c.are_bits_sound-answer.ensures.sound c.deref.ensures.value)
