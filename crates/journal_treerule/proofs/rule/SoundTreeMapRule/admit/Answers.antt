use Rattle.std.proofs.Common.{◌≡◌, Some, None, sym, subst, ◌∙◌}
use Rattle.std.specs.Prelude.{IfSome}
use Rattle.std.proofs.lemmas.Bool.{false≢true}
use Rattle.std.proofs.lemmas.Result.{IfOk-weaker}
use Rattle.journal_world.specs.Files.{shape}
use Rattle.journal_treestore.specs.declared.place.Cut.{Cut}
use Rattle.journal_treestore.specs.Places.{shape_of, IsCut}
use Rattle.journal_treeobjects.specs.Maps.{IsWhole, HasSoundTree}
use Rattle.journal_treerule.proofs.rule.SoundTreeMapRule.admit.Goals as goal

pub returns-in-None-clause-admitted : goal.returns-in-None-clause-admitted
returns-in-None-clause-admitted g c = λ trusted. (
  (λ no. absurd (false≢true no)),
  (λ tree. absurd (let e : None ≡ Some tree.0 = sym c.in-None.is ∙ c.cut_of_layout.ensures.found tree.0 tree.1.cut tree.1.whole (c.layout.ensures ∙ tree.1.layout) in cc)),
)

pub has_sound_tree-requires-clause-cut : goal.has_sound_tree-requires-clause-cut
has_sound_tree-requires-clause-cut g c = (subst (λ o. IfSome o (λ cut. IsCut cut × IsWhole cut × (shape c.layout.result ≡ shape_of cut))) c.in-Some.is c.cut_of_layout.ensures.is).0

pub has_sound_tree-requires-clause-whole : goal.has_sound_tree-requires-clause-whole
has_sound_tree-requires-clause-whole g c = (subst (λ o. IfSome o (λ cut. IsCut cut × IsWhole cut × (shape c.layout.result ≡ shape_of cut))) c.in-Some.is c.cut_of_layout.ensures.is).1

pub has_sound_tree-requires-clause-layout : goal.has_sound_tree-requires-clause-layout
has_sound_tree-requires-clause-layout g c = sym c.layout.ensures ∙ (subst (λ o. IfSome o (λ cut. IsCut cut × IsWhole cut × (shape c.layout.result ≡ shape_of cut))) c.in-Some.is c.cut_of_layout.ensures.is).2

pub returns-in-Some-clause-admitted : goal.returns-in-Some-clause-admitted
returns-in-Some-clause-admitted g c = λ trusted.
    IfOk-weaker c.has_sound_tree.result _ _
    (λ b sound. (
      (λ yes. (c.in-Some.cut, sound.0 yes)),
      (λ tree.
          let e : Some tree.0 ≡ Some c.in-Some.cut = sym (c.cut_of_layout.ensures.found tree.0 tree.1.cut tree.1.whole (c.layout.ensures ∙ tree.1.layout)) ∙ c.in-Some.is in
          let same : tree.0 ≡ c.in-Some.cut = cc in
          sound.1 (subst (λ d. HasSoundTree d (g.O.ObjectReader.map c.args.reader.now)) same tree.1)),
    ))
    (c.has_sound_tree.ensures.sound trusted)
