use Rattle.std.proofs.Common.{◌≡◌, length, subst, ◌∙◌}
use Rattle.std.specs.Prelude.{◌↔◌, IfOk, IfSome, IsTrue}
use Rattle.std.proofs.lemmas.Bool.{false≢true}
use Rattle.std.proofs.lemmas.Result.{IfOk-weaker}
use Rattle.journal_treestore.specs.Sound.{IsSoundView}
use Rattle.journal_treeobjects.specs.Maps.{view_of}
use Rattle.journal_treerule.specs.Parts.{AreInodesRight, AreInUse}
use Rattle.journal_treerule.proofs.Scanning.{at-before, refuses}
use Rattle.journal_treerule.proofs.Admitting.{needs-description, needs-inodes, tree-decides, inodes-none, inodes-some}
use Rattle.journal_treerule.proofs.rule.has_sound_tree.Goals as goal

pub returns-then-not-described-clause-sound : goal.returns-then-not-described-clause-sound
returns-then-not-described-clause-sound g c = λ trusted. refuses c.in_ok-described.described (c.in_ok-described.ensures.described trusted) c.if-not-described.true (needs-description c.args.cut (g.O.ObjectReader.map c.args.reader.now))

pub returns-in_default-clause-sound : goal.returns-in_default-clause-sound
returns-in_default-clause-sound g c = λ trusted. (
  (λ no. absurd (false≢true no)),
  (λ tree. absurd (inodes-none (λ v. v.items) c.args.cut (g.O.ObjectReader.map c.args.reader.now) _ _ _ c.is_described.ensures.same_map c.is_described.ensures.same_trust _ c.in_ok-waiting.ensures.right c.in_default.is trusted (needs-inodes c.args.cut (g.O.ObjectReader.map c.args.reader.now) tree))),
)

pub are_all_reached-requires-clause-whole : goal.are_all_reached-requires-clause-whole
are_all_reached-requires-clause-whole g c = subst (λ o. IfSome o (λ used. length used.items ≡ c.args.cut.numbers)) c.in-Some.is c.in_ok-waiting.ensures.whole

pub returns-clause-sound : goal.returns-clause-sound
returns-clause-sound g c = λ trusted.
    let found = inodes-some (λ v. v.items) c.args.cut (g.O.ObjectReader.map c.args.reader.now) _ _ _ c.is_described.ensures.same_map c.is_described.ensures.same_trust _ c.in_ok-waiting.ensures.right c.in-Some.waiting c.in-Some.is trusted in
    IfOk-weaker c.are_all_reached.result _ _
    (λ b sound. tree-decides c.args.cut (g.O.ObjectReader.map c.args.reader.now) b c.requires.cut c.requires.whole c.requires.layout ((c.in_ok-described.ensures.described trusted).0 c.if-not-described.false) sound)
    (at-before (λ m. AreInodesRight (view_of c.args.cut m) c.args.cut.numbers → AreInUse (view_of c.args.cut m) c.args.cut.numbers c.in-Some.waiting.items
    → IfOk c.are_all_reached.result (λ b. IsTrue b ↔ IsSoundView (view_of c.args.cut m))) _ _ _ _
    (c.nodes_in_use.ensures.same_map ∙ c.is_described.ensures.same_map) (c.nodes_in_use.ensures.same_trust ∙ c.is_described.ensures.same_trust)
    c.are_all_reached.ensures.sound trusted found.0 found.1)
