use Rattle.std.proofs.Common.{ℕ, ◌≡◌, ◌<◌, ◌+◌, ◌*◌, ap, length, sym, subst, ◌∙◌}
use Rattle.std.specs.Prelude.{◌↔◌, IfOk, IfSome, IsTrue}
use Rattle.std.proofs.lemmas.Result.{IfOk-weaker}
use Rattle.journal_world.specs.Maps.{Map}
use Rattle.journal_treeobjects.specs.Maps.{view_of}
use Rattle.journal_treerule.specs.Parts.{IsNumberSound}
use Rattle.journal_treerule.proofs.Scanning.{at-before, found-none, found-some, no-index-block-passes, index-block-fails, numbers-decide}
use Rattle.journal_treerule.proofs.blocks.is_index_block_sound.Goals as goal

pub returns-then-block-eq0-clause-sound : goal.returns-then-block-eq0-clause-sound
returns-then-block-eq0-clause-sound g c = λ trusted. no-index-block-passes (view_of c.args.cut (g.O.ObjectReader.map c.args.reader.now)) c.args.number c.args.size c.args.index c.args.block c.if-block-eq0.true

pub returns-in_default-clause-sound : goal.returns-in_default-clause-sound
returns-in_default-clause-sound g c = λ trusted. index-block-fails (view_of c.args.cut (g.O.ObjectReader.map c.args.reader.now)) c.args.number c.args.size c.args.index c.args.block c.if-block-eq0.false (found-none _ _ _ c.in_default.is (c.in_ok-numbers.ensures.sound trusted))

pub are_numbers_sound-requires-clause-layout : goal.are_numbers_sound-requires-clause-layout
are_numbers_sound-requires-clause-layout g c = ap (λ (m : Map). m.layout) c.sound_block.ensures.same_map ∙ c.requires.layout

pub are_numbers_sound-requires-clause-whole : goal.are_numbers_sound-requires-clause-whole
are_numbers_sound-requires-clause-whole g c = ap length c.bytes.ensures ∙ subst (λ o. IfSome o (λ v. length v ≡ 4096)) c.in-Some.is c.in_ok-numbers.ensures.length

pub returns-clause-sound : goal.returns-clause-sound
returns-clause-sound g c = λ trusted.
    let found = found-some _ _ _ _ c.in-Some.is (c.in_ok-numbers.ensures.sound trusted) in
    IfOk-weaker c.are_numbers_sound.result _ _
    (λ b sound. numbers-decide (view_of c.args.cut (g.O.ObjectReader.map c.args.reader.now)) c.args.number c.args.size c.args.index c.args.block c.bytes.result.now b c.if-block-eq0.false found.0 (found.1 ∙ sym c.bytes.ensures) sound)
    (at-before (λ m. IfOk c.are_numbers_sound.result (λ b. IsTrue b ↔ ((i : ℕ) → i < 1024 → IsNumberSound (view_of c.args.cut m) c.args.size (record { number = c.args.number; place = 48 + 1024 * c.args.index }) c.bytes.result.now i)))
    _ _ _ _ c.sound_block.ensures.same_map c.sound_block.ensures.same_trust c.are_numbers_sound.ensures.sound trusted)
