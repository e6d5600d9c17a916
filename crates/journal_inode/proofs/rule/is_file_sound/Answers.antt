use Rattle.std.proofs.Common.{rules, ◌∙◌, drop, ap, subst, arith}
use Rattle.std.specs.Prelude.{◌↔◌, IsTrue}
use Rattle.std.proofs.lemmas.Result.{IfOk-weaker}
use Rattle.std.proofs.lemmas.List.{take_rest}
use Rattle.journal_inode.specs.Admitting.{AllZero, AreSoundBlocks}
use Rattle.journal_inode.proofs.Blocks.{file_decides, first_blocks}
use Rattle.journal_inode.proofs.rule.is_file_sound.Goals as goal

pub returns-clause-sound : goal.returns-clause-sound
returns-clause-sound g c = λ trusted.
    IfOk-weaker c.are_blocks_sound.result _ _
    (λ sound told. file_decides c.args.version (g.O.ObjectReader.map c.args.reader.now) c.args.file sound (omega arith) (omega (arith, c.if-size-most_bytes.false, c.most_bytes.ensures)) (omega arith) (search rules)
    (subst AllZero (take_rest c.args.file.more c.extra_count-more.result ∙ ap (λ n. drop n c.args.file.more) c.extra_count-more.ensures) (c.are_absent.ensures.0 c.if-not-are_absent.false))
    (subst (λ bs. IsTrue sound ↔ AreSoundBlocks (g.O.ObjectReader.map c.args.reader.now) c.args.file.size bs)
    (first_blocks c.args.version c.args.file c.extra_count-more.result c.numbers.result c.extra_count-more.ensures c.numbers.ensures) told))
    (c.are_blocks_sound.ensures.sound trusted)
