use Rattle.std.proofs.Common.{rules, ◌≡◌, ◌∙◌, length, ap, sym, arith}
use Rattle.std.proofs.lemmas.List.{take_at}
use Rattle.journal_treecalls.proofs.Linked.{text-laid, text-laid-long}
use Rattle.journal_treecalls.proofs.symlinks.text_block.Goals as goal

pub put-requires : goal.put-requires
put-requires c =
    let old : c.deref_mut.result.now ≡ c.args.zeros = search rules in
    let l = ap length old ∙ c.requires.whole in
    let few = c.requires.few in omega (arith, l, few)

pub returns-clause-is : goal.returns-clause-is
returns-clause-is c =
    let old : c.deref_mut.result.now ≡ c.args.zeros = search rules in
    let laid = text-laid c.deref_mut.result.now c.put.new.bytes c.args.text.now (old ∙ c.requires.zeros) c.put.ensures in
    let long = text-laid-long c.put.new.bytes c.args.text.now laid c.requires.few in
    let all : c.into_bytes-bytes.result.len ≡ 4096 = search rules in
    c.new.ensures ∙ take_at c.put.new.bytes _ c.into_bytes-bytes.result.len (long ∙ sym all) ∙ laid

pub returns-clause-whole : goal.returns-clause-whole
returns-clause-whole c = text-laid-long c.new.result c.args.text.now (returns-clause-is c) c.requires.few
