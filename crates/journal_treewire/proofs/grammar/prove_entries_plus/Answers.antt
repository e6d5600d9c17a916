use Rattle.std.proofs.Common.{◌≡◌, take, subst, arith}
use Rattle.std.specs.List.{All}
use Rattle.std.proofs.lemmas.List.{take_all}
use Rattle.std.proofs.lemmas.List.Elements.{All-more}
use Rattle.journal_treewire.specs.CodeViews.{line_plus_seen}
use Rattle.journal_treewire.specs.Results.{entry_plus}
use Rattle.journal_treewire.proofs.grammar.prove_entries_plus.Goals as goal

pub loop-line-preserved : goal.loop-line-preserved
loop-line-preserved c = All-more (λ x. entry_plus.Has (line_plus_seen c.args.disk x)) c.args.lines.now c.loop-line.line-index _ c.loop-line-test.true c.loop-line.invariant c.prove_entry_plus.ensures

pub returns : goal.returns
returns c =
    let all : take c.loop-line.line-index c.args.lines.now ≡ c.args.lines.now = take_all c.loop-line.line-index c.args.lines.now (omega (arith, c.loop-line-test.false)) in
    subst (λ ls. All (λ x. entry_plus.Has (line_plus_seen c.args.disk x)) ls) all c.loop-line.invariant
