use Rattle.std.proofs.Common.{◌≡◌, ap, sym, subst, ◌∙◌, ◌-◌, length, arith, rules}
use Rattle.std.proofs.lemmas.List.{length-replicate}
use Rattle.journal_treecalls.specs.Fetches.{IsBlank}
use Rattle.journal_treecalls.proofs.Fetching.{zeros-blank}
use Rattle.journal_treecalls.proofs.portion.read_file.Goals as goal

pub fetch-requires-clause-blank : goal.fetch-requires-clause-blank
fetch-requires-clause-blank g c =
    let old : c.deref_mut.result.now ≡ c.in_ok-bytes.bytes.items = search rules in
    subst IsBlank (sym old) (zeros-blank _ c.in_ok-bytes.bytes.items c.in_ok-bytes.ensures)

pub fetch-requires-clause-few : goal.fetch-requires-clause-few
fetch-requires-clause-few g c =
    let old : c.deref_mut.result.now ≡ c.in_ok-bytes.bytes.items = search rules in
    let l = ap length (old ∙ c.in_ok-bytes.ensures) ∙ length-replicate (c.reach_of-reach.result - c.args.offset) 0 in omega (arith, l, c.reach_of-reach.ensures.after)
