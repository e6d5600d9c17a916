use Rattle.std.proofs.Common.{◌≡◌, ap, sym, subst, ◌∙◌, length, arith, rules}
use Rattle.std.proofs.lemmas.List.{length-replicate, take_at}
use Rattle.journal_treecalls.specs.Fetches.{IsBlank}
use Rattle.journal_treecalls.proofs.Fetching.{zeros-blank}
use Rattle.journal_treecalls.proofs.Imaging.{image-learns}
use Rattle.journal_treecalls.proofs.image.image_of.Goals as goal

pub fetch-requires-clause-blank : goal.fetch-requires-clause-blank
fetch-requires-clause-blank g c =
    let old : c.deref_mut.result.now ≡ c.in_ok-image.image.items = search rules in
    subst IsBlank (sym old) (zeros-blank _ c.in_ok-image.image.items c.in_ok-image.ensures)

pub fetch-requires-clause-few : goal.fetch-requires-clause-few
fetch-requires-clause-few g c =
    let old : c.deref_mut.result.now ≡ c.in_ok-image.image.items = search rules in
    let l = ap length (old ∙ c.in_ok-image.ensures) ∙ length-replicate c.image_bytes.result 0 in
    omega (arith, l, c.image_bytes.ensures, c.begin_of-begin.ensures.is, c.requires.some, c.requires.fits)

pub returns-clause-learns : goal.returns-clause-learns
returns-clause-learns g c = image-learns _ _ c.args.head.now c.args.offset c.begin_of-begin.result c.args.bytes.now c.in_ok-image.image.items c.fetch.new.bytes _ _ c.requires.some c.requires.fits
    (ap length c.in_ok-image.ensures ∙ length-replicate c.image_bytes.result 0 ∙ c.image_bytes.ensures)
    (c.in_ok-fetch.ensures.long ∙ ap length c.deref_mut.ensures.value) c.in_ok-fetch.ensures.learns c.begin_of-begin.ensures.is c.lay_over.ensures
    (take_at c.fetch.new.bytes _ c.in_ok-image.image.len (let old = ap length c.deref_mut.ensures.value in omega (arith, old, c.in_ok-fetch.ensures.long)))
