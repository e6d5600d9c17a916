use Rattle.std.proofs.Common.{◌≡◌, ◌++◌, take}
use Rattle.std.specs.List.{flat_map}
use Rattle.journal_xdr.specs.Lists.{link_text}
use Rattle.journal_xdr.proofs.writer.Writer.links.Given as goal

abbrev pub invariant-loop-value : goal.invariant-loop-value
invariant-loop-value g l = l.self ≡ l.fn.self ++ flat_map (link_text g.E.Element.spelling) (take l.value-index l.values)
