-- The invariant of a stream's next part.
use Rattle.std.specs.Prelude.{◌<◌}
use Rattle.journal_rpc.specs.declared.part.Part.{Part}
use Rattle.journal_rpc.specs.declared.part.Part.TheVariants.{Body}

-- at least one byte of a body that is begun is still to come
abbrev pub HasMore : Part → Type 0
HasMore (Body last left) = 0 < left
HasMore _ = Unit {0}
