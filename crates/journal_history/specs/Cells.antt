-- The two cells by which a journal is named, beside its book.
use Rattle.atomic_table.specs.Seated.{TableId}

pub record Cells : Type 0 where
  -- that of the slots' numbers of commits
  pub slots : TableId
  -- that of the sessions' numbers of commits
  pub sessions : TableId
