-- The portion of a file that READ answers.
use Rattle.std.specs.Prelude.{ℕ, Bool, List}
use Rattle.journal_file_types.specs.declared.reply.Attributes.{Attributes}

-- the attributes, the bytes, and whether they reach the file's end
pub record PortionState : Type 0 where
  pub file : Attributes
  pub bytes : List ℕ
  pub is_end : Bool
