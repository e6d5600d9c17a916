use Rattle.std.proofs.Common.{rules, ℕ, length, get_or, refl, ◌∙◌, Fits, w8}
use Rattle.std.proofs.lemmas.Bool.{eq-eqb}
use Rattle.journal_world.specs.declared.address.Kind.TheVariants.{Block}
use Rattle.journal_world.proofs.Bytes.{is_value_of-bytes}
use Rattle.journal_block.proofs.block.Block.as_bytes.Goals as goal

pub returns-clause-value : goal.returns-clause-value
returns-clause-value c =
    let fits : (i : ℕ) → Fits w8 (get_or c.as_slice-bytes.result.now i 0) = search rules in
    is_value_of-bytes Block c.as_slice-bytes.result.now refl fits ∙ eq-eqb (length c.as_slice-bytes.result.now) 4096 (search rules)
