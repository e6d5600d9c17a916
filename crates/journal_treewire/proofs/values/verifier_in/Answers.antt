use Rattle.std.proofs.Common.{[], ◌∷◌, ◌∙◌}
use Rattle.std.specs.Int.{w64, from_le_bytes}
use Rattle.journal_treewire.specs.Values.{verifier_in}
use Rattle.journal_treewire.proofs.values.verifier_in.Goals as goal

pub returns : goal.returns
unfolding verifier_in
returns c =
    c.from_le_bytes.ensures
    ∙ (λ i. from_le_bytes w64 (
    c.byte_in.ensures i ∷ c.byte_in-2.ensures i ∷ c.byte_in-3.ensures i ∷ c.byte_in-4.ensures i
    ∷ c.byte_in-5.ensures i ∷ c.byte_in-6.ensures i ∷ c.byte_in-7.ensures i ∷ c.byte_in-8.ensures i ∷ []))
