-- An answer is short.
use Rattle.std.proofs.Common.{◌≡◌, ℕ, ◌≤◌, List, [], ◌∷◌, ◌++◌, length, refl, arith}
use Rattle.std.specs.Prelude.{replicate}
use Rattle.std.proofs.lemmas.List.{length-append}
use Rattle.journal_xdr.specs.Basic.{word, boolean, string, opaque, fixed, padding}
use Rattle.journal_xdr.specs.BasicLaws.{length-word, length-zeros}
use Rattle.journal_xdr.specs.Lists.{array}
use Rattle.journal_mount_wire.specs.declared.outcome.MountOutcome.{MountOutcome}
use Rattle.journal_mount_wire.specs.declared.outcome.MountOutcome.TheVariants.{Nothing, Mounted, NoEntry, NoMounts, Exports}
use Rattle.journal_mount_wire.specs.Mounts.{export, given}
use Rattle.journal_mount_wire.specs.Outcomes.{outcome_text}

given_short : (root : List ℕ) → length root ≤ 64 → length (given.spelling root) ≤ 68
unfolding opaque fixed
given_short root few =
    let pad = padding (length root) in
    omega (arith, few, length-append (word.spelling (length root)) (root ++ replicate pad 0), length-append root (replicate pad 0), length-word (length root), length-zeros pad)

flavors_short : length ((array 4294967295 word).spelling (1 ∷ 0 ∷ [])) ≡ 12
unfolding word
flavors_short = refl

pub outcome_short : (root : List ℕ) (outcome : MountOutcome) → length root ≤ 64 → length (outcome_text root outcome) ≤ 84
unfolding word boolean string opaque fixed export
outcome_short root Nothing few = omega arith
outcome_short root Mounted few =
    let status = word.spelling 0 in
    let handle = given.spelling root in
    let flavors = (array 4294967295 word).spelling (1 ∷ 0 ∷ []) in
    omega (arith, length-append (status ++ handle) flavors, length-append status handle, length-word 0, given_short root few, flavors_short)
outcome_short root NoEntry few = omega arith
outcome_short root NoMounts few = omega arith
outcome_short root Exports few = omega arith
