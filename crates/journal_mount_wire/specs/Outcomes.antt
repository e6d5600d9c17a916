-- The text of what becomes of a call.
use Rattle.std.specs.Prelude.{ℕ, true, false, List, [], ◌∷◌}
use Rattle.journal_xdr.specs.Lists.{list}
use Rattle.journal_mount_wire.specs.declared.outcome.MountOutcome.{MountOutcome}
use Rattle.journal_mount_wire.specs.declared.outcome.MountOutcome.TheVariants.{Nothing, Mounted, NoEntry, NoMounts, Exports}
use Rattle.journal_mount_wire.specs.Mounts.{export, files_export, mounted_text}

abbrev pub outcome_text : List ℕ → MountOutcome → List ℕ
outcome_text root Nothing = []
outcome_text root Mounted = mounted_text root true
outcome_text root NoEntry = mounted_text root false
outcome_text root NoMounts = (list export).spelling []
outcome_text root Exports = (list export).spelling (files_export ∷ [])
