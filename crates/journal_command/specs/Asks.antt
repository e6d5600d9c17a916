-- The request in the words of a program.
use Rattle.std.specs.Prelude.{ℕ, ◌≡◌, ◌⊎◌, ◌<◌, ◌≤◌, ◌^◌, Bool, true, false, List, [], ◌∷◌, codes}
use Rattle.std.specs.Fmt.{decimal}
use Rattle.journal_world.specs.declared.layout.TheConstants.{MIN_BLOCKS, MAX_BLOCKS}
use Rattle.journal_command.specs.declared.ask.Ask.{Ask}
use Rattle.journal_command.specs.declared.ask.Ask.TheVariants.{Script, Format, Check, Migrate, Serve}
use Rattle.journal_command.specs.declared.ask.AskFault.{AskFault}
use Rattle.journal_command.specs.declared.ask.AskFault.TheVariants.{Usage, BadSize}

-- the words ask for a script on a disk of this many blocks
abbrev pub AsksScript : List (List ℕ) → ℕ → Type 0
AsksScript words n = (n < 2 ^ 32) × (words ≡ codes "script" ∷ decimal n ∷ [])

-- the words ask for a disk of this many blocks in the file at the path
abbrev pub AsksFormat : List (List ℕ) → List ℕ → ℕ → Type 0
AsksFormat words path n = (n < 2 ^ 32) × (words ≡ codes "format" ∷ path ∷ decimal n ∷ [])

-- the words ask whether the disk in the file at the path is sound
abbrev pub AsksCheck : List (List ℕ) → List ℕ → Type 0
AsksCheck words path = words ≡ codes "check" ∷ path ∷ []

-- the words ask that the disk in the file at the path becomes one of version 2
abbrev pub AsksMigrate : List (List ℕ) → List ℕ → Type 0
AsksMigrate words path = words ≡ codes "migrate" ∷ path ∷ []

-- the words ask for the service of the file at the path, at a port, to this many connections
abbrev pub AsksServe : List (List ℕ) → List ℕ → ℕ → ℕ → Type 0
AsksServe words path port k = (port < 2 ^ 16) × (k < 2 ^ 32) × (words ≡ codes "serve" ∷ path ∷ decimal port ∷ decimal k ∷ [])

-- the same of a disk whose blocks are also in memory
abbrev pub AsksMirror : List (List ℕ) → List ℕ → ℕ → ℕ → Type 0
AsksMirror words path port k = (port < 2 ^ 16) × (k < 2 ^ 32) × (words ≡ codes "serve" ∷ path ∷ decimal port ∷ decimal k ∷ codes "mirror" ∷ [])

-- the words ask for a service, whose disk is in memory too or not
abbrev pub AsksService : List (List ℕ) → List ℕ → ℕ → ℕ → Bool → Type 0
AsksService words path port k false = AsksServe words path port k
AsksService words path port k true = AsksMirror words path port k

-- a disk may have this many blocks
abbrev pub IsSize : ℕ → Type 0
IsSize n = (MIN_BLOCKS ≤ n) × (n ≤ MAX_BLOCKS)

-- the words ask for this, and it can be done
abbrev pub AsksFor : List (List ℕ) → Ask → Type 0
AsksFor words (Script blocks) = AsksScript words blocks × IsSize blocks
AsksFor words (Format path blocks) = AsksFormat words path.now blocks × IsSize blocks
AsksFor words (Check path) = AsksCheck words path.now
AsksFor words (Migrate path) = AsksMigrate words path.now
AsksFor words (Serve path port connections is_mirrored) = AsksService words path.now port connections is_mirrored

-- the words ask for a disk of this many blocks, in memory or in a file
abbrev pub MayBeAsked : List (List ℕ) → ℕ → Type 0
MayBeAsked words n = AsksScript words n ⊎ ((path : List ℕ) × AsksFormat words path n)

-- why nothing begins that the words ask for: they ask for nothing, or for a disk of a size that
-- there is not
abbrev pub CannotBegin : List (List ℕ) → AskFault → Type 0
CannotBegin words Usage =
    ((n : ℕ) → AsksScript words n → ⊥)
    × ((path : List ℕ) (n : ℕ) → AsksFormat words path n → ⊥)
    × ((path : List ℕ) → AsksCheck words path → ⊥)
    × ((path : List ℕ) → AsksMigrate words path → ⊥)
    × ((path : List ℕ) (port k : ℕ) → AsksServe words path port k → ⊥)
    × ((path : List ℕ) (port k : ℕ) → AsksMirror words path port k → ⊥)
CannotBegin words BadSize = (n : ℕ) × MayBeAsked words n × (IsSize n → ⊥)
