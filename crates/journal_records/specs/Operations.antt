-- The numbers of what may be asked, of the versions, and of what a part does.
use Rattle.std.specs.Prelude.{◌≡◌, refl, ℕ, List, [], ◌∷◌, Option, Some}
use Rattle.journal_xdr.specs.Items.{Item}
use Rattle.journal_xdr.specs.Basic.{enumeration, listed}
use Rattle.journal_xdr.specs.BasicLaws.{listed_back}
use Rattle.journal_records.specs.declared.operation.Operation.{Operation}
use Rattle.journal_records.specs.declared.operation.Operation.TheVariants.{Hello, Commit, Read, Flush, Stat, Stop, Counters, Scan}
use Rattle.journal_records.specs.declared.greeting.Version.{Version}
use Rattle.journal_records.specs.declared.greeting.Version.TheVariants.{One, Two}
use Rattle.journal_records.specs.declared.request.Action.{Action}
use Rattle.journal_records.specs.declared.request.Action.TheVariants.{Compare, Write}

abbrev pub operations : List (ℕ × Operation)
operations = (0, Hello) ∷ (1, Commit) ∷ (2, Read) ∷ (3, Flush) ∷ (4, Stat) ∷ (5, Stop) ∷ (6, Counters) ∷ (7, Scan) ∷ []

abbrev pub operation_of : ℕ → Option Operation
operation_of n = listed operations n

abbrev pub operation_number : Operation → ℕ
operation_number Hello = 0
operation_number Commit = 1
operation_number Read = 2
operation_number Flush = 3
operation_number Stat = 4
operation_number Stop = 5
operation_number Counters = 6
operation_number Scan = 7

pub operation_is : (o : Operation) → operation_of (operation_number o) ≡ Some o
operation_is Hello = refl
operation_is Commit = refl
operation_is Read = refl
operation_is Flush = refl
operation_is Stat = refl
operation_is Stop = refl
operation_is Counters = refl
operation_is Scan = refl

pub operation_back : (n : ℕ) (o : Operation) → operation_of n ≡ Some o → operation_number o ≡ n
operation_back = listed_back operation_number operations (refl, (refl, (refl, (refl, (refl, (refl, (refl, (refl, tt))))))))

abbrev pub operation : Item Operation
operation = enumeration operation_of operation_number

abbrev pub versions : List (ℕ × Version)
versions = (1, One) ∷ (2, Two) ∷ []

abbrev pub version_of : ℕ → Option Version
version_of n = listed versions n

abbrev pub version_number : Version → ℕ
version_number One = 1
version_number Two = 2

pub version_is : (v : Version) → version_of (version_number v) ≡ Some v
version_is One = refl
version_is Two = refl

pub version_back : (n : ℕ) (v : Version) → version_of n ≡ Some v → version_number v ≡ n
version_back = listed_back version_number versions (refl, (refl, tt))

abbrev pub version : Item Version
version = enumeration version_of version_number

abbrev pub actions : List (ℕ × Action)
actions = (0, Compare) ∷ (1, Write) ∷ []

abbrev pub action_of : ℕ → Option Action
action_of n = listed actions n

abbrev pub action_number : Action → ℕ
action_number Compare = 0
action_number Write = 1

pub action_is : (a : Action) → action_of (action_number a) ≡ Some a
action_is Compare = refl
action_is Write = refl

pub action_back : (n : ℕ) (a : Action) → action_of n ≡ Some a → action_number a ≡ n
action_back = listed_back action_number actions (refl, (refl, tt))

abbrev pub action : Item Action
action = enumeration action_of action_number
