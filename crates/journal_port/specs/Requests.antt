-- What a request asks, and in which order its parts are done.
use Rattle.std.specs.Prelude.{ℕ, ◌+◌, ◌*◌, Bool, true, false, List, [], ◌∷◌, ◌++◌}
use Rattle.std.specs.List.{list_any}
use Rattle.journal_world.specs.Addresses.{slot_of, Shape}
use Rattle.journal_world.specs.Maps.{Pair}
use Rattle.journal_records.specs.declared.request.Action.{Action}
use Rattle.journal_records.specs.declared.request.Action.TheVariants.{Compare, Write}
use Rattle.journal_records.specs.declared.request.Part.{Part}

-- the pair of a part that compares
abbrev pub if_compared : Action → Pair → List Pair
if_compared Compare pair = pair ∷ []
if_compared Write pair = []

-- the pair of a part that writes
abbrev pub if_written : Action → Pair → List Pair
if_written Compare pair = []
if_written Write pair = pair ∷ []

-- what the parts compare, the last of an address before others
abbrev pub compared : List Part → List Pair
compared [] = []
compared (p ∷ ps) = compared ps ++ if_compared p.action (p.addr, p.value)

-- what they write, the last of an address before others
abbrev pub written : List Part → List Pair
written [] = []
written (p ∷ ps) = written ps ++ if_written p.action (p.addr, p.value)

abbrev pub action_order : Action → ℕ
action_order Compare = 0
action_order Write = 1

-- where a part comes: slots ascend, and under one slot what is compared comes first
abbrev pub order_of : Shape → Part → ℕ
order_of layout p = slot_of layout p.addr * 2 + action_order p.action

-- the part writes
abbrev pub is_write : Action → Bool
is_write Compare = false
is_write Write = true

-- some part writes
abbrev pub are_writing : List Part → Bool
are_writing parts = list_any (λ p. is_write p.action) parts
