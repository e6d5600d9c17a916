-- Numbered connections in a queue, and what each thread has put and taken.
use Rattle.std.specs.Prelude.{if◌then◌else◌, ℕ, zero, suc, ◌≡◌, ◌==◌, ◌+◌, ◌<◌, ◌≤◌, true, List, [], ◌∷◌, ◌++◌}
use mathlib.Core.Option.{some}
use lib.ListN.{get_elem?}
use Rattle.crossbeam_channel.specs.Claims.{Pass, view}
use Rattle.journal_server.specs.declared.queue.Job.{Job}
use Rattle.journal_server.specs.declared.queue.Job.TheVariants.{Serve, Stop}
use Rattle.journal_server.specs.declared.queue.PassState.{PassState}
use Rattle.journal_server.specs.declared.workers.Work.{Work}

-- ---- lists of numbers

-- how often x stands in the list
abbrev pub times : ℕ → List ℕ → ℕ
times x [] = 0
times x (y ∷ ys) = (if y == x then 1 else 0) + times x ys

-- each number below n stands once in the list, and no other number
abbrev pub HasEachOnce : List ℕ → ℕ → Type 0
HasEachOnce numbers n = ((x : ℕ) → x < n → times x numbers ≡ 1) × ((x : ℕ) → n ≤ x → times x numbers ≡ 0)

-- the numbers of the connections that some notes are about
abbrev pub numbers_by : {N : Type 0} → (N → ℕ) → List N → List ℕ
numbers_by about [] = []
numbers_by about (n ∷ ns) = about n ∷ numbers_by about ns

-- the number of the connection that a note is about
abbrev pub note_number : {O : Type 0} → ℕ × O → ℕ
note_number note = note.0

-- the numbers of some outcomes
abbrev pub outcome_numbers : {O : Type 0} → List (ℕ × O) → List ℕ
outcome_numbers os = numbers_by note_number os

-- the numbers below n
abbrev pub below : ℕ → List ℕ
below zero = []
below (suc n) = below n ++ n ∷ []

-- ---- the queue's rule

abbrev pub pass_state : ℕ → List ℕ → List ℕ → PassState
pass_state parts put taken = record { parts = parts; put = put; taken = taken }

-- what two passes have, together
abbrev pub both : PassState → PassState → PassState
both v w = pass_state (v.parts + w.parts) (v.put ++ w.put) (v.taken ++ w.taken)

-- the numbers of the connections among these jobs
abbrev pub numbers : {T : Type 0} → List (Job T) → List ℕ
numbers [] = []
numbers (Serve number load ∷ js) = number ∷ numbers js
numbers (Stop ∷ js) = numbers js

abbrev pub total : (PassState → ℕ) → List PassState → ℕ
total f [] = 0
total f (v ∷ vs) = f v + total f vs

-- a pass with no part has put and taken nothing
abbrev pub IdleIsEmpty : List PassState → Type 0
IdleIsEmpty views = (port : ℕ) (v : PassState) → get_elem? views port ≡ some v → v.parts ≡ 0 → (v.put ≡ []) × (v.taken ≡ [])

-- the passes have 65 parts, and each number was put as often as it was taken or stands in the queue
abbrev pub IsBalanced : {T : Type 0} → List (Job T) → List PassState → Type 0
IsBalanced items views =
    (total (λ v. v.parts) views ≡ 65)
    × ((x : ℕ) → total (λ v. times x v.put) views ≡ total (λ v. times x v.taken) views + times x (numbers items))
    × IdleIsEmpty views

-- ---- workers

-- a pass that has done nothing yet
abbrev pub IsFresh : {T : Type 0} → (Pass (Job T) PassState → Type 0) → Pass (Job T) PassState → Type 0
IsFresh is_seat pass = is_seat pass × (view pass ≡ pass_state 1 [] [])

-- the pass before any part of it is cut off: one for each of the most workers, and one for who
-- hands the connections out
abbrev pub IsUncut : {T : Type 0} → (Pass (Job T) PassState → Type 0) → Pass (Job T) PassState → Type 0
IsUncut is_seat pass = is_seat pass × (view pass ≡ pass_state 65 [] [])

-- What a worker gives back: it has put nothing, and there is a note of each connection that it
-- took, unless memory was refused
abbrev pub IsWork : {T : Type 0} → (Pass (Job T) PassState → Type 0) → Work T → Type 0
IsWork is_seat w = is_seat w.pass × ((view w.pass).parts ≡ 1) × ((view w.pass).put ≡ []) × (w.is_whole ≡ true → (view w.pass).taken ≡ numbers_by note_number w.notes.items)
