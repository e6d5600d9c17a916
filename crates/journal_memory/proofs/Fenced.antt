-- The runs of the sessions that are fenced.
use Rattle.std.proofs.Common.{◌≡◌, ◌<◌, ◌≤◌, ◌+◌, ◌++◌, ◌==◌, ◌&&◌, ◌||◌, ℕ, zero, suc, Bool, true, false, cond, nat_le, nat_lt, List, [], ◌∷◌, length, take, drop, get_or, refl, sym, ap, ◌∙◌, arith}
use Rattle.std.proofs.lemmas.Bool.Decides.{nat_tests}
use Rattle.journal_memory.specs.declared.fenced_sessions.Run.{Run}
use Rattle.journal_memory.specs.Sessions.{is_in_run, is_in_runs, TakesBelow, TakesAbove, NotesFence}

or_swap : (a b c : Bool) → (a || (b || c)) ≡ (b || (a || c))
or_swap true true c = refl
or_swap true false c = refl
or_swap false b c = refl

-- one run is taken out
taken : (runs : List Run) (i s : ℕ) (d : Run) → i < length runs → is_in_runs runs s ≡ (is_in_run (get_or runs i d) s || is_in_runs (take i runs ++ drop (suc i) runs) s)
taken [] i s d lt = absurd (omega (arith, lt))
taken (r ∷ rs) zero s d lt = refl
taken (r ∷ rs) (suc i) s d lt =
    ap (λ (b : Bool). is_in_run r s || b) (taken rs i s d (omega (arith, lt)))
    ∙ or_swap (is_in_run r s) (is_in_run (get_or rs i d) s) (is_in_runs (take i rs ++ drop (suc i) rs) s)

-- one run is added at the end
added : (runs : List Run) (r : Run) (s : ℕ) → is_in_runs (runs ++ r ∷ []) s ≡ (is_in_run r s || is_in_runs runs s)
added [] r s = refl
added (x ∷ xs) r s = ap (λ (b : Bool). is_in_run x s || b) (added xs r s) ∙ or_swap (is_in_run x s) (is_in_run r s) (is_in_runs xs s)

-- which value is read past the end tells nothing within
read_within : (xs : List Run) (i : ℕ) (d e : Run) → i < length xs → get_or xs i d ≡ get_or xs i e
read_within [] i d e lt = absurd (omega (arith, lt))
read_within (x ∷ xs) zero d e lt = refl
read_within (x ∷ xs) (suc i) d e lt = read_within xs i d e (omega (arith, lt))

-- the run that begins as the one value says and ends as the other says is taken out
taken_as : (runs new : List Run) (i s : ℕ) (a b : Run) → i < length runs → a ≡ get_or runs i a → b ≡ get_or runs i b → new ≡ take i runs ++ drop (i + 1) runs
    → is_in_runs runs s ≡ ((nat_le a.first s && nat_lt s b.end) || is_in_runs new s)
taken_as runs new i s a b lt here there is =
    taken runs i s a lt
    ∙ ap (λ (n : ℕ). is_in_run (get_or runs i a) s || is_in_runs (take i runs ++ drop n runs) s) next
    ∙ ap (λ (r : Run). is_in_run r s || is_in_runs (take i runs ++ drop (i + 1) runs) s) (sym here)
    ∙ ap (λ (r : Run). (nat_le a.first s && nat_lt s r.end) || is_in_runs (take i runs ++ drop (i + 1) runs) s) (here ∙ read_within runs i a b lt ∙ sym there)
    ∙ ap (λ (rs : List Run). (nat_le a.first s && nat_lt s b.end) || is_in_runs rs s) (sym is)
  where
    next : suc i ≡ i + 1
    next = omega arith

pub takes_below : (runs new : List Run) (i session : ℕ) (a b : Run) → i < length runs → a ≡ get_or runs i a → b ≡ get_or runs i b → new ≡ take i runs ++ drop (i + 1) runs
    → b.end ≡ session → TakesBelow session a.first runs new
takes_below runs new i session a b lt here there is ends s =
    taken_as runs new i s a b lt here there is ∙ ap (λ (n : ℕ). (nat_le a.first s && nat_lt s n) || is_in_runs new s) ends

pub takes_above : (runs new : List Run) (i session : ℕ) (a b : Run) → i < length runs → a ≡ get_or runs i a → b ≡ get_or runs i b → new ≡ take i runs ++ drop (i + 1) runs
    → a.first ≡ session + 1 → TakesAbove session b.end runs new
takes_above runs new i session a b lt here there is begins s =
    taken_as runs new i s a b lt here there is ∙ ap (λ (n : ℕ). (nat_le n s && nat_lt s b.end) || is_in_runs new s) above
  where
    above : a.first ≡ suc session
    above = omega (arith, begins)

-- a number is one of those from the first to the end just where it is the session, one below it or
-- one above it
between : (first session end s : ℕ) → first ≤ session → session < end
    → (nat_le first s && nat_lt s end) ≡ ((s == session) || ((nat_le first s && nat_lt s session) || (nat_lt session s && nat_lt s end)))
between first session end s low high = by (nat_le first s) (nat_lt s end) (s == session) (nat_lt s session) (nat_lt session s) refl refl refl refl refl
  where
    by : (a b c d e : Bool) → nat_le first s ≡ a → nat_lt s end ≡ b → (s == session) ≡ c → nat_lt s session ≡ d → nat_lt session s ≡ e
        → (nat_le first s && nat_lt s end) ≡ ((s == session) || ((nat_le first s && nat_lt s session) || (nat_lt session s && nat_lt s end)))
    by a b c d e is_a is_b is_c is_d is_e = grind (arith, nat_tests)

or_regroup : (c a b r : Bool) → ((c || (a || b)) || r) ≡ cond c true (a || (b || r))
or_regroup true a b r = refl
or_regroup false true b r = refl
or_regroup false false b r = refl

-- the session is fenced, and the runs beside it are one with it
pub noted : (session first end : ℕ) (old below above : List Run) → first ≤ session → session < end → TakesBelow session first old below → TakesAbove session end below above
    → NotesFence session old (above ++ record { first = first; end = end } ∷ [])
noted session first end old below above low high taken_below taken_above s =
    added above (record { first = first; end = end }) s
    ∙ ap (λ (b : Bool). b || is_in_runs above s) (between first session end s low high)
    ∙ or_regroup (s == session) (nat_le first s && nat_lt s session) (nat_lt session s && nat_lt s end) (is_in_runs above s)
    ∙ ap (λ (b : Bool). cond (s == session) true ((nat_le first s && nat_lt s session) || b)) (sym (taken_above s))
    ∙ ap (λ (b : Bool). cond (s == session) true b) (sym (taken_below s))
