-- Each step keeps the rule of the line.
use Rattle.std.proofs.Common.{◌≡◌, ◌≢◌, Option, Some, IfSome, ℕ, zero, suc, Bool, true, false, ◌+◌, ◌-◌, ◌<◌, ◌≤◌, ◌==◌, List, [], ◌∷◌, ◌++◌, set, sym, refl, ap, ◌∙◌, subst, ⊎_elim, if◌then◌else◌, arith}
use Rattle.std.proofs.lemmas.Bool.Decides.{nat_tests}
use Rattle.std.specs.Prelude.{Result, Ok, Err, IfOk}
use mathlib.Core.Option.{some, some-injective, some-ne-none}
use lib.ListN.{get_elem?}
use Rattle.std.specs.List.{All}
use Rattle.std.proofs.lemmas.List.Elements.{All-head, All-rest}
use Rattle.crossbeam_channel.specs.Claims.{Pass}
use Rattle.crossbeam_channel.specs.Fifo.{Pushes, Pops, Forks, Merges, Learns}
use Rattle.atomic_table.proofs.Lists.{at_set, at_snoc}
use Rattle.journal_server.specs.declared.queue.PassState.{PassState}
use Rattle.journal_server.specs.declared.queue.Job.{Job}
use Rattle.journal_server.specs.declared.queue.Job.TheVariants.{Serve, Stop}
use Rattle.journal_server.specs.declared.workers.Work.{Work}
use Rattle.journal_server.specs.Queues.{IsWork, pass_state, both, below, numbers_by, HasEachOnce, numbers, times, total, IdleIsEmpty, IsBalanced}

-- the total after a change of one pass
total_set : (f : PassState → ℕ) (views : List PassState) (port : ℕ) (v w : PassState) → get_elem? views port ≡ some v → total f (set views port w) + f v ≡ total f views + f w
total_set f [] port v w e = absurd (some-ne-none v (sym e))
total_set f (u ∷ us) zero v w e = let s : f u ≡ f v = ap f (some-injective u v e) in omega arith
total_set f (u ∷ us) (suc port) v w e = let s = total_set f us port v w e in omega arith

total_snoc : (f : PassState → ℕ) (views : List PassState) (w : PassState) → total f (views ++ w ∷ []) ≡ total f views + f w
total_snoc f [] w = omega arith
total_snoc f (u ∷ us) w = let s = total_snoc f us w in omega arith

pub times_append : (x : ℕ) (xs ys : List ℕ) → times x (xs ++ ys) ≡ times x xs + times x ys
times_append x [] ys = omega arith
times_append x (z ∷ zs) ys = let s = times_append x zs ys in omega arith

numbers_append : {T : Type 0} → (js ks : List (Job T)) → numbers (js ++ ks) ≡ numbers js ++ numbers ks
numbers_append [] ks = refl
numbers_append (Serve n c ∷ js) ks = ap (λ l. n ∷ l) (numbers_append js ks)
numbers_append (Stop ∷ js) ks = numbers_append js ks

times_numbers : {T : Type 0} → (x : ℕ) (js ks : List (Job T)) → times x (numbers (js ++ ks)) ≡ times x (numbers js) + times x (numbers ks)
times_numbers x js ks = ap (times x) (numbers_append js ks) ∙ times_append x (numbers js) (numbers ks)

abbrev Idle : PassState → Type 0
Idle w = w.parts ≡ 0 → (w.put ≡ []) × (w.taken ≡ [])

idle_set : (views : List PassState) (port : ℕ) (w : PassState) → Idle w → IdleIsEmpty views → IdleIsEmpty (set views port w)
idle_set views port w mine others j u e = ⊎_elim (λ (s : (j ≡ port) × (w ≡ u)). subst Idle s.1 mine) (λ (s : (j ≢ port) × (get_elem? views j ≡ some u)). others j u s.1) (at_set views port j w u e)

idle_snoc : (views : List PassState) (w : PassState) → Idle w → IdleIsEmpty views → IdleIsEmpty (views ++ w ∷ [])
idle_snoc views w mine others j u e = ⊎_elim (λ (s : get_elem? views j ≡ some u). others j u s) (λ (s : w ≡ u). subst Idle s mine) (at_snoc views w u j e)

pub puts : {T : Type 0} → (n port : ℕ) (v : PassState) (x : Job T) → 0 < v.parts → Pushes IsBalanced n port v x (λ w. w ≡ pass_state v.parts (v.put ++ numbers (x ∷ [])) v.taken)
puts n port v x part items views room b at =
    let w : PassState = pass_state v.parts (v.put ++ numbers (x ∷ [])) v.taken in (
      w,
      (
        (let s = total_set (λ u. u.parts) views port v w at in let p = b.0 in omega arith),
        (λ k.
            let s = total_set (λ u. times k u.put) views port v w at in
            let t = total_set (λ u. times k u.taken) views port v w at in
            let q = b.1 k in
            omega (arith, times_append k v.put (numbers (x ∷ [])), times_numbers k items (x ∷ []))),
        idle_set views port w (λ none. absurd (omega arith)) b.2,
      ),
      refl,
    )

pub takes : {T : Type 0} → (port : ℕ) (v : PassState) → 0 < v.parts → Pops (IsBalanced {T = T}) port v (λ x w. w ≡ pass_state v.parts v.put (v.taken ++ numbers (x ∷ [])))
takes port v part x items views b at =
    let w : PassState = pass_state v.parts v.put (v.taken ++ numbers (x ∷ [])) in (
      w,
      (
        (let s = total_set (λ u. u.parts) views port v w at in let p = b.0 in omega arith),
        (λ k.
            let s = total_set (λ u. times k u.put) views port v w at in
            let t = total_set (λ u. times k u.taken) views port v w at in
            let q = b.1 k in
            omega (arith, times_append k v.taken (numbers (x ∷ [])), times_numbers k (x ∷ []) items)),
        idle_set views port w (λ none. absurd (omega arith)) b.2,
      ),
      refl,
    )

pub forks : {T : Type 0} → (port : ℕ) (v : PassState) → 1 < v.parts → Forks (IsBalanced {T = T}) port v (pass_state (v.parts - 1) v.put v.taken) (pass_state 1 [] [])
forks port v parts items views b at =
    let l : PassState = pass_state (v.parts - 1) v.put v.taken in
    let r : PassState = pass_state 1 [] [] in (
      (let s = total_set (λ u. u.parts) views port v l at in let p = b.0 in omega (arith, total_snoc (λ u. u.parts) (set views port l) r)),
      (λ k.
          let s = total_set (λ u. times k u.put) views port v l at in
          let t = total_set (λ u. times k u.taken) views port v l at in
          let q = b.1 k in
          omega (arith, total_snoc (λ u. times k u.put) (set views port l) r, total_snoc (λ u. times k u.taken) (set views port l) r)),
      idle_snoc (set views port l) r (λ none. absurd (omega arith)) (idle_set views port l (λ none. absurd (omega arith)) b.2),
    )

pub merges : {T : Type 0} → (port : ℕ) (v : PassState) (other : ℕ) (w : PassState) → 0 < v.parts → Merges (IsBalanced {T = T}) port v other w (both v w) (pass_state 0 [] [])
merges port v other w part items views b at apart there =
    let all : PassState = both v w in
    let none : PassState = pass_state 0 [] [] in
    let vs : List PassState = set views port all in (
      (let s = total_set (λ u. u.parts) views port v all at in let t = total_set (λ u. u.parts) vs other w none there in let p = b.0 in omega arith),
      (λ k.
          let s = total_set (λ u. times k u.put) views port v all at in
          let s' = total_set (λ u. times k u.put) vs other w none there in
          let t = total_set (λ u. times k u.taken) views port v all at in
          let t' = total_set (λ u. times k u.taken) vs other w none there in
          let q = b.1 k in
          omega (arith, times_append k v.put w.put, times_append k v.taken w.taken)),
      idle_set vs other none (λ _. (refl, refl)) (idle_set views port all (λ none. absurd (omega arith)) b.2),
    )

-- what is 0 at each pass with no part
abbrev Quiet : (PassState → ℕ) → List PassState → Type 0
Quiet f views = (j : ℕ) (u : PassState) → get_elem? views j ≡ some u → u.parts ≡ 0 → f u ≡ 0

part_le : (views : List PassState) (port : ℕ) (v : PassState) → get_elem? views port ≡ some v → v.parts ≤ total (λ u. u.parts) views
part_le [] port v e = absurd (some-ne-none v (sym e))
part_le (u ∷ us) zero v e = let s : u.parts ≡ v.parts = ap (λ (y : PassState). y.parts) (some-injective u v e) in omega arith
part_le (u ∷ us) (suc port) v e = let s = part_le us port v e in omega arith

all_quiet : (f : PassState → ℕ) (views : List PassState) → Quiet f views → total (λ u. u.parts) views ≡ 0 → total f views ≡ 0
all_quiet f [] q none = refl
all_quiet f (u ∷ us) q none =
    let a : f u ≡ 0 = q 0 u refl (omega arith) in
    let b = all_quiet f us (λ j y e. q (suc j) y e) (omega arith) in
    omega arith

alone : (f : PassState → ℕ) (views : List PassState) (port : ℕ) (v : PassState) → Quiet f views → get_elem? views port ≡ some v → total (λ u. u.parts) views ≡ v.parts → total f views ≡ f v
alone f [] port v q e all = absurd (some-ne-none v (sym e))
alone f (u ∷ us) zero v q e all =
    let p : u.parts ≡ v.parts = ap (λ (y : PassState). y.parts) (some-injective u v e) in
    let s : f u ≡ f v = ap f (some-injective u v e) in
    let b = all_quiet f us (λ j y h. q (suc j) y h) (omega arith) in
    omega arith
alone f (u ∷ us) (suc port) v q e all =
    let p = part_le us port v e in
    let a : f u ≡ 0 = q 0 u refl (omega arith) in
    let b = alone f us port v (λ j y h. q (suc j) y h) e (omega arith) in
    omega arith

pub learns : {T : Type 0} → (port : ℕ) (v : PassState) → v.parts ≡ 65 → Learns (IsBalanced {T = T}) port v (λ items. (x : ℕ) → times x v.put ≡ times x v.taken + times x (numbers items))
learns port v all items views b at k =
    let p = alone (λ u. times k u.put) views port v (λ j u e none. ap (times k) (b.2 j u e none).0) at (b.0 ∙ sym all) in
    let t = alone (λ u. times k u.taken) views port v (λ j u e none. ap (times k) (b.2 j u e none).1) at (b.0 ∙ sym all) in
    let q = b.1 k in
    omega arith

pub begins : (T : Type 0) → IsBalanced {T = T} [] (pass_state 65 [] [] ∷ [])
begins T = (refl, (λ k. refl), idle_set (pass_state 65 [] [] ∷ []) 0 (pass_state 65 [] []) (λ none. absurd (omega arith)) (λ j u e none. only j u e none)) where
  only : (j : ℕ) (u : PassState) → get_elem? (pass_state 65 [] [] ∷ []) j ≡ some u → u.parts ≡ 0 → (u.put ≡ []) × (u.taken ≡ [])
  only zero u e none = let s : 65 ≡ u.parts = ap (λ (y : PassState). y.parts) (some-injective (pass_state 65 [] []) u e) in absurd (omega arith)
  only (suc j) u e none = absurd (some-ne-none u (sym e))

pub numbers_of_append : {N : Type 0} (about : N → ℕ) (ns ms : List N) → numbers_by about (ns ++ ms) ≡ numbers_by about ns ++ numbers_by about ms
numbers_of_append about [] ms = refl
numbers_of_append about (n ∷ ns) ms = ap (λ l. about n ∷ l) (numbers_of_append about ns ms)

-- a note more, of one more that was taken
pub noted : {N : Type 0} (about : N → ℕ) (ns : List N) (n : N) (k : ℕ) (taken : List ℕ) → about n ≡ k → taken ≡ numbers_by about ns → taken ++ k ∷ [] ≡ numbers_by about (ns ++ n ∷ [])
noted about ns n k taken is same = ap (λ l. l ++ k ∷ []) same ∙ ap (λ (j : ℕ). numbers_by about ns ++ j ∷ []) (sym is) ∙ sym (numbers_of_append about ns (n ∷ []))

-- ---- each number once

one_is : (x : ℕ) → times x (x ∷ []) ≡ 1
one_is x =
    let same : (x == x) ≡ true = grind (arith, nat_tests) in
    ap (λ (b : Bool). (if b then 1 else 0) + 0) same

none_is : (x y : ℕ) → (y ≡ x → ⊥) → times x (y ∷ []) ≡ 0
none_is x y apart =
    let other : (y == x) ≡ false = grind (arith, nat_tests, apart) in
    ap (λ (b : Bool). (if b then 1 else 0) + 0) other

below_none : (n x : ℕ) → n ≤ x → times x (below n) ≡ 0
below_none zero x le = refl
below_none (suc n) x le =
    let rest = below_none n x (omega (arith, le)) in
    let last = none_is x n (λ e. absurd (omega (arith, le, e))) in
    omega (arith, times_append x (below n) (n ∷ []), rest, last)

below_once : (n x : ℕ) → x < n → times x (below n) ≡ 1
below_once zero x lt = absurd (omega (arith, lt))
below_once (suc n) x lt = of (λ less. below_once n x less) (x == n) refl
  where
    of : (x < n → times x (below n) ≡ 1) → (b : Bool) → (x == n) ≡ b → times x (below n ++ n ∷ []) ≡ 1
    of rest true is =
        let e : x ≡ n = grind (arith, nat_tests, is) in
        let none = below_none n x (omega (arith, e)) in
        let last : times x (n ∷ []) ≡ 1 = subst (λ (k : ℕ). times x (k ∷ []) ≡ 1) e (one_is x) in
        omega (arith, times_append x (below n) (n ∷ []), none, last)
    of rest false is =
        let apart : x ≢ n = grind (arith, nat_tests, is) in
        let once = rest (omega (arith, lt, apart)) in
        let last = none_is x n (λ e. absurd (apart (sym e))) in
        omega (arith, times_append x (below n) (n ∷ []), once, last)

-- what was put was taken, and each number was put once
pub each_below : (numbers put : List ℕ) (n : ℕ) → ((x : ℕ) → times x numbers ≡ times x put) → put ≡ below n → HasEachOnce numbers n
each_below numbers put n even is =
    ((λ x lt. even x ∙ ap (times x) is ∙ below_once n x lt), (λ x le. even x ∙ ap (times x) is ∙ below_none n x le))

pub at_some : (o : Option ℕ) (n : ℕ) (P : ℕ → Type 0) → o ≡ Some n → IfSome o P → P n
at_some o n P is h = subst (λ (q : Option ℕ). IfSome q P) is h

-- the numbers are below those that the source gave
pub below_given : (numbers : List ℕ) (given : Option ℕ) (old new : ℕ) → IfSome given (λ n. new ≡ old + n) → ((n : ℕ) × (given ≡ Some n) × HasEachOnce numbers n) → HasEachOnce numbers (new - old)
below_given numbers given old new counted each =
    let is : new ≡ old + each.0 = at_some given each.0 (λ n. new ≡ old + n) each.1 counted in
    let same : each.0 ≡ new - old = omega (arith, is) in
    subst (HasEachOnce numbers) same each.2

-- the same of what may be refused
pub all_below_given : {A N : Type 0} (items : A → List N) (about : N → ℕ) (E : Type 0) (all : Result A E) (given : Option ℕ) (old new : ℕ) → IfSome given (λ n. new ≡ old + n)
    → IfOk all (λ ns. (n : ℕ) × (given ≡ Some n) × HasEachOnce (numbers_by about (items ns)) n) → IfOk all (λ ns. HasEachOnce (numbers_by about (items ns)) (new - old))
all_below_given items about E (Ok ns) given old new counted each = below_given (numbers_by about (items ns)) given old new counted each
all_below_given items about E (Err e) given old new counted each = tt

-- a worker's work was taken in
pub took_in : {N : Type 0} (about : N → ℕ) (mine other new : PassState) (ns ms all : List N) → new ≡ both mine other → other.taken ≡ numbers_by about ms → all ≡ ns ++ ms → mine.taken ≡ numbers_by about ns → new.taken ≡ numbers_by about all
took_in about mine other new ns ms all is whole moved same =
    ap (λ (h : PassState). h.taken) is ∙ ap (λ l. l ++ other.taken) same ∙ ap (λ l. numbers_by about ns ++ l) whole ∙ sym (numbers_of_append about ns ms) ∙ ap (numbers_by about) (sym moved)

-- all work was taken in, and nothing is left
pub settled : (put done taken numbers : List ℕ) → done ≡ put → taken ≡ numbers → ((x : ℕ) → times x done ≡ times x taken) → (x : ℕ) → times x numbers ≡ times x put
settled put done taken numbers p t even x = ap (times x) (sym t) ∙ sym (even x) ∙ ap (times x) p

-- what each of some threads was promised, the first and the others were
pub next_promised : {W L : Type 0} (w : W) (all rest : List W) (f : W → L) (line : L) → all ≡ w ∷ rest → All (λ x. f x ≡ line) all → (f w ≡ line) × All (λ x. f x ≡ line) rest
next_promised {W} w all rest f line is h =
    let P : W → Type 0 = λ x. f x ≡ line in
    (All-head P w rest (subst (All P) is h), All-rest P w rest all is h)

-- a worker's work at one end of the queue is that at the other
pub moved_work : {T E : Type 0} (a b : E) (is_seat : E → Pass (Job T) PassState → Type 0) (w : Work T) → a ≡ b → IsWork (is_seat a) w → IsWork (is_seat b) w
moved_work a b is_seat w same h = subst (λ x. IsWork (is_seat x) w) same h
