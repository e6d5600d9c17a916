-- What lists of pairs give, one behind another.
use Rattle.std.proofs.Common.{◌≡◌, Bool, true, false, cond, List, [], ◌∷◌, ◌++◌, Option, Some, None, refl, sym, ap, ◌∙◌}
use Rattle.journal_world.specs.declared.address.Addr.{Addr}
use Rattle.journal_world.specs.Addresses.{is_same}
use Rattle.journal_world.specs.Maps.{Pair, SamePairs, value_among}
use Rattle.journal_records.specs.declared.request.Part.{Part}
use Rattle.journal_port.specs.Requests.{if_compared, if_written, compared, written}

abbrev pub or_else : {A : Type 0} → Option A → Option A → Option A
or_else None p = p
or_else (Some x) p = Some x

pub among_append : (ps qs : List Pair) (a : Addr) → value_among (ps ++ qs) a ≡ or_else (value_among ps a) (value_among qs a)
among_append [] qs a = refl
among_append (p ∷ ps) qs a = by_test (is_same a p.0) (among_append ps qs a)
  where
    by_test : (b : Bool) → value_among (ps ++ qs) a ≡ or_else (value_among ps a) (value_among qs a)
        → cond b (Some p.1) (value_among (ps ++ qs) a) ≡ or_else (cond b (Some p.1) (value_among ps a)) (value_among qs a)
    by_test true rest = refl
    by_test false rest = rest

-- the same pairs before others
pub SamePairs-behind : (ps qs rs : List Pair) → SamePairs qs rs → SamePairs (ps ++ qs) (ps ++ rs)
SamePairs-behind ps qs rs same a = among_append ps qs a ∙ ap (or_else (value_among ps a)) (same a) ∙ sym (among_append ps rs a)

append_assoc : {A : Type 0} (xs ys zs : List A) → (xs ++ ys) ++ zs ≡ xs ++ (ys ++ zs)
append_assoc [] ys zs = refl
append_assoc (x ∷ xs) ys zs = ap (λ l. x ∷ l) (append_assoc xs ys zs)

append_nil : {A : Type 0} (xs : List A) → xs ++ [] ≡ xs
append_nil [] = refl
append_nil (x ∷ xs) = ap (λ l. x ∷ l) (append_nil xs)

pub compared_append : (ps qs : List Part) → compared (ps ++ qs) ≡ compared qs ++ compared ps
compared_append [] qs = sym (append_nil (compared qs))
compared_append (p ∷ ps) qs = ap (λ l. l ++ if_compared p.action (p.addr, p.value)) (compared_append ps qs) ∙ append_assoc (compared qs) (compared ps) (if_compared p.action (p.addr, p.value))

pub written_append : (ps qs : List Part) → written (ps ++ qs) ≡ written qs ++ written ps
written_append [] qs = sym (append_nil (written qs))
written_append (p ∷ ps) qs = ap (λ l. l ++ if_written p.action (p.addr, p.value)) (written_append ps qs) ∙ append_assoc (written qs) (written ps) (if_written p.action (p.addr, p.value))

-- pairs that were put before those that were put before others
pub put_before : (new middle old ps qs : List Pair) → SamePairs new (qs ++ middle) → SamePairs middle (ps ++ old) → SamePairs new ((qs ++ ps) ++ old)
put_before new middle old ps qs last first a =
    last a ∙ SamePairs-behind qs middle (ps ++ old) first a ∙ ap (λ l. value_among l a) (sym (append_assoc qs ps old))
