-- How times grow.
use Rattle.std.proofs.Common.{◌≡◌, ◌≢◌, ◌+◌, ◌==◌, Bool, true, false, ◌&&◌, refl, sym, ap, subst, arith, ◌⊎◌, inl, inr, ◌∙◌}
use Rattle.std.specs.Prelude.{nat_lt, if◌then◌else◌}
use Rattle.std.proofs.lemmas.Bool.{and_parts, and_from, or_cases, ltb-true, ltb-false, eqb-true, eq-eqb, true≢false}
use Rattle.journal_tree.specs.declared.time.TheConstants.{NANOS, LAST_SECOND}
use Rattle.journal_tree.specs.declared.time.Time.{Time}
use Rattle.journal_tree.specs.declared.reply.Attributes.{Attributes}
use Rattle.journal_tree.specs.Times.{IsBefore, LAST_TIME, IsTime, is_before, is_same_time, following, time_of_change, time_of_names}
use Rattle.journal_tree.proofs.Bounds.{change-fits}

pub time_same : (t u : Time) → t.secs ≡ u.secs → t.nanos ≡ u.nanos → t ≡ u
time_same t u a b = λ i. record { secs = a i; nanos = b i }

pub before-then : (t u v : Time) → IsBefore t u → IsBefore u v → IsBefore t v
before-then t u v (inl a) (inl b) = inl (omega (arith, a, b))
before-then t u v (inl a) (inr b) = let e = b.0 in inl (omega (arith, a, e))
before-then t u v (inr a) (inl b) = let e = a.0 in inl (omega (arith, e, b))
before-then t u v (inr a) (inr b) = let e = a.1 in let f = b.1 in inr (a.0 ∙ b.0, omega (arith, e, f))

-- no time is before itself
pub not_before : (t : Time) → IsBefore t t → ⊥
not_before t (inl a) = absurd (omega (arith, a))
not_before t (inr a) = let e = a.1 in absurd (omega (arith, e))

before-since : (t u : Time) → is_before t u ≡ true → IsBefore t u
before-since t u is = by (or_cases (nat_lt t.secs u.secs) (t.secs == u.secs && nat_lt t.nanos u.nanos) is)
  where
    by : (nat_lt t.secs u.secs ≡ true) ⊎ ((t.secs == u.secs && nat_lt t.nanos u.nanos) ≡ true) → IsBefore t u
    by (inl less) = inl (ltb-true t.secs u.secs less)
    by (inr both) = let p = and_parts (t.secs == u.secs) (nat_lt t.nanos u.nanos) both in inr (eqb-true t.secs u.secs p.0, ltb-true t.nanos u.nanos p.1)

pub following-after : (t : Time) → IsTime t → IsBefore t (following t) ⊎ ((t ≡ LAST_TIME) × (following t ≡ t))
following-after t fit = by (nat_lt (t.nanos + 1) NANOS) refl (nat_lt t.secs LAST_SECOND) refl
  where
    next : Bool → Bool → Time
    next b e = if b then record { secs = t.secs; nanos = t.nanos + 1 } else if e then record { secs = t.secs + 1; nanos = 0 } else t

    by : (b : Bool) → nat_lt (t.nanos + 1) NANOS ≡ b → (e : Bool) → nat_lt t.secs LAST_SECOND ≡ e → IsBefore t (next b e) ⊎ ((t ≡ LAST_TIME) × (next b e ≡ t))
    by true is e at = inl (inr (refl, omega arith))
    by false is true at = inl (inl (omega arith))
    by false is false at =
        let l = ltb-false t.secs LAST_SECOND at in
        let m = ltb-false (t.nanos + 1) NANOS is in
        let f = fit.0 in
        let g = fit.1 in
        inr (time_same t LAST_TIME (omega (arith, l, f)) (omega (arith, m, g)), refl)

-- a change is after the last one
pub change-after : (last now : Time) → IsTime last → IsTime now → IsBefore last (time_of_change last now) ⊎ ((last ≡ LAST_TIME) × (time_of_change last now ≡ LAST_TIME))
change-after last now fit moment = by (is_before last now) refl (following-after last fit)
  where
    by : (b : Bool) → is_before last now ≡ b → IsBefore last (following last) ⊎ ((last ≡ LAST_TIME) × (following last ≡ last))
        → IsBefore last (if b then now else following last) ⊎ ((last ≡ LAST_TIME) × ((if b then now else following last) ≡ LAST_TIME))
    by true is _ = inl (before-since last now is)
    by false is (inl after) = inl after
    by false is (inr end) = inr (end.0, end.1 ∙ end.0)

-- and so is one of a directory's names
pub names-after : (a : Attributes) (now : Time) → IsTime a.ctime → IsTime now → IsBefore a.ctime (time_of_names a now) ⊎ ((a.ctime ≡ LAST_TIME) × (time_of_names a now ≡ LAST_TIME))
names-after a now fit moment = by (is_same_time t a.mtime) (change-after a.ctime now fit moment) (following-after t (change-fits a.ctime now fit moment))
  where
    t : Time
    t = time_of_change a.ctime now

    by : (b : Bool) → IsBefore a.ctime (time_of_change a.ctime now) ⊎ ((a.ctime ≡ LAST_TIME) × (time_of_change a.ctime now ≡ LAST_TIME))
        → IsBefore (time_of_change a.ctime now) (following (time_of_change a.ctime now)) ⊎ ((time_of_change a.ctime now ≡ LAST_TIME) × (following (time_of_change a.ctime now) ≡ time_of_change a.ctime now))
        → IsBefore a.ctime (if b then following (time_of_change a.ctime now) else time_of_change a.ctime now)
        ⊎ ((a.ctime ≡ LAST_TIME) × ((if b then following (time_of_change a.ctime now) else time_of_change a.ctime now) ≡ LAST_TIME))
    by false after next = after
    by true (inl after) (inl next) = inl (before-then a.ctime (time_of_change a.ctime now) (following (time_of_change a.ctime now)) after next)
    by true (inl after) (inr end) = inl (subst (IsBefore a.ctime) (sym end.1) after)
    by true (inr end) (inl next) = inl (subst (λ (t : Time). IsBefore t (following (time_of_change a.ctime now))) (end.1 ∙ sym end.0) next)
    by true (inr end) (inr stays) = inr (end.0, stays.1 ∙ end.1)

-- the mtime of a change of names is another
pub names-mtime : (a : Attributes) (now : Time) → IsTime a.ctime → IsTime now → (a.mtime ≢ time_of_names a now) ⊎ (time_of_names a now ≡ LAST_TIME)
names-mtime a now fit moment = by (is_same_time (time_of_change a.ctime now) a.mtime) refl (following-after (time_of_change a.ctime now) (change-fits a.ctime now fit moment))
  where
    same_time : (t u : Time) → is_same_time t u ≡ true → t ≡ u
    same_time t u is = let p = and_parts (t.secs == u.secs) (t.nanos == u.nanos) is in time_same t u (eqb-true t.secs u.secs p.0) (eqb-true t.nanos u.nanos p.1)

    other_time : (t u : Time) → is_same_time t u ≡ false → u ≡ t → ⊥
    other_time t u is e = true≢false (sym (and_from (t.secs == u.secs) (t.nanos == u.nanos) (eq-eqb t.secs u.secs (ap (λ (t : Time). t.secs) (sym e))) (eq-eqb t.nanos u.nanos (ap (λ (t : Time). t.nanos) (sym e)))) ∙ is)

    by : (b : Bool) → is_same_time (time_of_change a.ctime now) a.mtime ≡ b
        → IsBefore (time_of_change a.ctime now) (following (time_of_change a.ctime now)) ⊎ ((time_of_change a.ctime now ≡ LAST_TIME) × (following (time_of_change a.ctime now) ≡ time_of_change a.ctime now))
        → (a.mtime ≢ (if b then following (time_of_change a.ctime now) else time_of_change a.ctime now))
        ⊎ ((if b then following (time_of_change a.ctime now) else time_of_change a.ctime now) ≡ LAST_TIME)
    by false is next = inl (other_time (time_of_change a.ctime now) a.mtime is)
    by true is (inl next) = inl (λ e. not_before (time_of_change a.ctime now) (subst (IsBefore (time_of_change a.ctime now)) (sym e ∙ sym (same_time (time_of_change a.ctime now) a.mtime is)) next))
    by true is (inr end) = inr (end.1 ∙ end.0)
