-- How many blocks an attempt overwrites.
use Rattle.std.proofs.Common.{ℕ, suc, ◌≡◌, ◌≤◌, ◌+◌, Bool, true, false, cond, ◌==◌, ◌||◌, List, [], ◌∷◌, length, Some, None, refl, sym, ap, subst, ◌∙◌, arith}
use Rattle.std.proofs.lemmas.Bool.{false≢true, eqb-true, eq-eqb}
use Rattle.std.proofs.lemmas.Bool.Decides.{nat_tests}
use Rattle.journal_world.specs.declared.address.Addr.{Addr}
use Rattle.journal_world.specs.Addresses.{Value, is_same}
use Rattle.journal_world.specs.Maps.{Pair, SamePairs, value_among}
use Rattle.journal_world.proofs.Lookups.{same_addr}
use Rattle.journal_tail.specs.Writes.{writes_block, written_blocks}

-- how many of some writes are in a block that others are in too
abbrev hits : List Pair → List Pair → ℕ
hits ps [] = 0
hits ps (q ∷ qs) = cond (writes_block ps q.0.block) 1 0 + hits ps qs

hits-few : (ps qs : List Pair) → hits ps qs ≤ length qs
hits-few ps [] = omega arith
hits-few ps (q ∷ qs) = at (writes_block ps q.0.block) (hits-few ps qs)
  where
    at : (b : Bool) → hits ps qs ≤ length qs → cond b 1 0 + hits ps qs ≤ suc (length qs)
    at true few = omega (arith, few)
    at false few = omega (arith, few)

-- with one more write there are no fewer, and one more where its block is new and among them
hits-more : (p : Pair) (ps qs : List Pair) → hits ps qs ≤ hits (p ∷ ps) qs
hits-more p ps [] = omega arith
hits-more p ps (q ∷ qs) = at (p.0.block == q.0.block) (writes_block ps q.0.block) (hits-more p ps qs)
  where
    at : (b c : Bool) → hits ps qs ≤ hits (p ∷ ps) qs → cond c 1 0 + hits ps qs ≤ cond (b || c) 1 0 + hits (p ∷ ps) qs
    at true true more = omega (arith, more)
    at true false more = omega (arith, more)
    at false true more = omega (arith, more)
    at false false more = omega (arith, more)

hits-new : (p : Pair) (ps qs : List Pair) → writes_block ps p.0.block ≡ false → writes_block qs p.0.block ≡ true → hits ps qs + 1 ≤ hits (p ∷ ps) qs
hits-new p ps [] fresh there = absurd (false≢true there)
hits-new p ps (q ∷ qs) fresh there = at (q.0.block == p.0.block) refl (λ later. hits-new p ps qs fresh later) there
  where
    same_block : q.0.block ≡ p.0.block → hits ps (q ∷ qs) + 1 ≤ hits (p ∷ ps) (q ∷ qs)
    same_block same =
        let out : writes_block ps q.0.block ≡ false = ap (writes_block ps) same ∙ fresh in
        let is : (p.0.block == q.0.block) ≡ true = eq-eqb p.0.block q.0.block (sym same) in
        subst (λ (b : Bool). cond b 1 0 + hits ps qs + 1 ≤ cond ((p.0.block == q.0.block) || writes_block ps q.0.block) 1 0 + hits (p ∷ ps) qs) (sym out)
        (subst (λ (b : Bool). cond false 1 0 + hits ps qs + 1 ≤ cond (b || writes_block ps q.0.block) 1 0 + hits (p ∷ ps) qs) (sym is) (omega (arith, hits-more p ps qs)))

    other_block : hits ps qs + 1 ≤ hits (p ∷ ps) qs → (b c : Bool) → cond c 1 0 + hits ps qs + 1 ≤ cond (b || c) 1 0 + hits (p ∷ ps) qs
    other_block more true true = omega (arith, more)
    other_block more true false = omega (arith, more)
    other_block more false true = omega (arith, more)
    other_block more false false = omega (arith, more)

    at : (b : Bool) → (q.0.block == p.0.block) ≡ b → (writes_block qs p.0.block ≡ true → hits ps qs + 1 ≤ hits (p ∷ ps) qs) → (b || writes_block qs p.0.block) ≡ true → hits ps (q ∷ qs) + 1 ≤ hits (p ∷ ps) (q ∷ qs)
    at true same more here = same_block (eqb-true q.0.block p.0.block same)
    at false apart more later = other_block (more later) (p.0.block == q.0.block) (writes_block ps q.0.block)

same_self : (b : Addr) → is_same b b ≡ true
same_self b = grind (arith, nat_tests)

or_left : (b : Bool) (c : Bool) → b ≡ true → (b || c) ≡ true
or_left true c is = refl
or_left false c is = absurd (false≢true is)

or_right : (b : Bool) (c : Bool) → c ≡ true → (b || c) ≡ true
or_right true c is = refl
or_right false c is = is

-- there are no more distinct blocks than hits
written-hits : (ps qs : List Pair) → ((b : ℕ) → writes_block ps b ≡ true → writes_block qs b ≡ true) → written_blocks ps ≤ hits ps qs
written-hits [] qs among = omega arith
written-hits (p ∷ later) qs among = at (writes_block later p.0.block) refl (written-hits later qs (λ b is. among b (or_right (p.0.block == b) (writes_block later b) is)))
  where
    at : (b : Bool) → writes_block later p.0.block ≡ b → written_blocks later ≤ hits later qs → cond b 0 1 + written_blocks later ≤ hits (p ∷ later) qs
    at true again rest = omega (arith, rest, hits-more p later qs)
    at false fresh rest = omega (arith, rest, hits-new p later qs fresh (among p.0.block (or_left (p.0.block == p.0.block) _ (eq-eqb p.0.block p.0.block refl))))

-- an address that is given a value is one of the writes
there_is : (qs : List Pair) (a : Addr) (v : Value) → value_among qs a ≡ Some v → writes_block qs a.block ≡ true
there_is [] a v is = let none : None ≡ Some v = is in cc
there_is (q ∷ qs) a v is = at (is_same a q.0) refl (λ rest. there_is qs a v rest)
  where
    at : (b : Bool) → is_same a q.0 ≡ b → (value_among qs a ≡ Some v → writes_block qs a.block ≡ true) → writes_block (q ∷ qs) a.block ≡ true
    at true same later = or_left (q.0.block == a.block) _ (eq-eqb q.0.block a.block (ap (λ x. x.block) (sym (same_addr a q.0 same))))
    at false other later = or_right (q.0.block == a.block) _ (later (ap (λ t. cond t (Some q.1) (value_among qs a)) (sym other) ∙ is))

-- of each block that is written some address is given a value
is_there : (ps : List Pair) (b : ℕ) → writes_block ps b ≡ true → (a : Addr) × (v : Value) × (a.block ≡ b) × (value_among ps a ≡ Some v)
is_there [] b is = absurd (false≢true is)
is_there (p ∷ ps) b is = at (p.0.block == b) refl (λ later. is_there ps b later) is
  where
    here : p.0.block ≡ b → (a : Addr) × (v : Value) × (a.block ≡ b) × (value_among (p ∷ ps) a ≡ Some v)
    here same = (p.0, p.1, same, ap (λ t. cond t (Some p.1) (value_among ps p.0)) (same_self p.0))

    behind : ((a : Addr) × (v : Value) × (a.block ≡ b) × (value_among ps a ≡ Some v)) → (a : Addr) × (v : Value) × (a.block ≡ b) × (value_among (p ∷ ps) a ≡ Some v)
    behind found = by (is_same found.0 p.0) refl
      where
        by : (t : Bool) → is_same found.0 p.0 ≡ t → (a : Addr) × (v : Value) × (a.block ≡ b) × (value_among (p ∷ ps) a ≡ Some v)
        by true same = (found.0, p.1, found.2, ap (λ t. cond t (Some p.1) (value_among ps found.0)) same)
        by false other = (found.0, found.1, found.2, ap (λ t. cond t (Some p.1) (value_among ps found.0)) other ∙ found.3)

    at : (t : Bool) → (p.0.block == b) ≡ t → (writes_block ps b ≡ true → (a : Addr) × (v : Value) × (a.block ≡ b) × (value_among ps a ≡ Some v)) → (t || writes_block ps b) ≡ true
        → (a : Addr) × (v : Value) × (a.block ≡ b) × (value_among (p ∷ ps) a ≡ Some v)
    at true same rest found = here (eqb-true p.0.block b same)
    at false other rest later = behind (rest later)

-- Writes that give the addresses the same values as these are in no more blocks than these are many
pub written-few : (ps qs : List Pair) → SamePairs ps qs → written_blocks ps ≤ length qs
written-few ps qs same = omega (arith, written-hits ps qs among, hits-few ps qs)
  where
    among : (b : ℕ) → writes_block ps b ≡ true → writes_block qs b ≡ true
    among b is =
        let found = is_there ps b is in
        subst (λ (n : ℕ). writes_block qs n ≡ true) found.2 (there_is qs found.0 found.1 (sym (same found.0) ∙ found.3))
