-- One write takes one block.
use Rattle.std.proofs.Common.{◌≡◌, ◌≤◌, ◌||◌, Bool, true, false, cond, List, [], ◌∷◌, length, refl, sym, ap, subst, ◌∙◌, arith, ◌+◌}
use Rattle.journal_world.specs.Maps.{Pair, SamePairs}
use Rattle.journal_block.specs.declared.update.Update.{Update}
use Rattle.journal_memlog.specs.Logs.{absorbed}
use Rattle.journal_tail.specs.Writes.{writes_block, written_blocks, fresh_among}
use Rattle.journal_attempts.proofs.Few.{written-few}

or-false : (b : Bool) → (b || false) ≡ b
or-false true = refl
or-false false = refl

fresh-written : (ps : List Pair) → fresh_among [] ps ≡ written_blocks ps
fresh-written [] = refl
fresh-written (p ∷ ps) = ap (λ b. cond b 0 1 + fresh_among [] ps) (or-false (writes_block ps p.0.block)) ∙ ap (λ n. cond (writes_block ps p.0.block) 0 1 + n) (fresh-written ps)

-- writes of one address are in one block
pub written-one : (ps : List Pair) (q : Pair) → SamePairs ps (q ∷ []) → written_blocks ps ≤ 1
written-one ps q same = written-few ps (q ∷ []) same

pub fresh-one : (tail : List Update) (ps : List Pair) (q : Pair) → tail ≡ [] → SamePairs ps (q ∷ []) → fresh_among tail ps ≤ 1
fresh-one tail ps q empty same = subst (λ n. n ≤ 1) (sym (ap (λ t. fresh_among t ps) empty ∙ fresh-written ps)) (written-one ps q same)

-- and one update, or none, makes a tail of one, or of none
pub absorbed-one : (tail updates : List Update) → tail ≡ [] → length updates ≤ 1 → length (absorbed tail updates) ≤ 1
absorbed-one tail updates empty few = subst (λ t. length (absorbed t updates) ≤ 1) (sym empty) (one updates few)
  where
    one : (us : List Update) → length us ≤ 1 → length (absorbed [] us) ≤ 1
    one [] le = omega arith
    one (u ∷ []) le = omega arith
    one (u ∷ v ∷ us) le = absurd (omega (arith, le))
