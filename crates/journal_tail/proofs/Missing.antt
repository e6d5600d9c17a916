-- The blocks that writes need and memory does not know.
use Rattle.std.proofs.Common.{◌≡◌, ◌==◌, ◌&&◌, ◌||◌, not, ℕ, Bool, true, false, cond, List, [], ◌∷◌, ◌++◌, reverse, Option, Some, None, refl, sym, ap, subst, ◌∙◌, append_assoc}
use Rattle.std.proofs.lemmas.Bool.{eq-eqb, eqb-true, false≢true}
use Rattle.std.proofs.lemmas.List.{reverse-append}
use Rattle.journal_world.specs.declared.address.Kind.{Kind}
use Rattle.journal_world.specs.declared.address.Kind.TheVariants.{Bit, Record, Block}
use Rattle.journal_world.specs.Addresses.{Shape, kind_of}
use Rattle.journal_world.specs.Maps.{Pair}
use Rattle.journal_world.specs.Orders.{HasAscendingBlocks}
use Rattle.journal_block.specs.declared.update.Update.{Update}
use Rattle.journal_block.specs.Updates.{updates_block}
use Rattle.journal_tail.specs.Writes.{writes_block}
use Rattle.journal_tail.specs.Staging.{IsAboveNone, first_block}
use Rattle.journal_tail.specs.ObjectTails.{is_one_object, is_missing, missing_blocks, HasBlocks}
use Rattle.journal_tail.proofs.Ascending.{not_first, is_first, ascending_later}
use Rattle.journal_tail.proofs.Fetched.{or_right}

-- Of one block

pub missing_parts : (n : Shape) (known : List Update) (b : ℕ) → (kind_of n b ≡ Some Block → ⊥) → is_missing n known b ≡ not (updates_block known b)
missing_parts n known b other = ap (λ (t : Bool). t && not (updates_block known b)) (by (kind_of n b) other)
  where
    by : (k : Option Kind) → (k ≡ Some Block → ⊥) → not (is_one_object k) ≡ true
    by None other = refl
    by (Some Bit) other = refl
    by (Some (Record size)) other = refl
    by (Some Block) other = absurd (other refl)

not_false : (t : Bool) → not t ≡ false → t ≡ true
not_false true is = refl
not_false false is = absurd (false≢true (sym is))

pub present_named : (n : Shape) (known : List Update) (b : ℕ) → is_missing n known b ≡ false → (kind_of n b ≡ Some Block → ⊥) → updates_block known b ≡ true
present_named n known b here other = not_false (updates_block known b) (sym (missing_parts n known b other) ∙ here)

-- Of all that are written

skipped : (m t : Bool) (b : ℕ) (bs : List ℕ) → t ≡ true → cond (m && not t) (b ∷ bs) bs ≡ bs
skipped true true b bs is = refl
skipped false true b bs is = refl
skipped m false b bs is = absurd (false≢true is)

taken : (m t : Bool) (b : ℕ) (bs : List ℕ) → m ≡ true → t ≡ false → cond (m && not t) (b ∷ bs) bs ≡ b ∷ bs
taken true false b bs m_is t_is = refl
taken true true b bs m_is t_is = absurd (false≢true (sym t_is))
taken false t b bs m_is t_is = absurd (false≢true m_is)

none_later : (m t : Bool) (b : ℕ) (bs : List ℕ) → cond (m && not t) (b ∷ bs) bs ≡ [] → bs ≡ []
none_later true true b bs none = none
none_later true false b bs none = let impossible : ⊥ = cc in absurd impossible
none_later false t b bs none = none

none_here : (m t : Bool) (b : ℕ) (bs : List ℕ) → cond (m && not t) (b ∷ bs) bs ≡ [] → (t ≡ true → m ≡ false) → m ≡ false
none_here true true b bs none later = later refl
none_here true false b bs none later = let impossible : ⊥ = cc in absurd impossible
none_here false t b bs none later = refl

none_at : (n : Shape) (known : List Update) (p : Pair) (ws : List Pair) → missing_blocks n known (p ∷ ws) ≡ [] → HasBlocks n known ws → HasBlocks n known (p ∷ ws)
none_at n known p ws none rest b named = by (p.0.block == b) refl named
  where
    first : is_missing n known p.0.block ≡ false
    first = none_here (is_missing n known p.0.block) (writes_block ws p.0.block) p.0.block (missing_blocks n known ws) none (rest p.0.block)

    by : (same : Bool) → (p.0.block == b) ≡ same → (same || writes_block ws b) ≡ true → is_missing n known b ≡ false
    by true same is = subst (λ (c : ℕ). is_missing n known c ≡ false) (eqb-true p.0.block b same) first
    by false same is = rest b is

-- where none is missing, memory knows what each write needs
pub none_missing : (n : Shape) (known : List Update) (ws : List Pair) → missing_blocks n known ws ≡ [] → HasBlocks n known ws
none_missing n known [] none = λ b named. absurd (false≢true named)
none_missing n known (p ∷ ws) none = none_at n known p ws none
    (none_missing n known ws (none_later (is_missing n known p.0.block) (writes_block ws p.0.block) p.0.block (missing_blocks n known ws) none))

pub written_there : (left : List Pair) (p : Pair) (done : List Pair) → writes_block (left ++ p ∷ done) p.0.block ≡ true
written_there [] p done = ap (λ (t : Bool). t || writes_block done p.0.block) (eq-eqb p.0.block p.0.block refl)
written_there (q ∷ left) p done = or_right (q.0.block == p.0.block) (writes_block (left ++ p ∷ done) p.0.block) (written_there left p done)

-- Listing them, from the last write on

pub record IsListed (n : Shape) (known : List Update) (writes left done : List Pair) (last : Option ℕ) (blocks : List ℕ) : Type 0 where
  pub split : writes ≡ left ++ done
  pub newest : last ≡ first_block done
  pub listed : reverse blocks ≡ missing_blocks n known done

module _ (n : Shape) (known : List Update) (writes left rest done : List Pair) (p : Pair) (last : Option ℕ) (blocks : List ℕ)
    (ascending : HasAscendingBlocks writes) (took : left ≡ rest ++ p ∷ []) (so : IsListed n known writes left done last blocks) where
  split : writes ≡ rest ++ p ∷ done
  split = so.split ∙ ap (λ (ws : List Pair). ws ++ done) took ∙ append_assoc rest (p ∷ []) done

  below : IsAboveNone p.0.block done × HasAscendingBlocks done
  below = ascending_later rest p done (subst HasAscendingBlocks split ascending)

  pub listed_first : last ≡ Some p.0.block → IsListed n known writes rest (p ∷ done) last blocks
  listed_first is = record {
    split = split;
    newest = is;
    listed = so.listed
        ∙ sym (skipped (is_missing n known p.0.block) (writes_block done p.0.block) p.0.block (missing_blocks n known done)
        (is_first p.0.block done (sym so.newest ∙ is)));
  }

  pub listed_missing : (last ≡ Some p.0.block → ⊥) → is_missing n known p.0.block ≡ true → (more : List ℕ) → more ≡ blocks ++ p.0.block ∷ []
      → IsListed n known writes rest (p ∷ done) (Some p.0.block) more
  listed_missing other is more pushed = record {
    split = split;
    newest = refl;
    listed = ap reverse pushed
        ∙ reverse-append blocks (p.0.block ∷ [])
        ∙ ap (λ (bs : List ℕ). p.0.block ∷ bs) so.listed
        ∙ sym (taken (is_missing n known p.0.block) (writes_block done p.0.block) p.0.block (missing_blocks n known done) is unnamed);
  }
    where
      unnamed : writes_block done p.0.block ≡ false
      unnamed = not_first p.0.block done below.1 below.0 (λ first. other (so.newest ∙ first))
