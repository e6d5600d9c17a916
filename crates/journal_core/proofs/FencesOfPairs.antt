-- What a fence keeps of what ties the two parts, and the fence as a step of the core.
use Rattle.std.proofs.Common.{inl, inr, ⊎_elim, ◌≡◌, ◌+◌, ◌-◌, ◌++◌, max, ℕ, [], ◌∷◌, Result, Ok, Err, OnOk, OnErr, IfErr, refl, sym, ap, subst, ◌∙◌}
use Rattle.journal_world.specs.declared.refusal.Refusal.{Refusal}
use Rattle.journal_world.specs.Addresses.{Shape}
use Rattle.journal_world.specs.Histories.Entry.{fence}
use Rattle.journal_world.proofs.Prefixes.{IsPrefix-trans}
use Rattle.journal_world.proofs.Fences.{floor-fence}
use Rattle.journal_memory.specs.Causes.{CauseState}
use Rattle.journal_memory.specs.Ledgers.{LedgerState}
use Rattle.journal_memory.specs.Fences.{AddsFence, HasFence, SetsFence}
use Rattle.journal_parts.specs.Durables.{DurableState}
use Rattle.journal_memory.specs.Volatiles.{VolatileState}
use Rattle.journal_parts.specs.Pairs.{Tied}
use Rattle.journal_parts.specs.CoreStates.{CoreState, Crashes}
use Rattle.journal_parts.specs.CoreParts.{IsPair, core_of}
use Rattle.journal_core.specs.FenceSteps.{IsFenceRefusal, AnswersFence, SetsFence as SetsInCore}
use Rattle.journal_memory.proofs.Fencing.{volatile_fenced}

-- what ties the two parts, and what each of them keeps
module _ (layout : Shape) (v : VolatileState) (d : DurableState) (pair : IsPair layout v d) where
  tied_fenced : (session next : ℕ) → Tied (record v { ledger = record v.ledger { history = v.ledger.history ++ fence session ∷ []; next = next } }) d
  tied_fenced session next = record {
    begins = IsPrefix-trans d.front v.ledger.history (v.ledger.history ++ fence session ∷ []) pair.tied.begins (fence session ∷ [], refl);
    marked = floor-fence v.ledger.history session ∙ pair.tied.marked;
    trimmed = pair.tied.trimmed;
    cut = pair.tied.cut;
    position = pair.tied.position;
    logged = pair.tied.logged;
  }

  pair_added : (session next : ℕ) → IsPair layout (record v { ledger = record v.ledger { history = v.ledger.history ++ fence session ∷ []; next = next } }) d
  pair_added session next = record {
    volatile = volatile_fenced layout v pair.volatile session next;
    durable = pair.durable;
    tied = tied_fenced session next;
    fault = pair.fault;
  }

  pair_set : (session : ℕ) (w : VolatileState) → w ≡ record v { ledger = w.ledger } → SetsFence session v.ledger w.ledger → IsPair layout w d
  pair_set session w others did = subst (λ (x : VolatileState). IsPair layout x d) (sym others) (⊎_elim
      (λ (adds : AddsFence session v.ledger w.ledger).
      subst (λ (m : LedgerState). IsPair layout (record v { ledger = m }) d) (sym adds.fenced) (pair_added session (max v.ledger.next (session + 1))))
      (λ (has : HasFence session v.ledger w.ledger). subst (λ (m : LedgerState). IsPair layout (record v { ledger = m }) d) (sym has.same) pair)
      did)

  pub pair_fenced : {T E : Type 0} (session : ℕ) (w : VolatileState) (r : Result T E) → w ≡ record v { ledger = w.ledger } → OnOk r (SetsFence session v.ledger w.ledger)
      → OnErr r (w ≡ v) → IsPair layout w d
  pair_fenced session w (Ok value) others did same = pair_set session w others did
  pair_fenced session w (Err why) others did same = subst (λ (x : VolatileState). IsPair layout x d) (sym same) pair

  -- the same as a step of the core
  set_in_core : (session : ℕ) (w : VolatileState) → w ≡ record v { ledger = w.ledger } → SetsFence session v.ledger w.ledger → SetsInCore session (core_of v d) (core_of w d)
  set_in_core session w others did = ⊎_elim
      (λ (adds : AddsFence session v.ledger w.ledger). inl (record {
        free = adds.free;
        fenced = ap (λ (x : VolatileState). core_of x d) (others ∙ ap (λ (m : LedgerState). record v { ledger = m }) adds.fenced);
      }))
      (λ (has : HasFence session v.ledger w.ledger). inr (record {
        stands = has.stands;
        same = ap (λ (x : VolatileState). core_of x d) (others ∙ ap (λ (m : LedgerState). record v { ledger = m }) has.same);
      }))
      did

  pub fenced_in_core : {T E : Type 0} (session : ℕ) (w : VolatileState) (now : CoreState) (r : Result T E) → core_of v d ≡ now → w ≡ record v { ledger = w.ledger }
      → OnOk r (SetsFence session v.ledger w.ledger) → OnOk r (SetsInCore session now (core_of w d))
  fenced_in_core session w now (Ok value) is others did = subst (λ (c : CoreState). SetsInCore session c (core_of w d)) is (set_in_core session w others did)
  fenced_in_core session w now (Err why) is others did = tt

-- what is answered, as one event
pub answers_fence : (session : ℕ) (old new : CoreState) (r : Result (Unit {0}) (Refusal CauseState)) → Crashes old new → OnOk r (SetsInCore session old new)
    → IfErr r (IsFenceRefusal session old) → OnErr r (new ≡ old) → AnswersFence session old r new
answers_fence session old new (Ok done) crash did refusal same = record { did = did; crash = crash }
answers_fence session old new (Err why) crash did refusal same = record { refusal = refusal; same = same; crash = crash }
